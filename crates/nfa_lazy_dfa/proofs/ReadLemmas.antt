-- Which bytes the parts of a scan have counted, one after the other.
use Rattle.nfa_paths.proofs.Common.{◌≡◌, ℕ, ◌+◌, ◌-◌, ◌≤◌, inl, inr, Bool, false, length, refl, sym, subst, arith, Search, starts}
use Rattle.nfa_lazy_dfa.specs.Configurations.{IsDead, scanned}
use Rattle.nfa_lazy_dfa.specs.Reads.{HasRead, HasReadSpan, IsOver}
use Rattle.nfa_lazy_dfa.specs.Rows.{steps_of}
use Rattle.nfa_lazy_dfa.specs.declared.cache.Cache.{Cache}
use Rattle.nfa_lazy_dfa.specs.declared.dfa.DFA.{DFA}

module _ (MayEnd : ℕ → Type 0) where
  -- a part that counted each byte before a position, and then the rest
  pub HasRead-more : (a b c : Cache) (from mid : ℕ) → from ≤ mid → steps_of a + (mid - from) ≤ steps_of b
      → HasRead MayEnd b c mid → HasRead MayEnd a c from
  HasRead-more a b c from mid low counts rest =
      let up : mid ≤ rest.to = rest.low in
      record {
        to = rest.to;
        low = omega arith;
        over = rest.over;
        steps = omega (arith, rest.steps);
      }

-- a scan without a start is over where it begins
pub IsOver-none : (dfa : DFA) (x : Search) → length (starts dfa.nfa x) ≡ 0 → IsOver dfa x x.start
IsOver-none dfa x none =
    let zero : x.start - x.start ≡ 0 = omega arith in
    inr (inl (subst (λ (n : ℕ). IsDead (scanned dfa.nfa x dfa.kind x.earliest n)) (sym zero)
    (record { states = refl; starts = none })))

-- a scan that counted nothing, since it is over where it begins
pub HasRead-none : (MayEnd : ℕ → Type 0) (a b : Cache) (at : ℕ) → MayEnd at → steps_of a ≤ steps_of b
    → HasRead MayEnd a b at
HasRead-none MayEnd a b at over grows = record { to = at; low = omega arith; over = over; steps = omega arith }

-- the only scan of a search
pub HasReadSpan-one : (a b : Cache) (dfa : DFA) (x : Search) → HasRead (IsOver dfa x) a b x.start
    → HasReadSpan a b dfa x
HasReadSpan-one a b dfa x reads = record { last = x; raises = refl; low = omega arith; reads = reads }

-- the same after something that counts no step
pub HasReadSpan-more : (a b c : Cache) (dfa : DFA) (x : Search) → steps_of b ≡ steps_of a → HasReadSpan b c dfa x
    → HasReadSpan a c dfa x
HasReadSpan-more a b c dfa x same span =
    let at = span.last.start in
    record {
      last = span.last;
      raises = span.raises;
      low = span.low;
      reads = HasRead-more (IsOver dfa span.last) a b c at at (omega arith) (omega arith) span.reads;
    }

-- the scan for a set goes on after a match
pub IsOver-late : (dfa : DFA) (x : Search) (at : ℕ) → x.earliest ≡ false → IsOver dfa x at
    → IsOver dfa (record x { earliest = false }) at
IsOver-late dfa x at late over = subst (λ (e : Bool). IsOver dfa (record x { earliest = e }) at) late over
