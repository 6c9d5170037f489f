-- What searches of a regex cost the engines of its choice.
use Rattle.nfa_paths.proofs.Common.{le-max_left, length, mul-le-mul_left, mul-le-mul_right, none-some, ◌≡◌, ◌∙◌, ℕ, ◌+◌, ◌≤◌, ◌⊎◌, Bool, false, ap, inl, inr, refl, subst, arith, ◌&&◌, not, None, Some, Search, is_anchored, MatchKind, Automaton, span_len, max_scan_turns, max_scans, total_degree}
use Rattle.nfa_paths.specs.Starts.{IsUnbound, MatchesNothing}
use Rattle.nfa_search_base.proofs.StepLemmas.{chosen}
use Rattle.nfa_backtrack.specs.Backtrack.{GrowsBlocks, HoldsNoMore}
use Rattle.nfa_engines.specs.IterationLaws.{AddsAtMost, Totals, backtracker_totals, pike_totals}
use Rattle.nfa_engines.proofs.EngineWorkLemmas.{Worked}
use Rattle.nfa_engines.proofs.MatchLemmas.{half-unique}
use Rattle.nfa_engines.proofs.ReachLemmas.{one-scan}
use Rattle.nfa_choice.specs.ChoiceState.{AreWithinBounds, ChoiceState, RunsByRule, is_for_backtracker, kind_in}
use Rattle.nfa_choice.specs.Iterations.{by_rule}
use Rattle.nfa_choice.specs.WorkLaws.{ChoiceAddsAtMost}
use Rattle.nfa_choice.specs.declared.choose.Engine.{Engine}
use Rattle.nfa_choice.proofs.WorkLemmas.{Does, DoesBy, back_in, back-runs, pike_in, pike-runs}
use Rattle.nfa_facts.proofs.PrefixLemmas.{nothing-half}
use Rattle.nfa_meta.specs.RegexState.{KeepsRegex, RegexState}
use Rattle.nfa_meta.specs.WindowRuns.{EndsAtMatch, IsWindowOf, RunsAfterDfa, RunsByWindow, by_ends, by_window}
use Rattle.nfa_meta.specs.Work.{WorksWithin}
use Rattle.nfa_meta.proofs.RegexLemmas.{regex_self, regex_then}

by-more : (a b c : ℕ) → a ≤ b → b ≤ c → a ≤ c
by-more a b c less more = omega arith

-- a search of a window does no more than one of the span may
module _ (nfa : Automaton) (kind : MatchKind) (y v : Search) (is : IsWindowOf nfa y v) (old new : Totals) where
  window-worked : Worked nfa kind v.earliest v old new → Worked nfa kind y.earliest y old new
  window-worked w =
      let whole = is.windowed.unbound.anywhere in
      let never = ap (λ (b : Bool). b && not (is_anchored v.anchored)) whole in
      let one : w.count ≤ 1 = one-scan nfa v w.count never w.bounded.scans in
      let from = is.from in
      let to = is.to in
      let short : span_len v + 1 ≤ span_len y + 1 = omega (arith, from, to) in
      let each = mul-le-mul_left (1 + total_degree nfa) short in
      record {
        count = w.count;
        turned = w.turned;
        bounded = record {
          within = λ restarts path answers. omega (arith, one);
          scans = rw whole one;
          turns = by-more w.turned _ _ w.bounded.turns (mul-le-mul_left w.count each);
        };
        scans = w.scans;
        turns = w.turns;
      }

  window-does : Worked nfa kind v.earliest v old new ⊎ (new ≡ old) → Worked nfa kind y.earliest y old new ⊎ (new ≡ old)
  window-does (inl w) = inl (window-worked w)
  window-does (inr same) = inr same

-- so is what a search by windows does
by-windows : (totals : ChoiceState → Totals) → DoesBy totals by_rule → DoesBy totals by_window
by-windows totals runs y s t (inl (inl same)) = inr (ap totals same)
by-windows totals runs y s t (inl (inr ran)) = runs y s.choice t.choice ran.runs
by-windows totals runs y s t (inr (inr ran)) = runs y s.choice t.choice ran.runs
by-windows totals runs y s t (inr (inl w)) =
    window-does s.choice.nfa (kind_in s.choice) y w.window w.is (totals s.choice) (totals t.choice)
    (runs w.window s.choice t.choice w.runs)

-- by the totals of either cache
pub back-windows : DoesBy back_in by_window
back-windows = by-windows back_in back-runs

pub pike-windows : DoesBy pike_in by_window
pike-windows = by-windows pike_in pike-runs

-- so is what one for half matches does
pub back-ends : DoesBy back_in by_ends
back-ends y s t runs = back-windows y s t (inl runs)

pub pike-ends : DoesBy pike_in by_ends
pike-ends y s t runs = pike-windows y s t (inl runs)

-- the work of one search is within its bounds
does-within : (totals : ChoiceState → Totals) (y : Search) (s t : ChoiceState) → Does totals y s t
    → AddsAtMost (max_scans s.nfa y) s.nfa y (totals s) (totals t)
does-within totals y s t (inl w) = record {
  scans = omega (arith, w.scans, w.bounded.scans);
  turns = let each = mul-le-mul_right (max_scan_turns s.nfa y) w.bounded.scans in
      omega (arith, w.turns, w.bounded.turns, each);
}
does-within totals y s t (inr same) = record {
  scans = rw same (omega arith);
  turns = rw same (omega arith);
}

-- so is that of a search by the rule, whatever its flag
module _ (c : ChoiceState) (x : Search) (earliest : Bool) (d : ChoiceState) where
  abbrev Within : (ChoiceState → Totals) → Type 0
  Within totals = AddsAtMost (max_scans c.nfa x) c.nfa x (totals c) (totals d)

  bounded-within : (old new : Totals) (scans turns : ℕ) → AreWithinBounds c.nfa x scans turns
      → new.scans ≡ old.scans + scans → new.turns ≡ old.turns + turns → AddsAtMost (max_scans c.nfa x) c.nfa x old new
  bounded-within old new scans turns bounds scanned turned = record {
    scans = omega (arith, scanned, bounds.scans);
    turns = let each = mul-le-mul_right (max_scan_turns c.nfa x) bounds.scans in
        omega (arith, turned, bounds.turns, each);
  }

  rule-within : RunsByRule c x earliest d → Within back_in × Within pike_in
  rule-within runs = elim (chosen (is_for_backtracker c x) runs) [
    | inl p ↦ elim p.1 [
      | inl h ↦ (
        bounded-within (back_in c) (back_in d) d.back.scans d.back.turns h.bounded h.work.scans h.work.turns,
        does-within pike_in x c d (inr (ap pike_totals h.pike)),
      )
      | inr h ↦ (
        bounded-within (back_in c) (back_in d) d.back.scans d.back.turns h.tried_bounded h.tried.scans h.tried.turns,
        bounded-within (pike_in c) (pike_in d) d.pike.scans d.pike.turns h.bounded h.work.scans h.work.turns,
      )
    ]
    | inr p ↦ (
      does-within back_in x c d (inr (ap backtracker_totals p.1.back)),
      bounded-within (pike_in c) (pike_in d) d.pike.scans d.pike.turns p.1.bounded p.1.work.scans p.1.work.turns,
    )
  ]

-- the blocks of marks do not grow where the backtracker does not search
grows-none : (nfa : Automaton) (x : Search) (blocks : ℕ) → GrowsBlocks nfa x blocks blocks
grows-none nfa x blocks = record { kept = omega arith; needed = le-max_left blocks _ }

-- a search of a part of the span needs no more of them
grows-within : (nfa : Automaton) (x y : Search) (old new : ℕ) → span_len y ≤ span_len x → GrowsBlocks nfa y old new
    → GrowsBlocks nfa x old new
grows-within nfa x y old new short grows =
    let longer : span_len y + 1 ≤ span_len x + 1 = omega (arith, short) in
    let pairs = mul-le-mul_left (length nfa.states) longer in
    record { kept = grows.kept; needed = grind (arith, grows.needed, pairs) }

-- so does one after another
grows-then : (nfa : Automaton) (x : Search) (a b c : ℕ) → GrowsBlocks nfa x a b → GrowsBlocks nfa x b c
    → GrowsBlocks nfa x a c
grows-then nfa x a b c f g = grind (arith, f, g)

-- how they grow in a search by the rule
rule-grows : (c : ChoiceState) (x : Search) (earliest : Bool) (d : ChoiceState) → RunsByRule c x earliest d
    → GrowsBlocks c.nfa x c.back.blocks d.back.blocks
rule-grows c x earliest d runs = elim (chosen (is_for_backtracker c x) runs) [
  | inl p ↦ elim p.1 [
    | inl h ↦ h.blocks
    | inr h ↦ h.blocks
  ]
  | inr p ↦ rw p.1.back (grows-none c.nfa x c.back.blocks)
]

-- and in one after a stop of the lazy DFA
after-grows : (x : Search) (earliest : Bool) (s t : RegexState) → RunsAfterDfa x earliest s t
    → GrowsBlocks s.choice.nfa x s.choice.back.blocks t.choice.back.blocks
after-grows x earliest s t (inl same) = rw same (grows-none s.choice.nfa x s.choice.back.blocks)
after-grows x earliest s t (inr w) = rule-grows s.choice x earliest t.choice w.runs

-- and in any
window-grows : (x : Search) (s t : RegexState) → RunsByWindow x s t
    → GrowsBlocks s.choice.nfa x s.choice.back.blocks t.choice.back.blocks
window-grows x s t (inl after) = after-grows x x.earliest s t after
window-grows x s t (inr (inl w)) =
    let from = w.is.from in
    let to = w.is.to in
    let short : span_len w.window ≤ span_len x = omega (arith, from, to) in
    grows-within s.choice.nfa x w.window s.choice.back.blocks t.choice.back.blocks short
    (rule-grows s.choice w.window w.window.earliest t.choice w.runs)
window-grows x s t (inr (inr w)) = rule-grows s.choice x x.earliest t.choice w.runs

-- the engine that ran by the rule is named
rule-named : (c : ChoiceState) (x : Search) (earliest : Bool) (d : ChoiceState) → RunsByRule c x earliest d
    → (engine : Engine) × (d.ran ≡ Some engine)
rule-named c x earliest d runs = elim (chosen (is_for_backtracker c x) runs) [
  | inl p ↦ elim p.1 [
    | inl h ↦ (_, h.ran)
    | inr h ↦ (_, h.ran)
  ]
  | inr p ↦ (_, p.1.ran)
]

-- so is the one that ran after a stop of the lazy DFA
after-named : (x : Search) (earliest : Bool) (s t : RegexState) → RunsAfterDfa x earliest s t
    → (t.choice ≡ s.choice) ⊎ ((engine : Engine) × (t.choice.ran ≡ Some engine))
after-named x earliest s t (inl same) = inl same
after-named x earliest s t (inr w) = inr (rule-named s.choice x earliest t.choice w.runs)

-- so is the one that ran in a search
window-named : (x : Search) (s t : RegexState) → RunsByWindow x s t
    → (t.choice ≡ s.choice) ⊎ ((engine : Engine) × (t.choice.ran ≡ Some engine))
window-named x s t (inl after) = after-named x x.earliest s t after
window-named x s t (inr (inl w)) = inr (rule-named s.choice w.window w.window.earliest t.choice w.runs)
window-named x s t (inr (inr w)) = inr (rule-named s.choice x x.earliest t.choice w.runs)

-- What the engines hold and name after searches in the span of x. `slots` are those that a search may add to the cache
-- of the backtracker.
module _ (slots : Automaton → ℕ) (x : Search) where
  pub record Holds (s t : RegexState) : Type 0 where
    pub keeps : KeepsRegex s t
    pub holds : HoldsNoMore (slots s.choice.nfa) s.choice.back t.choice.back
    pub grows : GrowsBlocks s.choice.nfa x s.choice.back.blocks t.choice.back.blocks
    pub ran : (t.choice ≡ s.choice) ⊎ ((engine : Engine) × (t.choice.ran ≡ Some engine))

  pub holds-self : (s : RegexState) → Holds s s
  holds-self s = record {
    keeps = regex_self s;
    holds = record {
      frames = omega arith;
      slots_kept = omega arith;
      slots = le-max_left s.choice.back.slots (slots s.choice.nfa);
    };
    grows = grows-none s.choice.nfa x s.choice.back.blocks;
    ran = inl refl;
  }

  pub holds-then : (a b c : RegexState) → Holds a b → Holds b c → Holds a c
  holds-then a b c f g = record {
    keeps = regex_then a b c f.keeps g.keeps;
    holds =
        let nfa = f.keeps.engines.nfa in
        let next = subst (λ (n : Automaton). HoldsNoMore (slots n) b.choice.back c.choice.back) nfa g.holds in
        grind (arith, f.holds, next);
    grows =
        let nfa = f.keeps.engines.nfa in
        let next = subst (λ (n : Automaton). GrowsBlocks n x b.choice.back.blocks c.choice.back.blocks) nfa g.grows in
        grows-then a.choice.nfa x a.choice.back.blocks b.choice.back.blocks c.choice.back.blocks f.grows next;
    ran = elim g.ran [
      | inl same ↦ elim f.ran [
        | inl before ↦ inl (same ∙ before)
        | inr named ↦ inr (named.0, ap (λ (d : ChoiceState). d.ran) same ∙ named.1)
      ]
      | inr named ↦ inr named
    ];
  }

  -- a search in the span
  pub holds-search : (y : Search) (s t : RegexState) → span_len y ≤ span_len x → RunsByWindow y s t
      → HoldsNoMore (slots s.choice.nfa) s.choice.back t.choice.back → KeepsRegex s t → Holds s t
  holds-search y s t short runs holds keeps = record {
    keeps = keeps;
    holds = holds;
    grows = grows-within s.choice.nfa x y s.choice.back.blocks t.choice.back.blocks short (window-grows y s t runs);
    ran = window-named y s t runs;
  }

-- bounds of the totals, and what the engines hold
pub works-of : (slots : Automaton → ℕ) (scans : ℕ) (x : Search) (s t : RegexState)
    → ChoiceAddsAtMost scans x s.choice t.choice → Holds slots x s t → WorksWithin scans (slots s.choice.nfa) x s t
works-of slots scans x s t adds h = record {
  back_scans = adds.back.scans;
  back_turns = adds.back.turns;
  pike_scans = adds.pike.scans;
  pike_turns = adds.pike.turns;
  frames = h.holds.frames;
  slots_kept = h.holds.slots_kept;
  slots_held = h.holds.slots;
  blocks_kept = h.grows.kept;
  blocks_held = h.grows.needed;
  ran = h.ran;
}

-- no search costs nothing
pub works-none : (scans slots : ℕ) (x : Search) (s : RegexState) → WorksWithin scans slots x s s
works-none scans slots x s = record {
  back_scans = omega arith;
  back_turns = omega arith;
  pike_scans = omega arith;
  pike_turns = omega arith;
  frames = omega arith;
  slots_kept = omega arith;
  slots_held = le-max_left s.choice.back.slots slots;
  blocks_kept = omega arith;
  blocks_held = le-max_left s.choice.back.blocks _;
  ran = inl refl;
}

-- one search
pub search-works : (slots : Automaton → ℕ) (x : Search) (s t : RegexState) → RunsByWindow x s t
    → HoldsNoMore (slots s.choice.nfa) s.choice.back t.choice.back → KeepsRegex s t
    → WorksWithin (max_scans s.choice.nfa x) (slots s.choice.nfa) x s t
search-works slots x s t runs holds keeps = works-of slots (max_scans s.choice.nfa x) x s t
    (record {
      back = does-within back_in x s.choice t.choice (back-windows x s t runs);
      pike = does-within pike_in x s.choice t.choice (pike-windows x s t runs);
    })
    (holds-search slots x x s t (omega arith) runs holds keeps)

-- one search for a half match
pub half-works : (x : Search) (earliest : Bool) (s t : RegexState) → RunsAfterDfa x earliest s t
    → HoldsNoMore 0 s.choice.back t.choice.back → KeepsRegex s t → WorksWithin (max_scans s.choice.nfa x) 0 x s t
half-works x earliest s t runs holds keeps =
    let held : Holds (λ nfa. 0) x s t = record {
      keeps = keeps;
      holds = holds;
      grows = after-grows x earliest s t runs;
      ran = after-named x earliest s t runs;
    } in
    elim runs [
      | inl same ↦ works-of (λ nfa. 0) (max_scans s.choice.nfa x) x s t
          (record {
            back = does-within back_in x s.choice t.choice (inr (ap back_in same));
            pike = does-within pike_in x s.choice t.choice (inr (ap pike_in same));
          })
          held
      | inr ran ↦
          let within = rule-within s.choice x earliest t.choice ran.runs in
          works-of (λ nfa. 0) (max_scans s.choice.nfa x) x s t (record { back = within.0; pike = within.1 }) held
    ]

pub half-rests : (x : Search) (earliest : Bool) (s t : RegexState) → RunsAfterDfa x earliest s t → t.stops ≡ s.stops
    → t.choice ≡ s.choice
half-rests x earliest s t (inl same) still = same
half-rests x earliest s t (inr ran) still = absurd (let more = ran.stopped in omega (arith, more, still))

-- a search that has a half match matches something
half-missed : (nfa : Automaton) (kind : MatchKind) (x y : Search) → MatchesNothing nfa x → EndsAtMatch nfa kind x y → ⊥
half-missed nfa kind x y none ends =
    let nothing = nothing-half nfa kind x.earliest x none in
    none-some ends.half (half-unique nfa x kind x.earliest None (Some ends.half) nothing ends.found)

-- no engine searches if the lazy DFA does not stop and nothing matches
pub search-rests : (x : Search) (s t : RegexState) → RunsByWindow x s t → IsUnbound s.choice.nfa x → x.earliest ≡ false
    → MatchesNothing s.choice.nfa x → t.stops ≡ s.stops → t.choice ≡ s.choice
search-rests x s t (inl after) free last none still = half-rests x x.earliest s t after still
search-rests x s t (inr (inl w)) free last none still =
    absurd (half-missed s.choice.nfa (kind_in s.choice) x w.window none w.ends)
search-rests x s t (inr (inr w)) free last none still = absurd (w.whole (record { unbound = free; last = last }))
