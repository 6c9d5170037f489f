-- What a whole iteration adds to the totals of what answers its searches.
use Rattle.nfa_paths.proofs.Common.{mul-le-mul_right, ◌≡◌, ℕ, ◌+◌, ◌*◌, ◌≤◌, Bool, true, false, List, [], ◌∷◌, length, Option, None, Some, Ok, refl, sym, subst, inl, inr, arith, cond, Search, Span, Automaton, span_len, max_scan_turns}
use Rattle.nfa_search_base.specs.Common.{EndsBy, StepsLead, answers_to_end, SameButStart, Advances, Answer, AnswerIsInside, IterState, after, ends_left, fresh, answer_span, repeats, shifted}
use Rattle.nfa_search_base.proofs.AskingLemmas.{same_start-self, same_start-then}
use Rattle.nfa_search_base.proofs.StepLemmas.{Advances-fewer, chosen, same_start-after, same_start-shifted}
use Rattle.nfa_search_base.proofs.IterStateLemmas.{IsOrdered}
use Rattle.nfa_engines.specs.IterationLaws.{AddsAtMost, Totals, list_scan_limit}
use Rattle.nfa_engines.proofs.ReachLemmas.{Reaches, restarts_in, starts_left}

-- `count` scans were added, each of at most `weight` turns
pub record Adds (weight : ℕ) (old new : Totals) (count : ℕ) : Type 0 where
  pub scans : new.scans ≡ old.scans + count
  pub turns : new.turns ≤ old.turns + count * weight

-- Of a search that is `free` to restart, and may be made with `count` scans: they are no more than its starts, and one
-- where it is not free; its match ends after the starts that it passed.
pub record Costs (free : Bool) (x : Search) (reply_span : Option Span) (count : ℕ) : Type 0 where
  pub starts : count ≤ starts_left x + 1
  pub once : free ≡ false → count ≤ 1
  pub reach : Reaches x count reply_span

-- nothing is added
pub adds-none : (weight : ℕ) (a : Totals) → Adds weight a a 0
adds-none weight a = record { scans = omega arith; turns = omega arith }

adds-both : {weight : ℕ} {a b c : Totals} {m n : ℕ} → Adds weight a b m → Adds weight b c n → Adds weight a c (m + n)
adds-both h k = grind arith

-- the match that is repeated ends where the last one did
repeated : (at : Search) (last : Option ℕ) (reply_span : Option Span)
    → repeats (record { at = at; last = last }) reply_span ≡ true
    → (p : Span) × (reply_span ≡ Some p) × (last ≡ Some p.end)
repeated at last o again = grind arith

-- the scans of a first search, which nothing can repeat where no match came before
abbrev searches_at : Option ℕ → ℕ
searches_at None = 1
searches_at (Some e) = 2

few-searches : (last : Option ℕ) → (1 ≤ searches_at last) × (searches_at last ≤ 2)
few-searches last = grind arith

two-searches : (last : Option ℕ) (e : ℕ) → last ≡ Some e → 2 ≤ searches_at last
two-searches last e is = rw is (omega arith)

module _ (x : Search) where
  -- where an iteration over x stands
  pub record IsOf (w : IterState) : Type 0 where
    pub like : SameButStart x w.at
    pub from : x.start ≤ w.at.start
    pub behind : EndsBy w.last w.at.start

  pub is_of-fresh : IsOf (fresh x)
  is_of-fresh = grind (arith, same_start-self)

  is_of-after : (w : IterState) (p : Span) → IsOf w → w.at.start ≤ p.end → IsOf (after w (Some p))
  is_of-after w p h on = grind (arith, same_start-then, same_start-after)

  -- What a step by `count` scans leaves, from w to v, with a match at this span or with none.
  abbrev Onward : IterState → IterState → Option Span → ℕ → Type 0
  Onward w v None count = count ≤ starts_left w.at + 1
  Onward w v (Some p) count =
      IsOf v × (v.last ≡ Some p.end) × (count + starts_left v.at ≤ starts_left w.at + 1)

  onward-once : (free : Bool) (w v : IterState) (reply_span : Option Span) (count : ℕ) → IsOf w → v ≡ after w reply_span
      → Costs free w.at reply_span count → Onward w v reply_span count
  onward-once free w v o count h is cost = grind (arith, is_of-after)

  onward-twice : (free : Bool) (w v : IterState) (p : Span) (reply_span : Option Span) (first second : ℕ) → IsOf w
      → p.end ≤ w.at.start → v ≡ after (shifted w) reply_span → Reaches w.at first (Some p)
      → Costs free (shifted w).at reply_span second
      → Onward w v reply_span (first + second)
  onward-twice free w v p o first second h at is reach cost = grind (arith, is_of-after)

-- the matches among answers
abbrev pub found_count : {X : Type 0} → List (Answer X) → ℕ
found_count [] = 0
found_count (Ok (Some m) ∷ rest) = found_count rest + 1
found_count (_ ∷ rest) = found_count rest

pub found_count-to_end : {X : Type 0} (ms : List X) → found_count (answers_to_end ms) ≡ length ms
found_count-to_end [] = refl
found_count-to_end (m ∷ ms) = let rest = found_count-to_end ms in omega (arith, rest)

-- What steps from w on add that give `found` matches.
pub record Led (weight : ℕ) (free : Bool) (w : IterState) (found : ℕ) (old new : Totals) : Type 0 where
  pub count : ℕ
  pub adds : Adds weight old new count
  pub starts : count ≤ starts_left w.at + 1 + found
  pub once : free ≡ false → count ≤ 2 * found + searches_at w.last

-- What each search of an iteration over x costs. A match is an X, which lies at `span`; a search `asks` what has
-- `totals`, is `Good`, and stays so.
pub record CostsOf {S X : Type 0} (span : X → Span) (asks : S → Search → Answer X → S → Type 0) (weight : ℕ)
    (free : Bool) (x : Search) : Type 1 where
  pub totals : S → Totals
  pub Good : S → Type 0
  pub costs : (s : S) (y : Search) (a : Answer X) (t : S) → SameButStart x y → x.start ≤ y.start → Good s
      → asks s y a t
      → (count : ℕ) × Costs free y (answer_span span a) count × Adds weight (totals s) (totals t) count × Good t

module _ {S X : Type 0} {span : X → Span} {asks : S → Search → Answer X → S → Type 0} {weight : ℕ} {free : Bool}
    {x : Search} (each : CostsOf span asks weight free x) where
  -- what a step adds
  record Stepped (s : S) (w : IterState) (a : Answer X) (t : S) (v : IterState) : Type 0 where
    count : ℕ
    adds : Adds weight (each.totals s) (each.totals t) count
    onward : Onward x w v (answer_span span a) count
    once : free ≡ false → count ≤ searches_at w.last
    good : each.Good t

  stepped : (s : S) (w : IterState) (a : Answer X) (t : S) (v : IterState) → IsOf x w → each.Good s
      → Advances span asks s w a t v
      → Stepped s w a t v
  stepped s w a t v h good step =
      let one = each.costs s w.at step.answer step.between h.like h.from good step.first in
      elim (chosen (repeats w (answer_span span step.answer)) step.rest) [
        | inl p ↦
            let from : x.start ≤ (shifted w).at.start = let from = h.from in omega (arith, from) in
            let like = same_start-then x w.at (shifted w).at h.like (same_start-shifted w) in
            let two = each.costs step.between (shifted w).at a t like from one.3 p.1.0 in
            let same = repeated w.at w.last (answer_span span step.answer) p.0 in
            let reach : Reaches w.at one.0 (Some same.0) = rw same.1 at one.1.reach in
            record {
              count = one.0 + two.0;
              adds = adds-both one.2 two.2;
              onward =
                  onward-twice x free w v same.0 (answer_span span a) one.0 two.0 h (h.behind same.0.end same.2) p.1.1
                  reach two.1;
              once = λ never.
                  let a = one.1.once never in
                  let b = two.1.once never in
                  let c = two-searches w.last same.0.end same.2 in
                  omega (arith, a, b, c);
              good = two.3;
            }
        | inr p ↦
            let cost : Costs free w.at (answer_span span a) one.0 =
            subst (λ (b : Answer X). Costs free w.at (answer_span span b) one.0) (sym p.1.0) one.1 in
            record {
              count = one.0;
              adds = subst (λ (u : S). Adds weight (each.totals s) (each.totals u) one.0) (sym p.1.1) one.2;
              onward = onward-once x free w v (answer_span span a) one.0 h p.1.2 cost;
              once = λ never. let a = cost.once never in let b = few-searches w.last in omega (arith, a, b.0);
              good = subst (λ (u : S). each.Good u) (sym p.1.1) one.3;
            }
      ]

  pub led : (w : IterState) (s : S) (answers : List (Answer X)) (t : S) → IsOf x w → each.Good s
      → StepsLead span asks w s answers t → Led weight free w (found_count answers) (each.totals s) (each.totals t)
  led w s [] t h good steps = record {
    count = 0;
    adds = rw steps (adds-none weight (each.totals s));
    starts = omega arith;
    once = λ never. omega arith;
  }
  led w s (Ok (Some m) ∷ rest) t h good steps =
      let u = steps.0 in
      let v = steps.1 in
      let one = stepped s w (Ok (Some m)) u v h good steps.2 in
      let more = led v u rest t one.onward.0 one.good steps.3 in
      record {
        count = one.count + more.count;
        adds = adds-both one.adds more.adds;
        starts = let a = one.onward.2 in let b = more.starts in omega (arith, a, b);
        once = λ never.
            let a = one.once never in
            let b = more.once never in
            let c = few-searches v.last in
            omega (arith, a, b, c.1);
      }
  led w s (a ∷ rest) t h good steps =
      let one = stepped s w a t steps.0 h good steps.1 in
      record {
        count = one.count;
        adds = one.adds;
        starts = let a = one.onward in omega (arith, a);
        once = λ never. let a = one.once never in omega (arith, a);
      }

  -- There are at most as many matches as ends are left.
  module _ (lies : (s : S) (y : Search) (a : Answer X) (t : S) → asks s y a t → AnswerIsInside span y a
      × IsOrdered (answer_span span a)) where
    pub few-found : (w : IterState) (s : S) (answers : List (Answer X)) (t : S) → IsOf x w → each.Good s
        → StepsLead span asks w s answers t → found_count answers ≤ ends_left w
    few-found w s [] t h good steps = omega arith
    few-found w s (Ok (Some m) ∷ rest) t h good steps =
        grind (arith, stepped, Advances-fewer lies h.behind steps.2, few-found steps.1 steps.0 rest t)
    few-found w s (a ∷ rest) t h good steps = rw steps.2 (omega arith)

-- scans that are at most `limit` make no more turns than `limit` scans
within-limit : (nfa : Automaton) (x : Search) (old new : Totals) (count limit : ℕ) → count ≤ limit
    → Adds (max_scan_turns nfa x) old new count → AddsAtMost limit nfa x old new
within-limit nfa x old new count limit few adds = grind (arith, mul-le-mul_right)

module _ (nfa : Automaton) (x : Search) (found : ℕ) (old new : Totals)
    (all : Led (max_scan_turns nfa x) (restarts_in nfa x) (fresh x) found old new) where
  -- of a list of `found` matches
  pub list-within : AddsAtMost (list_scan_limit nfa x found) nfa x old new
  list-within = within-limit nfa x old new all.count (list_scan_limit nfa x found)
      (fits (restarts_in nfa x) refl) all.adds
    where
      fits : (free : Bool) → restarts_in nfa x ≡ free → all.count ≤ cond free (span_len x + found + 2) (2 * found + 1)
      fits true is = let few = all.starts in omega (arith, few)
      fits false is = all.once is

  -- and wherever the iteration stops
  pub calls-within : found ≤ span_len x + 1 → AddsAtMost (2 * span_len x + 3) nfa x old new
  calls-within few = within-limit nfa x old new all.count (2 * span_len x + 3) (fits (restarts_in nfa x) refl) all.adds
    where
      fits : (free : Bool) → restarts_in nfa x ≡ free → all.count ≤ 2 * span_len x + 3
      fits true is = let starts = all.starts in omega (arith, starts, few)
      fits false is = let once = all.once is in omega (arith, once, few)
