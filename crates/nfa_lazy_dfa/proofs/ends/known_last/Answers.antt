-- The byte after the span is read, or there is none.
use Rattle.nfa_paths.proofs.Common.{◌≡◌, ◌≤◌, ◌<◌, ◌∙◌, ℕ, List, Option, None, Some, IfSome, get_or, ap, sym, subst, arith, length, option_map, number_of, slice_get, slice_get-get_or, slice_get_past, PatternID, search_of}
use Rattle.nfa_lazy_dfa.specs.Assertions.{IsRead}
use Rattle.nfa_lazy_dfa.specs.Rows.{IsRowOf}
use Rattle.nfa_lazy_dfa.specs.Stances.{Stance, hit_here}
use Rattle.nfa_lazy_dfa.proofs.CacheLemmas.{row-inside}
use Rattle.nfa_lazy_dfa.proofs.ends.known_last.Goals as goal

-- what holds of each pattern holds of this one
each-hit : (o : Option (Option PatternID)) (P : Option PatternID → Type 0) → ((hit : Option PatternID) → P hit)
    → IfSome o P
each-hit None P all = tt
each-hit (Some hit) P all = all hit

-- the byte after the span
after : (h x : List ℕ) (at : ℕ) → h ≡ x → at < length x → Some (get_or h at 0) ≡ slice_get x at
after h x at same less = ap (λ (l : List ℕ). Some (get_or l at 0)) same ∙ sym (slice_get-get_or x at 0 less)

pub known_before-requires-clause-row : goal.known_before-requires-clause-row
known_before-requires-clause-row c =
    row-inside c.args.cache.now c.args.place.row c.requires.at.stance c.requires.at.is

pub known_end-requires-clause-row : goal.known_end-requires-clause-row
known_end-requires-clause-row c =
    row-inside c.args.cache.now c.args.place.row c.requires.at.stance c.requires.at.is

pub returns-then-at-haystack-clause-hit : goal.returns-then-at-haystack-clause-hit
returns-then-at-haystack-clause-hit c =
    let x = search_of c.args.input.now in
    let dfa = c.args.dfa.now in
    let at = c.args.place.at in
    let less : at < length x.haystack = grind arith in
    subst (λ (o : Option ℕ). IfSome c.known_before.result (λ hit. (s : Stance)
    → IsRowOf c.args.cache.now c.args.place.row s → option_map number_of hit ≡ hit_here dfa.nfa dfa.kind s o))
    (after c.haystack-haystack.result.now x.haystack at c.haystack-haystack.ensures less) c.known_before.ensures.hit

pub returns-then-at-haystack-clause-read : goal.returns-then-at-haystack-clause-read
returns-then-at-haystack-clause-read c =
    let x = search_of c.args.input.now in
    let at = c.args.place.at in
    let less : at < length x.haystack = grind arith in
    subst (λ (o : Option ℕ). IfSome c.known_before.result (λ hit. IsRead c.args.dfa.now.nfa o))
    (after c.haystack-haystack.result.now x.haystack at c.haystack-haystack.ensures less) c.known_before.ensures.read

pub returns-clause-hit : goal.returns-clause-hit
returns-clause-hit c =
    let x = search_of c.args.input.now in
    let dfa = c.args.dfa.now in
    let at = c.args.place.at in
    let past : length x.haystack ≤ at = grind arith in
    subst (λ (o : Option ℕ). IfSome c.known_end.result (λ hit. (s : Stance)
    → IsRowOf c.args.cache.now c.args.place.row s → option_map number_of hit ≡ hit_here dfa.nfa dfa.kind s o))
    (sym (slice_get_past x.haystack at past)) c.known_end.ensures

pub returns-clause-read : goal.returns-clause-read
returns-clause-read c =
    let x = search_of c.args.input.now in
    let at = c.args.place.at in
    let past : length x.haystack ≤ at = grind arith in
    each-hit c.known_end.result (λ hit. IsRead c.args.dfa.now.nfa (slice_get x.haystack at))
    (λ hit. subst (IsRead c.args.dfa.now.nfa) (sym (slice_get_past x.haystack at past)) tt)
