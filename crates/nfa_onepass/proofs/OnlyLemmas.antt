-- The path that a search answers is one of those over the span of its match.
use Rattle.nfa_paths.proofs.Common.{◌≡◌, ◌∙◌, ℕ, zero, suc, ◌+◌, inl, inr, false, List, refl, sym, ap, subst, Option, None, Some, option_and_then, Automaton, Found, HeadIs, In, IsAnswer, IsAutomaton, IsFindAnswer, IsSearchAnswer, LeftmostFirst, Pair, Search, match_of, node_at, pairs_from, path_pattern, pattern_of, raised, slot_count, slot_row, start_state, starts, start_count}
use Rattle.nfa_paths.proofs.PathToLemmas.{EndsWith-last}
use Rattle.nfa_paths.proofs.StartLemmas.{raised-zero}
use Rattle.nfa_engines.specs.SpanLaws.{SearchMayBeCut, cut_to, same}
use Rattle.nfa_facts.specs.MatchSpanLaws.{AreOneMatch, IsMatchOfPath, MatchesAreOfPaths}
use Rattle.nfa_facts.specs.StatePaths.{RecordsMatchSpans}
use Rattle.nfa_onepass.specs.Ways.{IsOnly, IsTail}

-- the pairs of a state have this state
pairs_from-state : (state at count : ℕ) (v : Pair) → In v (pairs_from state at count) → v.0 ≡ state
pairs_from-state state at zero v i = absurd i
pairs_from-state state at (suc count) v i = elim i [
  | inl e ↦ ap (λ (u : Pair). u.0) e
  | inr j ↦ pairs_from-state state (at + 1) count v j
]

-- a start has the first state of the search
start-has : (nfa : Automaton) (x : Search) (v : Pair) → In v (starts nfa x) → start_state nfa x.anchored ≡ Some v.0
start-has nfa x v = of (start_state nfa x.anchored) refl
  where
    of : (o : Option ℕ) → start_state nfa x.anchored ≡ o → In v (starts nfa x) → start_state nfa x.anchored ≡ Some v.0
    of None e i = absurd (rw e at i)
    of (Some s) e i =
        let k : In v (pairs_from s x.start (start_count nfa x)) = rw e at i in
        e ∙ ap (λ (z : ℕ). Some z) (sym (pairs_from-state s x.start (start_count nfa x) v k))

module _ (cuts : SearchMayBeCut LeftmostFirst false) (ones : MatchesAreOfPaths) where
  module _ (nfa : Automaton) (x : Search) (m : Found) (k : ℕ) (slots : List (Option ℕ)) (valid : IsAutomaton nfa)
      (records : RecordsMatchSpans nfa) (only : IsOnly nfa (cut_to x m.start m.end x.anchored) k slots) where
    answer-along : (restarts : ℕ) (p : List Pair) → IsSearchAnswer nfa LeftmostFirst false x restarts (Some p)
        → Some m ≡ match_of (path_pattern nfa p) (slot_row nfa (slot_count nfa.groups) (Some p))
        → IsMatchOfPath nfa (raised x restarts) p m → IsAnswer nfa LeftmostFirst false x (Some k) slots
    answer-along restarts p answers found o =
        let y : Search = cut_to x o.path.start.1 o.end.1 x.anchored in
        let cut : IsSearchAnswer nfa LeftmostFirst false y 0 (Some p) =
        cuts nfa x x.anchored restarts p o.path.start o.end same answers o.path.head o.path.ends in
        let here : IsMatchOfPath nfa (raised y 0) p m =
        ones nfa LeftmostFirst false y 0 (Some p) (Some m) valid records cut
        (record { restarts = 0; path = Some p; answers = cut; found_is = found }) in
        let z : IsMatchOfPath nfa y p m = subst (λ (w : Search). IsMatchOfPath nfa w p m) (raised-zero y) here in
        let begins = start-has nfa y z.path.start z.path.among in
        let at_start : z.path.start.1 ≡ y.start = sym z.start_is ∙ o.start_is in
        let tail : IsTail nfa y (z.path.start.0, y.start) z.end p = record {
          head = subst (λ (v : Pair). HeadIs v p) (ap (λ (a : ℕ). (z.path.start.0, a)) at_start) z.path.head;
          linked = z.path.linked;
          ends = z.path.ends;
          matches = z.accepts;
        } in
        let there : IsOnly nfa y k slots =
        subst (λ (e : ℕ). IsOnly nfa (cut_to x o.path.start.1 e x.anchored) k slots) o.end_is
        (subst (λ (a : ℕ). IsOnly nfa (cut_to x a m.end x.anchored) k slots) o.start_is only) in
        let r = there.only z.path.start.0 z.end p begins tail (sym z.end_is ∙ o.end_is) in
        record {
          restarts = restarts;
          path = Some p;
          answers = answers;
          pattern_is = sym (ap (λ (w : Option Pair). option_and_then (λ (v : Pair). pattern_of (node_at nfa v.0)) w)
              (EndsWith-last None z.end p z.path.ends) ∙ r.0);
          slots_are = r.1;
        }

    answer-of : (restarts : ℕ) (path : Option (List Pair)) → IsSearchAnswer nfa LeftmostFirst false x restarts path
        → Some m ≡ match_of (option_and_then (path_pattern nfa) path) (slot_row nfa (slot_count nfa.groups) path)
        → AreOneMatch nfa (raised x restarts) path (Some m) → IsAnswer nfa LeftmostFirst false x (Some k) slots
    answer-of restarts None answers found one = absurd one
    answer-of restarts (Some p) answers found one = answer-along restarts p answers found one

    pub only-answer : IsFindAnswer nfa LeftmostFirst false x (Some m)
        → IsAnswer nfa LeftmostFirst false x (Some k) slots
    only-answer f = answer-of f.restarts f.path f.answers f.found_is
        (ones nfa LeftmostFirst false x f.restarts f.path (Some m) valid records f.answers f)
