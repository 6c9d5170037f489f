-- A half match shows whether there is a match. If a match may end anywhere, so does the earliest one.
use Rattle.nfa_paths.proofs.Common.{◌≡◌, ◌∙◌, ℕ, refl, ap, sym, subst, Option, None, Some, Bool, false, not, is_some, option_and_then, option_map, HalfFound, Search, MatchKind, Automaton, IsAnswer, IsBoolAnswer, IsHalfAnswer, is_utf8_empty, path_pattern, slot_row}
use Rattle.nfa_paths.proofs.EarliestLemmas.{found_answer-earliest, search_answer-asked}
use Rattle.nfa_paths.proofs.PatternLemmas.{found-of, length-slot_row}
use Rattle.nfa_paths.proofs.RestartLemmas.{half-pattern}

some-pattern : (half : Option HalfFound) → is_some (option_map (λ (h : HalfFound). h.pattern) half) ≡ is_some half
some-pattern None = refl
some-pattern (Some h) = refl

-- there is a half match exactly if there is a match
found-half : (nfa : Automaton) (kind : MatchKind) (earliest : Bool) (x : Search) (half : Option HalfFound)
    → IsHalfAnswer nfa kind earliest x half → IsBoolAnswer nfa kind earliest x (is_some half)
found-half nfa kind earliest x half h =
    let pattern : Option ℕ = option_and_then (path_pattern nfa) h.path in
    let answer : IsAnswer nfa kind earliest x pattern (slot_row nfa 0 h.path) = record {
      restarts = h.restarts;
      path = h.path;
      answers = h.answers;
      pattern_is = refl;
      slots_are = ap (λ (n : ℕ). slot_row nfa n h.path) (sym (length-slot_row nfa 0 h.path));
    } in
    let same : is_some pattern ≡ is_some half =
    ap is_some (sym (half-pattern nfa h.path)
    ∙ ap (option_map (λ (h : HalfFound). h.pattern)) (sym h.found_is)) ∙ some-pattern half in
    subst (IsBoolAnswer nfa kind earliest x) same (found-of nfa kind earliest x (slot_row nfa 0 h.path) pattern answer)

module _ (nfa : Automaton) (kind : MatchKind) (x y : Search) (e : Bool) (is_e : e ≡ not (is_utf8_empty nfa))
    (is_y : y ≡ record x { earliest = e }) where
  -- the half match of a search that is earliest if a match may end anywhere
  pub found-free : (half : Option HalfFound) → IsHalfAnswer nfa kind y.earliest y half
      → IsBoolAnswer nfa kind false x (is_some half)
  found-free half h = of (rw is_y at (found-half nfa kind y.earliest y half h))
    where
      of : IsBoolAnswer nfa kind e (record x { earliest = e }) (is_some half)
          → IsBoolAnswer nfa kind false x (is_some half)
      of f = rw f.found_is
          (found_answer-earliest nfa kind x f.restarts f.path
          (rw is_e at (search_answer-asked nfa kind e x e f.restarts f.path f.answers)))
