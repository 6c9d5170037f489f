-- From the row that a search fills to what its callers get: slots, and whether there is a match.
use Rattle.nfa_paths.proofs.Common.{◌≡◌, ℕ, ◌+◌, ◌-◌, ◌≤◌, min, take, inl, inr, List, [], ◌∷◌, ◌++◌, length, refl, ap, sym, ◌∙◌, arith, length-append, Option, cases_lt, append-nil, length-take, slot_count, Automaton, IsAutomaton, Pair, slot_row, Slots, Bool, false, not, is_some, Search, MatchKind, is_utf8_empty, IsAnswer, IsBoolAnswer, IsWork}
use Rattle.nfa_paths.proofs.PatternLemmas.{slot_row-more, found-of}
use Rattle.nfa_pikevm_scan.specs.Scans.{blank}
use Rattle.nfa_pikevm_scan.proofs.RowLemmas.{length-blank}
use Rattle.nfa_paths.proofs.EarliestLemmas.{search_answer-asked, found_answer-earliest}

module _ {nfa : Automaton} (valid : IsAutomaton nfa) {row : Slots} {width : ℕ} where
  -- A search got as many slots as the NFA has, or fewer, and the rest are `None`: together they are a row of the path.
  row-whole : {rest : Slots} {len : ℕ} → width ≡ min len (slot_count nfa.groups) → length row ≡ width
      → length rest + width ≡ len → rest ≡ blank (length rest) → (path : Option (List Pair))
      → row ≡ slot_row nfa (length row) path → row ++ rest ≡ slot_row nfa (length (row ++ rest)) path
  row-whole {rest} {len} cut size left unset path is =
      elim (cases_lt len (slot_count nfa.groups)) [
        | inl few ↦
            let empty : rest ≡ [] = nil_of rest (omega arith) in
            let same : row ++ rest ≡ row = ap (λ l. row ++ l) empty ∙ append-nil row in
            same ∙ is ∙ ap (λ l. slot_row nfa (length l) path) (sym same)
        | inr many ↦
            let past : slot_count nfa.groups ≤ width = omega arith in
            let long : length (row ++ rest) ≡ width + length rest = length-append row rest
            ∙ ap (λ n. n + length rest) size in
            ap (λ l. l ++ rest) (is ∙ ap (λ n. slot_row nfa n path) size) ∙ ap (λ l. slot_row nfa width path ++ l) unset
            ∙ sym (slot_row-more nfa valid width (length rest) past path) ∙ ap (λ n. slot_row nfa n path) (sym long)
      ]
    where
      nil_of : (l : Slots) → length l ≡ 0 → l ≡ []
      nil_of [] e = refl
      nil_of (o ∷ l) e = absurd (omega arith)

  -- so is what a search filled of a row of the cache, with no slot set after it
  pub row-found : (found : Slots) (len : ℕ) {slots : ℕ} → width ≡ min len slots
      → slots ≡ slot_count nfa.groups → slot_count nfa.groups ≤ length found
      → length row ≡ length (take width found) → (path : Option (List Pair)) → row ≡ slot_row nfa (length row) path
      → row ++ blank (len - length row) ≡ slot_row nfa (length (row ++ blank (len - length row))) path
  row-found found len cut all long filled =
      let least : width ≡ min len (slot_count nfa.groups) = cut ∙ ap (min len) all in
      let size : length row ≡ width = omega (arith, filled, length-take width found, least) in
      let rest : Slots = blank (len - length row) in
      let left : length rest + width ≡ len = omega (arith, length-blank (len - length row), size, least) in
      row-whole least size left (ap blank (sym (length-blank (len - length row))))

module _ {nfa : Automaton} {kind : MatchKind} {x y : Search} {e : Bool} (is_e : e ≡ not (is_utf8_empty nfa))
    (is_y : y ≡ record x { earliest = e }) where
  -- the work for the answer
  pub work-free : {scans turns : ℕ} → IsWork nfa kind y.earliest y scans turns
      → IsWork nfa kind (not (is_utf8_empty nfa)) x scans turns
  work-free {scans} {turns} w = grind (arith, search_answer-asked)

  -- whether there is a match
  pub found-free : {slots : Slots} {pattern : Option ℕ} → IsAnswer nfa kind y.earliest y pattern slots
      → IsBoolAnswer nfa kind false x (is_some pattern)
  found-free {slots} {pattern} a = of (found-of nfa kind e (record x { earliest = e }) slots pattern (rw is_y at a))
    where
      of : IsBoolAnswer nfa kind e (record x { earliest = e }) (is_some pattern)
          → IsBoolAnswer nfa kind false x (is_some pattern)
      of f = rw f.found_is
          (found_answer-earliest nfa kind x f.restarts f.path
          (rw is_e at (search_answer-asked nfa kind e x e f.restarts f.path f.answers)))
