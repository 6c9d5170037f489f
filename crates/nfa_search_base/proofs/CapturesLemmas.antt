-- The captures of a search of an NFA: there is one list of them, and their matches are those of the search.
use Rattle.nfa_paths.proofs.Common.{arith, ◌≡◌, ℕ, inl, inr, Bool, List, [], ◌∷◌, map, length, Option, None, Some, Ok, Err, refl, ap, option_and_then, Found, slot_count, Search, Captured, match_of, MatchKind, Automaton, path_pattern, slot_row, IsAnswer, IsFindAnswer}
use Rattle.nfa_paths.proofs.AnswerLemmas.{search_answer-unique}
use Rattle.nfa_paths.proofs.ExistenceLemmas.{search_answer-exists}
use Rattle.nfa_paths.proofs.EarliestLemmas.{match-unique}
use Rattle.nfa_search_base.specs.Common.{Row, filled_answer, row_found, row_span, UpToRefusal, IsRow, AnswersRow, AreFirstRows, AreRows, answer_by, Item, greedy, IsStep, Fails, FailsOrIsRefused, ItemsBy, ItemsLast, AnswersMatch, AreFirstMatches, AreMatches, IterState, Answer, AnswerIsInside, fresh, after, answer_span, span_of, SearchError}
use Rattle.nfa_search_base.proofs.ListLemmas.{as_items, items-greedy, last-matches, match-lies, matches-unique, never-fails, step-as, step-unique, values-unique}
use Rattle.nfa_search_base.proofs.IterStateLemmas.{IsOrdered}
use Rattle.nfa_paths.proofs.PatternLemmas.{length-slot_row}

-- a row is its pattern and its slots
row-is : (p q : Row) → p.pattern ≡ q.pattern → p.slots ≡ q.slots → p ≡ q
row-is p q pattern slots = grind (arith)

module _ (nfa : Automaton) (kind : MatchKind) (earliest : Bool) where
  abbrev tells : Search → Answer Row → Type 0
  tells = AnswersRow nfa kind earliest

  -- what all slots of an answer give is the match of the search
  slots-match : (t : Search) (p : Option ℕ) (slots : List (Option ℕ)) (m : Option Found)
      → IsAnswer nfa kind earliest t p slots → length slots ≡ slot_count nfa.groups → match_of p slots ≡ m
      → IsFindAnswer nfa kind earliest t m
  slots-match t p slots m a count is = grind (arith)

  -- the match of a row is that of the search
  row-match : (t : Search) (row : Row) → IsRow nfa kind earliest t row
      → IsFindAnswer nfa kind earliest t (Some (row_found row))
  row-match t row h = slots-match t row.pattern row.slots (Some (row_found row)) h.answer h.count h.is_match

  -- a row as a match
  abbrev as_match : Answer Row → Answer Found
  as_match = answer_by row_found

  -- a search that gives a row gives its match
  pub row-tells : (t : Search) (a : Answer Row) → tells t a → AnswersMatch nfa kind earliest t (as_match a)
  row-tells t (Ok (Some row)) h = row-match t row h
  row-tells t (Ok None) h = h
  row-tells t (Err e) h = h

  span-as_match : (a : Answer Row) → answer_span row_span a ≡ answer_span span_of (as_match a)
  span-as_match (Ok (Some row)) = refl
  span-as_match (Ok None) = refl
  span-as_match (Err e) = refl

  -- each of these is in the span
  pub row-lies : (t : Search) (a : Answer Row) → tells t a
      → AnswerIsInside row_span t a × IsOrdered (answer_span row_span a)
  row-lies t (Ok (Some row)) h = match-lies nfa kind earliest t (Ok (Some (row_found row))) (row-match t row h)
  row-lies t (Ok None) h = (tt, λ p is. let never : None ≡ Some p = is in cc)
  row-lies t (Err e) h = absurd h

  -- a search has one row
  rows-same : (t : Search) (p q : Row) → IsRow nfa kind earliest t p → IsRow nfa kind earliest t q → p ≡ q
  rows-same t p q h k = grind (arith, search_answer-unique, row-is)

  -- a search gives only one row
  pub one-row : (t : Search) (a b : Answer Row) → tells t a → tells t b → a ≡ b
  one-row t (Ok (Some p)) (Ok (Some q)) h k =
      ap (λ (r : Row). let a : Answer Row = Ok (Some r) in a) (rows-same t p q h k)
  one-row t (Ok (Some p)) (Ok None) h k =
      let e = match-unique nfa kind earliest t (Some (row_found p)) None (row-match t p h) k in cc
  one-row t (Ok None) (Ok (Some q)) h k =
      let e = match-unique nfa kind earliest t None (Some (row_found q)) h (row-match t q k) in cc
  one-row t (Ok None) (Ok None) h k = refl
  one-row t (Ok o) (Err e) h k = absurd k
  one-row t (Err e) b h k = absurd h

  -- after a search, captures with all slots hold the row that the search gives
  pub stored_captures-tells : (t : Search) (c : Captured) → IsAnswer nfa kind earliest t c.pattern c.slots
      → length c.slots ≡ slot_count nfa.groups → tells t (filled_answer c (Ok tt))
  stored_captures-tells t c answer count = grind (arith, slots-match)

  -- a step over rows is one over matches
  ok-match : (w : IterState) (o : Option Row) → IsStep row_span tells w (Ok o)
      → IsStep span_of (AnswersMatch nfa kind earliest) w (as_match (Ok o))
  ok-match w o h = step-as (record { shown = as_match; same = span-as_match; so = row-tells }) h

  -- so rows are matches
  come-rows : (over over' : IterState → Type 0) → ((w : IterState) → over w → over' w) → (rows : List Row)
      (w : IterState) → ItemsBy row_span tells over (Fails row_span tells) w (as_items rows)
      → ItemsBy span_of (AnswersMatch nfa kind earliest) over' (Fails span_of (AnswersMatch nfa kind earliest)) w
      (as_items (map row_found rows))
  come-rows over over' close [] w h = close w h
  come-rows over over' close (r ∷ rows) w h =
      (ok-match w (Some r) h.0, come-rows over over' close rows (after w (Some (row_span r))) h.1)

  -- the matches of the first rows are the first matches
  pub rows-first_matches : (x : Search) (rows : List Row) → AreFirstRows nfa kind earliest x rows
      → AreFirstMatches nfa kind earliest x (map row_found rows)
  rows-first_matches x rows h = record { come = come-rows _ _ (λ w k. k) rows (fresh x) h.come }

  -- and those of all rows are all
  pub rows-matches : (x : Search) (rows : List Row) → AreRows nfa kind earliest x rows
      → AreMatches nfa kind earliest x (map row_found rows)
  rows-matches x rows h = record { come = come-rows _ _ (λ w k. ok-match w None k) rows (fresh x) h.come }

  -- a search has one list of rows at most
  pub rows-unique : (x : Search) (xs ys : List Row) → AreRows nfa kind earliest x xs → AreRows nfa kind earliest x ys
      → xs ≡ ys
  rows-unique x xs ys h k = values-unique row_span tells one-row (fresh x) xs ys h.come k.come

  -- and its matches are the list of the matches
  pub rows-list : (x : Search) (rows : List Row) (ms : List Found) → AreRows nfa kind earliest x rows
      → AreMatches nfa kind earliest x ms → map row_found rows ≡ ms
  rows-list x rows ms h k =
      matches-unique nfa kind earliest x (map row_found rows) ms (rows-matches x rows h) k

  -- if copies could not be allocated, the items are those of the list up to that point
  up-to : (w : IterState) (rows : List Row) (items : List (Item Row))
      → ItemsLast row_span tells (Fails row_span tells) w (as_items rows)
      → ItemsLast row_span tells (FailsOrIsRefused row_span tells) w items → UpToRefusal (as_items rows) items
  up-to w [] [] h k = tt
  up-to w [] (Ok y ∷ items) h k =
      let e = step-unique row_span tells one-row w (Ok None) (Ok (Some y)) h k.0 in cc
  up-to w [] (Err q ∷ items) h k = elim k.0 [
    | inl fails ↦ absurd (never-fails row_span tells (λ t e k. k) w q fails)
    | inr refused ↦ let e = step-unique row_span tells one-row w (Ok None) (Ok (Some refused.1)) h refused.2 in cc
  ]
  up-to w (r ∷ rows) [] h k =
      let e = step-unique row_span tells one-row w (Ok (Some r)) (Ok None) h.0 k in cc
  up-to w (r ∷ rows) (Ok y ∷ items) h k =
      let is = step-unique row_span tells one-row w (Ok (Some y)) (Ok (Some r)) k.0 h.0 in
      let same : y ≡ r = cc in
      inl (
        ap (λ (z : Row). let a : Item Row = Ok z in a) same,
        up-to (after w (Some (row_span r))) rows items h.1 (rw same at k.1),
      )
  up-to w (r ∷ rows) (Err q ∷ items) h k = elim k.0 [
    | inl fails ↦ absurd (never-fails row_span tells (λ t e k. k) w q fails)
    | inr refused ↦ inr (refl, ap (λ (z : SearchError). let a : Item Row = Err z in a) refused.0, k.1)
  ]

  pub rows-up_to : (x : Search) (rows : List Row) (items : List (Item Row)) → AreRows nfa kind earliest x rows
      → ItemsLast row_span tells (FailsOrIsRefused row_span tells) (fresh x) items
      → UpToRefusal (as_items rows) items
  rows-up_to x rows items h k = up-to (fresh x) rows items h.come k

  -- captures that hold the answer of a search
  abbrev answer_of : Search → Captured
  answer_of t =
      let path = (search_answer-exists nfa kind earliest t).1 in
      record {
        groups = nfa.groups;
        pattern = option_and_then (path_pattern nfa) path;
        slots = slot_row nfa (slot_count nfa.groups) path;
      }

  answer_of-answered : (t : Search) → tells t (filled_answer (answer_of t) (Ok tt))
  answer_of-answered t = grind (arith, search_answer-exists, length-slot_row, stored_captures-tells)

  -- so each search has a list of rows
  pub rows-exist : (x : Search) → (rows : List Row) × AreRows nfa kind earliest x rows
  rows-exist x =
      let h : Search → Answer Row = λ t. filled_answer (answer_of t) (Ok tt) in
      let all = items-greedy row_span tells row-lies h x (λ t alike. answer_of-answered t) in
      let rows = last-matches row_span tells (λ t e k. k) (fresh x) (greedy row_span h (fresh x)) all in
      (rows.0, record { come = rows.1 })
