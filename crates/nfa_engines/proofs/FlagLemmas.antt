-- A statement with an `earliest` of its own is the same for searches with other flags.
use Rattle.nfa_paths.proofs.Common.{arith, ◌≡◌, Bool, false, Option, None, Some, Ok, Err, List, [], ◌∷◌, map, subst, Found, Search, MatchKind, Span, Automaton, IsAnswer, IsFindAnswer, LeftmostFirst}
use Rattle.nfa_paths.proofs.SameScanLemmas.{answer-same, found-same, match-same}
use Rattle.nfa_paths.proofs.EarliestLemmas.{asked, same-asked, match-unique}
use Rattle.nfa_search_base.specs.Common.{Row, row_span, AreRows, AnswersRow, Item, AreMatches, Fails, IsStep, ItemsLast, AnswersMatch, Answer, IterState, after, fresh, answer_span, repeats, shifted, span_of}
use Rattle.nfa_engines.specs.Laws.{AnswersUnderAnyFlag, FoundUnderAnyFlag, MatchUnderAnyFlag, ReadsNoFlag, Tells}
use Rattle.nfa_engines.proofs.MatchLemmas.{same-slots, found-pattern}

-- what holds of a search under each flag, if it holds of the search, reads no flag
pub reads-no-flag : {A : Type 0} (Is : Tells A)
    → ((nfa : Automaton) (x : Search) (flag : Bool) (kind : MatchKind) (earliest : Bool) (a : A)
    → Is nfa kind earliest (asked x flag) a → Is nfa kind earliest x a)
    → ReadsNoFlag Is
reads-no-flag Is free nfa x flag kind earliest a =
    (free nfa x flag kind earliest a, free nfa (asked x flag) x.earliest kind earliest a)

-- the state whose search carries this flag
abbrev flagged : IterState → Bool → IterState
flagged w flag = record w { at = asked w.at flag }

repeats-flagged : (w : IterState) (flag : Bool) (reply_span : Option Span)
    → repeats (flagged w flag) reply_span ≡ repeats w reply_span
repeats-flagged w flag o = grind arith

-- If the answers of searches do not read the flag, neither does the list of an iteration.
module _ {X : Type 0} (span : X → Span) (tells : Search → Answer X → Type 0)
    (free : (t : Search) (flag : Bool) (a : Answer X) → tells (asked t flag) a → tells t a) where
  step-flagged : (w : IterState) (flag : Bool) (a : Answer X) → IsStep span tells (flagged w flag) a
      → IsStep span tells w a
  step-flagged w flag a h = record {
    first = h.first;
    is_first = free w.at flag h.first h.is_first;
    rest = grind (arith, repeats-flagged w flag (answer_span span h.first), free (shifted w).at flag a, h.rest);
  }

  last-flagged : (w : IterState) (flag : Bool) (items : List (Item X))
      → ItemsLast span tells (Fails span tells) (flagged w flag) items → ItemsLast span tells (Fails span tells) w items
  last-flagged w flag [] h = step-flagged w flag (Ok None) h
  last-flagged w flag (Ok x ∷ items) h =
      (step-flagged w flag (Ok (Some x)) h.0, last-flagged (after w (Some (span x))) flag items h.1)
  last-flagged w flag (Err e ∷ items) h = (step-flagged w flag (Err e) h.0, h.1)

module _ (nfa : Automaton) (kind : MatchKind) (earliest : Bool) where
  tells_match-asked : (t : Search) (flag : Bool) (a : Answer Found) → AnswersMatch nfa kind earliest (asked t flag) a
      → AnswersMatch nfa kind earliest t a
  tells_match-asked t flag a h = grind (arith, match-same (same-asked nfa t flag) kind earliest)

  tells_row-asked : (t : Search) (flag : Bool) (a : Answer Row) → AnswersRow nfa kind earliest (asked t flag) a
      → AnswersRow nfa kind earliest t a
  tells_row-asked t flag (Ok None) h = match-same (same-asked nfa t flag) kind earliest None h
  tells_row-asked t flag (Ok (Some row)) h = grind (arith, answer-same (same-asked nfa t flag) kind earliest)
  tells_row-asked t flag (Err e) h = h

  -- the list of matches
  pub matches-asked : (x : Search) (flag : Bool) (ms : List Found) → AreMatches nfa kind earliest (asked x flag) ms
      → AreMatches nfa kind earliest x ms
  matches-asked x flag ms h = record {
    come = last-flagged span_of (AnswersMatch nfa kind earliest) tells_match-asked (fresh x) flag (map (λ m. Ok m) ms)
        h.come;
  }

  -- the list of rows
  pub rows-asked : (x : Search) (flag : Bool) (rows : List Row) → AreRows nfa kind earliest (asked x flag) rows
      → AreRows nfa kind earliest x rows
  rows-asked x flag rows h = record {
    come = last-flagged row_span (AnswersRow nfa kind earliest) tells_row-asked (fresh x) flag (map (λ r. Ok r) rows)
        h.come;
  }

-- If the flag is off, a call that ignores the flag gives, under any flag, the answer of a call without it.

pub found-under : FoundUnderAnyFlag
found-under nfa x y flag kind found pattern slots same off h k =
    found-pattern nfa x kind false pattern slots found
    (subst (λ (b : Bool). IsAnswer nfa kind b x pattern slots) off k)
    (found-same (same-asked nfa x flag) kind false found (rw same at h))

pub answers-under : AnswersUnderAnyFlag
answers-under nfa other x y flag kind p q s t is_nfa leftmost same off h k =
    same-slots nfa x LeftmostFirst false p q s t
    (rw leftmost at (subst (λ (b : Bool). IsAnswer nfa kind b x p s) off h))
    (answer-same (same-asked nfa x flag) LeftmostFirst false q t (rw (is_nfa, same) at k))

pub match-under : MatchUnderAnyFlag
match-under nfa other x y flag kind a b is_nfa leftmost same off h k =
    match-unique nfa LeftmostFirst false x a b
    (rw leftmost at (subst (λ (e : Bool). IsFindAnswer nfa kind e x a) off h))
    (match-same (same-asked nfa x flag) LeftmostFirst false b (rw (is_nfa, same) at k))
