-- The list of the half matches of an NFA: there is at most one, its offsets rise, and the calls of an iterator give it.
use Rattle.nfa_paths.proofs.Common.{◌≡◌, ℕ, ◌≤◌, Bool, ap, arith, refl, subst, Option, None, Some, Ok, Err, List, [], ◌∷◌, ◌++◌, map, All, option_map, All-nil, All-cons, HalfFound, half_found_of, Search, HalfMatch, MatchKind, Span, Automaton, IsHalfAnswer}
use Rattle.nfa_paths.proofs.InsideLemmas.{half-within}
use Rattle.nfa_paths.proofs.MemberLemmas.{same_some}
use Rattle.nfa_engines.proofs.MatchLemmas.{half-unique}
use Rattle.nfa_search_base.specs.Common.{matches_in, AreSpansDisjoint, Fails, answer_by, Answer, AnswerIsInside, IsInfalliblyInside, ItemsGiven, answer_span, fresh, half_span_of}
use Rattle.nfa_search_base.proofs.IterStateLemmas.{IsOrdered}
use Rattle.nfa_search_base.proofs.ItemLemmas.{StepsBy, items_as, ShellOf}
use Rattle.nfa_search_base.proofs.ListLemmas.{as_items, items-view, fresh-disjoint, matches_in-as_items, values-rest, values-unique}
use Rattle.nfa_search_base.proofs.CapturesRunLemmas.{runs-are}
use Rattle.nfa_search_base.proofs.RunLemmas.{AnswersOf, Begins, given, items-given}
use Rattle.nfa_choice.specs.HalfLists.{AnswersHalf, AreFirstHalves, AreHalves, AreRising, IsHalfInside}
use Rattle.nfa_choice.specs.HalfRuns.{AreFirst, AreAll, HalvesGiven}

-- ---- the list

-- spans of half matches that do not overlap have offsets that rise
rising-spans : (x : Search) (last : Option ℕ) (ms : List HalfFound) → AreSpansDisjoint x last (map half_span_of ms)
    → AreRising x last ms
rising-spans x last [] h = tt
rising-spans x last (m ∷ ms) h =
    (record { from = h.0.0; to = h.0.2 }, λ e is. (h.1 e is).1, rising-spans x (Some m.offset) ms h.2)

-- offsets that rise are in the span
all-inside : (x : Search) (last : Option ℕ) (ms : List HalfMatch) → AreRising x last (map half_found_of ms)
    → All (λ m. IsHalfInside x (half_found_of m)) ms
all-inside x last [] h = All-nil (λ m. IsHalfInside x (half_found_of m))
all-inside x last (m ∷ ms) h = All-cons (λ m. IsHalfInside x (half_found_of m)) m ms h.0
    (all-inside x (Some (half_found_of m).offset) ms h.2)

module _ (nfa : Automaton) (kind : MatchKind) (earliest : Bool) where
  abbrev tells : Search → Answer HalfFound → Type 0
  tells = AnswersHalf nfa kind earliest

  -- a search gives one half match
  one-answer : (t : Search) (a b : Answer HalfFound) → tells t a → tells t b → a ≡ b
  one-answer t (Ok p) (Ok q) h k =
      ap (λ (o : Option HalfFound). let a : Answer HalfFound = Ok o in a) (half-unique nfa t kind earliest p q h k)
  one-answer t (Ok p) (Err e) h k = absurd k
  one-answer t (Err e) b h k = absurd h

  -- which is in its span
  pub half-lies : (t : Search) (a : Answer HalfFound) → tells t a
      → AnswerIsInside half_span_of t a × IsOrdered (answer_span half_span_of a)
  half-lies t (Ok (Some m)) h =
      let k = half-within nfa kind earliest t m h in
      (k, λ p is. subst (λ (q : Span). q.start ≤ q.end) (same_some (half_span_of m) p is) (omega arith))
  half-lies t (Ok None) h = (tt, λ p is. let never : None ≡ Some p = is in cc)
  half-lies t (Err e) h = absurd h

  -- and is not an error
  pub half-lies_infallibly : (t : Search) (a : Answer HalfFound) → tells t a → IsInfalliblyInside half_span_of t a
  half-lies_infallibly t (Ok half) h = ((half-lies t (Ok half) h).0, refl)
  half-lies_infallibly t (Err e) h = absurd h

  -- the half match of a search is its answer
  pub half-answered : (t : Search) (half : Option HalfMatch)
      → IsHalfAnswer nfa kind earliest t (option_map half_found_of half) → tells t (answer_by half_found_of (Ok half))
  half-answered t (Some m) h = h
  half-answered t None h = h

  -- there is one list at most
  pub halves-unique : (x : Search) (xs ys : List HalfFound) → AreHalves nfa kind earliest x xs
      → AreHalves nfa kind earliest x ys → xs ≡ ys
  halves-unique x xs ys h k = values-unique half_span_of tells one-answer (fresh x) xs ys h.come k.come

  -- the rest of the list follows the first half matches
  pub halves-rest : (x : Search) (xs ys : List HalfFound) → AreFirstHalves nfa kind earliest x xs
      → AreHalves nfa kind earliest x ys
      → (more : List HalfFound) × (ys ≡ xs ++ more)
  halves-rest x xs ys h k = values-rest half_span_of tells one-answer (fresh x) xs ys h.come k.come

  -- the offsets of the first half matches rise
  pub halves-rise : (x : Search) (ms : List HalfFound) → AreFirstHalves nfa kind earliest x ms → AreRising x None ms
  halves-rise x ms h =
      subst (λ (l : List HalfFound). AreRising x None l) (matches_in-as_items ms)
      (rising-spans x None (matches_in (as_items ms))
      (fresh-disjoint half_span_of tells half-lies (Fails half_span_of tells) x (as_items ms) h.come))

-- ---- the calls

-- What answers the searches gives the half matches of searches like x. A shell's calls are those of the iterator in it.
module _ (nfa : Automaton) (kind : MatchKind) {S T : Type 0} {x : Search}
    (answers : AnswersOf S x (AnswersHalf nfa kind x.earliest))
    (shell : ShellOf (StepsBy (items_as half_span_of half_found_of) answers.asks) (λ m. Ok m) T) (s : T)
    (begins : Begins answers.Good x (shell.inner s)) where
  -- its items are those of x
  found : ItemsGiven shell.calls (AreFirst nfa kind x) (AreAll nfa kind x) s
  found =
      let k = items-given (items_as half_span_of half_found_of) answers shell s begins in
      given shell.calls (AreFirst nfa kind x) (AreAll nfa kind x) s
      (λ xs t ran. record { come = rw (items-view half_found_of xs) at (k.first xs t ran) })
      (λ xs t u ran st. record { come = rw (items-view half_found_of xs) at (k.all xs t u ran st) })

  -- all that its calls give
  pub halves-given : HalvesGiven nfa kind x shell.calls s
  halves-given = record {
    runs = found.runs;
    first = found.first;
    next = found.next;
    rise = λ p seen from.
        let k = halves-rise nfa kind x.earliest x (map half_found_of p.items) (found.runs p seen from).0 in
        (k, all-inside x None p.items k);
    are = runs-are shell.calls half_found_of (AreFirstHalves nfa kind x.earliest x) (AreHalves nfa kind x.earliest x)
        (halves-rest nfa kind x.earliest x) (halves-unique nfa kind x.earliest x) s found.runs;
  }
