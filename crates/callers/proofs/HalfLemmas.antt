-- The half matches of a search are the ends of its matches, if the NFA records its bounds: from the laws.
use Rattle.std.proofs.Common.{◌≡◌, ◌∙◌, ℕ, ◌+◌, ◌≤◌, Bool, Option, None, Some, Ok, Err, List, [], ◌∷◌, map, refl, sym, ap, arith, option_and_then, option_map}
use Rattle.nfa_search_base.specs.Common.{FindsEnds, HalfAndFullAgree, IsFoundIn, answer_by, end_of, item_by, EndsBy, Item, greedy, matches_in, AreMatches, AnswersMatch, Answer, AnswerIsInside, fresh, half_span_of, answer_span, span_of}
use Rattle.nfa_engines.specs.Automaton.{Automaton, IsAutomaton}
use Rattle.nfa_engines.specs.Found.{Found, HalfFound}
use Rattle.nfa_engines.specs.Groups.{slot_count}
use Rattle.nfa_engines.specs.Laws.{AtMostOne, EverySearchHasAnAnswer}
use Rattle.nfa_engines.specs.MatchKind.{MatchKind}
use Rattle.nfa_engines.specs.Paths.{path_half, path_pattern, slot_row, IsFindAnswer, IsHalfAnswer}
use Rattle.nfa_engines.specs.Search.{Search}
use Rattle.nfa_engines.specs.Slots.{match_of}
use Rattle.nfa_facts.specs.MatchSpanLaws.{HalfMatchesAreEnds}
use Rattle.nfa_facts.specs.StatePaths.{RecordsMatchSpans}
use Rattle.nfa_search_base.proofs.ListLemmas.{as_items, items-greedy, last-unique, match-lies, matches_in-as_items}
use Rattle.nfa_search_base.proofs.IterStateLemmas.{IsOrdered}
use Rattle.nfa_choice.specs.HalfLists.{AnswersHalf, AreHalves}

-- the ends of matches as items
ends-in : (ms : List Found) → matches_in (map (item_by end_of) (as_items ms)) ≡ map end_of ms
ends-in [] = refl
ends-in (m ∷ ms) = ap (λ (l : List HalfFound). end_of m ∷ l) (ends-in ms)

-- the end as an answer
end-answered : (half : Option HalfFound) (found : Option Found) → half ≡ option_map end_of found
    → (let a : Answer HalfFound = Ok half in a ≡ answer_by end_of (Ok found))
end-answered half found is = grind arith

behind-none : (n : ℕ) → EndsBy None n
behind-none n = grind arith

module _ (answered : EverySearchHasAnAnswer) (one : AtMostOne IsFindAnswer) (one_half : AtMostOne IsHalfAnswer)
    (agree : HalfAndFullAgree) (ends : HalfMatchesAreEnds) (nfa : Automaton) (kind : MatchKind) (earliest : Bool) where
  abbrev tells : Search → Answer HalfFound → Type 0
  tells = AnswersHalf nfa kind earliest

  abbrev tells_match : Search → Answer Found → Type 0
  tells_match = AnswersMatch nfa kind earliest

  -- the half match, and the match, of the path that a search answers
  abbrev half_at : Search → Option HalfFound
  half_at t = option_and_then (path_half nfa) (answered nfa t kind earliest).1

  half_at-answered : (t : Search) → tells t (Ok (half_at t))
  half_at-answered t =
      let answer = answered nfa t kind earliest in
      record { restarts = answer.0; path = answer.1; answers = answer.2; found_is = refl }

  abbrev match_at : Search → Option Found
  match_at t =
      let path = (answered nfa t kind earliest).1 in
      match_of (option_and_then (path_pattern nfa) path) (slot_row nfa (slot_count nfa.groups) path)

  match_at-answered : (t : Search) → tells_match t (Ok (match_at t))
  match_at-answered t =
      let answer = answered nfa t kind earliest in
      record { restarts = answer.0; path = answer.1; answers = answer.2; found_is = refl }

  -- a search gives one of each
  half-one : (t : Search) (a b : Answer HalfFound) → tells t a → tells t b → a ≡ b
  half-one t a b h k = grind (arith, one_half)

  match-one : (t : Search) (a b : Answer Found) → tells_match t a → tells_match t b → a ≡ b
  match-one t a b h k = grind (arith, one)

  -- the match is in the span
  found-in : (t : Search) (found : Option Found) → tells_match t (Ok found) → IsFoundIn t (Ok found)
  found-in t None h = tt
  found-in t (Some m) h =
      let k = match-lies nfa kind earliest t (Ok (Some m)) h in
      (k.0.0, k.1 (span_of m) refl, k.0.1)

  module _ (valid : IsAutomaton nfa) (records : RecordsMatchSpans nfa) where
    half-end : (t : Search) (half : Option HalfFound) → tells t (Ok half) → half ≡ option_map end_of (match_at t)
    half-end t half h = ends nfa kind earliest t half (match_at t) valid records h (match_at-answered t)

    -- so is the end of it
    end-in : (t : Search) (half : HalfFound) (found : Option Found) → IsFoundIn t (Ok found)
        → Some half ≡ option_map end_of found → (t.start ≤ half.offset) × (half.offset ≤ t.end)
    end-in t half found h is = grind arith

    half-lies : (t : Search) (a : Answer HalfFound) → tells t a
        → AnswerIsInside half_span_of t a × IsOrdered (answer_span half_span_of a)
    half-lies t (Ok (Some half)) h = (
      end-in t half (match_at t) (found-in t (match_at t) (match_at-answered t)) (half-end t (Some half) h),
      grind arith,
    )
    half-lies t (Ok None) h = (tt, grind arith)
    half-lies t (Err e) h = absurd h

    -- the list of the half matches is that of the ends
    pub halves-are-ends : (x : Search) (ms : List Found) (halves : List HalfFound) → x.start ≤ x.end + 1
        → AreMatches nfa kind earliest x ms → AreHalves nfa kind earliest x halves → halves ≡ map end_of ms
    halves-are-ends x ms halves ordered all come =
        let h : Search → Answer Found = λ t. Ok (match_at t) in
        let k : Search → Answer HalfFound = λ t. Ok (half_at t) in
        let finds : FindsEnds h k x = record {
          inside = λ t like here. found-in t (match_at t) (match_at-answered t);
          ends =
              λ t like here.
              end-answered (half_at t) (match_at t) (half-end t (half_at t) (half_at-answered t));
        } in
        let half_items : as_items halves ≡ greedy half_span_of k (fresh x) =
        last-unique half_span_of tells half-one (fresh x) (as_items halves) (greedy half_span_of k (fresh x)) come.come
        (items-greedy half_span_of tells half-lies k x (λ t like. half_at-answered t)) in
        let match_items : greedy span_of h (fresh x) ≡ as_items ms =
        last-unique span_of tells_match match-one (fresh x) (greedy span_of h (fresh x)) (as_items ms)
        (items-greedy span_of tells_match (match-lies nfa kind earliest) h x (λ t like. match_at-answered t))
        all.come in
        let both = agree h k (fresh x) (record { behind = behind-none x.start; ordered = ordered }) finds in
        sym (matches_in-as_items halves)
        ∙ ap (λ (l : List (Item HalfFound)). matches_in l)
        (half_items ∙ both ∙ ap (λ (l : List (Item Found)). map (item_by end_of) l) match_items)
        ∙ ends-in ms
