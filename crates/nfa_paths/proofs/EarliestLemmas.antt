-- What the flag `earliest` changes, which is no path, and a match that one search found is that of each such search.
use Rattle.nfa_paths.proofs.Common.{ℕ, inl, inr, Bool, false, List, refl, arith, Option, is_some, not, cases_Bool, Search, MatchKind, Automaton, Pair, is_utf8_empty, IsSearchAnswer, IsBoolAnswer, ◌≡◌, Some, subst, option_and_then, Found, slot_count, match_of, slot_row, path_pattern, IsFindAnswer}
use Rattle.nfa_paths.proofs.ExistenceLemmas.{search_answer-exists, search_answers-agree}
use Rattle.nfa_paths.proofs.SameScanLemmas.{search-same, ExploresSame}
use Rattle.nfa_paths.specs.Paths.{IsSureMatch}
use Rattle.nfa_paths.proofs.AnswerLemmas.{search_answer-unique}

-- the search with this `earliest` flag
abbrev pub asked : Search → Bool → Search
asked x sooner = record x { earliest = sooner }

module _ (nfa : Automaton) where
  -- it explores the same
  pub same-asked : (x : Search) (sooner : Bool) → ExploresSame nfa (asked x sooner) nfa.anchored x.anchored x.earliest
  same-asked x sooner = record { bound = refl; starts_are = λ s. refl }

  pub search_answer-asked : (kind : MatchKind) (earliest : Bool) (x : Search) (sooner : Bool) (n : ℕ)
      (r : Option (List Pair)) → IsSearchAnswer nfa kind earliest (asked x sooner) n r
      → IsSearchAnswer nfa kind earliest x n r
  search_answer-asked kind earliest x sooner = search-same (same-asked x sooner) kind earliest

  -- a search that is earliest if a match may end anywhere finds whether there is a match
  pub found_answer-earliest : (kind : MatchKind) (x : Search) (n : ℕ) (p : Option (List Pair))
      → IsSearchAnswer nfa kind (not (is_utf8_empty nfa)) x n p → IsBoolAnswer nfa kind false x (is_some p)
  found_answer-earliest kind x n p h =
      elim (cases_Bool (is_utf8_empty nfa)) [
        | inl bound ↦ grind arith
        | inr anywhere ↦
            let a = search_answer-exists nfa kind false x in
            record {
              restarts = a.0;
              path = a.1;
              answers = a.2;
              found_is =
                  search_answers-agree nfa x anywhere kind kind (not (is_utf8_empty nfa)) false n a.0 p a.1 h a.2;
            }
      ]

module _ (nfa : Automaton) (kind : MatchKind) (earliest : Bool) (x : Search) where
  -- the match that a path is worth
  abbrev worth : Option (List Pair) → Option Found
  worth p = match_of (option_and_then (path_pattern nfa) p) (slot_row nfa (slot_count nfa.groups) p)

  -- a search has one match
  pub match-unique : (a b : Option Found) → IsFindAnswer nfa kind earliest x a
      → IsFindAnswer nfa kind earliest x b → a ≡ b
  match-unique a b h k = grind (arith, search_answer-unique)

  -- so a match that was found is sure
  pub match-sure : (m : Found) → IsFindAnswer nfa kind earliest x (Some m) → IsSureMatch nfa kind earliest x m
  match-sure m h = λ found k. match-unique found (Some m) k h

  -- and a match that is sure is the answer, since there is one
  pub sure-match : (m : Found) → IsSureMatch nfa kind earliest x m → IsFindAnswer nfa kind earliest x (Some m)
  sure-match m sure =
      let answer = search_answer-exists nfa kind earliest x in
      let is : IsFindAnswer nfa kind earliest x (worth answer.1) =
      record { restarts = answer.0; path = answer.1; answers = answer.2; found_is = refl } in
      subst (λ (o : Option Found). IsFindAnswer nfa kind earliest x o) (sure (worth answer.1) is) is
