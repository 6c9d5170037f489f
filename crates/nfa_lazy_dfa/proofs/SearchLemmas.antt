-- What the steps find is the half match of a search, with its restarts.
use Rattle.nfa_paths.proofs.Common.{◌≡◌, ◌↔◌, ℕ, inl, inr, Bool, true, false, List, refl, sym, ap, arith, ◌∙◌, subst, Option, None, Some, MatchBool, is_some, option_and_then, cases_lt, IsBoundary, HalfFound, Search, is_anchored, MatchKind, Automaton, Pair, node_at, pattern_of, last_of, path_half, is_utf8_empty, raised, EndsOnBoundary, IsWhole, IsScanAnswer, SplitsCharacter, IsKeptAnswer, IsRestartedAnswer, IsHalfAnswer}
use Rattle.nfa_paths.proofs.PathToLemmas.{EndsWith-last}
use Rattle.nfa_paths.proofs.AnswerLemmas.{ends_on_boundary, scan_answer-leads}
use Rattle.nfa_paths.proofs.ExistenceLemmas.{search_answer-exists}
use Rattle.nfa_lazy_dfa.specs.Configurations.{StepsFindTheHalf, IsWholeHalf, FindsSplit, IsKeptHalf, IsRestartedHalf, IsStepsHalf, scan_half}
use Rattle.nfa_lazy_dfa.proofs.AnswerLemmas.{steps_find}

module _ (nfa : Automaton) (kind : MatchKind) (earliest : Bool) where
  -- the pattern and the end of an answer, and whether it is whole
  record Ends (x : Search) (p : List Pair) : Type 0 where
    half : HalfFound
    is : path_half nfa p ≡ Some half
    whole : EndsOnBoundary x p ↔ IsBoundary x.haystack half.offset

  ends : (x : Search) (p : List Pair) → IsScanAnswer nfa x kind earliest (Some p) → Ends x p
  ends x p answers =
      let to = scan_answer-leads nfa x kind earliest p answers in
      let last : last_of p ≡ Some to.end = EndsWith-last None to.end p to.path.ends in
      of to.end last (pattern_of (node_at nfa to.end.0)) refl to.matches
    where
      of : (v : Pair) → last_of p ≡ Some v → (o : Option ℕ) → pattern_of (node_at nfa v.0) ≡ o
          → is_some (pattern_of (node_at nfa v.0)) ≡ true → Ends x p
      of v last None e m = let never : false ≡ true = rw e at m in absurd (cc never)
      of v last (Some k) e m = record {
        half = record { pattern = k; offset = v.1 };
        is = rw (last, e) refl;
        whole = ends_on_boundary x p last;
      }

  -- an answer by its path, and by its half match

  split-to : (x : Search) → SplitsCharacter nfa kind earliest x → FindsSplit nfa kind earliest x
  split-to x s =
      let k = ends x s.path s.answers in
      record {
        half = k.half;
        is = sym (steps_find nfa x kind earliest (Some s.path) s.answers) ∙ k.is;
        splits = λ b. s.splits (k.whole.1 b);
      }

  whole-to : (x : Search) (i : ℕ) (path : Option (List Pair)) → IsScanAnswer nfa (raised x i) kind earliest path
      → IsWhole x path → IsWholeHalf x (option_and_then (path_half nfa) path)
  whole-to x i None answers whole = whole
  whole-to x i (Some p) answers whole = let k = ends (raised x i) p answers in rw k.is (k.whole.0 whole)

  kept-to : (x : Search) (path : Option (List Pair)) → IsKeptAnswer nfa kind earliest x path
      → IsKeptHalf nfa kind earliest x (option_and_then (path_half nfa) path)
  kept-to x None (inl none) = inl (sym (steps_find nfa x kind earliest None none))
  kept-to x None (inr split) = inr (split-to x split)
  kept-to x (Some p) h =
      let k = ends x p h.0 in
      rw k.is (sym (steps_find nfa x kind earliest (Some p) h.0) ∙ k.is, k.whole.0 h.1)

  restarted-to : (x : Search) (restarts : ℕ) (path : Option (List Pair))
      → IsRestartedAnswer nfa kind earliest x restarts path
      → IsRestartedHalf nfa kind earliest x (option_and_then (path_half nfa) path)
  restarted-to x restarts path h = record {
    restarts = restarts;
    skipped = λ i less. split-to (raised x i) (h.skipped i less);
    is = sym (steps_find nfa (raised x restarts) kind earliest path h.answers);
    whole = whole-to x restarts path h.answers h.whole;
  }

  -- one half match is found by steps

  split-whole : (x : Search) (found : Option HalfFound) → FindsSplit nfa kind earliest x
      → scan_half nfa x kind earliest ≡ found → IsWholeHalf x found → ⊥
  split-whole x found s is whole = grind arith

  kept-one : (x : Search) (f g : Option HalfFound) → IsKeptHalf nfa kind earliest x f
      → IsKeptHalf nfa kind earliest x g → f ≡ g
  kept-one x None None h k = refl
  kept-one x None (Some b) h k = grind arith
  kept-one x (Some a) None h k = grind arith
  kept-one x (Some a) (Some b) h k = sym h.0 ∙ k.0

  restarted-one : (x : Search) (f g : Option HalfFound) → IsRestartedHalf nfa kind earliest x f
      → IsRestartedHalf nfa kind earliest x g → f ≡ g
  restarted-one x f g h k =
      elim (cases_lt h.restarts k.restarts) [
        | inl less ↦ absurd (split-whole (raised x h.restarts) f (k.skipped h.restarts less) h.is h.whole)
        | inr more ↦ elim (cases_lt k.restarts h.restarts) [
          | inl less ↦ absurd (split-whole (raised x k.restarts) g (h.skipped k.restarts less) k.is k.whole)
          | inr few ↦
              let same : h.restarts ≡ k.restarts = omega arith in
              sym h.is ∙ ap (λ (i : ℕ). scan_half nfa (raised x i) kind earliest) same ∙ k.is
        ]
      ]

  steps-one : (x : Search) (f g : Option HalfFound) → IsStepsHalf nfa kind earliest x f
      → IsStepsHalf nfa kind earliest x g → f ≡ g
  steps-one x f g = of (is_utf8_empty nfa) (is_anchored x.anchored)
    where
      of : (b c : Bool)
          → MatchBool b (MatchBool c (IsKeptHalf nfa kind earliest x f) (IsRestartedHalf nfa kind earliest x f))
          (scan_half nfa x kind earliest ≡ f)
          → MatchBool b (MatchBool c (IsKeptHalf nfa kind earliest x g) (IsRestartedHalf nfa kind earliest x g))
          (scan_half nfa x kind earliest ≡ g) → f ≡ g
      of true true h k = kept-one x f g h k
      of true false h k = restarted-one x f g h k
      of false c h k = sym h ∙ k

  -- the half match of a search

  half-to : (x : Search) (found : Option HalfFound) → IsHalfAnswer nfa kind earliest x found
      → IsStepsHalf nfa kind earliest x found
  half-to x found h =
      subst (IsStepsHalf nfa kind earliest x) (sym h.found_is)
      (of (is_utf8_empty nfa) (is_anchored x.anchored) h.restarts h.path h.answers)
    where
      of : (b c : Bool) (restarts : ℕ) (path : Option (List Pair))
          → MatchBool b (MatchBool c ((restarts ≡ 0) × IsKeptAnswer nfa kind earliest x path)
          (IsRestartedAnswer nfa kind earliest x restarts path))
          ((restarts ≡ 0) × IsScanAnswer nfa x kind earliest path)
          → MatchBool b (MatchBool c (IsKeptHalf nfa kind earliest x (option_and_then (path_half nfa) path))
          (IsRestartedHalf nfa kind earliest x (option_and_then (path_half nfa) path)))
          (scan_half nfa x kind earliest ≡ option_and_then (path_half nfa) path)
      of true true restarts path h = kept-to x path h.1
      of true false restarts path h = restarted-to x restarts path h
      of false c restarts path h = sym (steps_find nfa x kind earliest path h.1)

  -- so that of the search, which has one, is the one that the steps find
  half-back : (x : Search) (found : Option HalfFound) → IsStepsHalf nfa kind earliest x found
      → IsHalfAnswer nfa kind earliest x found
  half-back x found h =
      let a = search_answer-exists nfa kind earliest x in
      let half = option_and_then (path_half nfa) a.1 in
      let made : IsHalfAnswer nfa kind earliest x half =
      record { restarts = a.0; path = a.1; answers = a.2; found_is = refl } in
      rw (steps-one x found half h (half-to x half made)) made

pub steps-find-half : StepsFindTheHalf
steps-find-half nfa x kind earliest found = (half-to nfa kind earliest x found, half-back nfa kind earliest x found)
