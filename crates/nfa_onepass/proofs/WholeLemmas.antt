-- What sure steps over the whole span give is the answer of the search.
use Rattle.nfa_paths.proofs.Common.{◌≡◌, ◌∙◌, ◌≤◌, ℕ, inl, inr, true, false, List, [], ◌∷◌, refl, sym, ap, subst, arith, Option, None, Some, option_and_then, Automaton, EndsWith, HeadIs, In, IsAnswer, IsScanAnswer, IsSearchAnswer, LeftmostFirst, Linked, NoRepeats, Pair, Search, edges, is_anchored, is_utf8_empty, length, length-replicate, node_at, pattern_of, replicate}
use Rattle.nfa_paths.proofs.ExistenceLemmas.{search_answer-exists}
use Rattle.nfa_paths.proofs.FirstStartLemmas.{of-start, put-linked, start-of}
use Rattle.nfa_paths.proofs.MemberLemmas.{same_some}
use Rattle.nfa_paths.proofs.PathToLemmas.{EndsWith-last, In-cases}
use Rattle.nfa_paths.proofs.RestartLemmas.{slot_row-none}
use Rattle.nfa_onepass.specs.Ways.{IsNowhere, IsTail, IsWhole}

module _ (edges : Pair → List Pair) (m : Pair) where
  -- the list follows edges from the pair to the last one, and has no pair twice
  record IsOnce (v : Pair) (p : List Pair) : Type 0 where
    head : HeadIs v p
    once : NoRepeats p
    linked : Linked edges p
    ends : EndsWith m p

  -- such a list begins with each of its pairs, without those before it
  once-from : (v : Pair) (p : List Pair) → In v p → NoRepeats p → Linked edges p → EndsWith m p
      → (q : List Pair) × IsOnce v q
  once-from v [] i n l e = absurd i
  once-from v (a ∷ []) i n l e = elim i [
    | inl is ↦ (a ∷ [], record { head = sym is; once = n; linked = l; ends = e })
    | inr never ↦ absurd never
  ]
  once-from v (a ∷ (b ∷ p)) i n l e = elim i [
    | inl is ↦ (a ∷ (b ∷ p), record { head = sym is; once = n; linked = l; ends = e })
    | inr j ↦ once-from v (b ∷ p) j n.1 l.1 e
  ]

  -- one more pair before a list
  ends-behind : (a : Pair) (p : List Pair) → EndsWith m p → EndsWith m (a ∷ p)
  ends-behind a [] e = absurd e
  ends-behind a (b ∷ p) e = e

  -- a list that follows edges can be shortened to one that has no pair twice
  once-of : (v : Pair) (p : List Pair) → HeadIs v p → Linked edges p → EndsWith m p → (q : List Pair) × IsOnce v q
  once-of v [] h l e = absurd h
  once-of v (a ∷ []) h l e = (a ∷ [], record { head = h; once = (λ never. never, tt); linked = l; ends = e })
  once-of v (a ∷ (b ∷ p)) h l e =
      let r = once-of b (b ∷ p) refl l.1 e in
      elim (In-cases a r.0) [
        | inl i ↦
            let k = once-from a r.0 i r.1.once r.1.linked r.1.ends in
            (k.0, subst (λ (w : Pair). IsOnce w k.0) h k.1)
        | inr new ↦ (
          a ∷ r.0,
          record {
            head = h;
            once = (new, r.1.once);
            linked = put-linked edges a b r.0 l.0 r.1.head r.1.linked;
            ends = ends-behind a r.0 r.1.ends;
          },
        )
      ]

-- If no path from the start leads to a Match, the answer is that nothing matches.
module _ (nfa : Automaton) (x : Search) (anchored : is_anchored x.anchored ≡ true) (nowhere : IsNowhere nfa x)
    (n : ℕ) where
  none-along : (restarts : ℕ) (path : Option (List Pair)) → IsSearchAnswer nfa LeftmostFirst false x restarts path
      → IsScanAnswer nfa x LeftmostFirst false path → IsAnswer nfa LeftmostFirst false x None (replicate n None)
  none-along restarts None answers scan = record {
    restarts = restarts;
    path = None;
    answers = answers;
    pattern_is = refl;
    slots_are = ap (λ (k : ℕ). replicate {A = Option ℕ} k None) (sym (length-replicate {A = Option ℕ} n None))
        ∙ sym (slot_row-none nfa (length (replicate {A = Option ℕ} n None)));
  }
  none-along restarts (Some p) answers scan =
      let start = scan.path.start in
      let begins = start-of nfa x start scan.path.among in
      absurd (nowhere start.0 scan.end p begins.state_is (record {
        head = subst (λ (v : Pair). HeadIs v p) (ap (λ (a : ℕ). (start.0, a)) (begins.tied (rw anchored refl)))
            scan.path.head;
        linked = scan.path.linked;
        ends = scan.path.ends;
        matches = scan.wanted;
      }))

  pub nowhere-answer : is_utf8_empty nfa ≡ false → IsAnswer nfa LeftmostFirst false x None (replicate n None)
  nowhere-answer anywhere =
      let a = search_answer-exists nfa LeftmostFirst false x in
      none-along a.0 a.1 a.2 (rw anywhere at a.2).1

module _ (nfa : Automaton) (x : Search) (k : ℕ) (slots : List (Option ℕ)) (order : x.start ≤ x.end)
    (anchored : is_anchored x.anchored ≡ true) (w : IsWhole nfa x k slots) where
  -- the search does not find nothing
  found-some : IsScanAnswer nfa x LeftmostFirst false None → ⊥
  found-some none =
      let v : Pair = (w.first, x.start) in
      let p = once-of (edges nfa x) w.end v w.path w.tail.head w.tail.linked w.tail.ends in
      none w.end p.0 (record {
        start = v;
        among = of-start nfa x v (record { state_is = w.begins; from = omega arith; within = order; tied = λ t. refl });
        head = p.1.head;
        once = p.1.once;
        linked = p.1.linked;
        ends = p.1.ends;
      }) w.tail.matches

  answer-along : (restarts : ℕ) (path : Option (List Pair)) → IsSearchAnswer nfa LeftmostFirst false x restarts path
      → IsScanAnswer nfa x LeftmostFirst false path → IsAnswer nfa LeftmostFirst false x (Some k) slots
  answer-along restarts None answers scan = absurd (found-some scan)
  answer-along restarts (Some p) answers scan =
      let start = scan.path.start in
      let begins = start-of nfa x start scan.path.among in
      let at : start.1 ≡ x.start = begins.tied (rw anchored refl) in
      let tail : IsTail nfa x (start.0, x.start) scan.end p = record {
        head = subst (λ (v : Pair). HeadIs v p) (ap (λ (a : ℕ). (start.0, a)) at) scan.path.head;
        linked = scan.path.linked;
        ends = scan.path.ends;
        matches = scan.wanted;
      } in
      let same : start.0 ≡ w.first = same_some start.0 w.first (sym begins.state_is ∙ w.begins) in
      let there = w.ends scan.end p (subst (λ (s : ℕ). IsTail nfa x (s, x.start) scan.end p) same tail) in
      let r = w.only.only start.0 scan.end p begins.state_is tail there in
      record {
        restarts = restarts;
        path = Some p;
        answers = answers;
        pattern_is = sym (ap (λ (o : Option Pair). option_and_then (λ (v : Pair). pattern_of (node_at nfa v.0)) o)
            (EndsWith-last None scan.end p scan.path.ends) ∙ r.0);
        slots_are = r.1;
      }

  pub whole-answer : is_utf8_empty nfa ≡ false → IsAnswer nfa LeftmostFirst false x (Some k) slots
  whole-answer anywhere =
      let a = search_answer-exists nfa LeftmostFirst false x in
      answer-along a.0 a.1 a.2 (rw anywhere at a.2).1
