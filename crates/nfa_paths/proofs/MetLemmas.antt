-- What a search finds that drops what is after a match: the first path that ends before a limit, and sets of patterns.
use Rattle.nfa_paths.proofs.Common.{◌≡◌, ℕ, ◌+◌, ◌<◌, ◌≤◌, ◌↔◌, ◌∙◌, inl, inr, Bool, true, List, [], ◌∷◌, map, length, refl, sym, ap, subst, arith, rules, None, Some, cases_lt, with_pattern, size_of_set, Search, Automaton, Pair, In, NoPath, IsFirstTo, IsFirstPath, Slots, Hit, ExploresTo, IsFoundBy, Passes, WantedBefore, first_match, before_match, is_resting, space, capture, edges, starts, last_of, path_pattern, HoldsPattern, IsFirstBefore, IsInsertable, pattern_at, Explore, false, WantedAt, Task, Scanning, rests, NoneBefore, IsSelectedPath, IsOverlapResult, LeftmostFirst}
use Rattle.nfa_paths.proofs.GainLemmas.{wanted-shape, least-wanted}
use Rattle.nfa_paths.proofs.PathToLemmas.{EndsWith-last, IsFirstTo-unique}
use Rattle.nfa_paths.proofs.ScanAnswerLemmas.{starts-from}
use Rattle.nfa_paths.proofs.ScanLemmas.{NoneBefore-start}
use Rattle.nfa_paths.proofs.SetLemmas.{holds-with, size-none, length-with}
use Rattle.nfa_paths.proofs.MemberLemmas.{Test, tested, same_test}
use Rattle.nfa_paths.proofs.SameScanLemmas.{before-along, first-along, at-along}
use Rattle.nfa_paths.proofs.KindsLemmas.{first-found, found-none, found-some}
use Rattle.nfa_paths.proofs.PatternLemmas.{ends-pattern}
use Rattle.nfa_paths.proofs.CutLemmas.{first_match-cut}

-- tests that say the same of a front

pub first_match-same : (t u : Pair → Bool) (front : List (Pair × Slots))
    → ((a : Pair × Slots) → In a front → t a.0 ≡ u a.0) → first_match t front ≡ first_match u front
first_match-same t u [] same = refl
first_match-same t u (a ∷ front) same =
    rw (same a (inl refl), first_match-same t u front (λ b i. same b (inr i))) refl

pub before_match-same : (t u : Pair → Bool) (front : List (Pair × Slots))
    → ((a : Pair × Slots) → In a front → t a.0 ≡ u a.0) → before_match t front ≡ before_match u front
before_match-same t u [] same = refl
before_match-same t u (a ∷ front) same =
    rw (same a (inl refl), before_match-same t u front (λ b i. same b (inr i))) refl

-- a test that accepts only wanted pairs, and all wanted pairs before e
pub record Between (wants : Pair → Bool) (e : ℕ) (target : Pair → Bool) : Type 0 where
  pub sub : (v : Pair) → target v ≡ true → wants v ≡ true
  pub all : (v : Pair) → wants v ≡ true → v.1 < e → target v ≡ true

pub Between-less : {wants target : Pair → Bool} {e : ℕ} → Between wants (e + 1) target → Between wants e target
Between-less {wants} {target} {e} b = record { sub = b.sub; all = λ v t l. b.all v t (omega arith) }

pub Between-same : {wants target : Pair → Bool} {e : ℕ} → Between wants (e + 1) target → (v : Pair) → v.1 ≡ e
    → target v ≡ wants v
Between-same {wants} {target} {e} b v at = same_test (target v) (wants v) (b.sub v) (λ t. b.all v t (omega arith))

-- what is wanted before e, as a test
module _ (wants : Pair → Bool) (e : ℕ) where
  pub tells_before : Test (WantedBefore (Passes wants) e)
  tells_before = tested (λ v. grind arith)

  abbrev pub before_target : Pair → Bool
  before_target = tells_before.passes

  pub before_is : (v : Pair) → before_target v ≡ true → WantedBefore (Passes wants) e v
  before_is = tells_before.is

  pub Between-before : (d : ℕ) → d ≤ e → Between wants d before_target
  Between-before d less = grind (arith, before_is)

-- The set before is `old`: wanted is what it has room for.
module _ (nfa : Automaton) (x : Search) (old : List Bool) (wants : Pair → Bool)
    (tells : (v : Pair) → (wants v ≡ true) ↔ IsInsertable nfa x (length old) v) where
  -- a first path before the limit
  abbrev First : ℕ → List Pair → Type 0
  First limit p = IsFirstTo (edges nfa x) (starts nfa x) (WantedBefore (Passes wants) limit) p

  First-held : (limit : ℕ) (p : List Pair) → First limit p
      ↔ IsFirstTo (edges nfa x) (starts nfa x) (WantedBefore (IsInsertable nfa x (length old)) limit) p
  First-held limit p =
      let to = before-along (λ v. (tells v).0) limit in
      let back = before-along (λ v. (tells v).1) limit in (
        first-along (edges nfa x) (starts nfa x) to back (Some p),
        first-along (edges nfa x) (starts nfa x) back to (Some p),
      )

  -- what was found is the end of the first path before the limit, or there is none
  abbrev pub Best : ℕ → Hit → Type 0
  Best limit None = NoPath (edges nfa x) (starts nfa x) (WantedBefore (Passes wants) limit)
  Best limit (Some a) = (p : List Pair) × First limit p × (last_of p ≡ Some a.0)

  -- the search for what is wanted before the limit finds it
  pub Best-found : (limit turns : ℕ) (slots : Slots) (g : Hit)
      → ExploresTo (space nfa x) (before_target wants limit) turns None [] (map Explore (starts nfa x)) slots g
      → Best limit g
  Best-found limit turns slots g answer =
      of g (first-found (space nfa x) (is_resting nfa) wants slots (wanted-shape nfa x old wants tells)
      (tells_before wants limit) (λ v w. w.wanted) turns g answer)
    where
      of : (g : Hit)
          → IsFoundBy (capture nfa) slots (IsFirstPath (edges nfa x) (starts nfa x) (WantedBefore (Passes wants) limit))
          turns g
          → Best limit g
      of = grind (arith, found-none, found-some, EndsWith-last)

  Best-start : Best x.start None
  Best-start = NoneBefore-start (space nfa x) (is_resting nfa) wants [] (wanted-shape nfa x old wants tells) x.start
      (starts-from nfa x)

  -- so the first path before the limit has the pattern of what was found
  Best-pattern : (limit : ℕ) (a : Pair × Slots) → Best limit (Some a) → (p : List Pair) → First limit p
      → path_pattern nfa p ≡ pattern_at nfa a.0
  Best-pattern limit a best p first =
      let same : best.0 ≡ p = search (rules, IsFirstTo-unique) in
      ap (path_pattern nfa) (sym same) ∙ ends-pattern nfa best.0 a.0 best.2

  -- The set holds the patterns of the first paths before each limit up to e. The last of these is what was found.
  pub record Exact (e : ℕ) (g : Hit) (new : List Bool) : Type 0 where
    pub best : Best e g
    pub sound : (k : ℕ) → HoldsPattern new k → IsFirstBefore nfa x (length old) k
    pub complete : (limit : ℕ) → limit ≤ e → (p : List Pair) → First limit p → (k : ℕ) → path_pattern nfa p ≡ Some k
        → HoldsPattern new k

  pub Exact-start : size_of_set old ≡ 0 → Exact x.start None old
  Exact-start empty = record {
    best = Best-start;
    sound = λ k h. absurd (size-none old empty k h);
    complete = λ limit below p first k is.
        absurd (Best-start first.end p first.path
        (grind arith));
  }

  -- as long as nothing else is found
  Exact-later : {e : ℕ} {g : Hit} {new : List Bool} → Exact e g new → (limit : ℕ) → Best limit g → (p : List Pair)
      → First limit p → (k : ℕ) → path_pattern nfa p ≡ Some k → HoldsPattern new k
  Exact-later {e} {g = None} h limit best p first k is = absurd (best first.end p first.path first.wanted)
  Exact-later {e} {g = Some a} h limit best p first k is =
      let before = h.best in
      h.complete e (omega arith) before.0 before.1 k
      (Best-pattern e a before before.0 before.1 ∙ sym (Best-pattern limit a best p first) ∙ is)

  pub Exact-next : {e : ℕ} {g : Hit} {new : List Bool} → Best (e + 1) g → Exact e g new → Exact (e + 1) g new
  Exact-next {e} {g} best h = record {
    best = best;
    sound = h.sound;
    complete = λ limit below p first k is.
        elim (cases_lt limit (e + 1)) [
          | inl less ↦ h.complete limit (omega arith) p first k is
          | inr more ↦
              let at : limit ≡ e + 1 = omega arith in
              Exact-later h (e + 1) best p (subst (λ n. First n p) at first) k is
        ];
  }

  -- one more match
  pub Exact-match : {e k : ℕ} {g : Hit} {mid new : List Bool} (a : Pair × Slots) → Best (e + 1) (Some a)
      → Exact e g mid → pattern_at nfa a.0 ≡ Some k → k < length mid → new ≡ with_pattern mid k
      → Exact (e + 1) (Some a) new
  Exact-match {e} {k} {g} {mid} {new} a best h pattern_is below put = record {
    best = best;
    sound = λ j held.
        elim ((holds-with mid k j).0 (rw put at held)) [
          | inl had ↦ h.sound j had
          | inr here ↦ record {
            limit = e + 1;
            along = best.0;
            first = (First-held (e + 1) best.0).0 best.1;
            pattern_is = Best-pattern (e + 1) a best best.0 best.1 ∙ pattern_is ∙ ap Some here.1;
          }
        ];
    complete = λ limit up_to p first j is.
        rw put ((holds-with mid k j).1 (elim (cases_lt limit (e + 1)) [
          | inl less ↦ inl (h.complete limit (omega arith) p first j is)
          | inr more ↦
              let at : limit ≡ e + 1 = omega arith in
              let both : Some k ≡ Some j =
              sym pattern_is ∙ sym (Best-pattern (e + 1) a best p (subst (λ n. First n p) at first)) ∙ is in
              grind arith
        ]));
  }

  -- in the end
  pub Exact-end : {e : ℕ} {g : Hit} {new : List Bool} → Exact e g new → length new ≡ length old
      → ((limit : ℕ) → e ≤ limit → Best limit g) → (k : ℕ) → HoldsPattern new k ↔ IsFirstBefore nfa x (length new) k
  Exact-end {e} {g} {new} h size over k = (
    λ held. rw size (h.sound k held),
    λ met.
        let first : IsFirstBefore nfa x (length old) k = rw size at met in
        let p = (First-held first.limit first.along).1 first.first in
        elim (cases_lt first.limit e) [
          | inl less ↦ h.complete first.limit (omega arith) first.along p k first.pattern_is
          | inr more ↦ Exact-later h first.limit (over first.limit more) first.along p k first.pattern_is
        ],
  )

-- The set before is `old`: wanted is what it has room for.
module _ (nfa : Automaton) (x : Search) (old : List Bool) (wants : Pair → Bool)
    (tells : (v : Pair) → (wants v ≡ true) ↔ IsInsertable nfa x (length old) v) where
  -- a pair at e as the end of the first path that ends there
  pub record FirstAt (e : ℕ) (a : Pair × Slots) : Type 0 where
    pub path : List Pair
    pub first : IsFirstTo (edges nfa x) (starts nfa x) (WantedAt (Passes wants) e) path
    pub is : first.end ≡ a.0

  -- the first wanted pair of a front is, also if the pairs after it were not followed
  pub FirstAt-front : {slots : Slots} {e : ℕ} {Seen : Pair → Type 0} {spent : ℕ} {front : List (Pair × Slots)}
      {work : List Task} {current : Slots} → Scanning (space nfa x) wants slots e Seen spent front work current
      → ((b : Pair × Slots) → In b front → (is_resting nfa b.0 ≡ true) × (b.0.1 ≡ e)) → (a : Pair × Slots)
      → first_match wants front ≡ Some a → FirstAt e a
  FirstAt-front s rests a is =
      let first = found-some (first_match-cut (space nfa x) (is_resting nfa) wants
      (wanted-shape nfa x old wants tells) s rests is) in
      record { path = first.0; first = first.1; is = first.2 }

  -- no accepting path has a permitted end
  module _ (none : NoPath (edges nfa x) (starts nfa x) (Passes wants)) where
    pub First-none : (earliest : Bool) → size_of_set old ≡ 0 → IsOverlapResult nfa x LeftmostFirst earliest old old
    First-none earliest empty = grind (arith, of)
      where
        of : (b : Bool) → IsSelectedPath nfa x b (length old) None
        of false = first-along (edges nfa x) (starts nfa x) (λ v. (tells v).0) (λ v. (tells v).1) None none
        of true = first-along (edges nfa x) (starts nfa x) (λ v. (tells v).0) (λ v. (tells v).1) None none

  -- the first front with a wanted pair: its first has the pattern of the earliest path
  pub FirstAt-found : {e k : ℕ} {a : Pair × Slots} {new : List Bool} → NoneBefore (space nfa x) wants e
      → FirstAt e a
      → pattern_at nfa a.0 ≡ Some k → size_of_set old ≡ 0 → new ≡ with_pattern old k
      → IsOverlapResult nfa x LeftmostFirst true old new
  FirstAt-found {e} {k} {a} {new} none f pattern_is empty put =
      let w = at-along (λ v. (tells v).0) e f.first.end f.first.wanted in
      let at_end : pattern_at nfa f.first.end ≡ Some k = rw f.is pattern_is in
      let only : (j : ℕ) → HoldsPattern new j → (j < length old) × (k ≡ j) =
      λ j h. elim ((holds-with old k j).0 (rw put at h)) [ inl o ↦ absurd (size-none old empty j o) | inr b ↦ b ] in
      record {
        capacity = rw put (length-with old k);
        keeps = λ j h. absurd (size-none old empty j h);
        sound = grind arith;
        gains = record {
          full = λ some. absurd (omega arith);
          empty = λ no. record {
            path = Some f.path;
            meant = (
              e,
              least-wanted nfa x old wants tells none f.first.end f.path f.first.path w,
              first-along (edges nfa x) (starts nfa x) (at-along (λ v. (tells v).0) e) (at-along (λ v. (tells v).1) e)
                  (Some f.path) f.first,
            );
            holds = search (rules, EndsWith-last);
          };
        };
      }
