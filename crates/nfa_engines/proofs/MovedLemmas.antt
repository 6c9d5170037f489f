-- Graphs whose paths are the same, but for a distance, and their answers of each kind.
use Rattle.regex_search_core.specs.declared.search.MatchKind.TheVariants.{All}
use Rattle.nfa_paths.proofs.PathToLemmas.{PathTo-along}
use Rattle.nfa_paths.proofs.SameScanLemmas.{Explored, explored}
use Rattle.nfa_paths.proofs.MemberLemmas.{In-map, In-mapped}
use Rattle.nfa_paths.proofs.Common.{◌≡◌, ℕ, ◌+◌, ◌↔◌, ◌∙◌, inl, inr, Bool, true, false, List, [], ◌∷◌, map, refl, ap, subst, arith, Option, None, Some, option_map, Automaton, MatchKind, Search, Pair, ComesBefore, WantedAt, PathTo, NoPath, Passes, IsFirstTo, IsEnd, IsLeastEnd, IsGreatestEnd, IsLastOfFirsts, IsScanAnswer, LeftmostFirst, sym, In, Earlier, HeadIs, NoRepeats, Linked, EndsWith, BeforeAfter}
use Rattle.nfa_paths.proofs.FirstStartLemmas.{put-linked}

-- the pair, this many positions to the right
abbrev pub moved : ℕ → Pair → Pair
moved k v = (v.0, v.1 + k)

-- each pair of the path
abbrev pub moved_path : ℕ → List Pair → List Pair
moved_path k p = map (moved k) p

-- two pairs that move to one are one
pub moved-injective : (k : ℕ) (v w : Pair) → moved k v ≡ moved k w → v ≡ w
moved-injective k v w e = grind arith

-- and so two paths
pub moved_path-injective : (k : ℕ) (p q : List Pair) → moved_path k p ≡ moved_path k q → p ≡ q
moved_path-injective k [] [] e = refl
moved_path-injective k [] (b ∷ q) e = cc
moved_path-injective k (a ∷ p) [] e = cc
moved_path-injective k (a ∷ p) (b ∷ q) e = grind (arith, moved-injective, moved_path-injective k p q)

module _ (k : ℕ) (g h : Explored) where
  -- a path of the first graph to a match that moves to the one of the second
  pub record IsMoved (n : Pair) (q : List Pair) : Type 0 where
    pub end : Pair
    pub along : List Pair
    pub path : PathTo g.edges g.starts end along
    pub matches : Passes g.is_match end
    pub end_is : n ≡ moved k end
    pub along_is : q ≡ moved_path k along

  -- the paths to matches of the second graph are those of the first, moved, in the same order
  pub record ArePathsMoved : Type 0 where
    pub to : (m : Pair) (p : List Pair) → PathTo g.edges g.starts m p → Passes g.is_match m
        → PathTo h.edges h.starts (moved k m) (moved_path k p)
    pub back : (n : Pair) (q : List Pair) → PathTo h.edges h.starts n q → Passes h.is_match n → IsMoved n q
    pub order : (m n : Pair) (p q : List Pair) → PathTo g.edges g.starts m p → PathTo g.edges g.starts n q
        → ComesBefore g.edges p q ↔ ComesBefore h.edges (moved_path k p) (moved_path k q)
    pub stays : (m : Pair) → Passes g.is_match m ↔ Passes h.is_match (moved k m)

  -- some matches of the first graph, and where they move to
  record AreSetsMoved (P Q : Pair → Type 0) : Type 0 where
    to : (m : Pair) → P m → Q (moved k m)
    back : (m : Pair) → Q (moved k m) → P m
    matches : (m : Pair) → P m → Passes g.is_match m
    matches_to : (n : Pair) → Q n → Passes h.is_match n

module _ {k : ℕ} {g h : Explored} (same : ArePathsMoved k g h) where
  module _ {P Q : Pair → Type 0} (sets : AreSetsMoved k g h P Q) where
    none-moved : NoPath g.edges g.starts P → NoPath h.edges h.starts Q
    none-moved none = λ n q w t.
        let b = same.back n q w (sets.matches_to n t) in
        none b.end b.along b.path (sets.back b.end (subst Q b.end_is t))

    first-moved : (p : List Pair) → IsFirstTo g.edges g.starts P p → IsFirstTo h.edges h.starts Q (moved_path k p)
    first-moved p f = record {
      end = moved k f.end;
      path = same.to f.end p f.path (sets.matches f.end f.wanted);
      wanted = sets.to f.end f.wanted;
      first = λ n q w t.
          let b = same.back n q w (sets.matches_to n t) in
          grind (arith, f.first b.end b.along b.path, sets.back b.end, same.order f.end b.end p b.along f.path b.path);
    }

    first-back : (m : Pair) (p : List Pair) → PathTo g.edges g.starts m p → P m
        → IsFirstTo h.edges h.starts Q (moved_path k p) → IsFirstTo g.edges g.starts P p
    first-back m p path is f = record {
      end = m;
      path = path;
      wanted = is;
      first = λ n q w t.
          elim (f.first (moved k n) (moved_path k q) (same.to n q w (sets.matches n t)) (sets.to n t)) [
            | inl e ↦ inl (moved_path-injective k q p e)
            | inr c ↦ inr ((same.order m n p q path w).1 c)
          ];
    }

  -- all matches
  all : AreSetsMoved k g h (Passes g.is_match) (Passes h.is_match)
  all = grind arith

  -- those at a position
  those_at : (e : ℕ) → AreSetsMoved k g h (WantedAt (Passes g.is_match) e) (WantedAt (Passes h.is_match) (e + k))
  those_at e = grind arith

  -- and one
  only : (m n : Pair) → n ≡ moved k m → Passes g.is_match m → Passes h.is_match n
      → AreSetsMoved k g h (λ v. v ≡ m) (λ v. v ≡ n)
  only m n is matches matches_to = grind (arith, moved-injective)

  end-moved : (e : ℕ) → IsEnd g.edges g.starts (Passes g.is_match) e
      → IsEnd h.edges h.starts (Passes h.is_match) (e + k)
  end-moved e f =
      let path = same.to f.end f.along f.path f.wanted in grind (arith, path, (same.stays f.end).0, f.at)

  least-moved : (e : ℕ) → IsLeastEnd g.edges g.starts (Passes g.is_match) e
      → IsLeastEnd h.edges h.starts (Passes h.is_match) (e + k)
  least-moved e f = record {
    is_end = end-moved e f.is_end;
    least = λ n q w t.
        let b = same.back n q w t in grind (arith, b, f.least b.end b.along b.path b.matches);
  }

  greatest-moved : (e : ℕ) → IsGreatestEnd g.edges g.starts (Passes g.is_match) e
      → IsGreatestEnd h.edges h.starts (Passes h.is_match) (e + k)
  greatest-moved e f = record {
    is_end = end-moved e f.is_end;
    greatest = λ n q w t.
        let b = same.back n q w t in grind (arith, b, f.greatest b.end b.along b.path b.matches);
  }

  last-moved : (e : ℕ) (p : List Pair) → IsLastOfFirsts g.edges g.starts (Passes g.is_match) e p
      → IsLastOfFirsts h.edges h.starts (Passes h.is_match) (e + k) (moved_path k p)
  last-moved e p f = record {
    end = moved k f.end;
    wanted = (those_at e).to f.end f.wanted;
    first = first-moved (only f.end (moved k f.end) refl f.wanted.wanted ((same.stays f.end).0 f.wanted.wanted)) p
        f.first;
    last = λ n q at first.
        let b = same.back n q (PathTo-along h.edges h.starts first.wanted first.path) at.wanted in
        let here = (those_at e).back b.end (subst (WantedAt (Passes h.is_match) (e + k)) b.end_is at) in
        let first_here = first-back (only b.end n b.end_is b.matches at.wanted) b.end b.along b.path refl
        (rw b.along_is at first) in
        elim (f.last b.end b.along here first_here) [
          | inl s ↦ inl (b.along_is ∙ ap (moved_path k) s)
          | inr c ↦ inr (rw b.along_is ((same.order b.end f.end b.along p b.path
              (PathTo-along g.edges g.starts f.first.wanted f.first.path)).0 c))
        ];
  }

-- the answers of each kind
pub scan-moved : (nfa : Automaton) (k : ℕ) (x y : Search) → ArePathsMoved k (explored nfa x) (explored nfa y)
    → (kind : MatchKind) (earliest : Bool) (r : Option (List Pair)) → IsScanAnswer nfa x kind earliest r
    → IsScanAnswer nfa y kind earliest (option_map (moved_path k) r)
scan-moved nfa k x y same LeftmostFirst false None h = none-moved same (all same) h
scan-moved nfa k x y same LeftmostFirst true None h = none-moved same (all same) h
scan-moved nfa k x y same All false None h = none-moved same (all same) h
scan-moved nfa k x y same All true None h = none-moved same (all same) h
scan-moved nfa k x y same LeftmostFirst false (Some p) h = first-moved same (all same) p h
scan-moved nfa k x y same LeftmostFirst true (Some p) h =
    (h.0 + k, least-moved same h.0 h.1, first-moved same (those_at same h.0) p h.2)
scan-moved nfa k x y same All false (Some p) h = (h.0 + k, greatest-moved same h.0 h.1, last-moved same h.0 p h.2)
scan-moved nfa k x y same All true (Some p) h = (h.0 + k, least-moved same h.0 h.1, last-moved same h.0 p h.2)

module _ (k : ℕ) where
  -- lists that move

  NoRepeats-moved : (p : List Pair) → NoRepeats p ↔ NoRepeats (moved_path k p)
  NoRepeats-moved [] = (λ h. h, λ h. h)
  NoRepeats-moved (a ∷ p) =
      let rest = NoRepeats-moved p in (
        λ h. (
          λ i. let r = In-mapped (moved k) (moved k a) p i in h.0 (rw (moved-injective k a r.0 r.2) r.1),
          rest.0 h.1,
        ),
        λ h. (λ i. h.0 (In-map (moved k) a p i), rest.1 h.1),
      )

  HeadIs-moved : (v : Pair) (p : List Pair) → HeadIs v p → HeadIs (moved k v) (moved_path k p)
  HeadIs-moved = grind arith

  EndsWith-moved : (m : Pair) (p : List Pair) → EndsWith m p → EndsWith (moved k m) (moved_path k p)
  EndsWith-moved m [] h = h
  EndsWith-moved m (a ∷ []) h = ap (moved k) h
  EndsWith-moved m (a ∷ (b ∷ p)) h = EndsWith-moved m (b ∷ p) h

  EndsWith-back : (n : Pair) (p : List Pair) → EndsWith n (moved_path k p) → (m : Pair) × EndsWith m p × (n ≡ moved k m)
  EndsWith-back n [] h = absurd h
  EndsWith-back n (a ∷ []) h = (a, refl, sym h)
  EndsWith-back n (a ∷ (b ∷ p)) h = EndsWith-back n (b ∷ p) h

  Earlier-moved : (es : List Pair) (a b : Pair) → Earlier es a b ↔ Earlier (moved_path k es) (moved k a) (moved k b)
  Earlier-moved [] a b = grind arith
  Earlier-moved (e ∷ es) a b = grind (arith, moved-injective, Earlier-moved es a b)

-- The starts are inside, edges lead from pairs inside to pairs inside, and each edge from a pair inside moves. Matches
-- move to matches.
pub record AreEdgesMoved (k : ℕ) (g h : Explored) (Inside : Pair → Type 0) : Type 0 where
  pub onward : (v w : Pair) → Inside v → In w (g.edges v) → Inside w
  pub from : (v : Pair) → In v g.starts → Inside v
  pub edges_are : (v : Pair) → Inside v → h.edges (moved k v) ≡ moved_path k (g.edges v)
  pub starts_are : h.starts ≡ moved_path k g.starts
  pub matches_are : (m : Pair) → Passes g.is_match m ↔ Passes h.is_match (moved k m)

module _ {k : ℕ} {g h : Explored} {Inside : Pair → Type 0} (same : AreEdgesMoved k g h Inside) where
  Linked-moved : (v : Pair) (p : List Pair) → Inside v → HeadIs v p → Linked g.edges p → Linked h.edges (moved_path k p)
  Linked-moved v [] inside head linked = linked
  Linked-moved v (a ∷ []) inside head linked = linked
  Linked-moved v (a ∷ (b ∷ p)) inside head linked =
      grind (arith, same.edges_are, same.onward, In-map (moved k), Linked-moved b (b ∷ p))

  -- a list that moves to the linked one
  record ComesOf (v : Pair) (q : List Pair) : Type 0 where
    along : List Pair
    head : HeadIs v along
    linked : Linked g.edges along
    is : q ≡ moved_path k along

  Linked-back : (v : Pair) (q : List Pair) → Inside v → HeadIs (moved k v) q → Linked h.edges q → ComesOf v q
  Linked-back v [] inside head linked = absurd head
  Linked-back v (a ∷ []) inside head linked =
      record { along = v ∷ []; head = refl; linked = tt; is = ap (λ (z : Pair). z ∷ []) head }
  Linked-back v (a ∷ (b ∷ q)) inside head linked =
      let from = In-mapped (moved k) b (g.edges v) (rw (head, same.edges_are v inside) at linked.0) in
      let rest = Linked-back from.0 (b ∷ q) (same.onward v from.0 inside from.1) from.2 linked.1 in
      record {
        along = v ∷ rest.along;
        head = refl;
        linked = put-linked g.edges v from.0 rest.along from.1 rest.head rest.linked;
        is = λ i. head i ∷ rest.is i;
      }

  BeforeAfter-moved : (v : Pair) (p q : List Pair) → Inside v → Linked g.edges (v ∷ p)
      → BeforeAfter g.edges v p q ↔ BeforeAfter h.edges (moved k v) (moved_path k p) (moved_path k q)
  BeforeAfter-moved v [] q inside linked = grind arith
  BeforeAfter-moved v (a ∷ p) q inside linked =
      grind (arith, Earlier-moved, moved-injective, same.onward, BeforeAfter-moved a p)

  order-moved : (v : Pair) (p q : List Pair) → Inside v → HeadIs v p → Linked g.edges p
      → ComesBefore g.edges p q ↔ ComesBefore h.edges (moved_path k p) (moved_path k q)
  order-moved = grind (arith, BeforeAfter-moved, moved-injective)

  pub paths-moved : ArePathsMoved k g h
  paths-moved = record {
    to = λ m p w t. record {
      start = moved k w.start;
      among = rw same.starts_are (In-map (moved k) w.start g.starts w.among);
      head = HeadIs-moved k w.start p w.head;
      once = (NoRepeats-moved k p).0 w.once;
      linked = Linked-moved w.start p (same.from w.start w.among) w.head w.linked;
      ends = EndsWith-moved k m p w.ends;
    };
    back = λ n q w t.
        let at = In-mapped (moved k) w.start g.starts (rw same.starts_are at w.among) in
        let from = Linked-back at.0 q (same.from at.0 at.1) (rw at.2 at w.head) w.linked in
        let end = EndsWith-back k n from.along (rw from.is at w.ends) in
        record {
          end = end.0;
          along = from.along;
          path = record {
            start = at.0;
            among = at.1;
            head = from.head;
            once = (NoRepeats-moved k from.along).1 (rw from.is at w.once);
            linked = from.linked;
            ends = end.1;
          };
          matches = (same.matches_are end.0).1 (rw end.2 at t);
          end_is = end.2;
          along_is = from.is;
        };
    order = λ m n p q w v. order-moved w.start p q (same.from w.start w.among) w.head w.linked;
    stays = same.matches_are;
  }
