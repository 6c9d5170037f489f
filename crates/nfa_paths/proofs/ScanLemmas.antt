-- The answers of a scan, position by position.
use Rattle.nfa_paths.proofs.Common.{◌≡◌, ℕ, ◌+◌, ◌≤◌, ◌<◌, inl, inr, Bool, true, List, length, refl, sym, ◌∙◌, arith, rules, Option, None, Some, option_map_or, cases_lt, Pair, Space, In, PathTo, NoPath, IsLeastEnd, IsGreatestEnd, WantedAt, IsLastOfFirsts, IsFirstPath, IsEarliestPath, IsLastPath, IsEarliestLastPath, Slots, Hit, Passes, WantedBefore, IsFoundBy, NoneBefore, LastBefore, EndsBefore, last_match, NoMatch, Scanned, IsFrontier, IsOver}
use Rattle.nfa_paths.proofs.PathToLemmas.{PathTo-along, PathTo-end}
use Rattle.nfa_paths.proofs.MemberLemmas.{Test, tested}
use Rattle.nfa_paths.proofs.FrontierMatchLemmas.{last_match-is}
use Rattle.nfa_paths.proofs.KindsLemmas.{IsFrontier-no_match, IsFrontier-last_match, found-along, found-none, first-found}

-- what is found in few turns is found in more
pub IsFoundBy-more : {capture : Pair → Option ℕ} {slots : Slots} {Meant : Option (List Pair) → Type 0}
    {turns more : ℕ} {g : Hit}
    → turns ≤ more → IsFoundBy capture slots Meant turns g → IsFoundBy capture slots Meant more g
IsFoundBy-more {more = more} le h = grind arith

-- sets that agree on the pairs to which paths lead

module _ (edges : Pair → List Pair) (starts : List Pair) (P Q : Pair → Type 0)
    (to : (m : Pair) (p : List Pair) → PathTo edges starts m p → P m → Q m) (back : (m : Pair) (p : List Pair)
    → PathTo edges starts m p → Q m → P m) where
  -- the last of the first paths to both sets
  IsLastOfFirsts-agree : {e : ℕ} {p : List Pair} → IsLastOfFirsts edges starts P e p → IsLastOfFirsts edges starts Q e p
  IsLastOfFirsts-agree {p = p} h = record {
    end = h.end;
    wanted = record { wanted = to h.end p (rw h.first.wanted at h.first.path) h.wanted.wanted; at = h.wanted.at };
    first = h.first;
    last = λ m q w k. h.last m q (record { wanted = back m q (rw k.wanted at k.path) w.wanted; at = w.at }) k;
  }

  -- the last path to both sets
  IsLastPath-agree : (r : Option (List Pair)) → IsLastPath edges starts P r → IsLastPath edges starts Q r
  IsLastPath-agree None h = λ m p w q. h m p w (back m p w q)
  IsLastPath-agree (Some p) h =
      let ends : IsGreatestEnd edges starts Q h.0 =
      record { is_end = search rules; greatest = λ m q w t. h.1.greatest m q w (back m q w t) } in
      (h.0, ends, IsLastOfFirsts-agree h.2)

module _ (edges : Pair → List Pair) (starts : List Pair) (is_match : Pair → Bool) where
  -- if edges stay within n, every path ends there
  pub EndsBefore-within : (n : ℕ) → ((x y : Pair) → In y (edges x) → x.1 ≤ n → y.1 ≤ n)
      → ((s : Pair) → In s starts → s.1 ≤ n)
      → (m : Pair) (p : List Pair) → PathTo edges starts m p → is_match m ≡ true → m.1 < n + 1
  EndsBefore-within n stays begins m p w t =
      let k : m.1 ≤ n = PathTo-end edges starts (λ x. x.1 ≤ n) begins stays w in omega arith

module _ (space : Space) (resting is_match : Pair → Bool) (slots : Slots) (shape : Scanned space resting is_match) where
  -- no path ends before the first start
  pub NoneBefore-start : (e : ℕ) → ((s : Pair) → In s space.starts → e ≤ s.1) → NoneBefore space is_match e
  NoneBefore-start e from m p w h =
      let k : e ≤ m.1 = PathTo-end space.edges space.starts (λ x. e ≤ x.1) from
      (λ x y i l. let o : x.1 ≤ y.1 = shape.onward x y i in omega (arith, l)) w in
      omega (arith, h.before)

  -- no path ends before e, and none at e
  pub NoneBefore-step : {turns e : ℕ} {front : List (Pair × Slots)} → NoneBefore space is_match e
      → IsFrontier space resting is_match slots turns front e → NoMatch is_match front
      → NoneBefore space is_match (e + 1)
  NoneBefore-step {turns} {e} none f plain m p w h =
      elim (cases_lt m.1 e) [
        | inl less ↦ none m p w (record { wanted = h.wanted; before = less })
        | inr more ↦
            let j : m.1 < e + 1 = h.before in
            IsFrontier-no_match space resting is_match slots turns shape f plain m p w
            (record { wanted = h.wanted; at = omega arith })
      ]

  -- no path ends at all
  pub NoneBefore-end : {e : ℕ} → NoneBefore space is_match e
      → EndsBefore space is_match e → NoPath space.edges space.starts (Passes is_match)
  NoneBefore-end none ends m p w t = none m p w (record { wanted = t; before = ends m p w t })

  -- if no path ends before e and one ends there, e is the least end
  pub least_end : {e : ℕ} → NoneBefore space is_match e → (m : Pair) (p : List Pair)
      → PathTo space.edges space.starts m p → WantedAt (Passes is_match) e m
      → IsLeastEnd space.edges space.starts (Passes is_match) e
  least_end {e} none m p w h = record {
    is_end = record { end = m; along = p; path = w; wanted = h.wanted; at = h.at };
    least = λ n q v t. grind arith;
  }

  -- the first path that ends at e, if none ends before: the earliest
  pub IsEarliestPath-found : {turns e : ℕ} {a : Pair × Slots} → NoneBefore space is_match e
      → IsFoundBy space.capture slots (IsFirstPath space.edges space.starts (WantedAt (Passes is_match) e)) turns
      (Some a)
      → IsFoundBy space.capture slots (IsEarliestPath space.edges space.starts (Passes is_match)) turns (Some a)
  IsEarliestPath-found {e = e} none h =
      let f = found-along h in
      let least = least_end none f.1.end f.0 f.1.path f.1.wanted in
      record { path = Some f.0; meant = (e, least, f.1); leads = f.2; short = f.3 }

  -- the first front with a match pair: its last is the last of the first paths
  pub IsEarliestLastPath-found : {turns e : ℕ} {front : List (Pair × Slots)} → NoneBefore space is_match e
      → IsFrontier space resting is_match slots turns front e → (a : Pair × Slots)
      → last_match is_match None front ≡ Some a
      → IsFoundBy space.capture slots (IsEarliestLastPath space.edges space.starts (Passes is_match)) turns (Some a)
  IsEarliestLastPath-found {turns} {e} {front} none f a found_it =
      elim (last_match-is is_match None front) [
        | inl lacks ↦ let never : Some a ≡ None = sym found_it ∙ lacks.0 in cc
        | inr has ↦
            let h = IsFrontier-last_match space resting is_match slots turns shape f has.0 has.2 in
            record {
              path = Some h.0;
              meant = (
                e,
                least_end none h.1.end h.0 (PathTo-along space.edges space.starts h.1.first.wanted h.1.first.path)
                    h.1.wanted,
                h.1,
              );
              leads = h.3 ∙ sym has.1 ∙ found_it;
              short = h.4;
            }
      ]

  -- before the first start nothing was found
  pub LastBefore-start : (e : ℕ) → ((s : Pair) → In s space.starts → e ≤ s.1) → LastBefore space is_match slots e 0 None
  LastBefore-start e from = record { path = None; meant = NoneBefore-start e from; leads = refl; short = omega arith }

  -- with one more front: its last match pair, or what was found before
  pub LastBefore-step : {before turns e : ℕ} {front : List (Pair × Slots)} {g : Hit} → before ≤ turns
      → LastBefore space is_match slots e before g → IsFrontier space resting is_match slots turns front e
      → LastBefore space is_match slots (e + 1) turns (last_match is_match g front)
  LastBefore-step {before} {turns} {e} {front} {g} le so_far f =
      elim (last_match-is is_match g front) [
        | inl lacks ↦ record {
          path = so_far.path;
          meant = search (rules, IsFrontier-no_match, IsLastPath-agree, narrower, wider);
          leads = so_far.leads ∙ sym lacks.0;
          short = let k : option_map_or length so_far.path 0 ≤ turns = omega (arith, so_far.short) in k;
        }
        | inr has ↦
            let h = IsFrontier-last_match space resting is_match slots turns shape f has.0 has.2 in
            let w : PathTo space.edges space.starts h.1.end h.0 =
            PathTo-along space.edges space.starts h.1.first.wanted h.1.first.path in
            record {
              path = Some h.0;
              meant = (e, greatest h.1.end h.0 w h.1.wanted, last h.1);
              leads = h.3 ∙ sym has.1;
              short = h.4;
            }
      ]
    where
      wider : (m : Pair) (p : List Pair) → PathTo space.edges space.starts m p → WantedBefore (Passes is_match) e m
          → WantedBefore (Passes is_match) (e + 1) m
      wider m p w h = let k : m.1 < e = h.before in record { wanted = h.wanted; before = omega arith }

      narrower : NoPath space.edges space.starts (WantedAt (Passes is_match) e)
          → (m : Pair) (p : List Pair) → PathTo space.edges space.starts m p → WantedBefore (Passes is_match) (e + 1) m
          → WantedBefore (Passes is_match) e m
      narrower none m p w h =
          let k : m.1 < e + 1 = h.before in
          elim (cases_lt m.1 e) [
            | inl less ↦ record { wanted = h.wanted; before = less }
            | inr more ↦ absurd (none m p w (record { wanted = h.wanted; at = omega arith }))
          ]

      here : (m : Pair) → WantedAt (Passes is_match) e m → WantedBefore (Passes is_match) (e + 1) m
      here m h = let k : m.1 ≡ e = h.at in record { wanted = h.wanted; before = omega arith }

      greatest : (m : Pair) (p : List Pair) → PathTo space.edges space.starts m p → WantedAt (Passes is_match) e m
          → IsGreatestEnd space.edges space.starts (WantedBefore (Passes is_match) (e + 1)) e
      greatest m p w h = grind arith

      last : {p : List Pair} → IsLastOfFirsts space.edges space.starts (Passes is_match) e p
          → IsLastOfFirsts space.edges space.starts (WantedBefore (Passes is_match) (e + 1)) e p
      last h = record {
        end = h.end;
        wanted = record { wanted = here h.end h.wanted; at = h.wanted.at };
        first = h.first;
        last = λ m q w k. h.last m q (record { wanted = w.wanted.wanted; at = w.at }) k;
      }

  -- if every path has ended: the last path of all
  pub LastBefore-end : {turns e : ℕ} {g : Hit} → LastBefore space is_match slots e turns g → EndsBefore space is_match e
      → IsFoundBy space.capture slots (IsLastPath space.edges space.starts (Passes is_match)) turns g
  LastBefore-end {e = e} so_far ends = record {
    path = so_far.path;
    meant = IsLastPath-agree space.edges space.starts (WantedBefore (Passes is_match) e) (Passes is_match)
        (λ m p w h. h.wanted) (λ m p w t. record { wanted = t; before = ends m p w t }) so_far.path so_far.meant;
    leads = so_far.leads;
    short = so_far.short;
  }

  -- nothing is left to explore: no path ends later
  module _ (e : ℕ) where
    -- the match pairs at e or after it, as a test
    later : Test (λ x. (is_match x ≡ true) × (e ≤ x.1))
    later = tested (λ x. grind arith)

    -- if nothing is left to explore, the search for them finds none, so every path has ended
    pub EndsBefore-over : {turns : ℕ} → IsOver space is_match slots turns e → EndsBefore space is_match e
    EndsBefore-over {turns} over m p w t =
        elim (cases_lt m.1 e) [
          | inl less ↦ less
          | inr more ↦ absurd (found-none (first-found space resting is_match slots shape later (λ x h. h.0) turns None
              (over.none later.passes later.is)) m p w (t, more))
        ]
