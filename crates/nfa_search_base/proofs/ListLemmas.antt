-- The list of an iteration's items. There is at most one, and exactly one if each search has an answer. Its matches do
-- not overlap, and are in the span. The same for the list of the matches of an NFA.
use Rattle.nfa_paths.proofs.Common.{◌+◌, ◌≡◌, ◌∙◌, ℕ, zero, suc, ◌≤◌, ◌<◌, Bool, true, false, if◌then◌else◌, Option, None, Some, Ok, Err, List, [], ◌∷◌, ◌++◌, map, length, refl, sym, ap, subst, arith, append-nil, length-append, length-map, ForSome, option_and_then, Found, found_of, Search, Match, MatchKind, Span, Automaton, slot_row, path_pattern, slot_count, match_of}
use Rattle.nfa_paths.proofs.InsideLemmas.{match-within}
use Rattle.nfa_paths.proofs.EarliestLemmas.{match-unique}
use Rattle.nfa_paths.proofs.ExistenceLemmas.{search_answer-exists}
use Rattle.nfa_search_base.specs.Common.{SameButStart, EndsBy, Item, item_by, matches_in, items_from, items_within, greedy, IsStep, Fails, ItemsNext, ItemsLast, AreDisjoint, AreSpansDisjoint, AnswersMatch, AreFirstMatches, AreMatches, IterState, Answer, Advances, AnswerIsInside, fresh, repeats, shifted, after, answer_span, span_of, ends_left, SearchError}
use Rattle.nfa_search_base.proofs.AskingLemmas.{same_start-self, same_start-then}
use Rattle.nfa_search_base.proofs.StepLemmas.{chosen, same_start-after, same_start-shifted, Advances-fewer}
use Rattle.nfa_search_base.proofs.IterStateLemmas.{IsOrdered}
use Rattle.nfa_paths.proofs.MemberLemmas.{same_some}

-- the last end is not after the start: before the first match, and after a match
behind-none : (n : ℕ) → EndsBy None n
behind-none n = λ e is. let never : None ≡ Some e = is in cc

behind-after : (end : ℕ) → EndsBy (Some end) end
behind-after end = λ e is. let same : end ≡ e = same_some end e is in omega (arith, same)

-- an iteration over x has come to w
pub record IsOnward (x : Search) (w : IterState) : Type 0 where
  pub from : x.start ≤ w.at.start
  pub to : w.at.end ≡ x.end
  pub behind : EndsBy w.last w.at.start

-- a list of matches as items
abbrev pub as_items : {X : Type 0} → List X → List (Item X)
as_items xs = map (λ x. Ok x) xs

-- what values as items show
pub items-view : {X Y : Type 0} (view : Y → X) (ys : List Y)
    → map (item_by view) (map (λ y. Ok y) ys) ≡ as_items (map view ys)
items-view view [] = refl
items-view {X} view (y ∷ ys) = ap (λ (l : List (Item X)). Ok (view y) ∷ l) (items-view view ys)

pub matches_in-as_items : {X : Type 0} (xs : List X) → matches_in (as_items xs) ≡ xs
matches_in-as_items [] = refl
matches_in-as_items (x ∷ xs) = ap (λ l. x ∷ l) (matches_in-as_items xs)

-- the rest of items that are matches are matches
as_items-rest : {X : Type 0} (xs ys : List X) (more : List (Item X)) → as_items ys ≡ as_items xs ++ more
    → (rest : List X) × (ys ≡ xs ++ rest)
as_items-rest [] ys more e = (ys, refl)
as_items-rest (x ∷ xs) [] more e = cc
as_items-rest {X} (x ∷ xs) (y ∷ ys) more e =
    let head : (let a : Item X = Ok y in let b : Item X = Ok x in a ≡ b) = cc in
    let tail : as_items ys ≡ as_items xs ++ more = cc in
    let same : y ≡ x = cc in
    let rest = as_items-rest xs ys more tail in
    (rest.0, ap (λ (z : X). z ∷ ys) same ∙ ap (λ (l : List X). x ∷ l) rest.1)

-- Each answer of `under` is shown as an answer with the same span, of the second relation.
pub record ShownAs {X Y : Type 0} (span : X → Span) (span' : Y → Span) (under : Search → Answer X → Type 0)
    (tells : Search → Answer Y → Type 0) : Type 0 where
  pub shown : Answer X → Answer Y
  pub same : (a : Answer X) → answer_span span a ≡ answer_span span' (shown a)
  pub so : (t : Search) (a : Answer X) → under t a → tells t (shown a)

-- so are the steps
pub step-as : {X Y : Type 0} {span : X → Span} {span' : Y → Span} {under : Search → Answer X → Type 0}
    {tells : Search → Answer Y → Type 0} {w : IterState} {a : Answer X} (shows : ShownAs span span' under tells)
    → IsStep span under w a → IsStep span' tells w (shows.shown a)
step-as {span = span} {w = w} {a = a} shows h = grind (arith, chosen)

-- lists that go on as each other are equal
none-left : {A : Type 0} (xs ys more less : List A) → ys ≡ xs ++ more → xs ≡ ys ++ less → xs ≡ ys
none-left xs ys [] less a b = sym (a ∙ append-nil xs)
none-left xs ys (m ∷ more) less a b =
    absurd (omega (arith, ap length a, ap length b, length-append xs (m ∷ more), length-append ys less))

module _ {X : Type 0} (span : X → Span) (tells : Search → Answer X → Type 0) where
  -- the iteration after a match
  abbrev past : IterState → X → IterState
  past w x = after w (Some (span x))

  abbrev Step : IterState → Answer X → Type 0
  Step = IsStep span tells

  -- the items, by steps only
  abbrev Next : IterState → List (Item X) → Type 0
  Next = ItemsNext span tells (Fails span tells)

  abbrev Last : IterState → List (Item X) → Type 0
  Last = ItemsLast span tells (Fails span tells)

  -- all items are first items
  pub last-next : (ends : IterState → SearchError → Type 0) (w : IterState) (items : List (Item X))
      → ItemsLast span tells ends w items → ItemsNext span tells ends w items
  last-next ends w [] h = tt
  last-next ends w (Ok x ∷ items) h = (h.0, last-next ends (past w x) items h.1)
  last-next ends w (Err e ∷ items) h = h

  -- the answer of a step is that of its search, or of one from one byte further on
  pub step-asked : (w : IterState) (a : Answer X) → Step w a
      → (n : ℕ) × (w.at.start ≤ n) × (n ≤ w.at.start + 1) × tells (record w.at { start = n }) a
  step-asked w a h = grind (arith, chosen)

  -- if no search errs, no step errs
  pub never-fails : ((t : Search) (e : SearchError) → tells t (Err e) → ⊥) → (w : IterState) (e : SearchError)
      → Step w (Err e) → ⊥
  never-fails never w e h = let k = step-asked w (Err e) h in never (record w.at { start = k.0 }) e k.3

  -- so all items are matches
  pub last-matches : ((t : Search) (e : SearchError) → tells t (Err e) → ⊥) → (w : IterState) (items : List (Item X))
      → Last w items → (xs : List X) × Last w (as_items xs)
  last-matches never w [] come = ([], come)
  last-matches never w (Ok x ∷ items) come =
      let rest = last-matches never (past w x) items come.1 in (x ∷ rest.0, (come.0, rest.1))
  last-matches never w (Err e ∷ items) come = absurd (never-fails never w e come.0)

  -- if a search gives at most one answer
  module _ (one : (t : Search) (a b : Answer X) → tells t a → tells t b → a ≡ b) where
    -- a step has one answer at most
    pub step-unique : (w : IterState) (a b : Answer X) → Step w a → Step w b → a ≡ b
    step-unique w a b h k = grind (arith)

    -- the first items are followed by the rest of the list
    pub next-rest : (w : IterState) (xs ys : List (Item X)) → Next w xs → Last w ys
        → (more : List (Item X)) × (ys ≡ xs ++ more)
    next-rest w [] ys h k = (ys, refl)
    next-rest w (Ok x ∷ xs) [] h k = let e = step-unique w (Ok (Some x)) (Ok None) h.0 k in cc
    next-rest w (Ok x ∷ xs) (Ok y ∷ ys) h k =
        let is = step-unique w (Ok (Some x)) (Ok (Some y)) h.0 k.0 in
        let same : x ≡ y = cc in
        let rest = next-rest (past w x) xs ys h.1 (rw same k.1) in
        (rest.0, ap (λ (m : X). Ok m ∷ ys) (sym same) ∙ ap (λ (l : List (Item X)). Ok x ∷ l) rest.1)
    next-rest w (Ok x ∷ xs) (Err q ∷ ys) h k = let e = step-unique w (Ok (Some x)) (Err q) h.0 k.0 in cc
    next-rest w (Err e ∷ xs) [] h k = let is = step-unique w (Err e) (Ok None) h.0 k in cc
    next-rest w (Err e ∷ xs) (Ok y ∷ ys) h k = let is = step-unique w (Err e) (Ok (Some y)) h.0 k.0 in cc
    next-rest w (Err e ∷ xs) (Err q ∷ ys) h k =
        let is = step-unique w (Err e) (Err q) h.0 k.0 in
        let same : e ≡ q = cc in
        ([], rw (h.1, k.1, same) refl)

    -- there is one list
    pub last-unique : (w : IterState) (xs ys : List (Item X)) → Last w xs → Last w ys → xs ≡ ys
    last-unique w xs ys h k =
        let more = next-rest w xs ys (last-next (Fails span tells) w xs h) k in
        let less = next-rest w ys xs (last-next (Fails span tells) w ys k) h in
        none-left xs ys more.0 less.0 more.1 less.1

    -- so there is one list of values
    pub values-unique : (w : IterState) (xs ys : List X) → Last w (as_items xs) → Last w (as_items ys) → xs ≡ ys
    values-unique w xs ys h k =
        sym (matches_in-as_items xs)
        ∙ ap (λ (l : List (Item X)). matches_in l) (last-unique w (as_items xs) (as_items ys) h k)
        ∙ matches_in-as_items ys

    -- and the first values are followed by its rest
    pub values-rest : (w : IterState) (xs ys : List X) → Next w (as_items xs) → Last w (as_items ys)
        → (more : List X) × (ys ≡ xs ++ more)
    values-rest w xs ys h k =
        let rest = next-rest w (as_items xs) (as_items ys) h k in as_items-rest xs ys rest.0 rest.1

  -- if the answer of a search is in its span
  module _ (lies : (t : Search) (a : Answer X) → tells t a
      → AnswerIsInside span t a × IsOrdered (answer_span span a)) where
    abbrev asks : Unit {0} → Search → Answer X → Unit {0} → Type 0
    asks s t a s' = tells t a

    -- a step as one of a searcher
    advances : (w : IterState) (x : X) → Step w (Ok (Some x)) → Advances span asks tt w (Ok (Some x)) tt (past w x)
    advances w x h = grind (arith, chosen)

    -- the match of a step is in the span of its search
    pub step-lies : (w : IterState) (x : X) → Step w (Ok (Some x))
        → (w.at.start ≤ (span x).start) × ((span x).start ≤ (span x).end) × ((span x).end ≤ w.at.end)
    step-lies w x h = grind (arith, step-asked)

    -- it comes after the last end, and leaves fewer ends
    step-fewer : (w : IterState) (x : X) → EndsBy w.last w.at.start → Step w (Ok (Some x))
        → ForSome w.last (λ e. (e ≤ (span x).start) × (e < (span x).end)) × (ends_left (past w x) < ends_left w)
    step-fewer w x behind h = Advances-fewer (λ s t a s' k. lies t a k) behind (advances w x h)

    -- so the matches are in the span of any search that began before, in order and without overlap
    pub spans-disjoint : (ends : IterState → SearchError → Type 0) {x : Search} {w : IterState} (items : List (Item X))
        → IsOnward x w → ItemsNext span tells ends w items → AreSpansDisjoint x w.last (map span (matches_in items))
    spans-disjoint ends [] on h = tt
    spans-disjoint ends (Err e ∷ items) on h = rw h.1 tt
    spans-disjoint ends {x = x} {w = w} (Ok m ∷ items) on h =
        let k = step-lies w m h.0 in
        let onward : IsOnward x (past w m) = record {
          from = omega (arith, k.0, k.1, on.from);
          to = on.to;
          behind = behind-after (span m).end;
        } in (
          (omega (arith, k.0, on.from), k.1, omega (arith, k.2, on.to)),
          (step-fewer w m on.behind h.0).0,
          spans-disjoint ends {w = past w m} items onward h.1,
        )

    -- the same for all matches of a search
    pub fresh-disjoint : (ends : IterState → SearchError → Type 0) (x : Search) (items : List (Item X))
        → ItemsNext span tells ends (fresh x) items → AreSpansDisjoint x None (map span (matches_in items))
    fresh-disjoint ends x items h =
        let on : IsOnward x (fresh x) = record { from = omega arith; to = refl; behind = behind-none x.start } in
        spans-disjoint ends items on h

    -- If h gives the answers of a search, the greedy walk by h gives the list.
    module _ (h : Search → Answer X) where
      abbrev Gives : Search → Type 0
      Gives x = (t : Search) → SameButStart x t → tells t (h t)

      built : (n : ℕ) (w : IterState) (a : Answer X) (w' : IterState) → Step w a
          → ((x : X) → a ≡ Ok (Some x) → (w' ≡ past w x) × Last (past w x) (items_within span h n (past w x)))
          → Last w (items_from span a (items_within span h n w'))
      built n w (Ok None) w' step rest = step
      built n w (Err e) w' step rest = (step, refl)
      built n w (Ok (Some x)) w' step rest = grind (arith)

      come-greedy : (n : ℕ) (w : IterState) → ends_left w < n → EndsBy w.last w.at.start → Gives w.at
          → Last w (items_within span h n w)
      come-greedy zero w lt behind gives = absurd (omega arith)
      come-greedy (suc n) w lt behind gives = of (λ v less after_it same. come-greedy n v less after_it same)
          (repeats w (answer_span span (h w.at))) refl
        where
          Rest : Type 0
          Rest = (v : IterState) → ends_left v < n → EndsBy v.last v.at.start → Gives v.at
              → Last v (items_within span h n v)

          onward : Rest → (a : Answer X) → Step w a → (x : X) → a ≡ Ok (Some x)
              → Last (past w x) (items_within span h n (past w x))
          onward rec a step x e =
              let fewer = step-fewer w x behind (rw e at step) in
              rec (past w x) (omega (arith, fewer.1)) (behind-after (span x).end)
              (λ t alike. gives t (same_start-then w.at (past w x).at t (same_start-after w (Some (span x))) alike))

          of : Rest → (again : Bool) → repeats w (answer_span span (h w.at)) ≡ again
              → Last w (items_from span (if again then h (shifted w).at else h w.at)
              (items_within span h n (if again then after (shifted w) (answer_span span (h (shifted w).at)) else after w
              (answer_span span (h w.at)))))
          of rec true e =
              let step : Step w (h (shifted w).at) =
              record {
                first = h w.at;
                is_first = gives w.at (same_start-self w.at);
                rest = rw e (gives (shifted w).at (same_start-shifted w));
              } in
              built n w (h (shifted w).at) _ step
              (λ x is. (
                ap (λ (a : Answer X). after (shifted w) (answer_span span a)) is,
                onward rec (h (shifted w).at) step x is,
              ))
          of rec false e =
              let step : Step w (h w.at) = record {
                first = h w.at;
                is_first = gives w.at (same_start-self w.at);
                rest = rw e refl;
              } in
              built n w (h w.at) _ step
              (λ x is. (ap (λ (a : Answer X). after w (answer_span span a)) is, onward rec (h w.at) step x is))

      -- so there is a list if each search has an answer
      pub items-greedy : (x : Search) → Gives x → Last (fresh x) (greedy span h (fresh x))
      unfolding greedy
      items-greedy x gives = come-greedy (suc (ends_left (fresh x))) (fresh x) (omega arith) (behind-none x.start) gives

-- spans that do not overlap are those of matches that do not
AreDisjoint-spans : (x : Search) (last : Option ℕ) (ms : List Found) → AreSpansDisjoint x last (map span_of ms)
    → AreDisjoint x last ms
AreDisjoint-spans x last [] h = tt
AreDisjoint-spans x last (m ∷ ms) h =
    (record { from = h.0.0; ordered = h.0.1; to = h.0.2 }, h.1, AreDisjoint-spans x (Some m.end) ms h.2)

module _ (nfa : Automaton) (kind : MatchKind) (earliest : Bool) where
  abbrev tells : Search → Answer Found → Type 0
  tells = AnswersMatch nfa kind earliest

  -- a search gives one match
  one-answer : (t : Search) (a b : Answer Found) → tells t a → tells t b → a ≡ b
  one-answer t (Ok p) (Ok q) h k =
      ap (λ (o : Option Found). let a : Answer Found = Ok o in a) (match-unique nfa kind earliest t p q h k)
  one-answer t (Ok p) (Err e) h k = absurd k
  one-answer t (Err e) b h k = absurd h

  -- which is in its span
  pub match-lies : (t : Search) (a : Answer Found) → tells t a
      → AnswerIsInside span_of t a × IsOrdered (answer_span span_of a)
  match-lies t (Ok (Some m)) h =
      let k = match-within nfa kind earliest t m h in
      ((k.0, k.2), λ p is. subst (λ (q : Span). q.start ≤ q.end) (same_some (span_of m) p is) k.1)
  match-lies t (Ok None) h = (tt, λ p is. let never : None ≡ Some p = is in cc)
  match-lies t (Err e) h = absurd h

  -- each search has an answer
  abbrev answer_of : Search → Option Found
  answer_of t =
      let path = (search_answer-exists nfa kind earliest t).1 in
      match_of (option_and_then (path_pattern nfa) path) (slot_row nfa (slot_count nfa.groups) path)

  answer_of-answered : (t : Search) → tells t (Ok (answer_of t))
  answer_of-answered t =
      let answer = search_answer-exists nfa kind earliest t in
      record { restarts = answer.0; path = answer.1; answers = answer.2; found_is = refl }

  -- so each search has a list of matches
  pub matches-exist : (x : Search) → (ms : List Found) × AreMatches nfa kind earliest x ms
  matches-exist x =
      let h : Search → Answer Found = λ t. Ok (answer_of t) in
      let all = items-greedy span_of tells match-lies h x (λ t alike. answer_of-answered t) in
      let ms = last-matches span_of tells (λ t e k. k) (fresh x) (greedy span_of h (fresh x)) all in
      (ms.0, record { come = ms.1 })

  -- and one at most
  pub matches-unique : (x : Search) (xs ys : List Found) → AreMatches nfa kind earliest x xs
      → AreMatches nfa kind earliest x ys → xs ≡ ys
  matches-unique x xs ys h k = values-unique span_of tells one-answer (fresh x) xs ys h.come k.come

  -- the rest of the list follows the first matches
  pub matches-rest : (x : Search) (xs ys : List Found) → AreFirstMatches nfa kind earliest x xs
      → AreMatches nfa kind earliest x ys
      → (more : List Found) × (ys ≡ xs ++ more)
  matches-rest x xs ys h k = values-rest span_of tells one-answer (fresh x) xs ys h.come k.come

  -- if a match was given, there is a match
  pub none-before : (x : Search) (ms : List Match) (m : Match)
      → AreFirstMatches nfa kind earliest x (map found_of (ms ++ m ∷ [])) → AreMatches nfa kind earliest x [] → ⊥
  none-before x ms m first none =
      let rest = matches-rest x (map found_of (ms ++ m ∷ [])) [] first none in
      omega (arith, simp (length-append, length-map) at (ap length rest.1))

  -- the first matches of a search are in its span, in order and without overlap
  pub matches-disjoint : (x : Search) (ms : List Found) → AreFirstMatches nfa kind earliest x ms → AreDisjoint x None ms
  matches-disjoint x ms h =
      subst (λ (l : List Found). AreDisjoint x None l) (matches_in-as_items ms)
      (AreDisjoint-spans x None (matches_in (as_items ms))
      (fresh-disjoint span_of tells match-lies (Fails span_of tells) x (as_items ms) h.come))
