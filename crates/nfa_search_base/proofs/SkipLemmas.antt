-- The answers that a skipping of split characters has gone through, and the answer of a search that restarts.
use Rattle.nfa_paths.proofs.Common.{◌≡◌, ℕ, suc, ◌+◌, ◌-◌, ◌≤◌, List, [], ◌∷◌, ◌++◌, length, length-append, Option, None, Some, Ok, refl, add-zero, arith, le-leb, Search, search_of, Input, Bool, subst, Found, MatchKind, Automaton, Pair, EndsOnBoundary, IsFindAnswer, IsSearchAnswer, IsWhole, IsWork, raised}
use Rattle.nfa_search_base.specs.Common.{Answer, answer_by, Asks, IsCallableOn, ServesOn, CallLeft, SkipsOn, HasOffsetIn, IsInCharacter, IsWholeReply, start_raised, lowered, Answers, Reaches, ServesSkips, SkipsTo, Mut, Bor}
use Rattle.nfa_paths.proofs.AnswerLemmas.{search_answer-unique}

-- A skipping: what its finder is, the haystack, and the searches that it moves to.
pub record SkipOf (T F : Type 0) : Type 1 where
  pub finder : Mut F (Bor Input × Unit {0}) (Answer (T × ℕ))
  pub haystack : List ℕ
  pub moved : ℕ → Option Search

module _ {T F : Type 0} (skip : SkipOf T F) where
  abbrev Next : CallLeft T F → ℕ → CallLeft T F → Type 0
  Next = SkipsOn skip.finder skip.haystack skip.moved

  abbrev Reached : ℕ → CallLeft T F → List (CallLeft T F) → CallLeft T F → Type 0
  Reached = Reaches skip.finder skip.haystack skip.moved

  -- one more call
  Reaches-more : (n : ℕ) (p : CallLeft T F) (calls : List (CallLeft T F)) (q u : CallLeft T F)
      → Next q (n + length calls + 1) u → Reached n p calls q → Reached n p (calls ++ u ∷ []) u
  Reaches-more n p [] q u next reached =
      let e : n + 0 + 1 ≡ n + 1 = omega arith in (rw (reached, e) at next, refl)
  Reaches-more n p (c ∷ calls) q u next reached =
      let e : n + suc (length calls) + 1 ≡ n + 1 + length calls + 1 = omega arith in
      (reached.0, Reaches-more (n + 1) c calls q u (rw e at next) reached.1)

  -- the skipping that began with p is now at the search t, with q
  pub record HasCome (p : CallLeft T F) (t : Search) (q : CallLeft T F) : Type 0 where
    pub text : t.haystack ≡ skip.haystack
    pub serves : ServesSkips skip.finder skip.haystack skip.moved p.answer p.finder
    pub calls : List (CallLeft T F)
    pub at : skip.moved (length calls) ≡ Some t
    pub reached : Reached 0 p calls q

module _ {T F : Type 0} {skip : SkipOf T F} where
  -- before the first call
  pub HasCome-start : {t : Search} {p : CallLeft T F} → skip.moved 0 ≡ Some t → t.haystack ≡ skip.haystack
      → ServesSkips skip.finder skip.haystack skip.moved p.answer p.finder → HasCome skip p t p
  HasCome-start at text serves = record { text = text; serves = serves; calls = []; at = at; reached = refl }

  module _ {p q : CallLeft T F} {t : Search} (come : HasCome skip p t q) where
    -- one call more, on the search moved once more
    more : (o : Option Search) (u : CallLeft T F) → ((n : ℕ) → skip.moved n ≡ Some t → skip.moved (n + 1) ≡ o)
        → IsInCharacter skip.haystack q.answer → Answers skip.finder q.finder o u.answer u.finder
        → Reached skip 0 p (come.calls ++ u ∷ []) u
    more o u up split answered =
        let e : 0 + length come.calls + 1 ≡ length come.calls + 1 = omega arith in
        let next : Next skip q (0 + length come.calls + 1) u =
        (split, rw (e, up (length come.calls) come.at) answered) in
        Reaches-more skip 0 p come.calls q u next come.reached

    module _ {u : Search} (up : (n : ℕ) → skip.moved n ≡ Some t → skip.moved (n + 1) ≡ Some u)
        (split : IsInCharacter skip.haystack q.answer) where
      -- if an answer splits a codepoint, the next call may be made
      next : ServesOn (IsCallableOn skip.finder) (Asks skip.finder) HasOffsetIn q.finder u
      next = come.serves.at come.calls q u come.reached split (up (length come.calls) come.at)

      pub HasCome-callable : (b : Bor Input) → search_of b.now ≡ u → skip.finder.pre q.finder (b, tt)
      HasCome-callable = next.callable

      module _ {a : Answer (T × ℕ)} {f : F} (asked : Asks skip.finder q.finder u a f) where
        abbrev left : CallLeft T F
        left = record { answer = a; finder = f }

        -- its answer is in the span
        pub HasCome-placed : HasOffsetIn u a
        HasCome-placed = next.replies a f asked

        -- and after it the skipping has come there
        pub HasCome-next : u.haystack ≡ skip.haystack → HasCome skip p u left
        HasCome-next text = record {
          text = text;
          serves = come.serves;
          calls = come.calls ++ left ∷ [];
          at = rw length-append (up (length come.calls) come.at);
          reached = more (Some u) left up split asked;
        }

        -- it is the result, if it splits none
        pub HasCome-last : {result : Answer T} → IsWholeReply skip.haystack a → result ≡ answer_by (λ x. x.0) a
            → SkipsTo skip.finder skip.haystack skip.moved p.answer p.finder result f
        HasCome-last whole gives = record {
          calls = come.calls ++ left ∷ [];
          last = a;
          reached = more (Some u) left up split asked;
          whole = whole;
          gives = gives;
        }

    -- if nothing is left to search, the answer is none
    pub HasCome-none : {result : Answer T}
        → ((n : ℕ) → skip.moved n ≡ Some t → skip.moved (n + 1) ≡ None) → IsInCharacter skip.haystack q.answer
        → result ≡ Ok None → SkipsTo skip.finder skip.haystack skip.moved p.answer p.finder result q.finder
    HasCome-none out split gives =
        let none : CallLeft T F = record { answer = Ok None; finder = q.finder } in
        record {
          calls = come.calls ++ none ∷ [];
          last = Ok None;
          reached = more None none out split (refl, refl);
          whole = tt;
          gives = gives;
        }

    -- an answer that splits no codepoint is the result
    pub HasCome-end : {result : Answer T} → IsWholeReply skip.haystack q.answer
        → result ≡ answer_by (λ x. x.0) q.answer
        → SkipsTo skip.finder skip.haystack skip.moved p.answer p.finder result q.finder
    HasCome-end whole gives =
        record { calls = come.calls; last = q.answer; reached = come.reached; whole = whole; gives = gives }

-- the search one further up
pub start_raised-up : (s t u : Search) → u ≡ record t { start = t.start + 1 }
    → (n : ℕ) → start_raised s n ≡ Some t → start_raised s (n + 1) ≡ Some u
start_raised-up s t u up n at = grind (arith)

-- and not yet moved
pub start_raised-start : (s : Search) → start_raised s 0 ≡ Some s
start_raised-start s = rw add-zero refl

-- the search with its end lowered, if there is one
lowered-is : (s t : Search) (n : ℕ) → lowered s n ≡ Some t → t ≡ record s { end = s.end - n }
lowered-is s t n at = grind (arith)

-- one further down
pub lowered-down : (s t u : Search) → 1 ≤ t.end → u ≡ record t { end = t.end - 1 }
    → (n : ℕ) → lowered s n ≡ Some t → lowered s (n + 1) ≡ Some u
lowered-down s t u some down n at = grind (arith, lowered-is)

-- below an end of 0 there is none
pub lowered-none : (s t : Search) → t.end ≡ 0 → (n : ℕ) → lowered s n ≡ Some t → lowered s (n + 1) ≡ None
lowered-none s t out n at = grind (arith, lowered-is)

-- and not yet moved
pub lowered-start : (s : Search) → lowered s 0 ≡ Some s
lowered-start s = let same : s.end - 0 ≡ s.end = omega arith in rw (le-leb 0 s.end (omega arith), same) refl

-- a path ends on a boundary, wherever the search starts
boundary-raised : (x : Search) (i : ℕ) (p : List Pair) → EndsOnBoundary x p → EndsOnBoundary (raised x i) p
boundary-raised x i [] h = h
boundary-raised x i (v ∷ []) h = h
boundary-raised x i (v ∷ (w ∷ p)) h = boundary-raised x i (w ∷ p) h

whole-raised : (x : Search) (i : ℕ) (r : Option (List Pair)) → IsWhole x r → IsWhole (raised x i) r
whole-raised x i None h = h
whole-raised x i (Some p) h = boundary-raised x i p h

module _ (nfa : Automaton) (kind : MatchKind) (earliest : Bool) (x : Search) where
  -- a search has the answer of the one that starts where its last scan does
  pub from-scan : (restarts : ℕ) (path : Option (List Pair)) → IsSearchAnswer nfa kind earliest x restarts path
      → IsSearchAnswer nfa kind earliest (raised x restarts) 0 path
  from-scan restarts path = grind (arith, whole-raised)

-- so it has the match of that one
pub match-from-scan : {nfa : Automaton} {kind : MatchKind} {earliest : Bool} {x : Search} {found : Option Found}
    {scans turns : ℕ} → IsFindAnswer nfa kind earliest x found → IsWork nfa kind earliest x scans turns
    → IsFindAnswer nfa kind earliest (raised x (scans - 1)) found
match-from-scan {nfa} {kind} {earliest} {x} {scans = scans} h work =
    let same : h.restarts ≡ scans - 1 = grind (arith, search_answer-unique) in
    record {
      restarts = 0;
      path = h.path;
      answers = subst (λ (n : ℕ). IsSearchAnswer nfa kind earliest (raised x n) 0 h.path) same
          (from-scan nfa kind earliest x h.restarts h.path h.answers);
      found_is = h.found_is;
    }
