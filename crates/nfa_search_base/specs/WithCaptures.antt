-- Finders of captures.
use Rattle.std.specs.Prelude.{◌≡◌, ◌⊎◌, ◌<◌, ℕ, OnSome, Bool, true, false, List, [], ◌∷◌, map, Option, None, Some, Result, Ok, Err, option_map, IsOk, unwrap_or}
use Rattle.nfa_paths.specs.Common.{Bor, MutBor, Called, Mut, Drains, Captured, Found, Input, Search, Span, match_of, search_of}
use Rattle.nfa_search_base.specs.Finders.{ServesOnAlong}
use Rattle.nfa_search_base.specs.Items.{Item}
use Rattle.nfa_search_base.specs.IterStates.{Answer, Memory, SameButStart, SearchError, span_of}

-- the result of a search in captures: the pattern and the slots
pub record Row : Type 0 where
  pub pattern : Option ℕ
  pub slots : List (Option ℕ)

-- the row of the captures
abbrev pub row_of : Captured → Row
row_of c = record { pattern = c.pattern; slots = c.slots }

-- the match of a row; rows without a match, to which it is never applied, get a dummy
abbrev pub row_found : Row → Found
row_found x = unwrap_or (match_of x.pattern x.slots) (record { pattern = 0; start = 0; end = 0 })

-- the span of that match
abbrev pub row_span : Row → Span
row_span x = span_of (row_found x)

-- the answer of a call that left these captures and gave this reply: their row, if they have a match
abbrev pub filled_answer : Captured → Result (Unit {0}) SearchError → Answer Row
filled_answer c (Ok u) = Ok (option_map (λ m. row_of c) (match_of c.pattern c.slots))
filled_answer c (Err e) = Err e

-- a finder, and the captures that it is called with next
pub record WithCaptures (F : Type 0) : Type 0 where
  pub finder : F
  pub captures : Captured

-- the item is a copy of these captures, which hold the row, or the copy could not be allocated
abbrev pub GivesCopy : Captured → Answer Row → Option (Result Captured SearchError) → Type 0
GivesCopy c (Ok (Some x)) r = ((r ≡ Some (Ok c)) × (row_of c ≡ x)) ⊎ (r ≡ Some (Err Memory))
GivesCopy c (Ok None) r = r ≡ None
GivesCopy c (Err e) r = r ≡ Some (Err e)

-- the item is a copy of the captures that the call left
abbrev pub GivesCaptures : {F : Type 0} → WithCaptures F → Answer Row → Option (Result Captured SearchError) → Type 0
GivesCaptures c a r = GivesCopy c.captures a r

-- captures that are lent, as an item
abbrev pub lent_item : Option (Bor Captured) → Option (Result Captured SearchError)
lent_item r = option_map (λ c. Ok c.now) r

-- the item of an iterator over captures that lends those which it holds, by whether it has ended
abbrev pub held_unless : Bool → Captured → Option (Result Captured SearchError)
held_unless true c = None
held_unless false c = Some (Ok c)

-- A call that lends captures. It is a call of the iterator that gives them as its item, and fewer items are `left`.
pub record LendsItem {T : Type 0} (steps : T → Option (Result Captured SearchError) → T → Type 0) (left : T → ℕ)
    (s : T) (lent : Option (Bor Captured)) (t : T) : Type 0 where
  pub call : steps s (lent_item lent) t
  pub fewer : OnSome lent (left t < left s)

-- the items of the list, or those before some match and then `Memory`
abbrev pub UpToRefusal : {X : Type 0} → List (Item X) → List (Item X) → Type 0
UpToRefusal [] [] = Unit {0}
UpToRefusal (y ∷ ys) [] = ⊥
UpToRefusal [] (x ∷ xs) = ⊥
UpToRefusal (y ∷ ys) (x ∷ xs) = ((x ≡ y) × UpToRefusal ys xs) ⊎ (IsOk y × (x ≡ Err Memory) × (xs ≡ []))

-- an iterator s that runs to its end gives the items of the list, up to a failed allocation
pub record YieldsUpToRefusal {T R X : Type 0} (steps : T → Option R → T → Type 0) (value : R → Item X) (s : T)
    (all : List (Item X)) : Type 0 where
  pub at : (xs : List R) → Drains steps s xs → UpToRefusal all (map value xs)

module _ {F : Type 0} (g : Mut F (Bor Input × (MutBor Captured × Unit {0}))
    (Result (Unit {0}) SearchError × (MutBor Captured × Unit {0}))) where
  -- the finder may be called on this search, with the captures that it keeps
  abbrev pub CanFill : WithCaptures F → Search → Type 0
  CanFill c s = (p : Bor Input) (q : MutBor Captured) → search_of p.now ≡ s → q.now ≡ c.captures
      → g.pre c.finder (p, (q, tt))

  -- a call of the finder on this search, with these captures, gave this answer, and left the finder and captures of c'
  pub record Fills (c : WithCaptures F) (s : Search) (a : Answer Row) (c' : WithCaptures F) : Type 0 where
    pub shown : Bor Input
    pub lent : MutBor Captured
    pub shows : search_of shown.now ≡ s
    pub lends : lent.now ≡ c.captures
    pub reply : Result (Unit {0}) SearchError
    pub left : MutBor Captured
    pub called : Called g c.finder (shown, (lent, tt)) (reply, (left, tt)) c'.finder
    pub leaves : left.now ≡ c'.captures
    pub answers : a ≡ filled_answer c'.captures reply

  -- after any calls on searches that differ from s only in their start, the next call may be made, and P holds of its
  -- answer
  abbrev pub FillsAlong : (Search → Answer Row → Type 0) → WithCaptures F → Search → Type 0
  FillsAlong P c s = ServesOnAlong CanFill Fills SameButStart P c s

  -- each call on a search like s answers as h does
  abbrev pub FillsBy : (Search → Answer Row) → WithCaptures F → Search → Type 0
  FillsBy h c s = FillsAlong (λ t a. a ≡ h t) c s
