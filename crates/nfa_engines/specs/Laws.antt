-- Laws of scans, of searches and of what they answer, about the definitions only; and that no match is missed.
use Rattle.std.specs.Prelude.{◌≡◌, ◌↔◌, ℕ, ◌*◌, ◌≤◌, Bool, false, List, Option, None, Some, IfSome, ◌⊎◌, ◌-◌, true, option_map, is_some, length, take, drop, replicate}
use Rattle.nfa_paths.specs.Common.{Found, Search, MatchKind, Automaton, IsAutomaton, Pair, HeadIs, PathTo, NoPath, edges, starts, is_utf8_empty, IsMatch, IsFindAnswer, slot_count, match_of, ComesBefore, HalfFound, IsScanAnswer, IsSearchAnswer, IsAnswer, IsBoolAnswer, IsHalfAnswer, IsOverlapResult, LeftmostFirst}
pub use Rattle.nfa_paths.specs.Starts.{WritesItsEnds, MatchesNothing, MatchesSomething, MatchesPattern}

-- each accepting path of the search does
abbrev pub PathsWriteTheirEnds : Automaton → Search → Type 0
PathsWriteTheirEnds nfa x =
    (end : Pair) (p : List Pair) → PathTo (edges nfa x) (starts nfa x) end p → IsMatch nfa end → WritesItsEnds nfa end p

-- then there is no match exactly if there is no accepting path
abbrev pub NoneIsNoPath : MatchKind → Bool → Type 0
NoneIsNoPath kind earliest =
    (nfa : Automaton) (x : Search) (found : Option Found) → IsAutomaton nfa → is_utf8_empty nfa ≡ false
    → PathsWriteTheirEnds nfa x
    → IsFindAnswer nfa kind earliest x found → (found ≡ None) ↔ NoPath (edges nfa x) (starts nfa x) (IsMatch nfa)

-- no accepting path starts before the match
abbrev pub StartsBeforePaths : Automaton → Search → Found → Type 0
StartsBeforePaths nfa x m =
    (start end : Pair) (p : List Pair) → HeadIs start p → PathTo (edges nfa x) (starts nfa x) end p → IsMatch nfa end
    → m.start ≤ start.1

-- then no accepting path starts before the match of the search
abbrev pub NoneStartsBefore : MatchKind → Bool → Type 0
NoneStartsBefore kind earliest =
    (nfa : Automaton) (x : Search) (found : Option Found) → IsAutomaton nfa → is_utf8_empty nfa ≡ false
    → PathsWriteTheirEnds nfa x
    → IsFindAnswer nfa kind earliest x found
    → IfSome found (StartsBeforePaths nfa x)

-- What a search answers, for each match kind, `earliest` or not: a relation such as `IsFindAnswer`, or that of the list
-- of its matches.
abbrev pub Tells : Type 0 → Type 1
Tells A = Automaton → MatchKind → Bool → Search → A → Type 0

-- a law of what searches answer, for the slots of their answers, whatever the pattern
abbrev pub OfSlots : (Tells (List (Option ℕ)) → Type 0) → Type 0
OfSlots Law = (pattern : Option ℕ) → Law (λ nfa kind earliest x. IsAnswer nfa kind earliest x pattern)

module _ {A : Type 0} (Is : Tells A) where
  -- a search has at most one
  abbrev pub AtMostOne : Type 0
  AtMostOne =
      (nfa : Automaton) (x : Search) (kind : MatchKind) (earliest : Bool) (a b : A)
      → Is nfa kind earliest x a → Is nfa kind earliest x b → a ≡ b

  -- and at least one
  abbrev pub AtLeastOne : Type 0
  AtLeastOne = (nfa : Automaton) (x : Search) (kind : MatchKind) (earliest : Bool) → (a : A) × Is nfa kind earliest x a

  -- that of a search of the kind is that of a leftmost first search
  abbrev pub IsAsLeftmost : MatchKind → Type 0
  IsAsLeftmost kind =
      (nfa : Automaton) (x : Search) (a b : A) → Is nfa kind false x a → Is nfa LeftmostFirst false x b → a ≡ b

  -- It does not read the `earliest` flag of the input: it holds for a search exactly if it holds for the same search
  -- with this flag.
  abbrev pub ReadsNoFlag : Type 0
  ReadsNoFlag =
      (nfa : Automaton) (x : Search) (flag : Bool) (kind : MatchKind) (earliest : Bool) (a : A)
      → Is nfa kind earliest (record x { earliest = flag }) a ↔ Is nfa kind earliest x a

-- two answers of one search are equal, and so are their restarts
abbrev pub OneSearchAnswer : Type 0
OneSearchAnswer =
    (nfa : Automaton) (x : Search) (kind : MatchKind) (earliest : Bool) (i j : ℕ) (r s : Option (List Pair))
    → IsSearchAnswer nfa kind earliest x i r → IsSearchAnswer nfa kind earliest x j s → (i ≡ j) × (r ≡ s)

-- of two accepting paths, one comes before the other, or they are equal
abbrev pub PathsAreOrdered : Type 0
PathsAreOrdered =
    (nfa : Automaton) (x : Search) (m n : Pair) (p q : List Pair)
    → PathTo (edges nfa x) (starts nfa x) m p → IsMatch nfa m → PathTo (edges nfa x) (starts nfa x) n q → IsMatch nfa n
    → (p ≡ q) ⊎ (ComesBefore (edges nfa x) p q ⊎ ComesBefore (edges nfa x) q p)

-- and not each before the other
abbrev pub PathsAreOrderedOnce : Type 0
PathsAreOrderedOnce =
    (nfa : Automaton) (x : Search) (p q : List Pair) → ComesBefore (edges nfa x) p q → ComesBefore (edges nfa x) q p → ⊥

-- a search has an answer, after some restarts
abbrev pub EverySearchHasAnAnswer : Type 0
EverySearchHasAnAnswer =
    (nfa : Automaton) (x : Search) (kind : MatchKind) (earliest : Bool)
    → (restarts : ℕ) × (path : Option (List Pair)) × IsSearchAnswer nfa kind earliest x restarts path

-- of two scans of one search, whatever their kinds and `earliest`, both answer a path or neither does
abbrev pub ScansAgree : Type 0
ScansAgree =
    (nfa : Automaton) (x : Search) (kind other : MatchKind) (earliest sooner : Bool) (r s : Option (List Pair))
    → IsScanAnswer nfa x kind earliest r → IsScanAnswer nfa x other sooner s → is_some r ≡ is_some s

-- the same of two searches, if no match has to end on a boundary
abbrev pub SearchesAgree : Type 0
SearchesAgree =
    (nfa : Automaton) (x : Search) → is_utf8_empty nfa ≡ false
    → (kind other : MatchKind) (earliest sooner : Bool) (i j : ℕ) (r s : Option (List Pair))
    → IsSearchAnswer nfa kind earliest x i r → IsSearchAnswer nfa other sooner x j s → is_some r ≡ is_some s

-- two answers of one search with the same number of slots are equal
abbrev pub AnswersAgree : Type 0
AnswersAgree =
    (nfa : Automaton) (x : Search) (kind : MatchKind) (earliest : Bool) (p q : Option ℕ) (s t : List (Option ℕ))
    → IsAnswer nfa kind earliest x p s → IsAnswer nfa kind earliest x q t → length s ≡ length t → (p ≡ q) × (s ≡ t)

-- of two answers of one search, the one with fewer slots has the first ones of the other
abbrev pub FewerSlots : Type 0
FewerSlots =
    (nfa : Automaton) (x : Search) (kind : MatchKind) (earliest : Bool) (p q : Option ℕ) (s t : List (Option ℕ))
    → IsAnswer nfa kind earliest x p s → IsAnswer nfa kind earliest x q t → length s ≤ length t
    → (p ≡ q) × (s ≡ take (length s) t)

-- the slots of an answer that the NFA does not have are `None`
abbrev pub SlotsPastAreNone : Type 0
SlotsPastAreNone =
    (nfa : Automaton) (x : Search) (kind : MatchKind) (earliest : Bool) (p : Option ℕ) (s : List (Option ℕ))
    → IsAutomaton nfa → IsAnswer nfa kind earliest x p s → slot_count nfa.groups ≤ length s
    → drop (slot_count nfa.groups) s ≡ replicate (length s - slot_count nfa.groups) None

-- a search finds something exactly if it has a pattern
abbrev pub BoolIsPattern : Type 0
BoolIsPattern =
    (nfa : Automaton) (x : Search) (kind : MatchKind) (earliest : Bool)
    (p : Option ℕ) (s : List (Option ℕ)) (found : Bool)
    → IsAnswer nfa kind earliest x p s → IsBoolAnswer nfa kind earliest x found → found ≡ is_some p

-- the half match has the pattern that a search for slots returns
abbrev pub HalfMatchHasThePattern : Type 0
HalfMatchHasThePattern =
    (nfa : Automaton) (x : Search) (kind : MatchKind) (earliest : Bool) (half : Option HalfFound) (pattern : Option ℕ)
    (slots : List (Option ℕ)) → IsHalfAnswer nfa kind earliest x half → IsAnswer nfa kind earliest x pattern slots
    → pattern ≡ option_map (λ (h : HalfFound). h.pattern) half

-- the path that a search answers does not read the flag
abbrev pub PathReadsNoFlag : Type 0
PathReadsNoFlag = (restarts : ℕ) → ReadsNoFlag (λ nfa kind earliest x. IsSearchAnswer nfa kind earliest x restarts)

-- nor does the set of patterns that a set becomes
abbrev pub SetReadsNoFlag : Type 0
SetReadsNoFlag = (old : List Bool) → ReadsNoFlag (λ nfa kind earliest x. IsOverlapResult nfa x kind earliest old)

-- Whether there is a match does not read the flag, so it is whether a search of the same input without the flag has a
-- pattern.
abbrev pub FoundUnderAnyFlag : Type 0
FoundUnderAnyFlag =
    (nfa : Automaton) (x y : Search) (flag : Bool) (kind : MatchKind) (found : Bool)
    (pattern : Option ℕ) (slots : List (Option ℕ))
    → y ≡ record x { earliest = flag } → x.earliest ≡ false
    → IsBoolAnswer nfa kind false y found → IsAnswer nfa kind x.earliest x pattern slots → found ≡ is_some pattern

-- An engine that ignores the flag gives, under any flag, the answer of one that searches without it.
abbrev pub AnswersUnderAnyFlag : Type 0
AnswersUnderAnyFlag =
    (nfa other : Automaton) (x y : Search) (flag : Bool) (kind : MatchKind) (p q : Option ℕ) (s t : List (Option ℕ))
    → other ≡ nfa → kind ≡ LeftmostFirst → y ≡ record x { earliest = flag } → x.earliest ≡ false
    → IsAnswer nfa kind x.earliest x p s → IsAnswer other LeftmostFirst false y q t → length s ≡ length t
    → (p ≡ q) × (s ≡ t)

-- the same for matches
abbrev pub MatchUnderAnyFlag : Type 0
MatchUnderAnyFlag =
    (nfa other : Automaton) (x y : Search) (flag : Bool) (kind : MatchKind) (a b : Option Found)
    → other ≡ nfa → kind ≡ LeftmostFirst → y ≡ record x { earliest = flag } → x.earliest ≡ false
    → IsFindAnswer nfa kind x.earliest x a → IsFindAnswer other LeftmostFirst false y b → a ≡ b

-- the match that the pattern and slots of an answer give is that of the search, if all slots of the NFA were given
abbrev pub AllSlotsGiveTheMatch : Type 0
AllSlotsGiveTheMatch =
    (nfa : Automaton) (x : Search) (kind : MatchKind) (earliest : Bool) (pattern : Option ℕ) (slots : List (Option ℕ))
    (found : Option Found) → length slots ≡ slot_count nfa.groups
    → IsAnswer nfa kind earliest x pattern slots → IsFindAnswer nfa kind earliest x found
    → match_of pattern slots ≡ found

-- the same with any number of slots, if each pattern that has groups has its two
abbrev pub TwoSlotsGiveTheMatch : Type 0
TwoSlotsGiveTheMatch =
    (nfa : Automaton) (x : Search) (kind : MatchKind) (earliest : Bool) (pattern : Option ℕ) (slots : List (Option ℕ))
    (found : Option Found) → IsAutomaton nfa → 2 * length nfa.groups ≤ length slots
    → IsAnswer nfa kind earliest x pattern slots → IsFindAnswer nfa kind earliest x found
    → match_of pattern slots ≡ found

-- If a match may end anywhere: a search that finds something has an accepting path,
abbrev pub FoundIsSomething : Type 0
FoundIsSomething =
    (nfa : Automaton) (x : Search) (kind : MatchKind) (earliest found : Bool) → is_utf8_empty nfa ≡ false
    → found ≡ true → IsBoolAnswer nfa kind earliest x found → MatchesSomething nfa x

-- and a search that finds nothing has none;
abbrev pub NotFoundIsNothing : Type 0
NotFoundIsNothing =
    (nfa : Automaton) (x : Search) (kind : MatchKind) (earliest found : Bool) → is_utf8_empty nfa ≡ false
    → found ≡ false → IsBoolAnswer nfa kind earliest x found → MatchesNothing nfa x

-- a pattern of its answer is that of an accepting path,
abbrev pub PatternIsMatched : Type 0
PatternIsMatched =
    (nfa : Automaton) (x : Search) (kind : MatchKind) (earliest : Bool) (pattern : ℕ) (slots : List (Option ℕ))
    → is_utf8_empty nfa ≡ false → IsAnswer nfa kind earliest x (Some pattern) slots → MatchesPattern nfa x pattern

-- and if its answer has no pattern, there is no accepting path
abbrev pub NoPatternIsNothing : Type 0
NoPatternIsNothing =
    (nfa : Automaton) (x : Search) (kind : MatchKind) (earliest : Bool) (slots : List (Option ℕ))
    → is_utf8_empty nfa ≡ false → IsAnswer nfa kind earliest x None slots → MatchesNothing nfa x

-- a search that matches a pattern matches something
abbrev pub PatternIsSomething : Type 0
PatternIsSomething =
    (nfa : Automaton) (x : Search) (pattern : ℕ) → MatchesPattern nfa x pattern → MatchesSomething nfa x

-- and no search matches something and nothing
abbrev pub NotBoth : Type 0
NotBoth = (nfa : Automaton) (x : Search) → MatchesSomething nfa x → ¬ (MatchesNothing nfa x)
