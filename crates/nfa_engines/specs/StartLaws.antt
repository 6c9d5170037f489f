-- Laws of where the answer of a search starts, and of an NFA whose anchored start tries the starts of its patterns in
-- their order, about the definitions only.
use Rattle.std.specs.Prelude.{◌≡◌, ◌↔◌, ◌==◌, ℕ, ◌+◌, ◌<◌, ◌≤◌, Bool, false, List, Option, Some, option_map, slice_get}
use Rattle.nfa_paths.specs.Common.{Found, Search, MatchKind, Automaton, byte_at, is_utf8_empty, IsAnswer, IsFindAnswer, No, Yes, number_of, PatternID, IsAutomaton, starts, Pattern}
use Rattle.nfa_paths.specs.Paths.{NoMatchBegins}
pub use Rattle.nfa_paths.specs.Starts.{from_start, anchored_at, IsUnbound, IsFirstStart, NothingAtByte, StartIsFirst, started_at, alternates_of, IsUnionOfPatterns, TriesPatternsInOrder, StartsMatchTheirPatterns}
use Rattle.nfa_engines.specs.Laws.{MatchesNothing, MatchesSomething, Tells, PathsWriteTheirEnds}

-- a match of the search may start at each position of its span: neither the search nor the NFA is anchored
pub record StartsAnywhere (nfa : Automaton) (x : Search) : Type 0 where
  pub unanchored : x.anchored ≡ No
  pub prefixed : (nfa.anchored == nfa.unanchored) ≡ false

-- a search answers what the search from such a start on answers, for any kind
abbrev pub StartsArePassed : {A : Type 0} → Tells A → Type 0
StartsArePassed {A} Is =
    (nfa : Automaton) (x : Search) (s : ℕ) (kind : MatchKind) (earliest : Bool) (a : A)
    → IsUnbound nfa x → IsFirstStart nfa x s
    → Is nfa kind earliest x a ↔ Is nfa kind earliest (from_start x s) a

-- If the anchored search at such a start has a pattern, its answer is that of the search.
abbrev pub FirstStartAnswers : MatchKind → Bool → Type 0
FirstStartAnswers kind earliest =
    (nfa : Automaton) (x : Search) (s pattern : ℕ) (slots : List (Option ℕ))
    → IsUnbound nfa x → IsFirstStart nfa x s
    → IsAnswer nfa kind earliest (anchored_at x s) (Some pattern) slots
    → IsAnswer nfa kind earliest x (Some pattern) slots

-- The same for its match. Here `IsFree` is `IsUnbound`, or `StartsAnywhere` if the match may have to end on a boundary.
abbrev pub FirstStartMatches : (Automaton → Search → Type 0) → MatchKind → Bool → Type 0
FirstStartMatches IsFree kind earliest =
    (nfa : Automaton) (x : Search) (s : ℕ) (m : Found)
    → IsFree nfa x → IsFirstStart nfa x s
    → IsFindAnswer nfa kind earliest (anchored_at x s) (Some m)
    → IsFindAnswer nfa kind earliest x (Some m)

-- the start of the answer: the first in the span at which the anchored search matches, and it has this answer
pub record IsAnswerStart (nfa : Automaton) (kind : MatchKind) (earliest : Bool) (x : Search) (pattern : ℕ)
    (slots : List (Option ℕ)) (s : ℕ) : Type 0 where
  pub first : IsFirstStart nfa x s
  pub within : s ≤ x.end
  pub answers : IsAnswer nfa kind earliest (anchored_at x s) (Some pattern) slots

-- an answer with a pattern has such a start
abbrev pub AnswersHaveAStart : MatchKind → Bool → Type 0
AnswersHaveAStart kind earliest =
    (nfa : Automaton) (x : Search) (pattern : ℕ) (slots : List (Option ℕ))
    → IsUnbound nfa x → IsAnswer nfa kind earliest x (Some pattern) slots
    → (s : ℕ) × IsAnswerStart nfa kind earliest x pattern slots s

-- A search matches nothing exactly if no anchored search at a start from its own on does.
abbrev pub NothingAtEachStart : Type 0
NothingAtEachStart =
    (nfa : Automaton) (x : Search) → IsUnbound nfa x
    → MatchesNothing nfa x ↔ ((i : ℕ) → x.start ≤ i → MatchesNothing nfa (anchored_at x i))

-- if no match begins with the byte at such a start, the next position is one, too
abbrev pub FirstStartMoves : Type 0
FirstStartMoves =
    (nfa : Automaton) (x : Search) (s byte : ℕ) → IsFirstStart nfa x s → byte_at x s ≡ Some byte
    → NoMatchBegins nfa byte → IsFirstStart nfa x (s + 1)

-- A search that is anchored to a pattern answers what the anchored search of only this pattern answers, for any kind.
abbrev pub PatternIsAlone : {A : Type 0} → Tells A → Type 0
PatternIsAlone {A} Is =
    (nfa : Automaton) (x : Search) (pattern : PatternID) (state : ℕ) (kind : MatchKind) (earliest : Bool) (a : A)
    → slice_get nfa.patterns (number_of pattern) ≡ Some state
    → Is nfa kind earliest (record x { anchored = Pattern pattern }) a
    ↔ Is (started_at nfa state) kind earliest (record x { anchored = Yes }) a

-- pattern k starts at the state, and no earlier pattern has an accepting path
pub record IsFirstPattern (nfa : Automaton) (x : Search) (k state : ℕ) : Type 0 where
  pub starts_at : slice_get nfa.patterns k ≡ Some state
  pub nothing : (j other : ℕ) → j < k → slice_get nfa.patterns j ≡ Some other
      → MatchesNothing (started_at nfa other) x

-- If the search of only such a pattern has an answer, it is that of the search of all patterns.
abbrev pub FirstPatternAnswers : MatchKind → Bool → Type 0
FirstPatternAnswers kind earliest =
    (nfa : Automaton) (x : Search) (k state pattern : ℕ) (slots : List (Option ℕ))
    → is_utf8_empty nfa ≡ false → x.anchored ≡ Yes → TriesPatternsInOrder nfa x → IsFirstPattern nfa x k state
    → IsAnswer (started_at nfa state) kind earliest x (Some pattern) slots
    → IsAnswer nfa kind earliest x (Some pattern) slots

-- an answer is that of such a pattern
pub record IsOfPattern (nfa : Automaton) (kind : MatchKind) (earliest : Bool) (x : Search) (pattern : ℕ)
    (slots : List (Option ℕ)) : Type 0 where
  pub k : ℕ
  pub state : ℕ
  pub first : IsFirstPattern nfa x k state
  pub answers : IsAnswer (started_at nfa state) kind earliest x (Some pattern) slots

abbrev pub AnswersAreOfPatterns : MatchKind → Bool → Type 0
AnswersAreOfPatterns kind earliest =
    (nfa : Automaton) (x : Search) (pattern : ℕ) (slots : List (Option ℕ))
    → is_utf8_empty nfa ≡ false → x.anchored ≡ Yes → TriesPatternsInOrder nfa x
    → IsAnswer nfa kind earliest x (Some pattern) slots
    → IsOfPattern nfa kind earliest x pattern slots

-- the same for its match
abbrev pub FirstPatternMatches : MatchKind → Bool → Type 0
FirstPatternMatches kind earliest =
    (nfa : Automaton) (x : Search) (k state : ℕ) (m : Found)
    → is_utf8_empty nfa ≡ false → x.anchored ≡ Yes → TriesPatternsInOrder nfa x → IsFirstPattern nfa x k state
    → IsFindAnswer (started_at nfa state) kind earliest x (Some m)
    → IsFindAnswer nfa kind earliest x (Some m)

-- a match is that of such a pattern
pub record IsMatchOfPattern (nfa : Automaton) (kind : MatchKind) (earliest : Bool) (x : Search)
    (m : Found) : Type 0 where
  pub k : ℕ
  pub state : ℕ
  pub first : IsFirstPattern nfa x k state
  pub answers : IsFindAnswer (started_at nfa state) kind earliest x (Some m)

abbrev pub MatchesAreOfPatterns : MatchKind → Bool → Type 0
MatchesAreOfPatterns kind earliest =
    (nfa : Automaton) (x : Search) (m : Found)
    → is_utf8_empty nfa ≡ false → x.anchored ≡ Yes → TriesPatternsInOrder nfa x
    → IsFindAnswer nfa kind earliest x (Some m)
    → IsMatchOfPattern nfa kind earliest x m

-- a search matches nothing exactly if no pattern matches when it is searched alone
abbrev pub NothingOfEachPattern : Type 0
NothingOfEachPattern =
    (nfa : Automaton) (x : Search) → x.anchored ≡ Yes → TriesPatternsInOrder nfa x
    → MatchesNothing nfa x
    ↔ ((k state : ℕ) → slice_get nfa.patterns k ≡ Some state → MatchesNothing (started_at nfa state) x)

-- pattern k matches when it is searched alone, and no earlier pattern does
pub record IsFirstThatMatches (nfa : Automaton) (x : Search) (k : ℕ) : Type 0 where
  pub state : ℕ
  pub first : IsFirstPattern nfa x k state
  pub matches : MatchesSomething (started_at nfa state) x

-- then the answer has pattern k exactly if k is the first that matches
abbrev pub AnswerIsOfFirst : MatchKind → Bool → Type 0
AnswerIsOfFirst kind earliest =
    (nfa : Automaton) (x : Search) (k : ℕ) (pattern : Option ℕ) (slots : List (Option ℕ))
    → is_utf8_empty nfa ≡ false → x.anchored ≡ Yes → TriesPatternsInOrder nfa x → StartsMatchTheirPatterns nfa x
    → IsAnswer nfa kind earliest x pattern slots
    → (pattern ≡ Some k) ↔ IsFirstThatMatches nfa x k

-- and so has the match, if each accepting path writes its start and its end
abbrev pub MatchIsOfFirst : MatchKind → Bool → Type 0
MatchIsOfFirst kind earliest =
    (nfa : Automaton) (x : Search) (k : ℕ) (found : Option Found) → IsAutomaton nfa
    → is_utf8_empty nfa ≡ false → x.anchored ≡ Yes → TriesPatternsInOrder nfa x → StartsMatchTheirPatterns nfa x
    → PathsWriteTheirEnds nfa x
    → IsFindAnswer nfa kind earliest x found
    → (option_map (λ (m : Found). m.pattern) found ≡ Some k) ↔ IsFirstThatMatches nfa x k
