-- Laws of the windows that a lazy DFA finds, about the definitions only.
use Rattle.std.specs.Prelude.{ℕ, ◌+◌, ◌≤◌, false, List, None, Option, Some}
use Rattle.nfa_paths.specs.Common.{Found, HalfFound, Search, Automaton, IsAnswer, IsFindAnswer, IsHalfAnswer, LeftmostFirst}
use Rattle.nfa_engines.specs.StartLaws.{IsFirstStart, IsUnbound, StartsAnywhere, anchored_at, from_start}
use Rattle.nfa_lazy_dfa.specs.Configurations.{StartsFrom}

-- the search with this span, and the same anchoring and haystack
abbrev pub within : Search → ℕ → ℕ → Search
within x start end = record x { start = start; end = end }

-- No accepting path starts before the position, so no anchored search at an earlier start has one.
abbrev pub WindowsAreFirstStarts : Type 0
WindowsAreFirstStarts =
    (nfa : Automaton) (x : Search) (s : ℕ) → IsUnbound nfa x → x.start ≤ s → StartsFrom nfa x s → IsFirstStart nfa x s

-- a search that finds a half match has the answer of the search of a window that ends with it
abbrev pub WindowHasTheAnswer : Type 0
WindowHasTheAnswer =
    (nfa : Automaton) (x : Search) (s : ℕ) (half : HalfFound) (pattern : Option ℕ) (slots : List (Option ℕ))
    → IsUnbound nfa x → x.start ≤ s → StartsFrom nfa x s → IsHalfAnswer nfa LeftmostFirst false x (Some half)
    → IsAnswer nfa LeftmostFirst false (within x s half.offset) pattern slots
    → IsAnswer nfa LeftmostFirst false x pattern slots

-- the same for its match
abbrev pub WindowHasTheMatch : Type 0
WindowHasTheMatch =
    (nfa : Automaton) (x : Search) (s : ℕ) (half : HalfFound) (found : Option Found)
    → IsUnbound nfa x → x.start ≤ s → StartsFrom nfa x s → IsHalfAnswer nfa LeftmostFirst false x (Some half)
    → IsFindAnswer nfa LeftmostFirst false (within x s half.offset) found
    → IsFindAnswer nfa LeftmostFirst false x found

-- Nothing matches before a position, and the anchored search there finds nothing: it has no accepting path, or its
-- match splits a codepoint. Then a search has the match of the search from the next position on, also if a match has
-- to end on a boundary.
abbrev pub SearchGoesOn : Type 0
SearchGoesOn =
    (nfa : Automaton) (x : Search) (s : ℕ) (found : Option Found)
    → StartsAnywhere nfa x → IsFirstStart nfa x s → IsHalfAnswer nfa LeftmostFirst false (anchored_at x s) None
    → IsFindAnswer nfa LeftmostFirst false (from_start x (s + 1)) found
    → IsFindAnswer nfa LeftmostFirst false x found

-- No accepting path starts before the position, also if a match has to end on a boundary.
abbrev pub ScansAreFirstStarts : Type 0
ScansAreFirstStarts =
    (nfa : Automaton) (x : Search) (s : ℕ) → StartsAnywhere nfa x → x.start ≤ s → StartsFrom nfa x s
    → IsFirstStart nfa x s
