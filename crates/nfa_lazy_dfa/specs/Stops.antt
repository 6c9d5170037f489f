-- Why a search of a lazy DFA stops without an answer.
use Rattle.std.specs.Prelude.{◌≡◌, ℕ, ◌+◌, ◌≤◌, Some, ⊤, slice_get, Result, Ok, Err}
use Rattle.nfa_paths.specs.Common.{Search, Automaton}
use Rattle.nfa_lazy_dfa.specs.Assertions.{IsQuit}
use Rattle.nfa_lazy_dfa.specs.Rows.{stops_of}
use Rattle.nfa_lazy_dfa.specs.declared.cache.Cache.{Cache}
use Rattle.nfa_lazy_dfa.specs.declared.error.StopError.{StopError}
use Rattle.nfa_lazy_dfa.specs.declared.error.StopError.TheVariants.{GaveUp, Quit, Memory}

-- The byte is in the span, just before it or just after it, and the NFA has an assertion of a Unicode word, which would
-- have to read the byte as a part of a codepoint.
pub record IsQuitAt (nfa : Automaton) (x : Search) (byte offset : ℕ) : Type 0 where
  pub quit : IsQuit nfa byte
  pub is : slice_get x.haystack offset ≡ Some byte
  pub low : x.start ≤ offset + 1
  pub high : offset ≤ x.end

-- the offset is one of the span, or its end
pub record IsInSpan (x : Search) (offset : ℕ) : Type 0 where
  pub low : x.start ≤ offset
  pub high : offset ≤ x.end

-- What an error says. Memory may run out anywhere.
abbrev pub IsStop : Automaton → Search → StopError → Type 0
IsStop nfa x (GaveUp offset) = IsInSpan x offset
IsStop nfa x (Quit byte offset) = IsQuitAt nfa x byte offset
IsStop nfa x Memory = ⊤

-- A search counts whether it stopped: an error is one stop more, and an answer is none.
abbrev pub CountsStop : {A : Type 0} → Result A StopError → Cache → Cache → Type 0
CountsStop (Ok found) old new = stops_of new ≡ stops_of old
CountsStop (Err error) old new = stops_of new ≡ stops_of old + 1
