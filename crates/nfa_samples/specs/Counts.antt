-- What the functions of `named_engine` return: the engine that a word names, how many matches there are, and why they
-- were not counted.
use Rattle.std.specs.Prelude.{◌≡◌, ◌≢◌, ◌⊎◌, ◌<◌, ℕ, false, List, length, None, ⊤}
use Rattle.std.specs.IoError.{error_kind}
use Rattle.std.specs.declared.io.Error.{Error}
use Rattle.std.specs.declared.io.ErrorKind.TheVariants.{OutOfMemory}
use Rattle.regex_search_core.specs.Found.{Found}
use Rattle.regex_search_core.specs.Search.{whole}
use Rattle.regex_search_core.specs.declared.search.MatchKind.TheVariants.{LeftmostFirst}
use Rattle.thompson_nfa.specs.Automaton.{Automaton}
use Rattle.nfa_engines.specs.Backtrack.{Backtracker, IsTooLong}
use Rattle.nfa_engines.specs.Lists.{AreMatches}
use Rattle.nfa_engines.specs.SearchError.{SearchError}
use Rattle.nfa_engines.specs.SearchError.TheVariants.{Finder, HaystackTooLong, Memory as NoMemory}
use Rattle.nfa_samples.specs.declared.named_engine.Engine.{Engine}
use Rattle.nfa_samples.specs.declared.named_engine.Engine.TheVariants.{Backtracker as ByBacktracker, PikeVM}
use Rattle.nfa_samples.specs.declared.named_engine.Failure.{Failure}
use Rattle.nfa_samples.specs.declared.named_engine.Failure.TheVariants.{TooLong, Memory, Read}

-- there are this many matches in the text
pub record IsMatchCount (nfa : Automaton) (text : List ℕ) (count : ℕ) : Type 0 where
  pub all : List Found
  pub are_all : AreMatches nfa LeftmostFirst false (whole text) all
  pub count_is : count ≡ length all

-- the count of the last round, or 0 without rounds
pub record IsLastCount (nfa : Automaton) (text : List ℕ) (rounds count : ℕ) : Type 0 where
  pub none : rounds ≡ 0 → count ≡ 0
  pub last : 0 < rounds → IsMatchCount nfa text count

-- a backtracker of the NFA with the default configuration
abbrev pub backtracker_of : Automaton → Backtracker
backtracker_of nfa = record { nfa = nfa; visited_capacity = None }

-- the engine refuses the text for its length
abbrev pub Refuses : Engine → Automaton → List ℕ → Type 0
Refuses ByBacktracker nfa text = IsTooLong (backtracker_of nfa) (whole text)
Refuses PikeVM nfa text = ⊥

-- Why there is no count: the text was refused for its length, in the first round; otherwise memory was.
abbrev pub IsWhyNotCounted : Engine → Automaton → List ℕ → ℕ → Failure → Type 0
IsWhyNotCounted engine nfa text rounds failure =
    ((0 < rounds) × Refuses engine nfa text × (failure ≡ TooLong (length text)))
    ⊎ ((0 < rounds → ¬ (Refuses engine nfa text)) × (failure ≡ Memory))

-- why a search failed
abbrev pub failure_of : SearchError → Failure
failure_of (HaystackTooLong len) = TooLong len
failure_of NoMemory = Memory
failure_of (Finder error) = Memory

-- why the reader failed: its error, unless it is that of memory
pub record IsOfReader (error : Error) (failure : Failure) : Type 0 where
  pub memory : error_kind error ≡ OutOfMemory → failure ≡ Memory
  pub other : error_kind error ≢ OutOfMemory → failure ≡ Read error

-- why the haystack was not read
abbrev pub IsOfReading : Failure → Type 0
IsOfReading (TooLong len) = ⊥
IsOfReading Memory = ⊤
IsOfReading (Read error) = error_kind error ≢ OutOfMemory
