-- What the program prints if it stops before it is done, and the status that it then ends with.
use Rattle.std.specs.Prelude.{ℕ, List, ◌++◌, Option, Some, None, codes}
use Rattle.std.specs.Fmt.{decimal}
use Rattle.nfa_search_base.specs.declared.error.SearchError.{SearchError}
use Rattle.nfa_search_base.specs.declared.error.SearchError.TheVariants.{Finder, HaystackTooLong, Memory as NoMemory}
use Rattle.nfa_bench.specs.declared.run.Stop.{Stop}
use Rattle.nfa_bench.specs.declared.run.Stop.TheVariants.{Usage, UnknownName, TooLong, Memory, Write}

-- its line, if the text is the program's own, and its status
abbrev pub ending : Stop → Option (List ℕ) × ℕ
ending Usage = (Some (codes "usage: nfa-bench back|pike NAME HAYSTACK"), 2)
ending UnknownName = (Some (codes "unknown name"), 2)
ending (TooLong len) = (Some (codes "haystack too long: " ++ decimal len), 1)
ending Memory = (Some (codes "out of memory"), 1)
ending (Write error) = (None, 1)

-- why it stops if a search fails
abbrev pub stop_of : SearchError → Stop
stop_of (HaystackTooLong len) = TooLong len
stop_of NoMemory = Memory
stop_of (Finder error) = Memory
