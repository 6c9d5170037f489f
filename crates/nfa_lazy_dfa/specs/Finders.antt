-- The error of a lazy DFA as one of a step of an iteration.
use Rattle.regex_search_core.specs.declared.search.MatchError.TheVariants as finder
use Rattle.nfa_search_base.specs.declared.error.SearchError.{SearchError}
use Rattle.nfa_search_base.specs.declared.error.SearchError.TheVariants as error
use Rattle.nfa_lazy_dfa.specs.declared.error.StopError.{StopError}
use Rattle.nfa_lazy_dfa.specs.declared.error.StopError.TheVariants.{GaveUp, Quit, Memory}

-- memory that ran out, or the error of a finder
abbrev pub search_error_of : StopError → SearchError
search_error_of (GaveUp offset) = error.Finder (finder.GaveUp offset)
search_error_of (Quit byte offset) = error.Finder (finder.Quit byte offset)
search_error_of Memory = error.Memory
