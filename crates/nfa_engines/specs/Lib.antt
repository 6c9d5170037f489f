pub mod IterationLaws
pub mod Laws
pub mod SpanLaws
pub mod StartLaws
pub use Rattle.nfa_backtrack.specs.Backtrack
pub use Rattle.nfa_backtrack.specs.Iterators as BacktrackIterators
pub use Rattle.nfa_backtrack.specs.Finding as BacktrackFinding
pub use Rattle.nfa_backtrack.specs.Runs as BacktrackRuns
pub use Rattle.nfa_pikevm.specs.Iterators as PikeVMIterators
pub use Rattle.nfa_pikevm.specs.Engines
pub use Rattle.nfa_pikevm.specs.Finding as PikeVMFinding
pub use Rattle.nfa_pikevm.specs.FirstBytes
pub use Rattle.nfa_pikevm.specs.Needs
pub use Rattle.nfa_paths.specs.Paths
pub use Rattle.nfa_paths.specs.Graphs
pub use Rattle.nfa_paths.specs.Overlaps
pub use Rattle.nfa_search_base.specs.Items
pub use Rattle.nfa_search_base.specs.Finders
pub use Rattle.nfa_search_base.specs.IterStates
pub use Rattle.nfa_search_base.specs.Runs
pub use Rattle.nfa_search_base.specs.WithCaptures
pub use Rattle.nfa_search_base.specs.Lists
pub use Rattle.nfa_search_base.specs.StoredRuns
pub use Rattle.nfa_search_base.specs.Stored
pub use Rattle.nfa_search_base.specs.declared.error.SearchError
pub use Rattle.nfa_search_base.specs.declared.iter.searcher.Offered
pub use Rattle.nfa_search_base.specs.declared.iter.searcher.Searcher
pub use Rattle.regex_search_core.specs.Boundary
pub use Rattle.regex_search_core.specs.CapturesLends
pub use Rattle.regex_search_core.specs.Found
pub use Rattle.regex_search_core.specs.Groups
pub use Rattle.regex_search_core.specs.PatternSetIters
pub use Rattle.regex_search_core.specs.PatternSets
pub use Rattle.regex_search_core.specs.Search
pub use Rattle.regex_search_core.specs.Slots
pub use Rattle.regex_search_core.specs.declared.captures.groups.CapturesPatternIter
pub use Rattle.regex_search_core.specs.declared.pattern_set.PatternSetIter
pub use Rattle.regex_search_core.specs.declared.primitives.PatternID
pub use Rattle.regex_search_core.specs.declared.search.Anchored
pub use Rattle.regex_search_core.specs.declared.search.HalfMatch
pub use Rattle.regex_search_core.specs.declared.search.Input
pub use Rattle.regex_search_core.specs.declared.search.Match
pub use Rattle.regex_search_core.specs.declared.search.MatchKind
pub use Rattle.regex_search_core.specs.declared.search.Span
pub use Rattle.thompson_nfa.specs.Automaton
pub use Rattle.thompson_nfa.specs.Characters
pub use Rattle.thompson_nfa.specs.Flaws
pub use Rattle.thompson_nfa.specs.Looks
pub use Rattle.thompson_nfa.specs.declared.flaw.Flaw
pub use Rattle.thompson_nfa.specs.declared.flaw.Referrer
pub use Rattle.thompson_nfa.specs.declared.look.Look
pub use Rattle.thompson_nfa.specs.declared.nfa.BuildError
pub use Rattle.thompson_nfa.specs.declared.state.State
pub use Rattle.thompson_nfa.specs.declared.state.Transition
