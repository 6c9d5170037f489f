-- How many matches a text has, by an iterator over them.
use Rattle.std.proofs.Common.{◌≤◌, ◌+◌, ℕ, false, List, length, map, arith}
use Rattle.std.proofs.lemmas.List.{length-map}
use Rattle.regex_search_core.specs.Found.{found_of}
use Rattle.regex_search_core.specs.Search.{whole}
use Rattle.regex_search_core.specs.declared.search.Match.{Match}
use Rattle.regex_search_core.specs.declared.search.MatchKind.TheVariants.{LeftmostFirst}
use Rattle.thompson_nfa.specs.Automaton.{Automaton}
use Rattle.nfa_search_base.specs.Common.{AreFirstMatches}
use Rattle.nfa_search_base.proofs.ListLemmas.{matches-disjoint}
use Rattle.nfa_engines.proofs.IterationLemmas.{few-disjoint}

-- at most as many as it has bytes, and one more
pub few-matches : (nfa : Automaton) (text : List ℕ) (ms : List Match)
    → AreFirstMatches nfa LeftmostFirst false (whole text) (map found_of ms) → length ms ≤ length text + 1
few-matches nfa text ms first =
    let found = map found_of ms in
    let apart = matches-disjoint nfa LeftmostFirst false (whole text) found first in
    omega (arith, length-map ms found_of, few-disjoint (whole text) found apart)
