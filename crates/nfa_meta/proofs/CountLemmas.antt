-- How many matches an iterator gives.
use Rattle.nfa_paths.proofs.Common.{◌+◌, ◌≤◌, List, Match, MatchKind, Search, arith, found_of, length, map, span_len}
use Rattle.std.proofs.lemmas.List.{length-map}
use Rattle.thompson_nfa.specs.Automaton.{Automaton}
use Rattle.nfa_search_base.specs.Common.{AreFirstMatches}
use Rattle.nfa_search_base.proofs.ListLemmas.{matches-disjoint}
use Rattle.nfa_engines.proofs.IterationLemmas.{few-disjoint}

-- at most as many as the span has bytes, and one more
pub few-matches : (nfa : Automaton) (kind : MatchKind) (x : Search) (ms : List Match)
    → AreFirstMatches nfa kind x.earliest x (map found_of ms) → length ms ≤ span_len x + 1
few-matches nfa kind x ms first =
    let found = map found_of ms in
    let apart = matches-disjoint nfa kind x.earliest x found first in
    omega (arith, length-map ms found_of, few-disjoint x found apart)
