-- After the start of a haystack there is no hit to lose.
use Rattle.nfa_compiler.proofs.UnboundLemmas.{boundary-unbound, hit-unbound, matches-unbound, str-unbound}
use Rattle.nfa_compiler.proofs.laws.hits_are_unbound.Goals as goal

pub returns-clause-hits : goal.returns-clause-hits
returns-clause-hits c = hit-unbound

pub returns-clause-boundary_hits : goal.returns-clause-boundary_hits
returns-clause-boundary_hits c = boundary-unbound

pub returns-clause-str_hits : goal.returns-clause-str_hits
returns-clause-str_hits c = str-unbound

pub returns-clause-matches : goal.returns-clause-matches
returns-clause-matches c = matches-unbound
