-- A match ends on a boundary exactly if it starts on one.
use Rattle.std.proofs.Common.{◌==◌}
use Rattle.nfa_compiler.proofs.StrLemmas.{boundary-is-str}
use Rattle.nfa_compiler.proofs.laws.boundary_hits_are_str_hits.Goals as goal

pub returns : goal.returns
returns c = λ res nfa x all text. boundary-is-str res all (nfa.anchored == nfa.unanchored) x text
