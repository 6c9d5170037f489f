-- the parts of the text, joined
use Rattle.std.proofs.Common.{append_assoc}
use Rattle.std.proofs.Output.{has_written_of_eq}
use Rattle.nfa_compiler.proofs.error.CompileErrorDisplay.fmt.Goals as goal

pub returns-in-TooBig-clause-writes : goal.returns-in-TooBig-clause-writes
returns-in-TooBig-clause-writes g c plain ok =
    has_written_of_eq _ _ _ _ _ (rw c.in-TooBig.is (simp append_assoc)) (c.write-in-TooBig.ensures.writes plain ok)
