-- the parts of the text, joined
use Rattle.std.proofs.Common.{append_assoc}
use Rattle.std.proofs.Output.{has_written_of_eq}
use Rattle.grep_options.proofs.error.OptionsErrorDisplay.fmt.Goals as goal

pub returns-in-NotText-clause-writes : goal.returns-in-NotText-clause-writes
returns-in-NotText-clause-writes g c =
    rw c.in-NotText.is
    (λ plain ok. has_written_of_eq _ _ _ _ _ (simp append_assoc) (c.write.ensures.writes plain ok))
