-- the parts of the text, joined
use Rattle.std.proofs.Common.{append_assoc}
use Rattle.std.proofs.Output.{has_written_of_eq}
use Rattle.lexer.proofs.rules.RulesErrorDisplay.fmt.Goals as goal

pub returns-in-NoPattern-clause-writes : goal.returns-in-NoPattern-clause-writes
returns-in-NoPattern-clause-writes g c plain ok =
    has_written_of_eq _ _ _ _ _ (rw c.in-NoPattern.is (simp append_assoc))
    (c.write-in-NoPattern.ensures.writes plain ok)

pub returns-in-TooLarge-clause-writes : goal.returns-in-TooLarge-clause-writes
returns-in-TooLarge-clause-writes g c plain ok =
    has_written_of_eq _ _ _ _ _ (rw c.in-TooLarge.is (simp append_assoc)) (c.write-in-TooLarge.ensures.writes plain ok)
