-- The bytes occur nowhere before what the search finds.
use Rattle.std.proofs.Common.{arith}
use Rattle.program_text.proofs.passed.first_or_len.Goals as goal

pub returns-in-Some-clause-before : goal.returns-in-Some-clause-before
returns-in-Some-clause-before c = λ k less. c.in-Some.ensures.0.before k (omega arith) less

pub returns-in-None-clause-before : goal.returns-in-None-clause-before
returns-in-None-clause-before c = λ k less. c.in-None.ensures k (omega arith) (omega arith)
