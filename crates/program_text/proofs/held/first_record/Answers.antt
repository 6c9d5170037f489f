-- The first record ends at the first end.
use Rattle.std.proofs.Common.{◌≢◌, arith, eq-eqb}
use Rattle.std.proofs.lemmas.List.Elements.{All-from_get_or}
use Rattle.program_text.proofs.LineLemmas.{first-is-record}
use Rattle.program_text.proofs.held.first_record.Goals as goal

pub returns-in-Some-clause-whole : goal.returns-in-Some-clause-whole
returns-in-Some-clause-whole c =
    first-is-record c.args.end c.args.text.now c.in-Some.at c.in-Some.ensures.0.high
    (λ k less. c.in-Some.ensures.0.before k (omega arith) less) c.in-Some.ensures.1

pub returns-in-None-clause-none : goal.returns-in-None-clause-none
returns-in-None-clause-none c = λ is.
    All-from_get_or (λ b. b ≢ c.args.end) c.args.text.now 0
    (λ k less same. c.in-None.ensures k (omega arith) less (eq-eqb _ c.args.end same))
