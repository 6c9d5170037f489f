-- What was printed is all that is in the list, which was empty.
use Rattle.std.proofs.Common.{List, ℕ, Some, subst}
use Rattle.replacer.specs.Printed.{Prints}
use Rattle.replacer.proofs.changes.printed_alone.Goals as goal

pub returns-in-Ok-clause-printed : goal.returns-in-Ok-clause-printed
returns-in-Ok-clause-printed c =
    subst (λ (old : List ℕ). Prints c.args.job.now (Some c.args.line.now) (Some old) (Some c.print.new.out.items))
    c.new-made.ensures.items c.in-Ok.ensures.printed
