-- Each call appends the mark, and changes nothing that the closure captured.
use Rattle.std.proofs.Common.{rules}
use Rattle.nfa_meta.proofs.Rewriting.{AppendsBy-same}
use Rattle.callers.proofs.redactor.masked.Goals as goal

pub returns : goal.returns
returns c =
    c.replace_all_with.ensures.appended (λ _. c.args.mark.now)
    (AppendsBy-same _ _ _ _ (λ p q q' f' inside k. search rules))
