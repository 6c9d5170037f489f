-- Both tests were passed.
use Rattle.nfa_meta.proofs.AlwaysSetLemmas.{shows_written}
use Rattle.nfa_meta.proofs.regex.unwritten.shows_that_written.Goals as goal

pub returns-then-starts_are_marked : goal.returns-then-starts_are_marked
returns-then-starts_are_marked c =
    shows_written c.args.nfa.now c.args.slot c.args.marks.now c.targets_are_marked.result
    (c.starts_are_marked.ensures c.if-starts_are_marked.true) c.targets_are_marked.ensures
