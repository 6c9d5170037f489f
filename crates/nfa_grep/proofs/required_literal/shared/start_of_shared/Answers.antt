-- The search found the part.
use Rattle.std.proofs.Common.{◌+◌, rules, slice_range}
use Rattle.nfa_grep.proofs.PartLemmas.{occurs-found}
use Rattle.nfa_grep.proofs.required_literal.shared.start_of_shared.Goals as goal

pub returns-then-is_some-clause-shared : goal.returns-then-is_some-clause-shared
returns-then-is_some-clause-shared c =
    let start = c.loop-start.start in
    occurs-found c.args.needle.now (slice_range c.args.bytes.now start (start + c.args.len)) c.find.result
    (search rules) c.find.ensures
