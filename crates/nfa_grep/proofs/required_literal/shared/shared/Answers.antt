-- The part is cut out of the bytes, or empty.
use Rattle.std.proofs.Common.{◌+◌, ◌-◌, arith, length}
use Rattle.nfa_grep.proofs.PartLemmas.{occurs-between, occurs-none}
use Rattle.nfa_grep.proofs.required_literal.shared.shared.Goals as goal

pub returns-in-Some-clause-inside : goal.returns-in-Some-clause-inside
returns-in-Some-clause-inside c =
    let bytes = c.args.bytes.now in
    let start = c.in-Some.start in
    occurs-between bytes start (start + (length bytes - c.loop-cut.cut)) (omega arith) c.in-Some.ensures.within

pub returns-clause-inside : goal.returns-clause-inside
returns-clause-inside c = occurs-none c.args.bytes.now

pub returns-clause-needle : goal.returns-clause-needle
returns-clause-needle c = occurs-none c.args.needle.now
