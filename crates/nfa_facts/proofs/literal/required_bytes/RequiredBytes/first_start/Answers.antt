-- The bytes are sought in the part of the haystack.
use Rattle.nfa_facts.proofs.PositionLemmas.{line-lacks, nowhere-lacks}
use Rattle.nfa_facts.proofs.literal.required_bytes.RequiredBytes.first_start.Goals as goal

pub returns-in_default-clause-nowhere : goal.returns-in_default-clause-nowhere
returns-in_default-clause-nowhere c =
    nowhere-lacks c.args.self.now c.args.haystack.now c.args.end c.args.from
    (rw c.deref.ensures.value at c.in_default.ensures.nowhere)

pub returns-clause-passed : goal.returns-clause-passed
returns-clause-passed c =
    line-lacks c.args.self.now c.args.haystack.now c.args.end c.args.from c.in-Some.at c.line_start.result
    (rw c.deref.ensures.value at c.in-Some.ensures.first) c.if-not-self.false c.line_start.ensures.onward
    c.line_start.ensures.within c.line_start.ensures.line
