-- The captures are those of the first match of what the grammar reads.
use Rattle.std.proofs.Common.{arith}
use Rattle.nfa_compiler.proofs.CallLemmas.{bytes-of}
use Rattle.nfa_compiler.proofs.ReadLemmas.{name-is}
use Rattle.nfa_compiler.proofs.written.named_group_of_pattern.Goals as goal

pub returns : goal.returns
returns c =
    name-is c.args.pattern.now c.args.nfa.now c.requires.pattern c.args.text.now
    (bytes-of c.args.text.now (λ k. omega (arith, c.type_inv.text k))) c.args.captures.now c.args.name.now
    c.requires.answer c.requires.groups c.requires.room
