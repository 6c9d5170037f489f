-- The law of texts, of what the grammar reads.
use Rattle.std.proofs.Common.{arith}
use Rattle.nfa_compiler.proofs.CallLemmas.{bytes-of}
use Rattle.nfa_compiler.proofs.ReadLemmas.{has-match}
use Rattle.nfa_compiler.proofs.written.is_match_of_pattern.Goals as goal

pub returns : goal.returns
returns c =
    has-match c.args.pattern.now c.args.nfa.now c.requires.pattern c.args.text.now
    (bytes-of c.args.text.now (λ k. omega (arith, c.type_inv.text k))) c.args.found c.requires.answer
