-- The law of escaped texts.
use Rattle.std.proofs.Common.{arith}
use Rattle.nfa_compiler.proofs.CallLemmas.{bytes-of}
use Rattle.nfa_compiler.proofs.EscapeLemmas.{escaped-first}
use Rattle.nfa_compiler.proofs.written.escaped_text_finds_itself.Goals as goal

pub returns : goal.returns
returns c =
    escaped-first c.args.escaped.now c.args.text.now c.args.haystack.now c.requires.escaped
    (bytes-of c.args.haystack.now (λ k. omega (arith, c.type_inv.haystack k)))
