-- The captures are those of the hit of the pattern that is read in the text.
use Rattle.std.proofs.Common.{arith}
use Rattle.nfa_compiler.proofs.SearchLemmas.{answer-is}
use Rattle.nfa_compiler.proofs.CallLemmas.{bytes-of, call-answered, call-name}
use Rattle.nfa_compiler.proofs.calls.named_group_of_text.Goals as goal

pub returns : goal.returns
returns c = λ re names group meant named is.
    let bytes = bytes-of c.args.haystack.now (λ k. omega (arith, c.type_inv.haystack k)) in
    let by = call-answered _ _ _ c.args.haystack.now c.requires.compiled c.requires.anywhere c.requires.free bytes re
    meant in
    call-name _ _ _ c.requires.compiled names named c.args.captures.now c.args.name.now group _ c.requires.groups
    c.requires.room is (answer-is by _ _ c.requires.answer)
