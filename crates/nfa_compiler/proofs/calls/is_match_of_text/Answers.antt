-- The search finds something exactly if the tree matches that is read.
use Rattle.std.proofs.Common.{arith}
use Rattle.nfa_compiler.proofs.CallLemmas.{bytes-of}
use Rattle.nfa_compiler.proofs.WrittenLemmas.{found-as-read}
use Rattle.nfa_compiler.proofs.calls.is_match_of_text.Goals as goal

pub returns : goal.returns
returns c = λ re meant.
    let bytes = bytes-of c.args.haystack.now (λ k. omega (arith, c.type_inv.haystack k)) in
    found-as-read _ _ _ c.args.haystack.now c.requires.compiled c.requires.anywhere c.requires.free bytes re meant _
    c.requires.answer
