-- Each step of the iteration finds the next hit of the pattern that is read in the text.
use Rattle.std.proofs.Common.{arith}
use Rattle.nfa_compiler.proofs.CallLemmas.{bytes-of, call-matches}
use Rattle.nfa_compiler.proofs.calls.matches_of_text.Goals as goal

pub returns : goal.returns
returns c = λ re meant.
    let bytes = bytes-of c.args.haystack.now (λ k. omega (arith, c.type_inv.haystack k)) in
    call-matches _ _ _ c.args.haystack.now c.requires.compiled c.requires.anywhere c.requires.free bytes re meant _
    c.requires.all
