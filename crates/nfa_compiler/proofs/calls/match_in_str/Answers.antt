-- The search finds the hit, in the `str`, of the pattern that is read.
use Rattle.nfa_compiler.proofs.CallLemmas.{call-answered-in-str, match-found}
use Rattle.nfa_compiler.proofs.calls.match_in_str.Goals as goal

pub returns : goal.returns
returns c = λ re meant.
    match-found _ (call-answered-in-str _ _ _ c.args.haystack.now c.requires.compiled c.requires.utf8 c.requires.free
    c.requires.text re meant) _ c.requires.answer
