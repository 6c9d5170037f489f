-- Each step of the iteration finds the next hit, in the `str`, of the pattern that is read.
use Rattle.nfa_compiler.proofs.CallLemmas.{call-matches-in-str}
use Rattle.nfa_compiler.proofs.calls.matches_in_str.Goals as goal

pub returns : goal.returns
returns c = λ re meant.
    call-matches-in-str _ _ _ c.args.haystack.now c.requires.compiled c.requires.utf8 c.requires.free c.requires.text re
    meant _ c.requires.all
