-- The captures are those of the hit, in the `str`, of the pattern that is read.
use Rattle.nfa_compiler.proofs.SearchLemmas.{answer-is}
use Rattle.nfa_compiler.proofs.CallLemmas.{call-answered-in-str, call-name}
use Rattle.nfa_compiler.proofs.calls.named_group_in_str.Goals as goal

pub returns : goal.returns
returns c = λ re names group meant named is.
    let by = call-answered-in-str _ _ _ c.args.haystack.now c.requires.compiled c.requires.utf8 c.requires.free
    c.requires.text re meant in
    call-name _ _ _ c.requires.compiled names named c.args.captures.now c.args.name.now group _ c.requires.groups
    c.requires.room is (answer-is by _ _ c.requires.answer)
