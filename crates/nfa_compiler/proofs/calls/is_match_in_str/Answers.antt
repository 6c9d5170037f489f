-- The search finds something exactly if the tree matches that is read, from a boundary.
use Rattle.nfa_compiler.proofs.WrittenLemmas.{found-as-read-in-str}
use Rattle.nfa_compiler.proofs.calls.is_match_in_str.Goals as goal

pub returns : goal.returns
returns c = λ re meant.
    found-as-read-in-str _ _ _ c.args.haystack.now c.requires.compiled c.requires.utf8 c.requires.free c.requires.text
    re meant _ c.requires.answer
