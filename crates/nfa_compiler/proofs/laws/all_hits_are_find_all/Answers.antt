-- The hits of one pattern are its matches, one by one.
use Rattle.nfa_compiler.specs.Common.{find, hit}
use Rattle.nfa_compiler.proofs.AllSearchLemmas.{all-of-one, one-hit}
use Rattle.nfa_compiler.proofs.laws.all_hits_are_find_all.Goals as goal

pub returns : goal.returns
returns c = all-of-one hit find one-hit
