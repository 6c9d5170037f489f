-- All bytes so far are of the name.
use Rattle.std.specs.List.{AllWithin}
use Rattle.nfa_meta.specs.GroupNames.{IsWord}
use Rattle.nfa_meta.proofs.interpolate.scan.word_end.Given as goal

abbrev pub invariant-loop-end : goal.invariant-loop-end
invariant-loop-end l = AllWithin IsWord l.text l.from l.end
