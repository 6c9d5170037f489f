-- None of the bytes so far is the one that is sought.
use Rattle.nfa_meta.specs.TemplateTexts.{HasNo}
use Rattle.nfa_meta.proofs.interpolate.scan.find_byte.Given as goal

abbrev pub invariant-loop-end : goal.invariant-loop-end
invariant-loop-end l = HasNo l.text l.from l.end l.byte
