-- Each way enters the block of a pattern at its start, and ends at its Match.
use Rattle.nfa_compiler.specs.Compiled.{res_of}
use Rattle.nfa_compiler.proofs.WayLemmas.{ways-recorded}
use Rattle.nfa_compiler.proofs.laws.compiled_nfas_record_bounds.Goals as goal

pub returns-clause-patterns : goal.returns-clause-patterns
returns-clause-patterns c = λ res nfa made. ways-recorded res nfa made

pub returns-clause-texts : goal.returns-clause-texts
returns-clause-texts c = λ syntax texts nfa compiled. ways-recorded (res_of compiled.trees) nfa compiled.made
