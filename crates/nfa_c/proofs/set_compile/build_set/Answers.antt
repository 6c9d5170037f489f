-- Why the texts are not read is why no builder makes a set of them.
use Rattle.nfa_c.proofs.set_compile.build_set.Goals as goal

pub returns-in-Err-clause-why : goal.returns-in-Err-clause-why
returns-in-Err-clause-why c = c.in-Err.ensures.why c.args.builder.now
