-- The names of the tree are those that the grammar reads in the text, and so those of each NFA of the text.
use Rattle.nfa_meta.proofs.NamesLemmas.{groups-built, names-named}
use Rattle.nfa_meta.proofs.builder.Builder.capture_names.Goals as goal

pub returns-in-Ok-clause-read : goal.returns-in-Ok-clause-read
returns-in-Ok-clause-read c = names-named _ _ c.in-Ok.field-0.hir _ c.in-Ok.ensures.ok

pub returns-in-Ok-clause-names : goal.returns-in-Ok-clause-names
returns-in-Ok-clause-names c = λ nfa built.
    groups-built c.args.self.now _ c.in-Ok.field-0.hir _ nfa c.in-Ok.ensures.ok built
