-- The literal of the anchored start is the prefix.
use Rattle.nfa_paths.proofs.Common.{subst, sym}
use Rattle.nfa_facts.specs.Prefixes.{BeginsWith}
use Rattle.nfa_facts.proofs.ReachedLemmas.{if-ok-then}
use Rattle.nfa_facts.proofs.literal.prefix.literal_prefix.Goals as goal

pub returns-clause-value : goal.returns-clause-value
returns-clause-value c = rw c.start_anchored.ensures.value at c.literal_from.ensures

pub returns-clause-begins : goal.returns-clause-begins
returns-clause-begins c =
    let nfa = c.args.nfa.now in
    if-ok-then c.literal_from.result
    (λ literal value. subst (BeginsWith nfa) (sym value) (c.prefixes_are_read.ensures nfa))
    (rw c.start_anchored.ensures.value at c.literal_from.ensures)
