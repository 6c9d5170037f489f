-- No walk that does not pass the state reaches a match.
use Rattle.nfa_paths.proofs.Common.{refl}
use Rattle.nfa_facts.proofs.RequiredLemmas.{state-required}
use Rattle.nfa_facts.proofs.literal.required_bytes.if_longer.Goals as goal

pub returns-in-Some : goal.returns-in-Some
returns-in-Some c =
    state-required c.args.nfa.now c.in-Some.found.on_line c.in-Some.found.reached.states c.args.state
    (record { bytes = c.args.bytes; on_line = c.in-Some.found.on_line })
    (rw c.in-Some.is at c.in_ok-found.ensures.walked)
    c.requires.literal refl
