-- No walk without the byte reaches a match.
use Rattle.nfa_paths.proofs.Common.{refl}
use Rattle.nfa_facts.proofs.RequiredLemmas.{byte-required}
use Rattle.nfa_facts.proofs.literal.required_bytes.single.Goals as goal

pub returns : goal.returns
returns c =
    byte-required c.args.nfa.now c.args.found.now.on_line c.args.found.now.reached.states c.args.byte
    (record { bytes = c.in_ok-vec.field-0; on_line = c.args.found.now.on_line }) c.requires c.in_ok-vec.ensures.items
    refl
