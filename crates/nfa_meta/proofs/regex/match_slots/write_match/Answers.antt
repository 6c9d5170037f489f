-- Both offsets can be written.
use Rattle.nfa_paths.proofs.Common.{rules, ◌≡◌, Some, arith, common_steps, found_of}
use Rattle.nfa_meta.proofs.MatchSlotLemmas.{two-set}
use Rattle.nfa_meta.proofs.regex.match_slots.write_match.Goals as goal

pub returns : goal.returns
returns c =
    let m = found_of c.args.found in
    let start : c.new.result ≡ Some m.start = first_of (search rules, grind (arith, common_steps)) in
    let end : c.new-2.result ≡ Some m.end = first_of (search rules, grind (arith, common_steps)) in
    two-set c.args.slots.now c.new.result c.new-2.result m c.requires.two start end
