-- The match that is meant is the last row.
use Rattle.nfa_paths.proofs.Common.{refl, rules}
use Rattle.nfa_pikevm_scan.proofs.SlotsSinkLemmas.{NextsGive-taken}
use Rattle.nfa_pikevm_scan.proofs.nexts.nexts_of_lone.Goals as goal

pub returns-clause-crosses : goal.returns-clause-crosses
returns-clause-crosses c =
    let h = NextsGive-taken refl c.nexts_of_one_with.ensures.arrive in
    rw (c.swap_state_sets.ensures.seen, c.swap_state_sets.ensures.curr) (search (rules, h))
