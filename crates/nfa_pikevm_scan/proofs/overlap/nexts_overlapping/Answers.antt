-- A position is left for the next one, and the set gains the matches that count.
use Rattle.nfa_paths.proofs.Common.{refl, rules, search_of}
use Rattle.nfa_pikevm_scan.proofs.PatternSinkLemmas.{NextsOverlappingGive-taken, permits-is}
use Rattle.nfa_pikevm_scan.proofs.overlap.nexts_overlapping.Goals as goal

pub returns-clause-crosses : goal.returns-clause-crosses
returns-clause-crosses c =
    let h = NextsOverlappingGive-taken refl
    (permits-is c.args.nfa.now (search_of c.args.input.now) c.args.at c.may_end_at.result
    c.may_end_at.ensures.counts c.may_end_at.ensures.splits c.may_end_at.ensures.inside)
    c.nexts_with.ensures.rows c.nexts_with.ensures.arrive in
    rw (c.swap_state_sets.ensures.seen, c.swap_state_sets.ensures.curr) (search (rules, h))
