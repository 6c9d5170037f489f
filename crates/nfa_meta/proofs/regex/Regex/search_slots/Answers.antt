-- What ran is within the bounds of one search.
use Rattle.nfa_paths.proofs.Common.{search_of}
use Rattle.nfa_meta.proofs.ListWorkLemmas.{no_slots}
use Rattle.nfa_meta.proofs.WorkLemmas.{search-rests, search-works}
use Rattle.nfa_meta.proofs.regex.Regex.search_slots.Goals as goal

pub returns-clause-work : goal.returns-clause-work
returns-clause-work c =
    let ran = c.write_slots.ensures in
    search-works no_slots (search_of c.args.input.now) _ _ ran.runs ran.holds ran.keeps

pub returns-clause-rests : goal.returns-clause-rests
returns-clause-rests c = search-rests (search_of c.args.input.now) _ _ c.write_slots.ensures.runs
