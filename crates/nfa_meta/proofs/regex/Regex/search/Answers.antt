-- What ran is within the bounds of one search.
use Rattle.nfa_paths.proofs.Common.{search_of}
use Rattle.nfa_meta.proofs.ListWorkLemmas.{match_slots}
use Rattle.nfa_meta.proofs.WorkLemmas.{search-rests, search-works}
use Rattle.nfa_meta.proofs.regex.Regex.search.Goals as goal

pub returns-clause-work : goal.returns-clause-work
returns-clause-work c =
    let ran = c.find_by_ref.ensures in
    search-works match_slots (search_of c.args.input.now) _ _ ran.runs ran.holds ran.keeps

pub returns-clause-rests : goal.returns-clause-rests
returns-clause-rests c = search-rests (search_of c.args.input.now) _ _ c.find_by_ref.ensures.runs
