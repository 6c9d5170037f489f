-- What ran is within the bounds of one search.
use Rattle.nfa_paths.proofs.Common.{search_of}
use Rattle.nfa_meta.proofs.WorkLemmas.{half-rests, half-works}
use Rattle.nfa_meta.proofs.regex.Regex.find_half.Goals as goal

pub returns-clause-work : goal.returns-clause-work
returns-clause-work c =
    let x = search_of c.args.input in
    half-works x x.earliest _ _ c.half_of.ensures.runs c.half_of.ensures.holds c.half_of.ensures.keeps

pub returns-clause-rests : goal.returns-clause-rests
returns-clause-rests c =
    let x = search_of c.args.input in
    half-rests x x.earliest _ _ c.half_of.ensures.runs
