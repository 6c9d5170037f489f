-- What ran is within the bounds of one search.
use Rattle.nfa_paths.proofs.Common.{is_utf8_empty, not, search_of}
use Rattle.nfa_meta.proofs.WorkLemmas.{half-rests, half-works}
use Rattle.nfa_meta.proofs.regex.Regex.is_match.Goals as goal

pub returns-clause-work : goal.returns-clause-work
returns-clause-work c =
    let earliest = not (is_utf8_empty c.args.self.now.choice.nfa) in
    half-works (search_of c.args.input) earliest _ _ c.is_found.ensures.runs c.is_found.ensures.holds
    c.is_found.ensures.keeps

pub returns-clause-rests : goal.returns-clause-rests
returns-clause-rests c =
    let earliest = not (is_utf8_empty c.args.self.now.choice.nfa) in
    half-rests (search_of c.args.input) earliest _ _ c.is_found.ensures.runs
