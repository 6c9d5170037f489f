-- The part is needed as before the DFA searched.
use Rattle.nfa_paths.proofs.Common.{search_of}
use Rattle.nfa_meta.proofs.PrefixLemmas.{of-part}
use Rattle.nfa_meta.proofs.RunLemmas.{needs-later}
use Rattle.nfa_meta.proofs.regex.Regex.match_in_window.Goals as goal

pub returns-clause-why : goal.returns-clause-why
returns-clause-why c =
    let x = search_of c.args.input in
    let a = c.args.self.now in
    let b = c.found_anchored.new.self in
    let d = c.find_by_dfa.new.self in
    let e = c.part_to_search.new.self in
    of-part (λ part needs. needs-later a b e c.found_anchored.ensures.same x (search_of part)
    c.found_anchored.ensures.keeps (needs-later b d e c.find_by_dfa.ensures.same x (search_of part)
    c.find_by_dfa.ensures.keeps needs)) c.part_to_search.result c.part_to_search.ensures.why
