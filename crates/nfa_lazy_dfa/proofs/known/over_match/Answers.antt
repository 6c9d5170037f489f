-- The cell leads to a row with a match.
use Rattle.nfa_paths.proofs.Common.{◌≡◌, ◌%◌, arith, search_of}
use Rattle.nfa_lazy_dfa.proofs.RunLemmas.{over-match}
use Rattle.nfa_lazy_dfa.proofs.known.over_match.Goals as goal

pub returns-clause-whole : goal.returns-clause-whole
returns-clause-whole c =
    let here = c.requires.at in
    let whole : c.read_cell-cell.result % 256 ≡ 0 =
    (c.read_cell-cell.ensures (omega arith) here.stance here.is).whole in
    omega arith

pub returns-clause-at : goal.returns-clause-at
returns-clause-at c = λ late.
    let here = c.requires.at in
    over-match c.args.dfa.now (search_of c.args.input.now) c.args.cache.now c.args.at c.args.first
    c.read_cell-cell.result here (c.read_cell-cell.ensures (omega arith) here.stance here.is) c.requires.inside
    c.args.input.now.within (omega arith) (omega arith) late
