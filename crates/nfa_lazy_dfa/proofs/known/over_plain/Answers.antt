-- The cell leads to a row without a match.
use Rattle.nfa_paths.proofs.Common.{◌≡◌, ◌/◌, ◌+◌, subst, arith, get_or, search_of}
use Rattle.nfa_lazy_dfa.specs.Rows.{IsAt, row_of}
use Rattle.nfa_lazy_dfa.proofs.RunLemmas.{leads-on}
use Rattle.nfa_lazy_dfa.proofs.ScanLemmas.{IsAt-next}
use Rattle.nfa_lazy_dfa.proofs.known.over_plain.Goals as goal

pub returns-clause-whole : goal.returns-clause-whole
returns-clause-whole c =
    let here = c.requires.at in
    (c.read_cell-cell.ensures (omega arith) here.stance here.is).whole

pub returns-clause-at : goal.returns-clause-at
returns-clause-at c =
    let dfa = c.args.dfa.now in
    let x = search_of c.args.input.now in
    let cache = c.args.cache.now in
    let at = c.args.at in
    let here = c.requires.at in
    let cell = c.read_cell-cell.result in
    let leads = c.read_cell-cell.ensures (omega arith) here.stance here.is in
    let row : row_of cell ≡ cell / 256 = omega arith in
    subst (IsAt dfa cache x (at + 1)) row
    (IsAt-next dfa x cache cache at (c.args.first / 256) (row_of cell) c.requires.inside c.args.input.now.within here
    (leads-on dfa x cache at (c.args.first / 256) (get_or x.haystack at 0) cell here leads) leads.target leads.is).0
