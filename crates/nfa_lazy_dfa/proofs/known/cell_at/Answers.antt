-- A known cell leads on.
use Rattle.nfa_paths.proofs.Common.{◌+◌, arith, search_of}
use Rattle.nfa_lazy_dfa.specs.Runs.{place_at}
use Rattle.nfa_lazy_dfa.proofs.RunLemmas.{leads-idle, leads-on, over-plain, unmarked}
use Rattle.nfa_lazy_dfa.proofs.known.cell_at.Goals as goal

pub returns-clause-whole : goal.returns-clause-whole
returns-clause-whole c = λ known.
    let here = c.requires.at.at in
    (c.read_cell.ensures known here.stance here.is).whole

pub returns-clause-plain : goal.returns-clause-plain
returns-clause-plain c = λ low.
    let x = search_of c.args.input.now in
    let at = c.args.at in
    let here = c.requires.at in
    let cell = c.read_cell.result in
    unmarked c.args.dfa.now x c.args.cache.now (at + 1) cell c.args.found low
    (over-plain c.args.dfa.now x c.args.cache.now (place_at at c.args.first c.args.found) here cell
    (c.read_cell.ensures (omega arith) here.at.stance here.at.is) c.requires.inside c.args.input.now.within
    (omega arith))

pub returns-clause-unmatched : goal.returns-clause-unmatched
returns-clause-unmatched c = λ low.
    let x = search_of c.args.input.now in
    let at = c.args.at in
    let here = c.requires.at in
    over-plain c.args.dfa.now x c.args.cache.now (place_at at c.args.first c.args.found) here c.read_cell.result
    (c.read_cell.ensures (omega arith) here.at.stance here.at.is) c.requires.inside c.args.input.now.within low

pub returns-clause-idle : goal.returns-clause-idle
returns-clause-idle c = λ low high.
    let here = c.requires.at.at in
    leads-idle c.args.dfa.now c.args.cache.now here.stance _ c.read_cell.result
    (c.read_cell.ensures (omega arith) here.stance here.is) low high

pub returns-clause-leads : goal.returns-clause-leads
returns-clause-leads c = λ known.
    let here = c.requires.at.at in
    leads-on c.args.dfa.now (search_of c.args.input.now) c.args.cache.now c.args.at _ _ c.read_cell.result here
    (c.read_cell.ensures known here.stance here.is)
