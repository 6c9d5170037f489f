-- The whole span is a window that begins at its start.
use Rattle.nfa_paths.proofs.Common.{search_of}
use Rattle.nfa_lazy_dfa.proofs.WatchLemmas.{IsBegun-first}
use Rattle.nfa_lazy_dfa.proofs.window.first_window.Goals as goal

pub returns-then-not-dfa-clause-start : goal.returns-then-not-dfa-clause-start
returns-then-not-dfa-clause-start c =
    let x = search_of c.args.input.now in
    IsBegun-first c.args.dfa.now.nfa c.args.dfa.now.kind x.earliest x c.start.result c.start.ensures
    c.in_ok-half.half c.in_ok-half.ensures.steps c.window_of.result c.window_of.ensures.half c.window_of.ensures.start
