-- The window starts where the search does, or at an idle position.
use Rattle.nfa_paths.proofs.Common.{rules, IfOk, option_map, search_of, IsHalfAnswer}
use Rattle.nfa_lazy_dfa.specs.Windows.{half_in}
use Rattle.nfa_lazy_dfa.proofs.WatchLemmas.{IsWindow-scan, IsWindow-start}
use Rattle.nfa_lazy_dfa.proofs.dfa.DFA.try_find_window.Goals as goal

pub returns-then-is_utf8_empty-clause-window : goal.returns-then-is_utf8_empty-clause-window
returns-then-is_utf8_empty-clause-window c =
    let x = search_of c.args.input in
    IsWindow-start c.args.self.now.nfa c.args.self.now.kind x c.start-start.result c.start-start.ensures
    c.in_ok-half.half c.in_ok-half.ensures.answer c.window_of.result c.window_of.ensures.half c.window_of.ensures.start

pub returns-clause-window : goal.returns-clause-window
returns-clause-window c =
    let x = search_of c.args.input in
    let nfa = c.args.self.now.nfa in
    let kind = c.args.self.now.kind in
    let answers : IfOk c.try_scan_window.result (λ w. IsHalfAnswer nfa kind x.earliest x (option_map half_in w)) =
    search rules in
    IsWindow-scan nfa kind x c.try_scan_window.result answers c.try_scan_window.ensures.half
    c.try_scan_window.ensures.start
