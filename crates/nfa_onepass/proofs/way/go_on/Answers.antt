-- The threads that were pushed are those of the state that was read.
use Rattle.nfa_paths.proofs.Common.{◌≡◌, ◌∙◌, ◌++◌, ap, sym, node_of, node_at}
use Rattle.nfa_paths.proofs.StartLemmas.{node_at-get}
use Rattle.thompson_nfa.specs.Automaton.{Node}
use Rattle.nfa_onepass.specs.Ways.{free_states, written}
use Rattle.nfa_onepass.specs.Lists.{list_at}
use Rattle.nfa_onepass.specs.Tables.{threads_at}
use Rattle.nfa_onepass.proofs.way.go_on.Goals as goal

pub returns-in-Some-clause-on : goal.returns-in-Some-clause-on
returns-in-Some-clause-on c pushed =
    let nfa = c.args.nfa.now in
    let list = c.in-Some.list in
    let node = node_of c.state-state.result.now in
    let is : node ≡ node_at nfa c.args.thread.sid =
    sym (node_at-get nfa c.args.thread.sid node c.state-state.ensures.node) in
    record {
      list = list;
      inside = c.in-Some.ensures.after.0;
      after = c.in-Some.ensures.after.1
          ∙ ap (λ (n : Node). list_at c.args.lists.now.items.items c.args.thread.list ++ written n) is;
      are = c.push_free.ensures pushed
          ∙ ap (λ (n : Node). c.args.stack.now.items ++ threads_at list (free_states c.args.looks n)) is;
    }
