-- The state of this number is the one that was tested.
use Rattle.nfa_paths.proofs.Common.{◌≡◌, ◌∙◌, Some, ap, arith, node_of, option_map, slice_get, sym}
use Rattle.std.proofs.lemmas.Option.{slice_get-get_or, slice_get-map}
use Rattle.nfa_paths.proofs.StartLemmas.{node_at-get}
use Rattle.nfa_meta.proofs.regex.unwritten.state_leads_to_marked.Goals as goal

pub returns-in-Some : goal.returns-in-Some
returns-in-Some c =
    let nfa = c.args.nfa.now in
    let states = c.states.result.now in
    let number = c.args.number in
    let state = c.in-Some.state.now in
    let has : slice_get states number ≡ Some state =
    grind (arith, slice_get-get_or states number state, c.in-Some.ensures.lookup) in
    let there : slice_get nfa.states number ≡ Some (node_of state) =
    ap (λ xs. slice_get xs number) (sym c.states.ensures.nodes)
    ∙ slice_get-map node_of states number
    ∙ ap (option_map node_of) has in
    rw (node_at-get nfa number (node_of state) there) c.leads_to_marked.ensures
