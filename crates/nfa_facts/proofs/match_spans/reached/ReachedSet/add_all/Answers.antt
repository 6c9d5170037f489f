-- One state more was added.
use Rattle.nfa_paths.proofs.Common.{◌≡◌, ◌+◌, ◌∙◌, ◌<◌, ap, sym, length, map, take, get_or, [], ◌∷◌, ◌++◌, take_more, map-append}
use Rattle.nfa_facts.specs.PathStates.{at_state}
use Rattle.nfa_facts.proofs.StatePathLemmas.{GainsPathStates-then}
use Rattle.nfa_facts.proofs.match_spans.reached.ReachedSet.add_all.Goals as goal

pub loop-state-preserved : goal.loop-state-preserved
loop-state-preserved c =
    let place = c.args.place.now in
    let xs = c.args.states.now in
    let i = c.loop-state.state-index in
    let inside : i < length xs = c.loop-state-test.true in
    let wanted : map (at_state place) (take (i + 1) xs) ≡ map (at_state place) (take i xs) ++ c.at_state.result ∷ [] =
    ap (map (at_state place)) (take_more xs i c.state-item.result inside)
    ∙ map-append (at_state place) (take i xs) (get_or xs i c.state-item.result ∷ [])
    ∙ ap (λ s. map (at_state place) (take i xs) ++ s ∷ [])
    (ap (at_state place) (sym c.state-item.is) ∙ sym c.at_state.ensures) in
    record {
      room = c.in_ok-add.ensures.room ∙ c.loop-state.invariant.room;
      gains = rw wanted (GainsPathStates-then c.loop-state.invariant.gains c.in_ok-add.ensures.gains);
    }
