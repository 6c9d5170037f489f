-- All places that ways lead to are gone through; one that is a Match without a bound is a way that lacks it.
use Rattle.nfa_paths.proofs.Common.{◌≡◌, ◌∙◌, ◌<◌, map, length, get_or, ap, sym, arith, LeadsBelow, node_of, In, node_at, pattern_of}
use Rattle.nfa_paths.specs.StatePaths.{targets}
use Rattle.nfa_facts.specs.PathStates.{at_state, after_node, next_places, GainsPathStates, IsFine}
use Rattle.nfa_facts.proofs.SearchLemmas.{slice_get-in, targets-below, IsFine-of, IsUnderWay-begin, IsUnderWay-step, IsUnderWay-done}
use Rattle.nfa_paths.proofs.OpenPathLemmas.{In-get_or}
use Rattle.nfa_facts.proofs.StatePathLemmas.{unrecorded, closed-records}
use Rattle.nfa_facts.proofs.match_spans.spans.pattern_records_match_spans.Goals as goal
use Rattle.nfa_paths.proofs.StartLemmas.{node_at-get}

pub loop-done-init : goal.loop-done-init
loop-done-init c = record {
  room = c.in_ok-reached.ensures.room;
  under_way = IsUnderWay-begin c.args.nfa.now c.args.pattern c.in_ok-reached.reached.places c.in_ok-reached.ensures.all
      c.in_ok-reached.ensures.only c.in_ok-reached.ensures.below;
}

pub state-state-requires : goal.state-state-requires
state-state-requires c =
    c.loop-done.invariant.under_way.below c.place-place.result
    (slice_get-in c.loop-done.reached.places c.loop-done.done c.place-place.result c.place-place.ensures)

pub returns-then-is_unrecorded : goal.returns-then-is_unrecorded
returns-then-is_unrecorded c =
    let place = c.place-place.result in
    let lacks = c.is_unrecorded.ensures.0 c.if-is_unrecorded.true in
    let is = node_at-get c.args.nfa.now place.state (node_of c.state-state.result.now) c.state-state.ensures.node in
    let led = c.loop-done.invariant.under_way.led place
    (slice_get-in c.loop-done.reached.places c.loop-done.done place c.place-place.ensures) in (
      λ t. absurd (cc t),
      λ all. absurd (unrecorded c.args.nfa.now c.args.pattern place led (ap pattern_of is ∙ lacks.0) lacks.1 all),
    )

pub add_all-requires : goal.add_all-requires
add_all-requires c = λ k d h.
    let nfa = c.args.nfa.now in
    let same : c.deref.result.now ≡ targets (node_of c.state-state.result.now) =
    c.deref.ensures.value ∙ c.in_ok-targets.ensures in
    let i : In (get_or c.deref.result.now k d) (targets (node_of c.state-state.result.now)) =
    rw (← same) (In-get_or c.deref.result.now k d h) in
    let less : get_or c.deref.result.now k d < length nfa.states =
    targets-below (length nfa.states) (get_or c.deref.result.now k d) (node_of c.state-state.result.now)
    c.state-state.ensures.leads i in
    omega (arith, c.loop-done.invariant.room)

pub loop-done-preserved : goal.loop-done-preserved
loop-done-preserved c =
    let nfa = c.args.nfa.now in
    let place = c.place-place.result in
    let node = node_of c.state-state.result.now in
    let is : node_at nfa place.state ≡ node = node_at-get nfa place.state node c.state-state.ensures.node in
    let same : c.deref.result.now ≡ targets node = c.deref.ensures.value ∙ c.in_ok-targets.ensures in
    let wanted : map (at_state c.after.result) c.deref.result.now ≡ next_places nfa c.args.pattern place =
    ap (λ v. map (at_state v) c.deref.result.now) c.after.ensures
    ∙ ap (map (at_state (after_node c.args.pattern node place))) same
    ∙ ap (λ n. map (at_state (after_node c.args.pattern n place)) (targets n)) (sym is) in
    let gains : GainsPathStates c.loop-done.reached.places c.add_all.new.self.places
    (next_places nfa c.args.pattern place) = rw wanted at c.in_ok-add_all.ensures.gains in
    let leads : LeadsBelow (length nfa.states) (node_at nfa place.state) = rw is c.state-state.ensures.leads in
    let fine : IsFine nfa c.args.pattern place =
    IsFine-of nfa c.args.pattern place node c.is_unrecorded.result is c.is_unrecorded.ensures
    c.if-is_unrecorded.false in
    record {
      room = c.in_ok-add_all.ensures.room ∙ c.loop-done.invariant.room;
      under_way = IsUnderWay-step nfa c.args.pattern c.loop-done.done c.loop-done.reached.places
          c.add_all.new.self.places place c.loop-done.invariant.under_way c.place-place.ensures fine leads gains;
    }

pub returns : goal.returns
returns c = grind (arith, closed-records, IsUnderWay-done)
