-- Each state that a search starts with is added, and no other.
use Rattle.nfa_paths.proofs.Common.{◌≡◌, ◌∙◌, ◌<◌, ◌*◌, [], ◌∷◌, length, inl, refl, ap, sym, arith, subst, length-map, Yes, node_of, In}
use Rattle.nfa_facts.specs.PathStates.{fresh_path_state, GainsPathStates, Reach}
use Rattle.nfa_facts.proofs.SearchLemmas.{GainsPathStates-kept, starts-only, starts-below, starts-all, patterns-more, patterns-same}
use Rattle.nfa_facts.proofs.match_spans.spans.starts.Goals as goal
use Rattle.nfa_facts.proofs.match_spans.spans.starts.Goals.{in-Some+in_ok-add-2, in_default}

pub loop-index-init : goal.loop-index-init
loop-index-init c =
    let nfa = c.args.nfa.now in
    let old = c.in_ok-reached.reached.places in
    let gains : GainsPathStates old c.add.new.self.places (fresh_path_state nfa.anchored ∷ []) =
    rw (c.fresh.ensures, c.start_anchored.ensures.value) at c.in_ok-add.ensures.gains in
    let less : nfa.anchored < length nfa.states =
    rw (← c.start_anchored.ensures.value) c.start_anchored.ensures.within in
    let none : old ≡ [] = ap (λ (r : Reach). r.places) c.in_ok-reached.ensures in
    record {
      room = c.in_ok-add.ensures.room ∙ ap (λ (r : Reach). r.room) c.in_ok-reached.ensures
          ∙ ap (λ n. 8 * n) (sym (length-map c.states.result.now node_of) ∙ ap length c.states.ensures.nodes);
      anchored = gains.all (fresh_path_state nfa.anchored) (inl refl);
      patterns = λ k s h small e. absurd (omega arith);
      only = starts-only nfa nfa.anchored gains (Yes, refl) (λ v i. absurd (subst (In v) none i));
      below = starts-below (length nfa.states) nfa.anchored gains less (λ v i. absurd (subst (In v) none i));
    }

pub loop-index-preserved : goal.loop-index-preserved
loop-index-preserved c =
    let nfa = c.args.nfa.now in
    let index = c.loop-index.index in
    let inv = c.loop-index.invariant in
    elim c.match-pattern_start.branch [
      | in-Some+in_ok-add-2 w ↦
          let start = w.in-Some.start in
          let old = c.loop-index.reached.places in
          let new = w.add-in-Some.new.self.places in
          let gains : GainsPathStates old new (fresh_path_state start ∷ []) =
          rw w.fresh-in-Some.ensures at w.in_ok-add-2.ensures.gains in
          rw w.reached-is (record {
            room = w.in_ok-add-2.ensures.room ∙ inv.room;
            anchored = GainsPathStates-kept gains (fresh_path_state nfa.anchored) inv.anchored;
            patterns = λ k s h small e.
                patterns-more nfa old new index start gains inv.patterns w.in-Some.ensures.value k h s small e;
            only = starts-only nfa start gains w.in-Some.ensures.start inv.only;
            below = starts-below (length nfa.states) start gains w.in-Some.ensures.below inv.below;
          })
      | in_default w ↦ rw w.reached-is (record {
        room = inv.room;
        anchored = inv.anchored;
        patterns = λ k s h small e.
            patterns-same nfa c.loop-index.reached.places index c.pattern_start.result inv.patterns
            c.pattern_start.ensures.value w.in_default.is k h s small e;
        only = inv.only;
        below = inv.below;
      })
    ]

pub returns-clause-all : goal.returns-clause-all
returns-clause-all c =
    starts-all c.args.nfa.now (λ s. In (fresh_path_state s) c.loop-index.reached.places) c.loop-index.invariant.anchored
    (λ k s inside small e. c.loop-index.invariant.patterns k s (omega
    (arith, c.loop-index-test.false, c.pattern_len-index-end.ensures.value)) small e)
