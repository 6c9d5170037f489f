-- One state more was stepped.
use Rattle.nfa_paths.proofs.Common.{◌≡◌, ◌∙◌, ◌<◌, ◌+◌, ◌++◌, All, List, [], ◌∷◌, ℕ, ap, sym, subst, drop, length, append-nil, None, Some, option_and_then, All-push, node_of, node_at, target_on}
use Rattle.nfa_lazy_dfa.specs.Closures.{step}
use Rattle.nfa_lazy_dfa.proofs.StepLemmas.{step-more, stepped-below}
use Rattle.nfa_lazy_dfa.proofs.determinize.closure.step.Goals as goal
use Rattle.nfa_lazy_dfa.proofs.determinize.closure.step.Goals.{in-Some+in_ok-push, in_default}
use Rattle.nfa_paths.proofs.StartLemmas.{node_at-get}

pub loop-sid-preserved : goal.loop-sid-preserved
loop-sid-preserved c =
    let nfa = c.args.nfa.now in
    let xs = c.args.states.now in
    let i = c.loop-sid.sid-index in
    let s = c.sid-item.result in
    let byte = c.args.byte in
    let node = node_of c.state.result.now in
    let old = c.loop-sid.next.items in
    let on : option_and_then (target_on node) byte ≡ option_and_then (target_on (node_at nfa s)) byte =
    ap (λ n. option_and_then (target_on n) byte) (sym (node_at-get nfa s node c.state.ensures.node)) in
    elim c.match-target.branch [
      | in-Some+in_ok-push w ↦
          let t = w.in-Some.target in
          let is : Some t ≡ option_and_then (target_on node) byte = sym w.in-Some.is ∙ c.target.ensures in
          let items : w.push.new.self.items ≡ old ++ t ∷ [] = w.in_ok-push.ensures.items in
          rw w.next-is (record {
            stepped = ap (λ (ts : List ℕ). ts ++ step nfa byte (drop (i + 1) xs)) items
                ∙ step-more nfa xs i s c.loop-sid-test.true c.sid-item.is byte old (Some t) (is ∙ on)
                ∙ c.loop-sid.invariant.stepped;
            below = subst (All (λ s. s < length nfa.states)) (sym items)
                (All-push (λ s. s < length nfa.states) old t c.loop-sid.invariant.below
                (stepped-below (length nfa.states) t node byte c.state.ensures.leads is));
          })
      | in_default w ↦
          let is : None ≡ option_and_then (target_on node) byte = sym w.in_default.is ∙ c.target.ensures in
          rw w.next-is (record {
            stepped = ap (λ (ts : List ℕ). ts ++ step nfa byte (drop (i + 1) xs)) (sym (append-nil old))
                ∙ step-more nfa xs i s c.loop-sid-test.true c.sid-item.is byte old None (is ∙ on)
                ∙ c.loop-sid.invariant.stepped;
            below = c.loop-sid.invariant.below;
          })
    ]
