-- Each state that is taken from the stack is passed over, kept, or gives way to the states that it leads to.
use Rattle.nfa_paths.proofs.Common.{◌≡◌, ◌∙◌, ◌++◌, ◌-◌, List, [], ℕ, true, ap, sym, arith, reverse, take, Option, option_to_list, node_of, rests, node_at, holding_at}
use Rattle.nfa_lazy_dfa.proofs.ClosureLemmas.{IsUnderWay-begin, IsUnderWay-done, IsUnderWay-seen, IsUnderWay-kept, IsUnderWay-left}
use Rattle.nfa_lazy_dfa.proofs.determinize.closure.closure.Goals as goal
use Rattle.nfa_paths.proofs.StartLemmas.{node_at-get}

pub loop-sid-init : goal.loop-sid-init
loop-sid-init c =
    let states = c.args.states.now in
    let stack : c.push_reversed.new.waiting.items ≡ reverse states =
    c.in_ok-push_reversed.ensures ∙ ap (λ (ts : List ℕ). ts ++ reverse states) c.new-waiting.ensures.items in
    rw (c.in_ok-seen.ensures, stack, c.new-kept.ensures.items)
    (IsUnderWay-begin c.args.nfa.now (holding_at c.args.haystack.now c.args.at) states c.requires.states)

pub loop-sid-preserved-in-Continue-branch-3 : goal.loop-sid-preserved-in-Continue-branch-3
loop-sid-preserved-in-Continue-branch-3 c =
    let nfa = c.args.nfa.now in
    let s = c.in-Some.sid in
    let r : rests (node_at nfa s) ≡ true =
    ap rests (node_at-get nfa s (node_of c.state-state.result.now) c.state-state.ensures.node)
    ∙ sym c.rests.ensures ∙ c.if-rests.true in
    rw (c.see.ensures.marked c.if-see.true, c.in_ok-push.ensures.items)
    (IsUnderWay-kept nfa (holding_at c.args.haystack.now c.args.at) c.pop.new.self.items s c.in-Some.ensures.items
    c.loop-sid.invariant (c.see.ensures.fresh c.if-see.true) r)

pub loop-sid-preserved-in-Continue-branch-4 : goal.loop-sid-preserved-in-Continue-branch-4
loop-sid-preserved-in-Continue-branch-4 c =
    let nfa = c.args.nfa.now in
    let node = node_of c.state-state.result.now in
    let s = c.in-Some.sid in
    rw (c.see.ensures.marked c.if-see.true, c.in_ok-push_epsilon_states.ensures)
    (IsUnderWay-left nfa (holding_at c.args.haystack.now c.args.at) c.pop.new.self.items s c.in-Some.ensures.items
    c.loop-sid.invariant node (node_at-get nfa s node c.state-state.ensures.node) c.state-state.ensures.leads
    (c.see.ensures.fresh c.if-see.true) (sym c.rests.ensures ∙ c.if-rests.false))

pub loop-sid-preserved : goal.loop-sid-preserved
loop-sid-preserved c =
    rw (c.see.ensures.same c.if-see.false)
    (IsUnderWay-seen c.args.nfa.now (holding_at c.args.haystack.now c.args.at) c.pop.new.self.items c.in-Some.sid
    c.in-Some.ensures.items c.loop-sid.invariant (c.see.ensures.again c.if-see.false))

pub returns-clause-closure : goal.returns-clause-closure
returns-clause-closure c =
    let waiting = c.loop-sid.waiting in
    let over = rw c.in_default.is at c.pop.ensures.cases in
    let less : waiting.len - 1 ≡ 0 = omega (arith, over.0) in
    let empty : c.pop.new.self.items ≡ [] = c.pop.ensures.rest ∙ ap (λ (n : ℕ). take n waiting.items) less in
    let none : waiting.items ≡ [] =
    c.pop.ensures.items ∙ ap (λ (o : Option ℕ). c.pop.new.self.items ++ option_to_list o) c.in_default.is
    ∙ ap (λ (ts : List ℕ). ts ++ []) empty in
    IsUnderWay-done c.args.nfa.now (holding_at c.args.haystack.now c.args.at) (rw none at c.loop-sid.invariant)
