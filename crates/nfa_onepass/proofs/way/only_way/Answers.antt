-- Each thread that is taken from the stack is the end of a way, or gives way to those that it leads to.
use Rattle.nfa_paths.proofs.Common.{◌≡◌, ◌∙◌, ◌++◌, ◌-◌, List, [], ◌∷◌, IfOk, IfSome, Result, Ok, Err, ℕ, false, is_some, ap, sym, subst, arith, take, length, Option, None, Some, option_to_list, LeadsBelow, Node, node_of, node_at, pattern_of, refl}
use Rattle.nfa_paths.proofs.StartLemmas.{node_at-get}
use Rattle.nfa_onepass.specs.Ways.{goal_of}
use Rattle.std.specs.Global.{Vec}
use Rattle.std.specs.Result.{IsErrOf, result_ok}
use Rattle.nfa_onepass.specs.Tables.{IsReached, threads_at}
use Rattle.nfa_onepass.specs.declared.way.NoWay.{NoWay}
use Rattle.nfa_onepass.specs.declared.way.WayEnd.{WayEnd}
use Rattle.nfa_onepass.specs.declared.way.Thread.{Thread}
use Rattle.nfa_onepass.proofs.ClosureLemmas.{IsUnderWay, IsUnderWay-begin, IsUnderWay-dead, IsUnderWay-ends, IsUnderWay-found, IsUnderWay-on, IsUnderWay-top}
use Rattle.nfa_onepass.proofs.TableLemmas.{Keeps-refl, Keeps-trans}
use Rattle.nfa_onepass.proofs.way.only_way.Goals as goal
use Rattle.nfa_onepass.proofs.way.only_way.Goals.{in-Some-goal+else-is_some, in-None+else-matches_plainly+else-not-go_on}

-- what holds of a way that was found holds of the result
ok-of : (P : WayEnd → Type 0) (r : Result WayEnd NoWay) → IfSome (result_ok r) P → IfOk r P
ok-of P (Ok end) h = h
ok-of P (Err why) h = tt

-- if the result is an error, nothing was found
none-found : (found : Option WayEnd) (r : Result WayEnd NoWay) (why : NoWay) → result_ok r ≡ found → IsErrOf r why
    → found ≡ None
none-found found r why ok err = sym ok ∙ ap result_ok err

-- a stack that gave none is empty
no-thread : (old new : Vec Thread) (o : Option Thread) → o ≡ None → new.items ≡ take (old.len - 1) old.items
    → old.items ≡ new.items ++ option_to_list o → old.len ≡ 0 → old.items ≡ []
no-thread old new o none rest items over =
    let less : old.len - 1 ≡ 0 = omega (arith, over) in
    let empty : new.items ≡ [] = rest ∙ ap (λ (n : ℕ). take n old.items) less in
    items ∙ ap (λ (z : Option Thread). new.items ++ option_to_list z) none ∙ ap (λ (ts : List Thread). ts ++ []) empty

pub returns-in_default-clause-reached : goal.returns-in_default-clause-reached
returns-in_default-clause-reached c =
    let none = no-thread c.turns.stack c.pop.new.self c.pop.result c.in_default.is c.pop.ensures.rest
    c.pop.ensures.items (rw c.in_default.is at c.pop.ensures.cases).0 in
    ok-of (IsReached c.args.nfa.now c.turns.lists.items.items c.args.looks c.args.sid c.args.byte) c.ok_or.result
    (rw c.ok_or.ensures.ok_part at (IsUnderWay-ends c.args.nfa.now c.args.looks c.args.sid c.args.byte
    c.turns.lists.items.items c.turns.found (rw none at c.turns.invariant.under_way)))

pub returns-in_default-clause-nothing : goal.returns-in_default-clause-nothing
returns-in_default-clause-nothing c err =
    let none = no-thread c.turns.stack c.pop.new.self c.pop.result c.in_default.is c.pop.ensures.rest
    c.pop.ensures.items (rw c.in_default.is at c.pop.ensures.cases).0 in
    let nothing = none-found c.turns.found c.ok_or.result _ (sym c.ok_or.ensures.ok_part) err in
    IsUnderWay-dead c.args.nfa.now c.args.looks c.args.sid c.args.byte c.turns.lists.items.items
    (rw nothing at (rw none at c.turns.invariant.under_way))

pub turns-init : goal.turns-init
turns-init c =
    let lists = c.args.lists.now.items.items in
    let stack : c.push_each.new.stack.items ≡ threads_at 0 (c.args.sid ∷ []) =
    c.if-not-push_each.ensures refl
    ∙ ap (λ (ts : List Thread). ts ++ threads_at 0 (c.args.sid ∷ [])) c.clear.ensures.items in
    record {
      keeps = Keeps-refl lists;
      most = refl;
      under_way = subst (λ (ts : List Thread).
          IsUnderWay c.args.nfa.now c.args.looks c.args.sid c.args.byte lists ts None) (sym stack)
          (IsUnderWay-begin c.args.nfa.now c.args.looks c.args.sid c.args.byte lists c.requires.first
          c.requires.state);
    }

pub state-state-requires : goal.state-state-requires
state-state-requires c =
    (IsUnderWay-top c.args.nfa.now c.args.looks c.args.sid c.args.byte c.turns.lists.items.items c.pop.new.self.items
    c.turns.stack.items c.turns.found c.in-Some.thread c.in-Some.ensures.items c.turns.invariant.under_way).0

pub go_on-requires-clause-state : goal.go_on-requires-clause-state
go_on-requires-clause-state c =
    (IsUnderWay-top c.args.nfa.now c.args.looks c.args.sid c.args.byte c.turns.lists.items.items c.pop.new.self.items
    c.turns.stack.items c.turns.found c.in-Some.thread c.in-Some.ensures.items c.turns.invariant.under_way).0

pub go_on-requires-clause-list : goal.go_on-requires-clause-list
go_on-requires-clause-list c =
    (IsUnderWay-top c.args.nfa.now c.args.looks c.args.sid c.args.byte c.turns.lists.items.items c.pop.new.self.items
    c.turns.stack.items c.turns.found c.in-Some.thread c.in-Some.ensures.items c.turns.invariant.under_way).1

-- nothing is there
none-of : (o : Option WayEnd) → is_some o ≡ false → o ≡ None
none-of None f = refl
none-of (Some it) f = cc

pub turns-preserved : goal.turns-preserved
turns-preserved c =
    let nfa = c.args.nfa.now in
    let t = c.in-Some.thread in
    let node = node_of c.state-state.result.now in
    let at : node_at nfa t.sid ≡ node = node_at-get nfa t.sid node c.state-state.ensures.node in
    let goal_is : goal_of c.args.byte (node_at nfa t.sid) ≡ c.goal.result =
    ap (λ (n : Node). goal_of c.args.byte n) at ∙ sym c.goal.ensures.goal in
    let lists = c.turns.lists.items.items in
    let stack = c.turns.stack.items in
    let rest = c.pop.new.self.items in
    elim c.match-goal.branch [
      | in-Some-goal+else-is_some w ↦
          let none : c.turns.found ≡ None = none-of c.turns.found (sym w.is_some.ensures ∙ w.if-is_some.false) in
          rw (w.lists-is, w.stack-is, w.found-is) (record {
            keeps = c.turns.invariant.keeps;
            most = c.turns.invariant.most;
            under_way = IsUnderWay-found nfa c.args.looks c.args.sid c.args.byte lists rest stack t w.in-Some-goal.goal
                c.in-Some.ensures.items
                (subst (λ (f : Option WayEnd). IsUnderWay nfa c.args.looks c.args.sid c.args.byte lists stack f) none
                c.turns.invariant.under_way)
                (goal_is ∙ w.in-Some-goal.is) w.in-Some-goal.ensures.small;
          })
      | in-None+else-matches_plainly+else-not-go_on w ↦
          rw (w.lists-is, w.stack-is, w.found-is) (record {
            keeps = Keeps-trans c.args.lists.now.items.items lists w.go_on.new.lists.items.items c.turns.invariant.keeps
                w.go_on.ensures.keeps;
            most = w.go_on.ensures.most ∙ c.turns.invariant.most;
            under_way = IsUnderWay-on nfa c.args.looks c.args.sid c.args.byte lists w.go_on.new.lists.items.items rest
                stack w.go_on.new.stack.items c.turns.found t c.in-Some.ensures.items c.turns.invariant.under_way
                (goal_is ∙ w.in-None.is)
                (λ plain. ap pattern_of at ∙ w.matches_plainly.ensures w.if-matches_plainly.false plain)
                (subst (LeadsBelow (length nfa.states)) (sym at) c.state-state.ensures.leads) w.go_on.ensures.keeps
                (w.if-not-go_on.ensures.on refl);
          })
    ]
