-- The moves of the states are taken one after another, until one is not the only one.
use Rattle.std.proofs.lemmas.Slice.{pushed}
use Rattle.nfa_paths.proofs.StartLemmas.{node_at-get}
use Rattle.nfa_paths.proofs.Common.{◌≡◌, ◌∙◌, ◌+◌, ◌-◌, ◌<◌, [], ◌∷◌, ◌++◌, length, refl, sym, ap, subst, arith, List, ℕ, suc, common_steps, node_of}
use Rattle.nfa_facts.specs.Prefixes.{only_move}
use Rattle.nfa_facts.proofs.OccurrenceLemmas.{IsCollected, collected-byte, collected-end, collected-full, collected-pass, collected-stop, move-below}
use Rattle.nfa_facts.proofs.literal.prefix.literal_from.Goals as goal
use Rattle.nfa_facts.proofs.literal.prefix.literal_from.Goals.{in-Some-byte+else-len-eq-MAX_LENGTH+in_ok-push, in_default-byte}

pub returns-in_default : goal.returns-in_default
returns-in_default c =
    let nfa = c.args.nfa.now in
    let only = ap only_move (node_at-get nfa c.loop.state (node_of c.state.result.now) c.state.ensures.node)
    ∙ sym c.only_move.ensures in
    collected-stop nfa c.args.from c.loop.literal.items (length c.states-end.result.now - c.loop.counter) c.loop.state
    c.loop.invariant (only ∙ c.in_default.is)

pub returns-then-len-eq-MAX_LENGTH : goal.returns-then-len-eq-MAX_LENGTH
returns-then-len-eq-MAX_LENGTH c =
    let full : length c.loop.literal.items ≡ 32 = first_of (omega arith, grind arith, grind (arith, common_steps)) in
    collected-full c.args.nfa.now c.args.from c.loop.literal.items (length c.states-end.result.now - c.loop.counter)
    c.loop.state c.loop.invariant full

pub loop-preserved : goal.loop-preserved
loop-preserved c =
    let nfa = c.args.nfa.now in
    let from = c.args.from in
    let m = c.in-Some.only in
    let node = node_of c.state.result.now in
    let moves = length c.states-end.result.now - c.loop.counter in
    let rest = length c.states-end.result.now - (c.loop.counter + 1) in
    let count : length c.states-end.result.now - c.loop.counter
    ≡ suc (length c.states-end.result.now - (c.loop.counter + 1)) = omega (arith, c.loop-test.true) in
    let taken = sym c.only_move.ensures ∙ c.in-Some.is in
    let only = ap only_move (node_at-get nfa c.loop.state node c.state.ensures.node) ∙ taken in
    let inside = move-below (length nfa.states) node m taken c.state.ensures.leads in
    elim c.match-only.branch [
      | in-Some-byte+else-len-eq-MAX_LENGTH+in_ok-push w ↦
          let bytes = c.loop.literal.items in
          let byte = w.in-Some-byte.byte in
          let room : length c.loop.literal.items < 32 =
          first_of (omega (arith, c.loop.invariant.short), grind arith, grind (arith, common_steps)) in
          let items : w.push.new.self.items ≡ c.loop.literal.items ++ w.in-Some-byte.byte ∷ [] =
          pushed (w.in-Some-byte.byte ∷ []) refl w.in_ok-push.was w.push.ensures.items in
          rw w.literal-is
          (subst (λ (l : List ℕ). IsCollected nfa from l rest m.next) (sym items)
          (collected-byte nfa from bytes moves rest c.loop.state m byte c.loop.invariant count only w.in-Some-byte.is
          room inside))
      | in_default-byte w ↦
          rw w.literal-is
          (collected-pass nfa from c.loop.literal.items moves rest c.loop.state m c.loop.invariant count only
          w.in_default-byte.is inside)
    ]

pub returns : goal.returns
returns c =
    let none : length c.states-end.result.now - c.loop.counter ≡ 0 = omega (arith, c.loop-test.false) in
    collected-end c.args.nfa.now c.args.from c.loop.literal.items (length c.states-end.result.now - c.loop.counter)
    c.loop.state c.loop.invariant none
