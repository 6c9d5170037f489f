-- Each state that is listed has a mark.
use Rattle.nfa_paths.proofs.Common.{◌≡◌, ◌<◌, arith, get_or, length, subst, sym, In}
use Rattle.nfa_paths.proofs.OpenPathLemmas.{In-get_or}
use Rattle.nfa_facts.proofs.literal.reached.ReachedStates.state.Goals as goal

pub returns-clause-below : goal.returns-clause-below
returns-clause-below c =
    let s = c.index.result.now in
    let states = c.self.inside.states.items in
    let less : c.args.index < length states = grind arith in
    let same : s ≡ get_or states c.args.index s = grind arith in
    let here : In s states =
    subst (λ t. In t states) (sym same) (In-get_or states c.args.index s less) in
    let below : s < length c.self.inside.marks.items = c.self.invariant.below s here in
    grind arith
