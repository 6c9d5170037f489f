-- Whether there is a match is what the function says.
use Rattle.nfa_paths.proofs.Common.{arith, false, rules, common_steps, search_of, IsBoolAnswer}
use Rattle.nfa_search_base.proofs.GreedyLemmas.{found-finds}
use Rattle.nfa_choice.specs.HybridState.{kind_in}
use Rattle.nfa_choice.proofs.hybrid.Hybrid.is_match.Goals as goal

pub returns-in-Ok-clause-finds : goal.returns-in-Ok-clause-finds
returns-in-Ok-clause-finds c =
    let e = c.args.self.now in
    let x = search_of c.args.input in
    let answer : IsBoolAnswer e.nfa (kind_in e) false x c.in-Ok.found =
    first_of (search rules, grind (arith, common_steps)) in
    found-finds e.nfa (kind_in e) false x c.in-Ok.found answer
