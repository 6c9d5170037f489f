-- Whether there is a match is what the function says.
use Rattle.nfa_paths.proofs.Common.{arith, false, rules, common_steps, search_of, IsBoolAnswer}
use Rattle.nfa_search_base.proofs.GreedyLemmas.{found-finds}
use Rattle.nfa_choice.specs.ChoiceState.{kind_in}
use Rattle.nfa_meta.specs.WindowRuns.{HalvesAs, HasNoHalf}
use Rattle.nfa_meta.proofs.regex.Regex.is_found.Goals as goal

pub returns-in-Ok-clause-answer : goal.returns-in-Ok-clause-answer
returns-in-Ok-clause-answer c =
    let e = c.args.self.now.choice in
    let x = search_of c.args.input in
    let rest : HalvesAs e.nfa (kind_in e) x (search_of c.in-Some.rest) =
    first_of (search rules, grind (arith, common_steps)) in
    let there : IsBoolAnswer e.nfa (kind_in e) false (search_of c.in-Some.rest) c.in-Ok.found =
    first_of (search rules, grind (arith, common_steps)) in
    rest.found c.in-Ok.found there

pub returns-in-Ok-clause-finds : goal.returns-in-Ok-clause-finds
returns-in-Ok-clause-finds c =
    let e = c.args.self.now.choice in
    found-finds e.nfa (kind_in e) false (search_of c.args.input) c.in-Ok.found (returns-in-Ok-clause-answer c)

pub returns-in_default-clause-finds : goal.returns-in_default-clause-finds
returns-in_default-clause-finds c =
    let e = c.args.self.now.choice in
    let x = search_of c.args.input in
    let none : HasNoHalf e.nfa (kind_in e) x = first_of (search rules, grind (arith, common_steps)) in
    found-finds e.nfa (kind_in e) false x false none.found
