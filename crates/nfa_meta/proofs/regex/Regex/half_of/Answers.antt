-- The half match is that of the search, in the span, and its pattern is one of the NFA's.
use Rattle.nfa_paths.proofs.Common.{arith, rules, common_steps, option_map, half_found_of, search_of, IsHalfAnswer}
use Rattle.nfa_search_base.proofs.AskingLemmas.{half-lies}
use Rattle.nfa_choice.proofs.AnswerLemmas.{half-pattern-within}
use Rattle.nfa_choice.specs.ChoiceState.{kind_in}
use Rattle.nfa_meta.specs.WindowRuns.{HalvesAs}
use Rattle.nfa_meta.proofs.regex.Regex.half_of.Goals as goal
use Rattle.nfa_meta.proofs.regex.Regex.half_of.Goals.{After-states}

answer : (c : After-states) → let e = c.args.self.now.choice in let x = search_of c.args.input in
    IsHalfAnswer e.nfa (kind_in e) x.earliest x (option_map half_found_of c.in-Ok.half)
answer c =
    let e = c.args.self.now.choice in
    let x = search_of c.args.input in
    let rest : HalvesAs e.nfa (kind_in e) x (search_of c.in_ok-rest.rest) =
    first_of (search rules, grind (arith, common_steps)) in
    let there : IsHalfAnswer e.nfa (kind_in e) x.earliest (search_of c.in_ok-rest.rest)
    (option_map half_found_of c.in-Ok.half) =
    first_of (search rules, grind (arith, common_steps)) in
    rest.halves (option_map half_found_of c.in-Ok.half) there

pub returns-in-Ok-clause-answer : goal.returns-in-Ok-clause-answer
returns-in-Ok-clause-answer c = answer c

pub returns-in-Ok-clause-pattern : goal.returns-in-Ok-clause-pattern
returns-in-Ok-clause-pattern c =
    let fact = half-pattern-within _ _ _ (search_of c.args.input) (search rules) c.in-Ok.half (answer c) in
    first_of (search rules, grind (arith, common_steps))

pub returns-in-Ok-clause-inside : goal.returns-in-Ok-clause-inside
returns-in-Ok-clause-inside c = half-lies _ _ _ (search_of c.args.input) c.in-Ok.half (answer c)
