-- A scan that finds nothing is the answer of its search.
use Rattle.nfa_paths.proofs.Common.{rules, ◌≡◌, None, arith, common_steps, search_of}
use Rattle.nfa_choice.specs.ChoiceState.{kind_in}
use Rattle.nfa_lazy_dfa.specs.Configurations.{scan_half}
use Rattle.nfa_meta.proofs.GoesOnLemmas.{half-none}
use Rattle.nfa_meta.proofs.WindowLemmas.{none-match}
use Rattle.nfa_meta.proofs.regex.Regex.find_from_window.Goals as goal

pub returns-in-Ok-None-clause-nothing : goal.returns-in-Ok-None-clause-nothing
returns-in-Ok-None-clause-nothing c =
    let r = c.args.self.now.choice in
    let x = search_of c.args.input in
    let none : None ≡ scan_half r.nfa x (kind_in r) x.earliest = first_of (search rules, grind (arith, common_steps)) in
    none-match r.nfa (kind_in r) x (half-none r.nfa (kind_in r) x.earliest x c.steps_find_the_half.ensures none)

pub returns-in-Ok-None-clause-answer : goal.returns-in-Ok-None-clause-answer
returns-in-Ok-None-clause-answer c =
    let r = c.args.self.now.choice in
    let x = search_of c.args.input in
    let none : None ≡ scan_half r.nfa x (kind_in r) x.earliest = first_of (search rules, grind (arith, common_steps)) in
    (none-match r.nfa (kind_in r) x
    (half-none r.nfa (kind_in r) x.earliest x c.steps_find_the_half.ensures none)).matches
