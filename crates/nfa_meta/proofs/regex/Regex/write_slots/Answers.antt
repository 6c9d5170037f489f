-- The slots of the part are those of the search.
use Rattle.nfa_paths.proofs.Common.{rules, arith, common_steps, ◌∙◌, Bool, subst, option_map, number_of, search_of, IsAnswer, ap}
use Rattle.nfa_choice.specs.ChoiceState.{kind_in}
use Rattle.nfa_meta.proofs.WindowLemmas.{part-earliest}
use Rattle.nfa_meta.specs.RegexState.{RegexState}
use Rattle.nfa_choice.specs.ChoiceState.{SearchedByRule}
use Rattle.nfa_meta.specs.WindowRuns.{NeedsPart}
use Rattle.nfa_meta.proofs.RunLemmas.{part-ran}
use Rattle.nfa_meta.proofs.regex.Regex.write_slots.Goals as goal

pub returns-in-Err-Some-clause-answer : goal.returns-in-Err-Some-clause-answer
returns-in-Err-Some-clause-answer c =
    let r = c.args.self.now.choice in
    let y = search_of c.in-Err-Some.part in
    let answers = rw c.in-Err-Some.field-0-is at c.in-Err-Some.ensures.answers in
    let part = rw c.in-Err-Some.field-0-is at c.in-Err-Some.ensures.part in
    answers.rows _ _ (subst (λ (b : Bool).
    IsAnswer r.nfa (kind_in r) b y (option_map number_of c.search_slots.result) c.search_slots.new.slots)
    (part-earliest r.nfa (search_of c.args.input.now) y part)
    (rw (ap (λ (s : RegexState). s.choice) c.self.view_is ∙ c.match_or_part.ensures.same)
    at c.search_slots.ensures.answer))

pub returns-in-Err-Some-clause-runs : goal.returns-in-Err-Some-clause-runs
returns-in-Err-Some-clause-runs c =
    let a = c.args.self.now in
    let b = c.match_or_part.new.self in
    let x = search_of c.args.input.now in
    let y = search_of c.in-Err-Some.part in
    let why : NeedsPart x y a b = rw c.in-Err-Some.field-0-is at c.in-Err-Some.ensures.why in
    let ran : SearchedByRule y b.choice c.search_slots.new.self =
    rw (ap (λ (s : RegexState). s.choice) c.self.view_is) at c.search_slots.ensures.runs in
    part-ran a b _ c.match_or_part.ensures.same x y why (first_of (search rules, grind (arith, common_steps))) ran
