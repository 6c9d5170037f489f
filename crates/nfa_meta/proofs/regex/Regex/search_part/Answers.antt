-- The slots of the part are those of the search.
use Rattle.nfa_paths.proofs.Common.{Bool, subst, option_map, number_of, search_of, IsAnswer, ap}
use Rattle.nfa_choice.specs.ChoiceState.{kind_in}
use Rattle.nfa_meta.proofs.WindowLemmas.{part-earliest}
use Rattle.nfa_meta.specs.RegexState.{RegexState}
use Rattle.nfa_meta.proofs.regex.Regex.search_part.Goals as goal

pub returns-in-Some-clause-answer : goal.returns-in-Some-clause-answer
returns-in-Some-clause-answer c =
    let r = c.args.self.now.choice in
    let y = search_of c.in-Some.part in
    let answers = rw c.in-Some.is at c.requires.answers in
    let part = rw c.in-Some.is at c.requires.part in
    answers.rows _ _ (subst (λ (b : Bool).
    IsAnswer r.nfa (kind_in r) b y (option_map number_of c.search_slots.result) c.search_slots.new.slots)
    (part-earliest r.nfa (search_of c.args.input.now) y part)
    (rw (ap (λ (s : RegexState). s.choice) c.self.view_is) at c.search_slots.ensures.answer))
