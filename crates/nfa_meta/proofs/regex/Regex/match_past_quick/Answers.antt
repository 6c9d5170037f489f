-- The two slots of a match are those of the search.
use Rattle.nfa_paths.proofs.Common.{rules, ◌≡◌, Some, arith, common_steps, IfOk-weaker, found_of, slot_count, search_of}
use Rattle.nfa_search_base.proofs.AskingLemmas.{inside-of}
use Rattle.nfa_choice.specs.ChoiceState.{kind_in}
use Rattle.nfa_meta.proofs.MatchSlotLemmas.{plain-answer}
use Rattle.nfa_meta.proofs.regex.Regex.match_past_quick.Goals as goal

pub returns-clause-answer : goal.returns-clause-answer
returns-clause-answer c =
    let r = c.args.self.now.choice in
    let x = search_of c.args.input in
    let two : slot_count r.nfa.groups ≡ 2 = first_of (search rules, grind (arith, common_steps)) in
    IfOk-weaker c.match_in_window.result _ _ (λ m h. plain-answer r.nfa (kind_in r) x.earliest x (found_of m) two h)
    c.match_in_window.ensures.answer

pub returns-clause-inside : goal.returns-clause-inside
returns-clause-inside c =
    let r = c.args.self.now.choice in
    let x = search_of c.args.input in
    IfOk-weaker c.match_in_window.result _ _ (λ m h. inside-of r.nfa (kind_in r) x.earliest x (Some m) h)
    c.match_in_window.ensures.answer
