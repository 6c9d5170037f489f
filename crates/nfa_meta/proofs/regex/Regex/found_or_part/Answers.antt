-- The match is in the span.
use Rattle.nfa_paths.proofs.Common.{Some, IfOk-weaker, search_of}
use Rattle.nfa_search_base.proofs.AskingLemmas.{inside-of}
use Rattle.nfa_choice.specs.ChoiceState.{kind_in}
use Rattle.nfa_meta.proofs.regex.Regex.found_or_part.Goals as goal

pub returns-in-Some-clause-inside : goal.returns-in-Some-clause-inside
returns-in-Some-clause-inside c =
    let r = c.args.self.now.choice in
    let x = search_of c.args.input in
    inside-of r.nfa (kind_in r) x.earliest x (Some c.in-Some.found) c.in-Some.ensures.answer

pub returns-clause-inside : goal.returns-clause-inside
returns-clause-inside c =
    let r = c.args.self.now.choice in
    let x = search_of c.args.input in
    IfOk-weaker c.match_in_window.result _ _ (λ m h. inside-of r.nfa (kind_in r) x.earliest x (Some m) h)
    c.match_in_window.ensures.answer
