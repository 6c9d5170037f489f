-- The two slots of a match are those of the search, and hold the match.
use Rattle.std.proofs.lemmas.Option.{IfSome_then}
use Rattle.nfa_paths.proofs.Common.{rules, ◌≡◌, Some, arith, common_steps, found_of, slot_count, search_of}
use Rattle.nfa_search_base.proofs.AskingLemmas.{inside-of}
use Rattle.nfa_choice.specs.ChoiceState.{kind_in}
use Rattle.nfa_meta.proofs.MatchSlotLemmas.{plain-answer, plain-match}
use Rattle.nfa_meta.proofs.regex.Regex.quick_match.Goals as goal

pub returns-clause-answer : goal.returns-clause-answer
returns-clause-answer c =
    let r = c.args.self.now.choice in
    let x = search_of c.args.input.now in
    let two : slot_count r.nfa.groups ≡ 2 = first_of (search rules, grind (arith, common_steps)) in
    IfSome_then c.quick.result c.quick.ensures.answer
    (λ m h. plain-answer r.nfa (kind_in r) x.earliest x (found_of m) two h)

pub returns-clause-same : goal.returns-clause-same
returns-clause-same c =
    let r = c.args.self.now.choice in
    let x = search_of c.args.input.now in
    let two : slot_count r.nfa.groups ≡ 2 = first_of (search rules, grind (arith, common_steps)) in
    IfSome_then c.quick.result c.quick.ensures.answer
    (λ m h. plain-match r.nfa (kind_in r) x.earliest x (found_of m) two h)

pub returns-clause-inside : goal.returns-clause-inside
returns-clause-inside c =
    let r = c.args.self.now.choice in
    let x = search_of c.args.input.now in
    IfSome_then c.quick.result c.quick.ensures.answer
    (λ m h. inside-of r.nfa (kind_in r) x.earliest x (Some m) h)
