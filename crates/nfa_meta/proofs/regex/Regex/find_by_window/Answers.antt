-- A match that the lazy DFA finds is inside the span.
use Rattle.nfa_paths.proofs.Common.{rules, arith, inl, common_steps, found_of, option_map, search_of, IsFindAnswer}
use Rattle.nfa_search_base.proofs.AskingLemmas.{inside-of}
use Rattle.nfa_choice.specs.ChoiceState.{kind_in}
use Rattle.nfa_choice.specs.ChoiceState.{SearchedByRule}
use Rattle.nfa_meta.proofs.RunLemmas.{part-ran, runs-later, whole-ran}
use Rattle.nfa_meta.proofs.regex.Regex.find_by_window.Goals as goal

pub returns-in-Some-clause-inside : goal.returns-in-Some-clause-inside
returns-in-Some-clause-inside c =
    let r = c.args.self.now.choice in
    let x = search_of c.args.input in
    let found = c.in-Some.found in
    let answer : IsFindAnswer r.nfa (kind_in r) x.earliest x (option_map found_of found) =
    first_of (search rules, grind (arith, common_steps)) in
    inside-of r.nfa (kind_in r) x.earliest x found answer

pub returns-in-Ok-Some-clause-runs : goal.returns-in-Ok-Some-clause-runs
returns-in-Ok-Some-clause-runs c =
    let a = c.args.self.now in
    let b = c.find_by_dfa.new.self in
    let d = c.window.new.self in
    let x = search_of c.args.input in
    let y = search_of c.in-Ok-Some.window in
    let ran : SearchedByRule y d.choice c.find.new.self = first_of (search rules, grind (arith, common_steps)) in
    runs-later a b _ c.find_by_dfa.ensures.same x c.find_by_dfa.ensures.keeps
    (part-ran b d _ c.window.ensures.same x y (inl (
      first_of (search rules, grind (arith, common_steps)),
      first_of (search rules, grind (arith, common_steps)),
    )) (first_of (search rules, grind (arith, common_steps))) ran)

pub returns-in-Err-clause-runs : goal.returns-in-Err-clause-runs
returns-in-Err-clause-runs c =
    let a = c.args.self.now in
    let b = c.find_by_dfa.new.self in
    let d = c.window.new.self in
    let x = search_of c.args.input in
    let ran : SearchedByRule x d.choice c.find-in-Err.new.self = first_of (search rules, grind (arith, common_steps)) in
    runs-later a b _ c.find_by_dfa.ensures.same x c.find_by_dfa.ensures.keeps
    (whole-ran b d _ c.window.ensures.same x (first_of (search rules, grind (arith, common_steps)))
    (first_of (search rules, grind (arith, common_steps))) ran)
