-- A match that the lazy DFA finds is inside the span, and names a pattern.
use Rattle.nfa_paths.proofs.Common.{rules, arith, common_steps, search_of}
use Rattle.nfa_search_base.proofs.AskingLemmas.{inside-of}
use Rattle.nfa_choice.specs.ChoiceState.{kind_in}
use Rattle.nfa_meta.specs.WindowRuns.{RunsByWindow}
use Rattle.nfa_meta.proofs.RunLemmas.{runs-later}
use Rattle.nfa_meta.proofs.regex.Regex.find_past_first.Goals as goal

pub returns-in-Some-clause-pattern : goal.returns-in-Some-clause-pattern
returns-in-Some-clause-pattern c = rw c.in-Some.is at c.find_anchored.ensures.pattern

pub returns-in-Some-clause-inside : goal.returns-in-Some-clause-inside
returns-in-Some-clause-inside c =
    let r = c.args.self.now.choice in
    let x = search_of c.args.input.now in
    inside-of r.nfa (kind_in r) x.earliest x c.in-Some.found (rw c.in-Some.is at c.find_anchored.ensures.answer)

pub returns-clause-runs : goal.returns-clause-runs
returns-clause-runs c =
    let x = search_of c.args.input.now in
    let fact : RunsByWindow x c.args.self.now c.find_by_window-found.new.self =
    runs-later c.args.self.now c.find_anchored.new.self c.find_by_window-found.new.self c.find_anchored.ensures.same x
    c.find_anchored.ensures.keeps c.find_by_window-found.ensures.runs in
    first_of (search (rules, fact), grind (arith, common_steps, fact))
