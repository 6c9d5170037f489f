-- A window is what has to be searched, or else the whole span.
use Rattle.nfa_paths.proofs.Common.{rules, arith, common_steps, inl, inr, refl, IfSome, None, Option, Some, Input, Search, search_of}
use Rattle.nfa_choice.specs.ChoiceState.{kind_in}
use Rattle.nfa_meta.specs.RegexState.{RegexState}
use Rattle.nfa_meta.specs.WindowRuns.{EndsAtMatch, IsWindowOf, NeedsPart, NeedsWhole}
use Rattle.nfa_meta.proofs.regex.Regex.part_to_search.Goals as goal

window-needed : (a b : RegexState) (x : Search) (part : Option Input)
    → IfSome part (λ p. IsWindowOf a.choice.nfa x (search_of p))
    → IfSome part (λ p. EndsAtMatch a.choice.nfa (kind_in a.choice) x (search_of p))
    → IfSome part (λ p. NeedsPart x (search_of p) a b)
window-needed a b x None is ends = tt
window-needed a b x (Some p) is ends = inl (is, ends)

pub returns-in-Ok-clause-why : goal.returns-in-Ok-clause-why
returns-in-Ok-clause-why c =
    let r = c.args.self.now.choice in
    let x = search_of c.args.input in
    let is : IfSome c.in-Ok.part (λ p. IsWindowOf r.nfa x (search_of p)) =
    first_of (search rules, grind (arith, common_steps)) in
    let ends : IfSome c.in-Ok.part (λ p. EndsAtMatch r.nfa (kind_in r) x (search_of p)) =
    first_of (search rules, grind (arith, common_steps)) in
    window-needed c.args.self.now c.window.new.self x c.in-Ok.part is ends

pub returns-in-Err-clause-why : goal.returns-in-Err-clause-why
returns-in-Err-clause-why c =
    let x = search_of c.args.input in
    let why : NeedsWhole x c.args.self.now c.window.new.self = first_of (search rules, grind (arith, common_steps)) in
    inr (refl, why)
