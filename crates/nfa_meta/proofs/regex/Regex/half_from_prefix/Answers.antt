-- What is left of the search has its half matches.
use Rattle.nfa_paths.proofs.Common.{arith, common_steps, rules, search_of, ap}
use Rattle.nfa_engines.specs.StartLaws.{IsUnbound}
use Rattle.nfa_choice.specs.ChoiceState.{kind_in}
use Rattle.nfa_meta.proofs.PrefixLemmas.{of-part, rest-halves}
use Rattle.nfa_meta.specs.RegexState.{RegexState}
use Rattle.nfa_meta.proofs.regex.Regex.half_from_prefix.Goals as goal

pub returns-clause-answers : goal.returns-clause-answers
returns-clause-answers c =
    let e = c.args.self.now.choice in
    let x = search_of c.args.input in
    let laws = c.starts_may_be_passed.ensures in
    let unbound : IsUnbound e.nfa x = first_of (search rules, grind (arith, common_steps)) in
    of-part (λ part rest. rest-halves e.nfa x (search_of part) rest unbound (kind_in e) laws.halves laws.found)
    c.rest_from.result
    (rw (ap (λ (s : RegexState). s.choice) c.self.view_is) at (rw c.get_nfa.ensures at c.rest_from.ensures.rest))
