-- What is left of the search has its answers.
use Rattle.nfa_paths.proofs.Common.{search_of, ap}
use Rattle.nfa_choice.specs.ChoiceState.{kind_in}
use Rattle.nfa_meta.proofs.PrefixLemmas.{of-part, rest-answers, rest-halves}
use Rattle.nfa_meta.specs.RegexState.{RegexState}
use Rattle.nfa_meta.proofs.regex.Regex.from_prefix.Goals as goal

pub returns-clause-answers : goal.returns-clause-answers
returns-clause-answers c =
    let e = c.args.self.now.choice in
    let laws = c.starts_may_be_passed.ensures in
    of-part (λ part rest. rest-answers e.nfa (search_of c.args.input) (search_of part) rest c.requires.windowed.unbound
    (kind_in e) laws.answers laws.matches) c.rest_from.result
    (rw (ap (λ (s : RegexState). s.choice) c.self.view_is) at (rw c.get_nfa.ensures at c.rest_from.ensures.rest))

pub returns-clause-halves : goal.returns-clause-halves
returns-clause-halves c =
    let e = c.args.self.now.choice in
    let laws = c.starts_may_be_passed.ensures in
    of-part (λ part rest. rest-halves e.nfa (search_of c.args.input) (search_of part) rest c.requires.windowed.unbound
    (kind_in e) laws.halves laws.found) c.rest_from.result
    (rw (ap (λ (s : RegexState). s.choice) c.self.view_is) at (rw c.get_nfa.ensures at c.rest_from.ensures.rest))
