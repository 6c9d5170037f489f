-- The answer of a search that takes the leftmost first match is that of the search.
use Rattle.nfa_paths.proofs.Common.{rules, arith, common_steps, ◌≡◌, ◌∙◌, false, search_of, LeftmostFirst, IsAutomaton, ap}
use Rattle.nfa_choice.specs.ChoiceState.{kind_in}
use Rattle.nfa_meta.proofs.GroupLemmas.{whole-answers, whole-writes}
use Rattle.nfa_meta.specs.RegexState.{RegexState}
use Rattle.nfa_meta.proofs.regex.Regex.write_whole.Goals as goal

pub returns-clause-answer : goal.returns-clause-answer
returns-clause-answer c =
    let r = c.args.self.now.choice in
    let x = search_of c.args.input.now in
    let first : kind_in r ≡ LeftmostFirst = first_of (search rules, grind (arith, common_steps)) in
    let latest : x.earliest ≡ false = first_of (search rules, grind (arith, common_steps)) in
    whole-answers r.nfa (kind_in r) x c.search_whole.new.slots c.search_whole.result first latest
    (rw (c.get_nfa.ensures ∙ ap (λ (s : RegexState). s.choice.nfa) c.self.view_is) at c.search_whole.ensures.answer)

pub returns-clause-writes : goal.returns-clause-writes
returns-clause-writes c =
    let r = c.args.self.now.choice in
    let valid : IsAutomaton r.nfa = first_of (search rules, grind (arith, common_steps)) in
    whole-writes r.nfa (kind_in r) (search_of c.args.input.now) c.search_whole.new.slots c.search_whole.result
    c.args.slots.now valid (returns-clause-answer c) c.search_whole.ensures.unmatched
