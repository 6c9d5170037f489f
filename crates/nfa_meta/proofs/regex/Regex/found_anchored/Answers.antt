-- Where nothing matches, that is the answer.
use Rattle.nfa_paths.proofs.Common.{◌∙◌, search_of, sym}
use Rattle.nfa_choice.specs.ChoiceState.{kind_in}
use Rattle.nfa_meta.proofs.PrefixLemmas.{none-weaker, nothing-left, of-part}
use Rattle.nfa_meta.proofs.regex.Regex.found_anchored.Goals as goal

pub returns-clause-nothing : goal.returns-clause-nothing
returns-clause-nothing c =
    let e = c.args.self.now.choice in
    let x = search_of c.args.input in
    let laws = c.nothing_has_no_answer.ensures in
    of-part (λ found h. none-weaker (λ none. nothing-left e.nfa (kind_in e) x none laws.answer laws.match_of) found h)
    c.find_anchored.result
    (c.find_anchored.ensures.nothing (sym c.skips_split_matches.ensures ∙ c.if-skips_split_matches.false))
