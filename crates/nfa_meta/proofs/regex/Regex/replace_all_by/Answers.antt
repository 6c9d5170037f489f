-- Each call appends what the replacement does, and changes nothing that the closure captured.
use Rattle.nfa_paths.proofs.Common.{rules}
use Rattle.nfa_meta.proofs.Rewriting.{AppendsBy-same, TakesMatchesOf-same}
use Rattle.nfa_meta.proofs.regex.Regex.replace_all_by.Goals as goal

pub replace_all_with-requires : goal.replace_all_with-requires
replace_all_with-requires g c =
    TakesMatchesOf-same _ _ _ (λ p q q' f' inside k. search rules) (λ p q inside. search rules)

pub returns-clause-rewritten : goal.returns-clause-rewritten
returns-clause-rewritten g c =
    c.replace_all_with.ensures.appended (g.R.Replacer.appends c.args.replacement.now c.args.haystack.now)
    (AppendsBy-same _ _ _ _ (λ p q q' f' inside k. search rules))
