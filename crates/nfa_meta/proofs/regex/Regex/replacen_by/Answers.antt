-- Each call appends what the replacement does, and changes nothing that the closure captured.
use Rattle.nfa_paths.proofs.Common.{rules}
use Rattle.nfa_meta.proofs.Rewriting.{AppendsBy-same, TakesMatchesOf-same}
use Rattle.nfa_meta.proofs.regex.Regex.replacen_by.Goals as goal

pub replacen_with-requires : goal.replacen_with-requires
replacen_with-requires g c =
    TakesMatchesOf-same _ _ _ (λ p q q' f' inside k. search rules) (λ p q inside. search rules)

pub returns-clause-first : goal.returns-clause-first
returns-clause-first g c = λ some.
    c.replacen_with.ensures.first_appended some (g.R.Replacer.appends c.args.replacement.now c.args.haystack.now)
    (AppendsBy-same _ _ _ _ (λ p q q' f' inside k. search rules))
