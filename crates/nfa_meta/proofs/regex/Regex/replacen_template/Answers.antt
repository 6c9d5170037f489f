-- Each call fills the template, and changes nothing that the closure captured.
use Rattle.nfa_paths.proofs.Common.{rules}
use Rattle.nfa_meta.specs.Templates.{filled}
use Rattle.nfa_meta.proofs.RewriteLemmas.{filled-up_to}
use Rattle.nfa_meta.proofs.Rewriting.{AppendsBy-same, TakesMatchesOf-same}
use Rattle.nfa_meta.proofs.regex.Regex.replacen_template.Goals as goal

pub replacen_with-requires : goal.replacen_with-requires
replacen_with-requires c =
    TakesMatchesOf-same _ _ _ (λ p q q' f' inside k. search rules) (λ p q inside. search rules)

pub returns-clause-first : goal.returns-clause-first
returns-clause-first c = λ some.
    let text = c.args.haystack.now in
    let parts = c.args.template.now.parts.items in
    filled-up_to c.args.self.now.choice text c.args.limit parts c.replacen_with.result
    (c.replacen_with.ensures.first_appended some (λ caught. filled text caught parts)
    (AppendsBy-same _ _ _ _ (λ p q q' f' inside k. search rules)))
