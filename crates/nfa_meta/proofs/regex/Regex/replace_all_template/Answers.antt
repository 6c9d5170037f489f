-- Each call fills the template, and changes nothing that the closure captured.
use Rattle.nfa_paths.proofs.Common.{rules}
use Rattle.nfa_meta.specs.Templates.{filled}
use Rattle.nfa_meta.proofs.RewriteLemmas.{filled-by}
use Rattle.nfa_meta.proofs.Rewriting.{AppendsBy-same, TakesMatchesOf-same}
use Rattle.nfa_meta.proofs.regex.Regex.replace_all_template.Goals as goal

pub replace_all_with-requires : goal.replace_all_with-requires
replace_all_with-requires c =
    TakesMatchesOf-same _ _ _ (λ p q q' f' inside k. search rules) (λ p q inside. search rules)

pub returns-clause-filled : goal.returns-clause-filled
returns-clause-filled c =
    let text = c.args.haystack.now in
    let parts = c.args.template.now.parts.items in
    filled-by c.args.self.now.choice text parts c.replace_all_with.result
    (c.replace_all_with.ensures.appended (λ caught. filled text caught parts)
    (AppendsBy-same _ _ _ _ (λ p q q' f' inside k. search rules)))
