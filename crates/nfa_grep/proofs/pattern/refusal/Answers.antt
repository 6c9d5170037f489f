-- The error of a text.
use Rattle.nfa_paths.proofs.Common.{ℕ, length, map, rules, sym, subst, length-map}
use Rattle.nfa_grep.specs.Meant.{IsOfText, IsRefusalBy}
use Rattle.nfa_grep.proofs.PatternLemmas.{refusal}
use Rattle.nfa_grep.proofs.pattern.refusal.Goals as goal

pub returns-in-Err-Syntax : goal.returns-in-Err-Syntax
returns-in-Err-Syntax c =
    let of = IsOfText c.args.options (map (λ text. text.now) c.args.texts.now) in
    subst (λ (k : ℕ). IsRefusalBy of k c.described.result) (sym (length-map c.args.texts.now (λ text. text.now)))
    (refusal of (length c.args.texts.now) _ c.described.result c.described.ensures (search rules))
