-- The groups have the names that the grammar reads in the text.
use Rattle.nfa_paths.proofs.Common.{◌∙◌, ℕ, List, [], ◌∷◌, ap, map, subst, sym, groups_at}
use Rattle.nfa_compiler.specs.Written.{byte_syntax}
use Rattle.log_extractor.specs.Fields.{IsLinePattern, group_of, named_groups}
use Rattle.log_extractor.proofs.parser.Parser.columns.Goals as goal

pub returns : goal.returns
returns c = λ p is.
    let inv = c.self.invariant in
    let inside = subst (λ (text : List ℕ). IsLinePattern text p) (sym c.self.view_is) is in
    let groups = c.groups_are_those_of_texts.ensures.names byte_syntax _ (p.names ∷ []) c.self.inside.regex.choice.nfa
    inv.0.compiled (inside.names, tt) in
    ap (map group_of) c.deref.ensures.value ∙ inv.3
    ∙ ap (λ gs. named_groups 1 (groups_at gs 0)) groups
