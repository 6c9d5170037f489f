-- The laws, of these captures.
use Rattle.nfa_paths.proofs.Common.{◌∙◌, ℕ, List, [], ◌∷◌, ap, arith, map, subst, sym, Option, option_map, group_span}
use Rattle.nfa_compiler.proofs.CallLemmas.{bytes-of}
use Rattle.nfa_meta.proofs.AnchoredLemmas.{regex-kept}
use Rattle.log_extractor.specs.Fields.{IsLinePattern, NamedGroup, cut, group_of}
use Rattle.log_extractor.proofs.FieldLemmas.{line-columns, line-row, of-groups}
use Rattle.log_extractor.proofs.parser.Parser.parse_line.Goals as goal

pub invariant_of-self : goal.invariant_of-self
invariant_of-self c =
    let inv = c.self.invariant in
    let kept = c.search_line.ensures.keeps in (
      regex-kept (c.self.inside.pattern.now ∷ []) c.self.inside.regex c.search_line.new.regex inv.0 kept,
      rw kept.engines.nfa (c.search_line.ensures.groups ∙ inv.1),
      rw kept.engines.nfa (c.search_line.ensures.count ∙ inv.2),
      rw kept.engines.nfa inv.3,
    )

pub returns-clause-fields : goal.returns-clause-fields
returns-clause-fields c = λ p is.
    let line = c.args.line.now in
    let inv = c.self.invariant in
    let nfa = c.self.inside.regex.choice.nfa in
    let captures = c.search_line.new.captures in
    let bytes = bytes-of line (λ k. omega (arith, c.type_inv.line k)) in
    let inside = subst (λ (text : List ℕ). IsLinePattern text p) (sym c.self.view_is) is in
    let one : ℕ → Option (List ℕ) = λ k. cut line (group_span captures k) in
    let columns = line-columns _ p nfa line inv.0.compiled inv.0.anywhere bytes inside
    c.groups_are_those_of_texts.ensures.names (map group_of c.deref.result.now)
    (ap (map group_of) c.deref.ensures.value ∙ inv.3) in
    c.in_ok-fields.ensures
    ∙ ap (λ fs. option_map (λ (k : ℕ). fs) captures.pattern)
    (of-groups one c.deref.result.now ∙ ap (λ cs. map (λ (g : NamedGroup). one g.number) cs) columns)
    ∙ line-row _ p nfa line inv.0.compiled inv.0.anywhere bytes inside c.groups_are_those_of_texts.ensures.names
    c.searches_find_texts.ensures.answers c.groups_are_those_of_texts.ensures.spans captures
    (c.search_line.ensures.groups ∙ inv.1) (c.search_line.ensures.count ∙ inv.2)
    c.search_line.ensures.answer
