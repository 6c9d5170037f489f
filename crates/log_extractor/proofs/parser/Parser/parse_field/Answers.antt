-- The laws, of these captures, for one column.
use Rattle.nfa_paths.proofs.Common.{rules, ◌≡◌, ◌∙◌, ℕ, List, [], ◌∷◌, ap, arith, common_steps, false, map, subst, sym, true, is_some, Option, Some, group_span, string_bytes}
use Rattle.nfa_compiler.proofs.CallLemmas.{bytes-of}
use Rattle.nfa_meta.proofs.AnchoredLemmas.{regex-kept}
use Rattle.log_extractor.specs.Fields.{IsLinePattern, NamedGroup, columns_of, cut, group_of}
use Rattle.log_extractor.specs.Several.{field_named}
use Rattle.log_extractor.proofs.FieldLemmas.{line-columns, line-row, none-of-row, of-groups, some-of-row}
use Rattle.log_extractor.proofs.parser.Parser.parse_field.Goals as goal

pub invariant_of-self : goal.invariant_of-self
invariant_of-self c =
    let inv = c.self.invariant in
    let kept = c.search_line.ensures.keeps in (
      regex-kept (c.self.inside.pattern.now ∷ []) c.self.inside.regex c.search_line.new.regex inv.0 kept,
      rw kept.engines.nfa (c.search_line.ensures.groups ∙ inv.1),
      rw kept.engines.nfa (c.search_line.ensures.count ∙ inv.2),
      rw kept.engines.nfa inv.3,
    )

pub returns-then-not-is_match-clause-field : goal.returns-then-not-is_match-clause-field
returns-then-not-is_match-clause-field c = λ p is.
    let line = c.args.line.now in
    let inv = c.self.invariant in
    let nfa = c.self.inside.regex.choice.nfa in
    let captures = c.search_line.new.captures in
    let bytes = bytes-of line (λ k. omega (arith, c.type_inv.line k)) in
    let inside = subst (λ (text : List ℕ). IsLinePattern text p) (sym c.self.view_is) is in
    let none : is_some captures.pattern ≡ false = first_of (search rules, grind (arith, common_steps)) in
    none-of-row (λ fields. field_named (columns_of p) fields (string_bytes c.args.name.now)) captures.pattern _ _
    (line-row _ p nfa line inv.0.compiled inv.0.anywhere bytes inside c.groups_are_those_of_texts.ensures.names
    c.searches_find_texts.ensures.answers c.groups_are_those_of_texts.ensures.spans captures
    (c.search_line.ensures.groups ∙ inv.1) (c.search_line.ensures.count ∙ inv.2)
    c.search_line.ensures.answer) none

pub returns-clause-field : goal.returns-clause-field
returns-clause-field c = λ p is.
    let line = c.args.line.now in
    let inv = c.self.invariant in
    let nfa = c.self.inside.regex.choice.nfa in
    let captures = c.search_line.new.captures in
    let bytes = bytes-of line (λ k. omega (arith, c.type_inv.line k)) in
    let inside = subst (λ (text : List ℕ). IsLinePattern text p) (sym c.self.view_is) is in
    let some : is_some captures.pattern ≡ true = first_of (search rules, grind (arith, common_steps)) in
    let one : ℕ → Option (List ℕ) = λ k. cut line (group_span captures k) in
    let name = string_bytes c.args.name.now in
    let columns = line-columns _ p nfa line inv.0.compiled inv.0.anywhere bytes inside
    c.groups_are_those_of_texts.ensures.names (map group_of c.deref.result.now)
    (ap (map group_of) c.deref.ensures.value ∙ inv.3) in
    ap Some (c.cut_named.ensures
    ∙ ap (λ fields. field_named (map group_of c.deref.result.now) fields name) (of-groups one c.deref.result.now)
    ∙ ap (λ cs. field_named cs (map (λ (g : NamedGroup). one g.number) cs) name) columns)
    ∙ some-of-row (λ fields. field_named (columns_of p) fields name) captures.pattern _ _
    (line-row _ p nfa line inv.0.compiled inv.0.anywhere bytes inside c.groups_are_those_of_texts.ensures.names
    c.searches_find_texts.ensures.answers c.groups_are_those_of_texts.ensures.spans captures
    (c.search_line.ensures.groups ∙ inv.1) (c.search_line.ensures.count ∙ inv.2)
    c.search_line.ensures.answer) some
