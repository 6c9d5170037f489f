-- The field of the name in the row by the only pattern.
use Rattle.nfa_paths.proofs.Common.{rules, ◌≡◌, ◌∙◌, AllZip-long, List, [], ◌∷◌, ap, arith, common_steps, ℕ, drop, drop-map, false, length, map, sym, None, Option, Some, option_map, slice_get, string_bytes}
use Rattle.log_extractor.specs.Counts.{value_at}
use Rattle.log_extractor.specs.Fields.{field_text}
use Rattle.log_extractor.specs.Several.{IsLabelledPattern, field_at, row_of_first, union_names}
use Rattle.log_extractor.proofs.SeveralLemmas.{by-one, get-named, value-named, value-none}
use Rattle.log_extractor.proofs.parsers.Parsers.parse_value.Goals as goal

pub returns-in_err-name-clause-value : goal.returns-in_err-name-clause-value
returns-in_err-name-clause-value c = λ ps are.
    let inside = rw (← c.self.view_is) at are in
    let names = map string_bytes c.after_first.result.now in
    let are-names : names ≡ union_names ps =
    ap (map string_bytes) (c.after_first.ensures ∙ ap (drop 1) c.deref.ensures.value)
    ∙ sym (drop-map string_bytes 1 c.self.inside.names.items) ∙ ap (drop 1) (c.self.invariant ps inside) in
    let one : length ps ≡ 1 = AllZip-long IsLabelledPattern c.args.self.now ps are ∙ c.requires.one in
    let gone : c.get.result ≡ None = first_of (search rules, grind (arith, common_steps)) in
    let missing : slice_get names c.args.column ≡ None =
    rw gone at (get-named c.after_first.result.now c.args.column c.get.result c.get.ensures.lookup) in
    let none : c.from_residual.result ≡ None = first_of (search rules, grind (arith, common_steps)) in
    rw none (value-none names c.args.column ps c.args.line.now one missing
    ∙ ap (value_at c.args.column) (by-one names ps c.args.line.now one are-names))

pub returns-in_err-field-clause-value : goal.returns-in_err-field-clause-value
returns-in_err-field-clause-value c = λ ps are.
    let inside = rw (← c.self.view_is) at are in
    let line = c.args.line.now in
    let name = string_bytes c.in_ok-name.name.now in
    let names = map string_bytes c.after_first.result.now in
    let are-names : names ≡ union_names ps =
    ap (map string_bytes) (c.after_first.ensures ∙ ap (drop 1) c.deref.ensures.value)
    ∙ sym (drop-map string_bytes 1 c.self.inside.names.items) ∙ ap (drop 1) (c.self.invariant ps inside) in
    let one : length ps ≡ 1 = AllZip-long IsLabelledPattern c.args.self.now ps are ∙ c.requires.one in
    let found : c.get.result ≡ Some c.in_ok-name.name = first_of (search rules, grind (arith, common_steps)) in
    let here : slice_get names c.args.column ≡ Some name =
    rw found at (get-named c.after_first.result.now c.args.column c.get.result c.get.ensures.lookup) in
    let no-field : c.field_by_one.result ≡ None = first_of (search rules, grind (arith, common_steps)) in
    let no-row : None ≡ row_of_first false (name ∷ []) ps line =
    rw no-field at (c.field_by_one.ensures.field ps (rw c.deref_mut.ensures.value inside)) in
    let none : c.from_residual-in_err-field.result ≡ None = first_of (search rules, grind (arith, common_steps)) in
    rw none (ap (option_map (λ fields. field_text (field_at fields 0))) no-row
    ∙ sym (value-named names c.args.column name ps line one here)
    ∙ ap (value_at c.args.column) (by-one names ps line one are-names))

pub returns-clause-value : goal.returns-clause-value
returns-clause-value c = λ ps are.
    let inside = rw (← c.self.view_is) at are in
    let line = c.args.line.now in
    let name = string_bytes c.in_ok-name.name.now in
    let names = map string_bytes c.after_first.result.now in
    let are-names : names ≡ union_names ps =
    ap (map string_bytes) (c.after_first.ensures ∙ ap (drop 1) c.deref.ensures.value)
    ∙ sym (drop-map string_bytes 1 c.self.inside.names.items) ∙ ap (drop 1) (c.self.invariant ps inside) in
    let one : length ps ≡ 1 = AllZip-long IsLabelledPattern c.args.self.now ps are ∙ c.requires.one in
    let found : c.get.result ≡ Some c.in_ok-name.name = first_of (search rules, grind (arith, common_steps)) in
    let here : slice_get names c.args.column ≡ Some name =
    rw found at (get-named c.after_first.result.now c.args.column c.get.result c.get.ensures.lookup) in
    let field : Option (List ℕ) = option_map (λ text. text.now) c.in_ok-field.field in
    let some : c.field_by_one.result ≡ Some c.in_ok-field.field =
    first_of (search rules, grind (arith, common_steps)) in
    let row : Some (field ∷ []) ≡ row_of_first false (name ∷ []) ps line =
    rw some at (c.field_by_one.ensures.field ps (rw c.deref_mut.ensures.value inside)) in
    let text : c.unwrap_or.result.now ≡ field_text field = first_of (search rules, grind (arith, common_steps)) in
    ap Some text ∙ ap (option_map (λ fields. field_text (field_at fields 0))) row
    ∙ sym (value-named names c.args.column name ps line one here)
    ∙ ap (value_at c.args.column) (by-one names ps line one are-names)
