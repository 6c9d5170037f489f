-- The row is that of the first pattern that matches, and the parsers are as they were.
use Rattle.nfa_paths.proofs.Common.{drop-map, take_at, ◌≡◌, ◌∙◌, ap, ap₂, arith, drop, length, map, nat_lt, sym, string_bytes, IfOk-weaker}
use Rattle.log_extractor.specs.Several.{is_several, row_of_first, union_names}
use Rattle.log_extractor.proofs.SeveralLemmas.{same-several}
use Rattle.log_extractor.proofs.parsers.Parsers.parse_line.Goals as goal

pub returns-clause-fields : goal.returns-clause-fields
returns-clause-fields c =
    let parsers = c.self.inside.parsers.items in
    let count : c.len-several.result ≡ length parsers = omega (arith, c.self.inside.parsers.ok.0) in
    IfOk-weaker c.first_row.result _ _ (λ found by ps are.
    let inside = rw (← c.self.view_is) at are in
    let several : is_several ps ≡ nat_lt 1 c.len-several.result = rw count (same-several parsers ps inside) in
    let names : map string_bytes c.after_first-names.result.now ≡ union_names ps =
    ap (map string_bytes) (c.after_first-names.ensures ∙ ap (drop 1) c.deref.ensures.value)
    ∙ sym (drop-map string_bytes 1 c.self.inside.names.items) ∙ ap (drop 1) (c.self.invariant ps inside) in
    by ps (rw c.deref_mut.ensures.value inside)
    ∙ ap₂ (λ b ns. row_of_first b ns ps c.args.line.now) (sym several) names) c.first_row.ensures.fields

pub invariant_of-self : goal.invariant_of-self
invariant_of-self c = λ ps are.
    let parsers = c.self.inside.parsers.items in
    let same : c.first_row.new.parsers ≡ parsers = c.first_row.ensures.kept ∙ c.deref_mut.ensures.value in
    c.self.invariant ps (rw (
      same,
      take_at parsers (drop (length parsers) parsers) c.self.inside.parsers.len
          (omega (arith, c.self.inside.parsers.ok.0)),
    ) at are)
