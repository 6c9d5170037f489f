-- The name is found.
use Rattle.nfa_paths.proofs.Common.{bytes_eq, list_any_at, ◌∙◌, arith, map, string_bytes, sym, get_or-map, length-map}
use Rattle.log_extractor.proofs.names.has_name.Goals as goal

pub returns-then-is_name : goal.returns-then-is_name
returns-then-is_name c =
    let names = c.args.names.now in
    let other = c.other-item.result in
    let here = get_or-map string_bytes names c.loop-other.other-index other (string_bytes other)
    c.loop-other-test.true in
    sym (list_any_at (λ x. bytes_eq x c.args.name.now) (map string_bytes names) c.loop-other.other-index
    (string_bytes other) (omega (arith, length-map names string_bytes, c.loop-other-test.true))
    (rw (here, ← c.other-item.is) (sym c.is_name.ensures ∙ c.if-is_name.true)))
