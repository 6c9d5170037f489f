-- The column has the name, or none has.
use Rattle.nfa_paths.proofs.Common.{◌≡◌, ◌∙◌, ap, arith, below_more, map, sym, string_bytes, true, Some, length-map, slice_get_within}
use Rattle.std.specs.Cmp.Lexicographic.{bytes_decides}
use Rattle.log_extractor.proofs.CountLemmas.{names-at}
use Rattle.log_extractor.proofs.count.column_named.Goals as goal

pub returns-then-is_name-clause-found : goal.returns-then-is_name-clause-found
returns-then-is_name-clause-found c =
    names-at c.args.names.now c.loop-number.number c.index-names-number.result c.loop-number-test.true
    c.index-names-number.is ∙ ap Some ((bytes_decides _ _).0 (sym c.is_name.ensures ∙ c.if-is_name.true))

pub loop-number-preserved : goal.loop-number-preserved
loop-number-preserved c =
    below_more _ _ c.loop-number.invariant (λ named.
    let at = names-at c.args.names.now c.loop-number.number c.index-names-number.result c.loop-number-test.true
    c.index-names-number.is in
    let is : string_bytes c.index-names-number.result ≡ c.args.name.now = cc (at, named) in
    let yes : c.is_name.result ≡ true = c.is_name.ensures ∙ (bytes_decides _ _).1 is in
    absurd (cc))

pub returns-clause-missing : goal.returns-clause-missing
returns-clause-missing c = λ k named.
    c.loop-number.invariant k (omega (
      arith,
      c.loop-number-test.false,
      length-map c.args.names.now string_bytes,
      slice_get_within (map string_bytes c.args.names.now) k c.args.name.now named,
    )) named
