-- The law, of these captures.
use Rattle.std.proofs.Common.{arith, refl}
use Rattle.nfa_engines.specs.Search.{whole}
use Rattle.nfa_compiler.proofs.CallLemmas.{bytes-of}
use Rattle.callers.proofs.hits.capture_hits_of_texts.Goals as goal

pub returns : goal.returns
returns c = λ res meant.
    let bytes = bytes-of c.args.line.now (λ k. omega (arith, c.type_inv.line k)) in
    c.iterations_find_texts.ensures.captures _ _ res c.args.engine.now.nfa _ _ (whole c.args.line.now) _
    c.requires.compiled meant c.requires.anywhere (record { leftmost = refl; latest = refl; whole = refl }) bytes
    (rw c.new.ensures at c.in_ok-rows.ensures.rows)
