-- The names, with that of the column of labels if there are several patterns.
use Rattle.nfa_paths.proofs.Common.{drop-map, ◌≡◌, ◌∙◌, ap, arith, drop, false, string_bytes, true, le-ltb, lt-ltb}
use Rattle.log_extractor.specs.Several.{is_several}
use Rattle.log_extractor.proofs.SeveralLemmas.{same-several}
use Rattle.log_extractor.proofs.parsers.Parsers.names.Goals as goal

pub returns-then-len-gt1 : goal.returns-then-len-gt1
returns-then-len-gt1 c = λ ps are.
    let inside = rw (← c.self.view_is) at are in
    let more : is_several ps ≡ true =
    same-several c.self.inside.parsers.items ps inside ∙ lt-ltb 1 _ (omega (arith, c.self.inside.parsers.ok.0)) in
    rw (more, c.deref.ensures.value) (c.self.invariant ps inside)

pub returns-else-len-gt1 : goal.returns-else-len-gt1
returns-else-len-gt1 c = λ ps are.
    let inside = rw (← c.self.view_is) at are in
    let less : is_several ps ≡ false =
    same-several c.self.inside.parsers.items ps inside ∙ le-ltb 1 _ (omega (arith, c.self.inside.parsers.ok.0)) in
    rw (
      less,
      c.after_first.ensures,
      c.deref-else-len-gt1.ensures.value,
      ← drop-map string_bytes 1 c.self.inside.names.items,
    ) (ap (drop 1) (c.self.invariant ps inside))
