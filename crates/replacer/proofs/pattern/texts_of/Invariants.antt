-- The texts so far are slices.
use Rattle.std.proofs.Common.{◌≡◌, List, map, string_bytes, take, ℕ}
use Rattle.std.specs.Borrow.{Bor}
use Rattle.replacer.proofs.pattern.texts_of.Given as goal

abbrev pub invariant-loop-text : goal.invariant-loop-text
invariant-loop-text l =
    map (λ (text : Bor (List ℕ)). text.now) l.made.items ≡ map string_bytes (take l.text-index l.texts)
