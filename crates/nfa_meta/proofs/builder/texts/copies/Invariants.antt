-- The copies so far are those of the texts so far.
use Rattle.std.proofs.Common.{◌≡◌, map, string_bytes, take}
use Rattle.nfa_meta.proofs.builder.texts.copies.Given as goal

abbrev pub invariant-loop-text : goal.invariant-loop-text
invariant-loop-text l = map string_bytes l.list.items ≡ map string_bytes (take l.text-index l.texts)
