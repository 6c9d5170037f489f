-- The bytes that are left, with their case, are what is still to be appended.
use Rattle.std.proofs.Common.{◌≡◌, ◌++◌, drop}
use Rattle.replacer.specs.Cased.{cased, casing_after}
use Rattle.replacer.proofs.case.push_cased.Given as goal

abbrev pub invariant-loop-byte : goal.invariant-loop-byte
invariant-loop-byte l = record {
  text : l.text.items ++ cased l.casing (drop l.byte-index l.bytes) ≡ l.fn.text.items ++ cased l.fn.casing l.bytes;
  after : casing_after l.casing (drop l.byte-index l.bytes) ≡ casing_after l.fn.casing l.bytes;
}
