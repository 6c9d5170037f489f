-- The texts so far were escaped.
use Rattle.std.proofs.Common.{◌≡◌, map, string_bytes, take}
use Rattle.replacer.specs.Printed.{AreFixedTexts, escaped}
use Rattle.replacer.proofs.pattern.escaped.Given as goal

abbrev pub invariant-loop-text : goal.invariant-loop-text
invariant-loop-text l =
    let texts = take l.text-index (map string_bytes l.texts) in
    record {
      escaped : map string_bytes l.made.items ≡ map escaped texts;
      fixed : AreFixedTexts texts (map string_bytes l.made.items);
    }
