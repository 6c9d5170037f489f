-- The pieces that are left, in their case, are what is still to be appended.
use Rattle.std.proofs.Common.{◌≡◌, ◌++◌, drop}
use Rattle.replacer.specs.Cased.{uncased}
use Rattle.replacer.specs.Fillings.{written}
use Rattle.replacer.proofs.filling.write_pieces.Given as goal

abbrev pub invariant-loop-piece : goal.invariant-loop-piece
invariant-loop-piece l =
    l.output.items ++ written l.haystack l.captures l.casing (drop l.piece-index l.pieces)
    ≡ l.fn.output.items ++ written l.haystack l.captures uncased l.pieces
