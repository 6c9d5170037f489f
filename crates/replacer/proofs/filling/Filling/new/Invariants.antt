-- The stretches so far were read.
use Rattle.std.proofs.Common.{map, take}
use Rattle.std.specs.List.{AllZip}
use Rattle.regex_search_core.specs.PatternSets.{number_of}
use Rattle.replacer.specs.Fillings.{IsPiece}
use Rattle.replacer.specs.Stretches.{stretched}
use Rattle.replacer.proofs.filling.Filling.new.Given as goal

abbrev pub invariant-loop-stretch : goal.invariant-loop-stretch
invariant-loop-stretch l =
    AllZip (IsPiece l.groups (number_of l.pattern)) (take l.stretch-index (map stretched l.stretches)) l.pieces.items
