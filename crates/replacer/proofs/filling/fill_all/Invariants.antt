-- The matches so far were replaced.
use Rattle.std.proofs.Common.{length}
use Rattle.std.specs.Vec.Iter.{into_iter_items}
use Rattle.replacer.specs.Fillings.{HasPut, pieces_in}
use Rattle.replacer.proofs.filling.fill_all.Given as goal

abbrev pub invariant-loop-captures : goal.invariant-loop-captures
invariant-loop-captures l = HasPut l.haystack (pieces_in l.fillings) l.fn.caught.items
    (into_iter_items l.captures-iterator) (length l.yielded) l.from l.output.items
