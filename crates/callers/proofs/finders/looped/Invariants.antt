-- The items are the list.
use Rattle.std.proofs.Common.{◌≡◌}
use Rattle.callers.proofs.finders.looped.Given as goal

abbrev pub invariant-loop-item : goal.invariant-loop-item
invariant-loop-item l =
    (goal.iterator-loop-item).can_next l.item-iterator
    × (goal.iterator-loop-item).is_finite l.item-iterator
    × (l.found.items ≡ l.yielded)
