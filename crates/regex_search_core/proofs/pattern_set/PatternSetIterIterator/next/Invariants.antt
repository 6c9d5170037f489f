-- The patterns that are skipped are not in the set.
use Rattle.std.proofs.Common.{◌≡◌, ◌-◌, ◌≤◌, length}
use Rattle.regex_search_core.specs.PatternSetIters.{patterns_left}
use Rattle.regex_search_core.proofs.pattern_set.PatternSetIterIterator.next.Given as goal

abbrev pub invariant-patterns : goal.invariant-patterns
invariant-patterns l =
    (patterns_left l.self ≡ patterns_left l.fn.self) × (l.self.which.now ≡ l.fn.self.which.now)
    × (l.fn.self.next ≤ l.self.next)

abbrev pub decreases-patterns : goal.decreases-patterns
decreases-patterns l = length l.self.which.now - l.self.next
