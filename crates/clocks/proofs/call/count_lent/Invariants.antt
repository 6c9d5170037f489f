-- Each call leaves fewer items.
use Rattle.nfa_meta.specs.CapturesMatches.{captures_left}
use Rattle.clocks.proofs.call.count_lent.Given as goal

abbrev pub decreases-loop-count : goal.decreases-loop-count
decreases-loop-count l = captures_left l.items
