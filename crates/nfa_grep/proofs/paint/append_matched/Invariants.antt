-- The parts before the offset were appended.
use Rattle.nfa_grep.specs.Painted.{HasPainted}
use Rattle.nfa_grep.proofs.paint.append_matched.Given as goal

abbrev pub invariant-loop-found : goal.invariant-loop-found
invariant-loop-found l = HasPainted l.by.colours l.by.line l.by.hit l.text l.matches l.found-index l.from
    l.fn.out.items l.out.items
