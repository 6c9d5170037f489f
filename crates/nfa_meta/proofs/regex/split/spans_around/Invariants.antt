-- The spans before the matches so far were pushed.
use Rattle.nfa_meta.specs.Gaps.{HasSplit}
use Rattle.nfa_meta.proofs.regex.split.spans_around.Given as goal

abbrev pub invariant-loop-found : goal.invariant-loop-found
invariant-loop-found l = HasSplit l.haystack l.matches l.found-index l.start l.spans.items
