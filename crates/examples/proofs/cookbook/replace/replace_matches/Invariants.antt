-- The matches so far were replaced.
use Rattle.nfa_meta.specs.Replaced.{HasReplaced}
use Rattle.examples.proofs.cookbook.replace.replace_matches.Given as goal

abbrev pub invariant-loop-found : goal.invariant-loop-found
invariant-loop-found l = HasReplaced l.text l.bytes l.matches l.found-index l.from l.output.items
