-- The matches so far were replaced.
use Rattle.nfa_paths.proofs.Common.{length, into_iter_items}
use Rattle.nfa_meta.specs.Filled.{HasFilled}
use Rattle.nfa_meta.proofs.interpolate.Template.fill_all.Given as goal

abbrev pub invariant-loop-captures : goal.invariant-loop-captures
invariant-loop-captures l = HasFilled l.haystack l.self.parts.items l.fn.caught.items
    (into_iter_items l.captures-iterator) (length l.yielded) l.from l.output.items
