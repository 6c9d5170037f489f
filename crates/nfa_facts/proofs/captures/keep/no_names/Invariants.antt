-- No pattern so far has an explicit group.
use Rattle.nfa_paths.proofs.Common.{◌≡◌, [], replicate, names_of}
use Rattle.nfa_facts.proofs.captures.keep.no_names.Given as goal

abbrev pub invariant-loop : goal.invariant-loop
invariant-loop l = names_of l.names.items ≡ replicate l.counter []
