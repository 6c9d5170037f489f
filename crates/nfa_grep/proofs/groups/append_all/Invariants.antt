-- The texts so far were appended.
use Rattle.nfa_paths.proofs.Common.{◌≡◌, ◌++◌, flat_map}
use Rattle.nfa_grep.proofs.groups.append_all.Given as goal

abbrev pub invariant-loop-text : goal.invariant-loop-text
invariant-loop-text l = l.out.items ≡ l.fn.out.items ++ flat_map (λ text. text.now.items) l.yielded
