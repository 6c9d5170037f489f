-- No transition so far holds the byte.
use Rattle.nfa_paths.proofs.Common.{◌≡◌, drop, first_target}
use Rattle.nfa_scan_core.proofs.transitions.first_target.Given as goal

abbrev pub invariant-loop-trans : goal.invariant-loop-trans
invariant-loop-trans l = first_target l.transitions l.byte ≡ first_target (drop l.trans-index l.transitions) l.byte
