-- One pattern is tried at the same positions.
use Rattle.nfa_compiler.specs.Common.{find_str, str_hit}
use Rattle.nfa_compiler.proofs.AllSearchLemmas.{all-of-one, one-str-hit}
use Rattle.nfa_compiler.proofs.laws.str_hits_are_find_str.Goals as goal

pub returns-clause-first : goal.returns-clause-first
returns-clause-first c = one-str-hit

pub returns-clause-all : goal.returns-clause-all
returns-clause-all c = all-of-one str_hit find_str one-str-hit
