-- The part is in the bytes, and in the needles so far.
use Rattle.std.proofs.Common.{All, ℕ, take, Vec}
use Rattle.std.specs.declared.alloc.Global.{Global}
use Rattle.nfa_grep.specs.Required.{OccursIn}
use Rattle.nfa_grep.proofs.required_literal.shared.shared_by_all.Given as goal

abbrev pub invariant-loop-needle : goal.invariant-loop-needle
invariant-loop-needle l = record {
  inside : OccursIn l.bytes l.part;
  each : All (λ (needle : Vec ℕ Global). OccursIn needle.items l.part) (take l.needle-index l.needles);
}
