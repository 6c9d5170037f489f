-- The first flaw, or none, is that of the NFA with these flags.
use Rattle.std.proofs.Common.{refl}
use Rattle.thompson_nfa.proofs.nfa.NFA.from_states.Goals as goal

pub returns-in-Some : goal.returns-in-Some
returns-in-Some c = (
  c.in-Some.flaw,
  rw (c.deref.ensures.value, c.deref-2.ensures.value, c.in-Some.is)
      at (c.first_flaw.ensures c.args.has_empty c.args.utf8),
  c.from.ensures,
)

pub invariant_of-result : goal.invariant_of-result
invariant_of-result c =
    rw (c.deref.ensures.value, c.deref-2.ensures.value, c.in_default.is)
    at (c.first_flaw.ensures c.args.has_empty c.args.utf8)

pub returns : goal.returns
returns c = (
  rw (c.deref.ensures.value, c.deref-2.ensures.value, c.in_default.is)
      at (c.first_flaw.ensures c.args.has_empty c.args.utf8),
  refl,
)
