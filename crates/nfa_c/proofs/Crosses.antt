-- What a slot is made of may move to another thread, if what its box holds may. Assumes nothing.
use Rattle.std.proofs.Common.{[], ◌∷◌}
use mir.Raw.{raw}
use base.Shift.{Keyless}
use denote.RattleType.{RattleType}
use denote.Builtin.{RawPtr}
use denote.Memory.{lone}
use denote.RawPtr.{Ptr}
use denote.Param.Send.{AllSend, IsSend, sendable}
use Rattle.std.specs.Prelude.{None, Option, Some}
use Rattle.std.proofs.Crossing.{frees}
use Rattle.std_alloc.proofs.SendSync.{lies}
use Rattle.nfa_c.specs.Held.{held}

pub pointer : AllSend (RawPtr ∷ [])
pointer = (search sendable, tt)

pub held_keyless : (R : RattleType) → IsSend R → (p : Ptr) (v : Option R.Denot) → Keyless (held R p v)
held_keyless R s p None = tt
held_keyless R s p (Some x) = (lies R s p x, frees.frees _ (raw (lone R.mir)) p)
