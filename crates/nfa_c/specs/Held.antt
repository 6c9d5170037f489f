-- What a slot owns.
use Rattle.std.specs.Prelude.{None, Option, Some}
use mir.Syntax.{Ty}
use base.Fml.{Fml, ftrue}
use denote.RattleType.{RattleType}
use denote.RawPtr.{Ptr}
use Rattle.std.specs.Box.Ownership.{box_owns}
use Rattle.std.specs.contracts.impls.GlobalAllocator.TheImpl as heap

-- the right to free a block of the allocator `Global`
abbrev pub chunk : Ty → Ptr → Fml
chunk = heap.ghosts.dealloc_token (record { memory = record { seal = tt } })

-- a slot owns nothing, or the box of its value
abbrev pub held : (R : RattleType) → Ptr → Option R.Denot → Fml
held R p None = ftrue
held R p (Some x) = box_owns chunk R p x
