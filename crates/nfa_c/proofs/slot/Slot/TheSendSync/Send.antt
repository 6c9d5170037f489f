-- A slot owns its box alone, so it may move to another thread.
use denote.Param.Send.{IsSend, owning_send, struct_send}
use denote.Struct.Owning.{fields, shape, to}
use denote.Struct.Struct.{exits_of}
use Rattle.std_alloc.proofs.SendSync.{quiet}
use Rattle.nfa_c.proofs.Crosses.{held_keyless, pointer}
use Rattle.nfa_c.proofs.handle.Compiled.TheSendSync.{the_send}
use Rattle.nfa_c.specs.contracts.handle.Compiled as compiled
use Rattle.nfa_c.specs.contracts.slot.Slot.{the_row, the_type}

pub send : IsSend the_row
send = owning_send the_type pointer (λ d. held_keyless compiled.the_row the_send d.at d.value)
    (λ k. quiet (to the_type) (exits_of k (fields the_type)) ((struct_send (shape the_type) pointer).leaving k))
