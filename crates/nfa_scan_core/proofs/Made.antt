-- A counter has no bytes and owns nothing, so a counter of any count can be made. The names that the proofs of these
-- functions cite are passed on from here.
pub use Rattle.std.proofs.Common.{ℕ, ◌+◌, [], ◌∷◌, refl}
pub use Rattle.std.proofs.raw_atomic.Walks.{proved}
use seplogic.Ra.Ura.{Ura}
pub use mir.Syntax.{named}
pub use mir.Val.{Val, vptr}
use mir.Val.{vstruct, vnil}
use base.Logic.{ent, emp}
pub use contract.Running.{tables}
use types.Logic.{Logic, sem}
pub use types.Kit.{‵, raw, ◌⊛◌, ◌$◌, ◌∵◌, !, qed, move, keep, use0, split, suffices, join, done}
pub use types.Part.{agg}
pub use types.Run.{enter, no_more, returns}
pub use types.ByLocal.{alloc_all, pass_all, free_all, look_at, sets}
pub use denote.Builtin.{RefOf}
pub use denote.Exit.{yes}
pub use denote.RattleType.{owns}
pub use denote.Ref.{shr_vals, shr_Tells}
use denote.Shadow.{makes_shadow}
pub use denote.Signature.{plain, types_at}
pub use denote.Steps.{nothing}
pub use denote.Triple.Entry.{alive, on_entry}
pub use denote.Triple.Walked.{Stays, says, stay_dropped, Goes-dropped, ends_at}
pub use Rattle.nfa_scan_core.specs.contracts.counter.Counter.{the_row}

abbrev pub bytes : Val
bytes = vstruct vnil

pub made : {M : Type 1} {𝓤 : Ura M} (𝓛 : Logic 𝓤) (n : ℕ) → ent 𝓤 (emp 𝓤) (sem 𝓛 (the_row.own_val n (bytes ∷ [])))
made 𝓛 n =
    makes_shadow 𝓛 (the_row.own_val n (bytes ∷ [])) (λ a. (((λ vss. (tt, tt)), tt), tt))
    ((record { count = n }, (refl, tt)), (((tt, (refl, tt)), tt), tt))
