-- Steps of the proofs by hand, and what a `Log` and a `CallLog` own.
pub use Rattle.std.proofs.Common.{◌≡◌, List, ℕ, [], ◌∷◌, ◌++◌, refl}
pub use Rattle.std.proofs.raw_atomic.Walks.{proved}
pub use base.Fml.{ftrue}
pub use mir.Val.{Val, vstruct, vnil}
pub use contract.Monad.{fact}
pub use contract.Running.{tables}
pub use types.Kit.{‵, raw, ◌⊛◌, ◌$◌, ◌∵◌, !, qed, done, drop, keep, move, split, join, suffices}
pub use types.Run.{enter, no_more, returns}
pub use types.Part.{agg}
pub use types.ByLocal.{alloc_all, pass_all, free_all, look_at, sets}
pub use denote.Steps.{nothing, owned}
pub use denote.Triple.Entry.{alive, on_entry}
pub use denote.Triple.Walked.{Stays, walk_of, says, stay_dropped, Goes-dropped, ends_at}
use seplogic.Ra.Ura.{Ura}
use types.Logic.{Logic}
use denote.Laws.{Is, Makes}
use denote.Shadow.{makes_shadow}
use Rattle.vortex_table_io.specs.contracts.log.Log.{the_row}
use Rattle.vortex_table_io.specs.declared.log.Log.{Log}
use Rattle.vortex_table_io.specs.contracts.log.CallLog as call_log
use Rattle.vortex_table_io.specs.declared.log.CallLog.{CallLog}

-- A log is zero-sized, so a log of any bytes can be made from nothing.
pub log_Makes : {M : Type 1} {𝓤 : Ura M} (𝓛 : Logic 𝓤) → Makes 𝓛 the_row (Is the_row)
log_Makes 𝓛 log vs p = makes_shadow 𝓛 (the_row.own_val log vs) ((λ _. (tt, tt)), tt) p

-- its representation is that of a struct without fields
abbrev pub log_val : Val
log_val = vstruct vnil

pub log_is : (log : Log) → Is the_row log (log_val ∷ [])
log_is log = ((tt, (refl, tt)), tt)

pub calls_Makes : {M : Type 1} {𝓤 : Ura M} (𝓛 : Logic 𝓤) → Makes 𝓛 call_log.the_row (Is call_log.the_row)
calls_Makes 𝓛 log vs p = makes_shadow 𝓛 (call_log.the_row.own_val log vs) ((λ _. (tt, tt)), tt) p

pub calls_is : (log : CallLog) → Is call_log.the_row log (log_val ∷ [])
calls_is log = ((tt, (refl, tt)), tt)
