use Rattle.vortex_table_io.proofs.Walks.{[], ◌∷◌, refl, proved, ftrue, ‵, raw, ◌$◌, ◌∵◌, !, qed, done, drop, suffices, enter, no_more, returns, agg, alloc_all, pass_all, free_all, look_at, sets, nothing, owned, on_entry, walk_of, says, ends_at, calls_Makes, log_val, calls_is}
use Rattle.vortex_table_io.specs.contracts.log.CallLog.{the_row}
use Rattle.vortex_table_io.specs.declared.log.CallLog.{CallLog}
use Rattle.vortex_table_io.specs.contracts.log.CallLog.new as f
use Rattle.vortex_table_io.proofs.log.CallLog.new.Statement.{statement}
use Rattle.vortex_table_io.proofs.log.CallLog.new.Code as code

-- the log that is made
abbrev empty : CallLog
empty = record { calls = [] }

pub new_spec : {M : Type 1} → statement M
new_spec 𝓤 𝓛 𝓜 𝓡 wired =
    let c = f.clauses 𝓛 𝓜.mem 𝓡.returns in let W = walk_of 𝓛 f.ended tt c in
    proved 𝓛 f.ended tt c 𝓜 𝓡 tt f.Key.name code.function (code.unfolded 𝓤 𝓛.H 𝓜 𝓡 wired) (λ κs. tt) (λ κs. tt) (λ κs qs bounds a _ are.
    let y : W.Ghost = ((κs, qs, bounds, a, tt), tt) in
    qed 𝓛 (raw (on_entry 𝓛 f.signature κs qs a tt) ∷ ‵ ftrue ∷ []) ∵ drop ! $ drop ! $
    enter ! _ _ _ _ _ $ alloc_all ! (λ l. pass_all ! refl tt $
    sets ! (agg ! (no_more !)) refl (tt, tt) $
    returns ! (look_at ! 0 refl) $ free_all ! refl $
    suffices ! _ (ends_at 𝓛 f.ended tt c y log_val empty tt tt) $ says ! refl $
    owned ! the_row _ (calls_Makes 𝓛) empty (log_val ∷ []) (calls_is empty) $ nothing ! $ nothing ! $ done !))
