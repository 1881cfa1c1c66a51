use Rattle.vortex_table_io.proofs.Walks.{[], ◌∷◌, ◌++◌, refl, proved, ftrue, ‵, raw, ◌⊛◌, ◌$◌, ◌∵◌, !, qed, done, keep, move, split, join, suffices, enter, no_more, returns, agg, alloc_all, pass_all, free_all, look_at, sets, nothing, owned, alive, Stays, walk_of, says, stay_dropped, Goes-dropped, ends_at, log_Makes, log_val, log_is}
use mir.Syntax.{named}
use contract.Lifetimes.{Lfts}
use denote.Exit.{yes}
use denote.RattleType.{RattleType, owns}
use denote.Ref.{shr_vals, shr_Tells}
use denote.Signature.{Slot, plain, named_lft, shr_ref_to, types_at}
use Rattle.vortex_table_io.specs.contracts.log.Log.{the_row}
use Rattle.vortex_table_io.specs.contracts.log.Piece as piece
use Rattle.vortex_table_io.specs.declared.log.Log.{Log}
use Rattle.vortex_table_io.specs.contracts.log.Log.then as f
use Rattle.vortex_table_io.proofs.log.Log.then.Statement.{statement}
use Rattle.vortex_table_io.proofs.log.Log.then.Code as code

abbrev piece_row : Lfts 3 → RattleType
piece_row κs = piece.the_row (named_lft 3 2 tt κs)

-- the parameters
abbrev self_slot : Slot 3
self_slot = shr_ref_to (0 ∷ []) tt (plain (λ _. the_row))

abbrev piece_slot : Slot 3
piece_slot = shr_ref_to (1 ∷ []) tt (plain piece_row)

-- nothing is kept of the two references
abbrev stayed : Stays f.ended.signature.params f.ended.kept
stayed = (stay_dropped _ yes, (stay_dropped _ yes, tt))

pub then_spec : {M : Type 1} → statement M
then_spec 𝓤 𝓛 𝓜 𝓡 wired =
    let c = f.clauses 𝓛 𝓜.mem 𝓡.returns in let W = walk_of 𝓛 f.ended stayed c in
    proved 𝓛 f.ended stayed c 𝓜 𝓡 (Goes-dropped 𝓛 3 self_slot yes (λ κs x w. refl), (Goes-dropped 𝓛 3 piece_slot yes (λ κs x w. refl), tt))
    f.Key.name code.function (code.unfolded 𝓤 𝓛.H 𝓜 𝓡 wired)
    (λ κs. (shr_vals, (shr_vals, tt))) (λ κs. (shr_Tells (named 0) κs.0 the_row, (shr_Tells (named 1) κs.1.0 (piece_row κs), tt))) (λ κs qs bounds a _ are.
    let y : W.Ghost = ((κs, qs, bounds, a, (shr_vals a.0, (shr_vals a.1.0, tt))), tt) in
    let longer : Log = record { bytes = a.0.now.bytes ++ a.1.0.now.bytes.now } in
    qed 𝓛 ((raw (alive 𝓛 f.signature κs qs) ⊛ ‵ (owns (types_at f.signature.params κs) a y.0.4)) ∷ ‵ ftrue ∷ []) ∵
    split ! $ keep ! (0 ∷ []) $
    enter ! _ _ _ _ _ $ alloc_all ! (λ l. pass_all ! refl ((tt, tt), ((tt, tt), tt)) $
    sets ! (agg ! (no_more !)) refl (tt, tt) $
    returns ! (look_at ! 0 refl) $ free_all ! refl $
    -- [the tokens]
    suffices ! _ (ends_at 𝓛 f.ended stayed c y log_val longer (tt, (tt, tt)) (tt, (tt, tt))) $ says ! refl $
    owned ! the_row _ (log_Makes 𝓛) longer (log_val ∷ []) (log_is longer) $
    nothing ! $ nothing ! $ join ! $ nothing ! $ join ! $ move ! (2 ∷ 0 ∷ 1 ∷ []) $ done !))
