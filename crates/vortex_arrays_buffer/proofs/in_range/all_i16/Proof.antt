use Rattle.vortex_arrays_buffer.proofs.SignedItems.{[], ◌∷◌, refl, w16, proved, k_i16, ftrue, flft, named, vunit, ‵, given, ◌⊛◌, later, ◌$◌, ◌∵◌, !, qed, done, drop, move, keep, split, join, fsplit, fjoin, learn, await, use2, suffices, feq_i, enter, of_opd, unit_lit, returns, alloc_all, pass_all, free_all, look_at, sets, SliceRefOf, i16, yes, plain, ShrSlice, shr_slice_vals, shr_slice_Tells, nothing, Stays, walk_of, says, stay_dropped, Goes-dropped, ends_at, AllWt, shs_known, OwnH, signed, of_16, all_held}
use Rattle.vortex_arrays_buffer.specs.contracts.in_range.all_i16 as f
use Rattle.vortex_arrays_buffer.proofs.in_range.all_i16.Statement.{statement}
use Rattle.vortex_arrays_buffer.proofs.in_range.all_i16.Code as code

abbrev stayed : Stays f.ended.signature.params f.ended.kept
stayed = (stay_dropped _ yes, tt)

pub all_i16_spec : {M : Type 1} → statement M
all_i16_spec 𝓤 𝓛 𝓜 𝓡 wired =
    let c = f.clauses 𝓛 𝓜.mem 𝓡.returns in let W = walk_of 𝓛 f.ended stayed c in
    proved 𝓛 f.ended stayed c 𝓜 𝓡 (Goes-dropped 𝓛 1 (SliceRefOf (0 ∷ []) tt (plain (λ _. i16)) (λ _. tt)) yes (λ κs x w. refl), tt)
    f.Key.name code.function (code.unfolded 𝓤 𝓛.H 𝓜 𝓡 wired)
    (λ κs. (shr_slice_vals, tt)) (λ κs. (shr_slice_Tells (named 0) κs.0 i16, tt)) (λ κs qs bounds a _ are.
    let κ = κs.0 in let q = qs.0 in let s = a.0 in
    let y : W.Ghost = ((κs, qs, bounds, a, (shr_slice_vals s, tt)), tt) in
    qed 𝓛 (((‵ (flft κ q) ⊛ ‵ ftrue) ⊛ ‵ ((ShrSlice (named 0) κ i16).own_val s (shr_slice_vals s)) ⊛ ‵ ftrue) ∷ ‵ ftrue ∷ []) ∵
    split ! $ split ! $ move ! (2 ∷ []) $ split ! $ keep ! (0 ∷ 2 ∷ []) $
    enter ! _ _ _ _ _ $ alloc_all ! (λ l. pass_all ! refl ((tt, (tt, (record { fits = are.0.0.1.0 }, tt))), tt) $
    -- [what the list owns; the token; the locals]
    fsplit ! $ fsplit ! $ drop ! $ fjoin ! $
    use2 𝓛 (later (given (AllWt (signed w16) s.now) (‵ (OwnH 𝓛 (signed w16) κ q s.ref_ptr.0 s.ref_ptr.1 s.now) ⊛ ‵ (flft κ q))))
    (shs_known 𝓛 (signed w16) κ q s.ref_ptr.0 s.ref_ptr.1 s.now) $ await ! tt $ learn ! (λ held. split ! $
    sets ! (of_opd ! (unit_lit !)) refl (tt, tt) $
    returns ! (look_at ! 0 refl) $ free_all ! refl $ drop ! $
    suffices ! _ (ends_at 𝓛 f.ended stayed c y vunit tt (tt, tt) (tt, tt)) $ says ! (all_held k_i16 w16 of_16 s.now held) $
    feq_i ! _ (vunit ∷ []) _ refl $ nothing ! $ nothing ! $ join ! $ move ! (2 ∷ []) $ nothing ! $ move ! (1 ∷ 0 ∷ []) $ join ! $ done !)))
