-- Each integer of a shared list of a signed type is within the type, by what the list owns. No code
-- reads it. For unsigned types the checker shows it.
pub use Rattle.std.proofs.Common.{[], ◌∷◌, refl, w8, w16, w32, w64}
pub use Rattle.std.proofs.raw_atomic.Walks.{proved}
pub use Rattle.vortex_model.specs.LogicalType.{i8 as k_i8, i16 as k_i16, i32 as k_i32, i64 as k_i64}
pub use base.Fml.{ftrue, flft}
pub use mir.Syntax.{named}
pub use mir.Val.{vunit}
pub use types.Kit.{‵, given, ◌⊛◌, later, ◌$◌, ◌∵◌, !, qed, done, drop, move, keep, split, join, fsplit, fjoin, learn, await, use2, suffices, feq_i}
pub use types.Run.{enter, of_opd, unit_lit, returns}
pub use types.ByLocal.{alloc_all, pass_all, free_all, look_at, sets}
pub use denote.Builtin.{SliceRefOf, i8, i16, i32, i64}
pub use denote.Exit.{yes}
pub use denote.Signature.{plain}
pub use denote.Slice.{ShrSlice, shr_slice_vals, shr_slice_Tells}
pub use denote.Steps.{nothing}
pub use denote.Triple.Walked.{Stays, walk_of, says, stay_dropped, Goes-dropped, ends_at}
pub use borrow.Rule.Slice.Know.{AllWt, shs_known}
pub use borrow.Rule.Slice.Shared.{OwnH}
use Rattle.std.proofs.Common.{◌≡◌, ℕ, zero, suc, ℤ, pos, negsuc, ◌<◌, ◌^◌, Bool, true, false, cond, List, sym, ap, ◌∙◌, subst, arith}
use Rattle.std.specs.List.{All}
use Rattle.std.proofs.lemmas.Int.{ints}
use Rattle.vortex_model.specs.LogicalType.{IntKind}
use Rattle.vortex_model.specs.Valid.{InRange}
use seplogic.Ra.Ura.{Ura}
use lib.Dec.{T, ltb, lt→ltb, ltb→lt}
use lib.Signed.{mag}
use mir.Syntax.{Width, ty_int}
use mir.Val.{Val, vint, Fits, bits, hbits, of_z, to_z}
use mir.ValLaws.{of_z_fits, eq_w_refl}
use base.Logic.{guard}
use base.Stored.{coded_ℤ}
use base.Fml.{fsep, feq, flt}
use types.Logic.{Logic, sem}
use types.Kit.{check, feq_l, flt_l, flt_i}
use denote.Signed.{sint_copy}
use borrow.Table.Row.{nv}
use borrow.Table.Referent.{Referent, Facts, Laws, Rf}

-- the bits of an integer of the width, and too large a number for any other integer
abbrev coded : Width → ℤ → ℕ
coded w z = cond (ltb (mag z) (2 ^ hbits w)) (of_z w z) (2 ^ bits w)

at_true : {X : Type 0} (b : Bool) (x y : X) → T b → cond b x y ≡ x
at_true true x y t = refl
at_true false x y t = absurd t

is_coded : (b : Bool) (w : Width) (n : ℕ) → Fits w (cond b n (2 ^ bits w)) → T b
is_coded true w n f = tt
is_coded false w n f = absurd (omega (arith, f.fits))

coded_of_z : (w : Width) (z : ℤ) → mag z < 2 ^ hbits w → coded w z ≡ of_z w z
coded_of_z w z l = at_true (ltb (mag z) (2 ^ hbits w)) (of_z w z) (2 ^ bits w) (lt→ltb _ _ l)

-- a signed integer as what a reference may point at
abbrev referent : Width → Referent
referent w = record {
  Den = ℤ;
  coded = coded_ℤ;
  ty = ty_int w;
  val = λ z. vint w (coded w z);
  IsAt = λ z vs. (vs ≡ vint w (coded w z) ∷ []) × (mag z < 2 ^ hbits w);
  own_val = λ z vs. fsep (feq (List Val) vs (vint w (of_z w z) ∷ [])) (flt (mag z) (2 ^ hbits w));
  pure = λ z vs. (tt, tt);
  ownᵒ = λ z. flt (mag z) (2 ^ hbits w);
  of_val = λ v. to_z w (nv v);
}

pub referent_facts : (w : Width) → Facts (referent w)
referent_facts w = record {
  only = λ z vs g. g.0;
  tells = λ z vs p. p.0 ∙ ap (λ n. vint w n ∷ []) (sym (coded_of_z w z p.1));
  typed = λ z. eq_w_refl w;
  wt_is = λ z g. subst (Fits w) (sym (coded_of_z w z g.1)) (of_z_fits w z (record { sfits = g.1 }));
}

module _ {M : Type 1} {𝓤 : Ura M} (𝓛 : Logic 𝓤) where
  pub referent_laws : (w : Width) → Laws 𝓛 (referent w)
  referent_laws w = record {
    copy = sint_copy 𝓛 w;
    own_old = λ z vs. qed 𝓛 (‵ ((referent w).own_val z vs) ∷ []) {P = guard 𝓤 ((referent w).IsAt z vs) (sem 𝓛 ((referent w).ownᵒ z))}
        (fsplit ! $ feq_l ! (λ e. flt_l ! (λ l. check ! (e ∙ ap (λ n. vint w n ∷ []) (sym (coded_of_z w z l)), l) $ flt_i ! (mag z) (2 ^ hbits w) l $ done !)));
    own_new = λ z. qed 𝓛 (‵ ((referent w).ownᵒ z) ∷ []) {P = sem 𝓛 ((referent w).own_val z (vint w (coded w z) ∷ []))}
        (flt_l ! (λ l. flt_i ! (mag z) (2 ^ hbits w) l $ feq_i ! (List Val) (vint w (coded w z) ∷ []) (vint w (of_z w z) ∷ []) (ap (λ n. vint w n ∷ []) (coded_of_z w z l)) $ fjoin ! $ done !));
    own_wtᵒ = λ z wt. qed 𝓛 [] {P = sem 𝓛 ((referent w).ownᵒ z)} (flt_i ! (mag z) (2 ^ hbits w) (ltb→lt _ _ (is_coded (ltb (mag z) (2 ^ hbits w)) w (of_z w z) wt)) $ done !);
  }

abbrev pub signed : Width → Rf
signed w = record { is = referent w; facts = referent_facts w; laws = λ M 𝓤 𝓛. referent_laws 𝓛 w }

-- the width has just the integers of the type
abbrev pub IsOfWidth : IntKind → Width → Type 0
IsOfWidth i w = (z : ℤ) → mag z < 2 ^ hbits w → InRange i z

pub of_8 : IsOfWidth k_i8 w8
of_8 (pos n) l = record { from = grind (arith, ints); to = grind (arith, ints) }
of_8 (negsuc n) l = record { from = grind (arith, ints); to = grind (arith, ints) }

pub of_16 : IsOfWidth k_i16 w16
of_16 (pos n) l = record { from = grind (arith, ints); to = grind (arith, ints) }
of_16 (negsuc n) l = record { from = grind (arith, ints); to = grind (arith, ints) }

pub of_32 : IsOfWidth k_i32 w32
of_32 (pos n) l = record { from = grind (arith, ints); to = grind (arith, ints) }
of_32 (negsuc n) l = record { from = grind (arith, ints); to = grind (arith, ints) }

pub of_64 : IsOfWidth k_i64 w64
of_64 (pos n) l = record { from = grind (arith, ints); to = grind (arith, ints) }
of_64 (negsuc n) l = record { from = grind (arith, ints); to = grind (arith, ints) }

-- so each integer of the list is within the type
pub all_held : (i : IntKind) (w : Width) → IsOfWidth i w → (zs : List ℤ) → AllWt (signed w) zs → All (InRange i) zs
all_held i w p [] a k d l = absurd (omega arith)
all_held i w p (z ∷ zs) a zero d l = p z (ltb→lt _ _ (is_coded (ltb (mag z) (2 ^ hbits w)) w (of_z w z) a.0))
all_held i w p (z ∷ zs) a (suc k) d l = all_held i w p zs a.1 k d (omega arith)
