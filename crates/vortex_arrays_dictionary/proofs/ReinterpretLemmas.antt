-- Integers reinterpreted in another type.
use Rattle.std.proofs.Common.{◌≡◌, ◌<◌, ◌-◌, ◌^◌, ◌+ℤ◌, ◌-ℤ◌, ℕ, zero, suc, ℤ, pos, List, [], ◌∷◌, Option, None, Result, Ok, Err, IfOk, Vec, length, map, get_or, refl, sym, ap, subst, ◌∙◌, arith}
use Rattle.std.specs.Fn.{Called}
use Rattle.std.specs.Iterator.{Yields, AlwaysYields}
use Rattle.std.specs.Iterator.Adapters.{map_source, map_callee}
use Rattle.std.specs.Vec.{vec_items}
use Rattle.std.specs.declared.iter.Map.{Map}
use denote.Param.Members.{Mut}
use Rattle.std.proofs.lemmas.Int.{ints}
use Rattle.std.proofs.lemmas.Iterator.{YieldsList, IsCollectResult, maps}
use Rattle.vortex_model.specs.LogicalType.{IntKind}
use Rattle.vortex_model.specs.Valid.{least_number, greatest_number}
use Rattle.vortex_dtype_ptype.specs.Numbers.{NumberKind, integral, reach_of, HasByteWidth}
use Rattle.vortex_scalar_value.specs.Numbers.{HaveSameBytes}
use Rattle.vortex_scalar_value.proofs.Widths.{at_most_eight}
use Rattle.vortex_arrays_model.specs.Layout.{Layout, numbers, Valid, IsSound, HasLength}
use Rattle.vortex_arrays_model.specs.Parts.{valid_in}
use Rattle.vortex_arrays_leaf.specs.Shapes.{IsNumbers, type_in, integers_in}
use Rattle.vortex_arrays_dictionary.specs.Reinterpreted.{AreReinterpreted, IsReinterpreted}

-- types of the same range have the same width
wide : (l g m h : ℤ) (w : ℕ) → g -ℤ l ≡ h -ℤ m → g ≡ l +ℤ pos w → h ≡ m +ℤ pos w
wide l g m h w e f = omega (arith, ints, e, f)

pub as_wide : (i j : IntKind) (w : ℕ) → reach_of i ≡ reach_of j → HasByteWidth (integral i) w → HasByteWidth (integral j) w
as_wide i j w e h = wide (least_number i) (greatest_number i) (least_number j) (greatest_number j) (256 ^ w - 1) e h

pub ruleset item = (as_wide, at_most_eight)

-- items related one by one
abbrev pub Pairs : {B R : Type 0} → (B → R → Type 0) → List B → List R → Type 0
Pairs Q [] [] = Unit {0}
Pairs Q (y ∷ ys) (r ∷ rs) = Q y r × Pairs Q ys rs
Pairs Q ys rs = ⊥

module _ {S A B F R : Type 0} (steps : S → Option A → S → Type 0) (v : A → B) (g : Mut F (A × Unit {0}) R) (Q : B → R → Type 0) (f : F) (called : (x : A) (r : R) (q : F) → Called g f (x, tt) r q → (q ≡ f) × Q (v x) r) where
  paired : (ys : List B) (s : Map S F) (rs : List R) (t u : Map S F) → map_callee s ≡ f → AlwaysYields steps v (map_source s) ys → Yields (maps steps g) s rs t → maps steps g t None u → Pairs Q ys rs
  paired [] s [] t u a e y p = tt
  paired [] s (r ∷ rs) t u a e y p = absurd (e y.1.0 (map_source y.0) y.1.1)
  paired (z ∷ ys) s [] t u a e y p = absurd (e.0 (map_source u) (subst (λ k. maps steps g k None u) (sym y) p).0)
  paired (z ∷ ys) s (r ∷ rs) t u a e y p =
      let m = called y.1.0 r (map_callee y.0) (subst (λ w. Called g w (y.1.0, tt) r (map_callee y.0)) a y.1.2) in
      let n = e.1 y.1.0 (map_source y.0) y.1.1 in
      (subst (λ b. Q b r) n.0 m.1, paired ys y.0 rs t u m.0 n.1 y.2 p)

pub collected : {S A B F R Z E : Type 0} {steps : S → Option A → S → Type 0} {v : A → B} {ys : List B} {s : Map S F} {g : Mut F (A × Unit {0}) R} (Q : B → R → Type 0) {f : F} (r : Result (Vec R Z) E) → IsCollectResult (maps steps g) s r → YieldsList steps v (map_source s) ys → map_callee s ≡ f → ((x : A) (r : R) (q : F) → Called g f (x, tt) r q → (q ≡ f) × Q (v x) r) → IfOk r (λ w. Pairs Q ys (vec_items w))
collected {S} {A} {B} {F} {R} {Z} {E} {steps} {v} {ys} {s} {g} Q {f} (Ok w) d e a k =
    let end = d.1.2 tt in
    subst (Pairs Q ys) (sym d.2.0) (paired steps v g Q f k ys s d.0 d.1.0 end.0 a e.runs d.1.1 end.1)
collected Q (Err x) d e a k = tt

pub all_reinterpreted : {X Y : Type 0} (i j : IntKind) (p : X → ℤ) (q : Y → ℤ) (xs : List X) (ys : List Y) → Pairs (λ x y. HaveSameBytes i (p x) j (q y)) xs ys → AreReinterpreted i (map p xs) j (map q ys)
all_reinterpreted i j p q [] [] h = record { many = refl; each = λ n l. absurd (omega (arith, l)) }
all_reinterpreted i j p q [] (y ∷ ys) h = absurd h
all_reinterpreted i j p q (x ∷ xs) [] h = absurd h
all_reinterpreted i j p q (x ∷ xs) (y ∷ ys) h =
    let below = all_reinterpreted i j p q xs ys h.1 in
    record { many = ap suc below.many; each = each_from i j (p x) (q y) (map p xs) (map q ys) h.0 below }
  where
    each_from : (i j : IntKind) (a b : ℤ) (ms ns : List ℤ) → HaveSameBytes i a j b → AreReinterpreted i ms j ns → (n : ℕ) → n < length (a ∷ ms) → HaveSameBytes i (get_or (a ∷ ms) n (pos 0)) j (get_or (b ∷ ns) n (pos 0))
    each_from i j a b ms ns e r zero l = e
    each_from i j a b ms ns e r (suc n) l = r.each n (omega (arith, l))

-- the array
pub reinterpreted : (a r : Layout) (p : NumberKind) (k j : IntKind) (zs ws : List ℤ) (v : Valid) → k ≡ type_in a → zs ≡ integers_in a → v ≡ valid_in a → integral j ≡ p → AreReinterpreted k zs j ws → r ≡ numbers j ws v → IsReinterpreted a p r
reinterpreted a r p k j zs ws v e f g q h made = rw made (record {
  kind = q;
  nulls = g;
  bytes = subst (λ i. AreReinterpreted i (integers_in a) j ws) e (subst (λ ys. AreReinterpreted k ys j ws) f h);
})

pub fits : (a : Layout) (k j : IntKind) (zs ws : List ℤ) (v : Valid) → IsNumbers a → IsSound a → zs ≡ integers_in a → v ≡ valid_in a → AreReinterpreted k zs j ws → HasLength v (length ws)
fits (numbers i ys w) k j zs ws v h s f g b = subst (λ u. HasLength u (length ws)) (sym g) (subst (HasLength w) (sym (b.many ∙ ap length f)) s.1)
fits a k j zs ws v h s f g b = absurd h

pub ruleset made = (reinterpreted, fits)
