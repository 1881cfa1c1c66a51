-- The narrowest type of a signedness that has two integers, and the array of that type.
use Rattle.std.proofs.Common.{◌≡◌, ◌<◌, ◌≤ℤ◌, ◌<ℤ◌, ◌⊎◌, ℕ, ℤ, pos, negsuc, Bool, true, false, cond, List, length, map, get_or, refl, sym, ap, subst, ◌∙◌, arith}
use Rattle.std.specs.List.{All}
use Rattle.std.proofs.lemmas.Int.{ints}
use Rattle.std.proofs.lemmas.List.{length-map, get_or-map}
use Rattle.vortex_model.specs.LogicalType.{IntKind, u8, u16, u32, u64, i8, i16, i32, i64}
use Rattle.vortex_model.specs.Valid.{InRange, in_range}
use Rattle.vortex_model.specs.Content.{null, integer}
use Rattle.vortex_model.proofs.Passes.{range_passes}
use Rattle.vortex_dtype_ptype.specs.Numbers.{NumberKind, integral, floating, is_natural, is_unsigned, reach_of, Has}
use Rattle.vortex_arrays_model.specs.Layout.{Layout, numbers, Valid, is_valid, rows_of, IsSound, HasLength}
use Rattle.vortex_arrays_model.specs.Parts.{valid_in}
use Rattle.vortex_arrays_leaf.specs.Shapes.{IsNumbers, type_in, integers_in}
use Rattle.vortex_arrays_model.proofs.RowsLemmas.{row_at_position, row_count, rows_by_position}
use Rattle.vortex_arrays_dictionary.specs.Narrowed.{AreExtremes, HoldsBothNarrowly, IsNarrowKind, IsNarrowestOf, IsNarrowed, held_or_zero}

-- a narrower unsigned type does not have the greatest
reach-u8 : (j : IntKind) → is_natural j ≡ true → reach_of u8 ≤ℤ reach_of j
reach-u8 u8 s = omega (arith, ints)
reach-u8 u16 s = omega (arith, ints)
reach-u8 u32 s = omega (arith, ints)
reach-u8 u64 s = omega (arith, ints)
reach-u8 i8 s = cc
reach-u8 i16 s = cc
reach-u8 i32 s = cc
reach-u8 i64 s = cc

reach-u16 : (y : ℤ) → pos 255 <ℤ y → (j : IntKind) → is_natural j ≡ true → InRange j y → reach_of u16 ≤ℤ reach_of j
reach-u16 y a u8 s h = let t = h.to in omega (arith, ints, t)
reach-u16 y a u16 s h = omega (arith, ints)
reach-u16 y a u32 s h = omega (arith, ints)
reach-u16 y a u64 s h = omega (arith, ints)
reach-u16 y a i8 s h = cc
reach-u16 y a i16 s h = cc
reach-u16 y a i32 s h = cc
reach-u16 y a i64 s h = cc

reach-u32 : (y : ℤ) → pos 65535 <ℤ y → (j : IntKind) → is_natural j ≡ true → InRange j y → reach_of u32 ≤ℤ reach_of j
reach-u32 y a u8 s h = let t = h.to in omega (arith, ints, t)
reach-u32 y a u16 s h = let t = h.to in omega (arith, ints, t)
reach-u32 y a u32 s h = omega (arith, ints)
reach-u32 y a u64 s h = omega (arith, ints)
reach-u32 y a i8 s h = cc
reach-u32 y a i16 s h = cc
reach-u32 y a i32 s h = cc
reach-u32 y a i64 s h = cc

reach-u64 : (y : ℤ) → pos 4294967295 <ℤ y → (j : IntKind) → is_natural j ≡ true → InRange j y → reach_of u64 ≤ℤ reach_of j
reach-u64 y a u8 s h = let t = h.to in omega (arith, ints, t)
reach-u64 y a u16 s h = let t = h.to in omega (arith, ints, t)
reach-u64 y a u32 s h = let t = h.to in omega (arith, ints, t)
reach-u64 y a u64 s h = omega (arith, ints)
reach-u64 y a i8 s h = cc
reach-u64 y a i16 s h = cc
reach-u64 y a i32 s h = cc
reach-u64 y a i64 s h = cc

within : (k : IntKind) (x y : ℤ) → x ≤ℤ pos 0 → InRange u64 x → InRange k (pos 0) → InRange k x
within k x y l h z = subst (InRange k) (let f = h.from in omega (arith, ints, f, l)) z

pub narrow_u8 : (x y : ℤ) → x ≤ℤ pos 0 → pos 0 ≤ℤ y → InRange u64 x → y ≤ℤ pos 255 → HoldsBothNarrowly true x y u8
narrow_u8 x y l g h b = record { sign = refl; first = (let f = h.from in record { from = f; to = omega (arith, ints, l) }); second = record { from = g; to = b }; narrow = λ j s p q. reach-u8 j s }

pub narrow_u16 : (x y : ℤ) → x ≤ℤ pos 0 → pos 0 ≤ℤ y → InRange u64 x → pos 255 <ℤ y → y ≤ℤ pos 65535 → HoldsBothNarrowly true x y u16
narrow_u16 x y l g h a b = record { sign = refl; first = (let f = h.from in record { from = f; to = omega (arith, ints, l) }); second = record { from = g; to = b }; narrow = λ j s p q. reach-u16 y a j s q }

pub narrow_u32 : (x y : ℤ) → x ≤ℤ pos 0 → pos 0 ≤ℤ y → InRange u64 x → pos 65535 <ℤ y → y ≤ℤ pos 4294967295 → HoldsBothNarrowly true x y u32
narrow_u32 x y l g h a b = record { sign = refl; first = (let f = h.from in record { from = f; to = omega (arith, ints, l) }); second = record { from = g; to = b }; narrow = λ j s p q. reach-u32 y a j s q }

pub narrow_u64 : (x y : ℤ) → InRange u64 x → InRange u64 y → pos 4294967295 <ℤ y → HoldsBothNarrowly true x y u64
narrow_u64 x y h k a = record { sign = refl; first = h; second = k; narrow = λ j s p q. reach-u64 y a j s q }

pub ruleset unsigned = (narrow_u8, narrow_u16, narrow_u32, narrow_u64)

-- and a narrower signed type does not have both
reach-i8 : (j : IntKind) → is_natural j ≡ false → reach_of i8 ≤ℤ reach_of j
reach-i8 u8 s = cc
reach-i8 u16 s = cc
reach-i8 u32 s = cc
reach-i8 u64 s = cc
reach-i8 i8 s = omega (arith, ints)
reach-i8 i16 s = omega (arith, ints)
reach-i8 i32 s = omega (arith, ints)
reach-i8 i64 s = omega (arith, ints)

reach-i16 : (x y : ℤ) → (x <ℤ negsuc 127) ⊎ (pos 127 <ℤ y) → (j : IntKind) → is_natural j ≡ false → InRange j x → InRange j y → reach_of i16 ≤ℤ reach_of j
reach-i16 x y a u8 s p q = cc
reach-i16 x y a u16 s p q = cc
reach-i16 x y a u32 s p q = cc
reach-i16 x y a u64 s p q = cc
reach-i16 x y a i8 s p q = let f = p.from in let t = q.to in omega (arith, ints, f, t)
reach-i16 x y a i16 s p q = omega (arith, ints)
reach-i16 x y a i32 s p q = omega (arith, ints)
reach-i16 x y a i64 s p q = omega (arith, ints)

reach-i32 : (x y : ℤ) → (x <ℤ negsuc 32767) ⊎ (pos 32767 <ℤ y) → (j : IntKind) → is_natural j ≡ false → InRange j x → InRange j y → reach_of i32 ≤ℤ reach_of j
reach-i32 x y a u8 s p q = cc
reach-i32 x y a u16 s p q = cc
reach-i32 x y a u32 s p q = cc
reach-i32 x y a u64 s p q = cc
reach-i32 x y a i8 s p q = let f = p.from in let t = q.to in omega (arith, ints, f, t)
reach-i32 x y a i16 s p q = let f = p.from in let t = q.to in omega (arith, ints, f, t)
reach-i32 x y a i32 s p q = omega (arith, ints)
reach-i32 x y a i64 s p q = omega (arith, ints)

reach-i64 : (x y : ℤ) → (x <ℤ negsuc 2147483647) ⊎ (pos 2147483647 <ℤ y) → (j : IntKind) → is_natural j ≡ false → InRange j x → InRange j y → reach_of i64 ≤ℤ reach_of j
reach-i64 x y a u8 s p q = cc
reach-i64 x y a u16 s p q = cc
reach-i64 x y a u32 s p q = cc
reach-i64 x y a u64 s p q = cc
reach-i64 x y a i8 s p q = let f = p.from in let t = q.to in omega (arith, ints, f, t)
reach-i64 x y a i16 s p q = let f = p.from in let t = q.to in omega (arith, ints, f, t)
reach-i64 x y a i32 s p q = let f = p.from in let t = q.to in omega (arith, ints, f, t)
reach-i64 x y a i64 s p q = omega (arith, ints)

pub narrow_i8 : (x y : ℤ) → x ≤ℤ pos 0 → pos 0 ≤ℤ y → negsuc 127 ≤ℤ x → y ≤ℤ pos 127 → HoldsBothNarrowly false x y i8
narrow_i8 x y l g f t = record { sign = refl; first = record { from = f; to = omega (arith, ints, l) }; second = record { from = omega (arith, ints, g); to = t }; narrow = λ j s p q. reach-i8 j s }

pub narrow_i16 : (x y : ℤ) → x ≤ℤ pos 0 → pos 0 ≤ℤ y → (x <ℤ negsuc 127) ⊎ (pos 127 <ℤ y) → negsuc 32767 ≤ℤ x → y ≤ℤ pos 32767 → HoldsBothNarrowly false x y i16
narrow_i16 x y l g a f t = record { sign = refl; first = record { from = f; to = omega (arith, ints, l) }; second = record { from = omega (arith, ints, g); to = t }; narrow = λ j s p q. reach-i16 x y a j s p q }

pub narrow_i32 : (x y : ℤ) → x ≤ℤ pos 0 → pos 0 ≤ℤ y → (x <ℤ negsuc 32767) ⊎ (pos 32767 <ℤ y) → negsuc 2147483647 ≤ℤ x → y ≤ℤ pos 2147483647 → HoldsBothNarrowly false x y i32
narrow_i32 x y l g a f t = record { sign = refl; first = record { from = f; to = omega (arith, ints, l) }; second = record { from = omega (arith, ints, g); to = t }; narrow = λ j s p q. reach-i32 x y a j s p q }

pub narrow_i64 : (x y : ℤ) → InRange i64 x → InRange i64 y → (x <ℤ negsuc 2147483647) ⊎ (pos 2147483647 <ℤ y) → HoldsBothNarrowly false x y i64
narrow_i64 x y h k a = record { sign = refl; first = h; second = k; narrow = λ j s p q. reach-i64 x y a j s p q }

pub ruleset signed = (narrow_i8, narrow_i16, narrow_i32, narrow_i64)

-- the widest type of a signedness has all integers of types of that signedness
pub in_u64 : (k : NumberKind) (z : ℤ) → is_unsigned k ≡ true → Has k z → InRange u64 z
in_u64 (integral u8) z s h = record { from = h.from; to = (let t = h.to in omega (arith, ints, t)) }
in_u64 (integral u16) z s h = record { from = h.from; to = (let t = h.to in omega (arith, ints, t)) }
in_u64 (integral u32) z s h = record { from = h.from; to = (let t = h.to in omega (arith, ints, t)) }
in_u64 (integral u64) z s h = h
in_u64 (integral i8) z s h = cc
in_u64 (integral i16) z s h = cc
in_u64 (integral i32) z s h = cc
in_u64 (integral i64) z s h = cc
in_u64 (floating f) z s h = absurd h

pub in_i64 : (k : NumberKind) (z : ℤ) → is_unsigned k ≡ false → Has k z → InRange i64 z
in_i64 (integral u8) z s h = cc
in_i64 (integral u16) z s h = cc
in_i64 (integral u32) z s h = cc
in_i64 (integral u64) z s h = cc
in_i64 (integral i8) z s h = (let f = h.from in let t = h.to in record { from = omega (arith, ints, f); to = omega (arith, ints, t) })
in_i64 (integral i16) z s h = (let f = h.from in let t = h.to in record { from = omega (arith, ints, f); to = omega (arith, ints, t) })
in_i64 (integral i32) z s h = (let f = h.from in let t = h.to in record { from = omega (arith, ints, f); to = omega (arith, ints, t) })
in_i64 (integral i64) z s h = h
in_i64 (floating f) z s h = absurd h

pub of_sign : (j k : NumberKind) (x y z : ℤ) (b : Bool) → is_unsigned j ≡ b → Has j z → IsNarrowKind b x y k → IsNarrowestOf j x y k
of_sign (integral i) k x y z b e h n = subst (λ s. IsNarrowKind s x y k) (sym e) n
of_sign (floating f) k x y z b e h n = absurd h

pub ruleset widened = (in_u64, in_i64, of_sign)

-- the type of an array has the extremes of its integers
pub extremes_held : (k : IntKind) (counts : ℕ → Bool) (zs : List ℤ) (x y : ℤ) → All (InRange k) zs → AreExtremes counts zs (length zs) x y → InRange k x × InRange k y
extremes_held k counts zs x y h e = e.held k (λ i l c. h i (pos 0) l)

-- an array of the narrowest type
pub narrow_already : (a r : Layout) (k : IntKind) (zs : List ℤ) (v : Valid) (x y : ℤ) → a ≡ numbers k zs v → r ≡ a → AreExtremes (is_valid v) zs (length zs) x y → HoldsBothNarrowly (is_natural k) x y k → IsNarrowed a r
narrow_already a r k zs v x y e same h n =
    rw (same, e) (record {
      rows = refl;
      nulls = refl;
      sign = refl;
      narrow = λ j s held. let p = h.held j held in n.narrow j s p.0 p.1;
    })

held_there : (j : IntKind) (z : ℤ) → in_range j z ≡ true → held_or_zero j z ≡ z
held_there j z e = ap (λ b. cond b z (pos 0)) e

-- a row is unchanged in a type that has it
row_cast : (b : Bool) (j : IntKind) (z w : ℤ) → w ≡ held_or_zero j z → (b ≡ true → InRange j z) → cond b (integer w) null ≡ cond b (integer z) null
row_cast true j z w e h = ap (λ u. cond true (integer u) null) (e ∙ held_there j z (range_passes j z (h refl)))
row_cast false j z w e h = refl

-- an array cast to the narrowest type
pub narrow_cast : (a r : Layout) (k j : IntKind) (zs ws : List ℤ) (v : Valid) (x y : ℤ) → a ≡ numbers k zs v → r ≡ numbers j ws v → ws ≡ map (held_or_zero j) zs → AreExtremes (is_valid v) zs (length zs) x y → HoldsBothNarrowly (is_natural k) x y j → IsNarrowed a r
narrow_cast a r k j zs ws v x y e f w h n =
    let many : length ws ≡ length zs = ap length w ∙ length-map zs (held_or_zero j) in
    let all = h.hold j n.first n.second in
    rw (e, f) (record {
      rows = rows_by_position (numbers j ws v) (rows_of (numbers k zs v)) (row_count (numbers k zs v) ∙ sym many) (λ i l.
          let m : i < length zs = subst (λ t. i < t) many l in
          row_at_position (numbers k zs v) i null m
          ∙ sym (row_cast (is_valid v i) j (get_or zs i (pos 0)) (get_or ws i (pos 0)) (ap (λ us. get_or us i (pos 0)) w ∙ get_or-map (held_or_zero j) zs i (pos 0) (pos 0) m) (all i m)));
      nulls = refl;
      sign = n.sign;
      narrow = λ i s held. let p = h.held i held in n.narrow i s p.0 p.1;
    })

-- an array by its parts
parts_again : (a : Layout) (k : IntKind) (zs : List ℤ) (v : Valid) → IsNumbers a → k ≡ type_in a → zs ≡ integers_in a → v ≡ valid_in a → a ≡ numbers k zs v
parts_again (numbers j ys w) k zs v h e f g = λ i. numbers (sym e i) (sym f i) (sym g i)
parts_again a k zs v h e f g = absurd h

same_kind : (j k : IntKind) → integral j ≡ integral k → j ≡ k
same_kind j k e = cc (e)

narrow_kind : (p q : NumberKind) (k j : IntKind) (x y : ℤ) → p ≡ integral k → q ≡ integral j → IsNarrowestOf p x y q → HoldsBothNarrowly (is_natural k) x y j
narrow_kind p q k j x y e f h = subst (λ r. IsNarrowKind (is_natural k) x y r) f (subst (λ r. IsNarrowestOf r x y q) e h)

pub narrow_same : (a r : Layout) (p q : NumberKind) (k : IntKind) (zs : List ℤ) (v : Valid) (x y : ℤ) → IsNumbers a → k ≡ type_in a → zs ≡ integers_in a → v ≡ valid_in a → p ≡ integral k → q ≡ integral k → IsNarrowestOf p x y q → AreExtremes (is_valid v) zs (length zs) x y → r ≡ a → IsNarrowed a r
narrow_same a r p q k zs v x y h e f g pk qk n ext same = narrow_already a r k zs v x y (parts_again a k zs v h e f g) same ext (narrow_kind p q k k x y pk qk n)

pub narrow_other : (a r : Layout) (p q : NumberKind) (k j : IntKind) (zs ws : List ℤ) (v : Valid) (x y : ℤ) → IsNumbers a → k ≡ type_in a → zs ≡ integers_in a → v ≡ valid_in a → p ≡ integral k → integral j ≡ q → IsNarrowestOf p x y q → AreExtremes (is_valid v) zs (length zs) x y → r ≡ numbers j ws v → ws ≡ map (held_or_zero j) zs → IsNarrowed a r
narrow_other a r p q k j zs ws v x y h e f g pk qj n ext made cast = narrow_cast a r k j zs ws v x y (parts_again a k zs v h e f g) made cast ext (narrow_kind p q k j x y pk (sym qj) n)

-- the validity fits the integers, also the cast ones
pub cast_fits : (a : Layout) (j : IntKind) (zs ws : List ℤ) (v : Valid) → IsNumbers a → IsSound a → zs ≡ integers_in a → v ≡ valid_in a → ws ≡ map (held_or_zero j) zs → HasLength v (length ws)
cast_fits (numbers k ys w) j zs ws v h s f g cast = subst (λ u. HasLength u (length ws)) (sym g) (subst (HasLength w) (sym (ap length cast ∙ length-map zs (held_or_zero j) ∙ ap length f)) s.1)
cast_fits a j zs ws v h s f g cast = absurd h

pub ruleset narrowed = (extremes_held, cast_fits)
