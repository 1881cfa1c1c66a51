-- Little-endian bytes of integers.
use Rattle.std.proofs.Common.{rules, ◌≡◌, ◌∙◌, sym, ap, subst, ℕ, ℤ, pos, negsuc, suc, ◌^◌, ◌<◌, ◌≤◌, ◌+ℤ◌, ◌⊎◌, inl, inr, List, [], ◌∷◌, length, take, drop, slice_index, FitsSigned, refl, arith, lit<}
use Rattle.std.proofs.Math.Nat.{one-le-pow, pow-le-pow_right}
use Rattle.std.proofs.lemmas.Bool.{cases_lt}
use Rattle.std.proofs.lemmas.Int.{ints, of_z-to_z}
use Rattle.std.proofs.lemmas.Nat.{from_le_bytes-to_le_bytes_2, from_le_bytes-to_le_bytes_4, from_le_bytes-to_le_bytes_8}
use Rattle.std.specs.Int.{w8, w16, w32, w64, to_le_bytes, from_le_bytes, cast_signed, cast_unsigned}
use Rattle.vortex_model.specs.LogicalType.{IntKind, u8, u16, u32, u64, i8, i16, i32, i64}
use Rattle.vortex_dtype_ptype.specs.Numbers.{integral, HasByteWidth}
use Rattle.vortex_dtype_native.specs.NativeBytes.{number_of_bytes, AreBytesOf}

-- An integer type has one width.
grows : (n w : ℕ) → n < w → 256 ^ n < 256 ^ w
grows n w h =
    let a : 1 ≤ 256 ^ n = one-le-pow n 256 (lit< tt) in
    let b : 256 ^ suc n ≤ 256 ^ w = pow-le-pow_right (lit< tt) (omega arith) in
    omega (arith, b)

one_width : (n w : ℕ) → 256 ^ n ≡ 256 ^ w → n ≡ w
one_width n w e = elim (cases_lt n w) [ inl l ↦ let a : 256 ^ n < 256 ^ w = grows n w l in absurd (omega arith) | inr g ↦ elim (cases_lt w n) [ inl l ↦ let a : 256 ^ w < 256 ^ n = grows w n l in absurd (omega arith) | inr h ↦ omega arith ] ]

pub width_u8 : (n : ℕ) → HasByteWidth (integral u8) n → n ≡ 1
width_u8 n h = let a : 1 ≤ 256 ^ n = one-le-pow n 256 (lit< tt) in one_width n 1 (omega (arith, ints))

pub width_u16 : (n : ℕ) → HasByteWidth (integral u16) n → n ≡ 2
width_u16 n h = let a : 1 ≤ 256 ^ n = one-le-pow n 256 (lit< tt) in one_width n 2 (omega (arith, ints))

pub width_u32 : (n : ℕ) → HasByteWidth (integral u32) n → n ≡ 4
width_u32 n h = let a : 1 ≤ 256 ^ n = one-le-pow n 256 (lit< tt) in one_width n 4 (omega (arith, ints))

pub width_u64 : (n : ℕ) → HasByteWidth (integral u64) n → n ≡ 8
width_u64 n h = let a : 1 ≤ 256 ^ n = one-le-pow n 256 (lit< tt) in one_width n 8 (omega (arith, ints))

pub width_i8 : (n : ℕ) → HasByteWidth (integral i8) n → n ≡ 1
width_i8 n h = let a : 1 ≤ 256 ^ n = one-le-pow n 256 (lit< tt) in one_width n 1 (omega (arith, ints))

pub width_i16 : (n : ℕ) → HasByteWidth (integral i16) n → n ≡ 2
width_i16 n h = let a : 1 ≤ 256 ^ n = one-le-pow n 256 (lit< tt) in one_width n 2 (omega (arith, ints))

pub width_i32 : (n : ℕ) → HasByteWidth (integral i32) n → n ≡ 4
width_i32 n h = let a : 1 ≤ 256 ^ n = one-le-pow n 256 (lit< tt) in one_width n 4 (omega (arith, ints))

pub width_i64 : (n : ℕ) → HasByteWidth (integral i64) n → n ≡ 8
width_i64 n h = let a : 1 ≤ 256 ^ n = one-le-pow n 256 (lit< tt) in one_width n 8 (omega (arith, ints))

-- The number of one byte, of two, and so on.
number_1 : (bs : List ℕ) → length bs ≡ 1 → number_of_bytes bs ≡ slice_index bs 0
number_1 [] e = absurd (omega arith)
number_1 (a ∷ []) e = omega arith
number_1 (a ∷ b ∷ bs) e = absurd (omega arith)

low_1 : (n : ℕ) → n < 256 ^ 1 → number_of_bytes (take 1 (to_le_bytes w64 n)) ≡ n
low_1 n h = omega arith

bits_1 : (z : ℤ) → FitsSigned w8 z → (pos (cast_unsigned w8 z) ≡ z) ⊎ (pos (cast_unsigned w8 z) ≡ z +ℤ pos (256 ^ 1))
bits_1 (pos n) f = inl (omega (arith, ints))
bits_1 (negsuc n) f = inr (omega (arith, ints))

signed_1 : (n : ℕ) → n < 2 ^ 8 → (pos n ≡ cast_signed w8 n) ⊎ (pos n ≡ cast_signed w8 n +ℤ pos (256 ^ 1))
signed_1 n h =
    let f : FitsSigned w8 (cast_signed w8 n) = search (rules, h) in
    subst (λ (m : ℕ). (pos m ≡ cast_signed w8 n) ⊎ (pos m ≡ cast_signed w8 n +ℤ pos (256 ^ 1))) (of_z-to_z w8 n h) (bits_1 (cast_signed w8 n) f)

number_2 : (bs : List ℕ) → length bs ≡ 2 → number_of_bytes bs ≡ from_le_bytes w16 bs
number_2 [] e = absurd (omega arith)
number_2 (a ∷ []) e = absurd (omega arith)
number_2 (a ∷ b ∷ []) e = omega arith
number_2 (a ∷ b ∷ c ∷ bs) e = absurd (omega arith)

low_2 : (n : ℕ) → n < 256 ^ 2 → number_of_bytes (take 2 (to_le_bytes w64 n)) ≡ n
low_2 n h = number_2 (to_le_bytes w16 n) refl ∙ from_le_bytes-to_le_bytes_2 n h

bits_2 : (z : ℤ) → FitsSigned w16 z → (pos (cast_unsigned w16 z) ≡ z) ⊎ (pos (cast_unsigned w16 z) ≡ z +ℤ pos (256 ^ 2))
bits_2 (pos n) f = inl (omega (arith, ints))
bits_2 (negsuc n) f = inr (omega (arith, ints))

signed_2 : (n : ℕ) → n < 2 ^ 16 → (pos n ≡ cast_signed w16 n) ⊎ (pos n ≡ cast_signed w16 n +ℤ pos (256 ^ 2))
signed_2 n h =
    let f : FitsSigned w16 (cast_signed w16 n) = search (rules, h) in
    subst (λ (m : ℕ). (pos m ≡ cast_signed w16 n) ⊎ (pos m ≡ cast_signed w16 n +ℤ pos (256 ^ 2))) (of_z-to_z w16 n h) (bits_2 (cast_signed w16 n) f)

number_4 : (bs : List ℕ) → length bs ≡ 4 → number_of_bytes bs ≡ from_le_bytes w32 bs
number_4 [] e = absurd (omega arith)
number_4 (a ∷ []) e = absurd (omega arith)
number_4 (a ∷ b ∷ []) e = absurd (omega arith)
number_4 (a ∷ b ∷ c ∷ []) e = absurd (omega arith)
number_4 (a ∷ b ∷ c ∷ d ∷ []) e = omega arith
number_4 (a ∷ b ∷ c ∷ d ∷ f ∷ bs) e = absurd (omega arith)

low_4 : (n : ℕ) → n < 256 ^ 4 → number_of_bytes (take 4 (to_le_bytes w64 n)) ≡ n
low_4 n h = number_4 (to_le_bytes w32 n) refl ∙ from_le_bytes-to_le_bytes_4 n h

bits_4 : (z : ℤ) → FitsSigned w32 z → (pos (cast_unsigned w32 z) ≡ z) ⊎ (pos (cast_unsigned w32 z) ≡ z +ℤ pos (256 ^ 4))
bits_4 (pos n) f = inl (omega (arith, ints))
bits_4 (negsuc n) f = inr (omega (arith, ints))

signed_4 : (n : ℕ) → n < 2 ^ 32 → (pos n ≡ cast_signed w32 n) ⊎ (pos n ≡ cast_signed w32 n +ℤ pos (256 ^ 4))
signed_4 n h =
    let f : FitsSigned w32 (cast_signed w32 n) = search (rules, h) in
    subst (λ (m : ℕ). (pos m ≡ cast_signed w32 n) ⊎ (pos m ≡ cast_signed w32 n +ℤ pos (256 ^ 4))) (of_z-to_z w32 n h) (bits_4 (cast_signed w32 n) f)

number_8 : (bs : List ℕ) → length bs ≡ 8 → number_of_bytes bs ≡ from_le_bytes w64 bs
number_8 [] e = absurd (omega arith)
number_8 (a ∷ []) e = absurd (omega arith)
number_8 (a ∷ b ∷ []) e = absurd (omega arith)
number_8 (a ∷ b ∷ c ∷ []) e = absurd (omega arith)
number_8 (a ∷ b ∷ c ∷ d ∷ []) e = absurd (omega arith)
number_8 (a ∷ b ∷ c ∷ d ∷ f ∷ []) e = absurd (omega arith)
number_8 (a ∷ b ∷ c ∷ d ∷ f ∷ g ∷ []) e = absurd (omega arith)
number_8 (a ∷ b ∷ c ∷ d ∷ f ∷ g ∷ h ∷ []) e = absurd (omega arith)
number_8 (a ∷ b ∷ c ∷ d ∷ f ∷ g ∷ h ∷ i ∷ []) e = omega arith
number_8 (a ∷ b ∷ c ∷ d ∷ f ∷ g ∷ h ∷ i ∷ j ∷ bs) e = absurd (omega arith)

low_8 : (n : ℕ) → n < 256 ^ 8 → number_of_bytes (take 8 (to_le_bytes w64 n)) ≡ n
low_8 n h = number_8 (to_le_bytes w64 n) refl ∙ from_le_bytes-to_le_bytes_8 n h

bits_8 : (z : ℤ) → FitsSigned w64 z → (pos (cast_unsigned w64 z) ≡ z) ⊎ (pos (cast_unsigned w64 z) ≡ z +ℤ pos (256 ^ 8))
bits_8 (pos n) f = inl (omega (arith, ints))
bits_8 (negsuc n) f = inr (omega (arith, ints))

signed_8 : (n : ℕ) → n < 2 ^ 64 → (pos n ≡ cast_signed w64 n) ⊎ (pos n ≡ cast_signed w64 n +ℤ pos (256 ^ 8))
signed_8 n h =
    let f : FitsSigned w64 (cast_signed w64 n) = search (rules, h) in
    subst (λ (m : ℕ). (pos m ≡ cast_signed w64 n) ⊎ (pos m ≡ cast_signed w64 n +ℤ pos (256 ^ 8))) (of_z-to_z w64 n h) (bits_8 (cast_signed w64 n) f)

-- Bytes that are written and read.
bytes_of : (i : IntKind) (z : ℤ) (bs : List ℕ) (w n : ℕ) → length bs ≡ w → HasByteWidth (integral i) w → number_of_bytes bs ≡ n → (pos n ≡ z) ⊎ (pos n ≡ z +ℤ pos (256 ^ w)) → AreBytesOf i z bs
bytes_of i z bs w n l h e o = record {
  width = subst (λ (v : ℕ). HasByteWidth (integral i) v) (sym l) h;
  number = subst (λ (v : ℕ). (pos (number_of_bytes bs) ≡ z) ⊎ (pos (number_of_bytes bs) ≡ z +ℤ pos (256 ^ v))) (sym l) (subst (λ (m : ℕ). (pos m ≡ z) ⊎ (pos m ≡ z +ℤ pos (256 ^ w))) (sym e) o);
}

pub bytes_u8 : (bs : List ℕ) (n : ℕ) → length bs ≡ 1 → n ≡ slice_index bs 0 → AreBytesOf u8 (pos n) bs
bytes_u8 bs n l e = bytes_of u8 (pos n) bs 1 n l refl (number_1 bs l ∙ sym e) (inl refl)

pub ruleset read_u8 = (bytes_u8, width_u8)

pub written_u8 : (n m : ℕ) (bs : List ℕ) → n < 2 ^ 8 → m ≡ n → bs ≡ to_le_bytes w64 m → AreBytesOf u8 (pos n) (take 1 bs)
written_u8 n m bs h e d =
    let b : AreBytesOf u8 (pos n) (take 1 (to_le_bytes w64 n)) = bytes_of u8 (pos n) (take 1 (to_le_bytes w64 n)) 1 n refl refl (low_1 n h) (inl refl) in
    subst (λ (x : List ℕ). AreBytesOf u8 (pos n) (take 1 x)) (ap (to_le_bytes w64) (sym e) ∙ sym d) b

pub bytes_u16 : (bs : List ℕ) (n : ℕ) → length bs ≡ 2 → n ≡ from_le_bytes w16 bs → AreBytesOf u16 (pos n) bs
bytes_u16 bs n l e = bytes_of u16 (pos n) bs 2 n l refl (number_2 bs l ∙ sym e) (inl refl)

pub ruleset read_u16 = (bytes_u16, width_u16)

pub written_u16 : (n m : ℕ) (bs : List ℕ) → n < 2 ^ 16 → m ≡ n → bs ≡ to_le_bytes w64 m → AreBytesOf u16 (pos n) (take 2 bs)
written_u16 n m bs h e d =
    let b : AreBytesOf u16 (pos n) (take 2 (to_le_bytes w64 n)) = bytes_of u16 (pos n) (take 2 (to_le_bytes w64 n)) 2 n refl refl (low_2 n h) (inl refl) in
    subst (λ (x : List ℕ). AreBytesOf u16 (pos n) (take 2 x)) (ap (to_le_bytes w64) (sym e) ∙ sym d) b

pub bytes_u32 : (bs : List ℕ) (n : ℕ) → length bs ≡ 4 → n ≡ from_le_bytes w32 bs → AreBytesOf u32 (pos n) bs
bytes_u32 bs n l e = bytes_of u32 (pos n) bs 4 n l refl (number_4 bs l ∙ sym e) (inl refl)

pub ruleset read_u32 = (bytes_u32, width_u32)

pub written_u32 : (n m : ℕ) (bs : List ℕ) → n < 2 ^ 32 → m ≡ n → bs ≡ to_le_bytes w64 m → AreBytesOf u32 (pos n) (take 4 bs)
written_u32 n m bs h e d =
    let b : AreBytesOf u32 (pos n) (take 4 (to_le_bytes w64 n)) = bytes_of u32 (pos n) (take 4 (to_le_bytes w64 n)) 4 n refl refl (low_4 n h) (inl refl) in
    subst (λ (x : List ℕ). AreBytesOf u32 (pos n) (take 4 x)) (ap (to_le_bytes w64) (sym e) ∙ sym d) b

pub bytes_u64 : (bs : List ℕ) (n : ℕ) → length bs ≡ 8 → n ≡ from_le_bytes w64 bs → AreBytesOf u64 (pos n) bs
bytes_u64 bs n l e = bytes_of u64 (pos n) bs 8 n l refl (number_8 bs l ∙ sym e) (inl refl)

pub ruleset read_u64 = (bytes_u64, width_u64)

pub written_u64 : (n m : ℕ) (bs : List ℕ) → n < 2 ^ 64 → m ≡ n → bs ≡ to_le_bytes w64 m → AreBytesOf u64 (pos n) (take 8 bs)
written_u64 n m bs h e d =
    let b : AreBytesOf u64 (pos n) (take 8 (to_le_bytes w64 n)) = bytes_of u64 (pos n) (take 8 (to_le_bytes w64 n)) 8 n refl refl (low_8 n h) (inl refl) in
    subst (λ (x : List ℕ). AreBytesOf u64 (pos n) (take 8 x)) (ap (to_le_bytes w64) (sym e) ∙ sym d) b

pub bytes_i8 : (bs : List ℕ) (n : ℕ) (z : ℤ) → length bs ≡ 1 → n ≡ slice_index bs 0 → n < 2 ^ 8 → z ≡ cast_signed w8 n → AreBytesOf i8 z bs
bytes_i8 bs n z l e h d = subst (λ (y : ℤ). AreBytesOf i8 y bs) (sym d) (bytes_of i8 (cast_signed w8 n) bs 1 n l refl (number_1 bs l ∙ sym e) (signed_1 n h))

pub ruleset read_i8 = (bytes_i8, width_i8)

pub written_i8 : (z : ℤ) (m : ℕ) (bs : List ℕ) → FitsSigned w8 z → m ≡ cast_unsigned w8 z → m < 2 ^ 8 → bs ≡ to_le_bytes w64 m → AreBytesOf i8 z (take 1 bs)
written_i8 z m bs f e h d =
    let o : (pos m ≡ z) ⊎ (pos m ≡ z +ℤ pos (256 ^ 1)) = subst (λ (n : ℕ). (pos n ≡ z) ⊎ (pos n ≡ z +ℤ pos (256 ^ 1))) (sym e) (bits_1 z f) in
    let b : AreBytesOf i8 z (take 1 (to_le_bytes w64 m)) = bytes_of i8 z (take 1 (to_le_bytes w64 m)) 1 m refl refl (low_1 m h) o in
    subst (λ (x : List ℕ). AreBytesOf i8 z (take 1 x)) (sym d) b

pub bytes_i16 : (bs : List ℕ) (n : ℕ) (z : ℤ) → length bs ≡ 2 → n ≡ from_le_bytes w16 bs → n < 2 ^ 16 → z ≡ cast_signed w16 n → AreBytesOf i16 z bs
bytes_i16 bs n z l e h d = subst (λ (y : ℤ). AreBytesOf i16 y bs) (sym d) (bytes_of i16 (cast_signed w16 n) bs 2 n l refl (number_2 bs l ∙ sym e) (signed_2 n h))

pub ruleset read_i16 = (bytes_i16, width_i16)

pub written_i16 : (z : ℤ) (m : ℕ) (bs : List ℕ) → FitsSigned w16 z → m ≡ cast_unsigned w16 z → m < 2 ^ 16 → bs ≡ to_le_bytes w64 m → AreBytesOf i16 z (take 2 bs)
written_i16 z m bs f e h d =
    let o : (pos m ≡ z) ⊎ (pos m ≡ z +ℤ pos (256 ^ 2)) = subst (λ (n : ℕ). (pos n ≡ z) ⊎ (pos n ≡ z +ℤ pos (256 ^ 2))) (sym e) (bits_2 z f) in
    let b : AreBytesOf i16 z (take 2 (to_le_bytes w64 m)) = bytes_of i16 z (take 2 (to_le_bytes w64 m)) 2 m refl refl (low_2 m h) o in
    subst (λ (x : List ℕ). AreBytesOf i16 z (take 2 x)) (sym d) b

pub bytes_i32 : (bs : List ℕ) (n : ℕ) (z : ℤ) → length bs ≡ 4 → n ≡ from_le_bytes w32 bs → n < 2 ^ 32 → z ≡ cast_signed w32 n → AreBytesOf i32 z bs
bytes_i32 bs n z l e h d = subst (λ (y : ℤ). AreBytesOf i32 y bs) (sym d) (bytes_of i32 (cast_signed w32 n) bs 4 n l refl (number_4 bs l ∙ sym e) (signed_4 n h))

pub ruleset read_i32 = (bytes_i32, width_i32)

pub written_i32 : (z : ℤ) (m : ℕ) (bs : List ℕ) → FitsSigned w32 z → m ≡ cast_unsigned w32 z → m < 2 ^ 32 → bs ≡ to_le_bytes w64 m → AreBytesOf i32 z (take 4 bs)
written_i32 z m bs f e h d =
    let o : (pos m ≡ z) ⊎ (pos m ≡ z +ℤ pos (256 ^ 4)) = subst (λ (n : ℕ). (pos n ≡ z) ⊎ (pos n ≡ z +ℤ pos (256 ^ 4))) (sym e) (bits_4 z f) in
    let b : AreBytesOf i32 z (take 4 (to_le_bytes w64 m)) = bytes_of i32 z (take 4 (to_le_bytes w64 m)) 4 m refl refl (low_4 m h) o in
    subst (λ (x : List ℕ). AreBytesOf i32 z (take 4 x)) (sym d) b

pub bytes_i64 : (bs : List ℕ) (n : ℕ) (z : ℤ) → length bs ≡ 8 → n ≡ from_le_bytes w64 bs → n < 2 ^ 64 → z ≡ cast_signed w64 n → AreBytesOf i64 z bs
bytes_i64 bs n z l e h d = subst (λ (y : ℤ). AreBytesOf i64 y bs) (sym d) (bytes_of i64 (cast_signed w64 n) bs 8 n l refl (number_8 bs l ∙ sym e) (signed_8 n h))

pub ruleset read_i64 = (bytes_i64, width_i64)

pub written_i64 : (z : ℤ) (m : ℕ) (bs : List ℕ) → FitsSigned w64 z → m ≡ cast_unsigned w64 z → m < 2 ^ 64 → bs ≡ to_le_bytes w64 m → AreBytesOf i64 z (take 8 bs)
written_i64 z m bs f e h d =
    let o : (pos m ≡ z) ⊎ (pos m ≡ z +ℤ pos (256 ^ 8)) = subst (λ (n : ℕ). (pos n ≡ z) ⊎ (pos n ≡ z +ℤ pos (256 ^ 8))) (sym e) (bits_8 z f) in
    let b : AreBytesOf i64 z (take 8 (to_le_bytes w64 m)) = bytes_of i64 z (take 8 (to_le_bytes w64 m)) 8 m refl refl (low_8 m h) o in
    subst (λ (x : List ℕ). AreBytesOf i64 z (take 8 x)) (sym d) b

-- The bytes after those of an integer are zero.
behind_1 : (n : ℕ) → n < 2 ^ 8 → number_of_bytes (drop 1 (to_le_bytes w64 n)) ≡ 0
behind_1 n h = let a = low_1 n h in let b = low_8 n (omega (arith, h)) in omega (arith, a, b)

behind_2 : (n : ℕ) → n < 2 ^ 16 → number_of_bytes (drop 2 (to_le_bytes w64 n)) ≡ 0
behind_2 n h = let a = low_2 n h in let b = low_8 n (omega (arith, h)) in omega (arith, a, b)

behind_4 : (n : ℕ) → n < 2 ^ 32 → number_of_bytes (drop 4 (to_le_bytes w64 n)) ≡ 0
behind_4 n h = let a = low_4 n h in let b = low_8 n (omega (arith, h)) in omega (arith, a, b)

behind_8 : (n : ℕ) → number_of_bytes (drop 8 (to_le_bytes w64 n)) ≡ 0
behind_8 n = refl

pub rest_u8 : (n m : ℕ) (bs : List ℕ) → n < 2 ^ 8 → m ≡ n → bs ≡ to_le_bytes w64 m → number_of_bytes (drop 1 bs) ≡ 0
rest_u8 n m bs h e d = ap (λ l. number_of_bytes (drop 1 l)) (d ∙ ap (to_le_bytes w64) e) ∙ behind_1 n h

pub rest_u16 : (n m : ℕ) (bs : List ℕ) → n < 2 ^ 16 → m ≡ n → bs ≡ to_le_bytes w64 m → number_of_bytes (drop 2 bs) ≡ 0
rest_u16 n m bs h e d = ap (λ l. number_of_bytes (drop 2 l)) (d ∙ ap (to_le_bytes w64) e) ∙ behind_2 n h

pub rest_u32 : (n m : ℕ) (bs : List ℕ) → n < 2 ^ 32 → m ≡ n → bs ≡ to_le_bytes w64 m → number_of_bytes (drop 4 bs) ≡ 0
rest_u32 n m bs h e d = ap (λ l. number_of_bytes (drop 4 l)) (d ∙ ap (to_le_bytes w64) e) ∙ behind_4 n h

pub rest_i8 : (m : ℕ) (bs : List ℕ) → m < 2 ^ 8 → bs ≡ to_le_bytes w64 m → number_of_bytes (drop 1 bs) ≡ 0
rest_i8 m bs h d = ap (λ l. number_of_bytes (drop 1 l)) d ∙ behind_1 m h

pub rest_i16 : (m : ℕ) (bs : List ℕ) → m < 2 ^ 16 → bs ≡ to_le_bytes w64 m → number_of_bytes (drop 2 bs) ≡ 0
rest_i16 m bs h d = ap (λ l. number_of_bytes (drop 2 l)) d ∙ behind_2 m h

pub rest_i32 : (m : ℕ) (bs : List ℕ) → m < 2 ^ 32 → bs ≡ to_le_bytes w64 m → number_of_bytes (drop 4 bs) ≡ 0
rest_i32 m bs h d = ap (λ l. number_of_bytes (drop 4 l)) d ∙ behind_4 m h

pub rest_8 : (m : ℕ) (bs : List ℕ) → bs ≡ to_le_bytes w64 m → number_of_bytes (drop 8 bs) ≡ 0
rest_8 m bs d = ap (λ l. number_of_bytes (drop 8 l)) d ∙ behind_8 m

pub ruleset encoded_u8 = (written_u8, rest_u8)

pub ruleset encoded_u16 = (written_u16, rest_u16)

pub ruleset encoded_u32 = (written_u32, rest_u32)

pub ruleset encoded_u64 = (written_u64, rest_8)

pub ruleset encoded_i8 = (written_i8, rest_i8)

pub ruleset encoded_i16 = (written_i16, rest_i16)

pub ruleset encoded_i32 = (written_i32, rest_i32)

pub ruleset encoded_i64 = (written_i64, rest_8)
