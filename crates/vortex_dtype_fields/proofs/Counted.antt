-- The sizes of the fields that are left, and their sums.
use Rattle.std.proofs.Common.{◌≡◌, ◌<◌, ◌≤◌, ◌+◌, ◌*◌, ◌^◌, ◌&&◌, nat_lt, arith, drop, length, get_or, ℕ, Bool, true, false, List, [], Option, Some, None, SomeIff, sym, ap, ◌∙◌}
use Rattle.std.proofs.Math.ListN.{drop_of_length-le}
use Rattle.std.proofs.Math.Nat.{mul_comm}
use Rattle.std.proofs.lemmas.Bool.Decides.{Decides-ltb}
use Rattle.std.proofs.lemmas.Bool.{and_parts, and_from}
use Rattle.vortex_model.specs.LogicalType.{LogicalType, fixed_list, Nullability}
use Rattle.vortex_dtype_core.specs.View.{type_of, fields_of}
use Rattle.vortex_dtype_core.specs.declared.struct_fields.StructField.{StructField}
use Rattle.vortex_dtype_core.proofs.Views.{field_of-parts}
use Rattle.vortex_dtype_fields.specs.Widths.{is_fixed, are_fixed, bytes_of, bytes_of_fields, is_countable, are_countable}
use Rattle.vortex_dtype_fields.proofs.Pieces.{first_left}

-- the first of the fields that are left, and the rest
pub fixed_left : (fs : List StructField) (i : ℕ) (f : StructField) → i < length fs → f ≡ get_or fs i f →
    are_fixed (fields_of (drop i fs)) ≡ is_fixed (type_of f.dtype) && are_fixed (fields_of (drop (i + 1) fs))
fixed_left fs i f h e = ap (λ gs. are_fixed (fields_of gs)) (first_left fs i f h e) ∙ ap (λ p. is_fixed p.1 && are_fixed (fields_of (drop (i + 1) fs))) (field_of-parts f)

countable_left : (fs : List StructField) (i : ℕ) (f : StructField) → i < length fs → f ≡ get_or fs i f →
    are_countable (fields_of (drop i fs)) ≡ is_countable (type_of f.dtype) && are_countable (fields_of (drop (i + 1) fs))
countable_left fs i f h e = ap (λ gs. are_countable (fields_of gs)) (first_left fs i f h e) ∙ ap (λ p. is_countable p.1 && are_countable (fields_of (drop (i + 1) fs))) (field_of-parts f)

bytes_left : (fs : List StructField) (i : ℕ) (f : StructField) → i < length fs → f ≡ get_or fs i f →
    bytes_of_fields (fields_of (drop i fs)) ≡ bytes_of (type_of f.dtype) + bytes_of_fields (fields_of (drop (i + 1) fs))
bytes_left fs i f h e = ap (λ gs. bytes_of_fields (fields_of gs)) (first_left fs i f h e) ∙ ap (λ p. bytes_of p.1 + bytes_of_fields (fields_of (drop (i + 1) fs))) (field_of-parts f)

-- a field of no fixed size
pub not_fixed : (fs : List StructField) (i : ℕ) (f : StructField) → i < length fs → f ≡ get_or fs i f → is_fixed (type_of f.dtype) ≡ false →
    are_fixed (fields_of (drop i fs)) ≡ are_fixed (fields_of fs) → false ≡ are_fixed (fields_of fs)
not_fixed fs i f h e g whole = sym (ap (λ b. b && are_fixed (fields_of (drop (i + 1) fs))) g) ∙ sym (fixed_left fs i f h e) ∙ whole

pub still_fixed : (fs : List StructField) (i : ℕ) (f : StructField) → i < length fs → f ≡ get_or fs i f → is_fixed (type_of f.dtype) ≡ true →
    are_fixed (fields_of (drop i fs)) ≡ are_fixed (fields_of fs) → are_fixed (fields_of (drop (i + 1) fs)) ≡ are_fixed (fields_of fs)
still_fixed fs i f h e g whole = sym (ap (λ b. b && are_fixed (fields_of (drop (i + 1) fs))) g) ∙ sym (fixed_left fs i f h e) ∙ whole

-- lists of one length
pub list_counted : (k : LogicalType) (m : ℕ) (n : Nullability) (w : ℕ) (r : Option ℕ) → is_countable k ≡ true → w ≡ bytes_of k → SomeIff r (w * m < 2 ^ 64) (w * m) →
    SomeIff r (is_countable (fixed_list k m n) ≡ true) (bytes_of (fixed_list k m n))
list_counted k m n w None c e never = λ h.
    let test : nat_lt (m * bytes_of k) (2 ^ 64) ≡ true = (and_parts (is_countable k) (nat_lt (m * bytes_of k) (2 ^ 64)) h).1 in
    let less : m * bytes_of k < 2 ^ 64 = (Decides-ltb (m * bytes_of k) (2 ^ 64)).0 test in
    let same : w * m ≡ m * bytes_of k = mul_comm w m ∙ ap (λ b. m * b) e in
    never (omega arith)
list_counted k m n w (Some x) c e both =
    let same : w * m ≡ m * bytes_of k = mul_comm w m ∙ ap (λ b. m * b) e in
    let less : w * m < 2 ^ 64 = both.0 in
    (and_from (is_countable k) (nat_lt (m * bytes_of k) (2 ^ 64)) c ((Decides-ltb (m * bytes_of k) (2 ^ 64)).1 (omega arith)), both.1 ∙ same)

abbrev pub are_counted : List StructField → Bool
are_counted fs = are_countable (fields_of fs) && nat_lt (bytes_of_fields (fields_of fs)) (2 ^ 64)

-- a field of 2^64 bytes or more
pub field_uncounted : (fs : List StructField) (i : ℕ) (f : StructField) → i < length fs → f ≡ get_or fs i f → (is_countable (type_of f.dtype) ≡ true → ⊥) →
    are_countable (fields_of (drop i fs)) ≡ are_countable (fields_of fs) → are_counted fs ≡ true → ⊥
field_uncounted fs i f h e never whole t =
    let all : are_countable (fields_of fs) ≡ true = (and_parts (are_countable (fields_of fs)) (nat_lt (bytes_of_fields (fields_of fs)) (2 ^ 64)) t).0 in
    never (and_parts (is_countable (type_of f.dtype)) (are_countable (fields_of (drop (i + 1) fs))) (sym (countable_left fs i f h e) ∙ whole ∙ all)).0

-- a sum of 2^64 bytes or more
pub sum_uncounted : (fs : List StructField) (i : ℕ) (f : StructField) (sum w : ℕ) → i < length fs → f ≡ get_or fs i f → w ≡ bytes_of (type_of f.dtype) → (sum + w < 2 ^ 64 → ⊥) →
    sum + bytes_of_fields (fields_of (drop i fs)) ≡ bytes_of_fields (fields_of fs) → are_counted fs ≡ true → ⊥
sum_uncounted fs i f sum w h e g never whole t =
    let less : bytes_of_fields (fields_of fs) < 2 ^ 64
    = (Decides-ltb (bytes_of_fields (fields_of fs)) (2 ^ 64)).0 (and_parts (are_countable (fields_of fs)) (nat_lt (bytes_of_fields (fields_of fs)) (2 ^ 64)) t).1 in
    let left : bytes_of_fields (fields_of (drop i fs)) ≡ bytes_of (type_of f.dtype) + bytes_of_fields (fields_of (drop (i + 1) fs)) = bytes_left fs i f h e in
    never (omega arith)

pub sum_next : (fs : List StructField) (i : ℕ) (f : StructField) (sum w next : ℕ) → i < length fs → f ≡ get_or fs i f → w ≡ bytes_of (type_of f.dtype) → next ≡ sum + w →
    sum + bytes_of_fields (fields_of (drop i fs)) ≡ bytes_of_fields (fields_of fs) → next + bytes_of_fields (fields_of (drop (i + 1) fs)) ≡ bytes_of_fields (fields_of fs)
sum_next fs i f sum w next h e g n whole =
    let left : bytes_of_fields (fields_of (drop i fs)) ≡ bytes_of (type_of f.dtype) + bytes_of_fields (fields_of (drop (i + 1) fs)) = bytes_left fs i f h e in
    omega arith

pub still_countable : (fs : List StructField) (i : ℕ) (f : StructField) → i < length fs → f ≡ get_or fs i f → is_countable (type_of f.dtype) ≡ true →
    are_countable (fields_of (drop i fs)) ≡ are_countable (fields_of fs) → are_countable (fields_of (drop (i + 1) fs)) ≡ are_countable (fields_of fs)
still_countable fs i f h e g whole = sym (ap (λ b. b && are_countable (fields_of (drop (i + 1) fs))) g) ∙ sym (countable_left fs i f h e) ∙ whole

-- all fields
pub all_counted : (fs : List StructField) (i sum : ℕ) → length fs ≤ i → sum < 2 ^ 64 →
    sum + bytes_of_fields (fields_of (drop i fs)) ≡ bytes_of_fields (fields_of fs) → are_countable (fields_of (drop i fs)) ≡ are_countable (fields_of fs) →
    (are_counted fs ≡ true) × (sum ≡ bytes_of_fields (fields_of fs))
all_counted fs i sum h small whole left =
    let none : drop i fs ≡ [] = drop_of_length-le fs h in
    let rest : bytes_of_fields (fields_of (drop i fs)) ≡ 0 = ap (λ gs. bytes_of_fields (fields_of gs)) none in
    let same : sum ≡ bytes_of_fields (fields_of fs) = omega arith in
    let countable : are_countable (fields_of fs) ≡ true = sym left ∙ ap (λ gs. are_countable (fields_of gs)) none in
    (and_from (are_countable (fields_of fs)) (nat_lt (bytes_of_fields (fields_of fs)) (2 ^ 64)) countable ((Decides-ltb (bytes_of_fields (fields_of fs)) (2 ^ 64)).1 (omega arith)), same)
