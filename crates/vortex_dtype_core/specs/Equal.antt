-- The tests for equal types, fields and variants are equivalences, and pass exactly where these are
-- equal.
use Rattle.std.proofs.Common.{IsTrue, ◌↔◌, ◌≡◌, refl, ap, subst, Bool, true, false}
use Rattle.std.specs.Cmp.{IsEquivalence}
use Rattle.std.specs.Cmp.Derive.{both_true}
use Rattle.std.proofs.lemmas.Cmp.{int_eq_equiv, nat_eq_equiv, nat_list_eq_equiv}
use Rattle.vortex_model.specs.LogicalType.{Nullability, non_nullable, nullable, int_kind_number, float_kind_number, LogicalType, null_only, boolean_type, integer_type, float, decimal, utf8, binary, list, fixed_list, mapping, struct, union, variant, extension, Fields, no_fields, field, Variants, no_variants, choice, eq_nullability, eq_flag, eq_type, eq_fields, eq_variants}
use Rattle.vortex_model.proofs.Tests.{kind_so}

nullability_itself : (n : Nullability) → eq_nullability n n ≡ true
nullability_itself non_nullable = refl
nullability_itself nullable = refl

flag_itself : (b : Bool) → eq_flag b b ≡ true
flag_itself true = refl
flag_itself false = refl

mutual
  type_itself : (k : LogicalType) → eq_type k k ≡ true
  type_itself null_only = refl
  type_itself (boolean_type n) = nullability_itself n
  type_itself (integer_type i n) =
      both_true (nat_eq_equiv.refl (int_kind_number i)) (nullability_itself n)
  type_itself (float f n) =
      both_true (nat_eq_equiv.refl (float_kind_number f)) (nullability_itself n)
  type_itself (decimal p s n) =
      both_true (both_true (nat_eq_equiv.refl p) (int_eq_equiv.refl s)) (nullability_itself n)
  type_itself (utf8 n) = nullability_itself n
  type_itself (binary n) = nullability_itself n
  type_itself (list k n) = both_true (type_itself k) (nullability_itself n)
  type_itself (fixed_list k m n) =
      both_true (both_true (type_itself k) (nat_eq_equiv.refl m)) (nullability_itself n)
  type_itself (mapping k v s n) =
      both_true (both_true (both_true (type_itself k) (type_itself v)) (flag_itself s))
      (nullability_itself n)
  type_itself (struct fs n) = both_true (fields_itself fs) (nullability_itself n)
  type_itself (union vs n) = both_true (variants_itself vs) (nullability_itself n)
  type_itself (variant n) = nullability_itself n
  type_itself (extension x a k) =
      both_true (both_true (nat_list_eq_equiv.refl x) (nat_list_eq_equiv.refl a)) (type_itself k)

  fields_itself : (fs : Fields) → eq_fields fs fs ≡ true
  fields_itself no_fields = refl
  fields_itself (field x k fs) =
      both_true (both_true (nat_list_eq_equiv.refl x) (type_itself k)) (fields_itself fs)

  variants_itself : (vs : Variants) → eq_variants vs vs ≡ true
  variants_itself no_variants = refl
  variants_itself (choice x t k vs) =
      both_true (both_true (both_true (nat_list_eq_equiv.refl x) (int_eq_equiv.refl t))
      (type_itself k)) (variants_itself vs)

-- two tests that pass together are equal
together : (a b : Bool) → (a ≡ true → b ≡ true) → (b ≡ true → a ≡ true) → a ≡ b
together true true f g = refl
together false false f g = refl
together true false f g = absurd (cc (f refl))
together false true f g = absurd (cc (g refl))

-- a test that passes exactly where both are equal
module _ {A : Type 0} (same : A → A → Bool) (itself : (a : A) → same a a ≡ true) (so : (a b : A) →
    same a b ≡ true → a ≡ b) where
  turned : (a b : A) → same a b ≡ true → same b a ≡ true
  turned a b e = subst (λ c. same c a ≡ true) (so a b e) (itself a)

  exact_equiv : IsEquivalence same
  exact_equiv = record {
    refl = itself;
    symm = λ a b. together (same a b) (same b a) (turned a b) (turned b a);
    congr = λ a b c e. ap (λ d. same d c) (so a b e);
  }

  exact_decides : (a b : A) → IsTrue (same a b) ↔ (a ≡ b)
  exact_decides a b = (so a b, λ e. subst (λ c. same a c ≡ true) e (itself a))

-- the fields and the variants of a type
abbrev fields_inside : LogicalType → Fields
fields_inside (struct fs n) = fs
fields_inside k = no_fields

abbrev variants_inside : LogicalType → Variants
variants_inside (union vs n) = vs
variants_inside k = no_variants

fields_so : (fs gs : Fields) → eq_fields fs gs ≡ true → fs ≡ gs
fields_so fs gs e =
    ap fields_inside (kind_so (struct fs nullable) (struct gs nullable) (both_true e refl))

variants_so : (vs ws : Variants) → eq_variants vs ws ≡ true → vs ≡ ws
variants_so vs ws e =
    ap variants_inside (kind_so (union vs nullable) (union ws nullable) (both_true e refl))

pub eq_type_equiv : IsEquivalence eq_type
eq_type_equiv = exact_equiv eq_type type_itself kind_so

pub eq_type-decides : (k l : LogicalType) → IsTrue (eq_type k l) ↔ (k ≡ l)
eq_type-decides = exact_decides eq_type type_itself kind_so

pub eq_fields_equiv : IsEquivalence eq_fields
eq_fields_equiv = exact_equiv eq_fields fields_itself fields_so

pub eq_fields-decides : (fs gs : Fields) → IsTrue (eq_fields fs gs) ↔ (fs ≡ gs)
eq_fields-decides = exact_decides eq_fields fields_itself fields_so

pub eq_variants_equiv : IsEquivalence eq_variants
eq_variants_equiv = exact_equiv eq_variants variants_itself variants_so

pub eq_variants-decides : (vs ws : Variants) → IsTrue (eq_variants vs ws) ↔ (vs ≡ ws)
eq_variants-decides = exact_decides eq_variants variants_itself variants_so
