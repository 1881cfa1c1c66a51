-- The writes of a type to a hasher, one after another.
use Rattle.std.proofs.Common.{◌≡◌, ◌<◌, ◌+◌, ◌++◌, add-one, suc, drop, drop-cons, length, get_or, ℕ, List, [], ◌∷◌, refl, sym, ap, ◌∙◌}
use Rattle.std.proofs.lemmas.List.Sums.{fold-append}
use Rattle.std.specs.List.{fold}
use Rattle.vortex_model.specs.LogicalType.{LogicalType, null_only, boolean_type, integer_type, float, decimal, utf8, binary, list, fixed_list, mapping, struct, union, variant, extension, Fields, no_fields, field, Variants, no_variants, choice, bare, bare_fields, bare_variants}
use Rattle.vortex_dtype_core.specs.Parts.{field_count, variant_count}
use Rattle.vortex_dtype_fields.specs.Hashing.{type_writes, fields_writes, variants_writes}
use Rattle.vortex_dtype_core.specs.View.{type_of, fields_of, variants_of}
use Rattle.vortex_dtype_core.specs.declared.struct_fields.StructField.{StructField}
use Rattle.vortex_dtype_core.specs.declared.union_variants.UnionVariant.{UnionVariant}
use Rattle.vortex_dtype_core.proofs.Views.{field_of-parts, variant_of-parts}
use Rattle.vortex_dtype_fields.proofs.Pieces.{first_left}
use Rattle.vortex_dtype_core.proofs.Sizes.{levels}
use Rattle.std.specs.Hash as fed

-- the writes don't depend on nullability
eq_count : (fs : Fields) → field_count (bare_fields fs) ≡ field_count fs
eq_count no_fields = refl
eq_count (field x k fs) = ap suc (eq_count fs)

eq_many : (vs : Variants) → variant_count (bare_variants vs) ≡ variant_count vs
eq_many no_variants = refl
eq_many (choice x t k vs) = ap suc (eq_many vs)

mutual
  pub bare_writes : (k : LogicalType) → type_writes (bare k) ≡ type_writes k
  bare_writes null_only = refl
  bare_writes (boolean_type n) = refl
  bare_writes (integer_type i n) = refl
  bare_writes (float f n) = refl
  bare_writes (decimal p s n) = refl
  bare_writes (utf8 n) = refl
  bare_writes (binary n) = refl
  bare_writes (list k n) = ap (λ ws. fed.u8 6 ++ ws) (bare_writes k)
  bare_writes (fixed_list k m n) = ap (λ ws. fed.u8 7 ++ fed.u32 m ++ ws) (bare_writes k)
  bare_writes (mapping k v s n) = ap (λ ws. fed.u8 8 ++ fed.bool s ++ ws ++ type_writes (bare v)) (bare_writes k) ∙ ap (λ ws. fed.u8 8 ++ fed.bool s ++ type_writes k ++ ws) (bare_writes v)
  bare_writes (struct fs n) = ap (λ m. fed.u8 9 ++ fed.usize m ++ fields_writes (bare_fields fs)) (eq_count fs) ∙ ap (λ ws. fed.u8 9 ++ fed.usize (field_count fs) ++ ws) (bare_fields_writes fs)
  bare_writes (union vs n) = ap (λ m. fed.u8 10 ++ fed.usize m ++ variants_writes (bare_variants vs)) (eq_many vs) ∙ ap (λ ws. fed.u8 10 ++ fed.usize (variant_count vs) ++ ws) (bare_variants_writes vs)
  bare_writes (variant n) = refl
  bare_writes (extension id meta k) = ap (λ ws. fed.u8 12 ++ fed.str id ++ fed.usize (length meta) ++ (meta ∷ []) ++ ws) (bare_writes k)

  bare_fields_writes : (fs : Fields) → fields_writes (bare_fields fs) ≡ fields_writes fs
  bare_fields_writes no_fields = refl
  bare_fields_writes (field x k fs) = ap (λ ws. fed.str x ++ ws ++ fields_writes (bare_fields fs)) (bare_writes k) ∙ ap (λ ws. fed.str x ++ type_writes k ++ ws) (bare_fields_writes fs)

  bare_variants_writes : (vs : Variants) → variants_writes (bare_variants vs) ≡ variants_writes vs
  bare_variants_writes no_variants = refl
  bare_variants_writes (choice x t k vs) = ap (λ ws. fed.str x ++ fed.i8 t ++ ws ++ variants_writes (bare_variants vs)) (bare_writes k) ∙ ap (λ ws. fed.str x ++ fed.i8 t ++ type_writes k ++ ws) (bare_variants_writes vs)

-- ---- parts one after another

-- the first variant, and the rest
first_choice : (vs : List UnionVariant) (i : ℕ) (v : UnionVariant) → i < length vs → v ≡ get_or vs i v → drop i vs ≡ v ∷ drop (i + 1) vs
first_choice vs i v h e = drop-cons vs i v h ∙ ap (λ w. w ∷ drop (suc i) vs) (sym e) ∙ ap (λ n. v ∷ drop n vs) (sym (add-one i))

module _ {S : Type 0} (write : S → List ℕ → S) where
  pub field_fed : (fs : List StructField) (i : ℕ) (f : StructField) (s t u : S) → i < length fs → f ≡ get_or fs i f →
      t ≡ fold write s (fed.str f.name) → u ≡ fold write t (type_writes (type_of f.dtype)) →
      fold write u (fields_writes (fields_of (drop (i + 1) fs))) ≡ fold write s (fields_writes (fields_of (drop i fs)))
  field_fed fs i f s t u h e p q =
      let rest = fields_writes (fields_of (drop (i + 1) fs)) in
      let split : fields_writes (fields_of (drop i fs)) ≡ fed.str f.name ++ type_writes (type_of f.dtype) ++ rest
      = ap (λ gs. fields_writes (fields_of gs)) (first_left fs i f h e) ∙ ap (λ n. fed.str n.0 ++ type_writes n.1 ++ rest) (field_of-parts f) in
      ap (λ v. fold write v rest) (q ∙ ap (λ v. fold write v (type_writes (type_of f.dtype))) p)
      ∙ sym (fold-append write (fold write s (fed.str f.name)) (type_writes (type_of f.dtype)) rest)
      ∙ sym (ap (fold write s) split)

  pub choice_fed : (vs : List UnionVariant) (i : ℕ) (v : UnionVariant) (s t r u : S) → i < length vs → v ≡ get_or vs i v →
      t ≡ fold write s (fed.str v.name) → r ≡ fold write t (fed.i8 v.tag) → u ≡ fold write r (type_writes (type_of v.dtype)) →
      fold write u (variants_writes (variants_of (drop (i + 1) vs))) ≡ fold write s (variants_writes (variants_of (drop i vs)))
  choice_fed vs i v s t r u h e p q o =
      let rest = variants_writes (variants_of (drop (i + 1) vs)) in
      let split : variants_writes (variants_of (drop i vs)) ≡ fed.str v.name ++ fed.i8 v.tag ++ type_writes (type_of v.dtype) ++ rest
      = ap (λ ws. variants_writes (variants_of ws)) (first_choice vs i v h e) ∙ ap (λ n. fed.str n.0 ++ fed.i8 n.1.0 ++ type_writes n.1.1 ++ rest) (variant_of-parts v) in
      ap (λ x. fold write x rest) (o ∙ ap (λ x. fold write x (type_writes (type_of v.dtype))) (q ∙ ap (λ x. fold write x (fed.i8 v.tag)) p))
      ∙ sym (fold-append write (fold write (fold write s (fed.str v.name)) (fed.i8 v.tag)) (type_writes (type_of v.dtype)) rest)
      ∙ sym (ap (fold write s) split)

pub ruleset writes = (levels, fold-append)
