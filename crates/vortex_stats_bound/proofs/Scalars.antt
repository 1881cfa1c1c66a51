-- Scalars: which compare, and which are equal.
use Rattle.std.proofs.Common.{◌≡◌, refl, sym, ◌∙◌, ap, Bool, true, false, ◌&&◌, inl, inr, Option, None, is_some, if◌then◌else◌}
use Rattle.std.specs.declared.cmp.Ordering.{Ordering}
use Rattle.std.specs.declared.cmp.Ordering.TheVariants.{Equal}
use Rattle.std.proofs.lemmas.Bool.{not-true}
use Rattle.vortex_model.specs.LogicalType.{bare, stored, equal_ignoring_nullability}
use Rattle.vortex_model.specs.Valid.{IsContent}
use Rattle.vortex_model.specs.Order.{content_cmp}
use Rattle.vortex_model_table.proofs.Chains.{tied}
use Rattle.vortex_model.proofs.Contents.{said}
use Rattle.vortex_model.proofs.Tests.{kind_so, has_so}
use Rattle.vortex_dtype_fields.proofs.Lawful.{equal_equiv}
use Rattle.vortex_scalar_ops.specs.Equality.{eq_content, has_variant}
use Rattle.vortex_scalar_ops.proofs.Compared.{type_compares}
use Rattle.vortex_scalar_ops.proofs.EqualityLemmas.{eq_equiv}
use Rattle.vortex_scalar_core.specs.Scalar.{scalar_type, scalar_raw, scalar_content}
use Rattle.vortex_scalar_core.specs.Equality.{eq_scalar, eq_scalar_equiv}
use Rattle.vortex_scalar_core.specs.declared.scalar.Scalar.{Scalar}
use Rattle.vortex_stats_bound.specs.Laws.{Agree, ComparesInGroups}
use Rattle.vortex_stats_bound.specs.ScalarOrder.{scalar_order, is_plain, test_of, answer_of}

-- scalars that compare as equal are equal
pub agreeing : (s t : Scalar) → Agree scalar_order s t → eq_scalar s t ≡ true
agreeing s t (inl e) = ap (λ u. eq_scalar s u) (sym e) ∙ eq_scalar_equiv.refl s
agreeing s t (inr e) =
    let k = scalar_type s in let l = scalar_type t in
    let c = scalar_content s in let d = scalar_content t in
    let types : equal_ignoring_nullability k l ≡ true = test_of (equal_ignoring_nullability k l) (content_cmp c d) Equal e in
    let one : c ≡ d = tied c d (answer_of (equal_ignoring_nullability k l) (content_cmp c d) Equal e) in
    let same : eq_content c d ≡ true = ap (λ x. eq_content c x) (sym one) ∙ eq_equiv.refl c in
    λ i. types i && same i

-- ---- values of types without Variant

some_test : (b : Bool) (o : Option Ordering) → is_some (if b then o else None) ≡ true → b ≡ true
some_test true o h = refl
some_test false o h = h

is_content : (s : Scalar) → IsContent (scalar_type s) (scalar_content s)
is_content s = said (stored (scalar_type s)) (scalar_raw s) (has_so (stored (scalar_type s)) (scalar_raw s) s.is_valid)

pub plain_grouped : ComparesInGroups scalar_order is_plain
plain_grouped s t u x y z h g =
    let k = scalar_type s in let l = scalar_type t in let m = scalar_type u in
    let first : equal_ignoring_nullability k l ≡ true = some_test (equal_ignoring_nullability k l) (content_cmp (scalar_content s) (scalar_content t)) h in
    let second : equal_ignoring_nullability l m ≡ true = some_test (equal_ignoring_nullability l m) (content_cmp (scalar_content t) (scalar_content u)) g in
    let both : equal_ignoring_nullability k m ≡ true = equal_equiv.congr k l m first ∙ second in
    let compared : is_some (content_cmp (scalar_content s) (scalar_content u)) ≡ true =
    type_compares k m (scalar_content s) (scalar_content u) (kind_so (bare k) (bare m) both) (not-true (has_variant k) x) (is_content s) (is_content u) in
    ap (λ b. is_some (if b then content_cmp (scalar_content s) (scalar_content u) else None)) both ∙ compared
