-- Equality, order and hash of views without parts are lawful.
use Rattle.std.proofs.Common.{◌≡◌, ◌++◌, pos, Bool, true, false, if◌then◌else◌, Option, Some, None, option_map, refl, ap, ◌∙◌, subst}
use Rattle.std.specs.Option.{option_eq, option_cmp}
use Rattle.std.specs.declared.cmp.Ordering.{Ordering}
use Rattle.std.specs.declared.cmp.Ordering.TheVariants.{Less, Equal}
use Rattle.std.specs.Ordering.{on, eq_by_cmp, as_partial_cmp, partial_ordering_then, ordering_reverse, nat_cmp, int_cmp, bool_cmp, int_eq}
use Rattle.std.specs.Cmp.{IsEquivalence, IsPartialOrder, IsTotalOrder, and_equiv, on_equiv, on_total, on_po, then_po, po, int_eq_equiv, int_cmp_total, bool_cmp_total, booleans_Decides, signed_Decides}
use Rattle.std.specs.Cmp.Lexicographic.{slice_cmp, bytes_decides, options_equiv, options_total, nat_list_cmp_total, texts_ties}
use Rattle.std.specs.Hash.{Alike, same_Alike, on_Alike, second_alike, HashWrites}
use Rattle.std.specs.Hash as fed
use Rattle.std.proofs.Math.Bool.{beq}
use Rattle.vortex_model.specs.LogicalType.{bare, equal_ignoring_nullability}
use Rattle.vortex_dtype_core.specs.Equal.{eq_type_equiv}
use Rattle.vortex_scalar_views.specs.Equal.{bool_of_view, numbers_type, number_of_view, text_of_view, bytes_of_view, eq_booleans, eq_texts, eq_bytes, eq_numbers}
use Rattle.vortex_scalar_views.specs.Ordered.{booleans_cmp, texts_cmp, bytes_cmp, numbers_cmp, boolean_writes, number_writes, text_writes, bytes_writes}
use Rattle.vortex_scalar_views.specs.declared.bool_scalar.BoolScalar.{BoolScalar}
use Rattle.vortex_scalar_views.specs.declared.primitive_scalar.PrimitiveScalar.{PrimitiveScalar}
use Rattle.vortex_scalar_views.specs.declared.utf8_scalar.Utf8Scalar.{Utf8Scalar}
use Rattle.vortex_scalar_views.specs.declared.binary_scalar.BinaryScalar.{BinaryScalar}

-- ---- equality of integers with their types

kinds_equiv : IsEquivalence equal_ignoring_nullability
kinds_equiv = on_equiv bare eq_type_equiv

pub numbers_equiv : IsEquivalence eq_numbers
numbers_equiv = and_equiv (on_equiv numbers_type kinds_equiv)
    (on_equiv number_of_view (options_equiv int_eq_equiv))

-- ---- order

-- an equality by an order stays one for options
module _ {K : Type 0} {E : K → K → Bool} (R : K → K → Ordering) (ties : (x y : K) →
    E x y ≡ eq_by_cmp R x y) where
  options_ties : (p q : Option K) → option_eq E p q ≡ eq_by_cmp (option_cmp R) p q
  options_ties None None = refl
  options_ties None (Some y) = refl
  options_ties (Some x) None = refl
  options_ties (Some x) (Some y) = ties x y

bools_tie : (a b : Bool) → beq a b ≡ eq_by_cmp bool_cmp a b
bools_tie true true = refl
bools_tie true false = refl
bools_tie false true = refl
bools_tie false false = refl

pub booleans_total : IsTotalOrder booleans_cmp
booleans_total = on_total bool_of_view (options_total bool_cmp_total)

pub booleans_ties : (v w : BoolScalar) → eq_booleans v w ≡ eq_by_cmp booleans_cmp v w
booleans_ties v w = options_ties bool_cmp bools_tie (bool_of_view v) (bool_of_view w)

pub booleans_po : IsPartialOrder eq_booleans (as_partial_cmp booleans_cmp)
booleans_po = po booleans_total booleans_ties

pub texts_total : IsTotalOrder texts_cmp
texts_total = on_total text_of_view (options_total nat_list_cmp_total)

pub texts_of_views_ties : (v w : Utf8Scalar) → eq_texts v w ≡ eq_by_cmp texts_cmp v w
texts_of_views_ties v w =
    options_ties (slice_cmp nat_cmp) texts_ties (text_of_view v) (text_of_view w)

pub texts_of_views_po : IsPartialOrder eq_texts (as_partial_cmp texts_cmp)
texts_of_views_po = po texts_total texts_of_views_ties

pub bytes_total : IsTotalOrder bytes_cmp
bytes_total = on_total bytes_of_view (options_total nat_list_cmp_total)

pub bytes_ties : (v w : BinaryScalar) → eq_bytes v w ≡ eq_by_cmp bytes_cmp v w
bytes_ties v w = options_ties (slice_cmp nat_cmp) texts_ties (bytes_of_view v) (bytes_of_view w)

pub bytes_po : IsPartialOrder eq_bytes (as_partial_cmp bytes_cmp)
bytes_po = po bytes_total bytes_ties

-- An equivalence is a partial order without items that are below others.
module _ {K : Type 0} {E : K → K → Bool} (e : IsEquivalence E) where
  abbrev tied : Bool → Option Ordering
  tied b = if b then Some Equal else None

  tied_back : (b : Bool) → tied b ≡ option_map ordering_reverse (tied b)
  tied_back true = refl
  tied_back false = refl

  never_below : {G : Type 0} (b : Bool) → tied b ≡ Some Less → G
  never_below true h = absurd (cc (h))
  never_below false h = absurd (cc (h))

  tied_so : (b : Bool) → tied b ≡ Some Equal → b ≡ true
  tied_so true h = refl
  tied_so false h = absurd (cc (h))

  tied_po : IsPartialOrder E (λ x y. if E x y then Some Equal else None)
  tied_po = record {
    antisymm = λ x y. ap tied (e.symm x y) ∙ tied_back (E y x);
    trans = λ x y z h g. never_below (E x y) h;
    matches_eq = λ x y. (λ h. ap tied h, λ h. tied_so (E x y) h);
    congr = λ x y z h. ap tied (e.congr x y z h);
  }

either_way : (b : Bool) (o : Ordering) →
    partial_ordering_then (if b then Some Equal else None) (Some o) ≡ (if b then Some o else None)
either_way true o = refl
either_way false o = refl

pub numbers_po : IsPartialOrder eq_numbers numbers_cmp
numbers_po =
    let types : IsPartialOrder (on numbers_type equal_ignoring_nullability)
    (on numbers_type (λ k l. if equal_ignoring_nullability k l then Some Equal else None)) =
    on_po numbers_type (tied_po kinds_equiv) in
    let integers : IsPartialOrder (option_eq int_eq) (as_partial_cmp (option_cmp int_cmp)) =
    po (options_total int_cmp_total) (options_ties int_cmp (λ x y. refl)) in
    subst (IsPartialOrder eq_numbers)
    (λ i v w. either_way (equal_ignoring_nullability (numbers_type v) (numbers_type w))
    (option_cmp int_cmp (number_of_view v) (number_of_view w)) i)
    (then_po types (on_po number_of_view integers))

-- ---- hash

options_alike : {K : Type 0} {E : K → K → Bool} {F : K → HashWrites} → Alike E F →
    Alike (option_eq E) (fed.option F)
options_alike {K} {E} {F} a = record { fed = both } where
  both : (p q : Option K) → option_eq E p q ≡ true → fed.option F p ≡ fed.option F q
  both None None h = refl
  both None (Some y) h = absurd (cc (h))
  both (Some x) None h = absurd (cc (h))
  both (Some x) (Some y) h = ap (λ ws. fed.isize (pos 1) ++ ws) (a.fed x y h)

pub booleans_alike : (v w : BoolScalar) → eq_booleans v w ≡ true →
    boolean_writes v ≡ boolean_writes w
booleans_alike = (on_Alike bool_of_view (options_alike (same_Alike fed.bool booleans_Decides))).fed

pub numbers_alike : (v w : PrimitiveScalar) → eq_numbers v w ≡ true →
    number_writes v ≡ number_writes w
numbers_alike = (second_alike (on numbers_type equal_ignoring_nullability)
    (on_Alike number_of_view (options_alike (same_Alike fed.i128 signed_Decides)))).fed

pub texts_alike : (v w : Utf8Scalar) → eq_texts v w ≡ true → text_writes v ≡ text_writes w
texts_alike = (on_Alike text_of_view (options_alike (same_Alike fed.str bytes_decides))).fed

pub bytes_alike : (v w : BinaryScalar) → eq_bytes v w ≡ true → bytes_writes v ≡ bytes_writes w
bytes_alike =
    (on_Alike bytes_of_view (options_alike (same_Alike (fed.slice fed.u8) bytes_decides))).fed
