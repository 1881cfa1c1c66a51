-- The order of contents, by `le`.
use Rattle.std.proofs.Common.{◌≡◌, refl, sym, ◌∙◌, ap, subst, Bool, true, false, not, ◌&&◌, ◌||◌, if◌then◌else◌, Option, Some, None, option_map, ◌⊎◌, inl, inr}
use Rattle.std.specs.declared.cmp.Ordering.{Ordering}
use Rattle.std.specs.declared.cmp.Ordering.TheVariants.{Less, Equal, Greater}
use Rattle.std.specs.Ordering.{int_cmp, ordering_reverse, is_gt, is_le}
use Rattle.std.specs.Cmp.{IsTotalOrder, bool_cmp_total, first_so, second_so}
use Rattle.std.proofs.lemmas.Cmp.{upto, int_cmp_total, nat_list_cmp_total}
use Rattle.vortex_model.specs.Content.{Content, null, boolean, integer, text, byte_string, tuple, tagged, scalar, Contents, nothing, first, is_null}
use Rattle.vortex_model.specs.Order.{content_cmp, contents_cmp, and_then, is_known, IsAtMost}
use Rattle.vortex_model_table.specs.Expression.{Comparison, equal, not_equal, greater, at_least, less, at_most as at_most_test}
use Rattle.vortex_model_table.specs.Truth.{test_of, compared}
use Rattle.vortex_model_table.proofs.Chains.{not_above_chain}

-- the contents compare, and the first is not above the second
abbrev pub le : Content → Content → Bool
le c d = is_known is_le (content_cmp c d)

-- ---- the order reversed

then_reversed : (p q : Option Ordering) → option_map ordering_reverse (and_then p q) ≡ and_then (option_map ordering_reverse p) (option_map ordering_reverse q)
then_reversed None q = refl
then_reversed (Some Less) q = refl
then_reversed (Some Equal) q = refl
then_reversed (Some Greater) q = refl

mutual
  pub reversed : (c d : Content) → content_cmp d c ≡ option_map ordering_reverse (content_cmp c d)
  reversed (boolean a) (boolean b) = ap (λ o. Some o) (bool_cmp_total.antisymm b a)
  reversed (integer a) (integer b) = ap (λ o. Some o) (int_cmp_total.antisymm b a)
  reversed (text a) (text b) = ap (λ o. Some o) (nat_list_cmp_total.antisymm b a)
  reversed (byte_string a) (byte_string b) = ap (λ o. Some o) (nat_list_cmp_total.antisymm b a)
  reversed (tuple cs) (tuple ds) = all_reversed cs ds
  reversed (tagged t c) (tagged u d) =
      (λ i. and_then (Some (int_cmp_total.antisymm u t i)) (reversed c d i)) ∙ sym (then_reversed (Some (int_cmp t u)) (content_cmp c d))
  reversed null null = refl
  reversed (scalar k c) null = refl
  reversed c d = refl

  all_reversed : (cs ds : Contents) → contents_cmp ds cs ≡ option_map ordering_reverse (contents_cmp cs ds)
  all_reversed (first c cs) (first d ds) =
      (λ i. and_then (reversed c d i) (all_reversed cs ds i)) ∙ sym (then_reversed (content_cmp c d) (contents_cmp cs ds))
  all_reversed nothing nothing = refl
  all_reversed cs ds = refl

-- ---- a bound, then a comparison, then a bound

le_not_gt : (o : Ordering) → is_le o ≡ not (is_gt o)
le_not_gt Less = refl
le_not_gt Equal = refl
le_not_gt Greater = refl

not_gt : (o : Ordering) → is_le o ≡ true → is_gt o ≡ false
not_gt Less h = refl
not_gt Equal h = refl
not_gt Greater h = absurd (cc (h))

pub le_trans : {K : Type 0} {R : K → K → Ordering} (o : IsTotalOrder R) (x y z : K) → is_le (R x y) ≡ true → is_le (R y z) ≡ true → is_le (R x z) ≡ true
le_trans {K} {R} o x y z h g = le_not_gt (R x z) ∙ ap not (upto o x y z (not_gt (R x y) h) (not_gt (R y z) g))

-- bounds are transitive
pub at_most_trans : (a b c : Content) → IsAtMost a b → IsAtMost b c → IsAtMost a c
at_most_trans (boolean a) (boolean b) (boolean c) h g = le_trans bool_cmp_total a b c h g
at_most_trans (integer a) (integer b) (integer c) h g = le_trans int_cmp_total a b c h g
at_most_trans (text a) (text b) (text c) h g = le_trans nat_list_cmp_total a b c h g
at_most_trans (byte_string a) (byte_string b) (byte_string c) h g = le_trans nat_list_cmp_total a b c h g
at_most_trans (boolean a) (boolean b) c h g = absurd (cc (g))
at_most_trans (integer a) (integer b) c h g = absurd (cc (g))
at_most_trans (text a) (text b) c h g = absurd (cc (g))
at_most_trans (byte_string a) (byte_string b) c h g = absurd (cc (g))
at_most_trans a b c h g = absurd (cc (h))

-- a is b, or compares with b and is not above it
abbrev pub Bounds : Content → Content → Type 0
Bounds a b = (a ≡ b) ⊎ (le a b ≡ true)

pub chain : (a b c d : Content) → Bounds a b → le b c ≡ true → Bounds c d → le a d ≡ true
chain a b c d p h q = to_end q (from_start p h)
  where
    from_start : Bounds a b → le b c ≡ true → le a c ≡ true
    from_start (inl e) h = subst (λ x. le x c ≡ true) (sym e) h
    from_start (inr g) h = not_above_chain a b c g h

    to_end : Bounds c d → le a c ≡ true → le a d ≡ true
    to_end (inl e) h = subst (λ x. le a x ≡ true) e h
    to_end (inr g) h = not_above_chain a c d h g

-- ---- comparisons by `le`

-- a comparison, from whether c ≤ d and whether d ≤ c
abbrev pub by_le : Comparison → Bool → Bool → Bool
by_le equal p q = p && q
by_le not_equal p q = not (p && q)
by_le less p q = not q
by_le at_most_test p q = p
by_le greater p q = not p
by_le at_least p q = q

test_by_le : (op : Comparison) (o : Ordering) → test_of op o ≡ by_le op (is_le o) (is_le (ordering_reverse o))
test_by_le equal Less = refl
test_by_le equal Equal = refl
test_by_le equal Greater = refl
test_by_le not_equal Less = refl
test_by_le not_equal Equal = refl
test_by_le not_equal Greater = refl
test_by_le less Less = refl
test_by_le less Equal = refl
test_by_le less Greater = refl
test_by_le at_most_test Less = refl
test_by_le at_most_test Equal = refl
test_by_le at_most_test Greater = refl
test_by_le greater Less = refl
test_by_le greater Equal = refl
test_by_le greater Greater = refl
test_by_le at_least Less = refl
test_by_le at_least Equal = refl
test_by_le at_least Greater = refl

-- the comparison is true: neither value is null, and they pass it
pub record Passes (op : Comparison) (c d : Content) : Type 0 where
  pub left : is_null c ≡ false
  pub right : is_null d ≡ false
  pub test : by_le op (le c d) (le d c) ≡ true

tested_so : (op : Comparison) (c d : Content) (p : Option Ordering) → content_cmp c d ≡ p →
    (elim p [ None ↦ null | Some o ↦ boolean (test_of op o) ]) ≡ boolean true → by_le op (le c d) (le d c) ≡ true
tested_so op c d None e h = absurd (cc (h))
tested_so op c d (Some o) e h =
    (λ i. by_le op (is_known is_le (e i)) (is_known is_le ((reversed c d ∙ ap (option_map ordering_reverse) e) i)))
    ∙ sym (test_by_le op o) ∙ true_so (test_of op o) h
  where
    true_so : (b : Bool) → boolean b ≡ boolean true → b ≡ true
    true_so true h = refl
    true_so false h = absurd (cc (h))

pub passing : (op : Comparison) (c d : Content) → compared op c d ≡ boolean true → Passes op c d
passing op c d h = by_nulls (is_null c) (is_null d) refl refl h
  where
    by_nulls : (m n : Bool) → is_null c ≡ m → is_null d ≡ n →
        (if m || n then null else (elim (content_cmp c d) [ None ↦ null | Some o ↦ boolean (test_of op o) ])) ≡ boolean true → Passes op c d
    by_nulls false false e f g = record { left = e; right = f; test = tested_so op c d (content_cmp c d) refl g }
    by_nulls true n e f g = absurd (cc (g))
    by_nulls false true e f g = absurd (cc (g))

-- ---- where bounds rule a comparison out, no values between them pass it

clash : (b : Bool) → b ≡ true → not b ≡ true → ⊥
clash true p q = absurd (cc (q))
clash false p q = absurd (cc (p))

-- v is between its low and its high, each of them where it isn't null
pub record Between (low high v : Content) : Type 0 where
  pub from : is_null low ≡ false → is_null v ≡ false → Bounds low v
  pub to : is_null high ≡ false → is_null v ≡ false → Bounds v high

module _ (a b c d x y : Content) (p : Between a b x) (q : Between c d y) where
  pub none_equal : Passes equal x y → Passes greater a d → ⊥
  none_equal e k = clash (le a d) (chain a x y d (p.from k.left e.left) (first_so (le x y) (le y x) e.test) (q.to k.right e.right)) k.test

  pub none_equal_back : Passes equal x y → Passes greater c b → ⊥
  none_equal_back e k = clash (le c b) (chain c y x b (q.from k.left e.right) (second_so (le x y) (le y x) e.test) (p.to k.right e.left)) k.test

  pub none_not_equal : Passes not_equal x y → Passes equal a d → Passes equal b c → ⊥
  none_not_equal e k m =
      let xy = chain x b c y (p.to m.left e.left) (first_so (le b c) (le c b) m.test) (q.from m.right e.right) in
      let yx = chain y d a x (q.to k.right e.right) (second_so (le a d) (le d a) k.test) (p.from k.left e.left) in
      clash (le x y && le y x) (λ i. xy i && yx i) e.test

  pub none_greater : Passes greater x y → Passes at_most_test b c → ⊥
  none_greater e k = clash (le x y) (chain x b c y (p.to k.left e.left) k.test (q.from k.right e.right)) e.test

  pub none_at_least : Passes at_least x y → Passes less b c → ⊥
  none_at_least e k = clash (le c b) (chain c y x b (q.from k.right e.right) e.test (p.to k.left e.left)) k.test

  pub none_less : Passes less x y → Passes at_least a d → ⊥
  none_less e k = clash (le y x) (chain y d a x (q.to k.right e.right) k.test (p.from k.left e.left)) e.test

  pub none_at_most : Passes at_most_test x y → Passes greater a d → ⊥
  none_at_most e k = clash (le a d) (chain a x y d (p.from k.left e.left) e.test (q.to k.right e.right)) k.test
