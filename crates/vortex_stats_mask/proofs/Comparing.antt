-- Comparisons of values of one form with a literal.
use Rattle.std.proofs.Common.{◌≡◌, refl, ap, Bool, true, false, ℕ, ℤ, List, [], ◌∷◌, map, replicate, length, Option, Some, None, ◌∙◌}
use Rattle.std.specs.Ordering.{int_cmp, bool_cmp}
use Rattle.vortex_model.specs.Content.{Content, null, boolean, integer, text, byte_string, tuple, tagged, scalar}
use Rattle.vortex_model_table.specs.Expression.{Comparison}
use Rattle.vortex_model.specs.Order.{bytes_cmp}
use Rattle.vortex_model_table.specs.Truth.{test_of, compared, is_true}
use Rattle.vortex_stats_bind.specs.OperandValue.{boolean_in}
use Rattle.vortex_stats_mask.specs.Literals.{integer_in, text_in, bytes_in}

-- ---- where the literal is of the form

unwrap : {A : Type 0} {a b : A} → Some a ≡ Some b → a ≡ b
unwrap h = cc (h)

module _ (op : Comparison) where
  pub bools_compared : (b : Bool) (bs : List Bool) → map (λ c. is_true (compared op c (boolean b))) (map boolean bs) ≡ map (λ a. test_of op (bool_cmp a b)) bs
  bools_compared b [] = refl
  bools_compared b (a ∷ bs) = ap (λ r. test_of op (bool_cmp a b) ∷ r) (bools_compared b bs)

  pub integers_compared : (z : ℤ) (zs : List ℤ) → map (λ c. is_true (compared op c (integer z))) (map integer zs) ≡ map (λ a. test_of op (int_cmp a z)) zs
  integers_compared z [] = refl
  integers_compared z (a ∷ zs) = ap (λ r. test_of op (int_cmp a z) ∷ r) (integers_compared z zs)

  pub texts_compared : (t : List ℕ) (ts : List (List ℕ)) → map (λ c. is_true (compared op c (text t))) (map text ts) ≡ map (λ a. test_of op (bytes_cmp a t)) ts
  texts_compared t [] = refl
  texts_compared t (a ∷ ts) = ap (λ r. test_of op (bytes_cmp a t) ∷ r) (texts_compared t ts)

  pub byte_strings_compared : (t : List ℕ) (ts : List (List ℕ)) → map (λ c. is_true (compared op c (byte_string t))) (map byte_string ts) ≡ map (λ a. test_of op (bytes_cmp a t)) ts
  byte_strings_compared t [] = refl
  byte_strings_compared t (a ∷ ts) = ap (λ r. test_of op (bytes_cmp a t) ∷ r) (byte_strings_compared t ts)

  -- ---- where it isn't

  never : (f : Content → Bool) {A : Type 0} (g : A → Content) → ((x : A) → f (g x) ≡ false) → (xs : List A) → map f (map g xs) ≡ replicate (length xs) false
  never f g h [] = refl
  never f g h (x ∷ xs) = λ i. h x i ∷ never f g h xs i

  bool_not : (d : Content) → boolean_in d ≡ None → (b : Bool) → is_true (compared op (boolean b) d) ≡ false
  bool_not (boolean a) h b = absurd (cc (h))
  bool_not null h b = refl
  bool_not (integer z) h b = refl
  bool_not (text t) h b = refl
  bool_not (byte_string t) h b = refl
  bool_not (tuple cs) h b = refl
  bool_not (tagged t c) h b = refl
  bool_not (scalar k c) h b = refl

  pub bools_never : (d : Content) → boolean_in d ≡ None → (bs : List Bool) → map (λ c. is_true (compared op c d)) (map boolean bs) ≡ replicate (length bs) false
  bools_never d h bs = never (λ c. is_true (compared op c d)) boolean (bool_not d h) bs

  integer_not : (d : Content) → integer_in d ≡ None → (z : ℤ) → is_true (compared op (integer z) d) ≡ false
  integer_not (integer a) h z = absurd (cc (h))
  integer_not null h z = refl
  integer_not (boolean b) h z = refl
  integer_not (text t) h z = refl
  integer_not (byte_string t) h z = refl
  integer_not (tuple cs) h z = refl
  integer_not (tagged t c) h z = refl
  integer_not (scalar k c) h z = refl

  pub integers_never : (d : Content) → integer_in d ≡ None → (zs : List ℤ) → map (λ c. is_true (compared op c d)) (map integer zs) ≡ replicate (length zs) false
  integers_never d h zs = never (λ c. is_true (compared op c d)) integer (integer_not d h) zs

  text_not : (d : Content) → text_in d ≡ None → (t : List ℕ) → is_true (compared op (text t) d) ≡ false
  text_not (text a) h t = absurd (cc (h))
  text_not null h t = refl
  text_not (boolean b) h t = refl
  text_not (integer z) h t = refl
  text_not (byte_string a) h t = refl
  text_not (tuple cs) h t = refl
  text_not (tagged u c) h t = refl
  text_not (scalar k c) h t = refl

  pub texts_never : (d : Content) → text_in d ≡ None → (ts : List (List ℕ)) → map (λ c. is_true (compared op c d)) (map text ts) ≡ replicate (length ts) false
  texts_never d h ts = never (λ c. is_true (compared op c d)) text (text_not d h) ts

  bytes_not : (d : Content) → bytes_in d ≡ None → (t : List ℕ) → is_true (compared op (byte_string t) d) ≡ false
  bytes_not (byte_string a) h t = absurd (cc (h))
  bytes_not null h t = refl
  bytes_not (boolean b) h t = refl
  bytes_not (integer z) h t = refl
  bytes_not (text a) h t = refl
  bytes_not (tuple cs) h t = refl
  bytes_not (tagged u c) h t = refl
  bytes_not (scalar k c) h t = refl

  pub byte_strings_never : (d : Content) → bytes_in d ≡ None → (ts : List (List ℕ)) → map (λ c. is_true (compared op c d)) (map byte_string ts) ≡ replicate (length ts) false
  byte_strings_never d h ts = never (λ c. is_true (compared op c d)) byte_string (bytes_not d h) ts

-- ---- by the form of the literal

module _ (op : Comparison) where
  pub bools_by : (d : Content) (b : Bool) → boolean_in d ≡ Some b → (bs : List Bool) → map (λ c. is_true (compared op c d)) (map boolean bs) ≡ map (λ a. test_of op (bool_cmp a b)) bs
  bools_by (boolean a) b h bs = (λ i. map (λ c. is_true (compared op c (boolean (unwrap h i)))) (map boolean bs)) ∙ bools_compared op b bs
  bools_by d b h bs = absurd (cc (h))

  pub integers_by : (d : Content) (z : ℤ) → integer_in d ≡ Some z → (zs : List ℤ) → map (λ c. is_true (compared op c d)) (map integer zs) ≡ map (λ a. test_of op (int_cmp a z)) zs
  integers_by (integer a) z h zs = (λ i. map (λ c. is_true (compared op c (integer (unwrap h i)))) (map integer zs)) ∙ integers_compared op z zs
  integers_by d z h zs = absurd (cc (h))

  pub texts_by : (d : Content) (t : List ℕ) → text_in d ≡ Some t → (ts : List (List ℕ)) → map (λ c. is_true (compared op c d)) (map text ts) ≡ map (λ a. test_of op (bytes_cmp a t)) ts
  texts_by (text a) t h ts = (λ i. map (λ c. is_true (compared op c (text (unwrap h i)))) (map text ts)) ∙ texts_compared op t ts
  texts_by d t h ts = absurd (cc (h))

  pub byte_strings_by : (d : Content) (t : List ℕ) → bytes_in d ≡ Some t → (ts : List (List ℕ)) → map (λ c. is_true (compared op c d)) (map byte_string ts) ≡ map (λ a. test_of op (bytes_cmp a t)) ts
  byte_strings_by (byte_string a) t h ts = (λ i. map (λ c. is_true (compared op c (byte_string (unwrap h i)))) (map byte_string ts)) ∙ byte_strings_compared op t ts
  byte_strings_by d t h ts = absurd (cc (h))
