-- Comparisons of the values of two columns.
use Rattle.std.proofs.Common.{◌≡◌, refl, sym, ap, ◌∙◌, Bool, true, false, ◌&&◌, ℕ, ℤ, pos, suc, List, [], ◌∷◌, map, replicate, length, Option, Some, None, min}
use Rattle.std.specs.List.{zip}
use Rattle.std.specs.Ordering.{int_cmp, bool_cmp}
use Rattle.vortex_model.specs.Content.{Content, null, boolean, integer, text, byte_string}
use Rattle.vortex_model_table.specs.Expression.{Comparison}
use Rattle.vortex_model.specs.Order.{bytes_cmp}
use Rattle.vortex_model_table.specs.Truth.{test_of, compared, is_true}
use Rattle.std.proofs.lemmas.List.{length-map}
use Rattle.std.proofs.lemmas.Slice.Zip.{length-zip}
use Rattle.vortex_stats_mask.specs.Integers.{integers_in}
use Rattle.vortex_stats_mask.specs.Columns.{values_of, contents_of, are_bools, are_numbers, are_texts, are_binaries, shown_at, shown, kept}
use Rattle.vortex_stats_mask.specs.declared.column.Items.{Items}
use Rattle.vortex_stats_mask.specs.declared.column.Items.TheVariants.{Bools, Numbers, Texts, Binaries}

-- what is made of two lists that are made of others
pub through_both : {A B C D E : Type 0} (f : C → D → E) (g : A → C) (h : B → D) (xs : List A) (ys : List B) → map (λ p. f p.0 p.1) (zip (map g xs) (map h ys)) ≡ map (λ p. f (g p.0) (h p.1)) (zip xs ys)
through_both f g h [] ys = refl
through_both f g h (x ∷ xs) [] = refl
through_both f g h (x ∷ xs) (y ∷ ys) = ap (λ es. f (g x) (h y) ∷ es) (through_both f g h xs ys)

module _ (op : Comparison) where
  abbrev passes : Content → Content → Bool
  passes c d = is_true (compared op c d)

  pub bools_paired : (xs ys : List Bool) → map (λ p. is_true (compared op p.0 p.1)) (zip (map boolean xs) (map boolean ys)) ≡ map (λ p. test_of op (bool_cmp p.0 p.1)) (zip xs ys)
  bools_paired [] ys = refl
  bools_paired (x ∷ xs) [] = refl
  bools_paired (x ∷ xs) (y ∷ ys) = ap (λ es. test_of op (bool_cmp x y) ∷ es) (bools_paired xs ys)

  pub integers_paired : (xs ys : List ℤ) → map (λ p. is_true (compared op p.0 p.1)) (zip (map integer xs) (map integer ys)) ≡ map (λ p. test_of op (int_cmp p.0 p.1)) (zip xs ys)
  integers_paired [] ys = refl
  integers_paired (x ∷ xs) [] = refl
  integers_paired (x ∷ xs) (y ∷ ys) = ap (λ es. test_of op (int_cmp x y) ∷ es) (integers_paired xs ys)

  pub texts_paired : (xs ys : List (List ℕ)) → map (λ p. is_true (compared op p.0 p.1)) (zip (map text xs) (map text ys)) ≡ map (λ p. test_of op (bytes_cmp p.0 p.1)) (zip xs ys)
  texts_paired [] ys = refl
  texts_paired (x ∷ xs) [] = refl
  texts_paired (x ∷ xs) (y ∷ ys) = ap (λ es. test_of op (bytes_cmp x y) ∷ es) (texts_paired xs ys)

  pub byte_strings_paired : (xs ys : List (List ℕ)) → map (λ p. is_true (compared op p.0 p.1)) (zip (map byte_string xs) (map byte_string ys)) ≡ map (λ p. test_of op (bytes_cmp p.0 p.1)) (zip xs ys)
  byte_strings_paired [] ys = refl
  byte_strings_paired (x ∷ xs) [] = refl
  byte_strings_paired (x ∷ xs) (y ∷ ys) = ap (λ es. test_of op (bytes_cmp x y) ∷ es) (byte_strings_paired xs ys)

  pub naturals_paired : (xs ys : List ℕ) → map (λ p. test_of op (int_cmp p.0 p.1)) (zip (map pos xs) (map pos ys)) ≡ map (λ p. test_of op (int_cmp (pos p.0) (pos p.1))) (zip xs ys)
  naturals_paired xs ys = through_both (λ x y. test_of op (int_cmp x y)) pos pos xs ys

  -- where no value compares with one of the other column
  pub never_paired : {A B : Type 0} (g : A → Content) (h : B → Content) → ((x : A) (y : B) → is_true (compared op (g x) (h y)) ≡ false) → (xs : List A) (ys : List B) → map (λ p. is_true (compared op p.0 p.1)) (zip (map g xs) (map h ys)) ≡ replicate (length (zip xs ys)) false
  never_paired g h e [] ys = refl
  never_paired g h e (x ∷ xs) [] = refl
  never_paired g h e (x ∷ xs) (y ∷ ys) = λ i. e x y i ∷ never_paired g h e xs ys i

  never_counted : {A B : Type 0} (g : A → Content) (h : B → Content) → ((x : A) (y : B) → is_true (compared op (g x) (h y)) ≡ false) → (xs : List A) (ys : List B) → map (λ p. is_true (compared op p.0 p.1)) (zip (map g xs) (map h ys)) ≡ replicate (min (length xs) (length (map h ys))) false
  never_counted g h e xs ys = never_paired g h e xs ys ∙ ap (λ n. replicate n false) (length-zip xs ys ∙ ap (min (length xs)) (sym (length-map ys h)))

  pub bools_with_others : (xs : List Bool) (right : Items) → are_bools right ≡ false → map (λ p. is_true (compared op p.0 p.1)) (zip (map boolean xs) (contents_of right)) ≡ replicate (min (length xs) (length (contents_of right))) false
  bools_with_others xs (Bools bs) h = absurd (cc (h))
  bools_with_others xs (Numbers ns) h = never_counted boolean integer (λ x y. refl) xs (integers_in ns)
  bools_with_others xs (Texts s) h = never_counted boolean text (λ x y. refl) xs (values_of s)
  bools_with_others xs (Binaries s) h = never_counted boolean byte_string (λ x y. refl) xs (values_of s)

  pub numbers_with_others : (xs : List ℤ) (right : Items) → are_numbers right ≡ false → map (λ p. is_true (compared op p.0 p.1)) (zip (map integer xs) (contents_of right)) ≡ replicate (min (length xs) (length (contents_of right))) false
  numbers_with_others xs (Bools bs) h = never_counted integer boolean (λ x y. refl) xs bs.now
  numbers_with_others xs (Numbers ns) h = absurd (cc (h))
  numbers_with_others xs (Texts s) h = never_counted integer text (λ x y. refl) xs (values_of s)
  numbers_with_others xs (Binaries s) h = never_counted integer byte_string (λ x y. refl) xs (values_of s)

  pub texts_with_others : (xs : List (List ℕ)) (right : Items) → are_texts right ≡ false → map (λ p. is_true (compared op p.0 p.1)) (zip (map text xs) (contents_of right)) ≡ replicate (min (length xs) (length (contents_of right))) false
  texts_with_others xs (Bools bs) h = never_counted text boolean (λ x y. refl) xs bs.now
  texts_with_others xs (Numbers ns) h = never_counted text integer (λ x y. refl) xs (integers_in ns)
  texts_with_others xs (Texts s) h = absurd (cc (h))
  texts_with_others xs (Binaries s) h = never_counted text byte_string (λ x y. refl) xs (values_of s)

  pub binaries_with_others : (xs : List (List ℕ)) (right : Items) → are_binaries right ≡ false → map (λ p. is_true (compared op p.0 p.1)) (zip (map byte_string xs) (contents_of right)) ≡ replicate (min (length xs) (length (contents_of right))) false
  binaries_with_others xs (Bools bs) h = never_counted byte_string boolean (λ x y. refl) xs bs.now
  binaries_with_others xs (Numbers ns) h = never_counted byte_string integer (λ x y. refl) xs (integers_in ns)
  binaries_with_others xs (Texts s) h = never_counted byte_string text (λ x y. refl) xs (values_of s)
  binaries_with_others xs (Binaries s) h = absurd (cc (h))

  -- ---- nulls

  left_null : (d : Content) → is_true (compared op null d) ≡ false
  left_null d = refl

  right_null : (c : Content) → is_true (compared op c null) ≡ false
  right_null null = refl
  right_null c = refl

  left_valid : (vs : List Bool) (cs ds : List Content) → map (λ p. is_true (compared op p.0 p.1)) (zip (map (λ p. shown_at p.0 p.1) (zip vs cs)) ds) ≡ map (λ p. p.0 && p.1) (zip vs (map (λ p. is_true (compared op p.0 p.1)) (zip cs ds)))
  left_valid [] cs ds = refl
  left_valid (v ∷ vs) [] ds = refl
  left_valid (v ∷ vs) (c ∷ cs) [] = refl
  left_valid (true ∷ vs) (c ∷ cs) (d ∷ ds) = ap (λ es. is_true (compared op c d) ∷ es) (left_valid vs cs ds)
  left_valid (false ∷ vs) (c ∷ cs) (d ∷ ds) = ap (λ es. false ∷ es) (left_valid vs cs ds)

  right_valid : (vs : List Bool) (cs ds : List Content) → map (λ p. is_true (compared op p.0 p.1)) (zip cs (map (λ p. shown_at p.0 p.1) (zip vs ds))) ≡ map (λ p. p.0 && p.1) (zip vs (map (λ p. is_true (compared op p.0 p.1)) (zip cs ds)))
  right_valid [] [] ds = refl
  right_valid [] (c ∷ cs) ds = refl
  right_valid (v ∷ vs) [] ds = refl
  right_valid (v ∷ vs) (c ∷ cs) [] = refl
  right_valid (true ∷ vs) (c ∷ cs) (d ∷ ds) = ap (λ es. is_true (compared op c d) ∷ es) (right_valid vs cs ds)
  right_valid (false ∷ vs) (c ∷ cs) (d ∷ ds) = λ i. right_null c i ∷ right_valid vs cs ds i

  pub left_shown : (o : Option (List Bool)) (cs ds : List Content) → map (λ p. is_true (compared op p.0 p.1)) (zip (shown o cs) ds) ≡ kept o (map (λ p. is_true (compared op p.0 p.1)) (zip cs ds))
  left_shown None cs ds = refl
  left_shown (Some vs) cs ds = left_valid vs cs ds

  pub right_shown : (o : Option (List Bool)) (cs ds : List Content) → map (λ p. is_true (compared op p.0 p.1)) (zip cs (shown o ds)) ≡ kept o (map (λ p. is_true (compared op p.0 p.1)) (zip cs ds))
  right_shown None cs ds = refl
  right_shown (Some vs) cs ds = right_valid vs cs ds
