-- Rows by codes, and masks of the values spread over them.
use Rattle.std.proofs.Common.{◌≡◌, refl, sym, ap, ◌∙◌, ◌<◌, ◌≤◌, ◌+◌, ℕ, zero, suc, ℤ, pos, negsuc, Bool, true, false, List, [], ◌∷◌, length, map, get_or, replicate, subst, arith}
use Rattle.std.specs.List.{range_with_len}
use Rattle.std.specs.Prelude.{◌<ℤ◌, ◌≤ℤ◌}
use Rattle.std.proofs.lemmas.Int.{ints}
use Rattle.std.proofs.lemmas.List.{get_or_past}
use Rattle.vortex_model.specs.Content.{Content, null, boolean, integer, text, byte_string, tuple, tagged, scalar}
use Rattle.vortex_model.proofs.Lists.{map_twice}
use Rattle.vortex_model_table.specs.Expression.{Comparison}
use Rattle.vortex_model_table.specs.Truth.{compared, is_true, liked}
use Rattle.vortex_arrays_model.specs.Layout.{Layout, dictionary, len_of, content_at, rows_of, pick, IsCode}
use Rattle.vortex_arrays_model.specs.Parts.{AreWithin}
use Rattle.vortex_arrays_model.proofs.RowsLemmas.{row_at_position}
use Rattle.vortex_stats_mask.specs.Columns.{values_of, contents_of, are_numbers}
use Rattle.vortex_stats_mask.specs.Wanted.{is_wanted}
use Rattle.vortex_stats_mask.specs.declared.column.Items.{Items}
use Rattle.vortex_stats_mask.specs.declared.column.Items.TheVariants.{Bools, Numbers, Texts, Binaries}
use Rattle.vortex_stats_select.specs.Coded.{value_of_code, is_marked}

-- a test that null fails, of the value of a code
module _ (test : Content → Bool) (fails : false ≡ test null) where
  at_value : (values : List Content) (j : ℕ) → get_or (map test values) j false ≡ test (get_or values j null)
  at_value [] j = fails
  at_value (c ∷ cs) zero = refl
  at_value (c ∷ cs) (suc j) = at_value cs j

  at_code : (values : List Content) (c : Content) → is_marked (map test values) c ≡ test (value_of_code values c)
  at_code values (integer (pos j)) = at_value values j
  at_code values (integer (negsuc j)) = fails
  at_code values null = fails
  at_code values (boolean b) = fails
  at_code values (text t) = fails
  at_code values (byte_string t) = fails
  at_code values (tuple t) = fails
  at_code values (tagged t x) = fails
  at_code values (scalar t x) = fails

  -- so the mask of the values, spread, is that of the rows
  pub spread_is : (mask : List Bool) (values codes : List Content) → mask ≡ map test values → map (is_marked mask) codes ≡ map test (map (value_of_code values) codes)
  spread_is mask values codes e =
      (λ i. map (is_marked (e i)) codes) ∙ (λ i. map (λ c. at_code values c i) codes) ∙ sym (map_twice test (value_of_code values) codes)

-- the rows of a dictionary are the values of its codes
row_of_code : (v : Layout) (c : Content) → IsCode (len_of v) c → value_of_code (rows_of v) c ≡ pick c (λ j. content_at v j)
row_of_code v null h = refl
row_of_code v (integer (pos j)) h = row_at_position v j null h
row_of_code v (integer (negsuc j)) h = absurd h
row_of_code v (boolean b) h = absurd h
row_of_code v (text t) h = absurd h
row_of_code v (byte_string t) h = absurd h
row_of_code v (tuple t) h = absurd h
row_of_code v (tagged t x) h = absurd h
row_of_code v (scalar t x) h = absurd h

each_row : (v : Layout) (code : ℕ → Content) (i n : ℕ) → ((k : ℕ) → k < i + n → IsCode (len_of v) (code k)) →
    map (λ k. value_of_code (rows_of v) (code k)) (range_with_len i n) ≡ map (λ k. pick (code k) (λ j. content_at v j)) (range_with_len i n)
each_row v code i zero h = refl
each_row v code i (suc n) h =
    (λ t. row_of_code v (code i) (h i (omega arith)) t ∷ each_row v code (i + 1) n (λ k l. h k (omega (arith, l))) t)

pub coded_rows : (c v : Layout) (f : Bool) → AreWithin c (len_of v) → map (value_of_code (rows_of v)) (rows_of c) ≡ rows_of (dictionary c v f)
coded_rows c v f h =
    map_twice (value_of_code (rows_of v)) (content_at c) (range_with_len 0 (len_of c))
    ∙ each_row v (content_at c) 0 (len_of c) (λ k l. h k (let same : 0 + len_of c ≡ len_of c = omega arith in subst (λ n. k < n) same l))

-- null compares to nothing, is like nothing, and is not present
pub null_compares : (op : Comparison) (d : Content) → false ≡ is_true (compared op null d)
null_compares op d = refl

pub null_like : (want negated : Bool) (form : Content) → false ≡ is_wanted want (liked null form negated)
null_like true negated form = refl
null_like false negated form = refl

-- codes of an unsigned kind and of any
pub naturals_marked : (mask : List Bool) (xs : List ℕ) → map (λ x. is_marked mask (integer (pos x))) xs ≡ map (is_marked mask) (map integer (map pos xs))
naturals_marked mask [] = refl
naturals_marked mask (x ∷ xs) = ap (λ bs. is_marked mask (integer (pos x)) ∷ bs) (naturals_marked mask xs)

pub integers_marked : (mask : List Bool) (zs : List ℤ) → map (λ z. is_marked mask (integer z)) zs ≡ map (is_marked mask) (map integer zs)
integers_marked mask zs = sym (map_twice (is_marked mask) integer zs)

pub ruleset kinds = (naturals_marked, integers_marked)

-- the mark of a number
pub marked_below : (mask : List Bool) (z : ℤ) → z <ℤ pos 0 → false ≡ is_marked mask (integer z)
marked_below mask (pos j) h = absurd (grind (arith, ints, h))
marked_below mask (negsuc j) h = refl

pub marked_past : (mask : List Bool) (z : ℤ) → pos (length mask) ≤ℤ z → false ≡ is_marked mask (integer z)
marked_past mask (pos j) h = let past : length mask ≤ j = grind (arith, ints, h) in sym (get_or_past mask j false past)
marked_past mask (negsuc j) h = refl

pub marked_within : (mask : List Bool) (z : ℤ) (j : ℕ) → pos j ≡ z → get_or mask j false ≡ is_marked mask (integer z)
marked_within mask z j e = ap (λ z. is_marked mask (integer z)) e

pub ruleset marked = (marked_below, marked_past, marked_within)

-- items that aren't numbers have no marks
no_marks : {A : Type 0} (mask : List Bool) (g : A → Content) → ((x : A) → false ≡ is_marked mask (g x)) → (xs : List A) → replicate (length (map g xs)) false ≡ map (is_marked mask) (map g xs)
no_marks mask g h [] = refl
no_marks mask g h (x ∷ xs) = λ i. h x i ∷ no_marks mask g h xs i

pub unmarked_items : (mask : List Bool) (items : Items) → are_numbers items ≡ false → replicate (length (contents_of items)) false ≡ map (is_marked mask) (contents_of items)
unmarked_items mask (Bools bs) h = no_marks mask boolean (λ b. refl) bs.now
unmarked_items mask (Numbers ns) h = absurd (cc (h))
unmarked_items mask (Texts s) h = no_marks mask text (λ t. refl) (values_of s)
unmarked_items mask (Binaries s) h = no_marks mask byte_string (λ t. refl) (values_of s)
