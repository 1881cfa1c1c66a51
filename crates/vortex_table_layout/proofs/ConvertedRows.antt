-- Rows converted one by one, and chunks of them.
use Rattle.std.proofs.Common.{◌≡◌, refl, sym, ◌∙◌, ap, subst, ℕ, zero, suc, ◌+◌, ◌<◌, ◌≤◌, List, [], ◌∷◌, ◌++◌, length, take, drop, get_or, map, flat_map, Bool, true, false, ◌&&◌, Option, Some, None, if◌then◌else◌, add-zero, inl, inr, arith}
use Rattle.std.specs.List.{list_all}
use Rattle.std.proofs.lemmas.List.{drop_more, map_more, take_more, map-append}
use Rattle.std.proofs.lemmas.List.Folds.{list_all-append}
use Rattle.std.proofs.lemmas.List.Sums.{sum_by-append}
use Rattle.std.specs.Cmp.{first_so, second_so}
use Rattle.vortex_model.specs.LogicalType.{LogicalType}
use Rattle.vortex_model.specs.Content.{Content}
use Rattle.vortex_model.specs.Convert.{converts}
use Rattle.vortex_model.specs.Refusal.{Refusal, not_convertible, or_else}
use Rattle.vortex_model_table.specs.Command.{unless, first_unconvertible}
use Rattle.vortex_arrays_model.specs.Layout.{Layout, len_of, content_at, rows_of}
use Rattle.vortex_arrays_model.proofs.RowsLemmas.{row_at_position, row_count as rows_counted}
use Rattle.vortex_scalar_value.specs.declared.scalar_value.ScalarValue.{ScalarValue}
use Rattle.vortex_table_schema.specs.Rows.{row_content}
use Rattle.vortex_table_chunk.specs.Chunk.{chunk_rows, row_count}
use Rattle.vortex_table_chunk.specs.declared.chunk.Chunk.{Chunk}
use Rattle.vortex_table_schema.specs.Error.{Explains}
use Rattle.vortex_table_schema.specs.declared.error.TableError.{TableError}
use Rattle.vortex_table_schema.specs.declared.error.TableError.TheVariants as error
use Rattle.vortex_table_schema.proofs.Appends.{judged}
use Rattle.vortex_table_schema.proofs.Explained.{explained_first}
use Rattle.vortex_arrays_builder.specs.TooLarge.{AreTooLarge}
use Rattle.vortex_table_layout.specs.AnyTooLarge.{AnyTooLarge}

-- one more for which the test holds
pub all_pushed : {X : Type 0} (p : X → Bool) (old new : List X) (x : X) → new ≡ old ++ x ∷ [] → list_all p old ≡ true → p x ≡ true → list_all p new ≡ true
all_pushed p old new x made h g = ap (list_all p) made ∙ list_all-append p old (x ∷ []) ∙ (λ i. h i && (g i && true))

-- the row at this index
module _ (s t : LogicalType) (first : ℕ) (rows : List Content) (i : ℕ) (row : Content) (inside : i < length rows) (is : row ≡ get_or rows i row) where
  abbrev does : Bool
  does = converts s t row

  abbrev behind : Option Refusal
  behind = first_unconvertible (first + (i + 1)) s t (drop (i + 1) rows)

  from_here : first_unconvertible (first + i) s t (drop i rows) ≡ or_else (unless does (not_convertible (first + i))) behind
  from_here =
      let next : suc (first + i) ≡ first + (i + 1) = omega arith in
      ap (first_unconvertible (first + i) s t) (drop_more rows i row inside ∙ ap (λ r. r ∷ drop (i + 1) rows) (sym is))
      ∙ ap (λ n. if does then first_unconvertible n s t (drop (i + 1) rows) else Some (not_convertible (first + i))) next
      ∙ sym (judged does (not_convertible (first + i)) behind)

  pub row_refused : (all : Option Refusal) (e : TableError) → first_unconvertible (first + i) s t (drop i rows) ≡ all → Explains ⊥ (unless does (not_convertible (first + i))) e → Explains ⊥ all e
  row_refused all e left why = subst (λ f. Explains ⊥ f e) (sym from_here ∙ left) (explained_first ⊥ (unless does (not_convertible (first + i))) behind e why)

  pub row_passed : (all : Option Refusal) → does ≡ true → first_unconvertible (first + i) s t (drop i rows) ≡ all → behind ≡ all
  row_passed all h left = ap (λ b. or_else (unless b (not_convertible (first + i))) behind) (sym h) ∙ sym from_here ∙ left

  pub row_kept : (old new : List ScalarValue) (made : ScalarValue) → new ≡ old ++ made ∷ [] → map row_content old ≡ take i rows → row_content made ≡ row → map row_content new ≡ take (i + 1) rows
  row_kept old new made pushed h g =
      ap (map row_content) pushed ∙ map-append row_content old (made ∷ []) ∙ (λ j. h j ++ g j ∷ [])
      ∙ sym (take_more rows i row inside ∙ ap (λ r. take i rows ++ r ∷ []) (sym is))

-- all rows of an array
module _ (a : Layout) (i : ℕ) (inside : i < len_of a) where
  pub row_within : i < length (rows_of a)
  row_within = subst (λ n. i < n) (sym (rows_counted a)) inside

  pub row_is : content_at a i ≡ get_or (rows_of a) i (content_at a i)
  row_is = sym (row_at_position a i (content_at a i) inside)

-- all of which can be converted
pub all_convertible : (n : ℕ) (s t : LogicalType) (rows : List Content) → list_all (converts s t) rows ≡ true → first_unconvertible n s t rows ≡ None
all_convertible n s t [] h = refl
all_convertible n s t (c ∷ cs) h =
    (λ i. if first_so (converts s t c) (list_all (converts s t) cs) h i then first_unconvertible (suc n) s t cs else Some (not_convertible n))
    ∙ all_convertible (suc n) s t cs (second_so (converts s t c) (list_all (converts s t) cs) h)

-- ---- chunks

pub unconvertible_on : (n : ℕ) (s t : LogicalType) (xs ys : List Content) → first_unconvertible n s t (xs ++ ys) ≡ or_else (first_unconvertible n s t xs) (first_unconvertible (n + length xs) s t ys)
unconvertible_on n s t [] ys = ap (λ m. first_unconvertible m s t ys) (sym (add-zero n))
unconvertible_on n s t (c ∷ cs) ys = by_test (converts s t c) (unconvertible_on (suc n) s t cs ys)
  where
    by_test : (b : Bool) → first_unconvertible (suc n) s t (cs ++ ys) ≡ or_else (first_unconvertible (suc n) s t cs) (first_unconvertible (suc n + length cs) s t ys) →
        ◌≡◌ {A = Option Refusal} (if b then first_unconvertible (suc n) s t (cs ++ ys) else Some (not_convertible n))
        (or_else (if b then first_unconvertible (suc n) s t cs else Some (not_convertible n)) (first_unconvertible (n + length (c ∷ cs)) s t ys))
    by_test true more =
        let next : suc n + length cs ≡ n + length (c ∷ cs) = omega arith in
        more ∙ ap (λ m. or_else (first_unconvertible (suc n) s t cs) (first_unconvertible m s t ys)) next
    by_test false more = refl

abbrev pub all_rows : List Chunk → List Content
all_rows chunks = flat_map (λ chunk. chunk) (map chunk_rows chunks)

pub one_count : (c : Chunk) (chunks : List Chunk) → row_count (c ∷ chunks) ≡ len_of c.array + row_count chunks
one_count c chunks =
    let n : ℕ = len_of c.array in let m : ℕ = row_count chunks in
    let one : row_count (c ∷ chunks) ≡ (0 + n) + m = sum_by-append (λ (x : Chunk). len_of x.array) (c ∷ []) chunks in
    omega (arith, one)

count_on : (xs ys : List Chunk) → row_count (xs ++ ys) ≡ row_count xs + row_count ys
count_on xs ys = sum_by-append (λ (x : Chunk). len_of x.array) xs ys

-- a chunk that is too large
some_chunk : (k : LogicalType) (chunks : List Chunk) (i : ℕ) (c : Chunk) → i < length chunks → c ≡ get_or chunks i c → AreTooLarge k (chunk_rows c) → AnyTooLarge k (map chunk_rows chunks)
some_chunk k [] i c inside is h = absurd (omega (arith, inside))
some_chunk k (x ∷ chunks) zero c inside is h = inl (subst (λ y. AreTooLarge k (chunk_rows y)) is h)
some_chunk k (x ∷ chunks) (suc i) c inside is h = inr (some_chunk k chunks i c (omega (arith, inside)) is h)

-- an explanation of the first refusal explains both, with another cause of a total
first_of_more : (P Q : Type 0) (p q : Option Refusal) (e : TableError) → (P → Q) → Explains P p e → Explains Q (or_else p q) e
first_of_more P Q p q error.Memory f h = tt
first_of_more P Q p q error.Total f h = f h
first_of_more P Q p q error.RuleFault f h = absurd h
first_of_more P Q p q e f h = ap (λ o. or_else o q) h

pub explained_more : (P Q : Type 0) (p : Option Refusal) (e : TableError) → (P → Q) → Explains P p e → Explains Q p e
explained_more P Q p error.Memory f h = tt
explained_more P Q p error.Total f h = f h
explained_more P Q p e f h = h

-- the chunk at this index
module _ (s t : LogicalType) (chunks : List Chunk) (i : ℕ) (c : Chunk) (inside : i < length chunks) (is : c ≡ get_or chunks i c) (first : ℕ) (counted : first ≡ row_count (take i chunks)) where
  next_is : drop i chunks ≡ c ∷ drop (i + 1) chunks
  next_is = drop_more chunks i c inside ∙ ap (λ x. x ∷ drop (i + 1) chunks) (sym is)

  pub count_more : first + len_of c.array ≡ row_count (take (i + 1) chunks)
  count_more =
      let more : row_count (take (i + 1) chunks) ≡ row_count (take i chunks) + row_count (c ∷ []) =
      ap row_count (take_on chunks i c inside is) ∙ count_on (take i chunks) (c ∷ []) in
      let one = one_count c [] in let none : row_count [] ≡ 0 = refl in
      omega (arith, more, one, none, counted)
    where
      take_on : (cs : List Chunk) (j : ℕ) (d : Chunk) → j < length cs → d ≡ get_or cs j d → take (j + 1) cs ≡ take j cs ++ d ∷ []
      take_on cs j d h e = take_more cs j d h ∙ ap (λ y. take j cs ++ y ∷ []) (sym e)

  pub within : first + len_of c.array ≤ row_count chunks
  within =
      let all : row_count (take (i + 1) chunks) + row_count (drop (i + 1) chunks) ≡ row_count chunks = sym (count_on (take (i + 1) chunks) (drop (i + 1) chunks)) ∙ ap row_count (together (i + 1) chunks) in
      let more = count_more in omega (arith, all, more)
    where
      together : (n : ℕ) (cs : List Chunk) → take n cs ++ drop n cs ≡ cs
      together zero cs = refl
      together (suc n) [] = refl
      together (suc n) (x ∷ cs) = ap (λ l. x ∷ l) (together n cs)

  abbrev rest : Option Refusal
  rest = first_unconvertible (first + len_of c.array) s t (all_rows (drop (i + 1) chunks))

  from_chunk : first_unconvertible first s t (all_rows (drop i chunks)) ≡ or_else (first_unconvertible first s t (chunk_rows c)) rest
  from_chunk =
      ap (λ cs. first_unconvertible first s t (all_rows cs)) next_is ∙ unconvertible_on first s t (chunk_rows c) (all_rows (drop (i + 1) chunks))
      ∙ ap (λ n. or_else (first_unconvertible first s t (chunk_rows c)) (first_unconvertible (first + n) s t (all_rows (drop (i + 1) chunks)))) (rows_counted c.array)

  pub chunk_refused : (k : LogicalType) (all : Option Refusal) (e : TableError) → first_unconvertible first s t (all_rows (drop i chunks)) ≡ all →
      Explains (AreTooLarge k (chunk_rows c)) (first_unconvertible first s t (chunk_rows c)) e → Explains (AnyTooLarge k (map chunk_rows chunks)) all e
  chunk_refused k all e left why = subst (λ f. Explains (AnyTooLarge k (map chunk_rows chunks)) f e) (sym from_chunk ∙ left)
      (first_of_more (AreTooLarge k (chunk_rows c)) (AnyTooLarge k (map chunk_rows chunks)) (first_unconvertible first s t (chunk_rows c)) rest e (some_chunk k chunks i c inside is) why)

  pub chunk_tested : (all : Option Refusal) (e : TableError) → first_unconvertible first s t (all_rows (drop i chunks)) ≡ all → Explains ⊥ (first_unconvertible first s t (chunk_rows c)) e → Explains ⊥ all e
  chunk_tested all e left why = subst (λ f. Explains ⊥ f e) (sym from_chunk ∙ left) (first_of_more ⊥ ⊥ (first_unconvertible first s t (chunk_rows c)) rest e (λ x. x) why)

  pub chunk_passed : (all : Option Refusal) → first_unconvertible first s t (chunk_rows c) ≡ None → first_unconvertible first s t (all_rows (drop i chunks)) ≡ all → rest ≡ all
  chunk_passed all none left = sym (ap (λ f. or_else f rest) none) ∙ sym from_chunk ∙ left

  pub chunk_kept : (old new : List Chunk) (made : Chunk) → new ≡ old ++ made ∷ [] → map chunk_rows old ≡ map chunk_rows (take i chunks) → chunk_rows made ≡ chunk_rows c →
      map chunk_rows new ≡ map chunk_rows (take (i + 1) chunks)
  chunk_kept old new made pushed h g =
      ap (map chunk_rows) pushed ∙ map_pushed old made ∙ (λ j. h j ++ g j ∷ [])
      ∙ sym (map_more chunk_rows chunks i c inside ∙ ap (λ r. map chunk_rows (take i chunks) ++ chunk_rows r ∷ []) (sym is))
    where
      map_pushed : (xs : List Chunk) (x : Chunk) → map chunk_rows (xs ++ x ∷ []) ≡ map chunk_rows xs ++ chunk_rows x ∷ []
      map_pushed [] x = refl
      map_pushed (y ∷ xs) x = ap (λ l. chunk_rows y ∷ l) (map_pushed xs x)
