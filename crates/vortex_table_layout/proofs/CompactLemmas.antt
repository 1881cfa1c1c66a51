-- Arrays whose list views are rebuilt.
use Rattle.std.proofs.Common.{◌≡◌, ◌<◌, ℕ, zero, suc, cond, List, [], ◌∷◌, length, get_or, refl, sym, ap, subst, ◌∙◌, arith, inl, inr}
use Rattle.vortex_model.specs.LogicalType.{struct, field}
use Rattle.vortex_model.specs.Content.{null, tuple, first}
use Rattle.vortex_arrays_view.specs.declared.error.ArrayError.{ArrayError}
use Rattle.vortex_arrays_view.specs.declared.error.ArrayError.TheVariants as error
use Rattle.vortex_arrays_model.specs.Layout.{Layout, list_views, records, Valid, Columns, no_columns, column, len_of, array_type_of, fields_of, nullability_by, content_at, is_valid, row_at, rows_of, IsSound, HaveLength}
use Rattle.vortex_arrays_model.specs.Parts.{columns_of}
use Rattle.vortex_arrays_model.proofs.PicksLemmas.{field_size}
use Rattle.vortex_arrays_model.proofs.RebuiltLemmas.{rebuilt_rows, rebuilt_kind}
use Rattle.vortex_arrays_model.proofs.RowsLemmas.{row_at_position, row_count, rows_by_position}
use Rattle.vortex_arrays_nested.specs.ListViews.{IsListViews}
use Rattle.vortex_arrays_rebuild.specs.Rebuilds.{IsRebuiltView, IsTotalFault}
use Rattle.vortex_table_layout.specs.Compacted.{IsCompacted, AreCompacted, HaveTooManyItems, IsWholeFault, IsColumnsFault}
use Rattle.vortex_table_layout.proofs.MadeColumns.{FirstMade, first_none, first_more, first_many, first_fit}

-- ---- parts that don't change

pub compacted_len : (a b : Layout) → IsCompacted a b → len_of b ≡ len_of a
compacted_len (list_views e o s f v) b h = sym (row_count b) ∙ ap length (rebuilt_rows e o s f v b h) ∙ row_count (list_views e o s f v)
compacted_len (records cs n v) (records ds m w) h = h.0
compacted_len (records cs n v) b h = absurd h
compacted_len a b h = ap len_of h

mutual
  pub compacted_type : (a b : Layout) → IsCompacted a b → array_type_of b ≡ array_type_of a
  compacted_type (list_views e o s f v) b h = rebuilt_kind e o s f v b h
  compacted_type (records cs n v) (records ds m w) h = λ t. struct (compacted_fields cs ds h.2 t) (nullability_by (h.1 t))
  compacted_type (records cs n v) b h = absurd h
  compacted_type a b h = ap array_type_of h

  compacted_fields : (cs ds : Columns) → AreCompacted cs ds → fields_of ds ≡ fields_of cs
  compacted_fields no_columns no_columns h = refl
  compacted_fields (column x a cs) (column y b ds) h = λ t. field (h.0 t) (compacted_type a b h.1 t) (compacted_fields cs ds h.2 t)
  compacted_fields cs ds h = absurd h

mutual
  compacted_content : (a b : Layout) → IsSound a → IsCompacted a b → (i : ℕ) → i < len_of a → content_at b i ≡ content_at a i
  compacted_content (list_views e o s f v) b sound h i l =
      let rows = rebuilt_rows e o s f v b h in
      sym (row_at_position b i null (subst (λ n. i < n) (sym (compacted_len (list_views e o s f v) b h)) l)) ∙ ap (λ rs. get_or rs i null) rows ∙ row_at_position (list_views e o s f v) i null l
  compacted_content (records cs n v) (records ds m w) sound h i l = λ t. cond (is_valid (h.1 t) i) (tuple (compacted_row cs ds n sound.0 h.2 i l t)) null
  compacted_content (records cs n v) b sound h i l = absurd h
  compacted_content a b sound h i l = ap (λ x. content_at x i) h

  compacted_row : (cs ds : Columns) (n : ℕ) → HaveLength cs n → AreCompacted cs ds → (i : ℕ) → i < n → row_at ds i ≡ row_at cs i
  compacted_row no_columns no_columns n fit h i l = refl
  compacted_row (column x a cs) (column y b ds) n fit h i l =
      λ t. first (compacted_content a b fit.0 h.1 i (subst (λ m. i < m) (sym fit.1) l) t) (compacted_row cs ds n fit.2 h.2 i l t)
  compacted_row cs ds n fit h i l = absurd h

pub compacted_rows : (a b : Layout) → IsSound a → IsCompacted a b → rows_of b ≡ rows_of a
compacted_rows a b sound h =
    let same : len_of b ≡ len_of a = compacted_len a b h in
    rows_by_position b (rows_of a) (row_count a ∙ sym same) (λ i l.
    let within : i < len_of a = subst (λ n. i < n) same l in
    row_at_position a i null within ∙ sym (compacted_content a b sound h i within))

pub ruleset kept = (compacted_rows, compacted_type)

-- ---- list views

pub lists_made : (a r : Layout) → IsListViews a → IsRebuiltView a r → IsCompacted a r
lists_made (list_views e o s f v) r t h = h
lists_made a r t h = absurd t

pub lists_fault : (x : ArrayError) (a : Layout) → IsListViews a → IsTotalFault x a → IsWholeFault x a
lists_fault error.Memory a t h = tt
lists_fault error.Total (list_views e o s f v) t h = h
lists_fault error.Total a t h = absurd t
lists_fault x a t h = absurd h

pub no_memory : (x : ArrayError) (a : Layout) → x ≡ error.Memory → IsWholeFault x a
no_memory x a h = subst (λ y. IsWholeFault y a) (sym h) tt

-- ---- struct arrays

pub records_made : (a : Layout) (cs ds : Columns) (n : ℕ) (v : Valid) → a ≡ records cs n v → AreCompacted cs ds → IsCompacted a (records ds n v)
records_made a cs ds n v e h = subst (λ x. IsCompacted x (records ds n v)) (sym e) (refl, refl, h)

pub records_fault : (x : ArrayError) (a : Layout) (cs : Columns) (n : ℕ) (v : Valid) → a ≡ records cs n v → IsColumnsFault x cs → IsWholeFault x a
records_fault error.Memory a cs n v e h = tt
records_fault error.Total a cs n v e h = subst (λ x. IsWholeFault error.Total x) (sym e) h
records_fault x a cs n v e h = absurd h

pub ruleset layouts = (lists_made, lists_fault, records_made, records_fault, no_memory)

-- ---- the columns, one after another

all_compacted : (ns : List (List ℕ)) (fs xs : List Layout) → length xs ≡ length fs → ((k : ℕ) (d : Layout) → k < length fs → IsCompacted (get_or fs k d) (get_or xs k d)) → AreCompacted (columns_of ns fs) (columns_of ns xs)
all_compacted ns [] (x ∷ xs) e h = absurd (omega (arith, e))
all_compacted ns (a ∷ fs) [] e h = absurd (omega (arith, e))
all_compacted [] [] [] e h = tt
all_compacted (y ∷ ns) [] [] e h = tt
all_compacted [] (a ∷ fs) (x ∷ xs) e h = (refl, h 0 a (omega arith), all_compacted [] fs xs (omega (arith, e)) (λ k d l. h (suc k) d (omega arith)))
all_compacted (y ∷ ns) (a ∷ fs) (x ∷ xs) e h = (refl, h 0 a (omega arith), all_compacted ns fs xs (omega (arith, e)) (λ k d l. h (suc k) d (omega arith)))

pub first_all : (ns : List (List ℕ)) (fs : List Layout) (n : ℕ) (xs : List Layout) → FirstMade IsCompacted fs n xs → n ≡ length fs → AreCompacted (columns_of ns fs) (columns_of ns xs)
first_all ns fs n xs h e = all_compacted ns fs xs (h.many ∙ e) (λ k d l. h.each k d (omega (arith, l, e)))

pub compacted_fit : (ns : List (List ℕ)) (fs : List Layout) (n m : ℕ) (xs : List Layout) → FirstMade IsCompacted fs n xs → n ≡ length fs → HaveLength (columns_of ns fs) m → HaveLength (columns_of ns xs) m
compacted_fit ns fs n m xs h e fit = first_fit IsCompacted compacted_len ns fs n m xs h e fit

too_many_there : (ns : List (List ℕ)) (fs : List Layout) (k : ℕ) (a : Layout) → k < length fs → a ≡ get_or fs k a → IsWholeFault error.Total a → HaveTooManyItems (columns_of ns fs)
too_many_there ns [] k a l e h = absurd (omega arith)
too_many_there [] (b ∷ fs) zero a l e h = inl (subst (IsWholeFault error.Total) e h)
too_many_there (x ∷ ns) (b ∷ fs) zero a l e h = inl (subst (IsWholeFault error.Total) e h)
too_many_there [] (b ∷ fs) (suc k) a l e h = inr (too_many_there [] fs k a (omega (arith, l)) e h)
too_many_there (x ∷ ns) (b ∷ fs) (suc k) a l e h = inr (too_many_there ns fs k a (omega (arith, l)) e h)

pub field_fault : (x : ArrayError) (ns : List (List ℕ)) (fs : List Layout) (k : ℕ) (a : Layout) → k < length fs → a ≡ get_or fs k a → IsWholeFault x a → IsColumnsFault x (columns_of ns fs)
field_fault error.Memory ns fs k a l e h = tt
field_fault error.Total ns fs k a l e h = too_many_there ns fs k a l e h
field_fault x ns fs k a l e h = absurd h

pub no_memory_there : (x : ArrayError) (cs : Columns) → x ≡ error.Memory → IsColumnsFault x cs
no_memory_there x cs h = subst (λ y. IsColumnsFault y cs) (sym h) tt

pub ruleset fields = (first_none, first_more, first_all, compacted_fit, first_many, field_fault, no_memory_there, field_size)
