-- Entries of bound lengths that are judged one by one.
use Rattle.std.proofs.Common.{◌≡◌, refl, sym, ◌∙◌, ap, subst, ℕ, zero, suc, ◌+◌, ◌<◌, ◌≤◌, List, [], ◌∷◌, ◌++◌, length, take, drop, get_or, map, Bool, true, false, ◌||◌, Option, Some, None, if◌then◌else◌, add-one, arith}
use Rattle.std.specs.List.{list_any}
use Rattle.std.proofs.lemmas.List.{drop_more, map_more}
use Rattle.vortex_model.specs.LogicalType.{LogicalType}
use Rattle.vortex_model.specs.Path.{Positions, Step, eq_positions}
use Rattle.vortex_model.specs.Refusal.{Refusal, repeated_path, or_else}
use Rattle.vortex_model.proofs.Lists.{map_twice}
use Rattle.vortex_model_table.specs.Command.{positions_of, path_fault, leaf_fault, entry_fault, entries_fault}
use Rattle.vortex_dtype_path.specs.View.{steps_of}
use Rattle.vortex_dtype_path.specs.declared.path.FieldPath.{FieldPath}
use Rattle.vortex_table_schema.proofs.Places.{positions_so, positions_itself}
use Rattle.vortex_table_schema.specs.Error.{Explains}
use Rattle.vortex_table_schema.specs.Lengths.{entries_in}
use Rattle.vortex_table_schema.specs.declared.error.TableError.{TableError}
use Rattle.vortex_table_schema.proofs.Explained.{explained_first}

-- the positions of these entries, the last first, before those of earlier ones
abbrev pub backwards : List Positions → List (Positions × ℕ) → List Positions
backwards earlier [] = earlier
backwards earlier (e ∷ entries) = backwards (e.0 ∷ earlier) entries

one_before : (earlier : List Positions) (entries : List (Positions × ℕ)) (e : Positions × ℕ) → backwards earlier (entries ++ e ∷ []) ≡ e.0 ∷ backwards earlier entries
one_before earlier [] e = refl
one_before earlier (x ∷ entries) e = one_before (x.0 ∷ earlier) entries e

moved_over : (a b c : Bool) → (a || b) || c ≡ b || (a || c)
moved_over true true c = refl
moved_over true false c = refl
moved_over false b c = refl

or_false : (b : Bool) → b ≡ b || false
or_false true = refl
or_false false = refl

any_backwards : (p : Positions → Bool) (earlier : List Positions) (entries : List (Positions × ℕ)) → list_any p (backwards earlier entries) ≡ list_any p earlier || list_any p (map (λ e. e.0) entries)
any_backwards p earlier [] = or_false (list_any p earlier)
any_backwards p earlier (e ∷ entries) = any_backwards p (e.0 ∷ earlier) entries ∙ moved_over (p e.0) (list_any p earlier) (list_any p (map (λ e. e.0) entries))

-- what is kept of an entry
abbrev pub kept_entry : LogicalType → FieldPath × ℕ → Positions × ℕ
kept_entry k entry = (positions_of k (steps_of entry.0), entry.1)

-- the entry at this index, after those that are kept
module _ (k : LogicalType) (lengths : List (FieldPath × ℕ)) (i : ℕ) (entry : FieldPath × ℕ) (inside : i < length lengths) (is : entry ≡ get_or lengths i entry) (entries : List (Positions × ℕ)) where
  abbrev earlier : List Positions
  earlier = map (λ (e : Positions × ℕ). e.0) entries

  abbrev fault : Option Refusal
  fault = entry_fault i k earlier (steps_of entry.0)

  abbrev rest : Option Refusal
  rest = entries_fault (i + 1) k (positions_of k (steps_of entry.0) ∷ backwards [] entries) (entries_in (drop (i + 1) lengths))

  from_here : entries_fault i k (backwards [] entries) (entries_in (drop i lengths)) ≡ or_else fault rest
  from_here =
      ap (λ es. entries_fault i k (backwards [] entries) (entries_in es)) (drop_more lengths i entry inside ∙ ap (λ e. e ∷ drop (i + 1) lengths) (sym is))
      ∙ (λ j.
      or_else (or_else (path_fault i k (steps_of entry.0)) (or_else (leaf_fault k (steps_of entry.0))
      (if any_backwards (eq_positions (positions_of k (steps_of entry.0))) [] entries j then Some (repeated_path i) else None)))
      (entries_fault (sym (add-one i) j) k (positions_of k (steps_of entry.0) ∷ backwards [] entries) (entries_in (drop (i + 1) lengths))))

  pub entry_refused : (all : Option Refusal) (e : TableError) → entries_fault i k (backwards [] entries) (entries_in (drop i lengths)) ≡ all → Explains ⊥ fault e → Explains ⊥ all e
  entry_refused all e left why = subst (λ f. Explains ⊥ f e) (sym from_here ∙ left) (explained_first ⊥ fault rest e why)

  pub left_behind : (all : Option Refusal) (new : List (Positions × ℕ)) → new ≡ entries ++ kept_entry k entry ∷ [] → fault ≡ None → entries_fault i k (backwards [] entries) (entries_in (drop i lengths)) ≡ all →
      entries_fault (i + 1) k (backwards [] new) (entries_in (drop (i + 1) lengths)) ≡ all
  left_behind all new made none left =
      ap (λ es. entries_fault (i + 1) k es (entries_in (drop (i + 1) lengths))) (ap (backwards []) made ∙ one_before [] entries (kept_entry k entry))
      ∙ sym (ap (λ f. or_else f rest) none) ∙ sym from_here ∙ left

  pub kept_more : (new : List (Positions × ℕ)) → new ≡ entries ++ kept_entry k entry ∷ [] → entries ≡ map (kept_entry k) (take i lengths) → new ≡ map (kept_entry k) (take (i + 1) lengths)
  kept_more new made kept =
      made ∙ ap (λ es. es ++ kept_entry k entry ∷ []) kept
      ∙ sym (map_more (kept_entry k) lengths i entry inside ∙ ap (λ e. map (kept_entry k) (take i lengths) ++ kept_entry k e ∷ []) (sym is))

all_taken : {X : Type 0} (xs : List X) (i : ℕ) → length xs ≤ i → take i xs ≡ xs
all_taken [] zero h = refl
all_taken [] (suc i) h = refl
all_taken (x ∷ xs) zero h = absurd (omega (arith, h))
all_taken (x ∷ xs) (suc i) h = ap (λ l. x ∷ l) (all_taken xs i (omega (arith, h)))

-- all of them
pub all_kept : (k : LogicalType) (lengths : List (FieldPath × ℕ)) (i : ℕ) (entries : List (Positions × ℕ)) → length lengths ≤ i → entries ≡ map (kept_entry k) (take i lengths) →
    entries ≡ map (λ entry. (positions_of k entry.0, entry.1)) (entries_in lengths)
all_kept k lengths i entries past kept =
    kept ∙ ap (map (kept_entry k)) (all_taken lengths i past)
    ∙ sym (map_twice (λ (entry : List Step × ℕ). (positions_of k entry.0, entry.1)) (λ (entry : FieldPath × ℕ). (steps_of entry.0, entry.1)) lengths)

-- ---- among the positions of entries

swapped : (is js : Positions) → eq_positions is js ≡ eq_positions js is
swapped is js = by_tests (eq_positions is js) (eq_positions js is) refl refl
  where
    turned : (xs ys : Positions) → eq_positions xs ys ≡ true → eq_positions ys xs ≡ true
    turned xs ys e = ap (eq_positions ys) (positions_so xs ys e) ∙ positions_itself ys

    by_tests : (a b : Bool) → eq_positions is js ≡ a → eq_positions js is ≡ b → eq_positions is js ≡ eq_positions js is
    by_tests true b e f = e ∙ sym (turned is js e)
    by_tests false false e f = e ∙ sym f
    by_tests false true e f = turned js is f ∙ sym f

module _ (is : Positions) (entries : List (Positions × ℕ)) (i : ℕ) (e : Positions × ℕ) (all : Bool) (inside : i < length entries) (here : e ≡ get_or entries i e)
    (left : list_any (eq_positions is) (map (λ (e : Positions × ℕ). e.0) (drop i entries)) ≡ all) where
  next_is : drop i entries ≡ e ∷ drop (i + 1) entries
  next_is = drop_more entries i e inside ∙ ap (λ x. x ∷ drop (i + 1) entries) (sym here)

  from_entry : (b : Bool) → b ≡ eq_positions e.0 is → b || list_any (eq_positions is) (map (λ (e : Positions × ℕ). e.0) (drop (i + 1) entries)) ≡ all
  from_entry b h =
      ap (λ t. t || list_any (eq_positions is) (map (λ (e : Positions × ℕ). e.0) (drop (i + 1) entries))) (h ∙ swapped e.0 is)
      ∙ sym (ap (λ es. list_any (eq_positions is) (map (λ (e : Positions × ℕ). e.0) es)) next_is) ∙ left

  pub found_here : (b : Bool) → b ≡ eq_positions e.0 is → b ≡ true → true ≡ all
  found_here b h does = ap (λ t. t || list_any (eq_positions is) (map (λ (e : Positions × ℕ). e.0) (drop (i + 1) entries))) (sym does) ∙ from_entry b h

  pub passed_over : (b : Bool) → b ≡ eq_positions e.0 is → b ≡ false → list_any (eq_positions is) (map (λ (e : Positions × ℕ). e.0) (drop (i + 1) entries)) ≡ all
  passed_over b h fails = ap (λ t. t || list_any (eq_positions is) (map (λ (e : Positions × ℕ). e.0) (drop (i + 1) entries))) (sym fails) ∙ from_entry b h
