-- LIKE of the rows of a column of strings.
use Rattle.std.proofs.Common.{◌≡◌, refl, sym, ap, ◌∙◌, subst, ℕ, suc, ◌+◌, ◌<◌, Bool, true, false, not, ◌&&◌, List, [], ◌∷◌, length, get_or, map, IsUtf8, arith}
use Rattle.std.specs.Prelude.{if◌then◌else◌, Some, None}
use Rattle.std.specs.List.{zip, range_with_len}
use Rattle.vortex_model.specs.Content.{Content, null, boolean, text}
use Rattle.vortex_model_table.specs.Like.{has_backslash, is_like}
use Rattle.vortex_model_table.specs.Truth.{liked}
use Rattle.vortex_model.specs.Path.{Positions}
use Rattle.vortex_model.proofs.Lists.{map_twice}
use Rattle.vortex_stats_bind.specs.Bound.{Bound, place_of, Provided}
use Rattle.vortex_stats_bind.specs.Truths.{text_in}
use Rattle.vortex_arrays_model.specs.Layout.{Valid, strings, texts, is_valid, rows_of, IsSound}
use Rattle.vortex_arrays_view.specs.Views.{value_of}
use Rattle.vortex_stats_mask.specs.Columns.{shown_at}
use Rattle.vortex_stats_mask.specs.Headed.{AllValid}
use Rattle.vortex_stats_mask.specs.Wanted.{is_wanted}
use Rattle.vortex_stats_match.proofs.ByteLemmas.{bytes_like}
use Rattle.vortex_stats_match.specs.Fronts.{match_by_head}
use Rattle.vortex_stats_match.proofs.FrontLemmas.{match_is}
use Rattle.vortex_stats_match.proofs.HeadLemmas.{has_head}
use Rattle.vortex_stats_select.specs.Wants.{value_at, values_in, wanted_match}
use Rattle.vortex_stats_select.proofs.LeafLemmas.{strings_shown, told_where_valid}
use Rattle.vortex_stats_select.proofs.WantLemmas.{at_place, text_said}

pub as_is : (xs : List Bool) → map (wanted_match true false) xs ≡ xs
as_is [] = refl
as_is (x ∷ xs) = ap (λ ys. x ∷ ys) (as_is xs)

pub as_is_negated : (xs : List Bool) → map (wanted_match false true) xs ≡ xs
as_is_negated [] = refl
as_is_negated (x ∷ xs) = ap (λ ys. x ∷ ys) (as_is_negated xs)

pub the_others : (xs : List Bool) → map (wanted_match true true) xs ≡ map not xs
the_others [] = refl
the_others (x ∷ xs) = ap (λ ys. not x ∷ ys) (the_others xs)

pub the_others_kept : (xs : List Bool) → map (wanted_match false false) xs ≡ map not xs
the_others_kept [] = refl
the_others_kept (x ∷ xs) = ap (λ ys. not x ∷ ys) (the_others_kept xs)

pub ruleset unturned = (the_others, the_others_kept)

twice : (b : Bool) → b ≡ not (not b)
twice true = refl
twice false = refl

said : (form bs : List ℕ) (negated : Bool) → has_backslash form ≡ false →
    liked (text bs) (text form) negated ≡ (if negated then boolean (not (is_like form bs)) else boolean (is_like form bs))
said form bs negated h = ap (λ b. if b then null else (if negated then boolean (not (is_like form bs)) else boolean (is_like form bs))) h

row : (want negated v : Bool) (form bs : List ℕ) → has_backslash form ≡ false →
    (v && wanted_match want negated (is_like form bs)) ≡ is_wanted want (liked (shown_at v (text bs)) (text form) negated)
row true true true form bs h = sym (ap (is_wanted true) (said form bs true h))
row true false true form bs h = sym (ap (is_wanted true) (said form bs false h))
row false true true form bs h = twice (is_like form bs) ∙ sym (ap (is_wanted false) (said form bs true h))
row false false true form bs h = sym (ap (is_wanted false) (said form bs false h))
row true negated false form bs h = refl
row false negated false form bs h = refl

all_shown : {A : Type 0} (want negated : Bool) (form : List ℕ) (g : A → List ℕ) (xs : List A) → has_backslash form ≡ false →
    map (wanted_match want negated) (map (λ v. is_like form (g v)) xs)
    ≡ map (λ c. is_wanted want (liked c (text form) negated)) (map text (map g xs))
all_shown want negated form g [] h = refl
all_shown want negated form g (x ∷ xs) h = λ i. row want negated true form (g x) h i ∷ all_shown want negated form g xs h i

some_shown : {A : Type 0} (want negated : Bool) (form : List ℕ) (g : A → List ℕ) (vs : List Bool) (xs : List A) → has_backslash form ≡ false →
    map (λ p. p.0 && p.1) (zip vs (map (wanted_match want negated) (map (λ v. is_like form (g v)) xs)))
    ≡ map (λ c. is_wanted want (liked c (text form) negated)) (map (λ p. shown_at p.0 p.1) (zip vs (map text (map g xs))))
some_shown want negated form g [] xs h = refl
some_shown want negated form g (v ∷ vs) [] h = refl
some_shown want negated form g (v ∷ vs) (x ∷ xs) h = λ i. row want negated v form (g x) h i ∷ some_shown want negated form g vs xs h i

-- heads and bytes match as strings do, on all rows and on the valid ones
module _ (w : Bool → Bool) (f g : List ℕ → Bool) where
  on_all : (xs : List (List ℕ)) → ((i : ℕ) → i < length xs → f (get_or xs i []) ≡ g (get_or xs i [])) → map w (map f xs) ≡ map w (map g xs)
  on_all [] h = refl
  on_all (x ∷ xs) h = λ i. w (h 0 (omega arith) i) ∷ on_all xs (λ k l. h (suc k) (omega (arith, l))) i

  on_valid : (vs : List Bool) (xs : List (List ℕ)) → AllValid (λ x. f x ≡ g x) vs xs →
      map (λ p. p.0 && p.1) (zip vs (map w (map f xs))) ≡ map (λ p. p.0 && p.1) (zip vs (map w (map g xs)))
  on_valid [] xs h = refl
  on_valid (v ∷ vs) [] h = refl
  on_valid (v ∷ vs) (x ∷ xs) h = λ i. one v h.0 i ∷ on_valid vs xs h.1 i
    where
      one : (v : Bool) → (v ≡ true → f x ≡ g x) → (v && w (f x)) ≡ (v && w (g x))
      one true k = ap w (k refl)
      one false k = refl

module _ (want negated : Bool) (form : List ℕ) (u : IsUtf8 form) (plain : has_backslash form ≡ false) (vs bs : List (List ℕ)) (v : Valid) (sound : IsSound (strings texts vs bs v)) where
  row_like : (i : ℕ) → i < length vs → is_valid v i ≡ true → match_by_head form (get_or vs i []) bs ≡ is_like form (value_of (get_or vs i []) bs)
  row_like i l t =
      let here = sound.0 i l t in let x = get_or vs i [] in
      match_is form x bs (has_head x bs here.0) ∙ bytes_like form (value_of x bs) u here.1

  pub all_liked : ((i : ℕ) → is_valid v i ≡ true) →
      map (wanted_match want negated) (map (λ x. match_by_head form x bs) vs)
      ≡ map (λ c. is_wanted want (liked c (text form) negated)) (rows_of (strings texts vs bs v))
  all_liked told =
      on_all (wanted_match want negated) (λ x. match_by_head form x bs) (λ x. is_like form (value_of x bs)) vs (λ i l. row_like i l (told i))
      ∙ all_shown want negated form (λ x. value_of x bs) vs plain
      ∙ ap (map (λ c. is_wanted want (liked c (text form) negated))) (strings_shown v (length vs) None told texts vs bs refl)

  pub valid_liked : (rows : List Bool) → rows ≡ map (is_valid v) (range_with_len 0 (length vs)) →
      map (λ p. p.0 && p.1) (zip rows (map (wanted_match want negated) (map (λ x. match_by_head form x bs) vs)))
      ≡ map (λ c. is_wanted want (liked c (text form) negated)) (rows_of (strings texts vs bs v))
  valid_liked rows told =
      on_valid (wanted_match want negated) (λ x. match_by_head form x bs) (λ x. is_like form (value_of x bs)) rows vs
      (subst (λ r. AllValid (λ x. match_by_head form x bs ≡ is_like form (value_of x bs)) r vs) (sym told)
      (told_where_valid (λ x. match_by_head form x bs ≡ is_like form (value_of x bs)) (is_valid v) 0 vs (λ i l e. row_like i l (ap (is_valid v) (omega arith) ∙ e))))
      ∙ some_shown want negated form (λ x. value_of x bs) rows vs plain
      ∙ ap (map (λ c. is_wanted want (liked c (text form) negated))) (strings_shown v (length vs) (Some rows) told texts vs bs refl)

pub like_wanted : (want negated : Bool) (form : List ℕ) (x y : Bound) (is : Positions) (rows : List Provided) (cs : List Content) → place_of x ≡ Some is → text_in y ≡ Some form → cs ≡ values_in is rows →
    map (λ c. is_wanted want (liked c (text form) negated)) cs ≡ map (λ row. is_wanted want (liked (value_at x row) (value_at y row) negated)) rows
like_wanted want negated form x y is rows cs p t h =
    ap (map (λ c. is_wanted want (liked c (text form) negated))) h
    ∙ map_twice (λ c. is_wanted want (liked c (text form) negated)) (λ (row : Provided). row.columns is) rows
    ∙ (λ i. map (λ row. is_wanted want (liked (at_place x is p row i) (text_said y form t row i) negated)) rows)
