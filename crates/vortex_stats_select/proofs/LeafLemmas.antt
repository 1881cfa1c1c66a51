-- The rows of arrays that are laid out plain, as leaf columns.
use Rattle.std.proofs.Common.{◌≡◌, sym, ap, subst, ◌∙◌, ℕ, suc, ◌+◌, ◌<◌, ℤ, pos, Bool, true, false, cond, List, [], ◌∷◌, length, map, get_or, Option, Some, None, arith}
use Rattle.std.specs.Prelude.{IfSome, MatchOption}
use Rattle.std.specs.List.{zip, range_with_len}
use Rattle.std.proofs.lemmas.List.{length-map, get_or-map}
use Rattle.std.proofs.lemmas.List.Elements.{All-from_get_or}
use Rattle.std.proofs.lemmas.List.FromFn.{fill_by_all}
use Rattle.vortex_model.specs.LogicalType.{IntKind}
use Rattle.vortex_model.specs.Content.{Content, null, boolean, integer}
use Rattle.vortex_model.proofs.Lists.{map_twice}
use Rattle.vortex_arrays_model.specs.Layout.{Valid, Strings, bools, numbers, strings, string_content, is_valid, rows_of, IsSound}
use Rattle.vortex_arrays_view.specs.Views.{value_of}
use Rattle.vortex_stats_mask.specs.Columns.{shown_at}
use Rattle.vortex_stats_mask.specs.Headed.{AllValid, ViewsHaveHeads}
use Rattle.vortex_stats_match.specs.Heads.{HasHead}
use Rattle.vortex_stats_match.proofs.HeadLemmas.{has_head}
use Rattle.vortex_stats_mask.specs.Columns.{shown}
use Rattle.vortex_stats_select.proofs.PairLemmas.{paired}

by_position : {X Y : Type 0} (f : X → Y) (d : X) (xs : List X) → map f xs ≡ map (λ i. f (get_or xs i d)) (range_with_len 0 (length xs))
by_position f d xs = fill_by_all (λ i. f (get_or xs i d)) (map f xs) (length xs) (f d) (length-map xs f) (λ k l. get_or-map f xs k d (f d) l)

-- values that are null where they are not valid
pub leaf_made : {X : Type 0} (f : X → Content) (d : X) (xs : List X) (v : Valid) (o : Option (List Bool)) →
    MatchOption o ((i : ℕ) → is_valid v i ≡ true) (λ rows. rows ≡ map (is_valid v) (range_with_len 0 (length xs))) →
    shown o (map f xs) ≡ map (λ i. cond (is_valid v i) (f (get_or xs i d)) null) (range_with_len 0 (length xs))
leaf_made f d xs v None h =
    by_position f d xs ∙ (λ j. map (λ i. cond (sym (h i) j) (f (get_or xs i d)) null) (range_with_len 0 (length xs)))
leaf_made f d xs v (Some rows) h =
    (λ j. map (λ p. shown_at p.0 p.1) (zip (h j) (by_position f d xs j)))
    ∙ paired shown_at (is_valid v) (λ i. f (get_or xs i d)) (range_with_len 0 (length xs))

module _ (v : Valid) (n : ℕ) (o : Option (List Bool)) (told : MatchOption o ((i : ℕ) → is_valid v i ≡ true) (λ rows. rows ≡ map (is_valid v) (range_with_len 0 n))) where
  pub bools_shown : (bits : List Bool) → length bits ≡ n → shown o (map boolean bits) ≡ rows_of (bools bits v)
  bools_shown bits e = leaf_made boolean false bits v o (subst (λ n. MatchOption o ((i : ℕ) → is_valid v i ≡ true) (λ rows. rows ≡ map (is_valid v) (range_with_len 0 n))) (sym e) told)

  pub numbers_shown : (k : IntKind) (zs : List ℤ) → length zs ≡ n → shown o (map integer zs) ≡ rows_of (numbers k zs v)
  numbers_shown k zs e = leaf_made integer (pos 0) zs v o (subst (λ n. MatchOption o ((i : ℕ) → is_valid v i ≡ true) (λ rows. rows ≡ map (is_valid v) (range_with_len 0 n))) (sym e) told)

  pub strings_shown : (s : Strings) (vs bs : List (List ℕ)) → length vs ≡ n → shown o (map (string_content s) (map (λ x. value_of x bs) vs)) ≡ rows_of (strings s vs bs v)
  strings_shown s vs bs e =
      ap (shown o) (map_twice (string_content s) (λ x. value_of x bs) vs)
      ∙ leaf_made (λ x. string_content s (value_of x bs)) [] vs v o (subst (λ n. MatchOption o ((i : ℕ) → is_valid v i ≡ true) (λ rows. rows ≡ map (is_valid v) (range_with_len 0 n))) (sym e) told)

-- the rows of a validity that can be shared
pub shared_told : (v : Valid) (n : ℕ) (shared : Option (Option (List Bool))) (o : Option (List Bool)) → shared ≡ Some o →
    IfSome shared (λ found. MatchOption found ((i : ℕ) → is_valid v i ≡ true) (λ rows. rows ≡ map (is_valid v) (range_with_len 0 n))) →
    MatchOption o ((i : ℕ) → is_valid v i ≡ true) (λ rows. rows ≡ map (is_valid v) (range_with_len 0 n))
shared_told v n shared o e h =
    subst (λ s. IfSome s (λ found. MatchOption found ((i : ℕ) → is_valid v i ≡ true) (λ rows. rows ≡ map (is_valid v) (range_with_len 0 n)))) e h

-- what is so where a row is valid
pub told_where_valid : (P : List ℕ → Type 0) (valid : ℕ → Bool) (k : ℕ) (xs : List (List ℕ)) → ((i : ℕ) → i < length xs → valid (k + i) ≡ true → P (get_or xs i [])) →
    AllValid P (map valid (range_with_len k (length xs))) xs
told_where_valid P valid k [] h = tt
told_where_valid P valid k (x ∷ xs) h = (
  λ e. h 0 (omega arith) (ap valid (omega arith) ∙ e),
  told_where_valid P valid (k + 1) xs (λ i l e. h (suc i) (omega (arith, l)) (ap valid (omega arith) ∙ e)),
)

-- a sound array's views have the first bytes of their values where they are valid
pub heads_told : (s : Strings) (vs bs : List (List ℕ)) (v : Valid) (n : ℕ) (o : Option (List Bool)) → length vs ≡ n → IsSound (strings s vs bs v) →
    MatchOption o ((i : ℕ) → is_valid v i ≡ true) (λ rows. rows ≡ map (is_valid v) (range_with_len 0 n)) → ViewsHaveHeads o vs bs
heads_told s vs bs v n None e sound told =
    All-from_get_or (λ x. HasHead x bs) vs [] (λ i l. has_head (get_or vs i []) bs (sound.0 i l (told i)).0)
heads_told s vs bs v n (Some rows) e sound told =
    subst (λ r. AllValid (λ x. HasHead x bs) r vs) (sym (told ∙ ap (λ k. map (is_valid v) (range_with_len 0 k)) (sym e)))
    (told_where_valid (λ x. HasHead x bs) (is_valid v) 0 vs (λ i l t. has_head (get_or vs i []) bs (sound.0 i l (ap (is_valid v) (omega arith) ∙ t)).0))
