-- Tests of columns whose rows may be null.
use Rattle.std.proofs.Common.{◌≡◌, refl, ap, Bool, true, false, ◌&&◌, ◌∙◌, List, [], ◌∷◌, map, Option, Some, None}
use Rattle.std.specs.List.{zip}
use Rattle.vortex_model.specs.Content.{Content, null}
use Rattle.vortex_model_table.specs.Expression.{Comparison}
use Rattle.vortex_model_table.specs.Truth.{compared, is_true}
use Rattle.vortex_stats_mask.specs.Columns.{shown_at, shown, kept}

tested_where_valid : (f : Content → Bool) → f null ≡ false → (vs : List Bool) (cs : List Content) → map f (map (λ p. shown_at p.0 p.1) (zip vs cs)) ≡ map (λ p. p.0 && p.1) (zip vs (map f cs))
tested_where_valid f h [] cs = refl
tested_where_valid f h (v ∷ vs) [] = refl
tested_where_valid f h (true ∷ vs) (c ∷ cs) = ap (λ bs. f c ∷ bs) (tested_where_valid f h vs cs)
tested_where_valid f h (false ∷ vs) (c ∷ cs) = (λ i. h i ∷ tested_where_valid f h vs cs i)

-- A test that null doesn't pass is made on the values, and then the valid ones are kept.
pub tested_as_shown : (f : Content → Bool) → f null ≡ false → (o : Option (List Bool)) (cs : List Content) → map f (shown o cs) ≡ kept o (map f cs)
tested_as_shown f h None cs = refl
tested_as_shown f h (Some vs) cs = tested_where_valid f h vs cs

compared_with_null : (op : Comparison) (d : Content) → is_true (compared op null d) ≡ false
compared_with_null op d = refl

pub compared_where_valid : (op : Comparison) (d : Content) (o : Option (List Bool)) (cs : List Content) → map (λ c. is_true (compared op c d)) (shown o cs) ≡ kept o (map (λ c. is_true (compared op c d)) cs)
compared_where_valid op d o cs = tested_as_shown (λ c. is_true (compared op c d)) (compared_with_null op d) o cs
