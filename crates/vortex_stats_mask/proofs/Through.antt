-- Tests of integers, made on native numbers.
use Rattle.std.proofs.Common.{◌≡◌, refl, ap, Bool, ℕ, ℤ, pos, List, [], ◌∷◌, map, length, sym}
use Rattle.std.proofs.lemmas.List.{length-map}
use Rattle.vortex_arrays_view.specs.Views.{value_of}
use Rattle.vortex_stats_match.specs.Buffers.{buffers_in}
use Rattle.vortex_stats_mask.specs.Columns.{values_of}
use Rattle.vortex_stats_mask.specs.declared.column.Strings.{Strings}

pub through : (f : ℤ → Bool) (xs : List ℕ) → map f (map pos xs) ≡ map (λ x. f (pos x)) xs
through f [] = refl
through f (x ∷ xs) = ap (λ bs. f (pos x) ∷ bs) (through f xs)

pub ruleset numbers = (through)

pub values_through : (f : List ℕ → Bool) (s : Strings) → map f (values_of s) ≡ map (λ v. f (value_of v (buffers_in s.buffers))) s.views.now
values_through f s = over s.views.now
  where
    over : (vs : List (List ℕ)) → map f (map (λ v. value_of v (buffers_in s.buffers)) vs) ≡ map (λ v. f (value_of v (buffers_in s.buffers))) vs
    over [] = refl
    over (v ∷ vs) = ap (λ bs. f (value_of v (buffers_in s.buffers)) ∷ bs) (over vs)

pub values_counted : (s : Strings) → length s.views.now ≡ length (values_of s)
values_counted s = sym (length-map s.views.now (λ v. value_of v (buffers_in s.buffers)))
