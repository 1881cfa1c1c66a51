-- Tests of views by their heads, where null rows are not kept.
use Rattle.std.proofs.Common.{◌≡◌, refl, sym, ap, ◌∙◌, ℕ, Bool, true, false, ◌&&◌, List, [], ◌∷◌, map, Option, Some, None}
use Rattle.std.specs.List.{All, zip}
use Rattle.std.proofs.lemmas.List.Elements.{All-head, All-tail}
use Rattle.vortex_model.specs.Order.{bytes_cmp}
use Rattle.vortex_model_table.specs.Expression.{Comparison}
use Rattle.vortex_model_table.specs.Truth.{test_of}
use Rattle.vortex_arrays_view.specs.Views.{value_of}
use Rattle.vortex_stats_match.specs.Buffers.{buffers_in}
use Rattle.vortex_stats_match.specs.Heads.{HasHead, cmp_by_head}
use Rattle.vortex_stats_match.proofs.HeadLemmas.{cmp_is}
use Rattle.vortex_stats_mask.specs.Columns.{kept, values_of}
use Rattle.vortex_stats_mask.specs.Headed.{AllValid, HaveHeads}
use Rattle.vortex_stats_mask.specs.declared.column.Strings.{Strings}
use Rattle.vortex_stats_mask.proofs.Through.{values_through}

module _ (op : Comparison) (buffers : List (List ℕ)) (text : List ℕ) where
  one_same : (v : List ℕ) → HasHead v buffers → test_of op (cmp_by_head v buffers text) ≡ test_of op (bytes_cmp (value_of v buffers) text)
  one_same v h = ap (test_of op) (cmp_is v buffers text h)

  all_same : (vs : List (List ℕ)) → All (λ v. HasHead v buffers) vs →
      map (λ v. test_of op (cmp_by_head v buffers text)) vs ≡ map (λ v. test_of op (bytes_cmp (value_of v buffers) text)) vs
  all_same [] h = refl
  all_same (v ∷ vs) h = λ i. one_same v (All-head (λ x. HasHead x buffers) v vs h) i ∷ all_same vs (All-tail (λ x. HasHead x buffers) v vs h) i

  valid_same : (rows : List Bool) (vs : List (List ℕ)) → AllValid (λ v. HasHead v buffers) rows vs →
      map (λ p. p.0 && p.1) (zip rows (map (λ v. test_of op (cmp_by_head v buffers text)) vs))
      ≡ map (λ p. p.0 && p.1) (zip rows (map (λ v. test_of op (bytes_cmp (value_of v buffers) text)) vs))
  valid_same [] vs h = refl
  valid_same (r ∷ rows) [] h = refl
  valid_same (r ∷ rows) (v ∷ vs) h = λ i. one r h.0 i ∷ valid_same rows vs h.1 i
    where
      one : (r : Bool) → (r ≡ true → HasHead v buffers) → (r && test_of op (cmp_by_head v buffers text)) ≡ (r && test_of op (bytes_cmp (value_of v buffers) text))
      one true k = one_same v (k refl)
      one false k = refl

-- of valid rows the heads show what the values do
pub tested_by_head : (op : Comparison) (text : List ℕ) (valid : Option (List Bool)) (s : Strings) → HaveHeads valid s →
    kept valid (map (λ v. test_of op (cmp_by_head v (buffers_in s.buffers) text)) s.views.now)
    ≡ kept valid (map (λ bs. test_of op (bytes_cmp bs text)) (values_of s))
tested_by_head op text None s h =
    all_same op (buffers_in s.buffers) text s.views.now h ∙ sym (values_through (λ bs. test_of op (bytes_cmp bs text)) s)
tested_by_head op text (Some rows) s h =
    valid_same op (buffers_in s.buffers) text rows s.views.now h
    ∙ ap (kept (Some rows)) (sym (values_through (λ bs. test_of op (bytes_cmp bs text)) s))
