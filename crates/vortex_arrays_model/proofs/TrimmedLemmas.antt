-- A trimmed list view: its rows, its soundness and its flag.
use Rattle.std.proofs.Common.{◌≡◌, ◌<◌, ◌≤◌, ◌+◌, ◌-◌, ℕ, suc, pos, Bool, cond, refl, sym, ap, subst, ◌∙◌, arith}
use Rattle.vortex_model.specs.LogicalType.{list}
use Rattle.vortex_model.specs.Content.{Content, null, integer, tuple}
use Rattle.vortex_arrays_model.specs.Layout.{Layout, list_views, Valid, len_of, array_type_of, nullability_by, content_at, is_valid, number_in, span, rows_of, IsOffsets, IsView, AreEndToEnd, IsSound, HasLength}
use Rattle.vortex_arrays_model.specs.Trimmed.{AreBounds, IsTrimmed}
use Rattle.vortex_arrays_model.proofs.PicksLemmas.{eq_span}
use Rattle.vortex_arrays_model.proofs.RowsLemmas.{row_at_position, row_count, rows_by_position}

-- the size of a list within a view is a natural number
size_counts : (n : ℕ) (o z : Content) → IsView n o z → integer (pos (number_in z)) ≡ z
size_counts n (integer (pos i)) (integer (pos s)) h = refl
size_counts n o z h = absurd h

module _ (e o s : Layout) (f : Bool) (v : Valid) (r : Layout) (sound : IsSound (list_views e o s f v)) (h : IsTrimmed e o s f v r) where
  abbrev old : Layout
  old = list_views e o s f v

  abbrev new : Layout
  new = list_views h.elements h.offsets s f v

  bounded : (i : ℕ) → i < len_of o → AreBounds o s h.from h.to
  bounded i l = h.bounds (omega arith)

  offset_there : (i : ℕ) → i < len_of o → number_in (content_at h.offsets i) ≡ number_in (content_at o i) - h.from
  offset_there i l = ap number_in (h.moved i l)

  eq_elements : (i : ℕ) → i < len_of o → span (content_at h.elements) (number_in (content_at h.offsets i)) (number_in (content_at s i)) ≡ span (content_at e) (number_in (content_at o i)) (number_in (content_at s i))
  eq_elements i l =
      let b = bounded i l in
      let low = b.least i l in
      let high = b.greatest i l in
      let here = offset_there i l in
      eq_span (content_at h.elements) (content_at e) (number_in (content_at h.offsets i)) (number_in (content_at o i)) (number_in (content_at s i)) (λ k w.
      let inside : number_in (content_at h.offsets i) + k < h.to - h.from = omega (arith, low, high, here, w) in
      let place : h.from + (number_in (content_at h.offsets i) + k) ≡ number_in (content_at o i) + k = omega (arith, low, here) in
      let p = h.part in p.content (number_in (content_at h.offsets i) + k) inside ∙ ap (content_at e) place)

  pub eq_row : (i : ℕ) → i < len_of o → content_at new i ≡ content_at old i
  eq_row i l = ap (λ x. cond (is_valid v i) (tuple x) null) (eq_elements i l)

  pub trimmed_rows : rows_of r ≡ rows_of old
  trimmed_rows = ap rows_of h.made ∙ rows_by_position new (rows_of old) (row_count old ∙ sym h.many) (λ k l. let l' : k < len_of o = subst (λ m. k < m) h.many l in row_at_position old k null l' ∙ sym (eq_row k l'))

  pub trimmed_kind : array_type_of r ≡ array_type_of old
  trimmed_kind = ap array_type_of h.made ∙ (let p = h.part in ap (λ k. list k (nullability_by v)) p.kind)

  -- lists that follow one another still do
  pub trimmed_end_to_end : AreEndToEnd o s → AreEndToEnd h.offsets s
  trimmed_end_to_end follow = λ i l.
      let after : suc i < len_of o = subst (λ m. suc i < m) h.many l in
      let here : i < len_of o = omega arith in
      let b = bounded i here in
      let low = b.least i here in
      omega (arith, follow i after, offset_there i here, offset_there (suc i) after, low)

  views_within : (i : ℕ) → i < len_of h.offsets → IsView (len_of h.elements) (content_at h.offsets i) (content_at s i)
  views_within i w =
      let l : i < len_of o = subst (λ m. i < m) h.many w in
      let b = bounded i l in
      let low = b.least i l in
      let high = b.greatest i l in
      let p = h.part in
      let many = p.len in
      let within : (number_in (content_at o i) - h.from) + number_in (content_at s i) ≤ len_of h.elements = omega (arith, low, high, many) in
      subst (λ x. IsView (len_of h.elements) x (content_at s i)) (sym (h.moved i l))
      (subst (λ x. IsView (len_of h.elements) (integer (pos (number_in (content_at o i) - h.from))) x) (size_counts (len_of e) (content_at o i) (content_at s i) (sound.7 i l)) within)

  pub trimmed_sound : IsSound h.offsets → IsOffsets (array_type_of h.offsets) → IsSound r
  trimmed_sound fit kind = subst IsSound (sym h.made) (let p = h.part in
      (p.sound, fit, sound.2, kind, sound.4, sound.5 ∙ sym h.many, subst (HasLength v) (sym h.many) sound.6, views_within, (λ t. trimmed_end_to_end (sound.8 t))))

pub ruleset trimmed = (trimmed_rows, trimmed_kind, trimmed_sound)
