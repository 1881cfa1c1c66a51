-- The rows of a constant.
use Rattle.std.proofs.Common.{◌≡◌, ℕ, replicate, ap, ◌∙◌}
use Rattle.std.proofs.lemmas.List.{length-replicate, get_or-replicate}
use Rattle.vortex_model.specs.LogicalType.{LogicalType}
use Rattle.vortex_model.specs.Content.{null, content_of, Raw}
use Rattle.vortex_arrays_model.specs.Layout.{Layout, constant, rows_of}
use Rattle.vortex_arrays_model.proofs.RowsLemmas.{rows_by_position}

pub constant_rows : (k : LogicalType) (r : Raw) (n : ℕ) → rows_of (constant k r n) ≡ replicate n (content_of r)
constant_rows k r n = rows_by_position (constant k r n) (replicate n (content_of r)) (length-replicate n (content_of r)) (λ i l. get_or-replicate n i (content_of r) null l)

pub made_rows : (k : LogicalType) (r : Raw) (n : ℕ) (a : Layout) → a ≡ constant k r n → rows_of a ≡ replicate n (content_of r)
made_rows k r n a e = ap rows_of e ∙ constant_rows k r n

pub ruleset rows = (made_rows)
