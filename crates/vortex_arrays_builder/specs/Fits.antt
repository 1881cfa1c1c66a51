-- Which layouts fit a column.
use Rattle.std.specs.Prelude.{List, [], ◌∷◌, Bool, false, not, ◌&&◌}
use Rattle.std.specs.List.{list_any, list_all}
use Rattle.vortex_model.specs.LogicalType.{LogicalType}
use Rattle.vortex_model.specs.Kept.{is_leaf}
use Rattle.vortex_model.specs.Content.{Content, is_null}
use Rattle.vortex_scalar_ops.specs.Equality.{eq_content}

-- a leaf column with a content that is not null
abbrev pub fits_dictionary : LogicalType → List Content → Bool
fits_dictionary k cs = is_leaf k && list_any (λ c. not (is_null c)) cs

-- a column with rows, all equal to the first
abbrev pub fits_constant : List Content → Bool
fits_constant [] = false
fits_constant (c ∷ cs) = list_all (λ d. eq_content c d) cs
