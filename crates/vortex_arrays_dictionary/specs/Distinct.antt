-- The distinct contents of a column.
use Rattle.std.specs.Prelude.{List, [], ◌∷◌, filter, not, cond}
use Rattle.vortex_model.specs.Content.{Content, is_null, equal_content}

-- the contents that are not null, each at its first occurrence
abbrev pub distinct : List Content → List Content
distinct [] = []
distinct (c ∷ cs) =
    cond (is_null c) (distinct cs) (c ∷ filter (λ d. not (equal_content c d)) (distinct cs))
