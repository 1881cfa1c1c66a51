-- Columns of zones.
use Rattle.std.specs.Prelude.{◌≡◌, ℕ, List, [], ◌∷◌, ◌++◌, length}
use Rattle.std.specs.Coded.{Coded-set, coded_list, Unit-prop}
use Rattle.vortex_model.specs.Content.{Content, boolean, integer}
use Rattle.vortex_arrays_model.specs.Layout.{string_content}
use Rattle.vortex_arrays_core.specs.LayoutOf.{strings_of}
use Rattle.vortex_table_chunk.specs.BoundCode.{coded_content}
use Rattle.vortex_table_zonemaps.specs.Known.{AreKnown}
use Rattle.vortex_table_zonemaps.specs.Views.{AreStrings, AreViewsKnown-prop}
use Rattle.vortex_table_zonemaps.specs.declared.column.ZoneColumn.{ZoneColumn}
use Rattle.vortex_table_zonemaps.specs.declared.column.ZoneColumn.TheVariants as column

-- the column begins with these contents, one a zone
abbrev pub IsColumnOf : ZoneColumn → List Content → Type 0
IsColumnOf (column.Bools known) cs = AreKnown boolean known cs
IsColumnOf (column.Integers known) cs = AreKnown integer known cs
IsColumnOf (column.Strings s) cs = AreStrings s cs
IsColumnOf column.Other cs = Unit {0}

-- the first n stay
abbrev pub Keeps : ℕ → ZoneColumn → ZoneColumn → Type 0
Keeps n old new =
    (cs : List Content) → length cs ≡ n → IsColumnOf old cs → IsColumnOf new cs

-- this content comes after the first n
abbrev pub Puts : ℕ → Content → ZoneColumn → ZoneColumn → Type 0
Puts n c old new =
    (cs : List Content) → length cs ≡ n → IsColumnOf old cs → IsColumnOf new (cs ++ c ∷ [])

-- ---- at most one proof of each

pub IsColumnOf-prop : (held : ZoneColumn) (cs : List Content) → IsProp (IsColumnOf held cs)
IsColumnOf-prop (column.Bools known) cs =
    λ p q i. Coded-set (coded_list coded_content) _ _ p q i
IsColumnOf-prop (column.Integers known) cs =
    λ p q i. Coded-set (coded_list coded_content) _ _ p q i
IsColumnOf-prop (column.Strings s) cs =
    AreViewsKnown-prop (string_content (strings_of s.kind)) s cs
IsColumnOf-prop column.Other cs = Unit-prop
