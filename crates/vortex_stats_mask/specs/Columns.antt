-- The contents of a leaf column, and masks of its rows.
use Rattle.std.specs.Prelude.{ℕ, List, map, take, drop, ◌++◌, Option, Some, None, Bool, true, false, cond, ◌&&◌}
use Rattle.std.specs.List.{zip}
use Rattle.vortex_model.specs.Content.{Content, null, boolean, integer, text, byte_string}
use Rattle.vortex_arrays_view.specs.Views.{value_of}
use Rattle.vortex_stats_match.specs.Buffers.{buffers_in}
use Rattle.vortex_stats_mask.specs.declared.column.Column.{Column}
use Rattle.vortex_stats_mask.specs.declared.column.Items.{Items}
use Rattle.vortex_stats_mask.specs.declared.column.Items.TheVariants.{Bools, Numbers, Texts, Binaries}
use Rattle.vortex_stats_mask.specs.declared.column.Strings.{Strings}
use Rattle.vortex_stats_mask.specs.Integers.{integers_in}
use Rattle.vortex_stats_mask.specs.Valid.{valid_in}

-- the values of views beside their buffers
abbrev pub values_of : Strings → List (List ℕ)
values_of s = map (λ v. value_of v (buffers_in s.buffers)) s.views.now

-- what the items say, where none is null
abbrev pub contents_of : Items → List Content
contents_of (Bools bs) = map boolean bs.now
contents_of (Numbers ns) = map integer (integers_in ns)
contents_of (Texts s) = map text (values_of s)
contents_of (Binaries s) = map byte_string (values_of s)

-- which form the items have
abbrev pub are_bools : Items → Bool
are_bools (Bools bs) = true
are_bools items = false

abbrev pub are_numbers : Items → Bool
are_numbers (Numbers ns) = true
are_numbers items = false

abbrev pub are_texts : Items → Bool
are_texts (Texts s) = true
are_texts items = false

abbrev pub are_binaries : Items → Bool
are_binaries (Binaries s) = true
are_binaries items = false

-- null where it isn't valid
abbrev pub shown_at : Bool → Content → Content
shown_at v c = cond v c null

-- the contents, of which those that are not valid are null
abbrev pub shown : Option (List Bool) → List Content → List Content
shown None cs = cs
shown (Some vs) cs = map (λ p. shown_at p.0 p.1) (zip vs cs)

-- the contents of a column
abbrev pub column_of : Column → List Content
column_of c = shown (valid_in c.validity) (contents_of c.items)

-- the valid rows of a mask
abbrev pub kept : Option (List Bool) → List Bool → List Bool
kept None mask = mask
kept (Some vs) mask = map (λ p. p.0 && p.1) (zip vs mask)

-- a mask of which the first n rows are kept where they are valid
abbrev pub kept_first : ℕ → List Bool → List Bool → List Bool
kept_first n vs mask = map (λ p. p.0 && p.1) (zip (take n mask) (take n vs)) ++ drop n mask

-- the rows that both masks have
abbrev pub both_rows : List Bool → List Bool → List Bool
both_rows xs ys = map (λ p. p.0 && p.1) (zip xs ys)
