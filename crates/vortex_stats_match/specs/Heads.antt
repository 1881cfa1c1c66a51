-- The first bytes of a view beside its value.
use Rattle.std.specs.Prelude.{◌≡◌, ◌≤◌, ℕ, List, take, cond, nat_lt}
use Rattle.std.specs.Ordering.{ordering_then}
use Rattle.std.specs.declared.cmp.Ordering.{Ordering}
use Rattle.std.specs.declared.cmp.Ordering.TheVariants.{Equal}
use Rattle.vortex_model.specs.Order.{bytes_cmp}
use Rattle.vortex_arrays_view.specs.Views.{size_of, value_of}
use Rattle.vortex_arrays_view.specs.Made.{prefix_in, prefix_of}

-- a view of four bytes or more has the first four of its value
abbrev pub HasHead : List ℕ → List (List ℕ) → Type 0
HasHead v buffers = 4 ≤ size_of v → prefix_in v ≡ take 4 (value_of v buffers)

-- The order of a view's value and a string by their first bytes: Equal where the value has fewer
-- than four.
abbrev pub head_cmp : List ℕ → List ℕ → Ordering
head_cmp v text = cond (nat_lt (size_of v) 4) Equal
    (bytes_cmp (prefix_of (prefix_in v)) (prefix_of text))

-- the order by the first bytes, and by the whole value where those are equal
abbrev pub cmp_by_head : List ℕ → List (List ℕ) → List ℕ → Ordering
cmp_by_head v buffers text = ordering_then (head_cmp v text) (bytes_cmp (value_of v buffers) text)
