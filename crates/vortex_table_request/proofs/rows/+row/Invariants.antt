use Rattle.std.proofs.Common.{◌≡◌, ◌≤◌, ◌+◌, ◌*◌, List, ◌++◌, option_map, map}
use Rattle.std.specs.Vec.Iter.{into_iter_items}
use Rattle.serde_json.specs.View.{items_view}
use Rattle.vortex_model.specs.Content.{Raw}
use Rattle.vortex_dtype_core.specs.View.{type_of, fields_of}
use Rattle.vortex_dtype_core.proofs.Sizes.{type_size, fields_size}
use Rattle.vortex_scalar_value.specs.View.{raw_in}
use Rattle.vortex_table_request.specs.Rows.{readings, element_readings}
use Rattle.vortex_table_request.proofs.rows.+row.Given as goal

abbrev pub decreases-take_value : goal.decreases-take_value
decreases-take_value l = 3 * type_size (type_of l.dtype.now) + 1

abbrev pub decreases-take_array : goal.decreases-take_array
decreases-take_array l = 3 * type_size (type_of l.dtype.now)

abbrev pub decreases-take_elements : goal.decreases-take_elements
decreases-take_elements l = 3 * type_size (type_of l.dtype.now) + 2

abbrev pub decreases-take_fields : goal.decreases-take_fields
decreases-take_fields l = 3 * fields_size (fields_of l.fields.now)

-- the values so far and those of the rest are the values of all
abbrev pub invariant-take_fields-loop-item : goal.invariant-take_fields-loop-item
invariant-take_fields-loop-item l =
    (fields_size (fields_of l.rest) ≤ fields_size (fields_of l.fields)) ×
    (option_map (λ (rs : List Raw). map raw_in l.values.items ++ rs) (readings (fields_of l.rest) (items_view (into_iter_items l.item-iterator)))
    ≡ readings (fields_of l.fields) (items_view l.fn.items.items))

abbrev pub invariant-take_elements-loop-item : goal.invariant-take_elements-loop-item
invariant-take_elements-loop-item l =
    option_map (λ (rs : List Raw). map raw_in l.values.items ++ rs) (element_readings (type_of l.dtype) (items_view (into_iter_items l.item-iterator)))
    ≡ element_readings (type_of l.dtype) (items_view l.fn.items.items)
