use Rattle.std.proofs.Common.{◌≡◌, ◌+◌, ◌++◌, suc, drop, map}
use Rattle.vortex_dtype_core.specs.View.{type_of, fields_of, field_of}
use Rattle.vortex_dtype_core.proofs.Sizes.{type_size, fields_size}
use Rattle.vortex_table_schema.specs.Cut.{names_at, part_of_field, cut_named, kept_list}
use Rattle.vortex_table_schema.proofs.cut.+cut.Given as goal

abbrev pub decreases-cut_part : goal.decreases-cut_part
decreases-cut_part l = type_size (type_of l.dtype.now) + type_size (type_of l.dtype.now)

abbrev pub decreases-cut_fields : goal.decreases-cut_fields
decreases-cut_fields l = suc (fields_size (fields_of l.fields.now) + fields_size (fields_of l.fields.now))

abbrev pub decreases-cut_indexed : goal.decreases-cut_indexed
decreases-cut_indexed l = fields_size (fields_of l.fields.now) + fields_size (fields_of l.fields.now)

-- what is kept of the fields so far, and of those that are left, is what is kept of all
abbrev pub invariant-cut_fields-loop-position : goal.invariant-cut_fields-loop-position
invariant-cut_fields-loop-position l = record {
  parts : map field_of l.all.parts.items ++ cut_named (map names_at l.paths) (map field_of (drop l.position l.fields)) ≡ cut_named (map names_at l.paths) (map field_of l.fields);
  kept : map part_of_field l.all.kept.items ++ kept_list (map names_at l.paths) l.position (map field_of (drop l.position l.fields)) ≡ kept_list (map names_at l.paths) 0 (map field_of l.fields);
}

abbrev pub invariant-cut_indexed-loop-position : goal.invariant-cut_indexed-loop-position
invariant-cut_indexed-loop-position l = record {
  parts : map field_of l.all.parts.items ++ cut_named (map names_at l.paths) (map field_of (drop l.position l.fields)) ≡ cut_named (map names_at l.paths) (map field_of l.fields);
  kept : map part_of_field l.all.kept.items ++ kept_list (map names_at l.paths) l.position (map field_of (drop l.position l.fields)) ≡ kept_list (map names_at l.paths) 0 (map field_of l.fields);
}
