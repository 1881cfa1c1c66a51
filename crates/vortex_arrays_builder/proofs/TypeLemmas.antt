-- Types that a table can hold.
use Rattle.std.proofs.Common.{◌≡◌, Bool, true, false, Option, Some, None, if◌then◌else◌}
use Rattle.vortex_model.specs.LogicalType.{LogicalType, boolean_type, integer_type, utf8, binary, list, fixed_list, struct, Fields, no_fields, field, non_nullable}
use Rattle.vortex_model.specs.Refusal.{Refusal, repeated_name}
use Rattle.vortex_model.specs.Kept.{names_distinct, part_fault, fields_fault}
use Rattle.vortex_model.proofs.Refusals.{first_none, second_none}
use Rattle.vortex_arrays_builder.specs.Types.{HasPlain, HavePlain, TablesHoldPlainTypes}

pub if_none : (b : Bool) (a : Option Refusal) → (if b then a else Some repeated_name) ≡ None → a ≡ None
if_none true a h = h
if_none false a h = absurd (cc h)

mutual
  part_plain : (k : LogicalType) → part_fault k ≡ None → HasPlain k
  part_plain (boolean_type n) h = tt
  part_plain (integer_type i n) h = tt
  part_plain (utf8 n) h = tt
  part_plain (binary n) h = tt
  part_plain (list k n) h = part_plain k h
  part_plain (fixed_list k m n) h = part_plain k h
  part_plain (struct fs n) h = fields_plain fs (if_none (names_distinct fs) (fields_fault fs) h)
  part_plain k h = absurd (cc h)

  fields_plain : (fs : Fields) → fields_fault fs ≡ None → HavePlain fs
  fields_plain no_fields h = tt
  fields_plain (field x k fs) h = (part_plain k (first_none (part_fault k) (fields_fault fs) h), fields_plain fs (second_none (part_fault k) (fields_fault fs) h))

pub held_plain : TablesHoldPlainTypes
held_plain (struct fs non_nullable) h = part_plain (struct fs non_nullable) h
held_plain k h = absurd (cc h)
