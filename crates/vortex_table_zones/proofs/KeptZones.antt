-- A table that can hold rows can hold their zones.
use Rattle.std.proofs.Common.{◌≡◌, Bool, true, false, not, ◌&&◌, ◌||◌, List, ℕ, Option, Some, None, if◌then◌else◌, refl, ap, ◌∙◌}
use Rattle.std.specs.Str.{bytes_eq}
use Rattle.vortex_model.specs.LogicalType.{LogicalType, boolean_type, integer_type, utf8, binary, list, fixed_list, struct, Fields, no_fields, field}
use Rattle.vortex_model.specs.Kept.{has_name, names_distinct, part_fault, fields_fault, CanHold}
use Rattle.vortex_model.specs.Refusal.{Refusal, repeated_name, or_else}
use Rattle.vortex_model.proofs.Refusals.{first_none, second_none}
use Rattle.vortex_table_schema.proofs.Explained.{none_both}
use Rattle.vortex_table_zones.specs.Types.{known_type, known_fields, zone_type}
use Rattle.vortex_table_zones.proofs.Named.{split_fault, kept_part}

has_known : (counts : Bool) (x : List ℕ) (fs : Fields) → has_name x (known_fields counts fs) ≡ has_name x fs
has_known counts x no_fields = refl
has_known counts x (field y k fs) = ap (λ (b : Bool). bytes_eq x y || b) (has_known counts x fs)

distinct_known : (counts : Bool) (fs : Fields) → names_distinct (known_fields counts fs) ≡ names_distinct fs
distinct_known counts no_fields = refl
distinct_known counts (field x k fs) =
    ap (λ (b : Bool). not b && names_distinct (known_fields counts fs)) (has_known counts x fs)
    ∙ ap (λ (b : Bool). not (has_name x fs) && b) (distinct_known counts fs)

mutual
  known_kept : (counts : Bool) (k : LogicalType) → part_fault k ≡ None → part_fault (known_type counts k) ≡ None
  known_kept counts (struct fs n) h =
      let parts = split_fault (names_distinct fs) (fields_fault fs) h in
      ap (λ (b : Bool). if b then fields_fault (known_fields counts fs) else Some repeated_name) (distinct_known counts fs ∙ parts.0)
      ∙ each_known_kept counts fs parts.1
  known_kept true k h = refl
  known_kept false (boolean_type n) h = refl
  known_kept false (integer_type i n) h = refl
  known_kept false (utf8 n) h = refl
  known_kept false (binary n) h = refl
  known_kept false (list k n) h = h
  known_kept false (fixed_list k m n) h = h
  known_kept false k h = absurd (cc h)

  each_known_kept : (counts : Bool) (fs : Fields) → fields_fault fs ≡ None → fields_fault (known_fields counts fs) ≡ None
  each_known_kept counts no_fields h = refl
  each_known_kept counts (field x k fs) h =
      none_both (part_fault (known_type counts k)) (fields_fault (known_fields counts fs)) (known_kept counts k (first_none (part_fault k) (fields_fault fs) h))
      (each_known_kept counts fs (second_none (part_fault k) (fields_fault fs) h))

-- the faults of a zone's fields
four : (lower upper nulls : Option Refusal) → lower ≡ None → upper ≡ None → nulls ≡ None → or_else lower (or_else upper (or_else nulls None)) ≡ None
four lower upper nulls e f g =
    ap (λ o. or_else o (or_else upper (or_else nulls None))) e ∙ ap (λ o. or_else o (or_else nulls None)) f ∙ ap (λ o. or_else o None) g

pub zone_kept : (k : LogicalType) → CanHold k → CanHold (zone_type k)
zone_kept k h =
    let bound = known_kept false k (kept_part k h) in
    four _ _ _ bound bound (known_kept true k (kept_part k h))

pub ruleset kept = (zone_kept)
