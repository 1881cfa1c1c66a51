-- The zone of a group: what is described of each leaf column.
use Rattle.std.specs.Prelude.{◌≡◌, ◌⊎◌, ℕ, pos, length, List, [], ◌∷◌, ◌++◌, Option, Some, None, Bool, true, false, IsTrue}
use Rattle.vortex_model.specs.LogicalType.{LogicalType, struct, Fields, no_fields, field, Nullability}
use Rattle.vortex_model.specs.Content.{Content, null, integer, tuple, Contents, nothing, first, Raw, raw_null}
use Rattle.vortex_model.specs.Kept.{is_leaf}
use Rattle.vortex_model.specs.Path.{Step, name, element}
use Rattle.vortex_model.specs.Valid.{valid}
use Rattle.vortex_model_table.specs.Command.{describe, part_named, positions_of, refusal}
use Rattle.vortex_model_table.specs.Reply.{Describes}
use Rattle.vortex_model_table.specs.Statistics.{shown}
use Rattle.vortex_model_table.specs.Table.{Table}
use Rattle.vortex_model_table.specs.ZoneMap.{ZoneMap}
use Rattle.vortex_scalar_core.specs.declared.scalar.Scalar.{Scalar}
use Rattle.vortex_stats_bound.specs.declared.precision.Precision as declared
use Rattle.vortex_table_core.specs.GroupRows.{rows_of_group}
use Rattle.vortex_table_plan.specs.Described as described
use Rattle.vortex_table_schema.specs.Description.{known_content}
use Rattle.vortex_table_schema.specs.declared.description.Description.{Description}
use Rattle.vortex_table_zones.specs.declared.statistic.Statistic.{Statistic}
use Rattle.vortex_table_zones.specs.declared.statistic.Statistic.TheVariants.{Lower, Upper, NullCount}

-- ---- a column

-- the statistic of a zone map, null where it isn't known
abbrev pub told : Statistic → ZoneMap → Content
told Lower z = shown z.low
told Upper z = shown z.high
told NullCount z = integer (pos z.nulls)

-- that of a description
abbrev pub known_of : Statistic → Description → Content
known_of Lower d = shown (known_content d.min)
known_of Upper d = shown (known_content d.max)
known_of NullCount d = shown (known_content d.null_count)

-- the statistic is a number, and no bound
abbrev pub is_count : Statistic → Bool
is_count NullCount = true
is_count s = false

-- the raw value is null, or one of this type
abbrev pub IsNullOr : Option LogicalType → Raw → Type 0
IsNullOr None r = r ≡ raw_null
IsNullOr (Some k) r = IsTrue (valid k r)

-- it is of the type of what is known, and null where nothing is
abbrev pub IsOfKnown : declared.Precision Scalar → Raw → Type 0
IsOfKnown p r = IsNullOr (described.known_type p) r

-- it is what is described of the column of the path in a group, or null where that is refused
abbrev pub IsTold : Table → ℕ → Statistic → List Step → Content → Type 0
IsTold t i s path c =
    ((z : ZoneMap) × Describes t (positions_of t.kind path) i z × (c ≡ told s z))
    ⊎ ((refusal t (describe path i) ≡ None → ⊥) × (c ≡ null))

-- ---- columns

-- the path leads to a part of this type
abbrev pub LeadsTo : LogicalType → List Step → LogicalType → Type 0
LeadsTo k [] part = part ≡ k
LeadsTo k (name x ∷ path) part =
    (inner : LogicalType) × (part_named k x ≡ Some inner) × LeadsTo inner path part
LeadsTo k (element ∷ path) part = ⊥

-- the path leads to a struct of these fields
abbrev pub LeadsToFields : LogicalType → List Step → Fields → Type 0
LeadsToFields k path fs = (n : Nullability) × LeadsTo k path (struct fs n)

-- In records, as the rows are, P holds of each leaf column with its path, which begins so. What
-- else there is, as a column of lists, is null.
abbrev mutual
  pub IsOfEach : (List Step → Content → Type 0) → List Step → LogicalType → Content → Type 0
  IsOfEach P path (struct fs n) (tuple cs) = AreOfEach P path fs cs
  IsOfEach P path (struct fs n) c = ⊥
  IsOfEach P path k c = (is_leaf k ≡ true → P path c) × (is_leaf k ≡ false → c ≡ null)

  pub AreOfEach : (List Step → Content → Type 0) → List Step → Fields → Contents → Type 0
  AreOfEach P path no_fields nothing = Unit {0}
  AreOfEach P path (field x k fs) (first c cs) =
      IsOfEach P (path ++ name x ∷ []) k c × AreOfEach P path fs cs
  AreOfEach P path fs cs = ⊥

-- ---- the zone

-- The number of the group's rows, and what is described of its columns.
pub record IsZoneOf (t : Table) (i : ℕ) (zone : Content) : Type 0 where
  pub lower : Content
  pub upper : Content
  pub nulls : Content
  pub fields : zone ≡ tuple (first (integer (pos (length (rows_of_group t i))))
      (first lower (first upper (first nulls nothing))))
  pub lower_of : IsOfEach (IsTold t i Lower) [] t.kind lower
  pub upper_of : IsOfEach (IsTold t i Upper) [] t.kind upper
  pub nulls_of : IsOfEach (IsTold t i NullCount) [] t.kind nulls
