-- What a cut keeps of a type and of its values.
use Rattle.std.specs.Prelude.{◌≡◌, ℕ, suc, List, [], ◌∷◌, map, filter_map, Option, Some, None, Bool, true, false, if◌then◌else◌}
use Rattle.std.specs.Str.{bytes_eq}
use Rattle.std.specs.List.{list_any}
use Rattle.std.specs.Borrow.{Bor}
use Rattle.std.specs.BTreeMap.{BTreeMap, get}
use Rattle.std.specs.Cmp.Lexicographic.{slice_cmp}
use Rattle.std.specs.Ordering.{nat_cmp}
use Rattle.std.specs.declared.cmp.Ordering.{Ordering}
use Rattle.std.specs.Global.{Vec}
use Rattle.vortex_model.specs.LogicalType.{LogicalType, struct, Fields, no_fields, field}
use Rattle.vortex_model.specs.Content.{Content, tuple, Contents, nothing, first, nth, Raw, raw_tuple, Raws, no_raws, raw_first}
use Rattle.vortex_model.specs.Path.{Names}
use Rattle.vortex_model_table.specs.Cut.{cut_kind}
use Rattle.vortex_model_table.specs.Command.{names_of}
use Rattle.vortex_dtype_core.specs.View.{NamedType}
use Rattle.vortex_scalar_value.specs.Parts.{raw_nth}
use Rattle.vortex_dtype_path.specs.View.{step_of, steps_of}
use Rattle.vortex_dtype_path.specs.declared.field.Field.{Field}
use Rattle.vortex_dtype_path.specs.declared.path.FieldPath.{FieldPath}
use Rattle.vortex_table_schema.specs.declared.projection.Projection.{Projection, fold-Projection}
use Rattle.vortex_table_schema.specs.declared.projection.Projection.TheOpen.{Projection-F, ProjectedField-F}
use Rattle.vortex_table_schema.specs.declared.projection.ProjectedField.{ProjectedField, fold-ProjectedField}

-- A value is kept whole, or it is a record of which some parts are kept, each at its position and
-- itself cut.
mutual
  pub data Tree : Type 0 where
    whole : Tree
    parts : Parts → Tree

  pub data Parts : Type 0 where
    no_parts : Parts
    part : ℕ → Tree → Parts → Parts

-- ---- what a `Projection` is

abbrev pub KeptPart : Type 0
KeptPart = ℕ × Tree

abbrev pub parts_from : List KeptPart → Parts
parts_from [] = no_parts
parts_from (p ∷ ps) = part p.0 p.1 (parts_from ps)

-- one level, with each part inside already seen
abbrev pub tree_step : Projection-F Tree KeptPart → Tree
tree_step Projection-F.Whole = whole
tree_step (Projection-F.Fields v) = parts (parts_from v.items)

abbrev pub part_step : ProjectedField-F Tree KeptPart → KeptPart
part_step f = (f.position, f.projection)

abbrev pub tree_of : Projection → Tree
tree_of = fold-Projection Tree KeptPart tree_step part_step

abbrev pub part_of_field : ProjectedField → KeptPart
part_of_field = fold-ProjectedField Tree KeptPart tree_step part_step

abbrev pub parts_of : List ProjectedField → Parts
parts_of fs = parts_from (map part_of_field fs)

-- ---- what paths keep

-- the paths as names
abbrev pub paths_of : List FieldPath → List Names
paths_of paths = map names_of (map steps_of paths)

-- the names of what is left of paths, which are lent
abbrev pub names_at : Bor (List Field) → Names
names_at path = names_of (map step_of path.now)

-- What is left of a path after a step to this name. A path without a step leads everywhere.
abbrev pub strip_step : List ℕ → Names → Option Names
strip_step x [] = Some []
strip_step x (y ∷ path) = if bytes_eq y x then Some path else None

-- what is left of the paths that lead through this name
abbrev pub strip_all : List ℕ → List Names → List Names
strip_all x paths = filter_map (strip_step x) paths

abbrev pub is_root : Names → Bool
is_root [] = true
is_root (x ∷ path) = false

-- one of the paths asks for all
abbrev pub ask_for_all : List Names → Bool
ask_for_all paths = list_any is_root paths

-- the first name of a path, and what is left after it
abbrev pub first_step : Names → Option (List ℕ × Names)
first_step [] = None
first_step (x ∷ path) = Some (x, path)

-- ---- paths by their first name, each without it

abbrev pub text_cmp : Bor (List ℕ) → Bor (List ℕ) → Ordering
text_cmp x y = slice_cmp nat_cmp x.now y.now

abbrev pub PathIndex : Type 0
PathIndex = BTreeMap (Bor (List ℕ)) (Vec (Bor (List Field)))

abbrev pub group_of : Option (Vec (Bor (List Field))) → List Names
group_of None = []
group_of (Some v) = map names_at v.items

-- under each name are, in order, the rests of the paths that lead through it
abbrev pub IsIndex : PathIndex → List Names → Type 0
IsIndex m paths = (name : Bor (List ℕ)) → group_of (get text_cmp m name) ≡ strip_all name.now paths

-- there are paths
abbrev pub is_not_root : List Names → Bool
is_not_root [] = false
is_not_root (path ∷ paths) = true

-- what is left of the paths, where there are some
abbrev pub AreBelow : Option (Bor (List (Bor (List Field)))) → List Names → Type 0
AreBelow None paths = paths ≡ []
AreBelow (Some left) paths = (map names_at left.now ≡ paths) × (is_not_root paths ≡ true)

-- what the paths keep of a value of the type, and of a record's fields, of which the first has this
-- position
abbrev mutual
  pub kept_by : List Names → LogicalType → Tree
  kept_by paths (struct fs n) = if ask_for_all paths then whole else parts (kept_parts paths 0 fs)
  kept_by paths k = whole

  pub kept_parts : List Names → ℕ → Fields → Parts
  kept_parts paths i no_fields = no_parts
  kept_parts paths i (field x k fs) =
      if is_not_root (strip_all x paths)
      then part i (kept_by (strip_all x paths) k) (kept_parts paths (suc i) fs)
      else kept_parts paths (suc i) fs

-- cut_kind of a list of fields: those that are kept, each cut
abbrev pub cut_named : List Names → List NamedType → List NamedType
cut_named paths [] = []
cut_named paths (f ∷ fs) = if is_not_root (strip_all f.0 paths)
    then (f.0, cut_kind (strip_all f.0 paths) [] f.1) ∷ cut_named paths fs else cut_named paths fs

-- the parts that are kept, of fields of which the first has this position
abbrev pub kept_list : List Names → ℕ → List NamedType → List KeptPart
kept_list paths i [] = []
kept_list paths i (f ∷ fs) =
    if is_not_root (strip_all f.0 paths) then (i, kept_by (strip_all f.0 paths) f.1) ∷
    kept_list paths (suc i) fs else kept_list paths (suc i) fs

-- ---- a value that is cut

-- a content that is cut; null stays null
abbrev mutual
  pub content_cut : Tree → Content → Content
  content_cut (parts ps) (tuple cs) = tuple (contents_cut ps cs)
  content_cut t c = c

  pub contents_cut : Parts → Contents → Contents
  contents_cut no_parts cs = nothing
  contents_cut (part i t ps) cs = first (content_cut t (nth cs i)) (contents_cut ps cs)

-- a raw value that is cut
abbrev mutual
  pub raw_cut : Tree → Raw → Raw
  raw_cut (parts ps) (raw_tuple rs) = raw_tuple (raws_cut ps rs)
  raw_cut t r = r

  pub raws_cut : Parts → Raws → Raws
  raws_cut no_parts rs = no_raws
  raws_cut (part i t ps) rs = raw_first (raw_cut t (raw_nth rs i)) (raws_cut ps rs)

-- what is kept of a record's values for one part
abbrev pub cut_part : Raws → KeptPart → Raw
cut_part rs p = raw_cut p.1 (raw_nth rs p.0)
