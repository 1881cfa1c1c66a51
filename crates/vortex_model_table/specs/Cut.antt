-- Types and rows, cut by a list of paths.
use Rattle.std.specs.Prelude.{List, [], ◌∷◌, ◌++◌, ◌||◌, Bool, if◌then◌else◌}
use Rattle.std.specs.List.{list_any}
use Rattle.vortex_model.specs.LogicalType.{LogicalType, struct, Fields, no_fields, field}
use Rattle.vortex_model.specs.Content.{Content, tuple, Contents, nothing, first}
use Rattle.vortex_model.specs.Path.{Names, begins}

-- a path of the list is a prefix of this one
abbrev pub covers : List Names → Names → Bool
covers paths here = list_any (λ path. begins path here) paths

-- this path is covered, or is a prefix of a path of the list
abbrev pub is_kept : List Names → Names → Bool
is_kept paths here = list_any (λ path. begins path here || begins here path) paths

-- Of the struct at `here`, the fields that are kept, each cut by the same paths. Any other type is
-- kept whole.
abbrev mutual
  pub cut_kind : List Names → Names → LogicalType → LogicalType
  cut_kind paths here (struct fs n) = struct (cut_fields paths here fs) n
  cut_kind paths here k = k

  pub cut_fields : List Names → Names → Fields → Fields
  cut_fields paths here no_fields = no_fields
  cut_fields paths here (field x k fs) =
      if is_kept paths (here ++ x ∷ [])
      then field x (cut_kind paths (here ++ x ∷ []) k) (cut_fields paths here fs)
      else cut_fields paths here fs

-- a content of the type, cut like it; null stays null
abbrev mutual
  pub cut_content : List Names → Names → LogicalType → Content → Content
  cut_content paths here (struct fs n) (tuple cs) = tuple (cut_contents paths here fs cs)
  cut_content paths here k c = c

  pub cut_contents : List Names → Names → Fields → Contents → Contents
  cut_contents paths here (field x k fs) (first c cs) =
      if is_kept paths (here ++ x ∷ [])
      then first (cut_content paths (here ++ x ∷ []) k c) (cut_contents paths here fs cs)
      else cut_contents paths here fs cs
  cut_contents paths here fs cs = nothing

-- the type of the rows of an answer
abbrev pub cut_type : List Names → LogicalType → LogicalType
cut_type paths k = cut_kind paths [] k

-- a row of an answer
abbrev pub cut_row : List Names → LogicalType → Content → Content
cut_row paths k row = cut_content paths [] k row
