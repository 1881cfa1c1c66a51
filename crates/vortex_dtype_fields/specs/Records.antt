-- The fields of a struct, the variants of a union, and the entries of a map.
use Rattle.std.specs.Borrow.{Bor}
use Rattle.std.specs.BTreeSet.{BTreeSet, contains}
use Rattle.std.specs.Cmp.Lexicographic.{slice_cmp}
use Rattle.std.specs.Ordering.{int_eq, nat_cmp}
use Rattle.std.specs.declared.cmp.Ordering.{Ordering}
use Rattle.std.specs.Prelude.{◌≡◌, ◌<◌, ℕ, ℤ, zero, suc, pos, List, [], ◌∷◌, Option, Some, None, Bool, true, false, ◌&&◌, ◌||◌, if◌then◌else◌, option_map, option_and_then, codes}
use Rattle.std.specs.Str.{bytes_eq}
use Rattle.vortex_model.specs.LogicalType.{LogicalType, struct, non_nullable, Fields, no_fields, field, Variants, no_variants, choice}
use Rattle.vortex_model.specs.Path.{position_named, field_at}
use Rattle.vortex_model.specs.Kept.{has_name}
use Rattle.vortex_dtype_core.specs.Parts.{is_distinct, variant_count}
use Rattle.vortex_dtype_core.specs.View.{EntryTypes}

-- ---- fields

-- the names in order
abbrev pub names_of : Fields → List (List ℕ)
names_of no_fields = []
names_of (field x k fs) = x ∷ names_of fs

-- the types in order
abbrev pub types_of : Fields → List LogicalType
types_of no_fields = []
types_of (field x k fs) = k ∷ types_of fs

-- the type of the first field with this name
abbrev pub type_named : Fields → List ℕ → Option LogicalType
type_named fs x = option_and_then (field_at fs) (position_named fs x)

-- all fields but the one at an index
abbrev pub fields_without : Fields → ℕ → Fields
fields_without no_fields i = no_fields
fields_without (field x k fs) zero = fs
fields_without (field x k fs) (suc i) = field x k (fields_without fs i)

-- the fields of both
abbrev pub joined : Fields → Fields → Fields
joined no_fields gs = gs
joined (field x k fs) gs = field x k (joined fs gs)

-- the first field of each of these names, in the order of the names, and none where a name has no
-- field
abbrev pub projected : Fields → List (List ℕ) → Option Fields
projected fs [] = Some no_fields
projected fs (x ∷ xs) =
    option_and_then (λ k. option_map (field x k) (projected fs xs)) (type_named fs x)

-- some name is in both
abbrev pub shares_name : Fields → Fields → Bool
shares_name fs no_fields = false
shares_name fs (field x k gs) = has_name x fs || shares_name fs gs

-- strings in lexicographic order of bytes
abbrev pub text_cmp : Bor (List ℕ) → Bor (List ℕ) → Ordering
text_cmp x y = slice_cmp nat_cmp x.now y.now

-- the set has exactly the names of these fields
abbrev pub HasNames : BTreeSet (Bor (List ℕ)) → Fields → Type 0
HasNames s fs = (q : Bor (List ℕ)) → contains text_cmp s q ≡ has_name q.now fs

-- ---- variants

-- the names in order
abbrev pub variant_names : Variants → List (List ℕ)
variant_names no_variants = []
variant_names (choice x t k vs) = x ∷ variant_names vs

-- the tags in order
abbrev pub tags_of : Variants → List ℤ
tags_of no_variants = []
tags_of (choice x t k vs) = t ∷ tags_of vs

-- the types in order
abbrev pub variant_types : Variants → List LogicalType
variant_types no_variants = []
variant_types (choice x t k vs) = k ∷ variant_types vs

-- n, n + 1, and so on, `many` numbers
abbrev pub numbers_from : ℕ → ℕ → List ℤ
numbers_from n zero = []
numbers_from n (suc many) = pos n ∷ numbers_from (suc n) many

-- the tags are n, n + 1, and so on, in order
abbrev pub count_from : ℕ → Variants → Bool
count_from n no_variants = true
count_from n (choice x t k vs) = int_eq t (pos n) && count_from (suc n) vs

-- the index of the first variant with this name
abbrev pub variant_position : Variants → List ℕ → Option ℕ
variant_position no_variants x = None
variant_position (choice y t k vs) x =
    if bytes_eq y x then Some 0 else option_map suc (variant_position vs x)

-- the index of the first variant with this tag
abbrev pub tag_position : Variants → ℤ → Option ℕ
tag_position no_variants t = None
tag_position (choice x u k vs) t = if int_eq u t then Some 0 else option_map suc (tag_position vs t)

-- the type and the tag at an index
abbrev pub variant_at : Variants → ℕ → Option LogicalType
variant_at no_variants i = None
variant_at (choice x t k vs) zero = Some k
variant_at (choice x t k vs) (suc i) = variant_at vs i

abbrev pub tag_at : Variants → ℕ → Option ℤ
tag_at no_variants i = None
tag_at (choice x t k vs) zero = Some t
tag_at (choice x t k vs) (suc i) = tag_at vs i

-- the type of the first variant with this name
abbrev pub variant_named : Variants → List ℕ → Option LogicalType
variant_named vs x = option_and_then (variant_at vs) (variant_position vs x)

-- where no tag repeats, the index of the tag at an index is that index
abbrev pub TagsLeadBack : Type 0
TagsLeadBack = (vs : Variants) (i : ℕ) → is_distinct (tags_of vs) ≡ true → i < variant_count vs →
    option_and_then (tag_position vs) (tag_at vs i) ≡ Some i

-- ---- entries of maps

-- the struct type of an entry
abbrev pub entry_type : EntryTypes → LogicalType
entry_type e =
    struct (field (codes "key") e.key (field (codes "value") e.value no_fields)) non_nullable
