-- Definitions evaluated on examples.
use Rattle.std.proofs.Common.{◌≡◌, refl, List, [], ◌∷◌, Some, None}
use Rattle.std.specs.Prelude.{codes}
use Rattle.vortex_model.specs.LogicalType.{LogicalType, integer_type, u8, u32, boolean_type, list, fixed_list, struct, extension, no_fields, field, non_nullable, nullable}
use Rattle.vortex_model.specs.Path.{Step, name, element}
use Rattle.vortex_dtype_path.specs.Steps.{outermost_among}
use Rattle.vortex_dtype_path.specs.Resolve.{resolved}

-- {a = list({b = u32})?, c = fixed(bool, 2), c = u8}
abbrev kind : LogicalType
kind =
    struct
    (field (codes "a") (list (struct (field (codes "b") (integer_type u32 non_nullable) no_fields) non_nullable) nullable)
    (field (codes "c") (fixed_list (boolean_type nullable) 2 non_nullable)
    (field (codes "c") (integer_type u8 non_nullable) no_fields)))
    non_nullable

through_a_list : resolved kind (name (codes "a") ∷ element ∷ name (codes "b") ∷ []) ≡ Some (integer_type u32 non_nullable)
through_a_list = refl

no_name_in_a_list : resolved kind (name (codes "a") ∷ name (codes "b") ∷ []) ≡ None
no_name_in_a_list = refl

first_of_two : resolved kind (name (codes "c") ∷ []) ≡ Some (fixed_list (boolean_type nullable) 2 non_nullable)
first_of_two = refl

through_a_fixed_list : resolved kind (name (codes "c") ∷ element ∷ []) ≡ Some (boolean_type nullable)
through_a_fixed_list = refl

no_element_of_a_record : resolved kind (element ∷ []) ≡ None
no_element_of_a_record = refl

no_part_of_an_extension : resolved (extension (codes "id") [] kind) (name (codes "a") ∷ []) ≡ None
no_part_of_an_extension = refl

root_is_the_type : resolved kind [] ≡ Some kind
root_is_the_type = refl

abbrev a_and_b : List Step
a_and_b = name (codes "a") ∷ name (codes "b") ∷ []

abbrev a : List Step
a = name (codes "a") ∷ []

abbrev ab : List Step
ab = name (codes "ab") ∷ []

outermost_of_three : outermost_among (a_and_b ∷ ab ∷ a ∷ []) ≡ ab ∷ a ∷ []
outermost_of_three = refl
