-- Values by views, with the long ones end to end in one buffer.
use Rattle.std.specs.Prelude.{List, [], ◌∷◌, ℕ, map, Option, option_map, IfSome, All}
use Rattle.vortex_arrays_view.specs.Views.{value_of, HasValue}
use Rattle.vortex_arrays_model.specs.Layout.{Strings, IsString}

-- the values of the views
abbrev pub values_of : List ℕ → List (Option (List ℕ)) → List (Option (List ℕ))
values_of bytes views = map (option_map (λ v. value_of v (bytes ∷ []))) views

-- each view has a value, which is of the kind
abbrev pub AreValues : Strings → List ℕ → List (Option (List ℕ)) → Type 0
AreValues s bytes views =
    All (λ view. IfSome view (λ v. HasValue v (bytes ∷ []) × IsString s (value_of v (bytes ∷ []))))
    views
