-- Values moved from one list to another.
use Rattle.std.proofs.Common.{◌≡◌, ◌∙◌, sym, ap, List, [], ◌∷◌, ◌++◌, map, append_assoc, append-nil}
use Rattle.std.proofs.lemmas.List.{map-append}
use Rattle.vortex_model.specs.Content.{Raw}
use Rattle.vortex_scalar_core.specs.Scalar.{scalar_raw}
use Rattle.vortex_scalar_core.specs.declared.scalar.Scalar.{Scalar}
use Rattle.vortex_scalar_builders.specs.nested.Children.{raw_entry}

-- one more is moved
pub moved : {A B C : Type 0} (f : A → C) (g : B → C) (done : List A) (x : A) (y : B) (left after : List B) (all : List C) → left ≡ y ∷ after → f x ≡ g y → map f done ++ map g left ≡ all → map f (done ++ x ∷ []) ++ map g after ≡ all
moved f g done x y left after all e same whole =
    ap (λ l. l ++ map g after) (map-append f done (x ∷ [])) ∙ append_assoc (map f done) (f x ∷ []) (map g after)
    ∙ ap (λ z. map f done ++ z ∷ map g after) same ∙ sym (ap (λ l. map f done ++ map g l) e) ∙ whole

-- none is left
pub all_moved : {A B C : Type 0} (f : A → C) (g : B → C) (done : List A) (left : List B) (all : List C) → left ≡ [] → map f done ++ map g left ≡ all → map f done ≡ all
all_moved f g done left all e whole = sym (append-nil (map f done)) ∙ sym (ap (λ l. map f done ++ map g l) e) ∙ whole

-- an entry of a key and a value
abbrev pub raw_of_entry : Scalar × Scalar → Raw
raw_of_entry e = raw_entry (scalar_raw e.0) (scalar_raw e.1)
