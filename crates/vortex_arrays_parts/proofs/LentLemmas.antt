-- Bytes borrowed one by one.
use Rattle.std.proofs.Common.{◌≡◌, ℕ, List, [], ◌∷◌, map, Option, Result, Ok, Err, IfOk, Vec, Bor, sym, subst}
use Rattle.std.specs.Fn.{Called}
use Rattle.std.specs.Iterator.{Yields}
use Rattle.std.specs.Iterator.Adapters.{map_callee}
use Rattle.std.specs.List.{All}
use Rattle.std.specs.Vec.{vec_items}
use Rattle.std.specs.declared.iter.Map.{Map}
use denote.Param.Members.{Mut}
use Rattle.std.proofs.lemmas.Iterator.{IsCollectResult, maps}
use Rattle.std.proofs.lemmas.List.Elements.{All-nil, All-cons, All-map}
use Rattle.vortex_arrays_parts.specs.Values.{lent}

abbrev Value : Type 0
Value = Option (List ℕ)

abbrev Lent : Type 0
Lent = Option (Bor (List ℕ))

-- what holds of each result of a closure holds of all of them
module _ {S A F R : Type 0} (steps : S → Option A → S → Type 0) (g : Mut F (A × Unit {0}) R) (P : R → Type 0) (f : F) (called : (x : A) (r : R) (q : F) → Called g f (x, tt) r q → (q ≡ f) × P r) where
  all_given : (rs : List R) (s t : Map S F) → map_callee s ≡ f → Yields (maps steps g) s rs t → All P rs
  all_given [] s t a y = All-nil P
  all_given (r ∷ rs) s t a y =
      let m = called y.1.0 r (map_callee y.0) (subst (λ w. Called g w (y.1.0, tt) r (map_callee y.0)) a y.1.2) in
      All-cons P r rs m.1 (all_given rs y.0 t m.0 y.2)

pub all_lent : {S A F Z E : Type 0} (steps : S → Option A → S → Type 0) (s : Map S F) {g : Mut F (A × Unit {0}) Lent} (P : Value → Type 0) {f : F} (r : Result (Vec Lent Z) E) → IsCollectResult (maps steps g) s r → map_callee s ≡ f → ((x : A) (r : Lent) (q : F) → Called g f (x, tt) r q → (q ≡ f) × P (lent r)) → IfOk r (λ w. All P (map lent (vec_items w)))
all_lent {S} {A} {F} {Z} {E} steps s {g} P {f} (Ok w) d a k =
    subst (λ rs. All P (map lent rs)) (sym d.2.0) (All-map P lent d.0 (all_given steps g (λ r. P (lent r)) f k d.0 s d.1.0 a d.1.1))
all_lent steps s P (Err x) d a k = tt
