-- Codes, one after another.
use Rattle.std.proofs.Common.{◌≡◌, ◌<◌, ◌↔◌, Bool, true, false, IsTrue, List, length, sym, subst}
use Rattle.std.specs.List.{All}
use Rattle.std.proofs.lemmas.List.Elements.{All-get_or, All-from_get_or}
use Rattle.vortex_arrays_view.specs.declared.error.ArrayError.{ArrayError}
use Rattle.vortex_arrays_view.specs.declared.error.ArrayError.TheVariants.{Memory}
use Rattle.vortex_arrays_model.specs.Layout.{Layout, dictionary, len_of, array_type_of, IsInteger, IsSound, AllReferenced}
use Rattle.vortex_arrays_model.specs.Referenced.{MarksReferenced}
use Rattle.vortex_arrays_model.proofs.ReferencedLemmas.{all_marked, all_referenced}
use Rattle.vortex_arrays_nested.specs.Faults.{IsCodesFault, IsDictFault}
use Rattle.vortex_arrays_model.specs.Parts.{AreWithin}
use Rattle.vortex_arrays_nested.specs.Shapes.{codes_in, values_in}

-- codes that make no dictionary are an error
pub dict_fault : (e : ArrayError) (c v : Layout) → IsCodesFault e c v → IsDictFault e c v
dict_fault Memory c v h = tt
dict_fault e c v h = h

-- a dictionary with a false flag requires nothing of the references
pub unflagged : (c v : Layout) → IsSound c → IsSound v → IsInteger (array_type_of c) → AreWithin c (len_of v) → IsSound (dictionary c v false)
unflagged c v a b k h = (a, b, k, h, λ t. absurd (cc (t)))

-- the codes and values with a flag that is true of them
pub reflagged : (a c v : Layout) (f g : Bool) → a ≡ dictionary c v f → IsSound a → (IsTrue g → AllReferenced (codes_in a) (values_in a)) → IsSound (dictionary c v g)
reflagged a c v f g e s h = let t = subst IsSound e s in (t.0, t.1, t.2, t.3, λ b. subst (λ x. AllReferenced (codes_in x) (values_in x)) e (h b))

-- each value is referenced where each bit of the mask is true
pub each_referenced : (c v : Layout) (mask : List Bool) (all : Bool) → MarksReferenced c (len_of c) true mask → length mask ≡ len_of v → (IsTrue all ↔ All (λ b. b ≡ true) mask) → IsTrue all ↔ AllReferenced c v
each_referenced c v mask all h n e = (
  λ t. all_marked c v true mask h (λ j l. All-get_or (λ b. b ≡ true) mask j false (subst (λ k. j < k) (sym n) l) (e.0 t)),
  λ a. e.1 (All-from_get_or (λ b. b ≡ true) mask false (λ j l. all_referenced c v true mask h a j (subst (λ k. j < k) n l))),
)
