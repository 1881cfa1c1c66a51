-- List views of compacted arrays.
use Rattle.std.proofs.Common.{◌≡◌, ◌<◌, ℕ, zero, suc, false, true, List, [], ◌∷◌, ◌++◌, Option, Some, None, inl, inr, refl, sym, ap, subst, ◌∙◌}
use Rattle.std.specs.Prelude.{option_and_then, slice_get}
use Rattle.std.proofs.lemmas.Option.{same_Some}
use Rattle.vortex_model.specs.Path.{Positions}
use Rattle.vortex_arrays_model.specs.Layout.{Layout, list_views, records, Valid, Columns, no_columns, column, len_of, rows_of}
use Rattle.vortex_arrays_model.specs.Column.{array_at}
use Rattle.vortex_arrays_model.specs.Canonical.{counts, IsLaidOut, IsRebuilt}
use Rattle.vortex_arrays_model.proofs.RebuiltLemmas.{laid_out_once}
use Rattle.vortex_table_layout.specs.Compacted.{IsCompacted, AreCompacted, IsCompactedAs, HasTooManyItems}
use Rattle.vortex_table_core.specs.Arrays.{AreAllCompacted}
use Rattle.vortex_table_laws.specs.Compactions.{array_in, IsUnflagged, HasView, StandsAt, AreLaidOutAlike, LeaveAlike}

abbrev some_of : {X : Type 0} → X → Option X → X
some_of d None = d
some_of d (Some x) = x

-- the part of a compacted array is that part compacted
pub record HasCompacted (o : Option Layout) (x : Layout) : Type 0 where
  pub part : Layout
  pub there : o ≡ Some part
  pub compacted : IsCompacted x part

mutual
  compacted_in : (a r : Layout) (is : Positions) (x : Layout) → IsCompacted a r → array_in a is ≡ Some x → HasCompacted (array_in r is) x
  compacted_in a r [] x h e = record { part = r; there = refl; compacted = subst (λ y. IsCompacted y r) (same_Some a x e) h }
  compacted_in (records cs n v) (records ds m w) (i ∷ is) x h e = compacted_at cs ds i is x h.2 e
  compacted_in (records cs n v) r (i ∷ is) x h e = absurd h
  compacted_in a r (i ∷ is) x h e = absurd (cc e)

  compacted_at : (cs ds : Columns) (i : ℕ) (is : Positions) (x : Layout) → AreCompacted cs ds → option_and_then (λ b. array_in b is) (array_at cs i) ≡ Some x → HasCompacted (option_and_then (λ b. array_in b is) (array_at ds i)) x
  compacted_at no_columns no_columns i is x h e = absurd (cc e)
  compacted_at (column y a cs) (column z b ds) zero is x h e = compacted_in a b is x h.1 e
  compacted_at (column y a cs) (column z b ds) (suc i) is x h e = compacted_at cs ds i is x h.2 e
  compacted_at cs ds i is x h e = absurd h

-- the arrays, one by one
pub record IsThere (o : Option Layout) (a : Layout) : Type 0 where
  pub array : Layout
  pub there : o ≡ Some array
  pub compacted : IsCompactedAs a array

all_there : (old new : List Layout) (i : ℕ) (a : Layout) → AreAllCompacted old new → slice_get old i ≡ Some a → IsThere (slice_get new i) a
all_there [] [] i a h e = absurd (cc e)
all_there (b ∷ old) (c ∷ new) zero a h e = record { array = c; there = refl; compacted = subst (λ y. IsCompactedAs y c) (same_Some b a e) h.0 }
all_there (b ∷ old) (c ∷ new) (suc i) a h e = all_there old new i a h.1 e
all_there [] (c ∷ new) i a h e = absurd h
all_there (b ∷ old) [] i a h e = absurd h

-- where all lists can be counted, they are compacted as they are
as_whole : (a r : Layout) → (¬ HasTooManyItems a) → IsCompactedAs a r → IsCompacted a r
as_whole a r few (inl h) = h
as_whole a r few (inr h) = absurd (few h.too_many)

pub both_compacted : (old new more next : List Layout) → AreAllCompacted old new → AreAllCompacted more next → AreAllCompacted (old ++ more) (new ++ next)
both_compacted [] [] more next h k = k
both_compacted (a ∷ old) (b ∷ new) more next h k = (h.0, both_compacted old new more next h.1 k)
both_compacted [] (b ∷ new) more next h k = absurd h
both_compacted (a ∷ old) [] more next h k = absurd h

-- what a view with rows is compacted to
pub record IsMadeOf (x z : Layout) : Type 0 where
  pub e : Layout
  pub o : Layout
  pub s : Layout
  pub v : Valid
  pub is : x ≡ list_views e o s false v
  pub laid : IsLaidOut e o s v z

made_of : (x z : Layout) → IsUnflagged x → 0 < len_of x → IsCompacted x z → IsMadeOf x z
made_of (list_views e o s false v) z u l h = record { e = e; o = o; s = s; v = v; is = refl; laid = h.laid_out refl l }
made_of x z u l h = absurd u

alike : (x y z w : Layout) → IsMadeOf x z → IsMadeOf y w → rows_of x ≡ rows_of y → AreLaidOutAlike z w
alike x y z w h k same =
    let once = laid_out_once h.e h.o h.s h.v z k.e k.o k.s k.v w h.laid k.laid (ap rows_of (sym h.is) ∙ same ∙ ap rows_of k.is) in
    let p = h.laid in let q = k.laid in
    subst (λ b. AreLaidOutAlike z b) (sym q.made) (subst (λ a. AreLaidOutAlike a (list_views q.elements (counts q.offsets) (counts q.sizes) true k.v)) (sym p.made)
    (ap counts once.0, ap counts once.1, once.2))

pub leave_alike : (old new : List Layout) → AreAllCompacted old new → LeaveAlike old new
leave_alike old new h i j is js x y a b same =
    let c = all_there old new i a.array h a.there in
    let d = all_there old new j b.array h b.there in
    let z = compacted_in a.array c.array is x (as_whole a.array c.array a.counted c.compacted) a.view in
    let w = compacted_in b.array d.array js y (as_whole b.array d.array b.counted d.compacted) b.view in (
      z.part,
      w.part,
      record { array = c.array; there = c.there; part = z.there },
      record { array = d.array; there = d.there; part = w.there },
      alike x y z.part w.part (made_of x z.part a.unflagged a.some z.compacted) (made_of y w.part b.unflagged b.some w.compacted) same,
    )
