-- A view laid out again.
use Rattle.std.proofs.Common.{◌≡◌, ◌<◌, ℕ, true, false, List, length, map, get_or, refl, sym, subst, ◌∙◌, arith}
use Rattle.std.proofs.lemmas.List.{length-map, get_or-map}
use Rattle.vortex_model.specs.Content.{null}
use Rattle.vortex_arrays_view.specs.declared.error.ArrayError.{ArrayError}
use Rattle.vortex_arrays_view.specs.declared.error.ArrayError.TheVariants as error
use Rattle.vortex_arrays_model.specs.Layout.{Layout, list_views, Valid, len_of, content_at, rows_of, IsSound}
use Rattle.vortex_arrays_model.specs.Parts.{valid_in}
use Rattle.vortex_arrays_model.specs.Picks.{Picks}
use Rattle.vortex_arrays_model.specs.Canonical.{counts, IsCanonical, IsLaidOut}
use Rattle.vortex_arrays_model.proofs.RebuiltLemmas.{new_sound}
use Rattle.vortex_arrays_model.proofs.RowsLemmas.{rows_by_position}
use Rattle.vortex_arrays_nested.specs.Parts.{elements_of, offsets_of, sizes_of, is_flagged}
use Rattle.vortex_arrays_rebuild.specs.Rebuilds.{IsLaidOutView, IsRebuiltView, IsSumFault, IsTotalFault}
use Rattle.vortex_arrays_rebuild.proofs.TrimLemmas.{many_lists}

-- the rows at indices
rows_copied : (e r : Layout) (ps : List ℕ) → Picks e r (length ps) (λ i. get_or ps i 0) → rows_of r ≡ map (content_at e) ps
rows_copied e r ps p = rows_by_position r (map (content_at e) ps) (length-map ps (content_at e) ∙ sym p.len) (λ k l. let m : k < length ps = subst (λ n. k < n) p.len l in get_or-map (content_at e) ps k 0 null m ∙ sym (p.content k m))

-- the new parts fit together
pub laid_sound : (e o s : Layout) (v : Valid) (r : Layout) (os ss ps : List ℕ) → IsSound (list_views e o s false v) → IsCanonical (rows_of (list_views e o s false v)) os ss (map (content_at e) ps) → Picks e r (length ps) (λ i. get_or ps i 0) → IsSound (counts os) → IsSound (counts ss) → IsSound (list_views r (counts os) (counts ss) true v)
laid_sound e o s v r os ss ps h k p m n = new_sound e o s false v r os ss (subst (IsCanonical (rows_of (list_views e o s false v)) os ss) (sym (rows_copied e r ps p)) k) h p.sound m.0 n.0

-- and are the canonical layout of the rows
pub laid_out_view : (e o s : Layout) (v : Valid) (r : Layout) (os ss ps : List ℕ) → IsCanonical (rows_of (list_views e o s false v)) os ss (map (content_at e) ps) → Picks e r (length ps) (λ i. get_or ps i 0) → IsLaidOut e o s v (list_views r (counts os) (counts ss) true v)
laid_out_view e o s v r os ss ps k p = record {
  offsets = os;
  sizes = ss;
  elements = r;
  made = refl;
  kind = p.kind;
  canonical = subst (IsCanonical (rows_of (list_views e o s false v)) os ss) (sym (rows_copied e r ps p)) k;
}

abbrev pub parts_of : Layout → Layout
parts_of a = list_views (elements_of a) (offsets_of a) (sizes_of a) (is_flagged a) (valid_in a)

-- a view that is returned as it is
pub rebuilt_flagged : (a r : Layout) → a ≡ parts_of a → r ≡ a → is_flagged a ≡ true → IsRebuiltView a r
rebuilt_flagged a r parts same u = record { flagged = λ _. same ∙ parts; empty = λ _. same ∙ parts; laid_out = λ x l. absurd (cc (u, x)) }

pub rebuilt_empty : (a r : Layout) → a ≡ parts_of a → r ≡ a → len_of a ≡ 0 → IsRebuiltView a r
rebuilt_empty a r parts same none = record { flagged = λ _. same ∙ parts; empty = λ _. same ∙ parts; laid_out = λ x l. absurd (omega (arith, none, l, many_lists a)) }

-- a view that is laid out again
pub rebuilt_laid : (a r : Layout) → is_flagged a ≡ false → 0 < len_of a → IsLaidOutView a r → IsRebuiltView a r
rebuilt_laid a r u some h = record { flagged = λ x. absurd (cc (u, x)); empty = λ none. absurd (omega (arith, none, some, many_lists a)); laid_out = λ x l. h }

pub total_fault : (e : ArrayError) (a : Layout) → is_flagged a ≡ false → IsSumFault e (rows_of a) → IsTotalFault e a
total_fault error.Memory a u h = tt
total_fault error.Total a u h = (u, h)
total_fault e a u h = absurd h

pub ruleset made = (rebuilt_flagged, rebuilt_empty, rebuilt_laid, total_fault)

pub ruleset laid = (laid_sound, laid_out_view)
