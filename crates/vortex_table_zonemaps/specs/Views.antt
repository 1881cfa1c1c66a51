-- Views of zones.
use Rattle.std.specs.Prelude.{◌≡◌, ℕ, List, [], ◌∷◌, length, take, All}
use Rattle.std.specs.Coded.{Coded-set, coded_list}
use Rattle.std.proofs.Math.Logic.{∥∥₁_prop}
use Rattle.vortex_model.specs.Content.{Content}
use Rattle.vortex_arrays_model.specs.Layout.{string_content}
use Rattle.vortex_arrays_core.specs.LayoutOf.{strings_of}
use Rattle.vortex_arrays_view.specs.Views.{value_of, HasValue}
use Rattle.vortex_table_chunk.specs.BoundCode.{coded_content}
use Rattle.vortex_table_zonemaps.specs.Known.{AreKnown}
use Rattle.vortex_table_zonemaps.specs.declared.views.Views.{Views}

-- the view is one of the value beside the bytes, which are its one buffer
abbrev pub IsViewIn : List ℕ → List ℕ → List ℕ → Type 0
IsViewIn bytes value view = HasValue view (bytes ∷ []) × (value_of view (bytes ∷ []) ≡ value)

-- every view has a value beside the bytes, and those are the contents, where they are known
abbrev pub AreViewsKnown : (List ℕ → Content) → Views → List Content → Type 0
AreViewsKnown f s cs =
    ∥ All (λ v. HasValue v (s.bytes.items ∷ [])) (take (length cs) s.views.values.items) ∥₁
    × AreKnown (λ v. f (value_of v (s.bytes.items ∷ []))) s.views cs

-- AreViewsKnown of strings, or of bytes, as their kind is
abbrev pub AreStrings : Views → List Content → Type 0
AreStrings s cs = AreViewsKnown (string_content (strings_of s.kind)) s cs

pub AreViewsKnown-prop : (f : List ℕ → Content) (s : Views) (cs : List Content) →
    IsProp (AreViewsKnown f s cs)
AreViewsKnown-prop f s cs = λ p q i. (
  ∥∥₁_prop p.0 q.0 i,
  Coded-set (coded_list coded_content) _ _ p.1 q.1 i,
)
