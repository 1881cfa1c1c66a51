-- Values of extensions are those of their storage type.
use Rattle.std.proofs.Common.{◌≡◌, Some, refl}
use Rattle.vortex_model.specs.LogicalType.{LogicalType, extension}
use Rattle.vortex_model.specs.Content.{Raw}
use Rattle.vortex_model.specs.Valid.{valid}
use Rattle.vortex_dtype_core.specs.Parts.{extension_in_type, storage_of}

pub extension_is : (k x : LogicalType) → extension_in_type k ≡ Some x → x ≡ k
extension_is (extension id meta l) x h = cc (h)
extension_is k x h = absurd (cc (h))

pub storage_valid : (k x : LogicalType) (r : Raw) → extension_in_type k ≡ Some x → valid (storage_of k) r ≡ valid k r
storage_valid (extension id meta l) x r h = refl
storage_valid k x r h = absurd (cc (h))

pub ruleset stored = (extension_is, storage_valid)
