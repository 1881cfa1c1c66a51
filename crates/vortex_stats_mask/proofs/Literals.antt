-- What literals say, by the form of their raw values.
use Rattle.std.proofs.Common.{◌≡◌, refl, ℤ, List, ℕ, Option, Some, None}
use Rattle.vortex_model.specs.Content.{content_of, Raw, raw_boolean, raw_number, raw_text, raw_byte_string}
use Rattle.vortex_scalar_value.specs.Parts.{boolean_in as raw_boolean_in, text_in as raw_text_in, byte_string_in, as_number, whole_number_in}
use Rattle.vortex_stats_bind.specs.OperandValue.{boolean_in}
use Rattle.vortex_stats_mask.specs.Literals.{integer_in, text_in, bytes_in}

pub truth_said : (r : Raw) → boolean_in (content_of r) ≡ raw_boolean_in r
truth_said (raw_boolean b) = refl
truth_said r = refl

pub integer_said : (r : Raw) → integer_in (content_of r) ≡ whole_number_in r
integer_said (raw_number i z) = refl
integer_said r = refl

pub number_there : (r s : Raw) → as_number r ≡ Some s → whole_number_in r ≡ whole_number_in s
number_there (raw_number i z) s h = cc (h)
number_there r s h = absurd (cc (h))

pub number_missing : (r : Raw) → as_number r ≡ None → whole_number_in r ≡ None
number_missing (raw_number i z) h = absurd (cc (h))
number_missing r h = refl

pub text_said : (r : Raw) → text_in (content_of r) ≡ raw_text_in r
text_said (raw_text bs) = refl
text_said r = refl

pub bytes_said : (r : Raw) → bytes_in (content_of r) ≡ byte_string_in r
bytes_said (raw_byte_string bs) = refl
bytes_said r = refl

pub ruleset forms = (truth_said, integer_said, number_there, number_missing, text_said, bytes_said)
