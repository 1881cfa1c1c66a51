-- What a literal is, where it is of one form.
use Rattle.std.specs.Prelude.{ℕ, ℤ, List, Option, Some, None}
use Rattle.vortex_model.specs.Content.{Content, integer, text, byte_string}

abbrev pub integer_in : Content → Option ℤ
integer_in (integer z) = Some z
integer_in c = None

abbrev pub text_in : Content → Option (List ℕ)
text_in (text bs) = Some bs
text_in c = None

abbrev pub bytes_in : Content → Option (List ℕ)
bytes_in (byte_string bs) = Some bs
bytes_in c = None
