-- UTF-8 by its test.
use Rattle.std.proofs.lemmas.Str.{IsUtf8-from_is_utf8, is_utf8-from_IsUtf8}

pub ruleset tested = (IsUtf8-from_is_utf8, is_utf8-from_IsUtf8)
