-- Each answer as JSON.
use Rattle.std.specs.Prelude.{ℕ, List}
use Rattle.vortex_model_table.specs.Reply.{Answer, accepted, out_of_memory, refused, found, described}
use Rattle.vortex_table_io.specs.Replies.{memory_text, ok_text}
use Rattle.vortex_table_response.specs.Text.{refusal_text, scan_text, description_text}

abbrev pub text_of : Answer → List ℕ
text_of accepted = ok_text
text_of out_of_memory = memory_text
text_of (refused r) = refusal_text r
text_of (found a) = scan_text a
text_of (described z) = description_text z
