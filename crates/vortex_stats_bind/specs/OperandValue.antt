-- What an operand says.
use Rattle.std.specs.Prelude.{pos, ℕ, List, Bool, Option, Some, None}
use Rattle.vortex_model.specs.Content.{Content, content_of, null, boolean, integer, text}
use Rattle.std.specs.declared.cmp.Ordering.{Ordering}
use Rattle.vortex_model.specs.Order.{content_cmp}
use Rattle.vortex_scalar_value.specs.View.{raw_of}
use Rattle.vortex_stats_bind.specs.declared.value.Value.{Value}
use Rattle.vortex_stats_bind.specs.declared.value.Value.TheVariants as value

abbrev pub operand_value : Value → Content
operand_value value.Null = null
operand_value (value.Truth b) = boolean b
operand_value (value.Count n) = integer (pos n)
operand_value (value.Stored r) = content_of (raw_of r.now)

-- null is neither true nor false
abbrev pub truth_content : Option Bool → Content
truth_content None = null
truth_content (Some b) = boolean b

-- the boolean, where it is one
abbrev pub boolean_in : Content → Option Bool
boolean_in (boolean b) = Some b
boolean_in c = None

-- the string, where it is one
abbrev pub text_in : Content → Option (List ℕ)
text_in (text bs) = Some bs
text_in c = None

-- the order of two contents, neither of which is null
abbrev pub order_of : Content → Content → Option Ordering
order_of null d = None
order_of c null = None
order_of c d = content_cmp c d
