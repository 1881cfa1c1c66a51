use Rattle.vortex_dtype_fields.proofs.Digits.{one_byte, two_bytes, four_bytes, eight_bytes, sixteen_bytes, most_bytes}
use Rattle.vortex_dtype_fields.proofs.widths.bytes_of_digits.Goals as goal

pub returns-then-digits-le2 : goal.returns-then-digits-le2
returns-then-digits-le2 c = one_byte c.args.digits c.if-digits-le2.true

pub returns-then-digits-le4 : goal.returns-then-digits-le4
returns-then-digits-le4 c = two_bytes c.args.digits c.if-digits-le2.false c.if-digits-le4.true

pub returns-then-digits-le9 : goal.returns-then-digits-le9
returns-then-digits-le9 c = four_bytes c.args.digits c.if-digits-le4.false c.if-digits-le9.true

pub returns-then-digits-le18 : goal.returns-then-digits-le18
returns-then-digits-le18 c = eight_bytes c.args.digits c.if-digits-le9.false c.if-digits-le18.true

pub returns-then-digits-le38 : goal.returns-then-digits-le38
returns-then-digits-le38 c = sixteen_bytes c.args.digits c.if-digits-le18.false c.if-digits-le38.true

pub returns-else-digits-le38 : goal.returns-else-digits-le38
returns-else-digits-le38 c = most_bytes c.args.digits c.if-digits-le38.false c.requires
