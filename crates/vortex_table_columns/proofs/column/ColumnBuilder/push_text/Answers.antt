use Rattle.std.proofs.Common.{Some, refl, ap}
use Rattle.vortex_model.specs.Content.{raw_text, raw_byte_string}
use Rattle.vortex_table_columns.specs.Columns.{decoded_cell}
use Rattle.vortex_table_columns.proofs.ColumnLemmas.{taken_more}
use Rattle.vortex_table_columns.proofs.column.ColumnBuilder.push_text.Goals as goal

pub returns-in_ok-push-in-Texts : goal.returns-in_ok-push-in-Texts
returns-in_ok-push-in-Texts c =
    rw c.in-Texts.is (
      raw_text c.args.text.now,
      refl,
      record { kind = refl; cells = taken_more raw_text c.in-Texts.texts c.push.new.self (Some c.args.text.now) c.in_ok-push-in-Texts.ensures },
    )

pub returns-in_ok-push_digits-in-Bytes : goal.returns-in_ok-push_digits-in-Bytes
returns-in_ok-push_digits-in-Bytes c =
    let h = c.in_ok-push_digits-in-Bytes.ensures in
    rw c.in-Bytes.is (
      raw_byte_string h.0,
      ap decoded_cell h.1,
      record { kind = refl; cells = taken_more raw_byte_string c.in-Bytes.bytes c.push_digits.new.self (Some h.0) h.2 },
    )
