use Rattle.std.proofs.Common.{[], false, pos, Some, refl}
use Rattle.vortex_model.specs.Content.{raw_boolean, raw_text, raw_byte_string}
use Rattle.vortex_table_columns.proofs.ColumnLemmas.{taken_more, number_taken}
use Rattle.vortex_table_columns.proofs.column.ColumnBuilder.fill.Goals as goal

pub returns-in_ok-push-in-Booleans : goal.returns-in_ok-push-in-Booleans
returns-in_ok-push-in-Booleans c =
    rw c.in-Booleans.is (raw_boolean false, record { kind = refl; cells = taken_more raw_boolean c.in-Booleans.cells.items c.push.new.self.items (Some false) c.in_ok-push-in-Booleans.ensures.items })

pub returns-in_ok-push-in-Integers : goal.returns-in_ok-push-in-Integers
returns-in_ok-push-in-Integers c =
    rw c.in-Integers.is (_, number_taken c.in-Integers.field-0 c.in-Integers.cells c.push-in-Integers.new.self (Some (pos 0)) c.in_ok-push-in-Integers.ensures)

pub returns-in_ok-push-in-Texts : goal.returns-in_ok-push-in-Texts
returns-in_ok-push-in-Texts c =
    rw c.in-Texts.is (raw_text [], record { kind = refl; cells = taken_more raw_text c.in-Texts.texts c.push-in-Texts.new.self (Some []) c.in_ok-push-in-Texts.ensures })

pub returns-in_ok-push_digits-in-Bytes : goal.returns-in_ok-push_digits-in-Bytes
returns-in_ok-push_digits-in-Bytes c =
    let h = c.in_ok-push_digits-in-Bytes.ensures in
    rw c.in-Bytes.is (raw_byte_string h.0, record { kind = refl; cells = taken_more raw_byte_string c.in-Bytes.bytes c.push_digits.new.self (Some h.0) h.2 })
