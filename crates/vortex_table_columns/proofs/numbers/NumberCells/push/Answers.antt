use Rattle.std.proofs.Common.{refl}
use Rattle.std.proofs.lemmas.Result.{IfOk-weaker}
use Rattle.vortex_table_columns.proofs.numbers.NumberCells.push.Goals as goal

pub returns-in-U8 : goal.returns-in-U8
returns-in-U8 c = rw c.in-U8.is (IfOk-weaker c.push.result _ _ (λ _ h. (refl, h)) c.push.ensures)

pub returns-in-U16 : goal.returns-in-U16
returns-in-U16 c = rw c.in-U16.is (IfOk-weaker c.push-in-U16.result _ _ (λ _ h. (refl, h)) c.push-in-U16.ensures)

pub returns-in-U32 : goal.returns-in-U32
returns-in-U32 c = rw c.in-U32.is (IfOk-weaker c.push-in-U32.result _ _ (λ _ h. (refl, h)) c.push-in-U32.ensures)

pub returns-in-U64 : goal.returns-in-U64
returns-in-U64 c = rw c.in-U64.is (IfOk-weaker c.push-in-U64.result _ _ (λ _ h. (refl, h)) c.push-in-U64.ensures)

pub returns-in-I8 : goal.returns-in-I8
returns-in-I8 c = rw c.in-I8.is (IfOk-weaker c.push-in-I8.result _ _ (λ _ h. (refl, h)) c.push-in-I8.ensures)

pub returns-in-I16 : goal.returns-in-I16
returns-in-I16 c = rw c.in-I16.is (IfOk-weaker c.push-in-I16.result _ _ (λ _ h. (refl, h)) c.push-in-I16.ensures)

pub returns-in-I32 : goal.returns-in-I32
returns-in-I32 c = rw c.in-I32.is (IfOk-weaker c.push-in-I32.result _ _ (λ _ h. (refl, h)) c.push-in-I32.ensures)

pub returns-in-I64 : goal.returns-in-I64
returns-in-I64 c = rw c.in-I64.is (IfOk-weaker c.push-in-I64.result _ _ (λ _ h. (refl, h)) c.push-in-I64.ensures)
