-- What holds of the answers of several calls, by what each of them gave.
use Rattle.std.proofs.Common.{◌≡◌, List, sym, ◌∙◌, ap, subst, Result, Ok, Err, None}
use Rattle.std.specs.Prelude.{IfOk, OnOk}
use Rattle.vortex_model.specs.LogicalType.{LogicalType}
use Rattle.vortex_model.specs.Path.{Names}
use Rattle.vortex_model_table.specs.Cut.{cut_type}
use Rattle.vortex_model_table.specs.Expression.{Expression}
use Rattle.vortex_model_table.specs.Scan as model
use Rattle.vortex_model_table.specs.Scan.{scanned, skipped_chunks, whole_chunks, rows_tested, proofs}
use Rattle.vortex_model_table.specs.Table.{Table, answer}
use Rattle.vortex_model_table.specs.Command.{retype, refusal, after}
use Rattle.vortex_model_laws.specs.Laws.{RetypingTwiceIsRetypingAtOnce}
use Rattle.vortex_table_schema.specs.Answer.{answer_of}
use Rattle.vortex_table_schema.specs.declared.answer.ScanAnswer.{ScanAnswer}
use Rattle.vortex_table_schema.specs.declared.error.TableError.{TableError}
use Rattle.vortex_table_laws.specs.Laws.{OnBoth}

-- what follows from what holds of an accepted scan
pub on_ok : {P Q : ScanAnswer → Type 0} (r : Result ScanAnswer TableError) →
    ((a : ScanAnswer) → P a → Q a) → IfOk r P → IfOk r Q
on_ok (Ok a) follows h = follows a h
on_ok (Err e) follows h = tt

-- what follows from what holds of two
pub on_both : {P Q : ScanAnswer → Type 0} {H : ScanAnswer → ScanAnswer → Type 0}
    (r s : Result ScanAnswer TableError) → ((a b : ScanAnswer) → P a → Q b → H a b) →
    IfOk r P → IfOk s Q → OnBoth H r s
on_both (Ok a) (Ok b) follows h k = follows a b h k
on_both (Ok a) (Err e) follows h k = tt
on_both (Err e) s follows h k = tt

-- what a scan answers by paths of which rows and type are those of others
pub scanned_alike : (t : Table) (paths others : List Names) (e : Expression) →
    answer t paths e ≡ answer t others e → cut_type paths t.kind ≡ cut_type others t.kind →
    scanned t paths e ≡ scanned t others e
scanned_alike t paths others e rows kind = λ i. record {
  rows = rows i;
  kind = kind i;
  skipped = skipped_chunks t e;
  whole = whole_chunks t e;
  rows_tested = rows_tested t e;
  proofs = proofs t e;
}

-- the answers of equal scans
pub same_answers : (a b : ScanAnswer) (x y : model.ScanAnswer) → x ≡ y → answer_of a ≡ x →
    answer_of b ≡ y → answer_of b ≡ answer_of a
same_answers a b x y e h k = k ∙ (sym e ∙ sym h)

-- what follows where a command was accepted
pub where_accepted : {A : Type 0} {P Q : Type 0} (r : Result A TableError) → (P → Q) → OnOk r P →
    OnOk r Q
where_accepted (Ok a) follows h = follows h
where_accepted (Err e) follows h = tt

-- Where both retypes of one table are accepted, so is the last one at once, and it leaves the same.
pub at_once : {A : Type 0} (s d mid new direct : Table) (k l : LogicalType)
    (r1 r2 r3 : Result A TableError) → RetypingTwiceIsRetypingAtOnce → s ≡ d →
    OnOk r1 (mid ≡ after s (retype k)) → OnOk r1 (refusal s (retype k) ≡ None) →
    OnOk r2 (new ≡ after mid (retype l)) → OnOk r2 (refusal mid (retype l) ≡ None) →
    OnOk r3 (direct ≡ after d (retype l)) →
    OnOk r1 (OnOk r2 ((refusal d (retype l) ≡ None) × OnOk r3 (direct ≡ new)))
at_once s d mid new direct k l (Ok a) (Ok b) r3 law same e1 h1 e2 h2 e3 =
    let both = law s k l h1 (subst (λ m. refusal m (retype l) ≡ None) e1 h2) in
    let left : after d (retype l) ≡ new =
    ap (λ t. after t (retype l)) (sym same) ∙ both.1 ∙ ap (λ m. after m (retype l)) (sym e1)
    ∙ sym e2 in
    (subst (λ t. refusal t (retype l) ≡ None) same both.0, where_accepted r3 (λ e. e ∙ left) e3)
at_once s d mid new direct k l (Ok a) (Err e) r3 law same e1 h1 e2 h2 e3 = tt
at_once s d mid new direct k l (Err e) r2 r3 law same e1 h1 e2 h2 e3 = tt
