-- What follows of the answers of several scans, by what each of them gave.
use Rattle.std.proofs.Common.{◌≡◌, refl, sym, ◌∙◌, ap, subst, ℕ, ◌+◌, ◌<◌, List, [], ◌∷◌, ◌++◌, length, take, get_or, map, Result, Ok, Err}
use Rattle.std.specs.Prelude.{IfOk}
use Rattle.std.specs.List.{AllByRecursion, AllZip}
use Rattle.std.proofs.lemmas.List.{take_more}
use Rattle.std.proofs.lemmas.Slice.Zip.{all_zipped_more}
use Rattle.vortex_model.specs.Path.{Step}
use Rattle.vortex_model_table.specs.Command.{names_of}
use Rattle.vortex_model_table.specs.Expression.{Expression}
use Rattle.vortex_model_table.specs.Scan.{scanned}
use Rattle.vortex_model_table.specs.Table.{IsTable}
use Rattle.vortex_table_schema.specs.Answer.{answer_of}
use Rattle.vortex_table_schema.specs.declared.answer.ScanAnswer.{ScanAnswer}
use Rattle.vortex_table_schema.specs.declared.error.TableError.{TableError}
use Rattle.vortex_table_core.specs.TableView.{table_of}
use Rattle.vortex_table_core.specs.declared.table.Table.{Table}
use Rattle.vortex_table_core.proofs.Tables.{is_table}
use Rattle.vortex_table_laws.specs.Calls.{IsScanned}
use Rattle.vortex_table_laws.specs.Laws.{OnAll}
use Rattle.vortex_table_laws.specs.Parts.{ArePartsOf, IsAnswerOfParts, PartsAnswerAsTheWhole}
use Rattle.vortex_table_laws.proofs.Answered.{on_ok}

-- one pair more
pub one_more : {A B : Type 0} (R : A → B → Type 0) (xs : List A) (ys : List B) (i : ℕ) (x : A) (y : B) → i < length xs → x ≡ get_or xs i x → AllZip R (take i xs) ys → R x y →
    AllZip R (take (i + 1) xs) (ys ++ y ∷ [])
one_more R xs ys i x y l is h r =
    subst (λ zs. AllZip R zs (ys ++ y ∷ [])) (sym (take_more xs i x l ∙ ap (λ z. take i xs ++ z ∷ []) (sym is))) (all_zipped_more R (take i xs) ys x y h r)

all_tables : (ts : List Table) → AllByRecursion IsTable (map table_of ts)
all_tables [] = tt
all_tables (t ∷ ts) = (is_table t, all_tables ts)

module _ (paths : List (List Step)) (e : Expression) where
  abbrev AreScanned : List Table → List (Result ScanAnswer TableError) → Type 0
  AreScanned ts results = AllZip (λ t r. IsScanned (table_of t) paths e r) ts results

  -- where all were accepted, the answers are those of the model
  on_all : (Holds : List ScanAnswer → Type 0) (ts : List Table) (results : List (Result ScanAnswer TableError)) →
      ((answers : List ScanAnswer) → map answer_of answers ≡ map (λ t. scanned t (map names_of paths) e) (map table_of ts) → Holds answers) → AreScanned ts results → OnAll Holds results
  on_all Holds [] [] follows h = follows [] refl
  on_all Holds (t ∷ ts) (Ok a ∷ results) follows h =
      on_all (λ answers. Holds (a ∷ answers)) ts results (λ answers same. follows (a ∷ answers) (λ i. h.0.found i ∷ same i)) h.1
  on_all Holds (t ∷ ts) (Err x ∷ results) follows h = tt
  on_all Holds [] (r ∷ results) follows h = absurd h
  on_all Holds (t ∷ ts) [] follows h = absurd h

  pub whole_answered : (parts : List Table) (whole : Table) (results : List (Result ScanAnswer TableError)) (result : Result ScanAnswer TableError) → PartsAnswerAsTheWhole →
      AreScanned parts results → IfOk result (λ a. answer_of a ≡ scanned (table_of whole) (map names_of paths) e) → ArePartsOf (map table_of parts) (table_of whole) →
      OnAll (λ answers. IfOk result (λ a. IsAnswerOfParts (map table_of parts) (table_of whole) (map answer_of answers) (answer_of a))) results
  whole_answered parts whole results result law each found are =
      let ts = map table_of parts in let t = table_of whole in
      let of_model = law ts t (map names_of paths) e (all_tables parts) (is_table whole) are in
      on_all (λ answers. IfOk result (λ a. IsAnswerOfParts ts t (map answer_of answers) (answer_of a))) parts results
      (λ answers same. on_ok result (λ a is.
      subst (λ all. IsAnswerOfParts ts t all (answer_of a)) (sym same)
      (subst (IsAnswerOfParts ts t (map (λ u. scanned u (map names_of paths) e) ts)) (sym is) of_model)) found)
      each
