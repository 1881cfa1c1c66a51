use Rattle.std.proofs.Common.{◌≡◌, List, ℕ, ◌++◌, sym, ap, ◌∙◌, append_assoc}
use Rattle.std.proofs.lemmas.Result.{err_from_is_err_and}
use Rattle.vortex_table_io.proofs.CallLemmas.{err-append}
use Rattle.vortex_table_io.proofs.run.write_behind.Goals as goal

-- what is left of the first bytes, and then the second
left : (new rest old text more mid : List ℕ) → new ++ rest ≡ old ++ mid → mid ≡ text → new ++ (rest ++ more) ≡ (old ++ text) ++ more
left new rest old text more mid e h =
    sym (append_assoc new rest more) ∙ ap (λ (x : List ℕ). x ++ more) (e ∙ ap (λ (x : List ℕ). old ++ x) h)

pub returns-in_err-write_all-clause-part : goal.returns-in_err-write_all-clause-part
returns-in_err-write_all-clause-part g c =
    let failed = err_from_is_err_and c.from_residual.result c.from_residual.ensures.1 in
    let part = c.in_err-write_all.ensures.part in
    rw (failed.1) (part.0 ++ c.args.text.now, left _ part.0 _ c.args.gathered.now.items c.args.text.now _ part.1 c.deref.ensures.value)

pub returns-clause-err : goal.returns-clause-err
returns-clause-err g c = err-append c.write_all-2.result _ _ _ c.in_ok-write_all.ensures.fine c.write_all-2.ensures.err
