-- Lists of calls put end to end.
use Rattle.std.proofs.Common.{◌≡◌, ◌≢◌, ◌<◌, ℕ, List, [], ◌∷◌, ◌++◌, refl, ap, ◌∙◌, sym, append_assoc, append-nil, arith, Bool, false, ◌&&◌, ◌||◌, ◌==◌, nat_lt, if◌then◌else◌, Result, Ok, Err, IfErr}
use Rattle.std.specs.List.{list_any, AllByRecursion}
use Rattle.std.proofs.lemmas.Bool.Decides.{nat_tests}
use Rattle.std.proofs.lemmas.List.Elements.{All-nil, All-cons, All-append, recursion_from_All}
use Rattle.std.proofs.lemmas.List.Folds.{list_any-append}
use Rattle.std.proofs.Math.Bool.{or-false}
use Rattle.vortex_table_io.specs.declared.call.Call.{Call}
use Rattle.vortex_table_io.specs.declared.call.Call.TheVariants.{Passed, Failed}
use Rattle.vortex_table_io.specs.declared.run.RunError.{RunError}
use Rattle.vortex_table_io.specs.declared.run.RunError.TheVariants.{Write}
use Rattle.vortex_table_io.specs.Streams.{OnlyPassed, EndsIn}

abbrev IsPassed : Call → Type 0
IsPassed c = c ≡ Passed

pub passed-none : (calls : List Call) → OnlyPassed calls calls
passed-none calls = ([], All-nil IsPassed, sym (append-nil calls))

pub passed-one : (old new : List Call) → new ≡ old ++ Passed ∷ [] → OnlyPassed old new
passed-one old new e = (Passed ∷ [], All-cons IsPassed Passed [] refl (All-nil IsPassed), e)

pub passed-append : (old mid new : List Call) → OnlyPassed old mid → OnlyPassed mid new → OnlyPassed old new
passed-append old mid new p q =
    (p.0 ++ q.0, All-append IsPassed p.0 q.0 p.1 q.1, q.2 ∙ ap (λ (x : List Call). x ++ q.0) p.2 ∙ append_assoc old p.0 q.0)

pub ends-one : (last : Call) (old mid new : List Call) → OnlyPassed old mid → new ≡ mid ++ last ∷ [] → EndsIn last old new
ends-one last old mid new p e = (mid, p, e)

pub ends-append : (last : Call) (old mid new : List Call) → OnlyPassed old mid → EndsIn last mid new → EndsIn last old new
ends-append last old mid new p q = (q.0, passed-append old mid q.0 p q.1, q.2)

-- an error that is a failed write, after calls that passed
pub err-append : {A : Type 0} (r : Result A RunError) (old mid new : List Call) → OnlyPassed old mid
    → IfErr r (λ e. (e ≡ Write) × EndsIn Failed mid new) → IfErr r (λ e. (e ≡ Write) × EndsIn Failed old new)
err-append (Ok x) old mid new p h = tt
err-append (Err e) old mid new p h = (h.0, ends-append Failed old mid new p h.1)

pub err-ends : {A : Type 0} (r : Result A RunError) (e : RunError) (mid new : List Call) → r ≡ Err e
    → IfErr r (λ x. (x ≡ Write) × EndsIn Failed mid new) → EndsIn Failed mid new
err-ends (Ok x) e mid new is h = absurd (cc is)
err-ends (Err x) e mid new is h = h.1

-- ---- what `has_ended` and `has_failed` are then

module _ (test : Call → Bool) (no : test Passed ≡ false) where
  none_of : (calls : List Call) → AllByRecursion IsPassed calls → list_any test calls ≡ false
  none_of [] h = refl
  none_of (c ∷ calls) h = ap (λ (x : Call). test x || list_any test calls) h.0 ∙ ap (λ (x : Bool). x || list_any test calls) no ∙ none_of calls h.1

  pub any-passed : (old new : List Call) → OnlyPassed old new → list_any test old ≡ false → list_any test new ≡ false
  any-passed old new p h =
      ap (list_any test) p.2 ∙ list_any-append test old p.0 ∙ ap (λ (x : Bool). x || list_any test p.0) h
      ∙ none_of p.0 (recursion_from_All IsPassed p.0 p.1)

  pub any-ends : (last : Call) (old new : List Call) → EndsIn last old new → list_any test old ≡ false → list_any test new ≡ test last
  any-ends last old new e h =
      ap (list_any test) e.2 ∙ list_any-append test e.0 (last ∷ []) ∙ ap (λ (x : Bool). x || (test last || false)) (any-passed old e.0 e.1 h) ∙ or-false (test last)

-- ---- reads and writes by how many bytes went through

passes : (n len : ℕ) (c : Call) → n ≢ 0 → (if n == 0 && nat_lt 0 len then c else Passed) ≡ Passed
passes n len c h = grind (arith, nat_tests, h)

pub passed-some : (old new : List Call) (n len : ℕ) (c : Call) → n ≢ 0 → new ≡ old ++ (if n == 0 && nat_lt 0 len then c else Passed) ∷ [] → OnlyPassed old new
passed-some old new n len c h e = passed-one old new (e ∙ ap (λ (x : Call). old ++ x ∷ []) (passes n len c h))

is_none : (n len : ℕ) (c : Call) → n ≡ 0 → 0 < len → (if n == 0 && nat_lt 0 len then c else Passed) ≡ c
is_none n len c h l = grind (arith, nat_tests, h, l)

pub ends-none : (old mid new : List Call) (n len : ℕ) (c : Call) → n ≡ 0 → 0 < len → OnlyPassed old mid
    → new ≡ mid ++ (if n == 0 && nat_lt 0 len then c else Passed) ∷ [] → EndsIn c old new
ends-none old mid new n len c h l p e = (mid, p, e ∙ ap (λ (x : Call). mid ++ x ∷ []) (is_none n len c h l))
