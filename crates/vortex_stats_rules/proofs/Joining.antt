-- Answers of rules after proofs.
use Rattle.std.proofs.Common.{◌≡◌, ◌+◌, ◌<◌, ◌≤◌, ℕ, length, get_or, drop, List, [], ◌∷◌, ◌++◌, map, Option, Some, None, Result, Ok, Err, true, false, if◌then◌else◌, IfSome, option_map, refl, sym, ap, ◌∙◌, subst}
use Rattle.std.proofs.lemmas.List.{drop_all}
use Rattle.std.specs.List.{list_any, AllByRecursion}
use Rattle.std.specs.Result.{IsErrAnd}
use Rattle.vortex_model.specs.LogicalType.{LogicalType}
use Rattle.vortex_model.proofs.Lists.{opened}
use Rattle.vortex_model_table.specs.Expression.{Expression}
use Rattle.vortex_model_table.specs.Rewrite.{joined_proofs}
use Rattle.vortex_model_rules.specs.Rules.{Answer, no_proof, proof, fault, is_fault, proofs_in, answer_of, joined_answers}
use Rattle.vortex_stats_expr.specs.declared.error.StatsError.{StatsError}
use Rattle.vortex_stats_expr.specs.declared.error.StatsError.TheVariants as error
use Rattle.vortex_stats_rules.specs.declared.answers.Claim.{Claim}
use Rattle.vortex_stats_bind.specs.Bound.{Bound, expression_of}
use Rattle.vortex_stats_bind.proofs.Alike.{expression_of_bound, bound_to}
use Rattle.vortex_stats_rules.specs.Meanings.{SoundRule, rules_of, IsFault, IsBoundTruth, AreProofs, expressions_in, IsProofIn, expression_in, IsJudged, AreJoined, IsPushed, asked_of, answers_to}
use Rattle.vortex_stats_rules.specs.Table as table
use Rattle.vortex_stats_rules.specs.Table.{Boxed, unboxed, all_unboxed}
use Rattle.vortex_stats_rules.proofs.Same.{IsProofOf, AreProofsOf, IsProofIf, joined_so}

abbrev behind : List Expression → List Answer → Answer
behind ps rest = joined_answers (map proof ps ++ rest)

no_fault : (ps : List Expression) → list_any is_fault (map proof ps ++ []) ≡ false
no_fault [] = refl
no_fault (p ∷ ps) = no_fault ps

as_they_are : (ps : List Expression) → proofs_in (map proof ps ++ []) ≡ ps
as_they_are [] = refl
as_they_are (p ∷ ps) = ap (λ qs. p ∷ qs) (as_they_are ps)

-- where no answer is left
pub joined_only : (ps : List Expression) → behind ps [] ≡ answer_of (joined_proofs ps)
joined_only ps = (λ i. if no_fault ps i then fault else answer_of (joined_proofs (as_they_are ps i)))

put_behind : (ps : List Expression) (p : Expression) (rest : List Answer) → map proof ps ++ (proof p ∷ rest) ≡ map proof (ps ++ (p ∷ [])) ++ rest
put_behind [] p rest = refl
put_behind (q ∷ ps) p rest = ap (λ answers. proof q ∷ answers) (put_behind ps p rest)

-- where a rule answers a proof
pub one_more : (ps : List Expression) (p : Expression) (a : Answer) (rest : List Answer) → a ≡ proof p → behind ps (a ∷ rest) ≡ behind (ps ++ (p ∷ [])) rest
one_more ps p a rest h = ap (λ b. behind ps (b ∷ rest)) h ∙ ap joined_answers (put_behind ps p rest)

any_without : (ps : List Expression) (rest : List Answer) → list_any is_fault (map proof ps ++ (no_proof ∷ rest)) ≡ list_any is_fault (map proof ps ++ rest)
any_without [] rest = refl
any_without (p ∷ ps) rest = any_without ps rest

proofs_without : (ps : List Expression) (rest : List Answer) → proofs_in (map proof ps ++ (no_proof ∷ rest)) ≡ proofs_in (map proof ps ++ rest)
proofs_without [] rest = refl
proofs_without (p ∷ ps) rest = ap (λ qs. p ∷ qs) (proofs_without ps rest)

-- where it answers none
pub passed_over : (ps : List Expression) (a : Answer) (rest : List Answer) → a ≡ no_proof → behind ps (a ∷ rest) ≡ behind ps rest
passed_over ps a rest h =
    ap (λ b. behind ps (b ∷ rest)) h ∙ (λ i. if any_without ps rest i then fault else answer_of (joined_proofs (proofs_without ps rest i)))

any_fault : (ps : List Expression) (rest : List Answer) → list_any is_fault (map proof ps ++ (fault ∷ rest)) ≡ true
any_fault [] rest = refl
any_fault (p ∷ ps) rest = any_fault ps rest

-- where it answers a fault
faulty : (ps : List Expression) (rest : List Answer) → behind ps (fault ∷ rest) ≡ fault
faulty ps rest = ap (λ b. if b then fault else answer_of (joined_proofs (proofs_in (map proof ps ++ (fault ∷ rest))))) (any_fault ps rest)

pub a_fault : (ps : List Expression) (a : Answer) (rest : List Answer) (e : StatsError) → IsFault e a → IsFault e (behind ps (a ∷ rest))
a_fault ps a rest error.Memory h = tt
a_fault ps a rest error.RuleFault h = ap (λ b. behind ps (b ∷ rest)) h ∙ faulty ps rest
a_fault ps a rest e h = absurd h

-- what an error that is passed on keeps
pub at_error : {T E : Type 0} (r : Result T E) (e : E) (F : Result T E → Type 0) → IsErrAnd r (λ y. y ≡ e) → F (Err e) → F r
at_error (Ok x) e F h p = absurd h
at_error (Err y) e F h p = subst (λ z. F (Err z)) (sym h) p

-- ---- one more proof

none_more : (ps : List Expression) → ps ≡ ps ++ []
none_more [] = refl
none_more (p ∷ ps) = ap (λ qs. p ∷ qs) (none_more ps)

-- where the answer is no fault
moved : (ps qs : List Expression) (a : Answer) (rest : List Answer) → is_fault a ≡ false → qs ≡ ps ++ proofs_in (a ∷ []) → behind ps (a ∷ rest) ≡ behind qs rest
moved ps qs (proof p) rest u e = one_more ps p (proof p) rest refl ∙ ap (λ os. behind os rest) (sym e)
moved ps qs no_proof rest u e = passed_over ps no_proof rest refl ∙ ap (λ os. behind os rest) (none_more ps ∙ sym e)
moved ps qs fault rest u e = absurd (cc (u))

-- ---- what is joined is the answer

themselves : (k : LogicalType) (bs : List Bound) → AllByRecursion (IsBoundTruth k) bs → AreProofsOf k (map expression_of bs) bs
themselves k [] h = tt
themselves k (b ∷ bs) h = (record { bound = h.0.bound; boolean = h.0.boolean }, themselves k bs h.1)

pub itself : (k : LogicalType) (p : Expression) (b : Bound) → IsProofOf k p b → (p ≡ expression_of b) × IsBoundTruth k b
itself k p b h =
    (sym (expression_of_bound k p b h.bound), record { bound = bound_to k p b h.bound; boolean = h.boolean })

pub listed_proofs : (k : LogicalType) (ps : List Expression) (bs : List Bound) → AreProofsOf k ps bs → (map expression_of bs ≡ ps) × AllByRecursion (IsBoundTruth k) bs
listed_proofs k [] [] h = (refl, tt)
listed_proofs k (p ∷ ps) (b ∷ bs) h =
    let one = itself k p b h.0 in
    let rest = listed_proofs k ps bs h.1 in
    ((λ i. sym one.0 i ∷ rest.0 i), (one.1, rest.1))
listed_proofs k ps bs h = absurd h

pub itself_in : (k : LogicalType) (p : Option Expression) (o : Option Boxed) → IsProofIf k p (unboxed o) → (answer_of p ≡ answer_of (expression_in o)) × IsProofIn k o
itself_in k None None h = (refl, tt)
itself_in k (Some p) (Some b) h = let is = itself k p b.value h in (ap proof is.0, is.1)
itself_in k p o h = absurd h

pub joined_judged : (k : LogicalType) (bs : List Boxed) (o : Option Boxed) (a : Answer) → AreJoined k bs a → unboxed o ≡ table.joined_proofs (all_unboxed bs) → IsJudged k (Ok o) a
joined_judged k bs o a j is =
    let one = itself_in k (joined_proofs (expressions_in bs)) o
    (subst (IsProofIf k (joined_proofs (expressions_in bs))) (sym is) (joined_so k (expressions_in bs) (all_unboxed bs) (themselves k (all_unboxed bs) j.1))) in
    (sym j.0 ∙ one.0, one.1)

-- one built-in proof, or none, as a list
pub listed : (k : LogicalType) (o : Option Boxed) (bs : List Boxed) → all_unboxed bs ≡ table.as_list (unboxed o) → IsProofIn k o → AreProofs k bs
listed k o bs is h = subst (AllByRecursion (IsBoundTruth k)) (sym is) (by_cases (unboxed o) h)
  where
    by_cases : (o : Option Bound) → IfSome o (IsBoundTruth k) → AllByRecursion (IsBoundTruth k) (table.as_list o)
    by_cases None h = tt
    by_cases (Some b) h = (h, tt)

pub in_front : (o : Option Boxed) (bs : List Boxed) (answers : List Answer) → all_unboxed bs ≡ table.as_list (unboxed o) →
    joined_answers (map proof (expressions_in bs) ++ answers) ≡ joined_answers (answer_of (expression_in o) ∷ answers)
in_front o bs answers is = ap (λ cs. behind (map expression_of cs) answers) is ∙ by_cases (unboxed o)
  where
    by_cases : (o : Option Bound) → behind (map expression_of (table.as_list o)) answers ≡ joined_answers (answer_of (option_map expression_of o) ∷ answers)
    by_cases None = refl
    by_cases (Some b) = refl

-- ---- a walk along the rules

module _ {B : Type 0} (meaning : B → SoundRule) (c : Claim) (k : LogicalType) (e : Expression) where
  abbrev left_of : List Expression → List B → Answer
  left_of ps bs = behind ps (answers_to c k e (rules_of meaning bs))

  -- past a rule that answers a proof or none
  pub passes : (old new : List Boxed) (ds : List B) (i : ℕ) (b : B) (whole : Answer) → i < length ds → b ≡ get_or ds i b →
      IsPushed k old new (asked_of c k e (meaning b).rule) → left_of (expressions_in old) (drop i ds) ≡ whole → left_of (expressions_in new) (drop (i + 1) ds) ≡ whole
  passes old new ds i b whole within at pushed left =
      sym (moved (expressions_in old) (expressions_in new) (asked_of c k e (meaning b).rule) (answers_to c k e (rules_of meaning (drop (i + 1) ds))) pushed.0 pushed.1)
      ∙ sym (ap (left_of (expressions_in old)) (opened ds i b within at)) ∙ left

  -- at one that fails
  pub fails : (error : StatsError) (ps : List Expression) (ds : List B) (i : ℕ) (b : B) (whole : Answer) → i < length ds → b ≡ get_or ds i b →
      IsFault error (asked_of c k e (meaning b).rule) →
      left_of ps (drop i ds) ≡ whole → IsFault error whole
  fails error ps ds i b whole within at failed left =
      subst (IsFault error) (sym (ap (left_of ps) (opened ds i b within at)) ∙ left)
      (a_fault ps (asked_of c k e (meaning b).rule) (answers_to c k e (rules_of meaning (drop (i + 1) ds))) error failed)

  -- after the last one
  pub ends : (ps : List Expression) (ds : List B) (i : ℕ) (whole : Answer) → length ds ≤ i → left_of ps (drop i ds) ≡ whole → answer_of (joined_proofs ps) ≡ whole
  ends ps ds i whole past left = sym (joined_only ps) ∙ ap (left_of ps) (sym (drop_all i ds past)) ∙ left
