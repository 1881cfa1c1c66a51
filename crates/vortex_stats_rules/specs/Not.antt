-- Two rules for NOT, each with why its proofs are sound.
use Rattle.std.proofs.Common.{◌≡◌, List, [], ◌∷◌, Bool, true, false, not, if◌then◌else◌, refl, sym, ap, ◌∙◌}
use Rattle.std.specs.List.{AllByRecursion}
use Rattle.vortex_model.specs.LogicalType.{LogicalType}
use Rattle.vortex_model.specs.Content.{Content, boolean}
use Rattle.vortex_model_table.specs.Expression.{Expression, literal, negation}
use Rattle.vortex_model_table.specs.Truth.{evaluate, Satisfies}
use Rattle.vortex_model_table.specs.Rewrite.{boolean_literal}
use Rattle.vortex_model_table.specs.Sound.{Placeholders, of_proof, IsSoundFalsifier, IsSoundSatisfier}
use Rattle.vortex_model_rules.specs.Rules.{Rule, Meaning, of_not, proof, no_proof, asked}
use Rattle.vortex_stats_rules.specs.Meanings.{SoundRule}

-- a literal false proves nothing
no_proof_of : (given : Placeholders) (rows : List Content) (p : Expression) →
    p ≡ boolean_literal false → evaluate (of_proof given rows) p ≡ boolean true → ⊥
no_proof_of given rows p h t =
    let g : boolean false ≡ boolean true = sym (ap (evaluate (of_proof given rows)) h) ∙ t in
    cc (g)

pub of_none : (k : LogicalType) (e p : Expression) → p ≡ boolean_literal false →
    IsSoundFalsifier k e p
of_none k e p h = λ rows given typed honest proves. absurd (no_proof_of given rows p h proves.1)

pub of_all : (k : LogicalType) (e p : Expression) → p ≡ boolean_literal false →
    IsSoundSatisfier k e p
of_all k e p h = λ rows given typed honest proves. absurd (no_proof_of given rows p h proves.1)

by_test : (b : Bool) (p q : Expression) → (if b then proof q else no_proof) ≡ proof p → p ≡ q
by_test true p q h = cc (h)
by_test false p q h = absurd (cc (h))

-- ---- a rule whose proofs are never true

abbrev pub answers_false : Meaning
answers_false k e = proof (boolean_literal false)

abbrev pub never : Rule
never = record { root = of_not; falsify = answers_false; satisfy = answers_false }

pub its_false : (k : LogicalType) (e p : Expression) →
    asked of_not answers_false k e ≡ proof p → p ≡ boolean_literal false
its_false k e p h = by_test _ p (boolean_literal false) h

abbrev pub never_is_sound : SoundRule
never_is_sound = record {
  rule = never;
  keeps_its_law = λ k. record {
    falsifies = λ e p truth formed h. of_none k e p (its_false k e p h);
    satisfies = λ e p truth formed h. of_all k e p (its_false k e p h);
  };
}

-- ---- a rule for NOT of a literal

abbrev pub falsify_literal : Meaning
falsify_literal k (negation (literal l (boolean b))) = proof (boolean_literal b)
falsify_literal k e = no_proof

abbrev pub satisfy_literal : Meaning
satisfy_literal k (negation (literal l (boolean b))) = proof (boolean_literal (not b))
satisfy_literal k e = no_proof

abbrev pub not_literal : Rule
not_literal = record { root = of_not; falsify = falsify_literal; satisfy = satisfy_literal }

all_rows : (P : Content → Type 0) → ((row : Content) → P row) → (rows : List Content) →
    AllByRecursion P rows
all_rows P h [] = tt
all_rows P h (row ∷ rows) = (h row, all_rows P h rows)

pub falsifies_literal : (k : LogicalType) (e p : Expression) →
    asked of_not falsify_literal k e ≡ proof p → IsSoundFalsifier k e p
falsifies_literal k (negation (literal l (boolean true))) p h =
    λ rows given typed honest proves.
    all_rows (λ row. ¬ (Satisfies k (negation (literal l (boolean true))) row))
    (λ row s. cc (s)) rows
falsifies_literal k (negation (literal l (boolean false))) p h =
    of_none k (negation (literal l (boolean false))) p (cc (h))
falsifies_literal k e p h = absurd (cc (h))

pub satisfies_literal : (k : LogicalType) (e p : Expression) →
    asked of_not satisfy_literal k e ≡ proof p → IsSoundSatisfier k e p
satisfies_literal k (negation (literal l (boolean false))) p h =
    λ rows given typed honest proves.
    all_rows (λ row. Satisfies k (negation (literal l (boolean false))) row) (λ row. refl) rows
satisfies_literal k (negation (literal l (boolean true))) p h =
    of_all k (negation (literal l (boolean true))) p (cc (h))
satisfies_literal k e p h = absurd (cc (h))

abbrev pub not_literal_is_sound : SoundRule
not_literal_is_sound = record {
  rule = not_literal;
  keeps_its_law = λ k. record {
    falsifies = λ e p truth formed h. falsifies_literal k e p h;
    satisfies = λ e p truth formed h. satisfies_literal k e p h;
  };
}
