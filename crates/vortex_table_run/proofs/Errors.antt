-- The strings and the answers that errors are.
use Rattle.std.proofs.Common.{◌≡◌, ◌≢◌, ℕ, List, Option, Some, None, refl, ap, subst, ◌∙◌}
use Rattle.std.specs.Prelude.{IfSome, option_and_then}
use Rattle.vortex_model_table.specs.Table.{Table}
use Rattle.vortex_model_table.specs.Command.{Command, refusal_in}
use Rattle.vortex_model.specs.Refusal.{Refusal, number_of, index_of}
use Rattle.vortex_model_table.specs.Reply.{RespondsTo}
use Rattle.vortex_table_core.specs.Totals.{PassesTotal}
use Rattle.vortex_table_schema.specs.Error.{refusal_of, error_name, Explains}
use Rattle.vortex_table_schema.specs.declared.error.TableError.{TableError}
use Rattle.vortex_table_schema.specs.declared.error.TableError.TheVariants as error
use Rattle.vortex_table_response.specs.Text.{refusal_parts}
use Rattle.vortex_table_response.specs.Answers.{text_of}
use Rattle.vortex_table_run.specs.CommandAnswers.{error_answer}

same : (place : Option ℕ) (n m : ℕ) (x y : List ℕ) → n ≡ m → x ≡ y → refusal_parts place n x ≡ refusal_parts place m y
same place n m x y e f = ap (λ (k : ℕ). refusal_parts place k x) e ∙ ap (λ (z : List ℕ). refusal_parts place m z) f

-- no command is refused for the fault of a caller's rule
pub no_rule : (P : Type 0) (fault : Option Refusal) (e : TableError) → Explains P fault e → e ≢ error.RuleFault
no_rule P fault e x is = subst (λ (d : TableError). Explains P fault d) is x

-- an error's string is that of its answer
pub error_text : (e : TableError) (n : ℕ) (x : List ℕ) → e ≢ error.Memory → e ≢ error.RuleFault → x ≡ error_name e
    → IfSome (refusal_of e) (λ r. n ≡ number_of r) → (e ≡ error.Total → n ≡ 7)
    → refusal_parts (option_and_then index_of (refusal_of e)) n x ≡ text_of (error_answer e)
error_text error.Memory n x memory rule f e total = absurd (memory refl)
error_text error.Total n x memory rule f e total = same None n 7 x _ (total refl) f
error_text error.RuleFault n x memory rule f e total = absurd (rule refl)
error_text error.NoSuchGroup n x memory rule f e total = same None n 8 x _ e f
error_text error.NotARecord n x memory rule f e total = same None n 2 x _ e f
error_text error.UnkeptType n x memory rule f e total = same None n 3 x _ e f
error_text error.RepeatedName n x memory rule f e total = same None n 4 x _ e f
error_text (error.InvalidValue i) n x memory rule f e total = same (Some i) n 5 x _ e f
error_text (error.NotConvertible i) n x memory rule f e total = same (Some i) n 6 x _ e f
error_text (error.UnknownPath i) n x memory rule f e total = same (Some i) n 9 x _ e f
error_text (error.ElementStep i) n x memory rule f e total = same (Some i) n 10 x _ e f
error_text error.Placeholder n x memory rule f e total = same None n 11 x _ e f
error_text error.UnknownColumn n x memory rule f e total = same None n 12 x _ e f
error_text error.NotALeaf n x memory rule f e total = same None n 13 x _ e f
error_text error.UnequalTypes n x memory rule f e total = same None n 14 x _ e f
error_text error.NotBoolean n x memory rule f e total = same None n 15 x _ e f
error_text error.UnsupportedLike n x memory rule f e total = same None n 16 x _ e f
error_text error.UnsupportedPredicate n x memory rule f e total = same None n 20 x _ e f
error_text (error.RepeatedPath i) n x memory rule f e total = same (Some i) n 21 x _ e f

-- an error is an answer that changes nothing
pub explained : (P : Type 0) (old new : Option Table) (c : Command) (fault : Option Refusal) (e : TableError) → new ≡ old
    → refusal_in old c ≡ fault → (P → PassesTotal old c) → (e ≡ error.Total → fault ≡ None) → Explains P fault e
    → RespondsTo PassesTotal old c (error_answer e) new
explained P old new c fault error.Memory eq_table r passes behind x = eq_table
explained P old new c fault error.Total eq_table r passes behind x = (r ∙ behind refl, passes x, eq_table)
explained P old new c fault error.RuleFault eq_table r passes behind x = absurd x
explained P old new c fault error.NoSuchGroup eq_table r passes behind x = (r ∙ x, eq_table)
explained P old new c fault error.NotARecord eq_table r passes behind x = (r ∙ x, eq_table)
explained P old new c fault error.UnkeptType eq_table r passes behind x = (r ∙ x, eq_table)
explained P old new c fault error.RepeatedName eq_table r passes behind x = (r ∙ x, eq_table)
explained P old new c fault (error.InvalidValue i) eq_table r passes behind x = (r ∙ x, eq_table)
explained P old new c fault (error.NotConvertible i) eq_table r passes behind x = (r ∙ x, eq_table)
explained P old new c fault (error.UnknownPath i) eq_table r passes behind x = (r ∙ x, eq_table)
explained P old new c fault (error.ElementStep i) eq_table r passes behind x = (r ∙ x, eq_table)
explained P old new c fault error.Placeholder eq_table r passes behind x = (r ∙ x, eq_table)
explained P old new c fault error.UnknownColumn eq_table r passes behind x = (r ∙ x, eq_table)
explained P old new c fault error.NotALeaf eq_table r passes behind x = (r ∙ x, eq_table)
explained P old new c fault error.UnequalTypes eq_table r passes behind x = (r ∙ x, eq_table)
explained P old new c fault error.NotBoolean eq_table r passes behind x = (r ∙ x, eq_table)
explained P old new c fault error.UnsupportedLike eq_table r passes behind x = (r ∙ x, eq_table)
explained P old new c fault error.UnsupportedPredicate eq_table r passes behind x = (r ∙ x, eq_table)
explained P old new c fault (error.RepeatedPath i) eq_table r passes behind x = (r ∙ x, eq_table)
