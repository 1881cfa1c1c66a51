-- The code of a bound, by which a proof distinguishes two bounds.
use Rattle.std.specs.Prelude.{◌≡◌, Option, Some, None, Bool, true, false}
use Rattle.std.specs.Coded.{Coded, code_by, coded_option, coded×, coded_bool}
use Rattle.std.proofs.Common.{refl}
use Rattle.vortex_model.specs.Content.{Content}
use Rattle.vortex_model_table.specs.Statistics.{Precision, exact, inexact, absent}
use Rattle.vortex_stats_expr.specs.ContentCode.{content_code, content_inj}

abbrev pub coded_content : Coded Content
coded_content = record { code = content_code; inj = content_inj }

-- a precision as whether it is exact, and the value
abbrev pub parts_of : {A : Type 0} → Precision A → Option (Bool × A)
parts_of (exact c) = Some (true, c)
parts_of (inexact c) = Some (false, c)
parts_of absent = None

abbrev pub of_parts : {A : Type 0} → Option (Bool × A) → Precision A
of_parts (Some (true, c)) = exact c
of_parts (Some (false, c)) = inexact c
of_parts None = absent

pub parts_back : {A : Type 0} (p : Precision A) → of_parts (parts_of p) ≡ p
parts_back (exact c) = refl
parts_back (inexact c) = refl
parts_back absent = refl

abbrev pub coded_precision : {A : Type 0} → Coded A → Coded (Precision A)
coded_precision {A} coded =
    code_by (Option (Bool × A)) (coded_option (coded× coded_bool coded)) parts_of of_parts
    parts_back

abbrev pub coded_bound : Coded (Precision Content)
coded_bound = coded_precision coded_content
