-- The code of a state, by which a proof distinguishes two states.
use Rattle.std.specs.Prelude.{◌≡◌, ℕ, List, Option, refl}
use Rattle.std.specs.Coded.{Coded, Coded-set, code_by, coded_ℕ, coded_list, coded_option, coded×}
use Rattle.vortex_model.specs.LogicalType.{LogicalType}
use Rattle.vortex_model.specs.Content.{Content}
use Rattle.vortex_model_table.specs.Table.{Table}
use Rattle.vortex_stats_expr.specs.KindCode.{coded_bytes, type_code, type_inj}
use Rattle.vortex_stats_expr.specs.ContentCode.{content_code, content_inj}
use Rattle.example_service.specs.Log.{State}

abbrev coded_type : Coded LogicalType
coded_type = record { code = type_code; inj = type_inj }

abbrev coded_content : Coded Content
coded_content = record { code = content_code; inj = content_inj }

abbrev coded_table : Coded Table
coded_table =
    code_by (LogicalType × (ℕ × (List (List ℕ × ℕ) × (List (List Content) × List ℕ))))
    (coded× coded_type (coded× coded_ℕ (coded× (coded_list (coded× coded_bytes coded_ℕ))
    (coded× (coded_list (coded_list coded_content)) coded_bytes))))
    (λ t. (t.kind, (t.default, (t.lengths, (t.chunks, t.groups)))))
    (λ p. record { kind = p.0; default = p.1.0; lengths = p.1.1.0; chunks = p.1.1.1.0; groups = p.1.1.1.1 })
    (λ _. refl)

abbrev coded_state : Coded State
coded_state =
    code_by (Option Table × List ℕ) (coded× (coded_option coded_table) coded_bytes)
    (λ s. (s.table, s.log)) (λ p. record { table = p.0; log = p.1 }) (λ _. refl)

pub states-prop : (s t : State) → IsProp (s ≡ t)
states-prop s t = Coded-set coded_state s t
