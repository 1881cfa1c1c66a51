use Rattle.std.proofs.Common.{◌≡◌, ◌-◌, ◌∷◌, sym, refl, drop, arith, subst}
use Rattle.vortex_dtype_core.specs.View.{fields_of}
use Rattle.vortex_table_schema.proofs.Distinct.{drop-before}
use Rattle.vortex_table_schema.specs.PartIndex.{AreOf}
use Rattle.vortex_table_schema.proofs.PartIndexes.{indexed_more}
use Rattle.vortex_table_schema.proofs.part_index.index_fields.Goals as goal

pub loop-rest-preserved : goal.loop-rest-preserved
loop-rest-preserved c =
    let fs = c.args.fields.now in
    let field = c.index-fields-rest.result in
    let rest = drop c.loop-rest.rest fs in
    let split : drop (c.loop-rest.rest - 1) fs ≡ field ∷ rest
    = drop-before fs c.loop-rest.rest field c.loop-rest-test.true c.loop-rest.invariant.within c.index-fields-rest.is in
    let within = c.loop-rest.invariant.within in
    record {
      within = omega (arith, within);
      parts = subst (λ gs. AreOf c.insert.new.self (fields_of gs)) (sym split)
          (indexed_more c.loop-rest.index c.insert.new.self c.as_str.result _ field rest c.as_str.ensures refl c.in_ok-insert.ensures.updates c.loop-rest.invariant.parts);
    }
