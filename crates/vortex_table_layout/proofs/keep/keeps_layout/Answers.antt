use Rattle.std.proofs.Common.{sym, ◌∙◌}
use Rattle.vortex_table_layout.proofs.keep.keeps_layout.Goals as goal

pub returns-then-eq : goal.returns-then-eq
returns-then-eq c = (
  λ h. (sym c.dtype.ensures ∙ c.eq.ensures.equal.0 c.if-eq.true, sym c.has_record_columns.ensures ∙ h),
  λ k. c.has_record_columns.ensures ∙ k.1,
)

pub returns-else-eq : goal.returns-else-eq
returns-else-eq c = (
  λ h. absurd (cc (sym c.if-eq.false ∙ h)),
  λ k. c.eq.ensures.equal.1 (c.dtype.ensures ∙ k.0),
)
