use Rattle.std.proofs.Common.{ap, subst}
use Rattle.std.specs.List.{All}
use Rattle.vortex_arrays_model.specs.Layout.{records, content_at}
use Rattle.vortex_arrays_core.specs.LayoutOf.{valid_of}
use Rattle.vortex_arrays_cast.specs.Ranges.{IsRangeIn}
use Rattle.vortex_arrays_cast.proofs.ranges.field_ranges.Goals as goal

pub returns-in-NonNullable : goal.returns-in-NonNullable
returns-in-NonNullable c = λ d n cs h. subst (λ v. All (IsRangeIn d n (content_at (records cs n v))) c.args.ranges.now) (ap valid_of c.in-NonNullable.is) h

pub returns-in-AllValid : goal.returns-in-AllValid
returns-in-AllValid c = λ d n cs h. subst (λ v. All (IsRangeIn d n (content_at (records cs n v))) c.args.ranges.now) (ap valid_of c.in-AllValid.is) h
