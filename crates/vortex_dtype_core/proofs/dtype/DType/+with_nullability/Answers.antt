use Rattle.std.proofs.Common.{arith}
use Rattle.vortex_dtype_core.proofs.Views.{nullabilities}
use Rattle.vortex_dtype_core.proofs.dtype.DType.+with_nullability.Goals as goal

pub returns-in-Primitive-clause-kind : goal.returns-in-Primitive-clause-kind
returns-in-Primitive-clause-kind t c = grind (arith, nullabilities)

pub returns-in-Primitive-clause-outer : goal.returns-in-Primitive-clause-outer
returns-in-Primitive-clause-outer t c = grind (arith, nullabilities)

pub returns-in_ok-clone-in-List-clause-kind : goal.returns-in_ok-clone-in-List-clause-kind
returns-in_ok-clone-in-List-clause-kind t c = grind (arith, nullabilities)

pub returns-in_ok-clone-in-List-clause-outer : goal.returns-in_ok-clone-in-List-clause-outer
returns-in_ok-clone-in-List-clause-outer t c = grind (arith, nullabilities)

pub returns-in_ok-clone-in-FixedSizeList-clause-kind : goal.returns-in_ok-clone-in-FixedSizeList-clause-kind
returns-in_ok-clone-in-FixedSizeList-clause-kind t c = grind (arith, nullabilities)

pub returns-in_ok-clone-in-FixedSizeList-clause-outer : goal.returns-in_ok-clone-in-FixedSizeList-clause-outer
returns-in_ok-clone-in-FixedSizeList-clause-outer t c = grind (arith, nullabilities)

pub returns-in_ok-clone-in-Map-clause-kind : goal.returns-in_ok-clone-in-Map-clause-kind
returns-in_ok-clone-in-Map-clause-kind t c = grind (arith, nullabilities)

pub returns-in_ok-clone-in-Map-clause-outer : goal.returns-in_ok-clone-in-Map-clause-outer
returns-in_ok-clone-in-Map-clause-outer t c = grind (arith, nullabilities)

pub returns-in_ok-clone-in-Struct-clause-kind : goal.returns-in_ok-clone-in-Struct-clause-kind
returns-in_ok-clone-in-Struct-clause-kind t c = grind (arith, nullabilities)

pub returns-in_ok-clone-in-Struct-clause-outer : goal.returns-in_ok-clone-in-Struct-clause-outer
returns-in_ok-clone-in-Struct-clause-outer t c = grind (arith, nullabilities)

pub returns-in_ok-clone-in-Union-clause-kind : goal.returns-in_ok-clone-in-Union-clause-kind
returns-in_ok-clone-in-Union-clause-kind t c = grind (arith, nullabilities)

pub returns-in_ok-clone-in-Union-clause-outer : goal.returns-in_ok-clone-in-Union-clause-outer
returns-in_ok-clone-in-Union-clause-outer t c = grind (arith, nullabilities)

pub returns-in_ok-with_storage-in-Extension-clause-outer : goal.returns-in_ok-with_storage-in-Extension-clause-outer
returns-in_ok-with_storage-in-Extension-clause-outer t c = grind (arith, nullabilities)
