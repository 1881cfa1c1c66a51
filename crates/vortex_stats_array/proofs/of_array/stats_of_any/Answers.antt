use Rattle.vortex_model.specs.LogicalType.{with_nullability}
use Rattle.vortex_arrays_model.specs.Layout.{array_type_of}
use Rattle.vortex_stats_array.specs.Arrays.{IsBooleanType, IsTextType, IsBinaryType}
use Rattle.vortex_stats_array.proofs.OwnTypes.{own_truths, own_texts, own_bytes, truths_stay, texts_stay, bytes_stay}
use Rattle.vortex_stats_array.proofs.of_array.stats_of_any.Goals as goal

pub returns-in_ok-stats-in-Bool : goal.returns-in_ok-stats-in-Bool
returns-in_ok-stats-in-Bool c =
    let k = array_type_of c.args.array.now in
    let own : IsBooleanType k = own_truths c.dtype.result.now c.in-Bool.field-0 k c.in-Bool.is c.dtype.ensures in
    record {
      zone = λ rows stand compare many. c.in_ok-stats-in-Bool.ensures.zone rows (c.referenced_bools.ensures rows stand) compare many;
      bounds = λ n. c.in_ok-stats-in-Bool.ensures.bounds (with_nullability n k) (truths_stay n k own);
      sum = c.in_ok-stats-in-Bool.ensures.sum;
    }

pub returns-in_ok-stats-in-Utf8 : goal.returns-in_ok-stats-in-Utf8
returns-in_ok-stats-in-Utf8 c =
    let k = array_type_of c.args.array.now in
    let own : IsTextType k = own_texts c.dtype.result.now c.in-Utf8.field-0 k c.in-Utf8.is c.dtype.ensures in
    record {
      zone = λ rows stand compare many. c.in_ok-stats-in-Utf8.ensures.zone rows (c.referenced_texts.ensures rows stand) compare many;
      bounds = λ n. c.in_ok-stats-in-Utf8.ensures.bounds (with_nullability n k) (texts_stay n k own);
      sum = c.in_ok-stats-in-Utf8.ensures.sum;
    }

pub returns-in_ok-stats-in-Binary : goal.returns-in_ok-stats-in-Binary
returns-in_ok-stats-in-Binary c =
    let k = array_type_of c.args.array.now in
    let own : IsBinaryType k = own_bytes c.dtype.result.now c.in-Binary.field-0 k c.in-Binary.is c.dtype.ensures in
    record {
      zone = λ rows stand compare many. c.in_ok-stats-in-Binary.ensures.zone rows (c.referenced_byte_strings.ensures rows stand) compare many;
      bounds = λ n. c.in_ok-stats-in-Binary.ensures.bounds (with_nullability n k) (bytes_stay n k own);
      sum = c.in_ok-stats-in-Binary.ensures.sum;
    }
