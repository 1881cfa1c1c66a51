-- The writes of values to a hasher, one after another.
use Rattle.std.proofs.Common.{◌≡◌, ◌++◌, suc, refl, ap, true}
use Rattle.std.proofs.lemmas.List.Sums.{fold-append}
use Rattle.std.specs.Hash as fed
use Rattle.std.specs.Cmp.Lexicographic.{bytes_decides}
use Rattle.std.specs.Cmp.{first_so, second_so}
use Rattle.vortex_model.specs.LogicalType.{bare}
use Rattle.vortex_model.proofs.Tests.{kind_so, flag_so, int_so}
use Rattle.vortex_model.specs.Content.{Content, null, boolean, integer, text, byte_string, tuple, tagged, scalar, Contents, nothing, first, count}
use Rattle.vortex_dtype_fields.proofs.Lawful.{hash_alike}
use Rattle.vortex_scalar_value.proofs.Views.{one_level}
use Rattle.vortex_scalar_ops.specs.Hashing.{content_writes, contents_writes}
use Rattle.vortex_scalar_ops.specs.Equality.{eq_content, eq_contents}

-- ---- equal values have equal writes

as_many : (cs ds : Contents) → eq_contents cs ds ≡ true → count cs ≡ count ds
as_many nothing nothing h = refl
as_many (first c cs) (first d ds) h = ap suc (as_many cs ds (second_so (eq_content c d) _ h))
as_many cs ds h = absurd (cc (h))

mutual
  pub eq_fed : (c d : Content) → eq_content c d ≡ true → content_writes c ≡ content_writes d
  eq_fed null null h = refl
  eq_fed (boolean a) (boolean b) h = ap (λ x. content_writes (boolean x)) (flag_so a b h)
  eq_fed (integer a) (integer b) h = ap (λ x. content_writes (integer x)) (int_so a b h)
  eq_fed (text a) (text b) h = ap (λ x. content_writes (text x)) ((bytes_decides a b).0 h)
  eq_fed (byte_string a) (byte_string b) h = ap (λ x. content_writes (byte_string x)) ((bytes_decides a b).0 h)
  eq_fed (tuple cs) (tuple ds) h = λ i. fed.u8 5 ++ fed.usize (as_many cs ds h i) ++ all_fed cs ds h i
  eq_fed (tagged t c) (tagged u d) h = λ i. fed.u8 6 ++ fed.i8 (int_so t u (first_so _ _ h) i) ++ eq_fed c d (second_so _ (eq_content c d) h) i
  eq_fed (scalar k c) (scalar l d) h =
      λ i. fed.u8 7 ++ hash_alike k l (kind_so (bare k) (bare l) (first_so _ _ h)) i ++ eq_fed c d (second_so _ (eq_content c d) h) i
  eq_fed c d h = absurd (cc (h))

  all_fed : (cs ds : Contents) → eq_contents cs ds ≡ true → contents_writes cs ≡ contents_writes ds
  all_fed nothing nothing h = refl
  all_fed (first c cs) (first d ds) h = λ i. eq_fed c d (first_so _ _ h) i ++ all_fed cs ds (second_so (eq_content c d) _ h) i
  all_fed cs ds h = absurd (cc (h))

-- ---- one after another

pub ruleset writes = (one_level, fold-append)
