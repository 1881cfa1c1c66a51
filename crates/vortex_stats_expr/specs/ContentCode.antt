-- The code of a content, by which a proof distinguishes two contents.
use Rattle.std.specs.Prelude.{◌≡◌}
use Rattle.std.specs.Coded.{coded_ℤ, coded_bool}
use base.Stored.{Gv, gnil, gnum, gcons}
use Rattle.std.proofs.Common.{ap, arith}
use Rattle.vortex_model.specs.Content.{Content, null, boolean, integer, text, byte_string, tuple, tagged, scalar, Contents, nothing, first}
use Rattle.vortex_stats_expr.specs.KindCode.{head, tail, tag, coded_bytes, type_code, type_inj}

abbrev mutual
  pub content_code : Content → Gv
  content_code null = gnum 0
  content_code (boolean b) = gcons (gnum 1) (coded_bool.code b)
  content_code (integer z) = gcons (gnum 2) (coded_ℤ.code z)
  content_code (text bs) = gcons (gnum 3) (coded_bytes.code bs)
  content_code (byte_string bs) = gcons (gnum 4) (coded_bytes.code bs)
  content_code (tuple cs) = gcons (gnum 5) (contents_code cs)
  content_code (tagged t c) = gcons (gnum 6) (gcons (coded_ℤ.code t) (content_code c))
  content_code (scalar k c) = gcons (gnum 7) (gcons (type_code k) (content_code c))

  pub contents_code : Contents → Gv
  contents_code nothing = gnil
  contents_code (first c cs) = gcons (content_code c) (contents_code cs)

mutual
  pub content_inj : (c d : Content) → content_code c ≡ content_code d → c ≡ d
  content_inj null null p = λ i. null
  content_inj (boolean a) (boolean b) p = ap boolean (coded_bool.inj a b (ap tail p))
  content_inj (integer a) (integer b) p = ap integer (coded_ℤ.inj a b (ap tail p))
  content_inj (text a) (text b) p = ap text (coded_bytes.inj a b (ap tail p))
  content_inj (byte_string a) (byte_string b) p = ap byte_string (coded_bytes.inj a b (ap tail p))
  content_inj (tuple cs) (tuple ds) p = ap tuple (contents_inj cs ds (ap tail p))
  content_inj (tagged t c) (tagged u d) p =
      λ i. tagged (coded_ℤ.inj t u (ap (λ g. head (tail g)) p) i)
      (content_inj c d (ap (λ g. tail (tail g)) p) i)
  content_inj (scalar k c) (scalar l d) p =
      λ i. scalar (type_inj k l (ap (λ g. head (tail g)) p) i)
      (content_inj c d (ap (λ g. tail (tail g)) p) i)
  content_inj c d p = absurd (omega (arith, ap tag p))

  pub contents_inj : (cs ds : Contents) → contents_code cs ≡ contents_code ds → cs ≡ ds
  contents_inj nothing nothing p = λ i. nothing
  contents_inj (first c cs) (first d ds) p =
      λ i. first (content_inj c d (ap head p) i) (contents_inj cs ds (ap tail p) i)
  contents_inj cs ds p = cc
