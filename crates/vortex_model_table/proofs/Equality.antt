-- `equal_content` passes exactly equal contents.
use Rattle.std.proofs.Common.{◌≡◌, refl, ap, subst, Bool, true, false}
use Rattle.std.specs.Cmp.Derive.{both_true}
use Rattle.std.specs.Cmp.Lexicographic.{bytes_decides}
use Rattle.std.proofs.lemmas.Cmp.{int_eq_equiv, nat_list_eq_equiv}
use Rattle.std.specs.Cmp.{first_so, second_so}
use Rattle.vortex_model.specs.LogicalType.{eq_flag}
use Rattle.vortex_model.specs.Content.{Content, null, boolean, integer, text, byte_string, tuple, tagged, scalar, Contents, nothing, first, equal_content, equal_contents}
use Rattle.vortex_model.proofs.Passes.{kinds_pass}
use Rattle.vortex_model.proofs.Tests.{flag_so, int_so, kind_so}

flag_itself : (b : Bool) → eq_flag b b ≡ true
flag_itself true = refl
flag_itself false = refl

mutual
  itself : (c : Content) → equal_content c c ≡ true
  itself null = refl
  itself (boolean b) = flag_itself b
  itself (integer z) = int_eq_equiv.refl z
  itself (text bs) = nat_list_eq_equiv.refl bs
  itself (byte_string bs) = nat_list_eq_equiv.refl bs
  itself (tuple cs) = all_themselves cs
  itself (tagged t c) = both_true (int_eq_equiv.refl t) (itself c)
  itself (scalar k c) = both_true (kinds_pass k k refl) (itself c)

  all_themselves : (cs : Contents) → equal_contents cs cs ≡ true
  all_themselves nothing = refl
  all_themselves (first c cs) = both_true (itself c) (all_themselves cs)

mutual
  pub content_so : (c d : Content) → equal_content c d ≡ true → c ≡ d
  content_so null null e = refl
  content_so (boolean a) (boolean b) e = ap (λ x. boolean x) (flag_so a b e)
  content_so (integer a) (integer b) e = ap (λ x. integer x) (int_so a b e)
  content_so (text a) (text b) e = ap (λ x. text x) ((bytes_decides a b).0 e)
  content_so (byte_string a) (byte_string b) e = ap (λ x. byte_string x) ((bytes_decides a b).0 e)
  content_so (tuple cs) (tuple ds) e = ap (λ x. tuple x) (contents_so cs ds e)
  content_so (tagged t c) (tagged u d) e = λ i. tagged (int_so t u (first_so _ _ e) i) (content_so c d (second_so _ (equal_content c d) e) i)
  content_so (scalar k c) (scalar l d) e = λ i. scalar (kind_so k l (first_so _ _ e) i) (content_so c d (second_so _ (equal_content c d) e) i)
  content_so c d e = absurd (cc (e))

  contents_so : (cs ds : Contents) → equal_contents cs ds ≡ true → cs ≡ ds
  contents_so nothing nothing e = refl
  contents_so (first c cs) (first d ds) e = λ i. first (content_so c d (first_so _ _ e) i) (contents_so cs ds (second_so (equal_content c d) _ e) i)
  contents_so cs ds e = absurd (cc (e))

pub content_passes : (c d : Content) → c ≡ d → equal_content c d ≡ true
content_passes c d e = subst (λ x. equal_content c x ≡ true) e (itself c)
