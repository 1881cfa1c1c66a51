-- Equality of contents is an equivalence.
use Rattle.std.proofs.Common.{◌≡◌, refl, ◌∙◌, Bool, true, false, ◌&&◌}
use Rattle.std.specs.Cmp.{IsEquivalence, equiv, on_equiv, first_so, second_so}
use Rattle.std.specs.Cmp.Derive.{both_true}
use Rattle.std.proofs.lemmas.Cmp.{int_eq_equiv, nat_list_eq_equiv}
use Rattle.vortex_model.specs.LogicalType.{eq_flag, bare, equal_ignoring_nullability}
use Rattle.vortex_model.specs.Content.{Content, null, boolean, integer, text, byte_string, tuple, tagged, scalar, Contents, nothing, first}
use Rattle.vortex_dtype_core.specs.Equal.{eq_type_equiv}
use Rattle.vortex_scalar_ops.specs.Equality.{eq_content, eq_contents}

kinds_equiv : IsEquivalence equal_ignoring_nullability
kinds_equiv = on_equiv bare eq_type_equiv

flag_itself : (b : Bool) → eq_flag b b ≡ true
flag_itself true = refl
flag_itself false = refl

flag_turned : (a b : Bool) → eq_flag a b ≡ eq_flag b a
flag_turned true true = refl
flag_turned true false = refl
flag_turned false true = refl
flag_turned false false = refl

flag_joined : (a b c : Bool) → eq_flag a b ≡ true → eq_flag b c ≡ true → eq_flag a c ≡ true
flag_joined true true c h g = g
flag_joined true false c h g = absurd (cc (h))
flag_joined false true c h g = absurd (cc (h))
flag_joined false false c h g = g

mutual
  itself : (c : Content) → eq_content c c ≡ true
  itself null = refl
  itself (boolean b) = flag_itself b
  itself (integer z) = int_eq_equiv.refl z
  itself (text bs) = nat_list_eq_equiv.refl bs
  itself (byte_string bs) = nat_list_eq_equiv.refl bs
  itself (tuple cs) = all_themselves cs
  itself (tagged t c) = both_true (int_eq_equiv.refl t) (itself c)
  itself (scalar k c) = both_true (kinds_equiv.refl k) (itself c)

  all_themselves : (cs : Contents) → eq_contents cs cs ≡ true
  all_themselves nothing = refl
  all_themselves (first c cs) = both_true (itself c) (all_themselves cs)

mutual
  turned : (c d : Content) → eq_content c d ≡ eq_content d c
  turned (boolean a) (boolean b) = flag_turned a b
  turned (integer a) (integer b) = int_eq_equiv.symm a b
  turned (text a) (text b) = nat_list_eq_equiv.symm a b
  turned (byte_string a) (byte_string b) = nat_list_eq_equiv.symm a b
  turned (tuple cs) (tuple ds) = all_turned cs ds
  turned (tagged t c) (tagged u d) = λ i. int_eq_equiv.symm t u i && turned c d i
  turned null null = refl
  turned (scalar k c) (scalar l d) = λ i. kinds_equiv.symm k l i && turned c d i
  turned c d = refl

  all_turned : (cs ds : Contents) → eq_contents cs ds ≡ eq_contents ds cs
  all_turned (first c cs) (first d ds) = λ i. turned c d i && all_turned cs ds i
  all_turned nothing nothing = refl
  all_turned cs ds = refl

mutual
  joined : (c d e : Content) → eq_content c d ≡ true → eq_content d e ≡ true → eq_content c e ≡ true
  joined null null null h g = refl
  joined (boolean a) (boolean b) (boolean c) h g = flag_joined a b c h g
  joined (integer a) (integer b) (integer c) h g = int_eq_equiv.congr a b c h ∙ g
  joined (text a) (text b) (text c) h g = nat_list_eq_equiv.congr a b c h ∙ g
  joined (byte_string a) (byte_string b) (byte_string c) h g = nat_list_eq_equiv.congr a b c h ∙ g
  joined (tuple cs) (tuple ds) (tuple es) h g = all_joined cs ds es h g
  joined (tagged t c) (tagged u d) (tagged v e) h g =
      both_true (int_eq_equiv.congr t u v (first_so _ _ h) ∙ first_so _ _ g) (joined c d e (second_so _ _ h) (second_so _ _ g))
  joined (scalar k c) (scalar l d) (scalar m e) h g =
      both_true (kinds_equiv.congr k l m (first_so _ _ h) ∙ first_so _ _ g) (joined c d e (second_so _ _ h) (second_so _ _ g))
  joined null null e h g = absurd (cc (g))
  joined (boolean a) (boolean b) e h g = absurd (cc (g))
  joined (integer a) (integer b) e h g = absurd (cc (g))
  joined (text a) (text b) e h g = absurd (cc (g))
  joined (byte_string a) (byte_string b) e h g = absurd (cc (g))
  joined (tuple cs) (tuple ds) e h g = absurd (cc (g))
  joined (tagged t c) (tagged u d) e h g = absurd (cc (g))
  joined (scalar k c) (scalar l d) e h g = absurd (cc (g))
  joined c d e h g = absurd (cc (h))

  all_joined : (cs ds es : Contents) → eq_contents cs ds ≡ true → eq_contents ds es ≡ true → eq_contents cs es ≡ true
  all_joined nothing nothing nothing h g = refl
  all_joined (first c cs) (first d ds) (first e es) h g = both_true (joined c d e (first_so _ _ h) (first_so _ _ g)) (all_joined cs ds es (second_so _ _ h) (second_so _ _ g))
  all_joined nothing nothing es h g = absurd (cc (g))
  all_joined (first c cs) (first d ds) es h g = absurd (cc (g))
  all_joined cs ds es h g = absurd (cc (h))

pub eq_equiv : IsEquivalence eq_content
eq_equiv = equiv (record { symm = turned; trans = joined }) itself
