-- A value that was converted to another type can be converted back.
use Rattle.std.proofs.Common.{◌≡◌, sym, Bool, false}
use Rattle.vortex_model.specs.LogicalType.{LogicalType, boolean_type, integer_type, utf8, binary, list, fixed_list, mapping, struct, union, variant, extension, Fields, no_fields, field, stored}
use Rattle.vortex_model.specs.Content.{Content, null, boolean, integer, text, byte_string, tuple, tagged, scalar, Contents, nothing, first}
use Rattle.vortex_model.specs.Valid.{Holds, AllHold, FieldsHold}
use Rattle.vortex_model.specs.Convert.{Converts, AllConvert, FieldsConvert}
use Rattle.vortex_scalar_convert.proofs.Converted.{null_outside}

mutual
  -- the content is one of the first type
  pub back : (s t : LogicalType) (c : Content) → Holds (stored s) c → Converts s t c → Converts t s c
  back s t null h e = null_outside s h
  back (extension id meta k) (extension jd more l) (boolean b) h e = sym e
  back (extension id meta k) (extension jd more l) (integer z) h e = sym e
  back (extension id meta k) (extension jd more l) (text bs) h e = sym e
  back (extension id meta k) (extension jd more l) (byte_string bs) h e = sym e
  back (extension id meta k) (extension jd more l) (tuple cs) h e = sym e
  back (extension id meta k) (extension jd more l) (tagged u c) h e = sym e
  back (extension id meta k) (extension jd more l) (scalar m c) h e = sym e
  back (extension id meta k) t (boolean b) h e = absurd (cc (e))
  back (extension id meta k) t (integer z) h e = absurd (cc (e))
  back (extension id meta k) t (text bs) h e = absurd (cc (e))
  back (extension id meta k) t (byte_string bs) h e = absurd (cc (e))
  back (extension id meta k) t (tuple cs) h e = absurd (cc (e))
  back (extension id meta k) t (tagged u c) h e = absurd (cc (e))
  back (extension id meta k) t (scalar l c) h e = absurd (cc (e))
  back (boolean_type n) (boolean_type m) (boolean b) h e = tt
  back (integer_type i n) (integer_type j m) (integer z) h e = h
  back (utf8 n) (utf8 m) (text bs) h e = tt
  back (binary n) (binary m) (byte_string bs) h e = tt
  back (list a n) (list b m) (tuple cs) h e = all_back a b cs h e
  back (list a n) (fixed_list b j m) (tuple cs) h e = all_back a b cs h e.1
  back (fixed_list a i n) (list b m) (tuple cs) h e = (h.0, all_back a b cs h.1 e)
  back (fixed_list a i n) (fixed_list b j m) (tuple cs) h e = (h.0, all_back a b cs h.1 e.1)
  back (struct fs n) (struct gs m) (tuple cs) h e = fields_back fs gs cs h e
  back (mapping a b o n) (mapping x y p m) (tuple cs) h e = sym e
  back (mapping a b o n) t (tuple cs) h e = absurd (cc (e))
  back (union vs n) (union ws m) (tagged u c) h e = sym e
  back (union vs n) t (tagged u c) h e = absurd (cc (e))
  back (variant n) (variant m) (scalar k c) h e = sym e
  back (variant n) t (scalar k c) h e = absurd (cc (e))
  back s t c h e = absurd e

  all_back : (a b : LogicalType) (cs : Contents) → AllHold a cs → AllConvert a b cs → AllConvert b a cs
  all_back a b nothing h e = tt
  all_back a b (first c cs) h e = (back a b c h.0 e.0, all_back a b cs h.1 e.1)

  fields_back : (fs gs : Fields) (cs : Contents) → FieldsHold fs cs → FieldsConvert fs gs cs → FieldsConvert gs fs cs
  fields_back no_fields no_fields nothing h e = tt
  fields_back (field x a fs) (field y b gs) (first c cs) h e = (back a b c h.0 e.0, fields_back fs gs cs h.1 e.1)
  fields_back fs gs cs h e = absurd e
