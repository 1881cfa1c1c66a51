-- The JSON value of a content of a type is read for the type as that content.
use Rattle.std.proofs.Common.{◌≡◌, refl, sym, ap, ◌∙◌, subst, ℕ, zero, suc, ◌<◌, ℤ, pos, negsuc, List, ◌∷◌, Bool, true, ◌==◌, ◌^◌, nat_lt, if◌then◌else◌, Option, Some, None, option_map, option_and_then, unwrap_or, slice_index, arith, []}
use Rattle.std.specs.Cmp.{second_so}
use Rattle.std.proofs.lemmas.Bool.{eq-eqb, and_parts}
use Rattle.hex.specs.Hex.{encode_lower}
use Rattle.hex.proofs.HexLemmas.{decode_of-encode_lower}
use Rattle.serde_json.specs.Events.{items_len}
use Rattle.serde_json.specs.Find.{as_integer, of_integer}
use Rattle.vortex_model.specs.LogicalType.{LogicalType, boolean_type, integer_type, utf8, binary, list, fixed_list, mapping, struct, union, variant, extension, Fields, no_fields, field, stored}
use Rattle.vortex_model.specs.Content.{Content, null, boolean, integer, text, byte_string, tuple, tagged, scalar, Contents, nothing, first, count, Raw, raw_null, raw_boolean, raw_number, raw_text, raw_byte_string, raw_tuple, Raws, no_raws, raw_first, raw_count, content_of, contents_of}
use Rattle.vortex_model.specs.Valid.{AreBytes, in_range, Has, AllHave, FieldsHave, valid, Holds, AllHold, FieldsHold, IsContent}
use Rattle.vortex_model.proofs.Passes.{has_passes}
use Rattle.vortex_model_table.specs.Expression.{literal}
use Rattle.vortex_scalar_value.specs.View.{raws_from}
use Rattle.vortex_table_request.specs.Kinds.{bytes_of_digits, decoded}
use Rattle.vortex_table_request.specs.Rows.{reading, readings, element_readings, row_at}
use Rattle.vortex_table_request.specs.Where.{literal_at}
use Rattle.vortex_table_text.specs.Data.{content_data, contents_data}
use Rattle.vortex_table_text.specs.Types.{has_text, have_texts}

-- a type with JSON text is no extension
pub stored_same : (k : LogicalType) → has_text k ≡ true → stored k ≡ k
stored_same (extension id meta k) t = absurd (cc t)
stored_same k t = refl

bytes_are : (bs : List ℕ) → AreBytes bs → (i : ℕ) → slice_index bs i < 256
bytes_are [] h i = omega arith
bytes_are (b ∷ bs) h zero = h.0
bytes_are (b ∷ bs) h (suc i) = bytes_are bs h.1 i

digits_again : (bs : List ℕ) → AreBytes bs → bytes_of_digits (encode_lower bs) ≡ Some bs
digits_again bs h = ap decoded (decode_of-encode_lower bs (bytes_are bs h))

integer_again : (z : ℤ) → as_integer (of_integer z) ≡ Some z
integer_again (pos n) = refl
integer_again (negsuc n) = refl

many_items : (cs : Contents) → items_len (contents_data cs) ≡ count cs
many_items nothing = refl
many_items (first c cs) = ap suc (many_items cs)

many_raws : (rs : Raws) → count (contents_of rs) ≡ raw_count rs
many_raws no_raws = refl
many_raws (raw_first r rs) = ap suc (many_raws rs)

-- what a content is read as: a raw value of the type with the content
record IsReadAs (k : LogicalType) (c : Content) (o : Option Raw) : Type 0 where
  pub raw : Raw
  pub reads : o ≡ Some raw
  pub has : Has k raw
  pub says : content_of raw ≡ c

record AreReadAs (k : LogicalType) (cs : Contents) (o : Option (List Raw)) : Type 0 where
  pub raws : List Raw
  pub reads : o ≡ Some raws
  pub have : AllHave k (raws_from raws)
  pub say : contents_of (raws_from raws) ≡ cs

record FieldsReadAs (fs : Fields) (cs : Contents) (o : Option (List Raw)) : Type 0 where
  pub raws : List Raw
  pub reads : o ≡ Some raws
  pub have : FieldsHave fs (raws_from raws)
  pub say : contents_of (raws_from raws) ≡ cs

abbrev onto : Option Raw → Option (List Raw) → Option (List Raw)
onto o rest = option_and_then (λ r. option_map (λ rs. r ∷ rs) rest) o

onto_same : (o : Option Raw) (rest : Option (List Raw)) (r : Raw) (rs : List Raw) → o ≡ Some r → rest ≡ Some rs → onto o rest ≡ Some (r ∷ rs)
onto_same o rest r rs e f = ap (λ o. onto o rest) e ∙ ap (λ rest. onto (Some r) rest) f

joined : (r : Raw) (rs : List Raw) (c : Content) (cs : Contents) → content_of r ≡ c → contents_of (raws_from rs) ≡ cs → contents_of (raw_first r (raws_from rs)) ≡ first c cs
joined r rs c cs e f = ap (λ d. first d (contents_of (raws_from rs))) e ∙ ap (first c) f

abbrev tuple_in : Option (List Raw) → Option Raw
tuple_in o = option_map (λ rs. raw_tuple (raws_from rs)) o

mutual
  read_again : (k : LogicalType) (c : Content) → has_text k ≡ true → Holds k c → IsReadAs k c (reading k (content_data c))
  read_again k null t h = record { raw = raw_null; reads = refl; has = h; says = refl }
  read_again (boolean_type n) (boolean b) t h = record { raw = raw_boolean b; reads = refl; has = tt; says = refl }
  read_again k (boolean b) t h = absurd h
  read_again (integer_type i n) (integer z) t h =
      let fits : in_range i z ≡ true = second_so _ _ (has_passes (integer_type i n) (raw_number i z) (refl, h)) in
      record {
        raw = raw_number i z;
        reads = ap (λ o. option_and_then (λ z. if in_range i z then Some (raw_number i z) else None) o) (integer_again z)
            ∙ ap (λ (b : Bool). if b then Some (raw_number i z) else None) fits;
        has = (refl, h);
        says = refl;
      }
  read_again k (integer z) t h = absurd h
  read_again (utf8 n) (text bs) t h = record { raw = raw_text bs; reads = refl; has = h; says = refl }
  read_again k (text bs) t h = absurd h
  read_again (binary n) (byte_string bs) t h =
      record { raw = raw_byte_string bs; reads = ap (λ o. option_map raw_byte_string o) (digits_again bs h); has = h; says = refl }
  read_again k (byte_string bs) t h = absurd h
  read_again (list k n) (tuple cs) t h =
      let all = all_read_again k cs t h in
      record { raw = raw_tuple (raws_from all.raws); reads = ap tuple_in all.reads; has = all.have; says = ap tuple all.say }
  read_again (fixed_list k m n) (tuple cs) t h =
      let both = and_parts (nat_lt m (2 ^ 32)) (has_text k) t in
      let all = all_read_again k cs both.1 h.1 in
      let many : (items_len (contents_data cs) == m) ≡ true = eq-eqb _ _ (many_items cs ∙ h.0) in
      record {
        raw = raw_tuple (raws_from all.raws);
        reads = ap (λ (b : Bool). if b then tuple_in (element_readings k (contents_data cs)) else None) many ∙ ap tuple_in all.reads;
        has = (sym (many_raws (raws_from all.raws)) ∙ ap count all.say ∙ h.0, all.have);
        says = ap tuple all.say;
      }
  read_again (struct fs n) (tuple cs) t h =
      let all = fields_read_again fs cs t h in
      record { raw = raw_tuple (raws_from all.raws); reads = ap tuple_in all.reads; has = all.have; says = ap tuple all.say }
  read_again (mapping k v s n) (tuple cs) t h = absurd (cc t)
  read_again k (tuple cs) t h = absurd h
  read_again (union vs n) (tagged i c) t h = absurd (cc t)
  read_again k (tagged i c) t h = absurd h
  read_again (variant n) (scalar k c) t h = absurd (cc t)
  read_again k (scalar l c) t h = absurd h

  all_read_again : (k : LogicalType) (cs : Contents) → has_text k ≡ true → AllHold k cs → AreReadAs k cs (element_readings k (contents_data cs))
  all_read_again k nothing t h = record { raws = []; reads = refl; have = tt; say = refl }
  all_read_again k (first c cs) t h =
      let one = read_again k c t (subst (λ l. Holds l c) (stored_same k t) h.0) in
      let all = all_read_again k cs t h.1 in
      record {
        raws = one.raw ∷ all.raws;
        reads = onto_same _ _ one.raw all.raws one.reads all.reads;
        have = (subst (λ l. Has l one.raw) (sym (stored_same k t)) one.has, all.have);
        say = joined one.raw all.raws c cs one.says all.say;
      }

  fields_read_again : (fs : Fields) (cs : Contents) → have_texts fs ≡ true → FieldsHold fs cs → FieldsReadAs fs cs (readings fs (contents_data cs))
  fields_read_again no_fields nothing t h = record { raws = []; reads = refl; have = tt; say = refl }
  fields_read_again no_fields (first c cs) t h = absurd h
  fields_read_again (field x k fs) nothing t h = absurd h
  fields_read_again (field x k fs) (first c cs) t h =
      let both = and_parts (has_text k) (have_texts fs) t in
      let one = read_again k c both.0 (subst (λ l. Holds l c) (stored_same k both.0) h.0) in
      let all = fields_read_again fs cs both.1 h.1 in
      record {
        raws = one.raw ∷ all.raws;
        reads = onto_same _ _ one.raw all.raws one.reads all.reads;
        have = (subst (λ l. Has l one.raw) (sym (stored_same k both.0)) one.has, all.have);
        say = joined one.raw all.raws c cs one.says all.say;
      }

-- a literal is read again
pub literal_again : (k : LogicalType) (c : Content) → has_text k ≡ true → IsContent k c → literal_at k (content_data c) ≡ Some (literal k c)
literal_again k c t h =
    let same = stored_same k t in
    let one = read_again k c t (subst (λ l. Holds l c) same h) in
    let is : valid k one.raw ≡ true = has_passes (stored k) one.raw (subst (λ l. Has l one.raw) (sym same) one.has) in
    ap (λ o. option_and_then (λ r. if valid k r then Some (literal k (content_of r)) else None) o) one.reads
    ∙ ap (λ (b : Bool). if b then Some (literal k (content_of one.raw)) else None) is
    ∙ ap (λ c. Some (literal k c)) one.says

-- a row of this type and this content
pub record IsRowOf (k : LogicalType) (c : Content) (r : Raw) : Type 0 where
  pub says : content_of r ≡ c
  pub is_valid : valid k r ≡ true

-- a row is read again
pub row_again : (k : LogicalType) (c : Content) → has_text k ≡ true → IsContent k c → IsRowOf k c (row_at k (content_data c))
row_again k c t h =
    let same = stored_same k t in
    let one = read_again k c t (subst (λ l. Holds l c) same h) in
    let is : valid k one.raw ≡ true = has_passes (stored k) one.raw (subst (λ l. Has l one.raw) (sym same) one.has) in
    subst (λ (o : Option Raw). IsRowOf k c (unwrap_or o raw_null)) (sym one.reads) (record { says = one.says; is_valid = is })
