-- Each content of a type is that of a valid raw value.
use Rattle.std.proofs.Common.{◌≡◌, refl, ◌∙◌, ap, suc}
use Rattle.vortex_model.specs.LogicalType.{LogicalType, boolean_type, integer_type, utf8, binary, list, fixed_list, mapping, struct, union, variant, Fields, no_fields, field, stored, type_tagged}
use Rattle.vortex_model.specs.Content.{Content, null, boolean, integer, text, byte_string, tuple, tagged, scalar, Contents, nothing, first, count, Raw, raw_null, raw_boolean, raw_number, raw_text, raw_byte_string, raw_tuple, raw_tagged, raw_scalar, Raws, no_raws, raw_first, raw_count, content_of, contents_of}
use Rattle.vortex_model.specs.Valid.{Has, AllHave, EntriesHave, FieldsHave, Holds, AllHold, EntriesHold, FieldsHold}

pub record Reading (k : LogicalType) (c : Content) : Type 0 where
  pub value : Raw
  pub valid : Has k value
  pub says : content_of value ≡ c

record Readings (P : Raws → Type 0) (cs : Contents) : Type 0 where
  values : Raws
  valid : P values
  say : contents_of values ≡ cs

said_count : (rs : Raws) → raw_count rs ≡ count (contents_of rs)
said_count no_raws = refl
said_count (raw_first r rs) = ap (λ n. suc n) (said_count rs)

of_tuple : (k : LogicalType) (P : Raws → Type 0) (cs : Contents) → ((rs : Raws) → contents_of rs ≡ cs → P rs → Has k (raw_tuple rs)) → Readings P cs → Reading k (tuple cs)
of_tuple k P cs valid g = record { value = raw_tuple g.values; valid = valid g.values g.say g.valid; says = ap (λ ds. tuple ds) g.say }

one_more : (P Q : Raws → Type 0) (k : LogicalType) (c : Content) (cs : Contents) → ((r : Raw) (rs : Raws) → Has k r → P rs → Q (raw_first r rs)) →
    Reading k c → Readings P cs → Readings Q (first c cs)
one_more P Q k c cs valid h g =
    record { values = raw_first h.value g.values; valid = valid h.value g.values h.valid g.valid; say = ap (λ d. first d (contents_of g.values)) h.says ∙ ap (λ ds. first c ds) g.say }

one_entry : (k v : LogicalType) (a b : Content) (cs : Contents) → Reading (stored k) a → Reading (stored v) b → Readings (EntriesHave k v) cs →
    Readings (EntriesHave k v) (first (tuple (first a (first b nothing))) cs)
one_entry k v a b cs h g more = record {
  values = raw_first (raw_tuple (raw_first h.value (raw_first g.value no_raws))) more.values;
  valid = (h.valid, g.valid, more.valid);
  say = (λ i. first (tuple (first (h.says i) (first (g.says i) nothing))) (more.say i));
}

mutual
  pub reading : (k : LogicalType) (c : Content) → Holds k c → Reading k c
  reading k null h = record { value = raw_null; valid = h; says = refl }
  reading (boolean_type n) (boolean b) h = record { value = raw_boolean b; valid = tt; says = refl }
  reading k (boolean b) h = absurd h
  reading (integer_type i n) (integer z) h = record { value = raw_number i z; valid = (refl, h); says = refl }
  reading k (integer z) h = absurd h
  reading (utf8 n) (text bs) h = record { value = raw_text bs; valid = h; says = refl }
  reading k (text bs) h = absurd h
  reading (binary n) (byte_string bs) h = record { value = raw_byte_string bs; valid = h; says = refl }
  reading k (byte_string bs) h = absurd h
  reading (list k n) (tuple cs) h = of_tuple (list k n) (AllHave k) cs (λ rs e g. g) (readings k cs h)
  reading (fixed_list k m n) (tuple cs) h = of_tuple (fixed_list k m n) (AllHave k) cs (λ rs e g. (said_count rs ∙ ap count e ∙ h.0, g)) (readings k cs h.1)
  reading (mapping k v s n) (tuple cs) h = of_tuple (mapping k v s n) (EntriesHave k v) cs (λ rs e g. g) (entries k v cs h)
  reading (struct fs n) (tuple cs) h = of_tuple (struct fs n) (FieldsHave fs) cs (λ rs e g. g) (fields fs cs h)
  reading k (tuple cs) h = absurd h
  reading (union vs n) (tagged t c) h =
      let g : Reading (stored (type_tagged vs t)) c = reading (stored (type_tagged vs t)) c h.1 in
      record { value = raw_tagged t g.value; valid = (h.0, g.valid); says = ap (λ d. tagged t d) g.says }
  reading k (tagged t c) h = absurd h
  reading (variant n) (scalar l c) h =
      let g : Reading (stored l) c = reading (stored l) c h in record { value = raw_scalar l g.value; valid = g.valid; says = ap (λ d. scalar l d) g.says }
  reading k (scalar l c) h = absurd h

  readings : (k : LogicalType) (cs : Contents) → AllHold k cs → Readings (AllHave k) cs
  readings k nothing h = record { values = no_raws; valid = tt; say = refl }
  readings k (first c cs) h = one_more (AllHave k) (AllHave k) (stored k) c cs (λ r rs g more. (g, more)) (reading (stored k) c h.0) (readings k cs h.1)

  entries : (k v : LogicalType) (cs : Contents) → EntriesHold k v cs → Readings (EntriesHave k v) cs
  entries k v nothing h = record { values = no_raws; valid = tt; say = refl }
  entries k v (first (tuple (first a (first b nothing))) cs) h = one_entry k v a b cs (reading (stored k) a h.0) (reading (stored v) b h.1) (entries k v cs h.2)
  entries k v cs h = absurd h

  fields : (fs : Fields) (cs : Contents) → FieldsHold fs cs → Readings (FieldsHave fs) cs
  fields no_fields nothing h = record { values = no_raws; valid = tt; say = refl }
  fields (field x k fs) (first c cs) h =
      one_more (FieldsHave fs) (FieldsHave (field x k fs)) (stored k) c cs (λ r rs g more. (g, more)) (reading (stored k) c h.0) (fields fs cs h.1)
  fields fs cs h = absurd h
