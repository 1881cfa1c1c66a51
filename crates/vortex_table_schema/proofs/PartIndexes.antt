-- The parts of a record by their names, put in from the last to the first.
use Rattle.std.proofs.Common.{◌≡◌, refl, sym, ap, ◌∙◌, ℕ, suc, List, ◌∷◌, true, false, cond, Bool, if◌then◌else◌, Option, Some, None, option_map, option_and_then, Bor}
use Rattle.std.proofs.lemmas.Map.Text.{is_eq-slice_cmp}
use Rattle.std.specs.BTreeMap.{get, is_at, IsEmpty, Updates}
use Rattle.std.specs.Map.{lookup}
use Rattle.std.specs.Str.{bytes_eq}
use Rattle.vortex_model.specs.LogicalType.{LogicalType, Fields, field}
use Rattle.vortex_model.specs.Path.{position_named, field_at}
use Rattle.vortex_dtype_core.specs.Parts.{fields_in_type}
use Rattle.vortex_dtype_core.specs.View.{NamedType, type_of, fields_of}
use Rattle.vortex_dtype_core.specs.declared.dtype.DType.{DType}
use Rattle.vortex_dtype_core.specs.declared.struct_fields.StructField.{StructField}
use Rattle.vortex_dtype_core.proofs.Views.{field_of-parts}
use Rattle.vortex_dtype_fields.specs.Records.{type_named}
use Rattle.vortex_table_schema.specs.Cut.{text_cmp}
use Rattle.vortex_table_schema.specs.PartIndex.{Parts, AreOf, IsIndexOf}
use Rattle.vortex_table_schema.proofs.NamedParts.{among_fields}

-- ---- one more field, before the others

by_name : (b : Bool) (y : List ℕ) (k : LogicalType) (fs : Fields) (o : Option ℕ) →
    option_and_then (field_at (field y k fs)) (if b then Some 0 else option_map suc o) ≡ (if b then Some k else option_and_then (field_at fs) o)
by_name true y k fs o = refl
by_name false y k fs None = refl
by_name false y k fs (Some i) = refl

named_first : (f : StructField) (fs : List StructField) (q : List ℕ) → type_named (fields_of (f ∷ fs)) q ≡ (if bytes_eq f.name q then Some (type_of f.dtype) else type_named (fields_of fs) q)
named_first f fs q =
    ap (λ (p : NamedType). type_named (field p.0 p.1 (fields_of fs)) q) (field_of-parts f)
    ∙ by_name (bytes_eq f.name q) f.name (type_of f.dtype) (fields_of fs) (position_named (fields_of fs) q)

chosen : (b : Bool) (part : Bor DType) (o : Option (Bor DType)) → option_map (λ p. type_of p.now) (cond b (Some part) o) ≡ (if b then Some (type_of part.now) else option_map (λ p. type_of p.now) o)
chosen true part o = refl
chosen false part o = refl

pub indexed_more : (m n : Parts) (x : Bor (List ℕ)) (part : Bor DType) (f : StructField) (fs : List StructField) → x.now ≡ f.name → part.now ≡ f.dtype →
    Updates text_cmp m n x (Some part) → AreOf m (fields_of fs) → AreOf n (fields_of (f ∷ fs))
indexed_more m n x part f fs named typed u old q =
    ap (option_map (λ p. type_of p.now)) (u.0 q)
    ∙ chosen (is_at (text_cmp x) q) part (get text_cmp m q)
    ∙ (λ i. if (is_eq-slice_cmp x.now q.now ∙ ap (λ y. bytes_eq y q.now) named) i then Some (type_of (typed i)) else old q i)
    ∙ sym (named_first f fs q.now)

-- ---- of all fields

pub of_record : (m : Parts) (k : LogicalType) (fs : List StructField) → fields_in_type k ≡ Some (fields_of fs) → AreOf m (fields_of fs) → IsIndexOf m k
of_record m k fs e all q = all q ∙ sym (among_fields k q.now ∙ ap (option_and_then (λ gs. type_named gs q.now)) e)

pub of_none : (m : Parts) (k : LogicalType) → fields_in_type k ≡ None → IsEmpty m → IsIndexOf m k
of_none m k e none q =
    ap (λ es. option_map (λ p. type_of p.now) (lookup (is_at (text_cmp q)) es)) none
    ∙ sym (among_fields k q.now ∙ ap (option_and_then (λ gs. type_named gs q.now)) e)

pub ruleset of_types = (of_record, of_none)
