-- Definitions evaluated on examples.
use Rattle.std.proofs.Common.{◌≡◌, refl, ℕ, pos, List, [], ◌∷◌, map, Option, Some, None, true, false, option_map}
use Rattle.std.specs.Prelude.{codes}
use Rattle.std.specs.Str.{chars, is_utf8}
use Rattle.vortex_model.specs.LogicalType.{LogicalType, boolean_type, integer_type, float, utf8, binary, list, fixed_list, struct, no_fields, field, Nullability, non_nullable, nullable, u8, i32, i64, f32, f64}
use Rattle.vortex_model.specs.Content.{Content, null, boolean, integer, text, byte_string, tuple, nothing, first, Raw, raw_null, raw_boolean, raw_number, raw_text, raw_byte_string, raw_tuple, Raws, no_raws, raw_first, contents_from}
use Rattle.vortex_model_table.specs.Bounds.{low, high}
use Rattle.vortex_model.specs.Path.{Step, name}
use Rattle.vortex_model_table.specs.Expression.{Expression, literal, column, compare, both, is_null, between, like, statistic, equal, not_equal, greater, at_least, less, min}
use Rattle.vortex_model.specs.Refusal.{Refusal, number_of, index_of, not_convertible, unknown_path, no_such_group, placeholder, unequal_types, no_table}
use Rattle.vortex_model_table.specs.Table.{Table, answer}
use Rattle.vortex_model_table.specs.Statistics.{Precision, exact, inexact, absent}
use Rattle.vortex_model_table.specs.ZoneMap.{ZoneMap}
use Rattle.vortex_model_table.specs.Scan.{ScanAnswer, scanned}
use Rattle.vortex_model_table.specs.Command.{Command, create, append, join, retype, scan, steps, refusal_in, after_in, create_fault, first_unconvertible, names_of}
use Rattle.vortex_model_table.specs.Reply.{zone_at}

abbrev pub number : Nullability → LogicalType
number n = integer_type i32 n

-- {a=KIND}
abbrev pub one : List ℕ → LogicalType → LogicalType
one x k = struct (field x k no_fields) non_nullable

abbrev pub raw_row : Raw → Raw
raw_row r = raw_tuple (raw_first r no_raws)

abbrev pub raws_from : List Raw → Raws
raws_from [] = no_raws
raws_from (r ∷ rs) = raw_first r (raws_from rs)

abbrev pub raw_record : List Raw → Raw
raw_record rs = raw_tuple (raws_from rs)

abbrev pub row : Content → Content
row c = tuple (first c nothing)

abbrev pub record_of : List Content → Content
record_of cs = tuple (contents_from cs)

abbrev pub n32 : ℕ → Raw
n32 n = raw_number i32 (pos n)

abbrev pub rows32 : List ℕ → List Raw
rows32 ns = map (λ n. raw_row (n32 n)) ns

abbrev pub a : List ℕ
a = codes "a"

abbrev pub A : LogicalType
A = one a (number non_nullable)

abbrev pub path : List ℕ → List Step
path x = name x ∷ []

abbrev pub col : List ℕ → Expression
col x = column (x ∷ [])

abbrev pub lit32 : ℕ → Expression
lit32 n = literal (number non_nullable) (integer (pos n))

-- the table after the commands, from none
abbrev pub made : List Command → Option Table
made cs = steps None cs

-- The same table, but also after refused commands.
abbrev pub filled_from : Option Table → List Command → Option Table
filled_from t [] = t
filled_from t (c ∷ cs) = filled_from (after_in t c) cs

abbrev pub filled : List Command → Option Table
filled cs = filled_from None cs

abbrev pub answer_of : Option Table → List (List Step) → Expression → Option ScanAnswer
answer_of None paths e = None
answer_of (Some t) paths e = Some (scanned t (map names_of paths) e)

-- why a command after these is refused
abbrev pub refused : List Command → Command → Option Refusal
refused cs c = refusal_in (made cs) c

abbrev pub refused_there : List Command → Command → Option Refusal
refused_there cs c = refusal_in (filled cs) c

abbrev pub numbers : List ℕ → List Content
numbers ns = map (λ n. row (integer (pos n))) ns

-- ---- bounds

low_of_char : low 5 (text (0x63 ∷ 0x68 ∷ 0x61 ∷ 0x72 ∷ 0xf0 ∷ 0x9f ∷ 0xaa ∷ 0xa9 ∷ [])) ≡ text (codes "char")
unfolding chars lib.Utf8.encode
low_of_char = refl

high_of_char : high 5 (text (0x63 ∷ 0x68 ∷ 0x61 ∷ 0x72 ∷ 0xf0 ∷ 0x9f ∷ 0xaa ∷ 0xa9 ∷ [])) ≡ Some (text (codes "chas"))
unfolding chars lib.Utf8.encode
high_of_char = refl

counted : high 3 (byte_string (0x61 ∷ 0xff ∷ 0xff ∷ 0xff ∷ [])) ≡ Some (byte_string (0x62 ∷ 0 ∷ 0 ∷ []))
counted = refl

carried : high 3 (byte_string (0 ∷ 5 ∷ 0xff ∷ 0xea ∷ 0x17 ∷ [])) ≡ Some (byte_string (0 ∷ 6 ∷ 0 ∷ []))
carried = refl

no_higher : high 2 (byte_string (0xff ∷ 0xff ∷ 0xff ∷ [])) ≡ None
no_higher = refl

earlier_raised : high 2 (text (0x61 ∷ 0x7f ∷ 0x62 ∷ [])) ≡ Some (text (codes "b"))
unfolding chars lib.Utf8.encode
earlier_raised = refl

over_surrogates : high 4 (text (0x61 ∷ 0xed ∷ 0x9f ∷ 0xbf ∷ 0x62 ∷ [])) ≡ Some (text (0x61 ∷ 0xee ∷ 0x80 ∷ 0x80 ∷ []))
unfolding chars lib.Utf8.encode
over_surrogates = refl

none_raised : high 5 (text (0xf4 ∷ 0x8f ∷ 0xbf ∷ 0xbf ∷ 0x7f ∷ 0x7a ∷ [])) ≡ None
unfolding chars lib.Utf8.encode
none_raised = refl

-- ---- scans

abbrev pub two_chunks : List Command
two_chunks = create A 16 [] ∷ append A (rows32 (1 ∷ 2 ∷ 3 ∷ [])) ∷ append A (rows32 (10 ∷ 11 ∷ [])) ∷ []

above_five_in_two_chunks : answer_of (made two_chunks) (path a ∷ []) (compare greater (col a) (lit32 5))
    ≡ Some (record { rows = numbers (10 ∷ 11 ∷ []); kind = A; skipped = 0 ∷ []; whole = []; rows_tested = 2; proofs = 2 })
above_five_in_two_chunks = refl

above_five_accepted : refused two_chunks (scan (path a ∷ []) (compare greater (col a) (lit32 5))) ≡ None
above_five_accepted = refl

above_five_in_one_chunk : answer_of (made (create A 16 [] ∷ append A (rows32 (1 ∷ 2 ∷ 3 ∷ 10 ∷ 11 ∷ [])) ∷ [])) (path a ∷ []) (compare greater (col a) (lit32 5))
    ≡ Some (record { rows = numbers (10 ∷ 11 ∷ []); kind = A; skipped = []; whole = []; rows_tested = 5; proofs = 1 })
above_five_in_one_chunk = refl

column_used_twice : answer_of (made (create A 16 [] ∷ append A (rows32 (1 ∷ 10 ∷ [])) ∷ [])) (path a ∷ []) (both (compare greater (col a) (lit32 5)) (compare less (col a) (lit32 3)))
    ≡ Some (record { rows = []; kind = A; skipped = []; whole = []; rows_tested = 2; proofs = 1 })
column_used_twice = refl

other_than_seven : answer_of (made (create A 16 [] ∷ append A (rows32 (7 ∷ 7 ∷ [])) ∷ append A (rows32 (7 ∷ 8 ∷ [])) ∷ [])) (path a ∷ []) (compare not_equal (col a) (lit32 7))
    ≡ Some (record { rows = numbers (8 ∷ []); kind = A; skipped = 0 ∷ []; whole = []; rows_tested = 2; proofs = 2 })
other_than_seven = refl

-- ---- answers, tables after commands, and refusals as numbers

abbrev pub plain_answer : Option Table → Expression → Option (List Content)
plain_answer t e = option_map (λ u. answer u ((a ∷ []) ∷ []) e) t

plainly_above_five : plain_answer (made two_chunks) (compare greater (col a) (lit32 5)) ≡ Some (numbers (10 ∷ 11 ∷ []))
plainly_above_five = refl

plainly_other_than_seven : plain_answer (made (create A 16 [] ∷ append A (rows32 (7 ∷ 7 ∷ [])) ∷ append A (rows32 (7 ∷ 8 ∷ [])) ∷ [])) (compare not_equal (col a) (lit32 7))
    ≡ Some (numbers (8 ∷ []))
plainly_other_than_seven = refl

created_table : after_in None (create A 16 []) ≡ Some (record { kind = A; default = 16; lengths = []; chunks = []; groups = [] })
created_table = refl

abbrev pub two_chunks_table : Table
two_chunks_table = record { kind = A; default = 16; lengths = []; chunks = numbers (1 ∷ 2 ∷ 3 ∷ []) ∷ numbers (10 ∷ 11 ∷ []) ∷ []; groups = 1 ∷ 1 ∷ [] }

appended_tables : made two_chunks ≡ Some two_chunks_table
appended_tables = refl

scan_changes_nothing : after_in (Some two_chunks_table) (scan [] (compare greater (col a) (lit32 5))) ≡ Some two_chunks_table
scan_changes_nothing = refl

create_replaces : after_in (Some two_chunks_table) (create A 3 []) ≡ after_in None (create A 3 [])
create_replaces = refl

-- the number and the index of a refusal in an answer
abbrev pub told : Option Refusal → Option (ℕ × Option ℕ)
told r = option_map (λ x. (number_of x, index_of x)) r

abbrev pub above_five : Command
above_five = scan (path a ∷ []) (compare greater (col a) (lit32 5))

told_no_table : told (refused [] above_five) ≡ Some (19, None)
told_no_table = refl

told_unknown : told (refused two_chunks (scan (path a ∷ (name a ∷ name a ∷ []) ∷ []) (compare greater (col a) (lit32 5)))) ≡ Some (9, Some 1)
told_unknown = refl

above_five_of_none : answer_of (made (create A 16 [] ∷ append A [] ∷ [])) (path a ∷ []) (compare greater (col a) (lit32 5))
    ≡ Some (record { rows = []; kind = A; skipped = []; whole = []; rows_tested = 0; proofs = 0 })
above_five_of_none = refl

abbrev pub s : List ℕ
s = codes "s"

told_number : told (create_fault (number non_nullable) []) ≡ Some (2, None)
told_number = refl

told_null_record : told (create_fault (struct no_fields nullable) []) ≡ Some (2, None)
told_null_record = refl

-- names are judged before fields, also where a field has a type that can't be held
told_names : told (create_fault (struct (field a (float f32 nullable) (field a (number nullable) no_fields)) non_nullable) []) ≡ Some (4, None)
told_names = refl

-- a struct inside with a repeated name
abbrev pub twice : LogicalType
twice = struct (field a (number nullable) (field a (number nullable) no_fields)) nullable

told_record : told (create_fault (one a twice) []) ≡ Some (4, None)
told_record = refl

-- fields are judged from left to right
told_behind : told (create_fault (struct (field a (float f32 nullable) (field s twice no_fields)) non_nullable) []) ≡ Some (3, None)
told_behind = refl

told_before : told (create_fault (struct (field a twice (field s (float f32 nullable) no_fields)) non_nullable) []) ≡ Some (4, None)
told_before = refl

kept_record : create_fault (one a (struct (field a (number nullable) (field s (one a (number non_nullable)) no_fields)) nullable)) [] ≡ None
kept_record = refl

told_float : told (create_fault (one a (float f64 nullable)) []) ≡ Some (3, None)
told_float = refl

kept_list : create_fault (one a (list (fixed_list (one a (number non_nullable)) 2 nullable) nullable)) [] ≡ None
kept_list = refl

told_in_list : told (create_fault (one a (list (float f64 nullable) nullable)) []) ≡ Some (3, None)
told_in_list = refl

told_twice_in_list : told (create_fault (one a (list twice nullable)) []) ≡ Some (4, None)
told_twice_in_list = refl

kept_leaves : create_fault (struct (field a (boolean_type nullable) (field s (utf8 nullable) (field (codes "b") (binary non_nullable) no_fields))) non_nullable) [] ≡ None
kept_leaves = refl

-- ---- shortened bounds

abbrev pub S : LogicalType
S = one s (utf8 non_nullable)

abbrev pub lit_text : List ℕ → Expression
lit_text t = literal (utf8 non_nullable) (text t)

abbrev pub texts : List (List ℕ) → List Raw
texts ts = map (λ t. raw_row (raw_text t)) ts

-- the zone map of a leaf of a group
abbrev pub zone_in : Option Table → List ℕ → ℕ → Option ZoneMap
zone_in None is i = None
zone_in (Some t) is i = Some (zone_at t is i)

abbrev pub bounds_in : Option Table → List ℕ → ℕ → Option (Precision Content × Precision Content)
bounds_in None is i = None
bounds_in (Some t) is i = Some ((zone_at t is i).low, (zone_at t is i).high)

abbrev pub char_table : List Command
char_table = create S 5 [] ∷ append S (texts ((0x63 ∷ 0x68 ∷ 0x61 ∷ 0x72 ∷ 0xf0 ∷ 0x9f ∷ 0xaa ∷ 0xa9 ∷ []) ∷ [])) ∷ []

char_bounds : bounds_in (made char_table) (0 ∷ []) 0 ≡ Some (inexact (text (codes "char")), inexact (text (codes "chas")))
unfolding chars is_utf8 lib.Utf8.encode
char_bounds = refl

char_above : answer_of (made char_table) (path s ∷ []) (compare at_least (col s) (lit_text (codes "chat")))
    ≡ Some (record { rows = []; kind = S; skipped = 0 ∷ []; whole = []; rows_tested = 0; proofs = 1 })
unfolding chars is_utf8 lib.Utf8.encode
char_above = refl

char_at : answer_of (made char_table) (path s ∷ []) (compare at_least (col s) (lit_text (codes "chas")))
    ≡ Some (record { rows = []; kind = S; skipped = []; whole = []; rows_tested = 1; proofs = 1 })
unfolding chars is_utf8 lib.Utf8.encode
char_at = refl

abbrev pub b : List ℕ
b = codes "b"

abbrev pub B : LogicalType
B = one b (binary non_nullable)

abbrev pub byte_strings : List (List ℕ) → List Raw
byte_strings bs = map (λ x. raw_row (raw_byte_string x)) bs

abbrev pub lit_blob : List ℕ → Expression
lit_blob x = literal (binary non_nullable) (byte_string x)

abbrev pub tops : List Command
tops = create B 2 [] ∷ append B (byte_strings ((0xff ∷ 0xff ∷ 0xff ∷ []) ∷ [])) ∷ []

tops_bounds : bounds_in (made tops) (0 ∷ []) 0 ≡ Some (inexact (byte_string (0xff ∷ 0xff ∷ [])), absent)
tops_bounds = refl

tops_scan : answer_of (made tops) ([] ∷ []) (compare greater (col b) (lit_blob (0xff ∷ 0xff ∷ [])))
    ≡ Some (record { rows = row (byte_string (0xff ∷ 0xff ∷ 0xff ∷ [])) ∷ []; kind = B; skipped = []; whole = []; rows_tested = 1; proofs = 1 })
tops_scan = refl

abbrev pub and_more : List Command → List Command → List Command
and_more [] ds = ds
and_more (c ∷ cs) ds = c ∷ and_more cs ds

tops_joined : zone_in (made (and_more tops (append B (byte_strings ((0 ∷ []) ∷ [])) ∷ join 0 ∷ []))) (0 ∷ []) 0
    ≡ Some (record { low = exact (byte_string (0 ∷ [])); high = absent; nulls = 0; rows = 2; total = absent; constant = absent })
tops_joined = refl

abbrev pub carries : List Command
carries = create B 3 [] ∷ append B (byte_strings ((0x61 ∷ 0xff ∷ 0xff ∷ 0xff ∷ []) ∷ [])) ∷ append B (byte_strings ((0x62 ∷ []) ∷ [])) ∷ []

carries_bounds : bounds_in (made (and_more carries (join 0 ∷ []))) (0 ∷ []) 0
    ≡ Some (inexact (byte_string (0x61 ∷ 0xff ∷ 0xff ∷ [])), inexact (byte_string (0x62 ∷ 0 ∷ 0 ∷ [])))
carries_bounds = refl

carries_scan : answer_of (made (and_more carries (join 0 ∷ []))) ([] ∷ []) (compare greater (col b) (lit_blob (0x62 ∷ [])))
    ≡ Some (record { rows = []; kind = B; skipped = 1 ∷ []; whole = []; rows_tested = 1; proofs = 3 })
carries_scan = refl

carries_apart : answer_of (made carries) ([] ∷ []) (compare greater (col b) (lit_blob (0x62 ∷ [])))
    ≡ Some (record { rows = []; kind = B; skipped = 1 ∷ []; whole = []; rows_tested = 1; proofs = 2 })
carries_apart = refl

-- ---- conversion

abbrev pub U8 : LogicalType
U8 = one a (integer_type u8 non_nullable)

abbrev pub X64 : LogicalType
X64 = one (codes "x") (integer_type i64 non_nullable)

abbrev pub rows64 : List ℕ → List Raw
rows64 ns = map (λ n. raw_row (raw_number i64 (pos n))) ns

too_large : refused (create U8 16 [] ∷ []) (append X64 (rows64 (1 ∷ 300 ∷ []))) ≡ Some (not_convertible 1)
too_large = refl

abbrev pub bytes_table : List Command
bytes_table = create U8 16 [] ∷ append X64 (rows64 (1 ∷ 300 ∷ [])) ∷ append X64 (rows64 (1 ∷ 2 ∷ [])) ∷ []

told_too_large : told (refused (create U8 16 [] ∷ []) (append X64 (rows64 (1 ∷ 300 ∷ [])))) ≡ Some (6, Some 1)
told_too_large = refl

none_kept : made (create U8 16 [] ∷ append X64 (rows64 (1 ∷ 300 ∷ [])) ∷ []) ≡ made (create U8 16 [] ∷ [])
none_kept = refl

accepted_behind : refused (create U8 16 [] ∷ append X64 (rows64 (1 ∷ 300 ∷ [])) ∷ []) (append X64 (rows64 (1 ∷ 2 ∷ []))) ≡ None
accepted_behind = refl

converted_scan : answer_of (made bytes_table) (path a ∷ []) (compare at_least (col a) (literal (integer_type u8 non_nullable) (integer (pos 1))))
    ≡ Some (record { rows = numbers (1 ∷ 2 ∷ []); kind = U8; skipped = []; whole = []; rows_tested = 2; proofs = 1 })
converted_scan = refl

literal_of_another_type : refused bytes_table (scan (path a ∷ []) (compare at_least (col a) (literal (integer_type i64 non_nullable) (integer (pos 1))))) ≡ Some unequal_types
literal_of_another_type = refl

told_unequal : told (refused bytes_table (scan (path a ∷ []) (compare at_least (col a) (literal (integer_type i64 non_nullable) (integer (pos 1)))))) ≡ Some (14, None)
told_unequal = refl

abbrev pub p : List ℕ
p = codes "p"

abbrev pub q : List ℕ
q = codes "q"

abbrev pub P : LogicalType
P = one p (struct (field q (number non_nullable) no_fields) nullable)

abbrev pub nested : List Command
nested = create P 16 [] ∷ append P (raw_row raw_null ∷ raw_row (raw_row (n32 7)) ∷ []) ∷ []

null_record : answer_of (made nested) (path p ∷ []) (is_null (column (p ∷ q ∷ [])))
    ≡ Some (record { rows = row null ∷ []; kind = P; skipped = []; whole = []; rows_tested = 2; proofs = 2 })
null_record = refl

abbrev pub c : List ℕ
c = codes "c"

abbrev pub d : List ℕ
d = codes "d"

abbrev pub BC : LogicalType
BC = struct (field b (number non_nullable) (field c (number non_nullable) no_fields)) non_nullable

abbrev pub ABCD : LogicalType
ABCD = struct (field a BC (field d (number non_nullable) no_fields)) non_nullable

abbrev pub cutting : List Command
cutting = create ABCD 16 [] ∷ append ABCD (raw_record (raw_record (n32 1 ∷ n32 2 ∷ []) ∷ n32 3 ∷ []) ∷ []) ∷ []

abbrev pub lit_true : Expression
lit_true = literal (boolean_type non_nullable) (boolean true)

abbrev pub two_steps : List ℕ → List ℕ → List Step
two_steps x y = name x ∷ name y ∷ []

cut_by_both : answer_of (made cutting) (two_steps a b ∷ path a ∷ []) lit_true
    ≡ Some (record { rows = row (record_of (integer (pos 1) ∷ integer (pos 2) ∷ [])) ∷ []; kind = one a BC; skipped = []; whole = 0 ∷ []; rows_tested = 0; proofs = 2 })
cut_by_both = refl

cut_by_one : answer_of (made cutting) (two_steps a b ∷ []) lit_true
    ≡ Some (record { rows = row (row (integer (pos 1))) ∷ []; kind = one a (one b (number non_nullable)); skipped = []; whole = 0 ∷ []; rows_tested = 0; proofs = 2 })
cut_by_one = refl

cut_by_none : answer_of (made cutting) [] lit_true
    ≡ Some (record { rows = tuple nothing ∷ []; kind = struct no_fields non_nullable; skipped = []; whole = 0 ∷ []; rows_tested = 0; proofs = 2 })
cut_by_none = refl

cut_by_unknown : refused_there cutting (scan (path a ∷ two_steps a (codes "z") ∷ []) lit_true) ≡ Some (unknown_path 1)
cut_by_unknown = refl

abbrev pub lists : List Command
lists = create (one (codes "l") (list (number non_nullable) non_nullable)) 16 []
    ∷ append (one (codes "l") (list (number non_nullable) non_nullable)) (raw_row (raw_tuple no_raws) ∷ []) ∷ []

abbrev pub M : LogicalType
M = one (codes "m") (list (utf8 non_nullable) non_nullable)

empty_list_converts : first_unconvertible 0 (one (codes "l") (list (number non_nullable) non_nullable)) M (row (tuple nothing) ∷ []) ≡ None
empty_list_converts = refl

old_name : refused_there (and_more lists (retype M ∷ [])) (scan (path (codes "l") ∷ []) lit_true) ≡ Some (unknown_path 0)
old_name = refl

abbrev pub L64 : LogicalType
L64 = one a (integer_type i64 non_nullable)

total_too_large : zone_in (made (create L64 16 [] ∷ append L64 (rows64 (9223372036854775807 ∷ [])) ∷ append L64 (rows64 (1 ∷ [])) ∷ join 0 ∷ [])) (0 ∷ []) 0
    ≡ Some (record { low = exact (integer (pos 1)); high = exact (integer (pos 9223372036854775807)); nulls = 0; rows = 2; total = absent; constant = exact false })
total_too_large = refl

abbrev pub N : LogicalType
N = one a (number nullable)

abbrev pub deep : LogicalType
deep = one a (struct (field b (utf8 non_nullable) no_fields) nullable)

nulls_retyped : answer_of (made (create N 16 [] ∷ append N (raw_row raw_null ∷ raw_row raw_null ∷ []) ∷ retype deep ∷ [])) (path a ∷ []) (is_null (column (a ∷ b ∷ [])))
    ≡ Some (record { rows = row null ∷ row null ∷ []; kind = deep; skipped = []; whole = 0 ∷ []; rows_tested = 0; proofs = 2 })
nulls_retyped = refl

abbrev pub no_rows : List Command
no_rows = create A 16 [] ∷ append A [] ∷ []

no_rows_scan : answer_of (made no_rows) (path a ∷ []) lit_true ≡ Some (record { rows = []; kind = A; skipped = []; whole = []; rows_tested = 0; proofs = 0 })
no_rows_scan = refl

no_rows_join : refused no_rows (join 0) ≡ Some no_such_group
no_rows_join = refl

no_rows_placeholder : refused no_rows (scan (path a ∷ []) (compare equal (statistic (col a) min) (lit32 1))) ≡ Some placeholder
no_rows_placeholder = refl

no_table_scan : refused [] (scan [] lit_true) ≡ Some no_table
no_table_scan = refl

strict_between : answer_of (made (create A 16 [] ∷ append A (rows32 (1 ∷ 2 ∷ [])) ∷ [])) (path a ∷ []) (between (col a) (lit32 1) (lit32 2) true true)
    ≡ Some (record { rows = []; kind = A; skipped = []; whole = []; rows_tested = 2; proofs = 1 })
strict_between = refl

abbrev pub prefixes : List Command
prefixes = create S 16 [] ∷ append S (texts (codes "prefix-one" ∷ [])) ∷ append S (texts (codes "zeta" ∷ [])) ∷ []

prefix_skipped : answer_of (made prefixes) (path s ∷ []) (like (col s) (lit_text (codes "prefix%")) false false)
    ≡ Some (record { rows = row (text (codes "prefix-one")) ∷ []; kind = S; skipped = 1 ∷ []; whole = []; rows_tested = 1; proofs = 2 })
unfolding chars is_utf8 lib.Utf8.encode
prefix_skipped = refl

abbrev pub wide : List Command
wide = create L64 16 [] ∷ append L64 (rows64 (5 ∷ [])) ∷ append L64 (rows64 (300 ∷ [])) ∷ []

too_large_retype : refused wide (retype U8) ≡ Some (not_convertible 1)
too_large_retype = refl

retype_refused : made (and_more wide (retype U8 ∷ [])) ≡ made wide
retype_refused = refl

abbrev pub T : LogicalType
T = one a (boolean_type non_nullable)

truth_values : zone_in (made (create T 16 [] ∷ append T (raw_row (raw_boolean true) ∷ raw_row (raw_boolean false) ∷ raw_row (raw_boolean true) ∷ []) ∷ [])) (0 ∷ []) 0
    ≡ Some (record { low = exact (boolean false); high = exact (boolean true); nulls = 0; rows = 3; total = exact (pos 2); constant = exact false })
truth_values = refl

abbrev pub empty_length : List Command
empty_length = create S 0 [] ∷ append S (texts (codes "x" ∷ [])) ∷ []

no_length_bounds : bounds_in (made empty_length) (0 ∷ []) 0 ≡ Some (inexact (text []), absent)
unfolding chars is_utf8 lib.Utf8.encode
no_length_bounds = refl

no_length_scan : answer_of (made empty_length) (path s ∷ []) (compare equal (col s) (lit_text []))
    ≡ Some (record { rows = []; kind = S; skipped = []; whole = []; rows_tested = 1; proofs = 1 })
unfolding chars is_utf8 lib.Utf8.encode
no_length_scan = refl
