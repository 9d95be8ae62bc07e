-- The texts of a record and of a sealed completion are short: far below the greatest body that a call puts.
use Rattle.std.specs.Prelude.{◌≡◌, ◌<◌, ◌≤◌, ◌+◌, ◌*◌, ◌^◌, ◌==◌, ◌&&◌, ℕ, Bool, true, false, cond, nat_le, nat_lt, List, [], ◌∷◌, ◌++◌, codes, decimal, drop, length, map, take, sum_by, bytes_eq, Option, None, Some}
use Rattle.std.specs.List.{list_all}
use Rattle.std.proofs.Common.{ap, inl, inr, arith}
use Rattle.std.proofs.lemmas.Bool.{and_parts, cases_Bool, leb-true, ltb-true}
use Rattle.std.proofs.lemmas.Bool.Decides.{nat_tests}
use Rattle.std.proofs.lemmas.Fmt.{length-decimal-le}
use Rattle.std.proofs.lemmas.List.{length-append, length-drop}
use Rattle.std.proofs.lemmas.List.Sums.{sum_by-cons}
use Rattle.std.proofs.lemmas.Slice.Eq.{bytes_eq-Decides}
use Rattle.json.specs.Print.{escape, escape_byte, escape_letter, quoted}
use Rattle.serde_json.specs.Data.{Data, number, unsigned, string, Members, no_members, member}
use Rattle.serde_json.specs.View.{items_of}
use Rattle.serde_json.specs.Written.{compact_text, items_text, members_text}
use Rattle.gate_base.specs.Fields.{is_printable}
use Rattle.gate_base.specs.Told.{moment_limit}
use Rattle.gate_base.specs.declared.page.Pair.{Pair}
use Rattle.s3_names.specs.Bucket.{is_bucket}
use Rattle.gate_base.specs.Ascii.{is_lower_hex}
use Rattle.s3_names.specs.Id.{id_digits}
use Rattle.s3_names.specs.Key.{is_key}
use Rattle.s3_names.specs.Meta.{names_ascend}
use Rattle.s3_names.proofs.lemmas.BucketLemmas.{bucket_length}
use Rattle.s3_names.proofs.lemmas.Ids.{length-id_digits}
use Rattle.s3_names.proofs.lemmas.KeyLemmas.{key_length}
use Rattle.s3_machine.specs.Limits.{bare_name, is_content_type, is_proper_meta, is_proper_pair, most_body_bytes, pair_bytes}
use Rattle.s3_machine.specs.Uploads.{greatest_part, most_parts}
use Rattle.s3_machine.specs.declared.operation.Listed.{Listed}
use Rattle.slo_manifest.specs.Segments.{is_etag}
use Rattle.swift_marks.specs.Number.{number_of}
use Rattle.swift_marks.specs.Tag.{is_part_count, is_parts_suffix}
use Rattle.swift_marks.specs.Tag as mark
use Rattle.upload_texts.specs.Places.{array_of, record_part_json, metadata_pair_json, part_number_fits_record_text}
use Rattle.upload_texts.specs.Places as places
use Rattle.upload_texts.specs.Records.{has_record_text, content_fits_record_text, list_fits_record_text, part_fits_record_text, record_text}
use Rattle.upload_texts.specs.Sealed.{has_sealed_text, is_sealed_dated, is_sealed_list, part_fits_sealed_text, is_sealed_place, sealed_part_json, sealed_text}
use Rattle.upload_texts.specs.declared.record.Record.TheVariants.{Done}
use Rattle.upload_texts.specs.declared.sealed.Sealed.{Sealed}
use Rattle.upload_texts.specs.declared.sealed.SealedPart.{SealedPart}

-- ---- strings and numbers

short_by : (letter low : Bool) (a b c d : ℕ) → length (cond letter (92 ∷ a ∷ []) (cond low (92 ∷ 117 ∷ 48 ∷ 48 ∷ b ∷ c ∷ []) (d ∷ []))) ≤ 6
short_by true low a b c d = omega arith
short_by false true a b c d = omega arith
short_by false false a b c d = omega arith

-- each byte of a string takes at most six
byte_short : (x : ℕ) → length (escape_byte x) ≤ 6
unfolding escape_byte
byte_short x = short_by (nat_lt 0 (escape_letter x)) (nat_lt x 32) _ _ _ _

escape_short : (s : List ℕ) → length (escape s) ≤ 6 * length s
escape_short [] = omega arith
escape_short (x ∷ s) =
    let one = byte_short x in
    let later = escape_short s in
    let size = length-append (escape_byte x) (escape s) in
    omega (arith, one, later, size)

pub quoted_short : (s : List ℕ) → length (quoted s) ≤ 6 * length s + 2
quoted_short s = let inner = escape_short s in let size = length-append (escape s) (34 ∷ []) in omega (arith, inner, size)

-- a string of at most so many bytes
string_short : (s : List ℕ) (n : ℕ) → length s ≤ n → length (compact_text (string s)) ≤ 6 * n + 2
string_short s n near = let text = quoted_short s in omega (arith, near, text)

dated_short : (n : ℕ) → nat_lt n moment_limit ≡ true → length (compact_text (number (unsigned n))) ≤ 12
dated_short n e = let near = ltb-true n moment_limit e in length-decimal-le 12 n (omega arith) (omega (arith, near)) (omega (arith, near))

digit_short : (n : ℕ) → n < 10 → length (compact_text (number (unsigned n))) ≤ 1
digit_short n near = length-decimal-le 1 n (omega arith) (omega (arith, near)) (omega (arith, near))

part_number_short : (n : ℕ) → part_number_fits_record_text n ≡ true → length (compact_text (number (unsigned n))) ≤ 5
unfolding greatest_part
part_number_short n e =
    let near = leb-true n greatest_part (and_parts (nat_le 1 n) (nat_le n greatest_part) e).1 in
    length-decimal-le 5 n (omega arith) (omega (arith, near)) (omega (arith, near))

size_short : (n : ℕ) → nat_le n most_body_bytes ≡ true → length (compact_text (number (unsigned n))) ≤ 10
size_short n e = let near = leb-true n most_body_bytes e in length-decimal-le 10 n (omega arith) (omega (arith, near)) (omega (arith, near))

few_parts : (n : ℕ) → places.is_part_count n ≡ true → n ≤ 10000
unfolding most_parts
few_parts n e = let most = leb-true n most_parts (and_parts (nat_le 1 n) (nat_le n most_parts) e).1 in omega (arith, most)

-- ---- ETags

part_etag_length : (etag : List ℕ) → is_etag etag ≡ true → length etag ≤ 32
unfolding is_etag
part_etag_length etag e = let same = (and_parts (length etag == 32) _ e).0 in grind (arith, nat_tests)

suffix_length : (suffix : List ℕ) → is_parts_suffix suffix ≡ true → length suffix ≤ 6
suffix_length [] h = omega arith
suffix_length (byte ∷ count) h =
    let parts = and_parts (byte == 45) (is_part_count count) h in
    let form = and_parts (nat_le 1 (number_of count) && nat_le (number_of count) 10000) (bytes_eq count (decimal (number_of count))) parts.1 in
    let few = leb-true (number_of count) 10000 (and_parts (nat_le 1 (number_of count)) (nat_le (number_of count) 10000) form.0).1 in
    let same : count ≡ decimal (number_of count) = (bytes_eq-Decides count (decimal (number_of count))).0 form.1 in
    let size = length-decimal-le 5 (number_of count) (omega arith) (omega (arith, few)) (omega (arith, few)) in
    omega (arith, ap length same, size)

etag_length : (etag : List ℕ) → mark.is_etag etag ≡ true → length etag ≤ 38
etag_length etag h =
    let parts = and_parts (nat_le 32 (length etag) && list_all is_lower_hex (take 32 etag)) (is_parts_suffix (drop 32 etag)) h in
    let rest = suffix_length (drop 32 etag) parts.1 in
    let size = length-drop 32 etag in
    omega (arith, rest, size)

-- ---- the parts of a list

listed_short : (l : Listed) → part_fits_record_text l ≡ true → length (compact_text (record_part_json l)) ≤ 202
listed_short l e =
    let parts = and_parts (part_number_fits_record_text l.number) (is_etag l.etag) e in
    let count = part_number_short l.number parts.0 in
    let etag = string_short l.etag 32 (part_etag_length l.etag parts.1) in
    let inner = length-append (quoted l.etag) (93 ∷ []) in
    let outer = length-append (decimal l.number) (44 ∷ (quoted l.etag ++ 93 ∷ [])) in
    omega (arith, count, etag, inner, outer)

all_listed_short : (later : Bool) (list : List Listed) → list_all part_fits_record_text list ≡ true → length (items_text later (items_of (map record_part_json list))) ≤ 203 * length list + 1
all_listed_short later [] e = omega arith
all_listed_short true (l ∷ list) e =
    let parts = and_parts (part_fits_record_text l) (list_all part_fits_record_text list) e in
    let one = listed_short l parts.0 in
    let more = all_listed_short true list parts.1 in
    let size = length-append (compact_text (record_part_json l)) (items_text true (items_of (map record_part_json list))) in
    omega (arith, one, more, size)
all_listed_short false (l ∷ list) e =
    let parts = and_parts (part_fits_record_text l) (list_all part_fits_record_text list) e in
    let one = listed_short l parts.0 in
    let more = all_listed_short true list parts.1 in
    let size = length-append (compact_text (record_part_json l)) (items_text true (items_of (map record_part_json list))) in
    omega (arith, one, more, size)

part_short : (p : SealedPart) → part_fits_sealed_text p ≡ true → length (compact_text (sealed_part_json p)) ≤ 213
part_short p e =
    let parts = and_parts (part_number_fits_record_text p.number && is_etag p.etag) (nat_le p.size most_body_bytes) e in
    let front = and_parts (part_number_fits_record_text p.number) (is_etag p.etag) parts.0 in
    let count = part_number_short p.number front.0 in
    let etag = string_short p.etag 32 (part_etag_length p.etag front.1) in
    let size = size_short p.size parts.1 in
    let last = length-append (decimal p.size) (93 ∷ []) in
    let inner = length-append (quoted p.etag) (44 ∷ (decimal p.size ++ 93 ∷ [])) in
    let outer = length-append (decimal p.number) (44 ∷ (quoted p.etag ++ 44 ∷ (decimal p.size ++ 93 ∷ []))) in
    omega (arith, count, etag, size, last, inner, outer)

all_parts_short : (later : Bool) (list : List SealedPart) → list_all part_fits_sealed_text list ≡ true → length (items_text later (items_of (map sealed_part_json list))) ≤ 214 * length list + 1
all_parts_short later [] e = omega arith
all_parts_short true (p ∷ list) e =
    let parts = and_parts (part_fits_sealed_text p) (list_all part_fits_sealed_text list) e in
    let one = part_short p parts.0 in
    let more = all_parts_short true list parts.1 in
    let size = length-append (compact_text (sealed_part_json p)) (items_text true (items_of (map sealed_part_json list))) in
    omega (arith, one, more, size)
all_parts_short false (p ∷ list) e =
    let parts = and_parts (part_fits_sealed_text p) (list_all part_fits_sealed_text list) e in
    let one = part_short p parts.0 in
    let more = all_parts_short true list parts.1 in
    let size = length-append (compact_text (sealed_part_json p)) (items_text true (items_of (map sealed_part_json list))) in
    omega (arith, one, more, size)

list_short : (list : List Listed) → list_fits_record_text list ≡ true → length (compact_text (array_of record_part_json list)) ≤ 2030002
list_short list e =
    let parts = and_parts (places.is_part_count (length list)) (list_all part_fits_record_text list) e in
    let few = few_parts (length list) parts.0 in
    let text = all_listed_short false list parts.1 in
    omega (arith, few, text)

parts_short : (list : List SealedPart) → is_sealed_list list ≡ true → length (compact_text (array_of sealed_part_json list)) ≤ 2140002
parts_short list e =
    let parts = and_parts (places.is_part_count (length list)) (list_all part_fits_sealed_text list) e in
    let few = few_parts (length list) parts.0 in
    let text = all_parts_short false list parts.1 in
    omega (arith, few, text)

-- ---- entries of metadata

-- how much an entry takes
abbrev pair_size : Pair → ℕ
pair_size pair = length pair.name + length pair.value

pair_short : (pair : Pair) → length (compact_text (metadata_pair_json pair)) ≤ 6 * pair_size pair + 7
pair_short pair =
    let name = quoted_short pair.name in
    let value = quoted_short pair.value in
    let inner = length-append (quoted pair.value) (93 ∷ []) in
    let outer = length-append (quoted pair.name) (44 ∷ (quoted pair.value ++ 93 ∷ [])) in
    omega (arith, name, value, inner, outer)

pairs_short : (later : Bool) (pairs : List Pair) → length (items_text later (items_of (map metadata_pair_json pairs))) ≤ 6 * sum_by pair_size pairs + 8 * length pairs + 1
pairs_short later [] = omega arith
pairs_short true (pair ∷ pairs) =
    let one = pair_short pair in
    let more = pairs_short true pairs in
    let sum = sum_by-cons pair_size pair pairs in
    let size = length-append (compact_text (metadata_pair_json pair)) (items_text true (items_of (map metadata_pair_json pairs))) in
    omega (arith, one, more, sum, size)
pairs_short false (pair ∷ pairs) =
    let one = pair_short pair in
    let more = pairs_short true pairs in
    let sum = sum_by-cons pair_size pair pairs in
    let size = length-append (compact_text (metadata_pair_json pair)) (items_text true (items_of (map metadata_pair_json pairs))) in
    omega (arith, one, more, sum, size)

-- what counts of a name is the name without the `-` before it
name_size : (name : List ℕ) → length name ≤ length (bare_name name) + 1
name_size [] = omega arith
name_size (byte ∷ name) = elim (cases_Bool (byte == 45)) [
  | inl own ↦ (let e = ap (λ t. length (cond t name (byte ∷ name))) own in omega (arith, e))
  | inr other ↦ (let e = ap (λ t. length (cond t name (byte ∷ name))) other in omega (arith, e))
]

sizes : (pairs : List Pair) → sum_by pair_size pairs ≤ sum_by pair_bytes pairs + length pairs
sizes [] = omega arith
sizes (pair ∷ pairs) =
    let name = name_size pair.name in
    let more = sizes pairs in
    let sum = sum_by-cons pair_size pair pairs in
    let bytes = sum_by-cons pair_bytes pair pairs in
    omega (arith, name, more, sum, bytes)

pub meta_short : (meta : List Pair) → is_proper_meta meta ≡ true → length (compact_text (array_of metadata_pair_json meta)) ≤ 13194
unfolding is_proper_meta
meta_short meta e =
    let outer = and_parts (nat_le (length meta) 64 && list_all is_proper_pair meta) (nat_le (sum_by pair_bytes meta) 2048) e in
    let few = leb-true (length meta) 64 (and_parts (nat_le (length meta) 64) (list_all is_proper_pair meta) outer.0).0 in
    let small = leb-true (sum_by pair_bytes meta) 2048 outer.1 in
    let size = sizes meta in
    let text = pairs_short false meta in
    omega (arith, few, small, size, text)

pub type_size : (text : List ℕ) → is_content_type text ≡ true → length text ≤ 256
unfolding is_content_type
type_size text e =
    let a = (and_parts _ _ e).0 in
    let b = (and_parts _ _ a).0 in
    let c = (and_parts _ (list_all is_printable text) b).0 in
    leb-true (length text) 256 (and_parts (nat_le 1 (length text)) (nat_le (length text) 256) c).1

-- ---- members, from behind

pub member_short : (later : Bool) (name : List ℕ) (d : Data) (ms : Members) (n m : ℕ) → length name ≤ 7 → length (compact_text d) ≤ n → length (members_text true ms) ≤ m
    → length (members_text later (member name d ms)) ≤ n + m + 46
member_short true name d ms n m named one more =
    let quotes = quoted_short name in
    let inner = length-append (compact_text d) (members_text true ms) in
    let outer = length-append (quoted name) (58 ∷ (compact_text d ++ members_text true ms)) in
    omega (arith, named, one, more, quotes, inner, outer)
member_short false name d ms n m named one more =
    let quotes = quoted_short name in
    let inner = length-append (compact_text d) (members_text true ms) in
    let outer = length-append (quoted name) (58 ∷ (compact_text d ++ members_text true ms)) in
    omega (arith, named, one, more, quotes, inner, outer)

-- ---- a completed record

abbrev done_state : ℕ → Members
done_state version = member (codes "state") (string (codes "done")) (member (codes "v") (number (unsigned version)) no_members)

abbrev done_list : List Listed → ℕ → Members
done_list list version = member (codes "list") (array_of record_part_json list) (done_state version)

abbrev done_key : List ℕ → List Listed → ℕ → Members
done_key key list version = member (codes "key") (string key) (done_list list version)

abbrev done_etag : List ℕ → List ℕ → List Listed → ℕ → Members
done_etag etag key list version = member (codes "etag") (string etag) (done_key key list version)

etag_on : (key : List ℕ) (list : List Listed) (etag : List ℕ) (version : ℕ) → version < 10 → is_key key ≡ true → list_fits_record_text list ≡ true → mark.is_etag etag ≡ true
    → length (members_text true (done_etag etag key list version)) ≤ 2036700
etag_on key list etag version low keyed kept tagged =
    let keys = string_short key 1024 (key_length key keyed).1 in
    let etags = string_short etag 38 (etag_length etag tagged) in
    let v = member_short true (codes "v") (number (unsigned version)) no_members 1 1 (omega arith) (digit_short version low) (omega arith) in
    let s = member_short true (codes "state") (string (codes "done")) (member (codes "v") (number (unsigned version)) no_members) 26 48 (omega arith) (string_short (codes "done") 4 (omega arith)) v in
    let l = member_short true (codes "list") (array_of record_part_json list) (done_state version) 2030002 120 (omega arith) (list_short list kept) s in
    let k = member_short true (codes "key") (string key) (done_list list version) 6146 2030168 (omega arith) keys l in
    let e = member_short true (codes "etag") (string etag) (done_key key list version) 230 2036360 (omega arith) etags k in
    omega (arith, e)

-- the text of a completed record
pub done_short : (key : List ℕ) (list : List Listed) (etag : List ℕ) (started : ℕ) (moment : Option ℕ) → has_record_text (Done key list etag started moment) ≡ true
    → length (record_text (Done key list etag started moment)) ≤ 2040000
unfolding has_record_text record_text
done_short key list etag started None has =
    let listed = and_parts (list_fits_record_text list) _ (and_parts (is_key key) _ has).1 in
    let tagged = and_parts (mark.is_etag etag) _ listed.1 in
    let rest = etag_on key list etag 1 (omega arith) (and_parts (is_key key) _ has).0 listed.0 tagged.0 in
    let all = member_short false (codes "at") (number (unsigned started)) (done_etag etag key list 1) 12 2036700 (omega arith) (dated_short started (and_parts (nat_lt started moment_limit) _ tagged.1).0) rest in
    omega (arith, all)
done_short key list etag started (Some moment) has =
    let listed = and_parts (list_fits_record_text list) _ (and_parts (is_key key) _ has).1 in
    let tagged = and_parts (mark.is_etag etag) _ listed.1 in
    let dates = and_parts (nat_lt started moment_limit) _ tagged.1 in
    let rest = etag_on key list etag 2 (omega arith) (and_parts (is_key key) _ has).0 listed.0 tagged.0 in
    let later = member_short true (codes "done") (number (unsigned moment)) (done_etag etag key list 2) 12 2036700 (omega arith) (dated_short moment dates.1) rest in
    let all = member_short false (codes "at") (number (unsigned started)) (member (codes "done") (number (unsigned moment)) (done_etag etag key list 2)) 12 2036758 (omega arith) (dated_short started dates.0) later in
    omega (arith, all)

-- ---- a sealed completion

module _ (s : Sealed) where
  abbrev from_type : Members
  from_type = member (codes "type") (string s.content_type) (member (codes "v") (number (unsigned 1)) no_members)

  abbrev from_started : Members
  from_started = member (codes "started") (number (unsigned s.started)) from_type

  abbrev from_meta : Members
  from_meta = member (codes "meta") (array_of metadata_pair_json s.meta) from_started

  abbrev from_list : Members
  from_list = member (codes "list") (array_of sealed_part_json s.list) from_meta

  abbrev from_key : Members
  from_key = member (codes "key") (string s.key) from_list

  abbrev from_id : Members
  from_id = member (codes "id") (string (id_digits s.id)) from_key

  abbrev from_etag : Members
  from_etag = member (codes "etag") (string s.etag) from_id

  abbrev from_bucket : Members
  from_bucket = member (codes "bucket") (string s.bucket) from_etag

  list_on : content_fits_record_text s.content_type s.meta ≡ true → is_sealed_list s.list ≡ true → nat_lt s.started moment_limit ≡ true → length (members_text true from_list) ≤ 2155100
  list_on content listed started =
      let typed = and_parts (is_content_type s.content_type) _ content in
      let v = member_short true (codes "v") (number (unsigned 1)) no_members 1 1 (omega arith) (digit_short 1 (omega arith)) (omega arith) in
      let t = member_short true (codes "type") (string s.content_type) (member (codes "v") (number (unsigned 1)) no_members) 1538 48 (omega arith) (string_short s.content_type 256 (type_size s.content_type typed.0)) v in
      let a = member_short true (codes "started") (number (unsigned s.started)) from_type 12 1632 (omega arith) (dated_short s.started started) t in
      let m = member_short true (codes "meta") (array_of metadata_pair_json s.meta) from_started 13194 1690 (omega arith) (meta_short s.meta (and_parts (is_proper_meta s.meta) (names_ascend s.meta) typed.1).0) a in
      let l = member_short true (codes "list") (array_of sealed_part_json s.list) from_meta 2140002 14930 (omega arith) (parts_short s.list listed) m in
      omega (arith, l)

  bucket_on : is_bucket s.bucket ≡ true → is_key s.key ≡ true → mark.is_etag s.etag ≡ true → length (members_text true from_list) ≤ 2155100 → length (members_text true from_bucket) ≤ 2162500
  bucket_on is keyed tagged listed =
      let ids = length-id_digits s.id in
      let k = member_short true (codes "key") (string s.key) from_list 6146 2155100 (omega arith) (string_short s.key 1024 (key_length s.key keyed).1) listed in
      let i = member_short true (codes "id") (string (id_digits s.id)) from_key 194 2161292 (omega arith) (string_short (id_digits s.id) 32 (omega (arith, ids))) k in
      let e = member_short true (codes "etag") (string s.etag) from_id 230 2161532 (omega arith) (string_short s.etag 38 (etag_length s.etag tagged)) i in
      let b = member_short true (codes "bucket") (string s.bucket) from_etag 380 2161808 (omega arith) (string_short s.bucket 63 (bucket_length s.bucket is).1) e in
      omega (arith, b)

  -- the text of a sealed completion
  pub sealed_short : has_sealed_text s ≡ true → length (sealed_text s) ≤ 2170000
  unfolding has_sealed_text sealed_text
  sealed_short has =
      let place = and_parts (is_sealed_place s) _ has in
      let of_bucket = and_parts (is_bucket s.bucket) (is_key s.key) place.0 in
      let content = and_parts (content_fits_record_text s.content_type s.meta) _ (and_parts (nat_lt s.id (2 ^ 128)) _ place.1).1 in
      let listed = and_parts (is_sealed_list s.list) _ content.1 in
      let tagged = and_parts (mark.is_etag s.etag) (is_sealed_dated s) listed.1 in
      let dates = and_parts (nat_lt s.started moment_limit) (nat_lt s.moment moment_limit) tagged.1 in
      let rest = bucket_on of_bucket.0 of_bucket.1 tagged.0 (list_on content.0 listed.0 dates.0) in
      let all = member_short false (codes "at") (number (unsigned s.moment)) from_bucket 12 2162500 (omega arith) (dated_short s.moment dates.1) rest in
      omega (arith, all)
