-- The texts of marks as a store takes them.
use Rattle.std.proofs.Common.{◌≡◌, ℕ, zero, suc, ◌+◌, ◌-◌, ◌*◌, ◌<◌, ◌≤◌, Bool, true, false, cond, not, List, [], ◌∷◌, ◌++◌, length, map, take, drop, get_or, refl, ap, sym, ◌∙◌, arith, append_assoc, append-nil, length-append, length-drop, length-take, take-append-drop, take_at, drop_at, lit≤}
use Rattle.std.specs.Prelude.{◌&&◌, ◌==◌, nat_le, nat_lt, slice_index, decimal, codes, flat_map, sum_by}
use Rattle.std.specs.List.{list_all}
use Rattle.std.specs.Str.{bytes_eq}
use Rattle.std.proofs.lemmas.Bool.{and_parts, and_from}
use Rattle.std.proofs.lemmas.Bool.Decides.{nat_tests}
use Rattle.std.proofs.lemmas.Fmt.{length-decimal-le}
use Rattle.std.proofs.lemmas.List.{get_or_append_left}
use Rattle.std.proofs.lemmas.List.Folds.{list_all-append}
use Rattle.std.proofs.lemmas.List.Sums.{AllPass-from_list_all, sum_by-cons}
use Rattle.std.proofs.lemmas.Slice.Eq.{bytes_eq-Decides}
use Rattle.std.proofs.Math.Seq.{get_or-append_right}
use Rattle.gate_base.specs.declared.page.Pair.{Pair}
use Rattle.gate_base.specs.Told.{moment_limit}
use Rattle.swift_marks.specs.Limits.{counted_name, counted_size, is_within_limits, is_printable_entry, is_kept_metadata}
use Rattle.gate_base.specs.Ascii.{is_digit, is_lower_hex}
use Rattle.gate_base.specs.Fields.{is_field, is_printable}
use Rattle.swift_marks.specs.Number.{number_of, id_text, id_fits_tag}
use Rattle.swift_marks.specs.Pack.{entry_text, cut_in, bracketed, pack_of}
use Rattle.swift_marks.specs.Tag.{is_content_type, is_part_count, is_parts_suffix, is_etag, has_text, tag_text}
use Rattle.swift_marks.specs.declared.tag.Tag.{Tag}
use Rattle.text_forms.proofs.lemmas.Decimals.{decimal_digits}
use Rattle.swift_marks.proofs.NumberLemmas.{number_of_decimal, front_passes}
use Rattle.swift_marks.proofs.IdLemmas.{length_of_id}
use Rattle.swift_marks.proofs.lemmas.TagLaws.{is_word, weaken, etag_has_words, number_has_words, id_has_words}

both : (p : ℕ → Bool) (a b : List ℕ) → list_all p a ≡ true → list_all p b ≡ true → list_all p (a ++ b) ≡ true
both p a b h k = list_all-append p a b ∙ and_from _ _ h k

all_six : (p : ℕ → Bool) (a b c d e f : List ℕ) → list_all p a ≡ true → list_all p b ≡ true → list_all p c ≡ true → list_all p d ≡ true → list_all p e ≡ true → list_all p f ≡ true → list_all p (((((a ++ b) ++ c) ++ d) ++ e) ++ f) ≡ true
all_six p a b c d e f ha hb hc hd he hf =
    both p ((((a ++ b) ++ c) ++ d) ++ e) f (both p (((a ++ b) ++ c) ++ d) e (both p ((a ++ b) ++ c) d (both p (a ++ b) c (both p a b ha hb) hc) hd) he) hf

-- the forms of ETags

count_is_part_count : (parts : ℕ) → 1 ≤ parts → parts ≤ 10000 → is_part_count (decimal parts) ≡ true
count_is_part_count parts low high =
    let read : number_of (decimal parts) ≡ parts = number_of_decimal parts (omega arith) in
    let low_test : nat_le 1 parts ≡ true = grind (arith, nat_tests) in
    let high_test : nat_le parts 10000 ≡ true = grind (arith, nat_tests) in
    ap (λ n. nat_le 1 n && nat_le n 10000 && bytes_eq (decimal parts) (decimal n)) read
    ∙ and_from _ _ (and_from _ _ low_test high_test) ((bytes_eq-Decides (decimal parts) (decimal parts)).1 refl)

etag_from : (digits suffix : List ℕ) → length digits ≡ 32 → list_all is_lower_hex digits ≡ true → is_parts_suffix suffix ≡ true → is_etag (digits ++ suffix) ≡ true
etag_from digits suffix size hex parts =
    let long : nat_le 32 (length (digits ++ suffix)) ≡ true = grind (arith, nat_tests, length-append digits suffix) in
    let front : list_all is_lower_hex (take 32 (digits ++ suffix)) ≡ true = ap (list_all is_lower_hex) (take_at digits suffix 32 size) ∙ hex in
    let back : is_parts_suffix (drop 32 (digits ++ suffix)) ≡ true = ap is_parts_suffix (drop_at digits suffix 32 size) ∙ parts in
    and_from _ _ (and_from _ _ long front) back

pub etag_of_one : (digits : List ℕ) → length digits ≡ 32 → list_all is_lower_hex digits ≡ true → is_etag digits ≡ true
etag_of_one digits size hex = ap is_etag (sym (append-nil digits)) ∙ etag_from digits [] size hex refl

pub etag_of_parts : (digits : List ℕ) → length digits ≡ 32 → list_all is_lower_hex digits ≡ true → (parts : ℕ) → 1 ≤ parts → parts ≤ 10000 → is_etag (digits ++ codes "-" ++ decimal parts) ≡ true
etag_of_parts digits size hex parts low high =
    ap is_etag (append_assoc digits (45 ∷ []) (decimal parts)) ∙ etag_from digits (45 ∷ decimal parts) size hex (count_is_part_count parts low high)

-- the text of a tag

word_is_printable : (byte : ℕ) → is_word byte ≡ true → is_printable byte ≡ true
word_is_printable byte h = grind (arith, nat_tests)

word_is_no_space : (byte : ℕ) → is_word byte ≡ true → not (byte == 32) ≡ true
word_is_no_space byte h = grind (arith, nat_tests)

digit_is_printable : (byte : ℕ) → is_digit byte ≡ true → is_printable byte ≡ true
digit_is_printable byte h = grind (arith, nat_tests)

printable_words : (text : List ℕ) → list_all is_word text ≡ true → list_all is_printable text ≡ true
printable_words = weaken is_word is_printable word_is_printable

-- a field begins with its first part and ends with its last one
field_from : (most : ℕ) (front back : List ℕ) → 1 ≤ length front → 1 ≤ length back → length front + length back ≤ most → list_all is_printable front ≡ true → list_all is_printable back ≡ true → not (slice_index front 0 == 32) ≡ true → not (slice_index back (length back - 1) == 32) ≡ true → is_field most (front ++ back) ≡ true
field_from most front back some more few front_prints back_prints begins ends =
    let size = length-append front back in
    let low : nat_le 1 (length (front ++ back)) ≡ true = grind (arith, nat_tests) in
    let high : nat_le (length (front ++ back)) most ≡ true = grind (arith, nat_tests) in
    let first : get_or (front ++ back) 0 0 ≡ get_or front 0 0 = get_or_append_left front back 0 0 (omega arith) in
    let at : length (front ++ back) - 1 - length front ≡ length back - 1 = omega arith in
    let last : get_or (front ++ back) (length (front ++ back) - 1) 0 ≡ get_or back (length back - 1) 0 =
    get_or-append_right front back (length (front ++ back) - 1) 0 (omega arith) ∙ ap (λ i. get_or back i 0) at in
    and_from _ _ (and_from _ _ (and_from _ _ (and_from _ _ low high) (both is_printable front back front_prints back_prints)) (ap (λ byte. not (byte == 32)) first ∙ begins)) (ap (λ byte. not (byte == 32)) last ∙ ends)

suffix_length : (suffix : List ℕ) → is_parts_suffix suffix ≡ true → length suffix ≤ 6
suffix_length [] h = lit≤ tt
suffix_length (byte ∷ count) h =
    let parts = and_parts (byte == 45) (is_part_count count) h in
    let form = and_parts (nat_le 1 (number_of count) && nat_le (number_of count) 10000) (bytes_eq count (decimal (number_of count))) parts.1 in
    let bounds = and_parts (nat_le 1 (number_of count)) (nat_le (number_of count) 10000) form.0 in
    let few : number_of count ≤ 10000 = grind (arith, nat_tests, bounds.1) in
    let same : count ≡ decimal (number_of count) = (bytes_eq-Decides count (decimal (number_of count))).0 form.1 in
    omega (arith, ap length same, length-decimal-le 5 (number_of count) (omega arith) (omega arith) (omega arith))

etag_length : (etag : List ℕ) → is_etag etag ≡ true → length etag ≤ 38
etag_length etag h =
    let parts = and_parts (nat_le 32 (length etag) && list_all is_lower_hex (take 32 etag)) (is_parts_suffix (drop 32 etag)) h in
    omega (arith, suffix_length (drop 32 etag) parts.1, length-drop 32 etag)

-- the text of a tag up to its id
abbrev front_of : List ℕ → List ℕ → List ℕ → List ℕ
front_of type etag dec = ((((type ++ 59 ∷ 115 ∷ 51 ∷ 61 ∷ []) ++ etag) ++ 46 ∷ []) ++ dec) ++ 46 ∷ []

front_length : (type etag dec : List ℕ) → length (front_of type etag dec) ≡ length type + length etag + length dec + 6
front_length type etag dec = simp length-append (omega arith)

front_printable : (type etag dec : List ℕ) → list_all is_printable type ≡ true → list_all is_printable etag ≡ true → list_all is_printable dec ≡ true → list_all is_printable (front_of type etag dec) ≡ true
front_printable type etag dec h k l = all_six is_printable type (59 ∷ 115 ∷ 51 ∷ 61 ∷ []) etag (46 ∷ []) dec (46 ∷ []) h refl k refl l refl

front_grouped : (type etag dec : List ℕ) → front_of type etag dec ≡ type ++ 59 ∷ 115 ∷ 51 ∷ 61 ∷ (etag ++ 46 ∷ (dec ++ 46 ∷ []))
front_grouped type etag dec = simp append_assoc

front_begins : (type etag dec : List ℕ) → 1 ≤ length type → get_or (front_of type etag dec) 0 0 ≡ get_or type 0 0
front_begins type etag dec some =
    ap (λ text. get_or text 0 0) (front_grouped type etag dec) ∙ get_or_append_left type (59 ∷ 115 ∷ 51 ∷ 61 ∷ (etag ++ 46 ∷ (dec ++ 46 ∷ []))) 0 0 (omega arith)

pub tag_is_field : (tag : Tag) → has_text tag ≡ true → is_field 512 (tag_text tag) ≡ true
unfolding has_text tag_text
tag_is_field tag h =
    let all = and_parts (is_content_type tag.content_type && is_etag tag.etag && nat_lt tag.moment moment_limit) (id_fits_tag tag.id) h in
    let most = and_parts (is_content_type tag.content_type && is_etag tag.etag) (nat_lt tag.moment moment_limit) all.0 in
    let some = and_parts (is_content_type tag.content_type) (is_etag tag.etag) most.0 in
    let type = tag.content_type in
    let ended = and_parts (nat_le 1 (length type) && nat_le (length type) 256 && list_all is_printable type && not (slice_index type 0 == 32)) (not (slice_index type (length type - 1) == 32)) some.0 in
    let begun = and_parts (nat_le 1 (length type) && nat_le (length type) 256 && list_all is_printable type) (not (slice_index type 0 == 32)) ended.0 in
    let sized = and_parts (nat_le 1 (length type) && nat_le (length type) 256) (list_all is_printable type) begun.0 in
    let bounds = and_parts (nat_le 1 (length type)) (nat_le (length type) 256) sized.0 in
    let low : 1 ≤ length type = grind (arith, nat_tests, bounds.0) in
    let high : length type ≤ 256 = grind (arith, nat_tests, bounds.1) in
    let small : tag.moment < 253402300800 = grind (arith, nat_tests, most.1) in
    let dec = decimal tag.moment in
    let id = id_text tag.id in
    let front = front_of type tag.etag dec in
    let dec_length : length dec ≤ 12 = length-decimal-le 12 tag.moment (omega arith) (omega arith) (omega arith) in
    let id_length = length_of_id tag.id in
    let size : length front ≡ length type + length tag.etag + length dec + 6 = front_length type tag.etag dec in
    let few : length front + length id ≤ 512 = omega (arith, etag_length tag.etag some.1, id_length.1) in
    let front_prints : list_all is_printable front ≡ true =
    front_printable type tag.etag dec sized.1 (printable_words tag.etag (etag_has_words tag.etag some.1)) (printable_words dec (number_has_words tag.moment (omega arith))) in
    let first : get_or front 0 0 ≡ get_or type 0 0 = front_begins type tag.etag dec low in
    let last : is_word (get_or id (length id - 1) 0) ≡ true = AllPass-from_list_all is_word id (id_has_words tag.id) (length id - 1) 0 (omega (arith, id_length.0)) in
    field_from 512 front id (omega arith) id_length.0 few front_prints (printable_words id (id_has_words tag.id)) (ap (λ byte. not (byte == 32)) first ∙ begun.1) (word_is_no_space _ last)

-- the pieces of a pack

short_name : (name : List ℕ) → length name ≤ length (counted_name name) + 1
short_name [] = omega arith
short_name (byte ∷ name) = by_test (byte == 45)
  where
    by_test : (b : Bool) → length (byte ∷ name) ≤ length (cond b name (byte ∷ name)) + 1
    by_test true = omega arith
    by_test false = omega arith

text_length : (n v name value : List ℕ) → length (((((n ++ 46 ∷ []) ++ v) ++ 46 ∷ []) ++ name) ++ value) ≡ length n + length v + 2 + length name + length value
text_length n v name value = simp length-append (omega arith)

entry_length : (entry : Pair) → counted_size entry ≤ 2048 → length (entry_text entry) ≤ counted_size entry + 11
entry_length entry h =
    let name = short_name entry.name in
    let n : length (decimal (length entry.name)) ≤ 4 = length-decimal-le 4 (length entry.name) (omega arith) (omega arith) (omega arith) in
    let v : length (decimal (length entry.value)) ≤ 4 = length-decimal-le 4 (length entry.value) (omega arith) (omega arith) (omega arith) in
    omega (arith, text_length (decimal (length entry.name)) (decimal (length entry.value)) entry.name entry.value)

entries_length : (entries : List Pair) → sum_by counted_size entries ≤ 2048 → length (flat_map entry_text entries) ≤ sum_by counted_size entries + 11 * length entries
entries_length [] h = omega arith
entries_length (entry ∷ entries) h =
    let all = sum_by-cons counted_size entry entries in
    let one = entry_length entry (omega arith) in
    let more = entries_length entries (omega arith) in
    omega (arith, length-append (entry_text entry) (flat_map entry_text entries))

-- each piece but the last takes 254 bytes
pieces_count : (turns : ℕ) (text : List ℕ) → length text ≤ turns → length (cut_in turns text) * 254 < length text + 254
unfolding cut_in
pieces_count zero text h = omega arith
pieces_count (suc turns) [] h = omega arith
pieces_count (suc turns) (byte ∷ text) h =
    let size = length-drop 254 (byte ∷ text) in
    let more = pieces_count turns (drop 254 (byte ∷ text)) (omega arith) in
    omega arith

entry_prints : (entry : Pair) → counted_size entry ≤ 2048 → is_printable_entry entry ≡ true → list_all is_printable (entry_text entry) ≡ true
entry_prints entry h prints =
    let name = short_name entry.name in
    let parts = and_parts (list_all is_printable entry.name) (list_all is_printable entry.value) prints in
    let n = weaken is_digit is_printable digit_is_printable (decimal (length entry.name)) (decimal_digits (length entry.name) (omega arith)) in
    let v = weaken is_digit is_printable digit_is_printable (decimal (length entry.value)) (decimal_digits (length entry.value) (omega arith)) in
    all_six is_printable (decimal (length entry.name)) (46 ∷ []) (decimal (length entry.value)) (46 ∷ []) entry.name entry.value n refl v refl parts.0 parts.1

entries_print : (entries : List Pair) → sum_by counted_size entries ≤ 2048 → list_all is_printable_entry entries ≡ true → list_all is_printable (flat_map entry_text entries) ≡ true
entries_print [] h prints = refl
entries_print (entry ∷ entries) h prints =
    let all = sum_by-cons counted_size entry entries in
    let parts = and_parts (is_printable_entry entry) (list_all is_printable_entry entries) prints in
    both is_printable (entry_text entry) (flat_map entry_text entries) (entry_prints entry (omega arith) parts.0) (entries_print entries (omega arith) parts.1)

behind_passes : (test : ℕ → Bool) (text : List ℕ) (i : ℕ) → list_all test text ≡ true → list_all test (drop i text) ≡ true
behind_passes test text i h =
    let parts : list_all test (take i text ++ drop i text) ≡ true = ap (list_all test) (take-append-drop i text) ∙ h in
    (and_parts (list_all test (take i text)) (list_all test (drop i text)) (sym (list_all-append test (take i text) (drop i text)) ∙ parts)).1

piece_is_field : (piece : List ℕ) → length piece ≤ 254 → list_all is_printable piece ≡ true → is_field 256 (bracketed piece) ≡ true
piece_is_field piece h prints = field_from 256 (91 ∷ piece) (93 ∷ []) (omega arith) (omega arith) (omega arith) prints refl refl refl

pieces_are_fields : (turns : ℕ) (text : List ℕ) → list_all is_printable text ≡ true → list_all (is_field 256) (map bracketed (cut_in turns text)) ≡ true
unfolding cut_in
pieces_are_fields zero text prints = refl
pieces_are_fields (suc turns) [] prints = refl
pieces_are_fields (suc turns) (byte ∷ text) prints =
    let whole = byte ∷ text in
    and_from _ _ (piece_is_field (take 254 whole) (omega (arith, length-take 254 whole)) (front_passes is_printable whole 254 prints)) (pieces_are_fields turns (drop 254 whole) (behind_passes is_printable whole 254 prints))

length_of_map : (pieces : List (List ℕ)) → length (map bracketed pieces) ≡ length pieces
length_of_map [] = refl
length_of_map (piece ∷ pieces) = ap suc (length_of_map pieces)

pub pack_is_small : (entries : List Pair) → is_kept_metadata entries ≡ true → (length (pack_of entries) ≤ 11) × (list_all (is_field 256) (pack_of entries) ≡ true)
unfolding pack_of
pack_is_small entries h =
    let parts = and_parts (is_within_limits entries) (list_all is_printable_entry entries) h in
    let limits = and_parts (nat_le (length entries) 64) (nat_le (sum_by counted_size entries) 2048) parts.0 in
    let few : length entries ≤ 64 = grind (arith, nat_tests, limits.0) in
    let small : sum_by counted_size entries ≤ 2048 = grind (arith, nat_tests, limits.1) in
    let text = flat_map entry_text entries in
    let size = entries_length entries small in
    let count = pieces_count (length text) text (omega arith) in
    let same = length_of_map (cut_in (length text) text) in
    (omega arith, pieces_are_fields (length text) text (entries_print entries small parts.1))
