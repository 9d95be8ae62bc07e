-- A tag and its text.
use Rattle.std.proofs.Common.{◌≡◌, ℕ, ◌<◌, ◌^◌, Bool, true, false, cond, not, List, [], ◌∷◌, ◌++◌, length, take, drop, refl, ap, sym, ◌∙◌, arith, append_assoc, take-append-drop}
use Rattle.std.specs.Prelude.{◌&&◌, ◌||◌, ◌==◌, nat_le, nat_lt, decimal, Option, Some, None}
use Rattle.std.specs.List.{list_all, before_first, after_first, before_last, after_last}
use Rattle.std.specs.Str.{bytes_eq}
use Rattle.std.proofs.lemmas.Bool.{and_parts, and_from}
use Rattle.std.proofs.lemmas.Bool.Decides.{nat_tests}
use Rattle.std.proofs.lemmas.List.Folds.{list_all-append}
use Rattle.std.proofs.lemmas.Slice.Eq.{bytes_eq-Decides}
use Rattle.gate_base.specs.Told.{moment_limit}
use Rattle.gate_base.specs.Ascii.{is_digit, is_lower_hex}
use Rattle.s3_names.specs.Id.{id_digits, id_of}
use Rattle.swift_marks.specs.Number.{number_of, id_text, id_fits_tag}
use Rattle.swift_marks.specs.Tag.{is_content_type, is_part_count, is_parts_suffix, is_etag, has_text, tag_text, tag_parts, read_tag, is_equals, is_semicolon, is_dot}
use Rattle.swift_marks.specs.declared.tag.Tag.{Tag}
use Rattle.swift_marks.proofs.Cuts.{before_first_at, after_first_at, before_last_at, after_last_at}
use Rattle.text_forms.proofs.lemmas.Decimals.{decimal_digits}
use Rattle.swift_marks.proofs.NumberLemmas.{number_of_decimal}
use Rattle.s3_names.proofs.lemmas.Ids.{id_has_digits}
use Rattle.swift_marks.proofs.IdLemmas.{id_of_text}

-- the bytes of a stamp, but for its dots
abbrev pub is_word : ℕ → Bool
is_word byte = is_lower_hex byte || byte == 45

pub weaken : (p q : ℕ → Bool) → ((byte : ℕ) → p byte ≡ true → q byte ≡ true) → (text : List ℕ) → list_all p text ≡ true → list_all q text ≡ true
weaken p q h [] all = refl
weaken p q h (byte ∷ text) all =
    let parts = and_parts (p byte) (list_all p text) all in
    and_from _ _ (h byte parts.0) (weaken p q h text parts.1)

pub hex_is_word : (byte : ℕ) → is_lower_hex byte ≡ true → is_word byte ≡ true
hex_is_word byte h = ap (λ b. b || byte == 45) h

digit_is_word : (byte : ℕ) → is_digit byte ≡ true → is_word byte ≡ true
digit_is_word byte h = ap (λ b. (b || (nat_le 97 byte && nat_le byte 102)) || byte == 45) h

word_is_no_equals : (byte : ℕ) → is_word byte ≡ true → not (is_equals byte) ≡ true
word_is_no_equals byte h = grind (arith, nat_tests)

word_is_no_dot : (byte : ℕ) → is_word byte ≡ true → not (is_dot byte) ≡ true
word_is_no_dot byte h = grind (arith, nat_tests)

pub number_has_words : (n : ℕ) → n < 2 ^ 64 → list_all is_word (decimal n) ≡ true
number_has_words n fits = weaken is_digit is_word digit_is_word (decimal n) (decimal_digits n fits)

count_has_words : (text : List ℕ) → is_part_count text ≡ true → list_all is_word text ≡ true
count_has_words text h =
    let parts = and_parts (nat_le 1 (number_of text) && nat_le (number_of text) 10000) (bytes_eq text (decimal (number_of text))) h in
    let bounds = and_parts (nat_le 1 (number_of text)) (nat_le (number_of text) 10000) parts.0 in
    let fits : number_of text < 2 ^ 64 = grind (arith, nat_tests, bounds.1) in
    let same : text ≡ decimal (number_of text) = (bytes_eq-Decides text (decimal (number_of text))).0 parts.1 in
    ap (list_all is_word) same ∙ number_has_words (number_of text) fits

suffix_has_words : (suffix : List ℕ) → is_parts_suffix suffix ≡ true → list_all is_word suffix ≡ true
suffix_has_words [] h = refl
suffix_has_words (byte ∷ count) h =
    let parts = and_parts (byte == 45) (is_part_count count) h in
    and_from _ _ (dash byte parts.0) (count_has_words count parts.1)
  where
    dash : (byte : ℕ) → (byte == 45) ≡ true → is_word byte ≡ true
    dash byte h = grind (arith, nat_tests)

pub etag_has_words : (etag : List ℕ) → is_etag etag ≡ true → list_all is_word etag ≡ true
etag_has_words etag h =
    let parts = and_parts (nat_le 32 (length etag) && list_all is_lower_hex (take 32 etag)) (is_parts_suffix (drop 32 etag)) h in
    let front = and_parts (nat_le 32 (length etag)) (list_all is_lower_hex (take 32 etag)) parts.0 in
    ap (list_all is_word) (sym (take-append-drop 32 etag))
    ∙ list_all-append is_word (take 32 etag) (drop 32 etag)
    ∙ and_from _ _ (weaken is_lower_hex is_word hex_is_word (take 32 etag) front.1) (suffix_has_words (drop 32 etag) parts.1)

pub id_has_words : (id : Option ℕ) → list_all is_word (id_text id) ≡ true
id_has_words None = refl
id_has_words (Some id) = weaken is_lower_hex is_word hex_is_word (id_digits id) (id_has_digits id)

pub regroup : (a e d i : List ℕ) → (((((a ++ 59 ∷ 115 ∷ 51 ∷ 61 ∷ []) ++ e) ++ 46 ∷ []) ++ d) ++ 46 ∷ []) ++ i ≡ (a ++ 59 ∷ 115 ∷ 51 ∷ []) ++ 61 ∷ (e ++ 46 ∷ (d ++ 46 ∷ i))
regroup a e d i = simp append_assoc

-- what has words on both sides of a dot has no `=`
no_equals : (a b : List ℕ) → list_all (λ byte. not (is_equals byte)) a ≡ true → list_all (λ byte. not (is_equals byte)) b ≡ true → list_all (λ byte. not (is_equals byte)) (a ++ 46 ∷ b) ≡ true
no_equals a b h k = list_all-append (λ byte. not (is_equals byte)) a (46 ∷ b) ∙ and_from _ _ h k

parts_of_text : (tag : Tag) → has_text tag ≡ true → tag_parts (tag_text tag) ≡ tag
unfolding has_text tag_text tag_parts
parts_of_text tag h =
    let all = and_parts (is_content_type tag.content_type && is_etag tag.etag && nat_lt tag.moment moment_limit) (id_fits_tag tag.id) h in
    let most = and_parts (is_content_type tag.content_type && is_etag tag.etag) (nat_lt tag.moment moment_limit) all.0 in
    let some = and_parts (is_content_type tag.content_type) (is_etag tag.etag) most.0 in
    let small : tag.moment < 253402300800 = grind (arith, nat_tests, most.1) in
    let dec = decimal tag.moment in
    let id = id_text tag.id in
    let numbers = dec ++ 46 ∷ id in
    let stamp = tag.etag ++ 46 ∷ numbers in
    let front = tag.content_type ++ 59 ∷ 115 ∷ 51 ∷ [] in
    let etag_words = etag_has_words tag.etag some.1 in
    let dec_words = number_has_words tag.moment (omega arith) in
    let id_words = id_has_words tag.id in
    let clear = weaken is_word (λ byte. not (is_equals byte)) word_is_no_equals in
    let undotted = weaken is_word (λ byte. not (is_dot byte)) word_is_no_dot in
    let plain : list_all (λ byte. not (is_equals byte)) stamp ≡ true = no_equals tag.etag numbers (clear tag.etag etag_words) (no_equals dec id (clear dec dec_words) (clear id id_words)) in
    let text : tag_text tag ≡ front ++ 61 ∷ stamp = regroup tag.content_type tag.etag dec id in
    let stamped : after_last is_equals (tag_text tag) ≡ stamp = ap (after_last is_equals) text ∙ after_last_at is_equals front 61 stamp refl plain in
    let fronted : before_last is_equals (tag_text tag) ≡ front = ap (before_last is_equals) text ∙ before_last_at is_equals front 61 stamp refl plain in
    let numbered : after_first is_dot (after_last is_equals (tag_text tag)) ≡ numbers = ap (after_first is_dot) stamped ∙ after_first_at is_dot tag.etag 46 numbers refl (undotted tag.etag etag_words) in
    let typed : before_last is_semicolon (before_last is_equals (tag_text tag)) ≡ tag.content_type = ap (before_last is_semicolon) fronted ∙ before_last_at is_semicolon tag.content_type 59 (115 ∷ 51 ∷ []) refl refl in
    let tagged : before_first is_dot (after_last is_equals (tag_text tag)) ≡ tag.etag = ap (before_first is_dot) stamped ∙ before_first_at is_dot tag.etag 46 numbers refl (undotted tag.etag etag_words) in
    let timed : number_of (before_first is_dot (after_first is_dot (after_last is_equals (tag_text tag)))) ≡ tag.moment = ap (λ t. number_of (before_first is_dot t)) numbered ∙ ap number_of (before_first_at is_dot dec 46 id refl (undotted dec dec_words)) ∙ number_of_decimal tag.moment (omega arith) in
    let known : id_of (after_first is_dot (after_first is_dot (after_last is_equals (tag_text tag)))) ≡ tag.id = ap (λ t. id_of (after_first is_dot t)) numbered ∙ ap id_of (after_first_at is_dot dec 46 id refl (undotted dec dec_words)) ∙ id_of_text tag.id all.1 in
    λ i. record { content_type = typed i; etag = tagged i; moment = timed i; id = known i }

pub tag_text_reads : (tag : Tag) → has_text tag ≡ true → read_tag (tag_text tag) ≡ Some tag
unfolding read_tag
tag_text_reads tag h =
    ap (λ parts. cond (has_text parts && bytes_eq (tag_text parts) (tag_text tag)) (Some parts) None) (parts_of_text tag h)
    ∙ ap (λ b. cond b (Some tag) None) (and_from _ _ h ((bytes_eq-Decides (tag_text tag) (tag_text tag)).1 refl))

pub kept : {A : Type 0} (b : Bool) (x y : A) → cond b (Some x) None ≡ Some y → (b ≡ true) × (x ≡ y)
kept true x y h = (refl, cc)
kept false x y h = cc

pub tag_has_one_text : (text : List ℕ) (tag : Tag) → read_tag text ≡ Some tag → (has_text tag ≡ true) × (text ≡ tag_text tag)
unfolding read_tag
tag_has_one_text text tag h =
    let found = kept (has_text (tag_parts text) && bytes_eq (tag_text (tag_parts text)) text) (tag_parts text) tag h in
    let both = and_parts (has_text (tag_parts text)) (bytes_eq (tag_text (tag_parts text)) text) found.0 in (
      ap has_text (sym found.1) ∙ both.0,
      sym ((bytes_eq-Decides (tag_text (tag_parts text)) text).0 both.1) ∙ ap tag_text found.1,
    )
