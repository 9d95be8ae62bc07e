-- Values as they are written and read: numbers and ETags; and the row of an ETag.
use Rattle.std.proofs.Common.{◌≡◌, ℕ, ◌-◌, ◌^◌, ◌<◌, ◌≤◌, Bool, true, false, List, [], ◌∷◌, length, map, reverse, Some, None, refl, ap, ◌∙◌, arith}
use Rattle.std.specs.Prelude.{◌&&◌, ◌==◌, not, codes, decimal, nat_le, nat_lt, slice_index, slice_range, option_map, is_some, if◌then◌else◌}
use Rattle.std.proofs.lemmas.Bool.{and_parts, and_from, leb-true, false≢true}
use Rattle.std.proofs.lemmas.Bool.Decides.{nat_tests}
use Rattle.std.proofs.lemmas.List.Elements.{All-head, All-weaker}
use Rattle.std.proofs.lemmas.List.Sums.{AllPass-from_list_all, list_all-from_AllPass}
use Rattle.gate_base.specs.Ascii.{is_digit}
use Rattle.httparse.specs.Grammar.{AllPass, is_ows, is_value_byte, is_token_byte}
use Rattle.httparse.proofs.TrimLemmas.{AllPass-reverse}
use Rattle.http1.specs.Head.{are_headers, is_trimmed_value, starts_visible}
use Rattle.slo_manifest.specs.declared.Segment.{Segment}
use Rattle.swift_calls.specs.declared.calls.FilePut.{FilePut}
use Rattle.swift_calls.specs.declared.calls.SwiftRequest.{SwiftRequest}
use Rattle.swift_calls.specs.declared.calls.SwiftRequest.TheVariants.{PutObject, PutManifest}
use Rattle.swift_calls.specs.declared.calls.SwiftReply.TheVariants.{Stored}
use Rattle.text_forms.specs.Numbers.{number_of}
use Rattle.text_forms.proofs.lemmas.Decimals.{decimal_digits, number_of_decimal}
use Rattle.text_forms.specs.Quotes.{is_quoted}
use Rattle.swift_replies.specs.Fields.{is_reply_etag_byte, tag_in, tag_only}
use Rattle.http_answers.specs.Framing.{expected}
use Rattle.swift_replies.specs.Answers.{SpellsAnswer, asks_head, reply_of}
use Rattle.swift_replies.specs.AnswerText.{Sent, head_text, is_tag, sent_text, stored_by, stored_sent, text_by, within_limit, length_field, etag_field}
use Rattle.swift_replies.proofs.lemmas.BareRows.{zero_text}
use Rattle.swift_replies.proofs.lemmas.ReadBack.{lowered, said_by, written_spells}

-- ---- values without white space

-- neither white space nor a control byte
abbrev pub is_visible : ℕ → Bool
is_visible b = nat_lt 32 b && not (b == 127)

visible_byte : (b : ℕ) → is_visible b ≡ true → (not (is_ows b) ≡ true) × (is_value_byte b ≡ true)
visible_byte b visible = grind (arith, nat_tests)

starts : (text : List ℕ) → AllPass is_visible text → starts_visible text ≡ true
starts [] all = refl
starts (b ∷ bs) all = (visible_byte b (All-head (λ c. is_visible c ≡ true) b bs all)).0

-- such a text is read as it is written
pub trimmed : (text : List ℕ) → AllPass is_visible text → is_trimmed_value text ≡ true
trimmed text all =
    let values = All-weaker (λ b. is_visible b ≡ true) (λ b. is_value_byte b ≡ true) (λ b visible. (visible_byte b visible).1) text all in
    and_from _ _ (starts text all) (and_from _ _ (starts (reverse text) (AllPass-reverse is_visible text all)) (list_all-from_AllPass is_value_byte text values))

-- ---- numbers

digit_visible : (b : ℕ) → is_digit b ≡ true → is_visible b ≡ true
digit_visible b digit = grind (arith, nat_tests)

pub decimal_trimmed : (n : ℕ) → n < 2 ^ 64 → is_trimmed_value (decimal n) ≡ true
decimal_trimmed n fits =
    trimmed (decimal n)
    (All-weaker (λ b. is_digit b ≡ true) (λ b. is_visible b ≡ true) digit_visible (decimal n) (AllPass-from_list_all is_digit (decimal n) (decimal_digits n fits)))

pub number_back : (n : ℕ) → n < 10 ^ 19 → number_of 19 (decimal n) ≡ Some n
number_back n small = number_of_decimal 19 n (omega arith) small (omega (arith, small))

-- ---- ETags

tag_visible : (b : ℕ) → is_reply_etag_byte b ≡ true → is_visible b ≡ true
tag_visible b tag = grind (arith, nat_tests)

pub tag_trimmed : (etag : List ℕ) → is_tag etag ≡ true → is_trimmed_value etag ≡ true
tag_trimmed etag fine =
    trimmed etag (All-weaker (λ b. is_reply_etag_byte b ≡ true) (λ b. is_visible b ≡ true) tag_visible etag (AllPass-from_list_all is_reply_etag_byte etag fine))

no_quote : (b : ℕ) → is_reply_etag_byte b ≡ true → (b == 34) ≡ false
no_quote b tag = grind (arith, nat_tests)

not_quoted : (etag : List ℕ) → is_tag etag ≡ true → is_quoted etag ≡ false
not_quoted [] fine = refl
not_quoted (b ∷ bs) fine =
    let first : (b == 34) ≡ false = no_quote b (and_parts (is_reply_etag_byte b) _ fine).0 in
    ap (λ v. nat_le 2 (length (b ∷ bs)) && (v && (slice_index (b ∷ bs) (length (b ∷ bs) - 1) == 34))) first ∙ and_no (nat_le 2 (length (b ∷ bs)))
  where
    and_no : (t : Bool) → (t && false) ≡ false
    and_no true = refl
    and_no false = refl

pub tag_back : (etag : List ℕ) → is_tag etag ≡ true → tag_in etag ≡ Some etag
tag_back etag fine =
    ap (λ b. tag_only (if b then slice_range etag 1 (length etag - 1) else etag)) (not_quoted etag fine)
    ∙ ap (λ b. if b then Some etag else None) fine

-- ---- the row of an ETag

stored_headers : (etag : List ℕ) → is_tag etag ≡ true → are_headers (length_field 0 ∷ etag_field etag ∷ []) ≡ true
unfolding are_headers is_token_byte
stored_headers etag fine =
    ap (λ v. are_headers ((codes "Content-Length", v) ∷ etag_field etag ∷ [])) zero_text ∙ ap (λ b. b && true) (tag_trimmed etag fine)

stored_size : (etag : List ℕ) → expected false 201 (map lowered (length_field 0 ∷ etag_field etag ∷ [])) ≡ Some 0
unfolding number_of
stored_size etag = ap (λ v. expected false 201 (map lowered ((codes "Content-Length", v) ∷ etag_field etag ∷ []))) zero_text

-- to a call that isn't sent with HEAD
stored_spells : (call : SwiftRequest) (etag : List ℕ) → asks_head call ≡ false → reply_of call (said_by (stored_by etag)) ≡ Some (Stored etag)
    → is_tag etag ≡ true → length (head_text (stored_by etag)) ≤ 65536 → SpellsAnswer call (Stored etag) (sent_text (stored_by etag))
stored_spells call etag asks gives fine short =
    written_spells call (Stored etag) (stored_by etag) refl (stored_headers etag fine) short
    (ap (λ head. expected head 201 (map lowered (length_field 0 ∷ etag_field etag ∷ []))) asks ∙ stored_size etag) gives

-- a reply that has a spelling is written within the limit
pub limit_of : (s : Sent) (P : List ℕ → Type 0) → is_some (within_limit s) ≡ true → (length (head_text s) ≤ 65536 → P (sent_text s)) → P (text_by (within_limit s))
limit_of s P some given = by_limit (nat_le (length (head_text s)) 65536) refl some
  where
    by_limit : (b : Bool) → nat_le (length (head_text s)) 65536 ≡ b → is_some (if b then Some s else None) ≡ true → P (text_by (if b then Some s else None))
    by_limit true short some = given (leb-true (length (head_text s)) 65536 short)
    by_limit false long some = absurd (false≢true some)

stored_by_call : (call : SwiftRequest) (etag : List ℕ) → asks_head call ≡ false
    → (is_tag etag ≡ true → reply_of call (said_by (stored_by etag)) ≡ Some (Stored etag)) → is_some (stored_sent etag) ≡ true
    → SpellsAnswer call (Stored etag) (text_by (stored_sent etag))
stored_by_call call etag asks gives some = by_tag (is_tag etag) refl some
  where
    by_tag : (b : Bool) → is_tag etag ≡ b → is_some (if b then within_limit (stored_by etag) else None) ≡ true
        → SpellsAnswer call (Stored etag) (text_by (if b then within_limit (stored_by etag) else None))
    by_tag true fine some =
        limit_of (stored_by etag) (SpellsAnswer call (Stored etag)) some (stored_spells call etag asks (gives fine) fine)
    by_tag false other some = absurd (false≢true some)

pub stored_reads_back : (put : FilePut) (etag : List ℕ) → is_some (stored_sent etag) ≡ true
    → SpellsAnswer (PutObject put) (Stored etag) (text_by (stored_sent etag))
stored_reads_back put etag some =
    stored_by_call (PutObject put) etag refl (λ fine. ap (option_map (λ v. Stored v)) (tag_back etag fine)) some

pub listed_reads_back : (container name content_type : List ℕ) (meta : List (List ℕ)) (segments : List Segment) (etag : List ℕ) → is_some (stored_sent etag) ≡ true
    → SpellsAnswer (PutManifest container name content_type meta segments) (Stored etag) (text_by (stored_sent etag))
listed_reads_back container name content_type meta segments etag some =
    stored_by_call (PutManifest container name content_type meta segments) etag refl (λ fine. ap (option_map (λ v. Stored v)) (tag_back etag fine)) some
