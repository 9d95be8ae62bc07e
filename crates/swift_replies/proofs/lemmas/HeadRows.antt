-- The rows of an object's head and of its bytes are read back.
use Rattle.std.proofs.Common.{◌≡◌, ℕ, ◌+◌, ◌-◌, ◌^◌, ◌<◌, ◌≤◌, Bool, true, false, not, List, [], ◌∷◌, ◌++◌, length, map, reverse, Option, Some, None, refl, ap, ◌∙◌, append_assoc, arith}
use Rattle.std.specs.Prelude.{◌&&◌, codes, decimal, is_some, option_map, option_and_then, if◌then◌else◌}
use Rattle.std.specs.List.{list_all}
use Rattle.std.proofs.lemmas.Bool.{and_parts, and_from, eqb-true, false≢true}
use Rattle.std.proofs.lemmas.Bool.Decides.{nat_tests}
use Rattle.std.proofs.lemmas.Fmt.{decimal_nonempty}
use Rattle.std.proofs.lemmas.List.{length-reverse, reverse-append}
use Rattle.std.proofs.lemmas.List.Folds.{list_all-append}
use Rattle.gate_base.specs.Ascii.{is_digit, is_slash}
use Rattle.httparse.specs.Grammar.{is_value_byte}
use Rattle.http1.specs.Head.{are_headers, is_status_line, is_trimmed_value, starts_visible}
use Rattle.swift_calls.specs.declared.heads.StoredHead.{StoredHead}
use Rattle.swift_calls.specs.declared.calls.SwiftRequest.{SwiftRequest}
use Rattle.swift_calls.specs.declared.calls.SwiftRequest.TheVariants.{HeadObject, GetObject}
use Rattle.swift_calls.specs.declared.calls.SwiftReply.{SwiftReply}
use Rattle.swift_calls.specs.declared.calls.SwiftReply.TheVariants.{Head, Bytes}
use Rattle.http_answers.specs.Fields.{at_most_one, needed, plain_number}
use Rattle.swift_replies.specs.Fields.{head_in, size_behind, whole_size_in}
use Rattle.http_answers.specs.Framing.{expected, is_bodiless}
use Rattle.swift_replies.specs.Answers.{Said, asks_head, sized_bytes_reply, is_part, reply_of, SpellsAnswer}
use Rattle.swift_replies.specs.AnswerText.{Sent, answer_text, bytes_by, head_by, head_text, is_head, is_spelled, phrase_of, range_text, sent_text, text_by, within_limit}
use Rattle.swift_replies.proofs.lemmas.CutLemmas.{Lacks, after_at, weaker}
use Rattle.text_forms.proofs.lemmas.Decimals.{decimal_digits}
use Rattle.http_answers.proofs.lemmas.NumberLemmas.{plain_decimal}
use Rattle.swift_replies.proofs.SentLemmas.{part_fits}
use Rattle.swift_replies.proofs.lemmas.HeadFields.{expected_back, fields, head_back, is_range, length_back, part_fields, range_given, sendable, size_fits, whole_fields}
use Rattle.swift_replies.proofs.lemmas.ReadBack.{lowered, written_spells}
use Rattle.swift_replies.proofs.lemmas.ValueRows.{decimal_trimmed, limit_of}

-- ---- an answer with the headers of an object

-- what an answer with such headers says
abbrev said_of : ℕ → ℕ → StoredHead → Option (List ℕ) → List ℕ → Said
said_of status count head range body = record { status = status; headers = map lowered (fields count head range); body = body }

-- such an answer spells the reply that its parts give
object_spells : (call : SwiftRequest) (reply : SwiftReply) (s : Sent) (count : ℕ) (head : StoredHead) (range : Option (List ℕ))
    → is_status_line 1 s.status (phrase_of s.status) ≡ true → s.headers ≡ fields count head range → count < 10 ^ 19 → is_head head ≡ true
    → is_range range ≡ true → length (head_text s) ≤ 65536
    → (if is_bodiless (asks_head call) s.status then Some 0 else Some count) ≡ Some (length s.body)
    → reply_of call (said_of s.status count head range s.body) ≡ Some reply → SpellsAnswer call reply (sent_text s)
object_spells call reply s count head range line same small fine trimmed short size gives =
    written_spells call reply s line (ap are_headers same ∙ sendable count head range small fine trimmed) short
    (ap (λ hs. expected (asks_head call) s.status (map lowered hs)) same ∙ expected_back (asks_head call) s.status count head range small ∙ size)
    (ap (λ hs. reply_of call (record { status = s.status; headers = map lowered hs; body = s.body })) same ∙ gives)

-- ---- a head

head_gives : (container name : List ℕ) (head : StoredHead) → is_head head ≡ true
    → reply_of (HeadObject container name) (said_of 200 head.size head None []) ≡ Some (Head head)
head_gives container name head fine =
    let hs = map lowered (fields head.size head None) in
    ap (λ size. option_map (λ h. Head h) (head_in size hs)) (length_back head.size head None (size_fits head fine))
    ∙ ap (option_map (λ h. Head h)) (head_back head.size head None fine)

pub head_reads_back : (container name : List ℕ) (head : StoredHead) → is_spelled (HeadObject container name) (Head head) ≡ true
    → SpellsAnswer (HeadObject container name) (Head head) (answer_text (HeadObject container name) (Head head))
head_reads_back container name head spelled = by_head (is_head head) refl spelled
  where
    call : SwiftRequest
    call = HeadObject container name

    by_head : (b : Bool) → is_head head ≡ b → is_some (if b then within_limit (head_by head) else None) ≡ true
        → SpellsAnswer call (Head head) (text_by (if b then within_limit (head_by head) else None))
    by_head true fine some =
        limit_of (head_by head) (SpellsAnswer call (Head head)) some
        (λ short. object_spells call (Head head) (head_by head) head.size head None refl (whole_fields head.size head) (size_fits head fine) fine refl short refl
        (head_gives container name head fine))
    by_head false other some = absurd (false≢true some)

-- ---- the whole of an object

whole_gives : (container name : List ℕ) (head : StoredHead) (body : List ℕ) → is_part None head.size (length body) ≡ true → is_head head ≡ true
    → reply_of (GetObject container name None) (said_of 200 (length body) head None body) ≡ Some (Bytes head body)
whole_gives container name head body whole fine =
    let hs = map lowered (fields (length body) head None) in
    let same : length body ≡ head.size = eqb-true (length body) head.size whole in
    let small : length body < 10 ^ 19 = omega (arith, same, size_fits head fine) in
    ap (λ size. sized_bytes_reply None (head_in size hs) body) (length_back (length body) head None small ∙ ap (λ size. Some size) same)
    ∙ ap (λ h. sized_bytes_reply None h body) (head_back (length body) head None fine) ∙ ap (λ b. if b then Some (Bytes head body) else None) whole

-- ---- a range of it

digit_value : (b : ℕ) → is_digit b ≡ true → is_value_byte b ≡ true
digit_value b digit = grind (arith, nat_tests)

digit_no_slash : (b : ℕ) → is_digit b ≡ true → not (is_slash b) ≡ true
digit_no_slash b digit = grind (arith, nat_tests)

-- the value of Content-Range before its slash
abbrev places_text : ℕ → ℕ → List ℕ
places_text first last = codes "bytes " ++ decimal first ++ codes "-" ++ decimal last

places_pass : (p : ℕ → Bool) → ((b : ℕ) → is_digit b ≡ true → p b ≡ true) → list_all p (codes "bytes ") ≡ true → list_all p (codes "-") ≡ true
    → (first last : ℕ) → first < 2 ^ 64 → last < 2 ^ 64 → list_all p (places_text first last) ≡ true
places_pass p step unit dash first last low high =
    let front = weaker is_digit p step (decimal first) (decimal_digits first low) in
    let back = weaker is_digit p step (decimal last) (decimal_digits last high) in
    list_all-append p (codes "bytes " ++ decimal first ++ codes "-") (decimal last)
    ∙ and_from _ _ (list_all-append p (codes "bytes " ++ decimal first) (codes "-")
    ∙ and_from _ _ (list_all-append p (codes "bytes ") (decimal first) ∙ and_from _ _ unit front) dash) back

-- the size of the whole object is read behind the slash
size_read : (first count size : ℕ) → first < 2 ^ 64 → first + count - 1 < 2 ^ 64 → size < 10 ^ 19 → size_behind (range_text first count size) ≡ Some size
size_read first count size low high small =
    let places = places_text first (first + count - 1) in
    let lacks : Lacks is_slash places = places_pass (λ b. not (is_slash b)) digit_no_slash refl refl first (first + count - 1) low high in
    ap size_behind (append_assoc places (codes "/") (decimal size)) ∙ ap plain_number (after_at is_slash places (decimal size) 47 refl lacks)
    ∙ plain_decimal size small

starts_front : (front back : List ℕ) → 0 < length front → starts_visible front ≡ true → starts_visible (front ++ back) ≡ true
starts_front [] back some fine = absurd (omega (arith, some))
starts_front (b ∷ front) back some fine = fine

-- the value has no white space at either end
range_trimmed : (first count size : ℕ) → first < 2 ^ 64 → first + count - 1 < 2 ^ 64 → size < 10 ^ 19 → is_trimmed_value (range_text first count size) ≡ true
range_trimmed first count size low high small =
    let front = places_text first (first + count - 1) ++ codes "/" in
    let digits = decimal size in
    let fits : size < 2 ^ 64 = omega (arith, small) in
    let some : 0 < length (reverse digits) = omega (arith, length-reverse digits, decimal_nonempty size fits) in
    let ends = (and_parts (starts_visible (reverse digits)) (list_all is_value_byte digits)
    (and_parts (starts_visible digits) (starts_visible (reverse digits) && list_all is_value_byte digits) (decimal_trimmed size fits)).1) in
    let values : list_all is_value_byte (front ++ digits) ≡ true =
    list_all-append is_value_byte front digits
    ∙ and_from _ _ (list_all-append is_value_byte (places_text first (first + count - 1)) (codes "/")
    ∙ and_from _ _ (places_pass is_value_byte digit_value refl refl first (first + count - 1) low high) refl) ends.1 in
    and_from _ _ refl (and_from _ _ (ap starts_visible (reverse-append front digits) ∙ starts_front (reverse digits) (reverse front) some ends.0) values)

part_gives : (container name : List ℕ) (range : ℕ × ℕ) (head : StoredHead) (body : List ℕ) → is_part (Some range) head.size (length body) ≡ true
    → is_head head ≡ true → reply_of (GetObject container name (Some range)) (said_of 206 (length body) head (Some (range_text range.0 (length body) head.size)) body) ≡ Some (Bytes head body)
part_gives container name range head body part fine =
    let text = range_text range.0 (length body) head.size in
    let hs = map lowered (fields (length body) head (Some text)) in
    let within : range.0 + length body ≤ head.size = part_fits range head.size (length body) part in
    let small : head.size < 10 ^ 19 = size_fits head fine in
    let size : whole_size_in hs ≡ Some head.size =
    ap (λ v. option_and_then size_behind (needed (at_most_one v))) (range_given (length body) head text)
    ∙ size_read range.0 (length body) head.size (omega (arith, within, small)) (omega (arith, within, small)) small in
    ap (λ n. sized_bytes_reply (Some range) (head_in n hs) body) size ∙ ap (λ h. sized_bytes_reply (Some range) h body) (head_back (length body) head (Some text) fine)
    ∙ ap (λ b. if b then Some (Bytes head body) else None) part

-- ---- the bytes of an object

bytes_spell : (container name : List ℕ) (range : Option (ℕ × ℕ)) (head : StoredHead) (body : List ℕ) → is_part range head.size (length body) ≡ true
    → is_head head ≡ true → length (head_text (bytes_by range head body)) ≤ 65536
    → SpellsAnswer (GetObject container name range) (Bytes head body) (sent_text (bytes_by range head body))
bytes_spell container name None head body whole fine short =
    let same : length body ≡ head.size = eqb-true (length body) head.size whole in
    object_spells (GetObject container name None) (Bytes head body) (bytes_by None head body) (length body) head None refl (whole_fields (length body) head)
    (omega (arith, same, size_fits head fine)) fine refl short refl (whole_gives container name head body whole fine)
bytes_spell container name (Some range) head body part fine short =
    let text = range_text range.0 (length body) head.size in
    let within : range.0 + length body ≤ head.size = part_fits range head.size (length body) part in
    let small : head.size < 10 ^ 19 = size_fits head fine in
    object_spells (GetObject container name (Some range)) (Bytes head body) (bytes_by (Some range) head body) (length body) head (Some text) refl
    (part_fields (length body) head text) (omega (arith, within, small)) fine
    (range_trimmed range.0 (length body) head.size (omega (arith, within, small)) (omega (arith, within, small)) small) short refl
    (part_gives container name range head body part fine)

pub bytes_read_back : (container name : List ℕ) (range : Option (ℕ × ℕ)) (head : StoredHead) (body : List ℕ)
    → is_spelled (GetObject container name range) (Bytes head body) ≡ true
    → SpellsAnswer (GetObject container name range) (Bytes head body) (answer_text (GetObject container name range) (Bytes head body))
bytes_read_back container name range head body spelled = by_test (is_part range head.size (length body) && is_head head) refl spelled
  where
    call : SwiftRequest
    call = GetObject container name range

    s : Sent
    s = bytes_by range head body

    by_test : (b : Bool) → (is_part range head.size (length body) && is_head head) ≡ b → is_some (if b then within_limit s else None) ≡ true
        → SpellsAnswer call (Bytes head body) (text_by (if b then within_limit s else None))
    by_test true fine some =
        let parts = and_parts (is_part range head.size (length body)) (is_head head) fine in
        limit_of s (SpellsAnswer call (Bytes head body)) some (bytes_spell container name range head body parts.0 parts.1)
    by_test false other some = absurd (false≢true some)
