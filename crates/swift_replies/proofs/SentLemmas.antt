-- The text of an answer, part by part.
use Rattle.std.proofs.Common.{◌≡◌, ℕ, ◌+◌, ◌-◌, ◌<◌, Bool, true, false, Option, Some, None, ◌≤◌, List, [], ◌∷◌, ◌++◌, length, take, get_or, codes, refl, sym, ap, ◌∙◌, append_assoc, append-nil, arith}
use Rattle.std.specs.Prelude.{decimal, nat_le, nat_lt, min, if◌then◌else◌}
use Rattle.std.proofs.lemmas.Bool.{and_parts, ltb-true, eqb-true}
use Rattle.std.proofs.lemmas.Bool.Decides.{nat_tests}
use Rattle.swift_calls.specs.declared.account.ReadList.{ReadList}
use Rattle.swift_calls.specs.declared.heads.StoredHead.{StoredHead}
use Rattle.swift_replies.specs.Answers.{is_part}
use Rattle.std.proofs.lemmas.Grind.{flat_map-append}
use Rattle.std.proofs.lemmas.List.{take_more, length-take-le}
use Rattle.httparse.proofs.GrammarLemmas.{cons-append}
use Rattle.http1.specs.Head.{print_header, print_headers, section_text, status_digits}
use Rattle.swift_replies.specs.AnswerText.{Field, Sent, meta_fields, head_text, line_of, status_line, phrase_of, within_limit, text_by, refusal, length_field, readers_text, readers_fields, readers_sent, created_fields, is_spelled_created, etag_field, is_tag, stored_by, stored_sent, manifest_fields, object_fields, is_head, head_by, head_sent, bytes_by, range_text, range_field}

-- one header behind a text
pub one_header : (text : List ℕ) (h : Field) → text ++ print_header h ≡ text ++ print_headers (h ∷ [])
one_header text h = ap (λ v. text ++ v) (sym (append-nil (print_header h)))

-- the headers before and those behind
pub join_headers : (text : List ℕ) (a b : List Field) → (text ++ print_headers a) ++ print_headers b ≡ text ++ print_headers (a ++ b)
join_headers text a b = append_assoc text (print_headers a) (print_headers b) ∙ ap (λ v. text ++ v) (sym (flat_map-append print_header a b))

-- one header, and those behind it
pub header_first : (text : List ℕ) (h : Field) (b : List Field) → (text ++ print_header h) ++ print_headers b ≡ text ++ print_headers (h ∷ b)
header_first text h b = append_assoc text (print_header h) (print_headers b)

-- headers, and one behind them
pub header_last : (text : List ℕ) (a : List Field) (h : Field) → (text ++ print_headers a) ++ print_header h ≡ text ++ print_headers (a ++ h ∷ [])
header_last text a h = one_header (text ++ print_headers a) h ∙ join_headers text a (h ∷ [])

-- a name, `: `, a value and the line's end
pub header_is : (text name value : List ℕ) → (((text ++ name) ++ codes ": ") ++ value) ++ 13 ∷ 10 ∷ [] ≡ text ++ print_header (name, value)
header_is text name value = simp (append_assoc)

status_parts : (text digits phrase : List ℕ)
    → (((text ++ codes "HTTP/1.1 ") ++ digits ++ 32 ∷ []) ++ phrase) ++ 13 ∷ 10 ∷ [] ≡ text ++ line_of digits phrase
status_parts text digits phrase = simp (append_assoc, cons-append)

line_is : (text digits phrase a b c d : List ℕ) → a ≡ text ++ codes "HTTP/1.1 " → b ≡ a ++ digits ++ 32 ∷ []
    → c ≡ b ++ phrase → d ≡ c ++ 13 ∷ 10 ∷ [] → d ≡ text ++ line_of digits phrase
line_is text digits phrase a b c d one two three four =
    four ∙ ap (λ v. v ++ 13 ∷ 10 ∷ []) (three ∙ ap (λ v. v ++ phrase) (two ∙ ap (λ v. v ++ digits ++ 32 ∷ []) one))
    ∙ status_parts text digits phrase

-- a status line, in turn
pub status_is : (status : ℕ) (text phrase a b c d : List ℕ) → a ≡ text ++ codes "HTTP/1.1 " → b ≡ a ++ status_digits status ++ 32 ∷ []
    → phrase ≡ phrase_of status → c ≡ b ++ phrase → d ≡ c ++ 13 ∷ 10 ∷ [] → d ≡ text ++ status_line status
status_is status text phrase a b c d one two is three four =
    line_is text (status_digits status) phrase a b c d one two three four ∙ ap (λ v. text ++ line_of (status_digits status) v) is

-- a header of the same value
pub same_header : (text name value other : List ℕ) → value ≡ other → text ++ print_header (name, value) ≡ text ++ print_header (name, other)
same_header text name value other same = ap (λ v. text ++ print_header (name, v)) same

pub same_meta : (text : List ℕ) (pieces others : List (List ℕ)) → pieces ≡ others
    → text ++ print_headers (meta_fields 0 pieces) ≡ text ++ print_headers (meta_fields 0 others)
same_meta text pieces others same = ap (λ v. text ++ print_headers (meta_fields 0 v)) same

pub piece_is : (text digits value : List ℕ)
    → ((((text ++ codes "X-Object-Meta-S3-") ++ digits) ++ codes ": ") ++ value) ++ 13 ∷ 10 ∷ [] ≡ text ++ print_header (codes "X-Object-Meta-S3-" ++ digits, value)
piece_is text digits value = simp (append_assoc)

abbrev pub piece_field : ℕ → List ℕ → Field
piece_field i piece = (codes "X-Object-Meta-S3-" ++ decimal i, piece)

meta_push : (i : ℕ) (pieces : List (List ℕ)) (piece : List ℕ)
    → meta_fields i (pieces ++ piece ∷ []) ≡ meta_fields i pieces ++ (codes "X-Object-Meta-S3-" ++ decimal (i + length pieces), piece) ∷ []
meta_push i [] piece =
    let e : i ≡ i + 0 = omega arith in ap (λ k. (codes "X-Object-Meta-S3-" ++ decimal k, piece) ∷ []) e
meta_push i (first ∷ pieces) piece =
    let e : i + 1 + length pieces ≡ i + length (first ∷ pieces) = omega arith in
    ap (λ fields. (codes "X-Object-Meta-S3-" ++ decimal i, first) ∷ fields)
    (meta_push (i + 1) pieces piece ∙ ap (λ k. meta_fields (i + 1) pieces ++ (codes "X-Object-Meta-S3-" ++ decimal k, piece) ∷ []) e)

-- one piece more
pub meta_more : (old text : List ℕ) (pieces : List (List ℕ)) (i : ℕ) (piece : List ℕ) → i < length pieces → piece ≡ get_or pieces i piece
    → text ≡ old ++ print_headers (meta_fields 0 (take i pieces))
    → text ++ print_header (piece_field i piece) ≡ old ++ print_headers (meta_fields 0 (take (i + 1) pieces))
meta_more old text pieces i piece within same upto =
    let front = take i pieces in
    let count : 0 + length front ≡ i = omega (arith, length-take-le i pieces (omega (arith, within))) in
    let all : meta_fields 0 (take (i + 1) pieces) ≡ meta_fields 0 front ++ piece_field i piece ∷ [] =
    ap (meta_fields 0) (take_more pieces i piece within ∙ ap (λ v. front ++ v ∷ []) (sym same))
    ∙ meta_push 0 front piece ∙ ap (λ k. meta_fields 0 front ++ piece_field k piece ∷ []) count in
    ap (λ v. v ++ print_header (piece_field i piece)) upto ∙ header_last old (meta_fields 0 front) (piece_field i piece) ∙ ap (λ v. old ++ print_headers v) (sym all)

-- the empty line and the body
pub sent_parts : (line : List ℕ) (hs : List Field) (body : List ℕ) → ((line ++ print_headers hs) ++ 13 ∷ 10 ∷ []) ++ body ≡ section_text line hs ++ body
sent_parts line hs body = ap (λ v. v ++ body) (append_assoc line (print_headers hs) (13 ∷ 10 ∷ []))

-- ---- rows

-- a head, if it isn't too long, and the body
abbrev pub limited : List ℕ → List ℕ → List ℕ
limited head body = if nat_le (length (head ++ 13 ∷ 10 ∷ [])) 65536 then (head ++ 13 ∷ 10 ∷ []) ++ body else refusal 500

limited_by : (b : Bool) (s : Sent) → (if b then head_text s ++ s.body else refusal 500) ≡ text_by (if b then Some s else None)
limited_by true s = refl
limited_by false s = refl

limited_is : (head : List ℕ) (s : Sent) → head ≡ status_line s.status ++ print_headers s.headers → limited head s.body ≡ text_by (within_limit s)
limited_is head s is =
    let whole : head ++ 13 ∷ 10 ∷ [] ≡ head_text s =
    ap (λ v. v ++ 13 ∷ 10 ∷ []) is ∙ append_assoc (status_line s.status) (print_headers s.headers) (13 ∷ 10 ∷ []) in
    ap (λ v. if nat_le (length v) 65536 then v ++ s.body else refusal 500) whole ∙ limited_by (nat_le (length (head_text s)) 65536) s

if_true : (b : Bool) (o : Option Sent) → b ≡ true → text_by o ≡ text_by (if b then o else None)
if_true b o is = ap (λ v. text_by (if v then o else None)) (sym is)

if_false : (b : Bool) (o : Option Sent) → b ≡ false → refusal 500 ≡ text_by (if b then o else None)
if_false b o is = ap (λ v. text_by (if v then o else None)) (sym is)

pub readers_is : (readers : ReadList) (created : Option ℕ) (first second third last : List ℕ) → is_spelled_created created ≡ true
    → first ≡ status_line 204 ++ print_headers (length_field 0 ∷ [])
    → second ≡ first ++ print_header (codes "X-Container-Read", readers_text readers) → third ≡ second ++ print_headers (created_fields created)
    → last ≡ (third ++ 13 ∷ 10 ∷ []) ++ [] → last ≡ text_by (readers_sent readers created)
readers_is readers created first second third last fine one two three four =
    let line = status_line 204 in
    let head : third ≡ line ++ print_headers (readers_fields readers created) =
    three ∙ ap (λ v. v ++ print_headers (created_fields created)) (two ∙ ap (λ v. v ++ print_header (codes "X-Container-Read", readers_text readers)) one)
    ∙ header_first (line ++ print_headers (length_field 0 ∷ [])) (codes "X-Container-Read", readers_text readers) (created_fields created)
    ∙ join_headers line (length_field 0 ∷ []) ((codes "X-Container-Read", readers_text readers) ∷ created_fields created) in
    four ∙ ap (λ v. (v ++ 13 ∷ 10 ∷ []) ++ []) head ∙ sent_parts line (readers_fields readers created) []
    ∙ if_true (is_spelled_created created) (Some (record { status = 204; headers = readers_fields readers created; body = [] })) fine

pub stored_is : (etag first second last : List ℕ) → is_tag etag ≡ true → first ≡ status_line 201 ++ print_headers (length_field 0 ∷ [])
    → second ≡ first ++ print_header (codes "Etag", etag) → last ≡ limited second [] → last ≡ text_by (stored_sent etag)
stored_is etag first second last fine one two three =
    let head : second ≡ status_line 201 ++ print_headers (length_field 0 ∷ etag_field etag ∷ []) =
    two ∙ ap (λ v. v ++ print_header (etag_field etag)) one ∙ header_last (status_line 201) (length_field 0 ∷ []) (etag_field etag) in
    three ∙ limited_is second (stored_by etag) head ∙ if_true (is_tag etag) (within_limit (stored_by etag)) fine

-- the headers of an object, in turn
pub object_is : (old first second third last : List ℕ) (head : StoredHead) → first ≡ old ++ print_header (codes "Content-Type", head.content_type)
    → second ≡ first ++ print_header (codes "Etag", head.etag) → third ≡ second ++ print_headers (manifest_fields head.manifest)
    → last ≡ third ++ print_headers (meta_fields 0 head.meta) → last ≡ old ++ print_headers (object_fields head)
object_is old first second third last head one two three four =
    let tail = manifest_fields head.manifest ++ meta_fields 0 head.meta in
    four ∙ ap (λ v. v ++ print_headers (meta_fields 0 head.meta)) three ∙ join_headers second (manifest_fields head.manifest) (meta_fields 0 head.meta)
    ∙ ap (λ v. v ++ print_headers tail) (two ∙ ap (λ v. v ++ print_header (codes "Etag", head.etag)) one)
    ∙ header_first (old ++ print_header (codes "Content-Type", head.content_type)) (codes "Etag", head.etag) tail
    ∙ header_first old (codes "Content-Type", head.content_type) (etag_field head.etag ∷ tail)

object_head : (line first second : List ℕ) (l : Field) (head : StoredHead) → first ≡ line ++ print_headers (l ∷ [])
    → second ≡ first ++ print_headers (object_fields head) → second ≡ line ++ print_headers (l ∷ object_fields head)
object_head line first second l head one two =
    two ∙ ap (λ v. v ++ print_headers (object_fields head)) one ∙ join_headers line (l ∷ []) (object_fields head)

pub head_answer_is : (head : StoredHead) (first second last : List ℕ) → is_head head ≡ true
    → first ≡ status_line 200 ++ print_headers (length_field head.size ∷ []) → second ≡ first ++ print_headers (object_fields head)
    → last ≡ limited second [] → last ≡ text_by (head_sent head)
head_answer_is head first second last fine one two three =
    three ∙ limited_is second (head_by head) (object_head (status_line 200) first second (length_field head.size) head one two)
    ∙ if_true (is_head head) (within_limit (head_by head)) fine

pub whole_is : (head : StoredHead) (body first second last : List ℕ)
    → first ≡ status_line 200 ++ print_headers (length_field (length body) ∷ []) → second ≡ first ++ print_headers (object_fields head)
    → last ≡ limited second body → last ≡ text_by (within_limit (bytes_by None head body))
whole_is head body first second last one two three =
    three ∙ limited_is second (bytes_by None head body) (object_head (status_line 200) first second (length_field (length body)) head one two)

pub part_is : (head : StoredHead) (range : ℕ × ℕ) (body first second third last : List ℕ)
    → first ≡ status_line 206 ++ print_headers (length_field (length body) ∷ []) → second ≡ first ++ print_headers (object_fields head)
    → third ≡ second ++ print_header (codes "Content-Range", range_text range.0 (length body) head.size)
    → last ≡ limited third body → last ≡ text_by (within_limit (bytes_by (Some range) head body))
part_is head range body first second third last one two three four =
    let front = length_field (length body) ∷ object_fields head in
    let parts : third ≡ status_line 206 ++ print_headers (front ++ range_field range head body ∷ []) =
    three ∙ ap (λ v. v ++ print_header (range_field range head body)) (object_head (status_line 206) first second (length_field (length body)) head one two)
    ∙ header_last (status_line 206) front (range_field range head body) in
    four ∙ limited_is third (bytes_by (Some range) head body) parts

-- the value of Content-Range, in turn
pub range_is : (text from to size : List ℕ)
    → (((((text ++ codes "bytes ") ++ from) ++ codes "-") ++ to) ++ codes "/") ++ size ≡ text ++ codes "bytes " ++ from ++ codes "-" ++ to ++ codes "/" ++ size
range_is text from to size = simp (append_assoc, cons-append)

-- the bytes of a range end no later than the object
pub part_fits : (range : ℕ × ℕ) (size count : ℕ) → is_part (Some range) size count ≡ true → range.0 + count ≤ size
part_fits range size count is =
    let parts = and_parts (nat_lt range.0 size) _ is in
    let below : range.0 < size = ltb-true range.0 size parts.0 in
    let same : count ≡ min (range.1 + 1) size - range.0 = eqb-true count (min (range.1 + 1) size - range.0) parts.1 in
    grind (arith, nat_tests, below, same)
