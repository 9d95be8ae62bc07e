-- The replies that tell an object within the limits of calls have a spelling: their heads are far shorter than 65,536 bytes.
use Rattle.std.proofs.Common.{◌≡◌, ℕ, ◌+◌, ◌-◌, ◌^◌, ◌<◌, ◌≤◌, Bool, true, false, ◌&&◌, List, [], ◌∷◌, ◌++◌, length, Some, None, Option, refl, ap, ◌∙◌, arith, length-append}
use Rattle.std.specs.Prelude.{codes, decimal, nat_le, is_some, if◌then◌else◌}
use Rattle.std.specs.List.{list_all}
use Rattle.std.proofs.lemmas.Bool.{and_parts, and_from, le-leb, lt-ltb, eqb-true}
use Rattle.std.proofs.lemmas.List.Elements.{All-weaker}
use Rattle.std.proofs.lemmas.List.Sums.{AllPass-from_list_all, list_all-from_AllPass}
use Rattle.http1.specs.Head.{is_trimmed_value, print_header, print_headers}
use Rattle.httparse.specs.Ascii.{crlf_bytes}
use Rattle.gate_base.specs.Fields.{is_field}
use Rattle.swift_calls.specs.Limits.{is_content_type, is_meta as is_put_meta}
use Rattle.swift_calls.specs.declared.heads.StoredHead.{StoredHead}
use Rattle.swift_replies.specs.Answers.{is_part}
use Rattle.swift_replies.specs.AnswerText.{Sent, status_line, head_text, within_limit, length_field, etag_field, is_tag, stored_by, stored_sent, meta_fields, manifest_fields, object_fields, is_meta, is_head, head_by, head_sent, range_text, range_field, bytes_by, bytes_sent}
use Rattle.swift_replies.proofs.lemmas.GoodFields.{value_trimmed}
use Rattle.swift_replies.proofs.lemmas.Sizes.{few}
use Rattle.swift_replies.proofs.SentLemmas.{part_fits}
use Rattle.swift_replies.proofs.lemmas.Sizes.{decimal_size, header_size, headers_size, joined_size, meta_size, one_size, value_most}

-- the head of an object whose content type and metadata are within the limits of a call
pub record IsSmallHead (head : StoredHead) : Type 0 where
  pub content_type : is_content_type head.content_type ≡ true
  pub tag : is_tag head.etag ≡ true
  pub etag : length head.etag ≤ 32
  pub size : head.size < 10 ^ 19
  pub meta : is_put_meta head.meta ≡ true

-- ---- sizes

manifest_size : (manifest : Bool) → length (print_headers (manifest_fields manifest)) ≤ 40
manifest_size true = omega (arith, one_size (codes "X-Static-Large-Object") (codes "True"))
manifest_size false = omega arith

object_size : (head : StoredHead) → IsSmallHead head → length (print_headers (object_fields head)) ≤ 4000
object_size head small =
    let tail = manifest_fields head.manifest ++ meta_fields 0 head.meta in
    let count = few head.meta small.meta in
    let pieces = meta_size 0 head.meta (omega (arith, count)) (and_parts _ (list_all (is_field 256) head.meta) small.meta).1 in
    omega (
      arith,
      headers_size (codes "Content-Type", head.content_type) (etag_field head.etag ∷ tail),
      header_size (codes "Content-Type") head.content_type,
      value_most 512 head.content_type small.content_type,
      headers_size (etag_field head.etag) tail,
      header_size (codes "Etag") head.etag,
      small.etag,
      joined_size (manifest_fields head.manifest) (meta_fields 0 head.meta),
      manifest_size head.manifest,
      pieces,
      count,
    )

length_size : (count : ℕ) → count < 10 ^ 19 → length (print_header (length_field count)) ≤ 37
length_size count below = omega (arith, header_size (codes "Content-Length") (decimal count), decimal_size count below)

range_size : (first count size : ℕ) → first + count ≤ size → size < 10 ^ 19 → length (range_text first count size) ≤ 70
range_size first count size within below =
    let a = length-append (codes "bytes ") (decimal first) in
    let b = length-append (codes "bytes " ++ decimal first) (codes "-") in
    let c = length-append (codes "bytes " ++ decimal first ++ codes "-") (decimal (first + count - 1)) in
    let d = length-append (codes "bytes " ++ decimal first ++ codes "-" ++ decimal (first + count - 1)) (codes "/") in
    let e = length-append (codes "bytes " ++ decimal first ++ codes "-" ++ decimal (first + count - 1) ++ codes "/") (decimal size) in
    omega (
      arith,
      a,
      b,
      c,
      d,
      e,
      decimal_size first (omega (arith, within, below)),
      decimal_size (first + count - 1) (omega (arith, within, below)),
      decimal_size size below,
    )

-- ---- heads

sent_if : (b : Bool) (sent : Option Sent) → b ≡ true → is_some sent ≡ true → is_some (if b then sent else None) ≡ true
sent_if b sent is some = ap (λ v. is_some (if v then sent else None)) is ∙ some

near : (s : Sent) → length (status_line s.status) ≤ 100 → length (print_headers s.headers) ≤ 60000 → is_some (within_limit s) ≡ true
near s line fields =
    let a = length-append (status_line s.status) (print_headers s.headers ++ crlf_bytes) in
    let b = length-append (print_headers s.headers) crlf_bytes in
    sent_if (nat_le (length (head_text s)) 65536) (Some s) (le-leb (length (head_text s)) 65536 (omega (arith, line, fields, a, b))) refl

head_within : (head : StoredHead) → IsSmallHead head → is_some (within_limit (head_by head)) ≡ true
head_within head small =
    near (head_by head) (omega arith)
    (omega (arith, headers_size (length_field head.size) (object_fields head), length_size head.size small.size, object_size head small))

whole_within : (head : StoredHead) (body : List ℕ) → IsSmallHead head → length body < 10 ^ 19 → is_some (within_limit (bytes_by None head body)) ≡ true
whole_within head body small below =
    near (bytes_by None head body) (omega arith)
    (omega (arith, headers_size (length_field (length body)) (object_fields head), length_size (length body) below, object_size head small))

part_within : (head : StoredHead) (range : ℕ × ℕ) (body : List ℕ) → IsSmallHead head → range.0 + length body ≤ head.size
    → is_some (within_limit (bytes_by (Some range) head body)) ≡ true
part_within head range body small within =
    near (bytes_by (Some range) head body) (omega arith)
    (omega (
      arith,
      headers_size (length_field (length body)) (object_fields head ++ range_field range head body ∷ []),
      length_size (length body) (omega (arith, within, small.size)),
      joined_size (object_fields head) (range_field range head body ∷ []),
      object_size head small,
      one_size (codes "Content-Range") (range_text range.0 (length body) head.size),
      range_size range.0 (length body) head.size within small.size,
    ))

-- ---- values

meta_read : (pieces : List (List ℕ)) → is_put_meta pieces ≡ true → is_meta pieces ≡ true
meta_read pieces is =
    let parts = and_parts (nat_le (length pieces) 11) (list_all (is_field 256) pieces) is in
    and_from _ _ parts.0
    (list_all-from_AllPass is_trimmed_value pieces
    (All-weaker (λ p. is_field 256 p ≡ true) (λ p. is_trimmed_value p ≡ true) (λ p fits. value_trimmed 256 p fits) pieces
    (AllPass-from_list_all (is_field 256) pieces parts.1)))

head_read : (head : StoredHead) → IsSmallHead head → is_head head ≡ true
head_read head small =
    and_from _ _ (value_trimmed 512 head.content_type small.content_type)
    (and_from _ _ small.tag (and_from _ _ (lt-ltb head.size (10 ^ 19) small.size) (meta_read head.meta small.meta)))

-- ---- replies

pub stored_spelled : (etag : List ℕ) → is_tag etag ≡ true → length etag ≤ 32 → is_some (stored_sent etag) ≡ true
stored_spelled etag tag size =
    sent_if (is_tag etag) (within_limit (stored_by etag)) tag
    (near (stored_by etag) (omega arith)
    (omega (arith, headers_size (length_field 0) (etag_field etag ∷ []), length_size 0 (omega arith), one_size (codes "Etag") etag, size)))

pub head_spelled : (head : StoredHead) → IsSmallHead head → is_some (head_sent head) ≡ true
head_spelled head small = sent_if (is_head head) (within_limit (head_by head)) (head_read head small) (head_within head small)

pub bytes_spelled : (range : Option (ℕ × ℕ)) (head : StoredHead) (body : List ℕ) → IsSmallHead head → is_part range head.size (length body) ≡ true
    → is_some (bytes_sent range head body) ≡ true
bytes_spelled None head body small is =
    let same = eqb-true (length body) head.size is in
    sent_if (is_part None head.size (length body) && is_head head) (within_limit (bytes_by None head body)) (and_from _ _ is (head_read head small))
    (whole_within head body small (omega (arith, same, small.size)))
bytes_spelled (Some range) head body small is =
    sent_if (is_part (Some range) head.size (length body) && is_head head) (within_limit (bytes_by (Some range) head body)) (and_from _ _ is (head_read head small))
    (part_within head range body small (part_fits range head.size (length body) is))
