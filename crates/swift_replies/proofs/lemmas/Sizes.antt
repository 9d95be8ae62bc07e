-- The sizes of headers as they are written.
use Rattle.std.proofs.Common.{◌≡◌, ℕ, ◌+◌, ◌-◌, ◌*◌, ◌^◌, ◌<◌, ◌≤◌, true, not, List, [], ◌∷◌, ◌++◌, length, ap, ◌∙◌, arith, length-append}
use Rattle.std.specs.Prelude.{codes, decimal, nat_le, nat_eq, slice_index, IsTrue}
use Rattle.std.specs.List.{list_all}
use Rattle.std.proofs.lemmas.Bool.{and_parts}
use Rattle.std.proofs.lemmas.Bool.Decides.{nat_tests}
use Rattle.std.proofs.lemmas.Fmt.{length-decimal-le}
use Rattle.std.proofs.lemmas.Grind.{flat_map-append}
use Rattle.http1.specs.Fields.{Header}
use Rattle.http1.specs.Head.{print_header, print_headers}
use Rattle.httparse.specs.Ascii.{crlf_bytes}
use Rattle.gate_base.specs.Fields.{is_printable, is_field}
use Rattle.swift_calls.specs.Limits.{is_meta}
use Rattle.swift_replies.specs.AnswerText.{meta_fields}

pub header_size : (name value : List ℕ) → length (print_header (name, value)) ≡ length name + length value + 4
header_size name value =
    let outer : length (print_header (name, value)) ≡ length (name ++ 58 ∷ (32 ∷ value)) + 2 = length-append (name ++ 58 ∷ (32 ∷ value)) crlf_bytes in
    omega (arith, outer, length-append name (58 ∷ (32 ∷ value)))

pub headers_size : (h : Header) (fields : List Header) → length (print_headers (h ∷ fields)) ≡ length (print_header h) + length (print_headers fields)
headers_size h fields = length-append (print_header h) (print_headers fields)

pub joined_size : (a b : List Header) → length (print_headers (a ++ b)) ≡ length (print_headers a) + length (print_headers b)
joined_size a b = ap length (flat_map-append print_header a b) ∙ length-append (print_headers a) (print_headers b)

pub one_size : (name value : List ℕ) → length (print_headers ((name, value) ∷ [])) ≡ length name + length value + 4
one_size name value = omega (arith, headers_size (name, value) [], header_size name value)

-- a number of at most 19 digits
pub decimal_size : (n : ℕ) → n < 10 ^ 19 → length (decimal n) ≤ 19
decimal_size n small = length-decimal-le 19 n (omega arith) small (omega arith)

-- a value within its limit
pub value_most : (most : ℕ) (text : List ℕ) → is_field most text ≡ true → length text ≤ most
value_most most text is =
    let last = and_parts _ (not (nat_eq (slice_index text (length text - 1)) 32)) is in
    let first = and_parts _ (not (nat_eq (slice_index text 0) 32)) last.0 in
    let all = and_parts _ (list_all is_printable text) first.0 in
    let second = (and_parts (nat_le 1 (length text)) (nat_le (length text) most) all.0).1 in grind (arith, nat_tests, second)

pub few : (meta : List (List ℕ)) → IsTrue (is_meta meta) → length meta ≤ 11
few meta is = let first = and_parts (nat_le (length meta) 11) _ is in grind (arith, nat_tests, first.0)

-- pieces of metadata
pub meta_size : (index : ℕ) (pieces : List (List ℕ)) → index + length pieces < 1000 → list_all (is_field 256) pieces ≡ true
    → length (print_headers (meta_fields index pieces)) ≤ 296 * length pieces
meta_size index [] fits all = omega arith
meta_size index (piece ∷ pieces) fits all =
    let parts = and_parts (is_field 256 piece) (list_all (is_field 256) pieces) all in
    let rest = meta_size (index + 1) pieces (omega (arith, fits)) parts.1 in
    let one = headers_size (codes "X-Object-Meta-S3-" ++ decimal index, piece) (meta_fields (index + 1) pieces) in
    let size = header_size (codes "X-Object-Meta-S3-" ++ decimal index) piece in
    let name = length-append (codes "X-Object-Meta-S3-") (decimal index) in
    omega (arith, rest, one, size, name, decimal_size index (omega (arith, fits)), value_most 256 piece parts.0)
