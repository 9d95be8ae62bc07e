-- The request line of a call is accepted, and the head of a call is short.
use Rattle.std.proofs.Common.{◌≡◌, ℕ, suc, ◌+◌, ◌*◌, ◌/◌, ◌%◌, ◌^◌, ◌<◌, ◌≤◌, Bool, true, false, ◌&&◌, cond, List, [], ◌∷◌, ◌++◌, length, All, Some, None, Option, refl, ap, ◌∙◌, arith, length-append}
use Rattle.std.specs.Prelude.{codes, decimal, nat_lt, nat_le, IfSome, flat_map}
use Rattle.std.specs.List.{list_all}
use Rattle.std.specs.Char.{is_ascii_graphic}
use Rattle.std.proofs.lemmas.Bool.{and_parts, and_from, cond-true}
use Rattle.std.proofs.lemmas.Bool.Decides.{nat_tests}
use Rattle.std.proofs.lemmas.List.Folds.{list_all-append}
use Rattle.gate_base.specs.Ascii.{is_visible, is_digit}
use Rattle.http1.specs.Fields.{Header}
use Rattle.http1.specs.Head.{are_headers, is_request_line, head_refusal, request_text, print_header, print_headers}
use Rattle.httparse.specs.Ascii.{crlf_bytes}
use Rattle.httparse.specs.Grammar.{is_token, is_token_byte}
use Rattle.s3_names.specs.Escapes.{is_unreserved, stays_in_path, is_escaped_byte, upper_digit, escaped_unless, escaped_all, escaped_path}
use Rattle.s3_names.proofs.lemmas.EscapeLemmas.{escaped_bytes_all, escaped_bytes_path}
use Rattle.gate_base.specs.Fields.{is_field}
use Rattle.swift_calls.specs.Limits.{IsRange}
use Rattle.swift_calls.specs.Step.{IsMoment, Fit}
use Rattle.swift_calls.specs.declared.account.ReadList.{ReadList}
use Rattle.swift_calls.specs.declared.account.ReadList.TheVariants.{Nobody, Everybody}
use Rattle.swift_calls.specs.declared.calls.SwiftRequest.{SwiftRequest}
use Rattle.swift_calls.specs.declared.calls.SwiftRequest.TheVariants.{
  ListContainers,
  HeadContainer,
  PutContainer,
  PostContainer,
  DeleteContainer,
  ListNames,
  PutObject,
  PutManifest,
  HeadObject,
  GetObject,
  GetManifest,
  DeleteObject,
}
use Rattle.swift_replies.specs.AnswerText.{readers_text, created_fields, meta_fields}
use Rattle.swift_requests.specs.CallText.{method_text, target_text, account_text, container_text, object_text, listing_text, manifest_put, manifest_get, line_text, newest_fields, fresh_fields, own_fields, call_fields, body_of, range_fields}
use Rattle.swift_requests.specs.Place.{IsPlace, is_place_text}
use Rattle.swift_requests.specs.declared.place.Place.{Place}
use Rattle.swift_requests.proofs.AcceptLemmas.{fields_good, body_small}
use Rattle.swift_replies.proofs.lemmas.Sizes.{few, decimal_size, header_size, headers_size, joined_size, meta_size, value_most}
use Rattle.swift_requests.proofs.CallLemmas.{account_bytes, name_bytes, text_bytes}
use Rattle.swift_replies.proofs.lemmas.CutLemmas.{IsByte, weaker}
use Rattle.text_forms.proofs.lemmas.Decimals.{decimal_digits}
use Rattle.swift_requests.proofs.TextLemmas.{last_header, head_is}

-- ---- the request line

method_good : (call : SwiftRequest) → is_token (method_text call) ≡ true
unfolding is_token_byte
method_good (ListContainers marker limit) = refl
method_good (HeadContainer container) = refl
method_good (PutContainer container readers created) = refl
method_good (PostContainer container readers) = refl
method_good (DeleteContainer container) = refl
method_good (ListNames container prefix marker limit) = refl
method_good (PutObject put) = refl
method_good (PutManifest container name content_type meta segments) = refl
method_good (HeadObject container name) = refl
method_good (GetObject container name range) = refl
method_good (GetManifest container name) = refl
method_good (DeleteObject container name) = refl

Graphic : List ℕ → Type 0
Graphic text = list_all is_ascii_graphic text ≡ true

both_graphic : (front back : List ℕ) → Graphic front → Graphic back → Graphic (front ++ back)
unfolding Graphic
both_graphic front back one two = list_all-append is_ascii_graphic front back ∙ and_from _ _ one two

all_graphic_here : (b : ℕ) → is_escaped_byte is_unreserved b ≡ true → is_ascii_graphic b ≡ true
all_graphic_here b h = grind (arith, nat_tests)

path_graphic_here : (b : ℕ) → is_escaped_byte stays_in_path b ≡ true → is_ascii_graphic b ≡ true
path_graphic_here b h = grind (arith, nat_tests)

digit_graphic : (b : ℕ) → is_digit b ≡ true → is_ascii_graphic b ≡ true
digit_graphic b h = grind (arith, nat_tests)

all_graphic : (text : List ℕ) → All IsByte text → Graphic (escaped_all text)
unfolding Graphic
all_graphic text small = weaker (is_escaped_byte is_unreserved) is_ascii_graphic all_graphic_here (escaped_all text) (escaped_bytes_all text small)

path_graphic : (text : List ℕ) → All IsByte text → Graphic (escaped_path text)
unfolding Graphic
path_graphic text small = weaker (is_escaped_byte stays_in_path) is_ascii_graphic path_graphic_here (escaped_path text) (escaped_bytes_path text small)

decimal_graphic : (n : ℕ) → n < 2 ^ 64 → Graphic (decimal n)
unfolding Graphic
decimal_graphic n fits = weaker is_digit is_ascii_graphic digit_graphic (decimal n) (decimal_digits n fits)

record Words : Type 0 where
  version : Graphic (codes "/v1/")
  slash : Graphic (codes "/")
  asks : Graphic (codes "?format=json&limit=")
  marks : Graphic (codes "&marker=")
  begins : Graphic (codes "&prefix=")
  puts : Graphic manifest_put
  gets : Graphic manifest_get

words : Words
unfolding Graphic
words = record { version = refl; slash = refl; asks = refl; marks = refl; begins = refl; puts = refl; gets = refl }

account_graphic : (place : Place) → All IsByte place.account → Graphic (account_text place)
account_graphic place small = both_graphic (codes "/v1/") (escaped_all place.account) words.version (all_graphic place.account small)

container_graphic : (place : Place) (c : List ℕ) → All IsByte place.account → All IsByte c → Graphic (container_text place c)
container_graphic place c small little =
    both_graphic (account_text place ++ codes "/") (escaped_all c) (both_graphic (account_text place) (codes "/") (account_graphic place small) words.slash) (all_graphic c little)

object_graphic : (place : Place) (c n : List ℕ) → All IsByte place.account → All IsByte c → All IsByte n → Graphic (object_text place c n)
object_graphic place c n small little tiny =
    both_graphic (container_text place c ++ codes "/") (escaped_path n) (both_graphic (container_text place c) (codes "/") (container_graphic place c small little) words.slash) (path_graphic n tiny)

listing_graphic : (limit : ℕ) (marker : List ℕ) → limit < 2 ^ 64 → All IsByte marker → Graphic (listing_text limit marker)
listing_graphic limit marker fits small =
    both_graphic (codes "?format=json&limit=" ++ decimal limit ++ codes "&marker=") (escaped_all marker)
    (both_graphic (codes "?format=json&limit=" ++ decimal limit) (codes "&marker=")
    (both_graphic (codes "?format=json&limit=") (decimal limit) words.asks (decimal_graphic limit fits)) words.marks) (all_graphic marker small)

target_graphic : (place : Place) (call : SwiftRequest) → IsPlace place → Fit call → Graphic (target_text place call)
target_graphic place (ListContainers marker limit) is fit =
    both_graphic (account_text place) (listing_text limit marker) (account_graphic place (account_bytes place is))
    (listing_graphic limit marker (omega (arith, fit.1.1)) (text_bytes 1028 marker fit.0))
target_graphic place (HeadContainer c) is fit = container_graphic place c (account_bytes place is) (name_bytes c fit)
target_graphic place (PutContainer c readers created) is fit = container_graphic place c (account_bytes place is) (name_bytes c fit.0)
target_graphic place (PostContainer c readers) is fit = container_graphic place c (account_bytes place is) (name_bytes c fit)
target_graphic place (DeleteContainer c) is fit = container_graphic place c (account_bytes place is) (name_bytes c fit)
target_graphic place (ListNames c prefix marker limit) is fit =
    both_graphic (container_text place c ++ listing_text limit marker ++ codes "&prefix=") (escaped_all prefix)
    (both_graphic (container_text place c ++ listing_text limit marker) (codes "&prefix=")
    (both_graphic (container_text place c) (listing_text limit marker) (container_graphic place c (account_bytes place is) (name_bytes c fit.0))
    (listing_graphic limit marker (omega (arith, fit.3.1)) (text_bytes 1028 marker fit.2))) words.begins) (all_graphic prefix (text_bytes 1028 prefix fit.1))
target_graphic place (PutObject put) is fit =
    object_graphic place put.container put.name (account_bytes place is) (name_bytes put.container fit.0) (text_bytes 1024 put.name fit.1.1)
target_graphic place (PutManifest c n content_type meta segments) is fit =
    both_graphic (object_text place c n) manifest_put (object_graphic place c n (account_bytes place is) (name_bytes c fit.0) (text_bytes 1024 n fit.1.1)) words.puts
target_graphic place (HeadObject c n) is fit = object_graphic place c n (account_bytes place is) (name_bytes c fit.0) (text_bytes 1024 n fit.1.1)
target_graphic place (GetObject c n range) is fit = object_graphic place c n (account_bytes place is) (name_bytes c fit.0) (text_bytes 1024 n fit.1.1)
target_graphic place (GetManifest c n) is fit =
    both_graphic (object_text place c n) manifest_get (object_graphic place c n (account_bytes place is) (name_bytes c fit.0) (text_bytes 1024 n fit.1.1)) words.gets
target_graphic place (DeleteObject c n) is fit = object_graphic place c n (account_bytes place is) (name_bytes c fit.0) (text_bytes 1024 n fit.1.1)

-- ---- sizes

escaped_size : (stays : ℕ → Bool) (text : List ℕ) → length (flat_map (escaped_unless stays) text) ≤ 3 * length text
escaped_size stays [] = omega arith
escaped_size stays (b ∷ text) =
    let rest = escaped_size stays text in
    let first = one (stays b) in
    let sum = length-append (escaped_unless stays b) (flat_map (escaped_unless stays) text) in
    omega (arith, rest, first, sum)
  where
    one : (t : Bool) → length (cond t (b ∷ []) (37 ∷ upper_digit (b / 16) ∷ upper_digit (b % 16) ∷ [])) ≤ 3
    one true = omega arith
    one false = omega arith

all_size : (text : List ℕ) → length (escaped_all text) ≤ 3 * length text
unfolding escaped_all
all_size text = escaped_size is_unreserved text

path_size : (text : List ℕ) → length (escaped_path text) ≤ 3 * length text
unfolding escaped_path
path_size text = escaped_size stays_in_path text

pub text_most : (text : List ℕ) → is_place_text text ≡ true → length text ≤ 1024
text_most text is =
    let first = (and_parts _ (list_all is_visible text) is).0 in
    let second = (and_parts (nat_le 1 (length text)) (nat_le (length text) 1024) first).1 in grind (arith, nat_tests, second)

account_size : (place : Place) → length place.account ≤ 1024 → (4 ≤ length (account_text place)) × (length (account_text place) ≤ 3076)
account_size place most =
    let sum = length-append (codes "/v1/") (escaped_all place.account) in
    (omega (arith, sum), omega (arith, sum, all_size place.account, most))

container_size : (place : Place) (c : List ℕ) → length place.account ≤ 1024 → length c ≤ 256 → (4 ≤ length (container_text place c)) × (length (container_text place c) ≤ 3845)
container_size place c most few =
    let base = account_size place most in
    let one = length-append (account_text place) (codes "/") in
    let two = length-append (account_text place ++ codes "/") (escaped_all c) in
    (omega (arith, base.0, one, two), omega (arith, base.1, one, two, all_size c, few))

object_size : (place : Place) (c n : List ℕ) → length place.account ≤ 1024 → length c ≤ 256 → length n ≤ 1024
    → (4 ≤ length (object_text place c n)) × (length (object_text place c n) ≤ 6918)
object_size place c n most few some =
    let base = container_size place c most few in
    let one = length-append (container_text place c) (codes "/") in
    let two = length-append (container_text place c ++ codes "/") (escaped_path n) in
    (omega (arith, base.0, one, two), omega (arith, base.1, one, two, path_size n, some))

listing_size : (limit : ℕ) (marker : List ℕ) → limit ≤ 1001 → length marker ≤ 1028 → length (listing_text limit marker) ≤ 3130
listing_size limit marker low few =
    let one = length-append (codes "?format=json&limit=") (decimal limit) in
    let two = length-append (codes "?format=json&limit=" ++ decimal limit) (codes "&marker=") in
    let three = length-append (codes "?format=json&limit=" ++ decimal limit ++ codes "&marker=") (escaped_all marker) in
    omega (arith, one, two, three, decimal_size limit (omega (arith, low)), all_size marker, few)

-- ---- the fields of a call's own

created_size : (created : Option ℕ) → IfSome created IsMoment → length (print_headers (created_fields created)) ≤ 50
created_size None moment = omega arith
created_size (Some created) moment =
    let one = headers_size (codes "X-Container-Meta-S3-Created", decimal created) [] in
    omega (arith, one, header_size (codes "X-Container-Meta-S3-Created") (decimal created), decimal_size created (omega (arith, moment)))

readers_size : (readers : ReadList) → length (print_header (codes "X-Container-Read", readers_text readers)) ≤ 40
readers_size Nobody = omega (arith, header_size (codes "X-Container-Read") (readers_text Nobody))
readers_size Everybody = omega (arith, header_size (codes "X-Container-Read") (readers_text Everybody))

fresh_size : (fresh : Bool) → length (print_headers (fresh_fields fresh)) ≤ 18
fresh_size false = omega arith
fresh_size true = omega (arith, headers_size (codes "If-None-Match", codes "*") [], header_size (codes "If-None-Match") (codes "*"))

range_size : (range : Option (ℕ × ℕ)) → IfSome range IsRange → length (print_headers (range_fields range)) ≤ 60
range_size None within = omega arith
range_size (Some range) within =
    let value = codes "bytes=" ++ decimal range.0 ++ codes "-" ++ decimal range.1 in
    let one = headers_size (codes "Range", value) [] in
    let a = length-append (codes "bytes=") (decimal range.0) in
    let b = length-append (codes "bytes=" ++ decimal range.0) (codes "-") in
    let c = length-append (codes "bytes=" ++ decimal range.0 ++ codes "-") (decimal range.1) in
    omega (arith, one, header_size (codes "Range") value, a, b, c, decimal_size range.0 (omega (arith, within.0, within.1)), decimal_size range.1 (omega (arith, within.1)))

-- the target and the own fields of a call together
record Short (target own : List ℕ) : Type 0 where
  filled : 4 ≤ length target
  within : length target + length own ≤ 10800

short_names : (place : Place) (c prefix marker : List ℕ) (limit : ℕ) → length place.account ≤ 1024 → length c ≤ 256 → length prefix ≤ 1028 → length marker ≤ 1028 → limit ≤ 1001
    → Short (target_text place (ListNames c prefix marker limit)) []
short_names place c prefix marker limit most few front mark low =
    let base = container_size place c most few in
    let list = listing_size limit marker low mark in
    let one = length-append (container_text place c) (listing_text limit marker) in
    let two = length-append (container_text place c ++ listing_text limit marker) (codes "&prefix=") in
    let three = length-append (container_text place c ++ listing_text limit marker ++ codes "&prefix=") (escaped_all prefix) in
    record { filled = omega (arith, base.0, one, two, three); within = omega (arith, base.1, list, one, two, three, all_size prefix, front) }

short : (place : Place) (call : SwiftRequest) → length place.account ≤ 1024 → Fit call → Short (target_text place call) (print_headers (own_fields call))
short place (ListContainers marker limit) most fit =
    let base = account_size place most in
    let list = listing_size limit marker fit.1.1 fit.0.within in
    let one = length-append (account_text place) (listing_text limit marker) in
    record { filled = omega (arith, base.0, one); within = omega (arith, base.1, list, one) }
short place (HeadContainer c) most fit = let base = container_size place c most fit.within in record { filled = base.0; within = omega (arith, base.1) }
short place (PutContainer c readers created) most fit =
    let base = container_size place c most fit.0.within in
    let one = headers_size (codes "X-Container-Read", readers_text readers) (created_fields created) in
    record { filled = base.0; within = omega (arith, base.1, one, readers_size readers, created_size created fit.1) }
short place (PostContainer c readers) most fit =
    let base = container_size place c most fit.within in
    let one = headers_size (codes "X-Container-Read", readers_text readers) [] in
    record { filled = base.0; within = omega (arith, base.1, one, readers_size readers) }
short place (DeleteContainer c) most fit = let base = container_size place c most fit.within in record { filled = base.0; within = omega (arith, base.1) }
short place (ListNames c prefix marker limit) most fit = short_names place c prefix marker limit most fit.0.within fit.1.within fit.2.within fit.3.1
short place (PutObject put) most fit =
    let base = object_size place put.container put.name most fit.0.within fit.1.1.within in
    let one = headers_size (codes "Content-Type", put.content_type) (meta_fields 0 put.meta ++ fresh_fields put.fresh) in
    let both = joined_size (meta_fields 0 put.meta) (fresh_fields put.fresh) in
    let count = few put.meta fit.3 in
    let rest = meta_size 0 put.meta (omega (arith, count)) (and_parts _ (list_all (is_field 256) put.meta) fit.3).1 in
    record {
      filled = base.0;
      within = omega (
        arith,
        base.1,
        one,
        both,
        header_size (codes "Content-Type") put.content_type,
        value_most 512 put.content_type fit.2,
        rest,
        count,
        fresh_size put.fresh,
      );
    }
short place (PutManifest c n content_type meta segments) most fit =
    let base = object_size place c n most fit.0.within fit.1.1.within in
    let whole = length-append (object_text place c n) manifest_put in
    let one = headers_size (codes "Content-Type", content_type) (meta_fields 0 meta) in
    let count = few meta fit.3 in
    let rest = meta_size 0 meta (omega (arith, count)) (and_parts _ (list_all (is_field 256) meta) fit.3).1 in
    record {
      filled = omega (arith, base.0, whole);
      within = omega (arith, base.1, whole, one, header_size (codes "Content-Type") content_type, value_most 512 content_type fit.2, rest, count);
    }
short place (HeadObject c n) most fit = let base = object_size place c n most fit.0.within fit.1.1.within in record { filled = base.0; within = omega (arith, base.1) }
short place (GetObject c n range) most fit =
    let base = object_size place c n most fit.0.within fit.1.1.within in
    record { filled = base.0; within = omega (arith, base.1, range_size range fit.2) }
short place (GetManifest c n) most fit =
    let base = object_size place c n most fit.0.within fit.1.1.within in
    let whole = length-append (object_text place c n) manifest_get in
    record { filled = omega (arith, base.0, whole); within = omega (arith, base.1, whole) }
short place (DeleteObject c n) most fit = let base = object_size place c n most fit.0.within fit.1.1.within in record { filled = base.0; within = omega (arith, base.1) }

filled_test : (text : List ℕ) → 4 ≤ length text → nat_lt 0 (length text) ≡ true
filled_test text some = grind (arith, nat_tests)

account_most : (place : Place) → IsPlace place → length place.account ≤ 1024
account_most place is =
    let outer = and_parts (is_place_text place.host && is_place_text place.account) (is_place_text place.token) is in
    text_most place.account (and_parts (is_place_text place.host) (is_place_text place.account) outer.0).1

pub line_good : (place : Place) (call : SwiftRequest) → IsPlace place → Fit call → is_request_line (method_text call) (target_text place call) 1 ≡ true
unfolding Graphic
line_good place call is fit =
    and_from _ _ (method_good call)
    (and_from _ _ (and_from _ _ (filled_test (target_text place call) (short place call (account_most place is) fit).filled) (target_graphic place call is fit)) refl)

pub accepted : (newest : Bool) (place : Place) (call : SwiftRequest) → IsPlace place → Fit call
    → head_refusal (is_request_line (method_text call) (target_text place call) 1) (call_fields newest place call) ≡ None
accepted newest place call is fit =
    cond-true (is_request_line (method_text call) (target_text place call) 1) _ _ (line_good place call is fit)
    ∙ cond-true (are_headers (call_fields newest place call)) None _ (fields_good newest place call is fit)

-- ---- the whole head

newest_size : (newest : Bool) (own : List Header) → length (print_headers (newest_fields newest ++ own)) ≤ length (print_headers own) + 16
newest_size false own = omega arith
newest_size true own = omega (arith, headers_size (codes "X-Newest", codes "true") own, header_size (codes "X-Newest") (codes "true"))

newest_count : (newest : Bool) (own : List Header) → length (newest_fields newest ++ own) ≤ suc (length own)
newest_count false own = omega arith
newest_count true own = omega arith

fields_size : (newest : Bool) (place : Place) (call : SwiftRequest) → IsPlace place → Fit call
    → length (print_headers (call_fields newest place call)) ≤ length (print_headers (own_fields call)) + 2128
fields_size newest place call is fit =
    let outer = and_parts (is_place_text place.host && is_place_text place.account) (is_place_text place.token) is in
    let host = text_most place.host (and_parts (is_place_text place.host) (is_place_text place.account) outer.0).0 in
    let token = text_most place.token outer.1 in
    let size = decimal_size (length (body_of call)) (omega (arith, body_small call fit)) in
    let asked = newest_fields newest ++ own_fields call in
    let last = last_header asked (codes "Content-Length", decimal (length (body_of call))) in
    let sum = length-append (print_headers asked) (print_header (codes "Content-Length", decimal (length (body_of call)))) in
    let rest = asked ++ (codes "Content-Length", decimal (length (body_of call))) ∷ [] in
    let one = headers_size (codes "Host", place.host) ((codes "X-Auth-Token", place.token) ∷ rest) in
    let two = headers_size (codes "X-Auth-Token", place.token) rest in
    omega (
      arith,
      host,
      token,
      size,
      ap length last,
      sum,
      one,
      two,
      newest_size newest (own_fields call),
      header_size (codes "Host") place.host,
      header_size (codes "X-Auth-Token") place.token,
      header_size (codes "Content-Length") (decimal (length (body_of call))),
    )

method_size : (call : SwiftRequest) → length (method_text call) ≤ 6
method_size (ListContainers marker limit) = omega arith
method_size (HeadContainer container) = omega arith
method_size (PutContainer container readers created) = omega arith
method_size (PostContainer container readers) = omega arith
method_size (DeleteContainer container) = omega arith
method_size (ListNames container prefix marker limit) = omega arith
method_size (PutObject put) = omega arith
method_size (PutManifest container name content_type meta segments) = omega arith
method_size (HeadObject container name) = omega arith
method_size (GetObject container name range) = omega arith
method_size (GetManifest container name) = omega arith
method_size (DeleteObject container name) = omega arith

line_size : (method target : List ℕ) → length (method ++ codes " " ++ target ++ codes " HTTP/1.1" ++ crlf_bytes) ≡ length method + length target + 12
line_size method target =
    omega (
      arith,
      length-append method (codes " "),
      length-append (method ++ codes " ") target,
      length-append (method ++ codes " " ++ target) (codes " HTTP/1.1"),
      length-append (method ++ codes " " ++ target ++ codes " HTTP/1.1") crlf_bytes,
    )

-- the head has less than 16,384 bytes
pub head_size : (newest : Bool) (place : Place) (call : SwiftRequest) → IsPlace place → Fit call
    → length (request_text (method_text call) (target_text place call) 1 (call_fields newest place call)) ≤ 13000
head_size newest place call is fit =
    let text = head_is newest place call in
    let sum = length-append (line_text place call) (print_headers (call_fields newest place call) ++ crlf_bytes) in
    let tail = length-append (print_headers (call_fields newest place call)) crlf_bytes in
    omega (
      arith,
      ap length text,
      sum,
      tail,
      line_size (method_text call) (target_text place call),
      method_size call,
      (short place call (account_most place is) fit).within,
      fields_size newest place call is fit,
    )

-- ---- how many fields

meta_count : (index : ℕ) (pieces : List (List ℕ)) → length (meta_fields index pieces) ≡ length pieces
meta_count index [] = refl
meta_count index (piece ∷ pieces) = ap suc (meta_count (index + 1) pieces)

fresh_count : (fresh : Bool) → length (fresh_fields fresh) ≤ 1
fresh_count false = omega arith
fresh_count true = omega arith

own_count : (call : SwiftRequest) → Fit call → length (own_fields call) ≤ 13
own_count (ListContainers marker limit) fit = omega arith
own_count (HeadContainer container) fit = omega arith
own_count (PutContainer container readers None) fit = omega arith
own_count (PutContainer container readers (Some moment)) fit = omega arith
own_count (PostContainer container readers) fit = omega arith
own_count (DeleteContainer container) fit = omega arith
own_count (ListNames container prefix marker limit) fit = omega arith
own_count (PutObject put) fit =
    omega (arith, length-append (meta_fields 0 put.meta) (fresh_fields put.fresh), meta_count 0 put.meta, few put.meta fit.3, fresh_count put.fresh)
own_count (PutManifest container name content_type meta segments) fit = omega (arith, meta_count 0 meta, few meta fit.3)
own_count (HeadObject container name) fit = omega arith
own_count (GetObject container name None) fit = omega arith
own_count (GetObject container name (Some range)) fit = omega arith
own_count (GetManifest container name) fit = omega arith
own_count (DeleteObject container name) fit = omega arith

-- fewer than 100 fields
pub fields_count : (newest : Bool) (place : Place) (call : SwiftRequest) → Fit call → length (call_fields newest place call) ≤ 17
fields_count newest place call fit =
    omega (arith, own_count call fit, newest_count newest (own_fields call), length-append (newest_fields newest ++ own_fields call) ((codes "Content-Length", decimal (length (body_of call))) ∷ []))
