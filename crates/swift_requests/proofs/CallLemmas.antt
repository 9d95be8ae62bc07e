-- The message of a call that is written spells the call.
use Rattle.std.proofs.Common.{◌≡◌, ℕ, ◌<◌, ◌≤◌, Bool, true, false, not, ◌&&◌, cond, List, [], ◌∷◌, ◌++◌, length, map, All, Some, None, Option, refl, ap, ap₂, sym, ◌∙◌, arith, append_assoc}
use Rattle.std.specs.Prelude.{codes, decimal, bytes_eq, option_map, option_and_then, nat_lt, nat_le, IfSome}
use Rattle.std.specs.List.{list_all}
use Rattle.std.proofs.lemmas.Bool.{and_parts, cond-true, cond-false}
use Rattle.std.proofs.lemmas.Bool.Decides.{nat_tests}
use Rattle.std.proofs.lemmas.List.Elements.{All-nil, All-cons}
use Rattle.gate_base.specs.Ascii.{is_visible, is_digit}
use Rattle.gate_base.specs.Told.{moment_limit}
use Rattle.http1.specs.Fields.{Header}
use Rattle.http_wire.specs.declared.message.Message.{Message}
use Rattle.s3_names.specs.Escapes.{escaped_all, escaped_path}
use Rattle.s3_names.specs.Target.{is_question, query_text}
use Rattle.slo_manifest.specs.Laws.{TextReadsBack}
use Rattle.slo_manifest.specs.Segments.{is_manifest}
use Rattle.slo_manifest.specs.Text.{manifest_text}
use Rattle.slo_manifest.specs.declared.Segment.{Segment}
use Rattle.slo_manifest.specs.declared.manifest.Form.TheVariants.{Put}
use Rattle.swift_calls.specs.Limits.{IsText, IsMarker, IsRange}
use Rattle.swift_calls.specs.Step.{IsContainerName, IsMoment, Fit}
use Rattle.swift_calls.specs.declared.account.ReadList.{ReadList}
use Rattle.swift_calls.specs.declared.account.ReadList.TheVariants.{Nobody, Everybody}
use Rattle.swift_calls.specs.declared.calls.FilePut.{FilePut}
use Rattle.swift_calls.specs.declared.calls.SwiftRequest.{SwiftRequest}
use Rattle.swift_calls.specs.declared.calls.SwiftRequest.TheVariants.{
  ListContainers,
  HeadContainer,
  PutContainer,
  PostContainer,
  DeleteContainer,
  ListNames,
  PutObject,
  PutManifest,
  HeadObject,
  GetObject,
  GetManifest,
  DeleteObject,
}
use Rattle.swift_replies.specs.AnswerText.{readers_text, meta_fields, header_pair}
use Rattle.swift_replies.specs.Answers.{both, segments_in}
use Rattle.swift_requests.specs.CallText.{account_text, container_text, object_text, listing_text, target_text, newest_fields, content_fields, fresh_fields, call_fields, call_message}
use Rattle.swift_requests.specs.Calls.{is_dash, call_range_bound, places_of, range_of, limit_of, up_to, containers_listing_call, names_listing_call, unasked, is_word, asks_manifest, put_listed, put_manifest, listed_by, fresh_from, put_by, put_object, bare_object_call, call_at, call_within, account_in, call_of, account_names, container_names}
use Rattle.swift_replies.specs.Fields.{before_limit, moment_in, container_readers_by_value, meta_in}
use Rattle.http_answers.specs.Fields.{needed, at_most_one}
use Rattle.swift_requests.specs.Paths.{path_of, last_call_query_value, values_named}
use Rattle.swift_requests.specs.Place.{IsPlace, is_place_text}
use Rattle.swift_requests.specs.declared.paths.Path.{Path}
use Rattle.swift_requests.specs.declared.paths.Path.TheVariants.{Account, Container, Object}
use Rattle.swift_requests.specs.declared.place.Place.{Place}
use Rattle.swift_replies.proofs.lemmas.CutLemmas.{IsByte, Lacks, weaker, Lacks-append, before_at, after_at, utf8_bytes}
use Rattle.swift_replies.proofs.lemmas.GivenLemmas.{given, given-append, given_meta}
use Rattle.swift_replies.proofs.lemmas.MetaFieldLemmas.{Others, meta_read}
use Rattle.swift_replies.proofs.lemmas.SegmentRows.{segments_back}
use Rattle.swift_requests.proofs.ManifestLemmas.{manifest_fits}
use Rattle.swift_requests.proofs.PathLemmas.{no_question, no_question_path, account_path, container_path, whole_path, path_bare, query_bare, path_asked, query_asked}
use Rattle.text_forms.proofs.lemmas.Decimals.{decimal_digits}
use Rattle.http_answers.proofs.lemmas.NumberLemmas.{same_bytes, plain_decimal}
use Rattle.swift_requests.proofs.QueryLemmas.{account_query, container_query, account_values, container_values, itself, last_is}
use Rattle.swift_replies.proofs.lemmas.Sizes.{few}

-- ---- the bytes of a place and of names

visible_byte : (b : ℕ) → is_visible b ≡ true → b < 256
visible_byte b h = grind (arith, nat_tests)

visible_bytes : (text : List ℕ) → list_all is_visible text ≡ true → All IsByte text
visible_bytes [] all = All-nil IsByte
visible_bytes (b ∷ text) all =
    let parts = and_parts (is_visible b) (list_all is_visible text) all in
    All-cons IsByte b text (visible_byte b parts.0) (visible_bytes text parts.1)

pub account_bytes : (place : Place) → IsPlace place → All IsByte place.account
account_bytes place is =
    let first = and_parts (is_place_text place.host && is_place_text place.account) (is_place_text place.token) is in
    let account = (and_parts (is_place_text place.host) (is_place_text place.account) first.0).1 in
    visible_bytes place.account (and_parts _ (list_all is_visible place.account) account).1

pub name_bytes : (name : List ℕ) → IsContainerName name → All IsByte name
name_bytes name is = utf8_bytes name is.text

pub text_bytes : (most : ℕ) (text : List ℕ) → IsText most text → All IsByte text
text_bytes most text is = utf8_bytes text is.utf8

-- ---- the targets

abbrev below_account : Place → List ℕ → List ℕ
below_account place c = escaped_all place.account ++ 47 ∷ escaped_all c

abbrev below_container : Place → List ℕ → List ℕ → List ℕ
below_container place c n = escaped_all place.account ++ 47 ∷ (escaped_all c ++ 47 ∷ escaped_path n)

container_is : (place : Place) (c : List ℕ) → container_text place c ≡ codes "/v1/" ++ below_account place c
container_is place c =
    append_assoc (account_text place) (codes "/") (escaped_all c) ∙ append_assoc (codes "/v1/") (escaped_all place.account) (47 ∷ escaped_all c)

object_is : (place : Place) (c n : List ℕ) → object_text place c n ≡ codes "/v1/" ++ below_container place c n
object_is place c n =
    append_assoc (container_text place c) (codes "/") (escaped_path n) ∙ ap (λ t. t ++ 47 ∷ escaped_path n) (container_is place c)
    ∙ append_assoc (codes "/v1/") (below_account place c) (47 ∷ escaped_path n)
    ∙ ap (λ t. codes "/v1/" ++ t) (append_assoc (escaped_all place.account) (47 ∷ escaped_all c) (47 ∷ escaped_path n))

listing_is : (limit : ℕ) (marker : List ℕ) → listing_text limit marker ≡ 63 ∷ account_query limit marker
listing_is limit marker =
    append_assoc (codes "?format=json&limit=" ++ decimal limit) (codes "&marker=") (escaped_all marker)
    ∙ append_assoc (codes "?format=json&limit=") (decimal limit) (codes "&marker=" ++ escaped_all marker)

names_is : (place : Place) (c prefix marker : List ℕ) (limit : ℕ)
    → target_text place (ListNames c prefix marker limit) ≡ (codes "/v1/" ++ below_account place c) ++ 63 ∷ container_query limit marker prefix
names_is place c prefix marker limit =
    let last = codes "&prefix=" ++ escaped_all prefix in
    append_assoc (container_text place c ++ listing_text limit marker) (codes "&prefix=") (escaped_all prefix)
    ∙ append_assoc (container_text place c) (listing_text limit marker) last
    ∙ ap₂ (λ x y. x ++ y) (container_is place c)
    (ap (λ t. t ++ last) (listing_is limit marker)
    ∙ ap (λ t. codes "?format=json&limit=" ++ t) (append_assoc (decimal limit) (codes "&marker=" ++ escaped_all marker) last))

container_lacks : (place : Place) (c : List ℕ) → All IsByte place.account → All IsByte c → Lacks is_question (below_account place c)
container_lacks place c small little =
    Lacks-append is_question (escaped_all place.account) (47 ∷ escaped_all c) (no_question place.account small) (no_question c little)

object_lacks : (place : Place) (c n : List ℕ) → All IsByte place.account → All IsByte c → All IsByte n → Lacks is_question (below_container place c n)
object_lacks place c n small little tiny =
    Lacks-append is_question (escaped_all place.account) (47 ∷ (escaped_all c ++ 47 ∷ escaped_path n)) (no_question place.account small)
    (Lacks-append is_question (escaped_all c) (47 ∷ escaped_path n) (no_question c little) (no_question_path n tiny))

container_named : (place : Place) (c : List ℕ) → All IsByte place.account → All IsByte c → path_of (container_text place c) ≡ Some (Container place.account c)
container_named place c small little =
    ap path_of (container_is place c) ∙ path_bare (below_account place c) (container_lacks place c small little)
    ∙ container_path place.account c small little

container_unasked : (place : Place) (c : List ℕ) → All IsByte place.account → All IsByte c → query_text (container_text place c) ≡ []
container_unasked place c small little =
    ap query_text (container_is place c) ∙ query_bare (below_account place c) (container_lacks place c small little)

object_named : (place : Place) (c n : List ℕ) → All IsByte place.account → All IsByte c → All IsByte n
    → path_of (object_text place c n) ≡ Some (Object place.account c n)
object_named place c n small little tiny =
    ap path_of (object_is place c n) ∙ path_bare (below_container place c n) (object_lacks place c n small little tiny)
    ∙ whole_path place.account c n small little tiny

object_unasked : (place : Place) (c n : List ℕ) → All IsByte place.account → All IsByte c → All IsByte n → query_text (object_text place c n) ≡ []
object_unasked place c n small little tiny =
    ap query_text (object_is place c n) ∙ query_bare (below_container place c n) (object_lacks place c n small little tiny)

-- ---- the rows

found : (place : Place) (message : Message) (path : Path) (call : SwiftRequest) → path_of message.target ≡ Some path → account_in path ≡ place.account
    → call_at path message ≡ Some call → call_of place message ≡ Some call
found place message path call named within at =
    ap (call_within place message) named
    ∙ cond-true (bytes_eq (account_in path) place.account) (call_at path message) None
    (ap (λ a. bytes_eq a place.account) within ∙ same_bytes place.account)
    ∙ at

bare : (query : List ℕ) (call : Option SwiftRequest) → query ≡ [] → cond (bytes_eq query []) call None ≡ call
bare query call none = ap (λ q. cond (bytes_eq q []) call None) none

container_row : (newest : Bool) (place : Place) (call : SwiftRequest) (c : List ℕ) → All IsByte place.account → All IsByte c
    → target_text place call ≡ container_text place c
    → call_at (Container place.account c) (call_message newest place call) ≡ cond (bytes_eq (query_text (target_text place call)) []) (Some call) None
    → call_of place (call_message newest place call) ≡ Some call
container_row newest place call c small little target at =
    found place (call_message newest place call) (Container place.account c) call (ap path_of target ∙ container_named place c small little) refl
    (at ∙ bare (query_text (target_text place call)) (Some call) (ap query_text target ∙ container_unasked place c small little))

object_row : (newest : Bool) (place : Place) (call : SwiftRequest) (c n : List ℕ) → All IsByte place.account → All IsByte c → All IsByte n
    → target_text place call ≡ object_text place c n
    → call_at (Object place.account c n) (call_message newest place call) ≡ cond (bytes_eq (query_text (target_text place call)) []) (Some call) None
    → call_of place (call_message newest place call) ≡ Some call
object_row newest place call c n small little tiny target at =
    found place (call_message newest place call) (Object place.account c n) call (ap path_of target ∙ object_named place c n small little tiny) refl
    (at ∙ bare (query_text (target_text place call)) (Some call) (ap query_text target ∙ object_unasked place c n small little tiny))

-- without a query nothing asks for a list of segments
asks_none : (word query : List ℕ) → query ≡ [] → is_word word (last_call_query_value (codes "multipart-manifest") query) ≡ false
asks_none word query none = ap (λ q. is_word word (last_call_query_value (codes "multipart-manifest") q)) none

no_get : (place : Place) (c n : List ℕ) (message : Message) (call : Option SwiftRequest) → All IsByte place.account → All IsByte c → All IsByte n
    → message.target ≡ object_text place c n → cond (asks_manifest (codes "get") message) (Some (GetManifest c n)) call ≡ call
no_get place c n message call small little tiny target =
    cond-false (asks_manifest (codes "get") message) (Some (GetManifest c n)) call
    (asks_none (codes "get") (query_text message.target) (ap query_text target ∙ object_unasked place c n small little tiny))

no_put : (place : Place) (c n : List ℕ) (message : Message) (listed call : Option SwiftRequest) → All IsByte place.account → All IsByte c → All IsByte n
    → message.target ≡ object_text place c n → cond (asks_manifest (codes "put") message) listed call ≡ call
no_put place c n message listed call small little tiny target =
    cond-false (asks_manifest (codes "put") message) listed call
    (asks_none (codes "put") (query_text message.target) (ap query_text target ∙ object_unasked place c n small little tiny))

-- ---- values that are read back

limit_read : (limit : ℕ) → limit ≤ 1001 → limit_of (decimal limit) ≡ Some limit
limit_read limit low =
    let test : nat_le limit 1001 ≡ true = grind (arith, nat_tests) in
    ap (option_and_then (up_to 1001)) (plain_decimal limit (omega (arith, low))) ∙ cond-true (nat_le limit 1001) (Some limit) None test

moment_read : (moment : ℕ) → IsMoment moment → moment_in (decimal moment) ≡ Some moment
moment_read moment low =
    let test : nat_lt moment moment_limit ≡ true = grind (arith, nat_tests) in
    ap (option_and_then before_limit) (plain_decimal moment (omega (arith, low))) ∙ cond-true (nat_lt moment moment_limit) (Some moment) None test

readers_read : (readers : ReadList) → container_readers_by_value (readers_text readers) ≡ Some readers
readers_read Nobody = refl
readers_read Everybody = refl

place_read : (byte : ℕ) → byte < 9223372036854775808 → call_range_bound (decimal byte) ≡ Some byte
place_read byte low =
    let test : nat_le byte 9223372036854775807 ≡ true = grind (arith, nat_tests) in
    ap (option_and_then (up_to 9223372036854775807)) (plain_decimal byte (omega (arith, low)))
    ∙ cond-true (nat_le byte 9223372036854775807) (Some byte) None test

digit_no_dash : (b : ℕ) → is_digit b ≡ true → not (is_dash b) ≡ true
digit_no_dash b h = grind (arith, nat_tests)

places_read : (first last : ℕ) → first < 9223372036854775808 → last < 9223372036854775808 → places_of (decimal first ++ 45 ∷ decimal last) ≡ Some (first, last)
places_read first last low high =
    let lacks : Lacks is_dash (decimal first) = weaker is_digit (λ b. not (is_dash b)) digit_no_dash (decimal first) (decimal_digits first (omega (arith, low))) in
    ap₂ (λ x y. both (λ f l. (f, l)) (call_range_bound x) (call_range_bound y)) (before_at is_dash (decimal first) (decimal last) 45 refl lacks)
    (after_at is_dash (decimal first) (decimal last) 45 refl lacks)
    ∙ ap₂ (both (λ f l. (f, l))) (place_read first low) (place_read last high)

range_read : (first last : ℕ) → first < 9223372036854775808 → last < 9223372036854775808
    → range_of (codes "bytes=" ++ decimal first ++ codes "-" ++ decimal last) ≡ Some (first, last)
range_read first last low high =
    let text : codes "bytes=" ++ decimal first ++ codes "-" ++ decimal last ≡ codes "bytes=" ++ (decimal first ++ 45 ∷ decimal last) =
    append_assoc (codes "bytes=" ++ decimal first) (codes "-") (decimal last) ∙ append_assoc (codes "bytes=") (decimal first) (45 ∷ decimal last) in
    ap range_of text ∙ places_read first last low high

-- ---- each call

list_containers_read : (newest : Bool) (place : Place) (marker : List ℕ) (limit : ℕ) → All IsByte place.account → IsMarker marker → limit ≤ 1001
    → call_of place (call_message newest place (ListContainers marker limit)) ≡ Some (ListContainers marker limit)
list_containers_read newest place marker limit small mark low =
    let call = ListContainers marker limit in
    let bytes = text_bytes 1028 marker mark in
    let lacks = no_question place.account small in
    let target : target_text place call ≡ (codes "/v1/" ++ escaped_all place.account) ++ 63 ∷ account_query limit marker =
    ap (λ t. account_text place ++ t) (listing_is limit marker) in
    found place (call_message newest place call) (Account place.account) call
    (ap path_of target ∙ path_asked (escaped_all place.account) (account_query limit marker) lacks ∙ account_path place.account small) refl
    (ap (λ q. option_and_then containers_listing_call (values_named account_names q))
    (ap query_text target ∙ query_asked (escaped_all place.account) (account_query limit marker) lacks)
    ∙ ap (option_and_then containers_listing_call) (account_values limit marker (omega (arith, low)) bytes)
    ∙ ap (option_map (λ most. ListContainers marker most)) (limit_read limit low))

list_names_read : (newest : Bool) (place : Place) (c prefix marker : List ℕ) (limit : ℕ) → All IsByte place.account → IsContainerName c → IsMarker prefix → IsMarker marker → limit ≤ 1001
    → call_of place (call_message newest place (ListNames c prefix marker limit)) ≡ Some (ListNames c prefix marker limit)
list_names_read newest place c prefix marker limit small name before mark low =
    let call = ListNames c prefix marker limit in
    let little = name_bytes c name in
    let lacks = container_lacks place c small little in
    let query = container_query limit marker prefix in
    let target = names_is place c prefix marker limit in
    found place (call_message newest place call) (Container place.account c) call
    (ap path_of target ∙ path_asked (below_account place c) query lacks ∙ container_path place.account c small little) refl
    (ap (λ q. option_and_then (names_listing_call c) (values_named container_names q)) (ap query_text target ∙ query_asked (below_account place c) query lacks)
    ∙ ap (option_and_then (names_listing_call c)) (container_values limit marker prefix (omega (arith, low)) (text_bytes 1028 marker mark) (text_bytes 1028 prefix before))
    ∙ ap (option_map (λ most. ListNames c prefix marker most)) (limit_read limit low))

put_container_read : (newest : Bool) (place : Place) (c : List ℕ) (readers : ReadList) (created : Option ℕ) → All IsByte place.account → IsContainerName c → IfSome created IsMoment
    → call_of place (call_message newest place (PutContainer c readers created)) ≡ Some (PutContainer c readers created)
put_container_read false place c readers None small name moment =
    container_row false place (PutContainer c readers None) c small (name_bytes c name) refl
    (ap (λ r. unasked (call_message false place (PutContainer c readers None)) (both (λ x y. PutContainer c x y) r (Some None))) (readers_read readers))
put_container_read false place c readers (Some created) small name moment =
    container_row false place (PutContainer c readers (Some created)) c small (name_bytes c name) refl
    (ap₂ (λ r t. unasked (call_message false place (PutContainer c readers (Some created))) (both (λ x y. PutContainer c x y) r (option_map (λ m. Some m) t)))
    (readers_read readers) (moment_read created moment))
put_container_read true place c readers None small name moment =
    container_row true place (PutContainer c readers None) c small (name_bytes c name) refl
    (ap (λ r. unasked (call_message true place (PutContainer c readers None)) (both (λ x y. PutContainer c x y) r (Some None))) (readers_read readers))
put_container_read true place c readers (Some created) small name moment =
    container_row true place (PutContainer c readers (Some created)) c small (name_bytes c name) refl
    (ap₂ (λ r t. unasked (call_message true place (PutContainer c readers (Some created))) (both (λ x y. PutContainer c x y) r (option_map (λ m. Some m) t)))
    (readers_read readers) (moment_read created moment))

post_container_read : (newest : Bool) (place : Place) (c : List ℕ) (readers : ReadList) → All IsByte place.account → IsContainerName c
    → call_of place (call_message newest place (PostContainer c readers)) ≡ Some (PostContainer c readers)
post_container_read false place c readers small name =
    container_row false place (PostContainer c readers) c small (name_bytes c name) refl
    (ap (λ r. unasked (call_message false place (PostContainer c readers)) (option_map (λ x. PostContainer c x) r)) (readers_read readers))
post_container_read true place c readers small name =
    container_row true place (PostContainer c readers) c small (name_bytes c name) refl
    (ap (λ r. unasked (call_message true place (PostContainer c readers)) (option_map (λ x. PostContainer c x) r)) (readers_read readers))

get_object_read : (newest : Bool) (place : Place) (c n : List ℕ) (range : Option (ℕ × ℕ)) → All IsByte place.account → All IsByte c → All IsByte n → IfSome range IsRange
    → call_of place (call_message newest place (GetObject c n range)) ≡ Some (GetObject c n range)
get_object_read false place c n None small little tiny within =
    let call = GetObject c n None in
    object_row false place call c n small little tiny refl
    (no_get place c n (call_message false place call) (unasked (call_message false place call) (Some call)) small little tiny refl)
get_object_read false place c n (Some range) small little tiny within =
    let call = GetObject c n (Some range) in
    let message = call_message false place call in
    object_row false place call c n small little tiny refl
    (no_get place c n message (unasked message (bare_object_call c n message)) small little tiny refl
    ∙ ap (λ r. unasked (call_message false place (GetObject c n (Some range))) (option_map (λ x. GetObject c n x) (option_map (λ x. Some x) r)))
    (range_read range.0 range.1 (omega (arith, within.0, within.1)) (omega (arith, within.1))))
get_object_read true place c n None small little tiny within =
    let call = GetObject c n None in
    object_row true place call c n small little tiny refl
    (no_get place c n (call_message true place call) (unasked (call_message true place call) (Some call)) small little tiny refl)
get_object_read true place c n (Some range) small little tiny within =
    let call = GetObject c n (Some range) in
    let message = call_message true place call in
    object_row true place call c n small little tiny refl
    (no_get place c n message (unasked message (bare_object_call c n message)) small little tiny refl
    ∙ ap (λ r. unasked (call_message true place (GetObject c n (Some range))) (option_map (λ x. GetObject c n x) (option_map (λ x. Some x) r)))
    (range_read range.0 range.1 (omega (arith, within.0, within.1)) (omega (arith, within.1))))

-- the fields of a call that puts an object with such content
abbrev put_fields : Bool → Place → List ℕ → List (List ℕ) → List Header → List Header
put_fields newest place content_type meta back =
    (codes "Host", place.host) ∷ (codes "X-Auth-Token", place.token) ∷ newest_fields newest ++ content_fields content_type meta ++ back

-- those behind its content
abbrev last_fields : Bool → List ℕ → List Header
last_fields fresh size = fresh_fields fresh ++ (codes "Content-Length", size) ∷ []

fields_are : (newest : Bool) (place : Place) (put : FilePut)
    → call_fields newest place (PutObject put) ≡ put_fields newest place put.content_type put.meta (last_fields put.fresh (decimal (length put.body)))
fields_are newest place put =
    let front = (codes "Host", place.host) ∷ (codes "X-Auth-Token", place.token) ∷ newest_fields newest in
    let content = content_fields put.content_type put.meta in
    let fresh = fresh_fields put.fresh in
    let last = (codes "Content-Length", decimal (length put.body)) ∷ [] in
    ap (λ fields. fields ++ last) (sym (append_assoc front content fresh)) ∙ append_assoc (front ++ content) fresh last

no_type : (fresh : Bool) (meta : List (List ℕ)) (size : List ℕ) → given (codes "content-type") (meta_fields 0 meta ++ last_fields fresh size) ≡ []
no_type false meta size =
    given-append (codes "content-type") (meta_fields 0 meta) (last_fields false size)
    ∙ ap (λ values. values ++ []) (given_meta (codes "content-type") (λ index. refl) 0 meta)
no_type true meta size =
    given-append (codes "content-type") (meta_fields 0 meta) (last_fields true size)
    ∙ ap (λ values. values ++ []) (given_meta (codes "content-type") (λ index. refl) 0 meta)

type_given : (newest : Bool) (place : Place) (content_type : List ℕ) (meta : List (List ℕ)) (fresh : Bool) (size : List ℕ)
    → given (codes "content-type") (put_fields newest place content_type meta (last_fields fresh size)) ≡ content_type ∷ []
type_given false place content_type meta fresh size = ap (λ values. content_type ∷ values) (no_type fresh meta size)
type_given true place content_type meta fresh size = ap (λ values. content_type ∷ values) (no_type fresh meta size)

pieces_behind : (front : List Header) (meta : List (List ℕ)) (fresh : Bool) (size : List ℕ) → Others front → length meta ≤ 11
    → meta_in (map header_pair (front ++ (meta_fields 0 meta ++ last_fields fresh size))) ≡ Some meta
pieces_behind front meta false size others few = meta_read front (last_fields false size) meta others (λ i. refl) few
pieces_behind front meta true size others few = meta_read front (last_fields true size) meta others (λ i. refl) few

pieces_given : (newest : Bool) (place : Place) (content_type : List ℕ) (meta : List (List ℕ)) (fresh : Bool) (size : List ℕ) → length meta ≤ 11
    → meta_in (map header_pair (put_fields newest place content_type meta (last_fields fresh size))) ≡ Some meta
pieces_given false place content_type meta fresh size few =
    pieces_behind ((codes "Host", place.host) ∷ (codes "X-Auth-Token", place.token) ∷ (codes "Content-Type", content_type) ∷ []) meta fresh size (λ i. refl) few
pieces_given true place content_type meta fresh size few =
    pieces_behind ((codes "Host", place.host) ∷ (codes "X-Auth-Token", place.token) ∷ (codes "X-Newest", codes "true") ∷ (codes "Content-Type", content_type) ∷ [])
    meta fresh size (λ i. refl) few

-- what asks for a fresh object, behind its metadata
fresh_behind : (fresh : Bool) (meta : List (List ℕ)) (size : List ℕ)
    → given (codes "if-none-match") (meta_fields 0 meta ++ last_fields fresh size) ≡ given (codes "if-none-match") (fresh_fields fresh)
fresh_behind false meta size =
    given-append (codes "if-none-match") (meta_fields 0 meta) (last_fields false size)
    ∙ ap (λ values. values ++ []) (given_meta (codes "if-none-match") (λ index. refl) 0 meta)
fresh_behind true meta size =
    given-append (codes "if-none-match") (meta_fields 0 meta) (last_fields true size)
    ∙ ap (λ values. values ++ codes "*" ∷ []) (given_meta (codes "if-none-match") (λ index. refl) 0 meta)

fresh_values : (newest : Bool) (place : Place) (content_type : List ℕ) (meta : List (List ℕ)) (fresh : Bool) (size : List ℕ)
    → given (codes "if-none-match") (put_fields newest place content_type meta (last_fields fresh size)) ≡ given (codes "if-none-match") (fresh_fields fresh)
fresh_values false place content_type meta fresh size = fresh_behind fresh meta size
fresh_values true place content_type meta fresh size = fresh_behind fresh meta size

fresh_back : (fresh : Bool) → fresh_from (at_most_one (given (codes "if-none-match") (fresh_fields fresh))) ≡ Some fresh
fresh_back false = refl
fresh_back true = refl

put_object_read : (newest : Bool) (place : Place) (put : FilePut) → All IsByte place.account → All IsByte put.container → All IsByte put.name
    → length put.meta ≤ 11 → call_of place (call_message newest place (PutObject put)) ≡ Some (PutObject put)
put_object_read newest place put small little tiny few =
    let call = PutObject put in
    let message = call_message newest place call in
    let size = decimal (length put.body) in
    let fields = fields_are newest place put in
    let type : given (codes "content-type") (call_fields newest place call) ≡ put.content_type ∷ [] =
    ap (given (codes "content-type")) fields ∙ type_given newest place put.content_type put.meta put.fresh size in
    let pieces : meta_in (map header_pair (call_fields newest place call)) ≡ Some put.meta =
    ap (λ all. meta_in (map header_pair all)) fields ∙ pieces_given newest place put.content_type put.meta put.fresh size few in
    let fresh : fresh_from (at_most_one (given (codes "if-none-match") (call_fields newest place call))) ≡ Some put.fresh =
    ap (λ all. fresh_from (at_most_one (given (codes "if-none-match") all))) fields
    ∙ ap (λ values. fresh_from (at_most_one values)) (fresh_values newest place put.content_type put.meta put.fresh size) ∙ fresh_back put.fresh in
    object_row newest place call put.container put.name small little tiny refl
    (no_put place put.container put.name message (put_manifest put.container put.name message) (unasked message (put_object put.container put.name message))
    small little tiny refl
    ∙ (λ i. unasked message (put_by put.container put.name put.body (needed (at_most_one (type i))) (pieces i) (fresh i))))

-- ---- lists of segments

abbrev word_query : List ℕ → List ℕ
word_query word = codes "multipart-manifest" ++ 61 ∷ word

abbrev object_asked : Place → List ℕ → List ℕ → List ℕ → List ℕ
object_asked place c n word = object_text place c n ++ 63 ∷ word_query word

asked_is : (place : Place) (c n word : List ℕ) → object_asked place c n word ≡ (codes "/v1/" ++ below_container place c n) ++ 63 ∷ word_query word
asked_is place c n word = ap (λ t. t ++ 63 ∷ word_query word) (object_is place c n)

asked_named : (place : Place) (c n word : List ℕ) → All IsByte place.account → All IsByte c → All IsByte n
    → path_of (object_asked place c n word) ≡ Some (Object place.account c n)
asked_named place c n word small little tiny =
    ap path_of (asked_is place c n word) ∙ path_asked (below_container place c n) (word_query word) (object_lacks place c n small little tiny)
    ∙ whole_path place.account c n small little tiny

asked_query : (place : Place) (c n word : List ℕ) → All IsByte place.account → All IsByte c → All IsByte n
    → query_text (object_asked place c n word) ≡ word_query word
asked_query place c n word small little tiny =
    ap query_text (asked_is place c n word) ∙ query_asked (below_container place c n) (word_query word) (object_lacks place c n small little tiny)

asks_put : (place : Place) (c n : List ℕ) → All IsByte place.account → All IsByte c → All IsByte n
    → last_call_query_value (codes "multipart-manifest") (query_text (object_asked place c n (codes "put"))) ≡ Some (codes "put")
asks_put place c n small little tiny =
    ap (last_call_query_value (codes "multipart-manifest")) (asked_query place c n (codes "put") small little tiny)
    ∙ last_is (codes "multipart-manifest") (codes "put") (codes "put") refl refl refl (itself (codes "put") refl)

asks_get : (place : Place) (c n : List ℕ) → All IsByte place.account → All IsByte c → All IsByte n
    → last_call_query_value (codes "multipart-manifest") (query_text (object_asked place c n (codes "get"))) ≡ Some (codes "get")
asks_get place c n small little tiny =
    ap (last_call_query_value (codes "multipart-manifest")) (asked_query place c n (codes "get") small little tiny)
    ∙ last_is (codes "multipart-manifest") (codes "get") (codes "get") refl refl refl (itself (codes "get") refl)

put_manifest_read : TextReadsBack → (newest : Bool) (place : Place) (c n content_type : List ℕ) (meta : List (List ℕ)) (segments : List Segment) → All IsByte place.account
    → All IsByte c → All IsByte n → length meta ≤ 11 → is_manifest segments ≡ true
    → call_of place (call_message newest place (PutManifest c n content_type meta segments)) ≡ Some (PutManifest c n content_type meta segments)
put_manifest_read law newest place c n content_type meta segments small little tiny few is =
    let call = PutManifest c n content_type meta segments in
    let message = call_message newest place call in
    let body = manifest_text Put segments in
    let type : given (codes "content-type") (call_fields newest place call) ≡ content_type ∷ [] = type_given newest place content_type meta false (decimal (length body)) in
    let pieces : meta_in (map header_pair (call_fields newest place call)) ≡ Some meta = pieces_given newest place content_type meta false (decimal (length body)) few in
    let asked : Option SwiftRequest = put_manifest c n message in
    found place message (Object place.account c n) call (asked_named place c n (codes "put") small little tiny) refl
    (ap (λ value. cond (is_word (codes "put") value) asked (unasked message (put_object c n message))) (asks_put place c n small little tiny)
    ∙ ap₂ (λ values m. listed_by c n (segments_in Put body) (needed (at_most_one values)) m) type pieces
    ∙ ap (put_listed c n content_type meta) (segments_back law Put segments is))

get_manifest_read : (newest : Bool) (place : Place) (c n : List ℕ) → All IsByte place.account → All IsByte c → All IsByte n
    → call_of place (call_message newest place (GetManifest c n)) ≡ Some (GetManifest c n)
get_manifest_read newest place c n small little tiny =
    let call = GetManifest c n in
    let message = call_message newest place call in
    found place message (Object place.account c n) call (asked_named place c n (codes "get") small little tiny) refl
    (ap (λ value. cond (is_word (codes "get") value) (Some call) (unasked message (bare_object_call c n message))) (asks_get place c n small little tiny))

-- the message of a call within its limits spells it
pub call_read : TextReadsBack → (newest : Bool) (place : Place) (call : SwiftRequest) → IsPlace place → Fit call → call_of place (call_message newest place call) ≡ Some call
call_read law newest place (ListContainers marker limit) is fit = list_containers_read newest place marker limit (account_bytes place is) fit.0 fit.1.1
call_read law newest place (HeadContainer c) is fit = container_row newest place (HeadContainer c) c (account_bytes place is) (name_bytes c fit) refl refl
call_read law newest place (PutContainer c readers created) is fit = put_container_read newest place c readers created (account_bytes place is) fit.0 fit.1
call_read law newest place (PostContainer c readers) is fit = post_container_read newest place c readers (account_bytes place is) fit
call_read law newest place (DeleteContainer c) is fit = container_row newest place (DeleteContainer c) c (account_bytes place is) (name_bytes c fit) refl refl
call_read law newest place (ListNames c prefix marker limit) is fit = list_names_read newest place c prefix marker limit (account_bytes place is) fit.0 fit.1 fit.2 fit.3.1
call_read law newest place (PutObject put) is fit =
    put_object_read newest place put (account_bytes place is) (name_bytes put.container fit.0) (text_bytes 1024 put.name fit.1.1) (few put.meta fit.3)
call_read law newest place (PutManifest c n content_type meta segments) is fit =
    put_manifest_read law newest place c n content_type meta segments (account_bytes place is) (name_bytes c fit.0) (text_bytes 1024 n fit.1.1) (few meta fit.3)
    (manifest_fits segments fit.4 fit.5)
call_read law newest place (HeadObject c n) is fit =
    object_row newest place (HeadObject c n) c n (account_bytes place is) (name_bytes c fit.0) (text_bytes 1024 n fit.1.1) refl refl
call_read law newest place (GetObject c n range) is fit =
    get_object_read newest place c n range (account_bytes place is) (name_bytes c fit.0) (text_bytes 1024 n fit.1.1) fit.2
call_read law newest place (GetManifest c n) is fit = get_manifest_read newest place c n (account_bytes place is) (name_bytes c fit.0) (text_bytes 1024 n fit.1.1)
call_read law newest place (DeleteObject c n) is fit =
    object_row newest place (DeleteObject c n) c n (account_bytes place is) (name_bytes c fit.0) (text_bytes 1024 n fit.1.1) refl refl
