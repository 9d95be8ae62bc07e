-- The head of a call that is written is accepted.
use Rattle.std.proofs.Common.{◌≡◌, ℕ, ◌≤◌, Bool, true, false, ◌&&◌, List, [], ◌∷◌, ◌++◌, length, Some, None, Option, refl, ◌∙◌, arith}
use Rattle.std.specs.Prelude.{codes, decimal, IfSome}
use Rattle.std.specs.List.{list_all}
use Rattle.std.proofs.lemmas.Bool.{and_parts, and_from}
use Rattle.std.proofs.lemmas.List.Folds.{list_all-append}
use Rattle.gate_base.specs.Ascii.{is_visible}
use Rattle.http1.specs.Head.{is_trimmed_value, are_headers}
use Rattle.httparse.specs.Grammar.{is_token, is_token_byte}
use Rattle.gate_base.specs.Fields.{is_field}
use Rattle.swift_calls.specs.Limits.{IsRange}
use Rattle.swift_calls.specs.Step.{IsMoment, Fit}
use Rattle.swift_calls.specs.declared.account.ReadList.{ReadList}
use Rattle.swift_calls.specs.declared.account.ReadList.TheVariants.{Nobody, Everybody}
use Rattle.swift_calls.specs.declared.calls.SwiftRequest.{SwiftRequest}
use Rattle.swift_calls.specs.declared.calls.SwiftRequest.TheVariants.{
  ListContainers,
  HeadContainer,
  PutContainer,
  PostContainer,
  DeleteContainer,
  ListNames,
  PutObject,
  PutManifest,
  HeadObject,
  GetObject,
  GetManifest,
  DeleteObject,
}
use Rattle.swift_replies.specs.AnswerText.{readers_text, created_fields, meta_fields}
use Rattle.swift_requests.specs.CallText.{newest_fields, fresh_fields, own_fields, call_fields, body_of, range_fields}
use Rattle.swift_requests.specs.Place.{IsPlace, is_place_text}
use Rattle.swift_requests.specs.declared.place.Place.{Place}
use Rattle.swift_requests.proofs.ManifestLemmas.{text_size}
use Rattle.swift_replies.proofs.lemmas.Sizes.{few}
use Rattle.swift_replies.proofs.lemmas.GoodFields.{AreGood, decimal_visible, good-append, meta_good, named_ok, value_trimmed, visible_trimmed}

pieces_trimmed : (pieces : List (List ℕ)) → list_all (is_field 256) pieces ≡ true → list_all is_trimmed_value pieces ≡ true
pieces_trimmed [] all = refl
pieces_trimmed (piece ∷ pieces) all =
    let parts = and_parts (is_field 256 piece) (list_all (is_field 256) pieces) all in
    and_from _ _ (value_trimmed 256 piece parts.0) (pieces_trimmed pieces parts.1)

record Tokens : Type 0 where
  host : is_token (codes "Host") ≡ true
  token : is_token (codes "X-Auth-Token") ≡ true
  size : is_token (codes "Content-Length") ≡ true
  readers : is_token (codes "X-Container-Read") ≡ true
  created : is_token (codes "X-Container-Meta-S3-Created") ≡ true
  type : is_token (codes "Content-Type") ≡ true
  range : is_token (codes "Range") ≡ true
  newest : is_token (codes "X-Newest") ≡ true
  fresh : is_token (codes "If-None-Match") ≡ true

tokens : Tokens
unfolding is_token_byte
tokens = record { host = refl; token = refl; size = refl; readers = refl; created = refl; type = refl; range = refl; newest = refl; fresh = refl }

readers_good : (readers : ReadList) → is_trimmed_value (readers_text readers) ≡ true
readers_good Nobody = refl
readers_good Everybody = visible_trimmed (readers_text Everybody) refl

created_good : (created : Option ℕ) → IfSome created IsMoment → AreGood (created_fields created)
created_good None moment = refl
created_good (Some created) moment =
    and_from _ _ (named_ok (codes "X-Container-Meta-S3-Created") (decimal created) tokens.created (visible_trimmed (decimal created) (decimal_visible created (omega (arith, moment))))) refl

range_good : (range : Option (ℕ × ℕ)) → IfSome range IsRange → AreGood (range_fields range)
range_good None within = refl
range_good (Some range) within =
    let first = decimal_visible range.0 (omega (arith, within.0, within.1)) in
    let last = decimal_visible range.1 (omega (arith, within.1)) in
    let all : list_all is_visible (codes "bytes=" ++ decimal range.0 ++ codes "-" ++ decimal range.1) ≡ true =
    list_all-append is_visible (codes "bytes=" ++ decimal range.0 ++ codes "-") (decimal range.1)
    ∙ and_from _ _ (list_all-append is_visible (codes "bytes=" ++ decimal range.0) (codes "-")
    ∙ and_from _ _ (list_all-append is_visible (codes "bytes=") (decimal range.0) ∙ and_from _ _ refl first) refl) last in
    and_from _ _ (named_ok (codes "Range") (codes "bytes=" ++ decimal range.0 ++ codes "-" ++ decimal range.1) tokens.range (visible_trimmed (codes "bytes=" ++ decimal range.0 ++ codes "-" ++ decimal range.1) all)) refl

fresh_good : (fresh : Bool) → AreGood (fresh_fields fresh)
fresh_good false = refl
fresh_good true = and_from _ _ (named_ok (codes "If-None-Match") (codes "*") tokens.fresh (visible_trimmed (codes "*") refl)) refl

own_good : (call : SwiftRequest) → Fit call → AreGood (own_fields call)
own_good (ListContainers marker limit) fit = refl
own_good (HeadContainer container) fit = refl
own_good (PutContainer container readers created) fit =
    and_from _ _ (named_ok (codes "X-Container-Read") (readers_text readers) tokens.readers (readers_good readers)) (created_good created fit.1)
own_good (PostContainer container readers) fit =
    and_from _ _ (named_ok (codes "X-Container-Read") (readers_text readers) tokens.readers (readers_good readers)) refl
own_good (DeleteContainer container) fit = refl
own_good (ListNames container prefix marker limit) fit = refl
own_good (PutObject put) fit =
    and_from _ _ (named_ok (codes "Content-Type") put.content_type tokens.type (value_trimmed 512 put.content_type fit.2))
    (good-append (meta_fields 0 put.meta) (fresh_fields put.fresh)
    (meta_good 0 put.meta (omega (arith, few put.meta fit.3)) (pieces_trimmed put.meta (and_parts _ (list_all (is_field 256) put.meta) fit.3).1))
    (fresh_good put.fresh))
own_good (PutManifest container name content_type meta segments) fit =
    and_from _ _ (named_ok (codes "Content-Type") content_type tokens.type (value_trimmed 512 content_type fit.2))
    (meta_good 0 meta (omega (arith, few meta fit.3)) (pieces_trimmed meta (and_parts _ (list_all (is_field 256) meta) fit.3).1))
own_good (HeadObject container name) fit = refl
own_good (GetObject container name range) fit = range_good range fit.2
own_good (GetManifest container name) fit = refl
own_good (DeleteObject container name) fit = refl

asked_good : (newest : Bool) (call : SwiftRequest) → Fit call → AreGood (newest_fields newest ++ own_fields call)
asked_good false call fit = own_good call fit
asked_good true call fit = and_from _ _ (named_ok (codes "X-Newest") (codes "true") tokens.newest (visible_trimmed (codes "true") refl)) (own_good call fit)

place_visible : (text : List ℕ) → is_place_text text ≡ true → list_all is_visible text ≡ true
place_visible text is = (and_parts _ (list_all is_visible text) is).1

pub body_small : (call : SwiftRequest) → Fit call → length (body_of call) ≤ 1073741824
body_small (ListContainers marker limit) fit = omega arith
body_small (HeadContainer container) fit = omega arith
body_small (PutContainer container readers created) fit = omega arith
body_small (PostContainer container readers) fit = omega arith
body_small (DeleteContainer container) fit = omega arith
body_small (ListNames container prefix marker limit) fit = omega arith
body_small (PutObject put) fit = fit.4
body_small (PutManifest container name content_type meta segments) fit = omega (arith, text_size segments fit.4 fit.5)
body_small (HeadObject container name) fit = omega arith
body_small (GetObject container name range) fit = omega arith
body_small (GetManifest container name) fit = omega arith
body_small (DeleteObject container name) fit = omega arith

pub fields_good : (newest : Bool) (place : Place) (call : SwiftRequest) → IsPlace place → Fit call → are_headers (call_fields newest place call) ≡ true
unfolding are_headers
fields_good newest place call is fit =
    let outer = and_parts (is_place_text place.host && is_place_text place.account) (is_place_text place.token) is in
    let inner = and_parts (is_place_text place.host) (is_place_text place.account) outer.0 in
    let size = decimal_visible (length (body_of call)) (omega (arith, body_small call fit)) in
    and_from _ _ (named_ok (codes "Host") place.host tokens.host (visible_trimmed place.host (place_visible place.host inner.0)))
    (and_from _ _ (named_ok (codes "X-Auth-Token") place.token tokens.token (visible_trimmed place.token (place_visible place.token outer.1)))
    (good-append (newest_fields newest ++ own_fields call) ((codes "Content-Length", decimal (length (body_of call))) ∷ []) (asked_good newest call fit)
    (and_from _ _ (named_ok (codes "Content-Length") (decimal (length (body_of call))) tokens.size (visible_trimmed (decimal (length (body_of call))) size)) refl)))
