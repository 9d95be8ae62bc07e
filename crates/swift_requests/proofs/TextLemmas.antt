-- The text of a call, part by part.
use Rattle.std.proofs.Common.{◌≡◌, Bool, ℕ, ◌+◌, List, [], ◌∷◌, ◌++◌, Ok, Err, ap, sym, ◌∙◌, append_assoc, append-nil}
use Rattle.std.specs.Prelude.{Result, OnOk, codes}
use Rattle.std.proofs.lemmas.Grind.{flat_map-append}
use Rattle.http1.specs.Fields.{Header}
use Rattle.http1.specs.Head.{print_header, print_headers, request_text}
use Rattle.httparse.specs.Ascii.{crlf_bytes}
use Rattle.http1.proofs.HeadLemmas.{request_text_is}
use Rattle.swift_calls.specs.declared.calls.SwiftRequest.{SwiftRequest}
use Rattle.swift_requests.specs.CallText.{method_text, target_text, line_text, call_fields, body_of, call_text}
use Rattle.swift_requests.specs.declared.place.Place.{Place}

pub on_ok : {T E : Type 0} (result : Result T E) (P Q : Type 0) → (P → Q) → OnOk result P → OnOk result Q
on_ok (Ok value) P Q f fact = f fact
on_ok (Err fault) P Q f fact = fact

pub print_headers-append : (first second : List Header) → print_headers (first ++ second) ≡ print_headers first ++ print_headers second
print_headers-append first second = flat_map-append print_header first second

-- ---- texts in a row

pub two_parts : (old mid new a b : List ℕ) → mid ≡ old ++ a → new ≡ mid ++ b → new ≡ old ++ (a ++ b)
two_parts old mid new a b first second = second ∙ ap (λ t. t ++ b) first ∙ append_assoc old a b

-- one header behind a text
pub one_field : (text : List ℕ) (h : Header) → text ++ print_header h ≡ text ++ print_headers (h ∷ [])
one_field text h = ap (λ t. text ++ t) (sym (append-nil (print_header h)))

pub last_header : (fields : List Header) (last : Header) → print_headers (fields ++ last ∷ []) ≡ print_headers fields ++ print_header last
last_header fields last =
    print_headers-append fields (last ∷ []) ∙ ap (λ t. print_headers fields ++ t) (append-nil (print_header last))

pub four_parts : (old one two three new a b c d all : List ℕ) → one ≡ old ++ a → two ≡ one ++ b → three ≡ two ++ c → new ≡ three ++ d → all ≡ c ++ d
    → new ≡ old ++ (a ++ (b ++ all))
four_parts old one two three new a b c d all e1 e2 e3 e4 same =
    let up = two_parts old one two a b e1 e2 in
    let down = two_parts two three new c d e3 e4 in
    down ∙ ap (λ t. two ++ t) (sym same) ∙ ap (λ t. t ++ all) up ∙ append_assoc old (a ++ b) all ∙ ap (λ t. old ++ t) (append_assoc a b all)

line_is : (method target : List ℕ)
    → method ++ codes " " ++ target ++ codes " HTTP/1.1" ++ crlf_bytes ≡ method ++ (32 ∷ (target ++ (codes " HTTP/1." ++ ((48 + 1) ∷ 13 ∷ 10 ∷ []))))
line_is method target =
    append_assoc (method ++ codes " " ++ target) (codes " HTTP/1.1") crlf_bytes
    ∙ append_assoc (method ++ codes " ") target (codes " HTTP/1.1" ++ crlf_bytes)
    ∙ append_assoc method (codes " ") (target ++ (codes " HTTP/1.1" ++ crlf_bytes))

-- the head of a call is its request line, its fields and an empty line
pub head_is : (newest : Bool) (place : Place) (call : SwiftRequest)
    → request_text (method_text call) (target_text place call) 1 (call_fields newest place call) ≡ line_text place call ++ (print_headers (call_fields newest place call) ++ crlf_bytes)
head_is newest place call =
    sym (ap (λ line. line ++ (print_headers (call_fields newest place call) ++ crlf_bytes)) (line_is (method_text call) (target_text place call))
    ∙ request_text_is (method_text call) (target_text place call) 1 (call_fields newest place call))

pub call_text_is : (newest : Bool) (place : Place) (call : SwiftRequest)
    → (line_text place call ++ (print_headers (call_fields newest place call) ++ crlf_bytes)) ++ body_of call ≡ call_text newest place call
call_text_is newest place call =
    ap (λ line. (line ++ (print_headers (call_fields newest place call) ++ crlf_bytes)) ++ body_of call) (line_is (method_text call) (target_text place call))
    ∙ ap (λ t. t ++ body_of call) (request_text_is (method_text call) (target_text place call) 1 (call_fields newest place call))

pub whole_text : (newest : Bool) (place : Place) (call : SwiftRequest) (start line fields last new body : List ℕ) → start ≡ [] → line ≡ start ++ line_text place call
    → fields ≡ line ++ print_headers (call_fields newest place call) → last ≡ fields ++ crlf_bytes → new ≡ last ++ body → body ≡ body_of call
    → new ≡ call_text newest place call
whole_text newest place call start line fields last new body e0 e1 e2 e3 e4 same =
    e4
    ∙ ap (λ t. t ++ body) (two_parts line fields last (print_headers (call_fields newest place call)) crlf_bytes e2 e3
    ∙ ap (λ t. t ++ (print_headers (call_fields newest place call) ++ crlf_bytes)) (e1 ∙ ap (λ t. t ++ line_text place call) e0))
    ∙ ap (λ t. (line_text place call ++ (print_headers (call_fields newest place call) ++ crlf_bytes)) ++ t) same ∙ call_text_is newest place call
