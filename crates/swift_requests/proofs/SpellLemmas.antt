-- The text of a call is one whole request that spells the call.
use Rattle.std.proofs.Common.{◌≡◌, ℕ, suc, ◌^◌, ◌<◌, ◌≤◌, Bool, true, false, ◌||◌, cond, List, [], ◌∷◌, ◌++◌, length, map, take, drop, Ok, Some, refl, ap, ap₂, sym, subst, ◌∙◌, arith, length-append}
use Rattle.std.specs.Prelude.{codes, decimal, nat_lt}
use Rattle.std.specs.Str.Parse.{digits_value}
use Rattle.std.proofs.lemmas.Bool.{cond-true, cond-false}
use Rattle.std.proofs.lemmas.Bool.Decides.{nat_tests}
use Rattle.std.proofs.Math.Seq.{drop-append_seam}
use Rattle.std.proofs.lemmas.List.{take_all}
use Rattle.http_wire.proofs.lemmas.UniqueLemmas.{one_spelling}
use Rattle.http1.specs.Fields.{Header}
use Rattle.http1.specs.Head.{are_headers, field_of, request_head, request_text}
use Rattle.http1.proofs.HeadRoundTrip.{request_reads_back, fields_read_back}
use Rattle.httparse.specs.Grammar.{Field, RequestHead}
use Rattle.httparse.specs.Spans.{name_and_value}
use Rattle.http_wire.specs.declared.message.Message.{Message}
use Rattle.http_wire.specs.declared.judge.TheConstants.{MOST_BODY_LIMIT}
use Rattle.http_wire.specs.FirstMessage.{Spells, header_of, message_of, judge, length_judged, value_judged, is_length, is_put}
use Rattle.http_wire.specs.Headers.{has_name, has_header, values_of}
use Rattle.slo_manifest.specs.Laws.{TextReadsBack}
use Rattle.swift_calls.specs.Step.{Fit}
use Rattle.swift_calls.specs.declared.calls.SwiftRequest.{SwiftRequest}
use Rattle.swift_requests.specs.CallText.{method_text, target_text, call_fields, body_of, call_message, call_text}
use Rattle.swift_replies.specs.AnswerText.{header_pair}
use Rattle.swift_requests.specs.Calls.{SpellsCall, SpellsRequest}
use Rattle.swift_requests.specs.Place.{IsPlace}
use Rattle.swift_requests.specs.declared.place.Place.{Place}
use Rattle.swift_requests.proofs.AcceptLemmas.{fields_good, body_small}
use Rattle.swift_requests.proofs.CallLemmas.{call_read}
use Rattle.swift_replies.proofs.lemmas.GivenLemmas.{given, given_step}
use Rattle.swift_requests.proofs.HeaderLemmas.{has_token, has_length, has_no_coding}
use Rattle.text_forms.proofs.lemmas.Decimals.{decimal_value}
use Rattle.http_answers.proofs.lemmas.NumberLemmas.{decimal_length}
use Rattle.swift_requests.proofs.SizeLemmas.{accepted, head_size, fields_count}

-- ---- the headers of the message

named_pairs : (fields : List Field) → map header_of fields ≡ map header_pair (map name_and_value fields)
named_pairs [] = refl
named_pairs (f ∷ fields) = ap (λ rest. header_of f ∷ rest) (named_pairs fields)

headers_are : (fields : List Header) → are_headers fields ≡ true → map header_of (map field_of fields) ≡ map header_pair fields
headers_are fields good = named_pairs (map field_of fields) ∙ ap (map header_pair) (fields_read_back fields good)

count_pairs : (fields : List Header) → length (map header_pair fields) ≡ length fields
count_pairs [] = refl
count_pairs (h ∷ fields) = ap suc (count_pairs fields)

no_header : (name : List ℕ) (fields : List Header) → given name fields ≡ [] → has_header name (map header_pair fields) ≡ false
no_header name [] none = refl
no_header name (h ∷ fields) none = by_test (has_name name (header_pair h)) (sym (given_step name h fields) ∙ none) (no_header name fields)
  where
    by_test : (b : Bool) → cond b (h.1 ∷ given name fields) (given name fields) ≡ [] → (given name fields ≡ [] → has_header name (map header_pair fields) ≡ false)
        → (b || has_header name (map header_pair fields)) ≡ false
    by_test true empty more = absurd (omega (arith, ap length empty))
    by_test false empty more = more empty

-- ---- the length of the body

value_taken : (n : ℕ) → n ≤ 1073741824 → value_judged MOST_BODY_LIMIT (decimal n) ≡ Ok n
value_taken n small =
    let fits : n < 2 ^ 64 = omega (arith, small) in
    let value : digits_value 10 (decimal n) ≡ n = decimal_value n fits in
    let test : nat_lt 1073741824 (digits_value 10 (decimal n)) ≡ false = grind (arith, nat_tests, value, small) in
    cond-true (is_length (decimal n)) _ _ (decimal_length n (omega (arith, small)))
    ∙ cond-false (nat_lt 1073741824 (digits_value 10 (decimal n))) _ _ test ∙ ap (λ k. Ok k) value

judged : (message : Message) (fields : List Header) (n : ℕ) → message.headers ≡ map header_pair fields → length fields ≤ 100
    → given (codes "transfer-encoding") fields ≡ [] → given (codes "content-length") fields ≡ decimal n ∷ [] → n ≤ 1073741824 → judge MOST_BODY_LIMIT message ≡ Ok n
judged message fields n headers count coding sizes small =
    let test : nat_lt 100 (length (map header_pair fields)) ≡ false = grind (arith, nat_tests, count_pairs fields, count) in
    cond-false (nat_lt 100 (length message.headers)) _ _ (ap (λ hs. nat_lt 100 (length hs)) headers ∙ test)
    ∙ cond-false (has_header (codes "transfer-encoding") message.headers) _ _
    (ap (has_header (codes "transfer-encoding")) headers ∙ no_header (codes "transfer-encoding") fields coding)
    ∙ ap (length_judged MOST_BODY_LIMIT (is_put message.method)) (ap (values_of (codes "content-length")) headers ∙ sizes)
    ∙ value_taken n small

-- ---- the whole request

abbrev head_of : Bool → Place → SwiftRequest → RequestHead
head_of newest place call = request_head (method_text call) (target_text place call) 1 (call_fields newest place call)

abbrev head_text : Bool → Place → SwiftRequest → List ℕ
head_text newest place call = request_text (method_text call) (target_text place call) 1 (call_fields newest place call)

pub spelled : (newest : Bool) (place : Place) (call : SwiftRequest) → IsPlace place → Fit call → Spells MOST_BODY_LIMIT (call_text newest place call) (call_message newest place call)
spelled newest place call is fit =
    let good = fields_good newest place call is fit in
    let headers = headers_are (call_fields newest place call) good in
    let reads = (request_reads_back (method_text call) (target_text place call) 1 (call_fields newest place call) (body_of call) (accepted newest place call is fit)).reads in
    let rest : drop (length (head_text newest place call)) (call_text newest place call) ≡ body_of call = drop-append_seam (head_text newest place call) (body_of call) in
    let small = body_small call fit in (
      head_of newest place call,
      length (head_text newest place call),
      length (body_of call),
      ((reads.0, reads.1 ∙ ap (λ t. head_text newest place call ++ t) (sym rest)), refl, omega (arith, head_size newest place call is fit)),
      judged (message_of (head_of newest place call)) (call_fields newest place call) (length (body_of call)) headers (omega (arith, fields_count newest place call fit))
          (has_no_coding newest place call) (has_length newest place call) small,
      length-append (head_text newest place call) (body_of call),
      ap₂ (λ hs body. record { method = method_text call; target = target_text place call; old = false; headers = hs; body = body }) (sym headers) (sym rest),
    )

-- what is written for a call spells it
pub written_spells : TextReadsBack → (newest : Bool) (place : Place) (call : SwiftRequest) → IsPlace place → Fit call → SpellsRequest place call (call_text newest place call)
written_spells law newest place call is fit = (call_message newest place call, spelled newest place call is fit, has_token newest place call, (call_read law newest place call is fit, fit))

pub head_is_small : (newest : Bool) (place : Place) (call : SwiftRequest) → IsPlace place → Fit call → length (head_text newest place call) < 16384
head_is_small newest place call is fit = omega (arith, head_size newest place call is fit)

pub fields_are_few : (newest : Bool) (place : Place) (call : SwiftRequest) → Fit call → length (call_fields newest place call) < 100
fields_are_few newest place call fit = omega (arith, fields_count newest place call fit)

-- ---- one call

same_some : {A : Type 0} (a b : A) → Some a ≡ Some b → a ≡ b
same_some a b same = cc

pub one_call : (place : Place) (message : Message) (a b : SwiftRequest) → SpellsCall place a message → SpellsCall place b message → a ≡ b
one_call place message a b first other = same_some a b (sym first.0 ∙ other.0)

one_message : (bytes : List ℕ) (a b : Message) → Spells MOST_BODY_LIMIT bytes a → Spells MOST_BODY_LIMIT bytes b → a ≡ b
one_message bytes a b first other =
    let all : take (length bytes) bytes ≡ bytes = take_all (length bytes) bytes (omega arith) in
    let S : Message → List ℕ → Type 0 = λ m t. Spells MOST_BODY_LIMIT t m in
    (one_spelling MOST_BODY_LIMIT bytes a b (length bytes) (length bytes) (omega arith) (omega arith) (subst (S a) (sym all) first) (subst (S b) (sym all) other)).1

pub one_request : (place : Place) (bytes : List ℕ) (a b : SwiftRequest) → SpellsRequest place a bytes → SpellsRequest place b bytes → a ≡ b
one_request place bytes a b (m, spelt, token, call) (n, spelled, ticket, other) =
    let S : Message → Type 0 = λ message. SpellsCall place b message in
    one_call place m a b call (subst S (sym (one_message bytes m n spelt spelled)) other)
