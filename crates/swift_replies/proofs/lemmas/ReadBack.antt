-- What is written is read back: the head, its headers and its body, and then each row.
use Rattle.std.proofs.Common.{◌≡◌, ℕ, ◌+◌, ◌≤◌, Bool, true, List, [], ◌∷◌, ◌++◌, length, drop, map, Some, None, refl, sym, ap, ◌∙◌, length-append, arith}
use Rattle.std.specs.Prelude.{if◌then◌else◌}
use Rattle.std.specs.Char.{to_ascii_lowercase}
use Rattle.std.proofs.Math.Seq.{drop-append_seam}
use Rattle.gate_base.specs.declared.page.Pair.{Pair}
use Rattle.httparse.specs.Grammar.{ResponseHead, ReadsResponse, print_response}
use Rattle.httparse.specs.Spans.{name_and_value}
use Rattle.http1.specs.Fields.{Header}
use Rattle.http1.specs.Head.{are_headers, is_status_line, head_refusal, field_of, response_head, response_text}
use Rattle.http1.specs.declared.error.WriteError.TheVariants.{InvalidStartLine, InvalidHeader}
use Rattle.http1.proofs.HeadLemmas.{response_text_is}
use Rattle.http1.proofs.HeadRoundTrip.{response_reads_back, ResponseReadsBack}
use Rattle.http_wire.specs.FirstMessage.{header_of}
use Rattle.swift_calls.specs.declared.calls.SwiftRequest.{SwiftRequest}
use Rattle.swift_calls.specs.declared.calls.SwiftReply.{SwiftReply}
use Rattle.http_answers.specs.Framing.{expected, expected_of, headers_in}
use Rattle.swift_replies.specs.Answers.{Said, asks_head, reply_of, said, SpellsAnswer}
use Rattle.swift_replies.specs.AnswerText.{Sent, head_text, sent_text, phrase_of}

-- a header as it is read
abbrev pub lowered : Header → Pair
lowered h = record { name = map to_ascii_lowercase h.0; value = h.1 }

map_twice : {A B C : Type 0} (f : A → B) (g : B → C) (xs : List A) → map g (map f xs) ≡ map (λ x. g (f x)) xs
map_twice f g [] = refl
map_twice f g (x ∷ xs) = ap (λ v. g (f x) ∷ v) (map_twice f g xs)

same_headers : (hs : List Header) → map name_and_value (map field_of hs) ≡ hs → map header_of (map field_of hs) ≡ map lowered hs
same_headers hs same =
    sym (map_twice name_and_value lowered (map field_of hs)) ∙ ap (map lowered) same

head_text_is : (s : Sent) → head_text s ≡ response_text 1 s.status (phrase_of s.status) s.headers
head_text_is s = response_text_is 1 s.status (phrase_of s.status) s.headers

accepted : (line : Bool) (hs : List Header) → line ≡ true → are_headers hs ≡ true → head_refusal line hs ≡ None
accepted line hs is fine =
    ap (λ b. if b then (if are_headers hs then None else Some InvalidHeader) else Some InvalidStartLine) is
    ∙ ap (λ b. if b then None else Some InvalidHeader) fine

-- what a sent answer says when it is read
abbrev pub said_by : Sent → Said
said_by s = record { status = s.status; headers = map lowered s.headers; body = s.body }

-- an answer that is written spells the reply that its parts give
pub written_spells : (call : SwiftRequest) (reply : SwiftReply) (s : Sent) → is_status_line 1 s.status (phrase_of s.status) ≡ true
    → are_headers s.headers ≡ true → length (head_text s) ≤ 65536
    → expected (asks_head call) s.status (map lowered s.headers) ≡ Some (length s.body)
    → reply_of call (said_by s) ≡ Some reply → SpellsAnswer call reply (sent_text s)
written_spells call reply s line fine short due gives = (h, n, length s.body, ((reads, refl, small), size, whole), says)
  where
    h : ResponseHead
    h = response_head 1 s.status (phrase_of s.status) s.headers

    n : ℕ
    n = length (print_response h)

    text : sent_text s ≡ print_response h ++ s.body
    text = ap (λ v. v ++ s.body) (head_text_is s)

    back : ResponseReadsBack 1 s.status (phrase_of s.status) s.headers s.body
    back = response_reads_back 1 s.status (phrase_of s.status) s.headers s.body (accepted _ s.headers line fine)

    body : drop n (sent_text s) ≡ s.body
    body = ap (drop n) text ∙ drop-append_seam (print_response h) s.body

    reads : ReadsResponse (sent_text s) h (drop n (sent_text s))
    reads = (back.reads.0, text ∙ ap (λ v. print_response h ++ v) (sym body))

    small : n ≤ 65536
    small = omega (arith, short, ap length (head_text_is s))

    headers : headers_in h ≡ map lowered s.headers
    headers = same_headers s.headers back.fields

    size : expected_of (asks_head call) h ≡ Some (length s.body)
    size = ap (λ v. expected (asks_head call) v (headers_in h)) back.code ∙ ap (expected (asks_head call) s.status) headers ∙ due

    whole : length (sent_text s) ≡ n + length s.body
    whole = ap length text ∙ length-append (print_response h) s.body

    same : said h (drop n (sent_text s)) ≡ said_by s
    same i = record { status = back.code i; headers = headers i; body = body i }

    says : reply_of call (said h (drop n (sent_text s))) ≡ Some reply
    says = ap (reply_of call) same ∙ gives
