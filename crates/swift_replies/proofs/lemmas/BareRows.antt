-- The answers that say their status alone are read back.
use Rattle.std.proofs.Common.{◌≡◌, ℕ, ◌≤◌, Bool, true, false, List, [], ◌∷◌, length, map, Option, Some, refl, ap, ◌∙◌, arith}
use Rattle.std.specs.Prelude.{codes, decimal, nat_le, if◌then◌else◌}
use Rattle.std.proofs.lemmas.Fmt.{decimal_digit}
use Rattle.std.proofs.lemmas.Bool.{leb-true}
use Rattle.httparse.specs.Grammar.{is_token_byte}
use Rattle.http1.specs.Head.{are_headers, is_status_line, section_text}
use Rattle.swift_calls.specs.declared.calls.SwiftRequest.{SwiftRequest}
use Rattle.swift_calls.specs.declared.calls.SwiftReply.{SwiftReply}
use Rattle.swift_calls.specs.declared.calls.SwiftReply.TheVariants.{Gone, NotFound}
use Rattle.text_forms.specs.Numbers.{number_of}
use Rattle.http_answers.specs.Framing.{expected, is_bodiless}
use Rattle.swift_replies.specs.Answers.{asks_head, reply_of, SpellsAnswer}
use Rattle.swift_replies.specs.AnswerText.{Field, bare, head_text, length_field, phrase_of, refusal, status_line}
use Rattle.swift_replies.proofs.lemmas.ReadBack.{lowered, said_by, written_spells}

-- no body is written as this length
pub zero_text : decimal 0 ≡ 48 ∷ []
zero_text = decimal_digit 0 (omega arith)

abbrev zero_field : List ℕ → List Field
zero_field value = (codes "Content-Length", value) ∷ []

sendable : are_headers (length_field 0 ∷ []) ≡ true
unfolding are_headers is_token_byte
sendable = ap (λ v. are_headers (zero_field v)) zero_text

abbrev no_size : Option ℕ
no_size = Some 0

same_if : (b : Bool) → (if b then no_size else no_size) ≡ no_size
same_if true = refl
same_if false = refl

no_body : (head : Bool) (status : ℕ) → expected head status (map lowered (length_field 0 ∷ [])) ≡ no_size
unfolding number_of
no_body head status = ap (λ v. expected head status (map lowered (zero_field v))) zero_text ∙ same_if (is_bodiless head status)

abbrev IsShort : ℕ → Type 0
IsShort status = length (head_text (bare status)) ≤ 65536

short_by : (status : ℕ) → nat_le (length (section_text (status_line status) (zero_field (48 ∷ [])))) 65536 ≡ true → IsShort status
short_by status short =
    leb-true (length (head_text (bare status))) 65536 (ap (λ v. nat_le (length (section_text (status_line status) (zero_field v))) 65536) zero_text ∙ short)

pub bare_spells : (call : SwiftRequest) (reply : SwiftReply) (status : ℕ) → is_status_line 1 status (phrase_of status) ≡ true
    → nat_le (length (section_text (status_line status) (zero_field (48 ∷ [])))) 65536 ≡ true
    → reply_of call (said_by (bare status)) ≡ Some reply → SpellsAnswer call reply (refusal status)
bare_spells call reply status line short gives =
    written_spells call reply (bare status) line sendable (short_by status short) (no_body (asks_head call) status) gives

pub missing_spells : (call : SwiftRequest) → reply_of call (said_by (bare 404)) ≡ Some NotFound → SpellsAnswer call NotFound (refusal 404)
missing_spells call gives = bare_spells call NotFound 404 refl refl gives

pub gone_spells : (call : SwiftRequest) → reply_of call (said_by (bare 204)) ≡ Some Gone → SpellsAnswer call Gone (refusal 204)
gone_spells call gives = bare_spells call Gone 204 refl refl gives
