-- The row of the segments that an object lists is read back.
use Rattle.std.proofs.Common.{◌≡◌, ℕ, ◌^◌, ◌<◌, ◌≤◌, Bool, true, false, List, [], ◌∷◌, ◌++◌, length, map, Some, None, option_map, refl, sym, ap, length-append, arith}
use Rattle.std.specs.Prelude.{◌&&◌, codes, decimal, is_some, if◌then◌else◌}
use Rattle.std.proofs.lemmas.Bool.{false≢true}
use Rattle.std.proofs.lemmas.Fmt.{length-decimal-le}
use Rattle.httparse.specs.Grammar.{is_token_byte}
use Rattle.http1.specs.Head.{are_headers, print_header}
use Rattle.slo_manifest.specs.Laws.{TextReadsBack}
use Rattle.slo_manifest.specs.Segments.{is_manifest}
use Rattle.slo_manifest.specs.Text.{manifest_text}
use Rattle.slo_manifest.specs.declared.Segment.{Segment}
use Rattle.slo_manifest.specs.declared.manifest.Form.{Form}
use Rattle.slo_manifest.specs.declared.manifest.Form.TheVariants.{Got}
use Rattle.swift_calls.specs.declared.calls.SwiftRequest.TheVariants.{GetManifest}
use Rattle.swift_calls.specs.declared.calls.SwiftReply.TheVariants.{Manifest}
use Rattle.http_answers.specs.Framing.{expected}
use Rattle.swift_replies.specs.Answers.{SpellsAnswer, segments_in}
use Rattle.swift_replies.specs.AnswerText.{Sent, answer_text, head_text, is_spelled, length_field, manifest_fields, segments_by, sent_text, status_line, text_by}
use Rattle.swift_replies.proofs.ManifestLemmas.{segments_read}
use Rattle.swift_replies.proofs.lemmas.ReadBack.{lowered, written_spells}
use Rattle.swift_replies.proofs.lemmas.ReadersRow.{header_length}
use Rattle.swift_replies.proofs.lemmas.ValueRows.{decimal_trimmed, number_back}

-- the text of segments is read as they are
pub segments_back : TextReadsBack → (form : Form) (segments : List Segment) → is_manifest segments ≡ true → segments_in form (manifest_text form segments) ≡ Some segments
segments_back law form segments is = sym (segments_read form (manifest_text form segments) segments (law form segments is))

sendable : (count : ℕ) → count < 2 ^ 64 → are_headers (length_field count ∷ manifest_fields true) ≡ true
unfolding are_headers is_token_byte
sendable count fits = ap (λ b. b && true) (decimal_trimmed count fits)

short : (text : List ℕ) → length text < 10 ^ 19 → length (head_text (segments_by text)) ≤ 65536
short text small =
    let field : List ℕ = print_header (length_field (length text)) in
    let other : List ℕ = print_header (codes "X-Static-Large-Object", codes "True") in
    omega (
      arith,
      length-append (status_line 200) ((field ++ (other ++ [])) ++ 13 ∷ 10 ∷ []),
      length-append (field ++ (other ++ [])) (13 ∷ 10 ∷ []),
      length-append field (other ++ []),
      length-append other [],
      header_length (codes "Content-Length") (decimal (length text)),
      header_length (codes "X-Static-Large-Object") (codes "True"),
      length-decimal-le 19 (length text) (omega arith) small (omega (arith, small)),
    )

-- a text whose answer is no longer than bytes can be
body_small : (text : List ℕ) → length (sent_text (segments_by text)) < 2 ^ 63 → length text < 10 ^ 19
body_small text within = omega (arith, within, length-append (head_text (segments_by text)) text)

text_spells : (container name : List ℕ) (segments : List Segment) (text : List ℕ) → segments_in Got text ≡ Some segments
    → length (sent_text (segments_by text)) < 2 ^ 63 → SpellsAnswer (GetManifest container name) (Manifest segments) (sent_text (segments_by text))
text_spells container name segments text back within =
    let small : length text < 10 ^ 19 = body_small text within in
    let due : expected false 200 (map lowered (length_field (length text) ∷ manifest_fields true)) ≡ Some (length text) = number_back (length text) small in
    written_spells (GetManifest container name) (Manifest segments) (segments_by text) refl (sendable (length text) (omega (arith, small))) (short text small) due
    (ap (option_map (λ v. Manifest v)) back)

pub segments_read_back : TextReadsBack → (container name : List ℕ) (segments : List Segment) → is_spelled (GetManifest container name) (Manifest segments) ≡ true
    → length (answer_text (GetManifest container name) (Manifest segments)) < 2 ^ 63
    → SpellsAnswer (GetManifest container name) (Manifest segments) (answer_text (GetManifest container name) (Manifest segments))
segments_read_back law container name segments some within = by_test (is_manifest segments) refl some within
  where
    s : Sent
    s = segments_by (manifest_text Got segments)

    by_test : (b : Bool) → is_manifest segments ≡ b → is_some (if b then Some s else None) ≡ true → length (text_by (if b then Some s else None)) < 2 ^ 63
        → SpellsAnswer (GetManifest container name) (Manifest segments) (text_by (if b then Some s else None))
    by_test true is some within = text_spells container name segments (manifest_text Got segments) (segments_back law Got segments is) within
    by_test false other some within = absurd (false≢true some)
