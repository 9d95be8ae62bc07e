-- The rows of the two listings are read back.
use Rattle.std.proofs.Common.{◌≡◌, ℕ, ◌^◌, ◌<◌, ◌≤◌, Bool, true, false, List, [], ◌∷◌, ◌++◌, length, map, Some, None, option_map, refl, ap, ◌∙◌, length-append, arith}
use Rattle.std.specs.Prelude.{◌&&◌, codes, decimal, is_some, if◌then◌else◌}
use Rattle.std.specs.List.{list_all}
use Rattle.std.specs.Str.{is_utf8}
use Rattle.std.proofs.lemmas.Bool.{false≢true}
use Rattle.std.proofs.lemmas.Fmt.{length-decimal-le}
use Rattle.httparse.specs.Grammar.{is_token_byte}
use Rattle.http1.specs.Head.{are_headers, print_header}
use Rattle.swift_calls.specs.declared.heads.NameItem.{NameItem}
use Rattle.swift_calls.specs.declared.calls.SwiftRequest.{SwiftRequest}
use Rattle.swift_calls.specs.declared.calls.SwiftRequest.TheVariants.{ListContainers, ListNames}
use Rattle.swift_calls.specs.declared.calls.SwiftReply.{SwiftReply}
use Rattle.swift_calls.specs.declared.calls.SwiftReply.TheVariants.{Containers, Names}
use Rattle.http_answers.specs.Framing.{expected}
use Rattle.swift_replies.specs.Answers.{SpellsAnswer, asks_head, container_name, name_item, reply_of}
use Rattle.swift_replies.specs.AnswerText.{Sent, answer_text, container_value, head_text, is_spelled_name_item, is_spelled, item_value, length_field, list_sent, list_text, sent_text, status_line, text_by}
use Rattle.swift_replies.proofs.ListJsonLemmas.{container_back, container_read, item_back, item_read, list_back}
use Rattle.swift_replies.proofs.lemmas.ReadBack.{lowered, said_by, written_spells}
use Rattle.swift_replies.proofs.lemmas.ReadersRow.{header_length}
use Rattle.swift_replies.proofs.lemmas.ValueRows.{decimal_trimmed, number_back}

-- ---- an answer with a list

sendable : (count : ℕ) → count < 2 ^ 64 → are_headers (length_field count ∷ []) ≡ true
unfolding are_headers is_token_byte
sendable count fits = ap (λ b. b && true) (decimal_trimmed count fits)

short : (text : List ℕ) → length text < 10 ^ 19 → length (head_text (list_sent text)) ≤ 65536
short text small =
    let field : List ℕ = print_header (length_field (length text)) in
    omega (
      arith,
      length-append (status_line 200) ((field ++ []) ++ 13 ∷ 10 ∷ []),
      length-append (field ++ []) (13 ∷ 10 ∷ []),
      length-append field [],
      header_length (codes "Content-Length") (decimal (length text)),
      length-decimal-le 19 (length text) (omega arith) small (omega (arith, small)),
    )

-- a list whose answer is no longer than bytes can be
body_small : (text : List ℕ) → length (sent_text (list_sent text)) < 2 ^ 63 → length text < 10 ^ 19
body_small text within = omega (arith, within, length-append (head_text (list_sent text)) text)

list_spells : (call : SwiftRequest) (reply : SwiftReply) (text : List ℕ) → asks_head call ≡ false
    → reply_of call (said_by (list_sent text)) ≡ Some reply → length (sent_text (list_sent text)) < 2 ^ 63
    → SpellsAnswer call reply (sent_text (list_sent text))
list_spells call reply text asks gives within =
    let small : length text < 10 ^ 19 = body_small text within in
    let due : expected (asks_head call) 200 (map lowered (length_field (length text) ∷ [])) ≡ Some (length text) =
    ap (λ head. expected head 200 (map lowered (length_field (length text) ∷ []))) asks ∙ number_back (length text) small in
    written_spells call reply (list_sent text) refl (sendable (length text) (omega (arith, small))) (short text small) due gives

-- what has a spelling just where it passes a test passes it
passed : (b : Bool) (s : Sent) (P : List ℕ → Type 0) → is_some (if b then Some s else None) ≡ true → (b ≡ true → P (sent_text s))
    → P (text_by (if b then Some s else None))
passed true s P some given = given refl
passed false s P some given = absurd (false≢true some)

-- ---- the rows

abbrev IsBack : SwiftRequest → SwiftReply → List ℕ → Type 0
IsBack call reply text = length text < 2 ^ 63 → SpellsAnswer call reply text

pub containers_read_back : (marker : List ℕ) (limit : ℕ) (names : List (List ℕ)) → is_spelled (ListContainers marker limit) (Containers names) ≡ true
    → length (answer_text (ListContainers marker limit) (Containers names)) < 2 ^ 63
    → SpellsAnswer (ListContainers marker limit) (Containers names) (answer_text (ListContainers marker limit) (Containers names))
containers_read_back marker limit names some =
    passed (list_all is_utf8 names) (list_sent text) (IsBack call (Containers names)) some
    (λ all. list_spells call (Containers names) text refl
    (ap (option_map (λ v. Containers v)) (list_back is_utf8 container_value container_name container_read container_back names all)))
  where
    call : SwiftRequest
    call = ListContainers marker limit

    text : List ℕ
    text = list_text (map container_value names)

pub names_read_back : (container prefix marker : List ℕ) (limit : ℕ) (items : List NameItem)
    → is_spelled (ListNames container prefix marker limit) (Names items) ≡ true
    → length (answer_text (ListNames container prefix marker limit) (Names items)) < 2 ^ 63
    → SpellsAnswer (ListNames container prefix marker limit) (Names items) (answer_text (ListNames container prefix marker limit) (Names items))
names_read_back container prefix marker limit items some =
    passed (list_all is_spelled_name_item items) (list_sent text) (IsBack call (Names items)) some
    (λ all. list_spells call (Names items) text refl
    (ap (option_map (λ v. Names v)) (list_back is_spelled_name_item item_value name_item item_read item_back items all)))
  where
    call : SwiftRequest
    call = ListNames container prefix marker limit

    text : List ℕ
    text = list_text (map item_value items)
