-- The row of a read list and a creation time is read back.
use Rattle.std.proofs.Common.{◌≡◌, ℕ, ◌+◌, ◌<◌, ◌≤◌, Bool, true, false, List, [], ◌∷◌, ◌++◌, length, map, Option, Some, None, option_map, option_and_then, refl, ap, ◌∙◌, length-append, arith}
use Rattle.std.specs.Prelude.{◌&&◌, codes, decimal, nat_lt, is_some, if◌then◌else◌}
use Rattle.std.proofs.lemmas.Bool.{and_from, ltb-true, false≢true}
use Rattle.std.proofs.lemmas.Fmt.{length-decimal-le}
use Rattle.gate_base.specs.Told.{moment_limit}
use Rattle.httparse.specs.Grammar.{is_token_byte}
use Rattle.http1.specs.Head.{are_headers, is_trimmed_value, print_header, print_headers}
use Rattle.swift_calls.specs.declared.account.ReadList.{ReadList}
use Rattle.swift_calls.specs.declared.account.ReadList.TheVariants.{Nobody, Everybody}
use Rattle.swift_calls.specs.declared.calls.SwiftRequest.TheVariants.{HeadContainer}
use Rattle.swift_calls.specs.declared.calls.SwiftReply.{SwiftReply}
use Rattle.swift_calls.specs.declared.calls.SwiftReply.TheVariants.{Readers}
use Rattle.swift_replies.specs.Fields.{before_limit, moment_in, container_readers_by_value}
use Rattle.http_answers.specs.Framing.{expected}
use Rattle.http_answers.proofs.lemmas.NumberLemmas.{plain_decimal}
use Rattle.swift_replies.specs.Answers.{SpellsAnswer, both, reply_of}
use Rattle.swift_replies.specs.AnswerText.{Sent, created_fields, head_text, is_spelled_created, length_field, readers_fields, readers_sent, readers_text, status_line, text_by}
use Rattle.swift_replies.proofs.lemmas.BareRows.{zero_text}
use Rattle.swift_replies.proofs.lemmas.ReadBack.{lowered, said_by, written_spells}
use Rattle.swift_replies.proofs.lemmas.ValueRows.{decimal_trimmed}

pub moment_back : (moment : ℕ) → nat_lt moment moment_limit ≡ true → moment_in (decimal moment) ≡ Some moment
moment_back moment fine =
    let below : moment < 253402300800 = ltb-true moment moment_limit fine in
    ap (option_and_then before_limit) (plain_decimal moment (omega (arith, below))) ∙ ap (λ b. if b then Some moment else None) fine

pub readers_back : (readers : ReadList) → container_readers_by_value (readers_text readers) ≡ Some readers
readers_back Nobody = refl
readers_back Everybody = refl

readers_trimmed : (readers : ReadList) → is_trimmed_value (readers_text readers) ≡ true
readers_trimmed Nobody = refl
readers_trimmed Everybody = refl

readers_length : (readers : ReadList) → length (readers_text readers) ≤ 15
readers_length Nobody = omega arith
readers_length Everybody = omega arith

abbrev readers_by_parts : ReadList → Option ℕ → Sent
readers_by_parts readers created = record { status = 204; headers = readers_fields readers created; body = [] }

-- ---- the headers can be sent

created_sendable : (created : Option ℕ) → is_spelled_created created ≡ true → are_headers (created_fields created) ≡ true
unfolding are_headers is_token_byte
created_sendable None fine = refl
created_sendable (Some moment) fine =
    let below : moment < 253402300800 = ltb-true moment moment_limit fine in
    ap (λ b. b && true) (decimal_trimmed moment (omega (arith, below)))

sendable : (readers : ReadList) (created : Option ℕ) → is_spelled_created created ≡ true → are_headers (readers_fields readers created) ≡ true
unfolding are_headers is_token_byte
sendable readers created fine =
    ap (λ v. are_headers ((codes "Content-Length", v) ∷ (codes "X-Container-Read", readers_text readers) ∷ created_fields created)) zero_text
    ∙ and_from (is_trimmed_value (readers_text readers)) (are_headers (created_fields created)) (readers_trimmed readers) (created_sendable created fine)

-- ---- the head is short

pub header_length : (name value : List ℕ) → length (print_header (name, value)) ≡ length name + length value + 4
header_length name value =
    omega (arith, length-append (name ++ 58 ∷ 32 ∷ value) (13 ∷ 10 ∷ []), length-append name (58 ∷ 32 ∷ value), length-append name (58 ∷ 32 ∷ (value ++ 13 ∷ 10 ∷ [])), length-append value (13 ∷ 10 ∷ []))

created_length : (created : Option ℕ) → is_spelled_created created ≡ true → length (print_headers (created_fields created)) ≤ 100
created_length None fine = omega arith
created_length (Some moment) fine =
    let below : moment < 253402300800 = ltb-true moment moment_limit fine in
    omega (
      arith,
      length-append (print_header (codes "X-Container-Meta-S3-Created", decimal moment)) [],
      header_length (codes "X-Container-Meta-S3-Created") (decimal moment),
      length-decimal-le 19 moment (omega arith) (omega (arith, below)) (omega (arith, below)),
    )

short : (readers : ReadList) (created : Option ℕ) → is_spelled_created created ≡ true → length (head_text (readers_by_parts readers created)) ≤ 65536
short readers created fine =
    let front : List ℕ = print_header (length_field 0) in
    let second : List ℕ = print_header (codes "X-Container-Read", readers_text readers) in
    let rest : List ℕ = print_headers (created_fields created) in
    omega (
      arith,
      length-append (status_line 204) ((front ++ (second ++ rest)) ++ 13 ∷ 10 ∷ []),
      length-append (front ++ (second ++ rest)) (13 ∷ 10 ∷ []),
      length-append front (second ++ rest),
      length-append second rest,
      header_length (codes "Content-Length") (decimal 0),
      header_length (codes "X-Container-Read") (readers_text readers),
      ap length zero_text,
      readers_length readers,
      created_length created fine,
    )

-- ---- the row

no_body : (readers : ReadList) (created : Option ℕ) → expected true 204 (map lowered (readers_fields readers created)) ≡ Some 0
no_body readers None = refl
no_body readers (Some moment) = refl

abbrev reply : ReadList → Option ℕ → SwiftReply
reply readers created = Readers readers created

gives : (container : List ℕ) (readers : ReadList) (created : Option ℕ) → is_spelled_created created ≡ true
    → reply_of (HeadContainer container) (said_by (readers_by_parts readers created)) ≡ Some (Readers readers created)
gives container readers None fine = ap (λ v. both reply v (Some None)) (readers_back readers)
gives container readers (Some moment) fine =
    ap (λ v. both reply v (option_map (λ m. Some m) (moment_in (decimal moment)))) (readers_back readers)
    ∙ ap (λ v. both reply (Some readers) (option_map (λ m. Some m) v)) (moment_back moment fine)

pub readers_reads_back : (container : List ℕ) (readers : ReadList) (created : Option ℕ) → is_some (readers_sent readers created) ≡ true
    → SpellsAnswer (HeadContainer container) (Readers readers created) (text_by (readers_sent readers created))
readers_reads_back container readers created some = by_created (is_spelled_created created) refl some
  where
    by_created : (b : Bool) → is_spelled_created created ≡ b → is_some (if b then Some (readers_by_parts readers created) else None) ≡ true
        → SpellsAnswer (HeadContainer container) (Readers readers created) (text_by (if b then Some (readers_by_parts readers created) else None))
    by_created true fine some =
        written_spells (HeadContainer container) (Readers readers created) (readers_by_parts readers created) refl (sendable readers created fine)
        (short readers created fine) (no_body readers created) (gives container readers created fine)
    by_created false other some = absurd (false≢true some)
