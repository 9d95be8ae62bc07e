-- The head of an object is read back from the headers that write it, alone or before a Content-Range.
use Rattle.std.proofs.Common.{◌≡◌, ℕ, ◌^◌, ◌<◌, ◌≤◌, Bool, true, false, List, [], ◌∷◌, ◌++◌, length, map, Option, Some, None, refl, sym, ap, ap₂, ◌∙◌, append-nil, append_assoc, arith}
use Rattle.std.specs.Prelude.{◌&&◌, codes, decimal, bytes_eq, nat_le, option_and_then, if◌then◌else◌}
use Rattle.std.specs.Char.{to_ascii_lowercase}
use Rattle.std.specs.List.{list_all}
use Rattle.std.proofs.lemmas.Bool.{and_parts, and_from, ltb-true, leb-true}
use Rattle.gate_base.specs.declared.page.Pair.{Pair}
use Rattle.httparse.specs.Grammar.{is_token, is_token_byte}
use Rattle.http1.specs.Head.{are_headers, is_header, is_trimmed_value}
use Rattle.swift_calls.specs.declared.heads.StoredHead.{StoredHead}
use Rattle.http_answers.specs.Fields.{at_most_one, needed, size_from, answer_content_length}
use Rattle.swift_replies.specs.Fields.{head_from, head_in, manifest_from, reply_manifest_flag_in, meta_in, meta_name, tag_in}
use Rattle.http_answers.specs.Framing.{expected, is_bodiless}
use Rattle.swift_replies.specs.AnswerText.{Field, etag_field, is_head, is_meta, is_spelled_size, is_tag, length_field, manifest_fields, meta_fields, object_fields}
use Rattle.swift_replies.proofs.lemmas.GoodFields.{good-append, meta_good, named_ok}
use Rattle.swift_replies.proofs.lemmas.GivenLemmas.{given, given-append, given_meta, given_other}
use Rattle.swift_replies.proofs.lemmas.MetaFieldLemmas.{meta_read, none_has}
use Rattle.swift_replies.proofs.lemmas.ReadBack.{lowered}
use Rattle.swift_replies.proofs.lemmas.ValueRows.{decimal_trimmed, number_back, tag_back, tag_trimmed}

-- ---- the headers in their order

abbrev first_fields : ℕ → StoredHead → List Field
first_fields count head = length_field count ∷ (codes "Content-Type", head.content_type) ∷ etag_field head.etag ∷ []

abbrev range_fields : Option (List ℕ) → List Field
range_fields None = []
range_fields (Some text) = (codes "Content-Range", text) ∷ []

-- a value of it that can be sent
abbrev pub is_range : Option (List ℕ) → Bool
is_range None = true
is_range (Some text) = is_trimmed_value text

-- a length, those of a head, and a Content-Range if one is given
abbrev pub fields : ℕ → StoredHead → Option (List ℕ) → List Field
fields count head range =
    first_fields count head ++ (manifest_fields head.manifest ++ (meta_fields 0 head.meta ++ range_fields range))

pub whole_fields : (count : ℕ) (head : StoredHead) → length_field count ∷ object_fields head ≡ fields count head None
whole_fields count head = sym (ap (λ v. first_fields count head ++ (manifest_fields head.manifest ++ v)) (append-nil (meta_fields 0 head.meta)))

pub part_fields : (count : ℕ) (head : StoredHead) (text : List ℕ)
    → length_field count ∷ object_fields head ++ (codes "Content-Range", text) ∷ [] ≡ fields count head (Some text)
part_fields count head text =
    ap (λ v. first_fields count head ++ v) (append_assoc (manifest_fields head.manifest) (meta_fields 0 head.meta) (range_fields (Some text)))

-- ---- the values of a name

-- a name that no piece of metadata has
abbrev IsFixed : List ℕ → Type 0
IsFixed name = (index : ℕ) → bytes_eq (map to_ascii_lowercase (codes "X-Object-Meta-S3-" ++ decimal index)) name ≡ false

abbrev manifest_name : List ℕ
manifest_name = codes "x-static-large-object"

abbrev range_name : List ℕ
range_name = codes "content-range"

no_manifest : (name : List ℕ) (manifest : Bool) → bytes_eq manifest_name name ≡ false → given name (manifest_fields manifest) ≡ []
no_manifest name false other = refl
no_manifest name true other = given_other name (codes "X-Static-Large-Object", codes "True") [] other refl

no_range : (name : List ℕ) (range : Option (List ℕ)) → bytes_eq range_name name ≡ false → given name (range_fields range) ≡ []
no_range name None other = refl
no_range name (Some text) other = given_other name (codes "Content-Range", text) [] other refl

-- the values of a name are those of the first fields, of the mark of a manifest, and of the range
parts : (name : List ℕ) (count : ℕ) (head : StoredHead) (range : Option (List ℕ)) → IsFixed name
    → given name (fields count head range)
    ≡ given name (first_fields count head) ++ (given name (manifest_fields head.manifest) ++ given name (range_fields range))
parts name count head range fixed =
    given-append name (first_fields count head) (manifest_fields head.manifest ++ (meta_fields 0 head.meta ++ range_fields range))
    ∙ ap (λ v. given name (first_fields count head) ++ v)
    (given-append name (manifest_fields head.manifest) (meta_fields 0 head.meta ++ range_fields range)
    ∙ ap (λ v. given name (manifest_fields head.manifest) ++ v)
    (given-append name (meta_fields 0 head.meta) (range_fields range)
    ∙ ap (λ v. v ++ given name (range_fields range)) (given_meta name fixed 0 head.meta)))

among_first : (name : List ℕ) (count : ℕ) (head : StoredHead) (range : Option (List ℕ)) → IsFixed name → bytes_eq manifest_name name ≡ false
    → bytes_eq range_name name ≡ false → given name (fields count head range) ≡ given name (first_fields count head)
among_first name count head range fixed other apart =
    parts name count head range fixed
    ∙ ap₂ (λ x y. given name (first_fields count head) ++ (x ++ y)) (no_manifest name head.manifest other) (no_range name range apart)
    ∙ append-nil (given name (first_fields count head))

length_given : (count : ℕ) (head : StoredHead) (range : Option (List ℕ)) → given (codes "content-length") (fields count head range) ≡ decimal count ∷ []
length_given count head range = among_first (codes "content-length") count head range (λ index. refl) refl refl

type_given : (count : ℕ) (head : StoredHead) (range : Option (List ℕ)) → given (codes "content-type") (fields count head range) ≡ head.content_type ∷ []
type_given count head range = among_first (codes "content-type") count head range (λ index. refl) refl refl

etag_given : (count : ℕ) (head : StoredHead) (range : Option (List ℕ)) → given (codes "etag") (fields count head range) ≡ head.etag ∷ []
etag_given count head range = among_first (codes "etag") count head range (λ index. refl) refl refl

no_coding : (count : ℕ) (head : StoredHead) (range : Option (List ℕ)) → given (codes "transfer-encoding") (fields count head range) ≡ []
no_coding count head range = among_first (codes "transfer-encoding") count head range (λ index. refl) refl refl

pub range_given : (count : ℕ) (head : StoredHead) (text : List ℕ) → given range_name (fields count head (Some text)) ≡ text ∷ []
range_given count head text =
    parts range_name count head (Some text) (λ index. refl) ∙ ap (λ v. v ++ text ∷ []) (no_manifest range_name head.manifest refl)

mark_read : (manifest : Bool) → manifest_from (at_most_one (given manifest_name (manifest_fields manifest) ++ [])) ≡ Some manifest
mark_read false = refl
mark_read true = refl

manifest_read : (count : ℕ) (head : StoredHead) (range : Option (List ℕ)) → reply_manifest_flag_in (map lowered (fields count head range)) ≡ Some head.manifest
manifest_read count head range =
    ap (λ v. manifest_from (at_most_one v)) (parts manifest_name count head range (λ index. refl)
    ∙ ap (λ v. given manifest_name (manifest_fields head.manifest) ++ v) (no_range manifest_name range refl))
    ∙ mark_read head.manifest

-- ---- the metadata

before_meta : (count : ℕ) (head : StoredHead) (manifest : Bool) (i : ℕ) → given (meta_name i) (first_fields count head ++ manifest_fields manifest) ≡ []
before_meta count head false i = refl
before_meta count head true i = refl

after_meta : (range : Option (List ℕ)) (i : ℕ) → given (meta_name i) (range_fields range) ≡ []
after_meta None i = refl
after_meta (Some text) i = refl

pieces_read : (count : ℕ) (head : StoredHead) (range : Option (List ℕ)) → length head.meta ≤ 11 → meta_in (map lowered (fields count head range)) ≡ Some head.meta
pieces_read count head range few =
    meta_read (first_fields count head ++ manifest_fields head.manifest) (range_fields range) head.meta (before_meta count head head.manifest) (after_meta range) few

-- ---- what is asked of a head

-- the parts of a head that is read
record Parts (head : StoredHead) : Type 0 where
  type : is_trimmed_value head.content_type ≡ true
  etag : is_tag head.etag ≡ true
  size : head.size < 10 ^ 19
  few : length head.meta ≤ 11
  pieces : list_all is_trimmed_value head.meta ≡ true

parts_of : (head : StoredHead) → is_head head ≡ true → Parts head
parts_of head fine =
    let type = and_parts (is_trimmed_value head.content_type) (is_tag head.etag && (is_spelled_size head.size && is_meta head.meta)) fine in
    let etag = and_parts (is_tag head.etag) (is_spelled_size head.size && is_meta head.meta) type.1 in
    let size = and_parts (is_spelled_size head.size) (is_meta head.meta) etag.1 in
    let meta = and_parts (nat_le (length head.meta) 11) (list_all is_trimmed_value head.meta) size.1 in record {
      type = type.0;
      etag = etag.0;
      size = ltb-true head.size (10 ^ 19) size.0;
      few = leb-true (length head.meta) 11 meta.0;
      pieces = meta.1;
    }

pub size_fits : (head : StoredHead) → is_head head ≡ true → head.size < 10 ^ 19
size_fits head fine = (parts_of head fine).size

-- ---- the head

-- the head of an object is read where its size is
pub head_back : (count : ℕ) (head : StoredHead) (range : Option (List ℕ)) → is_head head ≡ true
    → head_in (Some head.size) (map lowered (fields count head range)) ≡ Some head
head_back count head range fine =
    let hs : List Pair = map lowered (fields count head range) in
    let p = parts_of head fine in
    ap₂ (λ t e. head_from (needed (at_most_one t)) (Some head.size) (option_and_then tag_in (needed (at_most_one e))) (reply_manifest_flag_in hs) (meta_in hs))
    (type_given count head range) (etag_given count head range)
    ∙ ap (λ e. head_from (Some head.content_type) (Some head.size) e (reply_manifest_flag_in hs) (meta_in hs)) (tag_back head.etag p.etag)
    ∙ ap₂ (λ m ps. head_from (Some head.content_type) (Some head.size) (Some head.etag) m ps) (manifest_read count head range)
    (pieces_read count head range p.few)

pub length_back : (count : ℕ) (head : StoredHead) (range : Option (List ℕ)) → count < 10 ^ 19 → answer_content_length (map lowered (fields count head range)) ≡ Some count
length_back count head range small = ap (λ v. size_from (at_most_one v)) (length_given count head range) ∙ number_back count small

-- the body that is expected
pub expected_back : (asks : Bool) (status count : ℕ) (head : StoredHead) (range : Option (List ℕ)) → count < 10 ^ 19
    → expected asks status (map lowered (fields count head range)) ≡ (if is_bodiless asks status then Some 0 else Some count)
expected_back asks status count head range small =
    let hs : List Pair = map lowered (fields count head range) in
    ap (λ b. if b then None else (if is_bodiless asks status then Some 0 else answer_content_length hs)) (none_has (codes "transfer-encoding") hs (no_coding count head range))
    ∙ ap (λ s. if is_bodiless asks status then Some 0 else s) (length_back count head range small)

-- ---- the headers can be sent

record Tokens : Type 0 where
  size : is_token (codes "Content-Length") ≡ true
  type : is_token (codes "Content-Type") ≡ true
  etag : is_token (codes "Etag") ≡ true
  manifest : is_token (codes "X-Static-Large-Object") ≡ true
  range : is_token (codes "Content-Range") ≡ true

tokens : Tokens
unfolding is_token_byte
tokens = record { size = refl; type = refl; etag = refl; manifest = refl; range = refl }

manifest_good : (manifest : Bool) → list_all is_header (manifest_fields manifest) ≡ true
manifest_good false = refl
manifest_good true = and_from _ _ (named_ok (codes "X-Static-Large-Object") (codes "True") tokens.manifest refl) refl

range_good : (range : Option (List ℕ)) → is_range range ≡ true → list_all is_header (range_fields range) ≡ true
range_good None fine = refl
range_good (Some text) fine = and_from _ _ (named_ok (codes "Content-Range") text tokens.range fine) refl

pub sendable : (count : ℕ) (head : StoredHead) (range : Option (List ℕ)) → count < 10 ^ 19 → is_head head ≡ true
    → is_range range ≡ true → are_headers (fields count head range) ≡ true
unfolding are_headers
sendable count head range small fine trimmed =
    let p = parts_of head fine in
    and_from _ _ (named_ok (codes "Content-Length") (decimal count) tokens.size (decimal_trimmed count (omega (arith, small))))
    (and_from _ _ (named_ok (codes "Content-Type") head.content_type tokens.type p.type)
    (and_from _ _ (named_ok (codes "Etag") head.etag tokens.etag (tag_trimmed head.etag p.etag))
    (good-append (manifest_fields head.manifest) (meta_fields 0 head.meta ++ range_fields range) (manifest_good head.manifest)
    (good-append (meta_fields 0 head.meta) (range_fields range) (meta_good 0 head.meta (omega (arith, p.few)) p.pieces) (range_good range trimmed)))))
