-- What an object is put with keeps the limits of a store, and its tag and pack have texts.
use Rattle.std.proofs.Common.{◌≡◌, ℕ, ◌<◌, ◌≤◌, ◌+◌, ◌^◌, true, ◌&&◌, ◌||◌, List, [], ◌∷◌, length, drop, nat_le, refl, sym, ap, subst, inl, inr, arith}
use Rattle.std.specs.Prelude.{◌==◌, cond, sum_by, bytes_eq, codes, IsTrue}
use Rattle.std.specs.List.{list_all, list_any}
use Rattle.std.proofs.lemmas.Bool.{cases_Bool, or_cases, and_from, and_parts, eqb-true, lt-ltb, leb-true, le-leb}
use Rattle.std.proofs.lemmas.Bool.Decides.{nat_tests}
use Rattle.std.proofs.lemmas.List.Sums.{list_all-from_AllPass, get_or-le-sum_by}
use Rattle.std.proofs.Common.{get_or}
use Rattle.gate_base.specs.Told.{moment_limit}
use Rattle.gate_base.specs.declared.page.Pair.{Pair}
use Rattle.s3_names.specs.Meta.{names_ascend}
use Rattle.std.specs.Cmp.Lexicographic.{same_text}
use Rattle.s3_names.specs.Bucket.{is_bucket, is_lower_or_digit}
use Rattle.s3_names.specs.Key.{is_key}
use Rattle.s3_machine.specs.ETag.{body_etag}
use Rattle.gate_base.specs.Fields.{is_printable}
use Rattle.s3_machine.specs.Limits as limits
use Rattle.s3_machine.specs.Proper.{IsProperContent}
use Rattle.swift_calls.specs.Limits as store
use Rattle.swift_calls.specs.Step.{Fit}
use Rattle.swift_calls.specs.Files.{PutObject}
use Rattle.swift_marks.specs.Limits.{is_kept_metadata, is_printable_entry, counted_name, counted_size}
use Rattle.swift_marks.specs.Tag.{is_content_type, is_etag, has_text, tag_text}
use Rattle.swift_marks.specs.Pack.{is_short, has_pack, pack_of}
use Rattle.swift_marks.proofs.lemmas.TagLaws.{weaken}
use Rattle.swift_marks.proofs.lemmas.FieldLaws.{tag_is_field, pack_is_small}
use Rattle.account_calls.specs.Interpret.{plain_tag}
use Rattle.account_calls.proofs.lemmas.Etags.{etag_is_etag}
use Rattle.account_calls.proofs.lemmas.Names.{container_name, object_name}

-- ---- the content type

pub typed : (text : List ℕ) → limits.is_content_type text ≡ true → is_content_type text ≡ true
unfolding limits.is_content_type
typed text e = e

-- ---- the metadata

-- what counts of a name is the name without the `-` before it
counts : (name : List ℕ) → length (limits.bare_name name) ≡ length (counted_name name)
counts [] = refl
counts (byte ∷ name) = refl

same_size : (pair : Pair) → limits.pair_bytes pair ≡ counted_size pair
same_size pair = ap (λ n. n + length pair.value) (counts pair.name)

any_printed : (symbols : List ℕ) (byte : ℕ) → list_all is_printable symbols ≡ true → list_any (λ symbol. symbol == byte) symbols ≡ true → is_printable byte ≡ true
any_printed [] byte all any = cc
any_printed (symbol ∷ symbols) byte all any =
    let parts = and_parts (is_printable symbol) (list_all is_printable symbols) all in
    elim (or_cases (symbol == byte) (list_any (λ m. m == byte) symbols) any) [
      | inl same ↦ subst (λ b. is_printable b ≡ true) (eqb-true symbol byte same) parts.0
      | inr later ↦ any_printed symbols byte parts.1 later
    ]

token_printed : (byte : ℕ) → limits.is_lower_token_byte byte ≡ true → is_printable byte ≡ true
token_printed byte e = elim (or_cases (is_lower_or_digit byte) (list_any (λ symbol. symbol == byte) (codes "!#$%&'*+-.^_`|~")) e) [
  | inl word ↦ word_printed byte word
  | inr symbol ↦ any_printed (codes "!#$%&'*+-.^_`|~") byte refl symbol
]
  where
    word_printed : (byte : ℕ) → is_lower_or_digit byte ≡ true → is_printable byte ≡ true
    word_printed byte e = grind (arith, nat_tests)

same_bytes : (xs ys : List ℕ) → bytes_eq xs ys ≡ true → xs ≡ ys
same_bytes xs ys e = same_text xs ys (sym e)

text_printed : (name text : List ℕ) → list_all is_printable text ≡ true → bytes_eq name text ≡ true → list_all is_printable name ≡ true
text_printed name text all same = subst (λ n. list_all is_printable n ≡ true) (sym (same_bytes name text same)) all

kept_printed : (name : List ℕ) → limits.is_kept_header name ≡ true → list_all is_printable name ≡ true
kept_printed name e = elim (or_cases (bytes_eq name (codes "cache-control") || bytes_eq name (codes "content-disposition") || bytes_eq name (codes "content-encoding") || bytes_eq name (codes "content-language")) (bytes_eq name (codes "expires")) e) [
  | inl e ↦ elim (or_cases (bytes_eq name (codes "cache-control") || bytes_eq name (codes "content-disposition") || bytes_eq name (codes "content-encoding")) (bytes_eq name (codes "content-language")) e) [
    | inl e ↦ elim (or_cases (bytes_eq name (codes "cache-control") || bytes_eq name (codes "content-disposition")) (bytes_eq name (codes "content-encoding")) e) [
      | inl e ↦ elim (or_cases (bytes_eq name (codes "cache-control")) (bytes_eq name (codes "content-disposition")) e) [
        | inl a ↦ text_printed name (codes "cache-control") refl a
        | inr a ↦ text_printed name (codes "content-disposition") refl a
      ]
      | inr a ↦ text_printed name (codes "content-encoding") refl a
    ]
    | inr a ↦ text_printed name (codes "content-language") refl a
  ]
  | inr a ↦ text_printed name (codes "expires") refl a
]

own_printed : (name : List ℕ) → limits.is_own_name name ≡ true → list_all limits.is_lower_token_byte (drop 1 name) ≡ true → list_all is_printable name ≡ true
own_printed [] own all = cc
own_printed (byte ∷ name) own all = and_from _ _ (subst (λ b. is_printable b ≡ true) (sym (eqb-true byte 45 own)) refl) (weaken limits.is_lower_token_byte is_printable token_printed name all)

name_printed : (name : List ℕ) → limits.is_meta_name name ≡ true → list_all is_printable name ≡ true
unfolding limits.is_meta_name
name_printed name e = elim (or_cases (limits.is_own_name name && list_all limits.is_lower_token_byte (drop 1 name)) (limits.is_kept_header name) e) [
  | inl own ↦ let parts = and_parts (limits.is_own_name name) _ own in own_printed name parts.0 parts.1
  | inr kept ↦ kept_printed name kept
]

pair_printed : (pair : Pair) → limits.is_proper_pair pair ≡ true → is_printable_entry pair ≡ true
unfolding limits.is_meta_value
pair_printed pair e = let parts = and_parts (limits.is_meta_name pair.name) _ e in and_from _ _ (name_printed pair.name parts.0) parts.1

all_printed : (meta : List Pair) → list_all limits.is_proper_pair meta ≡ true → list_all is_printable_entry meta ≡ true
all_printed [] e = refl
all_printed (pair ∷ meta) e = let parts = and_parts (limits.is_proper_pair pair) _ e in and_from _ _ (pair_printed pair parts.0) (all_printed meta parts.1)

sizes : (meta : List Pair) → sum_by limits.pair_bytes meta ≡ sum_by counted_size meta
sizes meta = λ i. sum_by (λ pair. same_size pair i) meta

-- the parts of the limits of metadata
meta_parts : (meta : List Pair) → limits.is_proper_meta meta ≡ true → (nat_le (length meta) 64 ≡ true) × (list_all limits.is_proper_pair meta ≡ true) × (nat_le (sum_by limits.pair_bytes meta) 2048 ≡ true)
unfolding limits.is_proper_meta
meta_parts meta e =
    let outer = and_parts (nat_le (length meta) 64 && list_all limits.is_proper_pair meta) (nat_le (sum_by limits.pair_bytes meta) 2048) e in
    let parts = and_parts (nat_le (length meta) 64) (list_all limits.is_proper_pair meta) outer.0 in
    (parts.0, parts.1, outer.1)

pub described : (meta : List Pair) → limits.is_proper_meta meta ≡ true → is_kept_metadata meta ≡ true
described meta e =
    let parts = meta_parts meta e in
    and_from _ _ (and_from _ _ parts.0 (subst (λ n. nat_le n 2048 ≡ true) (sizes meta) parts.2)) (all_printed meta parts.1)

-- ---- what has a text

bare_length : (name : List ℕ) → length name ≤ length (counted_name name) + 1
bare_length [] = omega arith
bare_length (byte ∷ name) = elim (cases_Bool (byte == 45)) [
  | inl own ↦ (let e = ap (λ t. length (cond t name (byte ∷ name))) own in omega (arith, e))
  | inr other ↦ (let e = ap (λ t. length (cond t name (byte ∷ name))) other in omega (arith, e))
]

shorts : (meta : List Pair) → sum_by counted_size meta ≤ 2048 → list_all is_short meta ≡ true
shorts meta within = list_all-from_AllPass is_short meta (λ k d inside.
    let pair : Pair = get_or meta k d in
    let part = get_or-le-sum_by counted_size meta k d inside in
    let bare = bare_length pair.name in
    and_from _ _ (lt-ltb (length pair.name) (10 ^ 19) (omega (arith, within, part, bare))) (lt-ltb (length pair.value) (10 ^ 19) (omega (arith, within, part))))

pub has_a_pack : (meta : List Pair) → limits.is_proper_meta meta ≡ true → names_ascend meta ≡ true → has_pack meta ≡ true
has_a_pack meta e ascend =
    let within = leb-true (sum_by limits.pair_bytes meta) 2048 (meta_parts meta e).2 in
    and_from _ _ ascend (shorts meta (subst (λ n. n ≤ 2048) (sizes meta) within))

pub tag_has_text : (content_type etag body : List ℕ) (moment : ℕ) → limits.is_content_type content_type ≡ true → etag ≡ body_etag body → moment < moment_limit → has_text (plain_tag content_type etag moment) ≡ true
unfolding has_text
tag_has_text content_type etag body moment is of_body below =
    and_from _ _ (and_from _ _ (and_from _ _ (typed content_type is) (subst (λ e. is_etag e ≡ true) (sym of_body) (etag_is_etag body))) (lt-ltb moment moment_limit below)) refl

-- ---- what a store takes

-- the PUT of an object's file is one that a store takes
pub put_fits : (bucket key content_type body : List ℕ) (meta : List Pair) (moment : ℕ) (text : List ℕ) (pieces : List (List ℕ))
    → is_bucket bucket ≡ true → is_key key ≡ true → IsProperContent content_type meta body → moment < moment_limit
    → text ≡ tag_text (plain_tag content_type (body_etag body) moment) → pieces ≡ pack_of meta
    → Fit (PutObject bucket key text pieces body)
put_fits bucket key content_type body meta moment text pieces is keyed content below written packed =
    let small = pack_is_small meta (described meta content.described) in (
      container_name bucket is,
      object_name key keyed,
      subst (λ t. IsTrue (store.is_content_type t)) (sym written) (tag_is_field (plain_tag content_type (body_etag body) moment) (tag_has_text content_type (body_etag body) body moment content.typed refl below)),
      subst (λ p. IsTrue (store.is_meta p)) (sym packed) (and_from _ _ (le-leb (length (pack_of meta)) 11 small.0) small.1),
      content.sized,
    )
