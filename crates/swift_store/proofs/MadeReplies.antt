-- The reply to each call on an account that calls make has a spelling.
use Rattle.std.specs.Prelude.{◌≡◌, ℕ, ◌+◌, ◌-◌, ◌^◌, ◌<◌, ◌≤◌, min, Bool, true, false, cond, not, nat_eq, nat_lt, if◌then◌else◌, List, [], length, drop, slice_index, slice_range, Option, None, Some, is_some, IfSome}
use Rattle.std.specs.List.{All, list_all}
use Rattle.std.specs.Str.{is_utf8}
use Rattle.std.specs.FinMap.{entries, get}
use Rattle.std.proofs.Common.{refl, sym, ap, ◌∙◌, arith}
use Rattle.std.proofs.lemmas.Bool.{and_parts, and_from, le-leb, eq-eqb, lt-ltb, ltb-true}
use Rattle.std.proofs.lemmas.Bool.Decides.{nat_tests}
use Rattle.std.proofs.lemmas.List.{length-drop, length-take-le}
use Rattle.std.proofs.lemmas.List.Elements.{All-weaker}
use Rattle.std.proofs.lemmas.List.Sums.{AllPass-from_list_all, list_all-from_AllPass}
use Rattle.std.proofs.lemmas.Str.{IsUtf8-from_ascii, is_utf8-from_IsUtf8}
use Rattle.std.proofs.lemmas.Str.Ascii.{IsAscii-from_all}
use Rattle.gate_base.specs.Told.{moment_limit}
use Rattle.swift_calls.specs.Account.{SwiftAccount, SwiftContainer, SwiftObject, find_object, size_of}
use Rattle.slo_manifest.specs.Segments.{is_manifest, is_segment}
use Rattle.slo_manifest.specs.declared.Segment.{Segment}
use Rattle.swift_calls.specs.Bodies.{Look, is_good_list, listed_in, bytes_of, etag_of, etag_text, head_of, item_of, joined_etags}
use Rattle.gate_base.specs.Fields.{is_field, is_printable}
use Rattle.swift_calls.specs.Limits.{IsRange, is_content_type, most_segments}
use Rattle.swift_calls.specs.Step.{IsMoment, IsSegmentPlace, is_taken, plain_file, put_unless, manifest_by, manifest_reply, put_listed, put_manifest, is_bare, is_listed, names_reply, items_reply, head_container, put_container, post_container, delete_by, delete_container, put_object, head_reply, get_reply, body_reply, part_reply, delete_object}
use Rattle.swift_calls.specs.declared.account.ReadList.{ReadList}
use Rattle.swift_calls.specs.declared.account.Content.{Content}
use Rattle.swift_calls.specs.declared.account.Content.TheVariants.{Plain, Segments}
use Rattle.swift_calls.specs.declared.calls.FilePut.{FilePut}
use Rattle.swift_replies.specs.Answers.{is_part}
use Rattle.swift_replies.specs.AnswerText.{
  Sent,
  is_spelled_created,
  is_spelled_name_item,
  is_tag,
  list_containers_sent,
  head_container_sent,
  put_sent,
  post_sent,
  delete_sent,
  list_names_sent,
  put_object_sent,
  head_object_sent,
  get_sent,
  get_manifest_sent,
  put_manifest_sent,
}
use Rattle.swift_replies.proofs.lemmas.SmallHeads.{IsSmallHead, stored_spelled, head_spelled, bytes_spelled}
use Rattle.swift_store.specs.Made.{IsMade, IsMadeContent, IsMadeList, IsMadeObject}
use Rattle.swift_store.proofs.MadeChanges.{made_found, made_size}
use Rattle.swift_store.proofs.Joining.{bytes_sized}
use Rattle.swift_store.proofs.MadeEntries.{IsEntry, entries_found, page_passes}
use Rattle.swift_store.proofs.MadeEtags.{etag_length, etag_tag, etag_utf8}

-- what is sent where the test passes
sent_if : (b : Bool) (sent : Option Sent) → b ≡ true → is_some sent ≡ true → is_some (if b then sent else None) ≡ true
sent_if b sent is some = ap (λ v. is_some (if v then sent else None)) is ∙ some

-- ---- values

value_bytes : (most : ℕ) (text : List ℕ) → is_field most text ≡ true → list_all is_printable text ≡ true
value_bytes most text is =
    let last = and_parts _ (not (nat_eq (slice_index text (length text - 1)) 32)) is in
    let first = and_parts _ (not (nat_eq (slice_index text 0) 32)) last.0 in
    (and_parts _ (list_all is_printable text) first.0).1

value_ascii : (b : ℕ) → is_printable b ≡ true → b < 128
value_ascii b is = grind (arith, nat_tests)

type_utf8 : (text : List ℕ) → is_content_type text ≡ true → is_utf8 text ≡ true
type_utf8 text is =
    is_utf8-from_IsUtf8 text
    (IsUtf8-from_ascii text
    (IsAscii-from_all text
    (All-weaker (λ b. is_printable b ≡ true) (λ b. b < 128) value_ascii text (AllPass-from_list_all is_printable text (value_bytes 512 text is)))))

created_read : (created : Option ℕ) → IfSome created IsMoment → is_spelled_created created ≡ true
created_read None moment = refl
created_read (Some at) moment = lt-ltb at moment_limit moment

-- ---- ETags

content_tag : (content : Content) → is_tag (etag_of content) ≡ true
content_tag (Plain bytes) = etag_tag bytes
content_tag (Segments segments) = etag_tag (joined_etags segments)

content_length : (content : Content) → length (etag_of content) ≡ 32
content_length (Plain bytes) = etag_length bytes
content_length (Segments segments) = etag_length (joined_etags segments)

content_utf8 : (content : Content) → is_utf8 (etag_of content) ≡ true
content_utf8 (Plain bytes) = etag_utf8 bytes
content_utf8 (Segments segments) = etag_utf8 (joined_etags segments)

-- ---- objects

module _ (n content_type : List ℕ) (meta : List (List ℕ)) where
  abbrev object : Content → SwiftObject
  object content = record { content_type = content_type; meta = meta; content = content }

  -- a number that JSON has
  item_size : (content : Content) → IsMadeObject n (object content) → nat_lt (size_of content) (10 ^ 19) ≡ true
  item_size content own = lt-ltb (size_of content) (10 ^ 19) (omega (arith, made_size content own.content))

  item_is : (content : Content) → IsMadeObject n (object content) → is_spelled_name_item (item_of n (object content)) ≡ true
  item_is content own =
      and_from _ _ (is_utf8-from_IsUtf8 n own.named.1.utf8)
      (and_from _ _ (content_utf8 content) (and_from _ _ (type_utf8 content_type own.content_type) (item_size content own)))

  head_small : (content : Content) → IsMadeObject n (object content) → IsSmallHead (head_of (object content))
  head_small content own = record {
    content_type = own.content_type;
    tag = content_tag content;
    etag = omega (arith, content_length content);
    size = omega (arith, made_size content own.content);
    meta = own.meta;
  }

  head_sent_is : (content : Content) → IsMadeObject n (object content) → is_some (head_object_sent (head_reply (Some (object content)))) ≡ true
  head_sent_is content own = head_spelled (head_of (object content)) (head_small content own)

  -- the bytes of a range
  part_is : (range : ℕ × ℕ) (bytes : List ℕ) → IsRange range → nat_lt range.0 (length bytes) ≡ true
      → is_part (Some range) (length bytes) (length (slice_range bytes range.0 (min (range.1 + 1) (length bytes)))) ≡ true
  part_is range bytes within below =
      let size = length-drop range.0 bytes in
      let first : range.0 < length bytes = ltb-true range.0 (length bytes) below in
      let order : range.0 ≤ range.1 = within.0 in
      let last : min (range.1 + 1) (length bytes) ≤ length bytes = grind arith in
      let room : min (range.1 + 1) (length bytes) - range.0 ≤ length (drop range.0 bytes) = omega (arith, size, last) in
      and_from _ _ below
      (eq-eqb (length (slice_range bytes range.0 (min (range.1 + 1) (length bytes)))) (min (range.1 + 1) (length bytes) - range.0)
      (length-take-le (min (range.1 + 1) (length bytes) - range.0) (drop range.0 bytes) room))

  range_is : (range : ℕ × ℕ) (content : Content) (bytes : List ℕ) → IsRange range → IsMadeObject n (object content) → length bytes ≡ size_of content → (b : Bool) → nat_lt range.0 (length bytes) ≡ b
      → is_some (get_sent (Some range)
      (part_reply (head_of (object content)) (cond b (Some (slice_range bytes range.0 (min (range.1 + 1) (length bytes)))) None))) ≡ true
  range_is range content bytes within own size true below =
      bytes_spelled (Some range) (head_of (object content)) _ (head_small content own)
      (sym (ap (λ k. is_part (Some range) k (length (slice_range bytes range.0 (min (range.1 + 1) (length bytes))))) size) ∙ part_is range bytes within below)
  range_is range content bytes within own size false past = refl

  -- the bytes of an object are as many as it is large
  body_is : (range : Option (ℕ × ℕ)) (content : Content) → IfSome range IsRange → IsMadeObject n (object content) → (v : Option (List ℕ)) → ((bytes : List ℕ) → v ≡ Some bytes → length bytes ≡ size_of content)
      → is_some (get_sent range (body_reply (head_of (object content)) range v)) ≡ true
  body_is range content within own None sized = refl
  body_is None content within own (Some bytes) sized =
      bytes_spelled None (head_of (object content)) bytes (head_small content own) (eq-eqb (length bytes) (size_of content) (sized bytes refl))
  body_is (Some range) content within own (Some bytes) sized = range_is range content bytes within own (sized bytes refl) (nat_lt range.0 (length bytes)) refl

  get_sent_is : (looks : Look) (range : Option (ℕ × ℕ)) (content : Content) → IfSome range IsRange → IsMadeObject n (object content)
      → is_some (get_sent range (get_reply looks range (Some (object content)))) ≡ true
  get_sent_is looks range content within own = body_is range content within own (bytes_of looks content) (bytes_sized looks content)

-- segments that a call lists have a text
list_is : (segments : List Segment) → IsMadeList segments → is_manifest segments ≡ true
unfolding is_manifest
list_is segments made =
    and_from _ _ (le-leb (length segments) most_segments made.within)
    (list_all-from_AllPass is_segment segments (All-weaker IsSegmentPlace (λ s. is_segment s ≡ true) (λ s place. place.listable) segments made.places))

-- ---- each row

module _ (account : SwiftAccount) (made : IsMade account) where
  pub containers_row : (limit : ℕ) (marker : List ℕ) → is_some (list_containers_sent (names_reply limit marker account)) ≡ true
  containers_row limit marker = sent_if _ _ (page_passes is_utf8 limit (λ e. e.0) (λ e. is_listed [] marker e.0) (entries account) names) refl
    where
      names : All (λ e. is_utf8 e.0 ≡ true) (entries account)
      names =
          All-weaker (IsEntry account) (λ e. is_utf8 e.0 ≡ true) (λ e found. is_utf8-from_IsUtf8 e.0 (made e.0 e.1 found).named.text) (entries account)
          (entries_found account)

  pub names_row : (c : List ℕ) (limit : ℕ) (prefix marker : List ℕ) → is_some (list_names_sent (items_reply limit prefix marker (get account c))) ≡ true
  names_row c limit prefix marker = by (get account c) refl
    where
      by : (v : Option SwiftContainer) → get account c ≡ v → is_some (list_names_sent (items_reply limit prefix marker v)) ≡ true
      by None at = refl
      by (Some folder) at =
          sent_if _ _ (page_passes is_spelled_name_item limit (λ e. item_of e.0 e.1) (λ e. is_listed prefix marker e.0) (entries folder.files)
          (All-weaker (IsEntry folder.files) (λ e. is_spelled_name_item (item_of e.0 e.1) ≡ true)
          (λ e found. item_is e.0 e.1.content_type e.1.meta e.1.content ((made c folder at).objects e.0 e.1 found)) (entries folder.files)
          (entries_found folder.files))) refl

  pub readers_row : (c : List ℕ) → is_some (head_container_sent (head_container (get account c) account).reply) ≡ true
  readers_row c = by (get account c) refl
    where
      by : (v : Option SwiftContainer) → get account c ≡ v → is_some (head_container_sent (head_container v account).reply) ≡ true
      by None at = refl
      by (Some folder) at = sent_if _ _ (created_read folder.created (made c folder at).created) refl

  pub head_row : (c n : List ℕ) → is_some (head_object_sent (head_reply (find_object account c n))) ≡ true
  head_row c n = by (find_object account c n) refl
    where
      by : (v : Option SwiftObject) → find_object account c n ≡ v → is_some (head_object_sent (head_reply v)) ≡ true
      by None at = refl
      by (Some file) at = head_sent_is n file.content_type file.meta file.content (made_found c n account file made at)

  pub manifest_row : (c n : List ℕ) → is_some (get_manifest_sent (manifest_reply (find_object account c n))) ≡ true
  manifest_row c n = by (find_object account c n) refl
    where
      of : (content : Content) → IsMadeContent content → is_some (get_manifest_sent (manifest_by (listed_in content))) ≡ true
      of (Plain bytes) own = refl
      of (Segments segments) own = sent_if (is_manifest segments) _ (list_is segments (own.list segments refl)) refl

      by : (v : Option SwiftObject) → find_object account c n ≡ v → is_some (get_manifest_sent (manifest_reply v)) ≡ true
      by None at = refl
      by (Some file) at = of file.content (made_found c n account file made at).content

  pub get_row : (c n : List ℕ) (range : Option (ℕ × ℕ)) → IfSome range IsRange
      → is_some (get_sent range (get_reply (find_object account) range (find_object account c n))) ≡ true
  get_row c n range within = by (find_object account c n) refl
    where
      by : (v : Option SwiftObject) → find_object account c n ≡ v → is_some (get_sent range (get_reply (find_object account) range v)) ≡ true
      by None at = refl
      by (Some file) at = get_sent_is n file.content_type file.meta (find_object account) range file.content within (made_found c n account file made at)

-- the rows that say their status alone, and an ETag

pub put_row : (v : Option SwiftContainer) (c : List ℕ) (readers : ReadList) (created : Option ℕ) (account : SwiftAccount)
    → is_some (put_sent (put_container v c readers created account).reply) ≡ true
put_row None c readers created account = refl
put_row (Some folder) c readers created account = refl

pub post_row : (v : Option SwiftContainer) (c : List ℕ) (readers : ReadList) (account : SwiftAccount)
    → is_some (post_sent (post_container v c readers account).reply) ≡ true
post_row None c readers account = refl
post_row (Some folder) c readers account = refl

pub delete_row : (v : Option SwiftContainer) (c : List ℕ) (account : SwiftAccount) → is_some (delete_sent (delete_container v c account).reply) ≡ true
delete_row None c account = refl
delete_row (Some folder) c account = by (is_bare folder)
  where
    by : (b : Bool) → is_some (delete_sent (delete_by b c account).reply) ≡ true
    by true = refl
    by false = refl

stored_row : (fresh : Bool) (v : Option SwiftContainer) (put : FilePut) (account : SwiftAccount)
    → is_some (put_object_sent fresh (put_object v put.container put.name (plain_file put) account).reply) ≡ true
stored_row fresh None put account = refl
stored_row fresh (Some folder) put account = stored_spelled (etag_text put.body) (etag_tag put.body) (omega (arith, etag_length put.body))

pub unless_row : (fresh : Bool) (there : Option SwiftObject) (v : Option SwiftContainer) (put : FilePut) (account : SwiftAccount)
    → is_some (put_object_sent fresh (put_unless (is_taken fresh there) (put_object v put.container put.name (plain_file put) account) account).reply) ≡ true
unless_row false there v put account = stored_row false v put account
unless_row true None v put account = stored_row true v put account
unless_row true (Some file) v put account = refl

pub list_row : (v : Option SwiftContainer) (c n content_type : List ℕ) (meta : List (List ℕ)) (segments : List Segment) (account : SwiftAccount)
    → is_some (put_manifest_sent (put_manifest v c n content_type meta segments account).reply) ≡ true
list_row None c n content_type meta segments account = refl
list_row (Some folder) c n content_type meta segments account = by (is_good_list (find_object account) segments)
  where
    by : (b : Bool) → is_some (put_manifest_sent (put_listed b (Some folder) c n (record { content_type = content_type; meta = meta; content = Segments segments }) account).reply) ≡ true
    by true = stored_spelled (etag_text (joined_etags segments)) (etag_tag (joined_etags segments)) (omega (arith, etag_length (joined_etags segments)))
    by false = refl

pub remove_row : (v : Option SwiftObject) (c n : List ℕ) (account : SwiftAccount) → is_some (post_sent (delete_object v c n account).reply) ≡ true
remove_row None c n account = refl
remove_row (Some file) c n account = refl
