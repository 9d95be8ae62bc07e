-- The reply to each call, by what a shelf tells.
use Rattle.std.specs.Prelude.{◌≡◌, ℕ, ◌+◌, ◌-◌, ◌≤◌, min, Bool, true, false, ◌&&◌, cond, if◌then◌else◌, nat_le, nat_lt, List, length, take, drop, slice_range, Option, None, Some, is_some}
use Rattle.std.specs.Option.{option_map}
use Rattle.std.specs.FinMap.{get}
use Rattle.std.proofs.Common.{refl, sym, ap, ◌∙◌, arith, inl, inr, true≢false}
use Rattle.std.proofs.lemmas.Bool.{cases_lt, cond-true, cond-false, le-leb, lt-leb}
use Rattle.std.proofs.lemmas.Option.{none-some, same_Some}
use Rattle.std.proofs.lemmas.List.{take_all}
use Rattle.swift_calls.specs.Account.{SwiftAccount, SwiftContainer, SwiftObject, files, files_of, find_object, size_of}
use Rattle.std.specs.List.{list_all}
use Rattle.slo_manifest.specs.Etag.{joined_etag}
use Rattle.slo_manifest.specs.declared.Segment.{Segment}
use Rattle.swift_calls.specs.Bodies.{Look, etag_text, head_of, is_list, joined, joined_etags, outer_bytes, ranged, is_good_list, listed_in}
use Rattle.swift_calls.specs.Step.{Answer, swift_step, is_bare, is_taken, plain_file, put_unless, head_container, put_container, post_container, delete_container, delete_by, items_reply, put_object, head_reply, delete_object, get_reply, body_reply, part_reply, manifest_by, manifest_reply, put_listed, put_manifest}
use Rattle.swift_calls.specs.declared.account.ReadList.{ReadList}
use Rattle.swift_calls.specs.declared.account.Content.{Content}
use Rattle.swift_calls.specs.declared.account.Content.TheVariants.{Plain, Segments}
use Rattle.swift_calls.specs.declared.heads.StoredHead.{StoredHead}
use Rattle.swift_calls.specs.declared.heads.NameItem.{NameItem}
use Rattle.swift_calls.specs.declared.calls.FilePut.{FilePut}
use Rattle.swift_calls.specs.declared.calls.SwiftRequest.TheVariants.{HeadContainer, PutContainer, PostContainer, DeleteContainer, ListNames, PutObject, PutManifest, HeadObject, GetObject, GetManifest, DeleteObject}
use Rattle.swift_calls.specs.declared.calls.SwiftReply.{SwiftReply}
use Rattle.swift_calls.specs.declared.calls.SwiftReply.TheVariants.{Made, There, Gone, Stored, NotFound, Exists, NotEmpty, Unsatisfiable, Readers, Names, Head, Bytes, Manifest}
use Rattle.swift_store.specs.Listed.{is_outer, segments_at, window}
use Rattle.swift_store.specs.Shelf.{container_head, object_page, part, part_of}
use Rattle.swift_store.proofs.Joining.{joined_length, outer_sized}
use Rattle.swift_store.proofs.Listed.{joined_some}
use Rattle.swift_store.specs.Serving.{served_bounds, listed_part, shelf_reply_to_manifest, parted, reply_of}

-- ---- containers

module _ (n : List ℕ) (account : SwiftAccount) where
  pub head_some : (readers : ReadList) (created : Option ℕ) → Some (readers, created) ≡ option_map container_head (get account n) → Readers readers created ≡ (swift_step (HeadContainer n) account).reply
  head_some readers created e = by (get account n) e
    where
      by : (v : Option SwiftContainer) → Some (readers, created) ≡ option_map container_head v → Readers readers created ≡ (head_container v account).reply
      by None e = absurd (none-some _ (sym e))
      by (Some c) e = ap (λ (p : ReadList × Option ℕ). Readers p.0 p.1) (same_Some _ _ e)

  pub head_none : None ≡ option_map container_head (get account n) → NotFound ≡ (swift_step (HeadContainer n) account).reply
  head_none e = by (get account n) e
    where
      by : (v : Option SwiftContainer) → None ≡ option_map container_head v → NotFound ≡ (head_container v account).reply
      by None e = refl
      by (Some c) e = absurd (none-some _ e)

  -- a head is there where the container is
  is_there : (head : Option (ReadList × Option ℕ)) → head ≡ option_map container_head (get account n) → is_some head ≡ is_some (get account n)
  is_there head e = ap is_some e ∙ by (get account n)
    where
      by : (v : Option SwiftContainer) → is_some (option_map container_head v) ≡ is_some v
      by None = refl
      by (Some c) = refl

  pub put_there : (readers : ReadList) (created : Option ℕ) (head : Option (ReadList × Option ℕ)) → head ≡ option_map container_head (get account n) → is_some head ≡ true → There ≡ (swift_step (PutContainer n readers created) account).reply
  put_there readers created head e is = by (get account n) (sym (is_there head e) ∙ is)
    where
      by : (v : Option SwiftContainer) → is_some v ≡ true → There ≡ (put_container v n readers created account).reply
      by None e = absurd (true≢false (sym e))
      by (Some c) e = refl

  pub put_made : (readers : ReadList) (created : Option ℕ) (head : Option (ReadList × Option ℕ)) → head ≡ option_map container_head (get account n) → is_some head ≡ false → Made ≡ (swift_step (PutContainer n readers created) account).reply
  put_made readers created head e is = by (get account n) (sym (is_there head e) ∙ is)
    where
      by : (v : Option SwiftContainer) → is_some v ≡ false → Made ≡ (put_container v n readers created account).reply
      by None e = refl
      by (Some c) e = absurd (true≢false e)

  pub post_there : (readers : ReadList) (head : Option (ReadList × Option ℕ)) → head ≡ option_map container_head (get account n) → is_some head ≡ true → Gone ≡ (swift_step (PostContainer n readers) account).reply
  post_there readers head e is = by (get account n) (sym (is_there head e) ∙ is)
    where
      by : (v : Option SwiftContainer) → is_some v ≡ true → Gone ≡ (post_container v n readers account).reply
      by None e = absurd (true≢false (sym e))
      by (Some c) e = refl

  pub post_missing : (readers : ReadList) (head : Option (ReadList × Option ℕ)) → head ≡ option_map container_head (get account n) → is_some head ≡ false → NotFound ≡ (swift_step (PostContainer n readers) account).reply
  post_missing readers head e is = by (get account n) (sym (is_there head e) ∙ is)
    where
      by : (v : Option SwiftContainer) → is_some v ≡ false → NotFound ≡ (post_container v n readers account).reply
      by None e = refl
      by (Some c) e = absurd (true≢false e)

  pub delete_gone : Some true ≡ option_map is_bare (get account n) → Gone ≡ (swift_step (DeleteContainer n) account).reply
  delete_gone e = by (get account n) e
    where
      by : (v : Option SwiftContainer) → Some true ≡ option_map is_bare v → Gone ≡ (delete_container v n account).reply
      by None e = absurd (none-some _ (sym e))
      by (Some c) e = ap (λ b. (delete_by b n account).reply) (same_Some _ _ e)

  pub delete_full : Some false ≡ option_map is_bare (get account n) → NotEmpty ≡ (swift_step (DeleteContainer n) account).reply
  delete_full e = by (get account n) e
    where
      by : (v : Option SwiftContainer) → Some false ≡ option_map is_bare v → NotEmpty ≡ (delete_container v n account).reply
      by None e = absurd (none-some _ (sym e))
      by (Some c) e = ap (λ b. (delete_by b n account).reply) (same_Some _ _ e)

  pub delete_missing : None ≡ option_map is_bare (get account n) → NotFound ≡ (swift_step (DeleteContainer n) account).reply
  delete_missing e = by (get account n) e
    where
      by : (v : Option SwiftContainer) → None ≡ option_map is_bare v → NotFound ≡ (delete_container v n account).reply
      by None e = refl
      by (Some c) e = absurd (none-some _ e)

  -- the listing is told a call later, of the same account
  pub names_there : (prefix marker : List ℕ) (limit : ℕ) (head : Option (ReadList × Option ℕ)) (items : List NameItem) (later : SwiftAccount) → head ≡ option_map container_head (get account n) → is_some head ≡ true
      → later ≡ account → items ≡ object_page limit prefix marker (files later n) → Names items ≡ (swift_step (ListNames n prefix marker limit) account).reply
  names_there prefix marker limit head items later e is same told = ap Names (told ∙ ap (λ a. object_page limit prefix marker (files a n)) same) ∙ by (get account n) (sym (is_there head e) ∙ is)
    where
      by : (v : Option SwiftContainer) → is_some v ≡ true → Names (object_page limit prefix marker (files_of v)) ≡ items_reply limit prefix marker v
      by None e = absurd (true≢false (sym e))
      by (Some c) e = refl

  pub names_missing : (prefix marker : List ℕ) (limit : ℕ) (head : Option (ReadList × Option ℕ)) → head ≡ option_map container_head (get account n) → is_some head ≡ false → NotFound ≡ (swift_step (ListNames n prefix marker limit) account).reply
  names_missing prefix marker limit head e is = by (get account n) (sym (is_there head e) ∙ is)
    where
      by : (v : Option SwiftContainer) → is_some v ≡ false → NotFound ≡ items_reply limit prefix marker v
      by None e = refl
      by (Some c) e = absurd (true≢false e)

-- ---- PUT of an object

module _ (put : FilePut) (account : SwiftAccount) where
  abbrev there : Option SwiftObject
  there = find_object account put.container put.name

  abbrev free : Answer
  free = put_object (get account put.container) put.container put.name (plain_file put) account

  pub stored_there : (etag : List ℕ) (head : Option (ReadList × Option ℕ)) → head ≡ option_map container_head (get account put.container) → is_some head ≡ true → etag ≡ etag_text put.body
      → Stored etag ≡ free.reply
  stored_there etag head e is tag = ap Stored tag ∙ by (get account put.container) (sym (is_there put.container account head e) ∙ is)
    where
      by : (v : Option SwiftContainer) → is_some v ≡ true → Stored (etag_text put.body) ≡ (put_object v put.container put.name (plain_file put) account).reply
      by None e = absurd (true≢false (sym e))
      by (Some c) e = refl

  pub stored_missing : (head : Option (ReadList × Option ℕ)) → head ≡ option_map container_head (get account put.container) → is_some head ≡ false → NotFound ≡ free.reply
  stored_missing head e is = by (get account put.container) (sym (is_there put.container account head e) ∙ is)
    where
      by : (v : Option SwiftContainer) → is_some v ≡ false → NotFound ≡ (put_object v put.container put.name (plain_file put) account).reply
      by None e = refl
      by (Some c) e = absurd (true≢false e)

  -- a fresh one is taken where something is there
  pub taken_fresh : (head : Option StoredHead) → put.fresh ≡ true → head ≡ option_map head_of there → is_some head ≡ is_taken put.fresh there
  taken_fresh head fresh e = ap is_some e ∙ by there ∙ sym (ap (λ b. is_taken b there) fresh)
    where
      by : (v : Option SwiftObject) → is_some (option_map head_of v) ≡ is_some v
      by None = refl
      by (Some object) = refl

  pub taken_other : put.fresh ≡ false → false ≡ is_taken put.fresh there
  taken_other other = sym (ap (λ b. is_taken b there) other)

  pub put_taken : (taken : Bool) → taken ≡ is_taken put.fresh there → taken ≡ true → Exists ≡ (swift_step (PutObject put) account).reply
  put_taken taken e is = ap (λ b. (put_unless b free account).reply) (sym is ∙ e)

  -- the reply is told a call later, of the same account
  pub put_free : (taken : Bool) (reply : SwiftReply) (later : SwiftAccount) → taken ≡ is_taken put.fresh there → taken ≡ false → later ≡ account
      → reply ≡ (put_object (get later put.container) put.container put.name (plain_file put) later).reply → reply ≡ (swift_step (PutObject put) account).reply
  put_free taken reply later e is same told =
      told ∙ ap (λ a. (put_object (get a put.container) put.container put.name (plain_file put) a).reply) same ∙ ap (λ b. (put_unless b free account).reply) (sym is ∙ e)

-- ---- objects

module _ (c n : List ℕ) (account : SwiftAccount) where
  pub object_some : (head : StoredHead) → Some head ≡ option_map head_of (find_object account c n) → Head head ≡ (swift_step (HeadObject c n) account).reply
  object_some head e = by (find_object account c n) e
    where
      by : (v : Option SwiftObject) → Some head ≡ option_map head_of v → Head head ≡ head_reply v
      by None e = absurd (none-some _ (sym e))
      by (Some object) e = ap Head (same_Some _ _ e)

  pub object_none : None ≡ option_map head_of (find_object account c n) → NotFound ≡ (swift_step (HeadObject c n) account).reply
  object_none e = by (find_object account c n) e
    where
      by : (v : Option SwiftObject) → None ≡ option_map head_of v → NotFound ≡ head_reply v
      by None e = refl
      by (Some object) e = absurd (none-some _ e)

  pub object_gone : (head : Option StoredHead) → head ≡ option_map head_of (find_object account c n) → is_some head ≡ true → Gone ≡ (swift_step (DeleteObject c n) account).reply
  object_gone head e is = by (find_object account c n) (sym (ap is_some e) ∙ is)
    where
      by : (v : Option SwiftObject) → is_some (option_map head_of v) ≡ true → Gone ≡ (delete_object v c n account).reply
      by None e = absurd (true≢false (sym e))
      by (Some object) e = refl

  pub object_missing : (head : Option StoredHead) → head ≡ option_map head_of (find_object account c n) → is_some head ≡ false → NotFound ≡ (swift_step (DeleteObject c n) account).reply
  object_missing head e is = by (find_object account c n) (sym (ap is_some e) ∙ is)
    where
      by : (v : Option SwiftObject) → is_some (option_map head_of v) ≡ false → NotFound ≡ (delete_object v c n account).reply
      by None e = refl
      by (Some object) e = absurd (true≢false e)

-- ---- bytes

-- the bytes to a place that is within
part_within : (from end : ℕ) (bytes : List ℕ) → end ≤ length bytes → part from end bytes ≡ slice_range bytes from end
part_within from end bytes within = elim (cases_lt end from) [
  | inl above ↦
      let nothing : end - from ≡ 0 = omega arith in
      cond-false _ _ _ (ap (λ b. b && nat_le end (length bytes)) (lt-leb from end above)) ∙ sym (ap (λ k. take k (drop from bytes)) nothing)
  | inr below ↦ cond-true _ _ _ (ap (λ b. b && nat_le end (length bytes)) (le-leb from end below) ∙ le-leb end (length bytes) within)
]

all_of : (bytes : List ℕ) → slice_range bytes 0 (length bytes) ≡ bytes
all_of bytes = take_all (length bytes - 0) bytes (omega arith)

module _ (looks : Look) (content_type : List ℕ) (meta : List (List ℕ)) where
  abbrev object : Content → SwiftObject
  object content = record { content_type = content_type; meta = meta; content = content }

  read_plain : (range : Option (ℕ × ℕ)) (bytes : List ℕ) (from end : ℕ) → Some (from, end) ≡ served_bounds range (length bytes) → Bytes (head_of (object (Plain bytes))) (part from end bytes) ≡ get_reply looks range (Some (object (Plain bytes)))
  read_plain None bytes from end e =
      let ends = same_Some (from, end) (0, length bytes) e in
      ap (Bytes (head_of (object (Plain bytes)))) (ap (λ (p : ℕ × ℕ). part p.0 p.1 bytes) ends ∙ part_within 0 (length bytes) bytes (omega arith) ∙ all_of bytes)
  read_plain (Some range) bytes from end e = elim (nat_lt range.0 (length bytes)) as (λ b. nat_lt range.0 (length bytes) ≡ b → Bytes (head_of (object (Plain bytes))) (part from end bytes) ≡ get_reply looks (Some range) (Some (object (Plain bytes)))) [
    | true ↦ λ within.
        let last = min (range.1 + 1) (length bytes) in
        let ends = same_Some (from, end) (range.0, last) (e ∙ cond-true _ _ _ within) in
        ap (Bytes (head_of (object (Plain bytes)))) (ap (λ (p : ℕ × ℕ). part p.0 p.1 bytes) ends ∙ part_within range.0 last bytes (omega arith))
        ∙ sym (ap (λ v. part_reply (head_of (object (Plain bytes))) v) (cond-true _ _ _ within))
    | false ↦ λ past. absurd (none-some _ (sym (e ∙ cond-false _ _ _ past)))
  ] refl

  beyond_plain : (range : Option (ℕ × ℕ)) (bytes : List ℕ) → None ≡ served_bounds range (length bytes) → Unsatisfiable ≡ get_reply looks range (Some (object (Plain bytes)))
  beyond_plain None bytes e = absurd (none-some _ e)
  beyond_plain (Some range) bytes e = elim (nat_lt range.0 (length bytes)) as (λ b. nat_lt range.0 (length bytes) ≡ b → Unsatisfiable ≡ get_reply looks (Some range) (Some (object (Plain bytes)))) [
    | true ↦ λ within. absurd (none-some _ (e ∙ cond-true _ _ _ within))
    | false ↦ λ past. sym (ap (λ v. part_reply (head_of (object (Plain bytes))) v) (cond-false _ _ _ past))
  ] refl

  read_content : (range : Option (ℕ × ℕ)) (content : Content) (from end : ℕ) → is_list content ≡ false → Some (from, end) ≡ served_bounds range (size_of content) → Bytes (head_of (object content)) (part_of from end (Some (object content))) ≡ get_reply looks range (Some (object content))
  read_content range (Plain bytes) from end plain e = read_plain range bytes from end e
  read_content range (Segments segments) from end plain e = absurd (true≢false plain)

  beyond_content : (range : Option (ℕ × ℕ)) (content : Content) → is_list content ≡ false → None ≡ served_bounds range (size_of content) → Unsatisfiable ≡ get_reply looks range (Some (object content))
  beyond_content range (Plain bytes) plain e = beyond_plain range bytes e
  beyond_content range (Segments segments) plain e = absurd (true≢false plain)

  -- the bytes of a range, by the size
  parted_by : (range : ℕ × ℕ) (bytes : List ℕ) → parted (Some range) (length bytes) bytes ≡ ranged (Some range) bytes
  parted_by range bytes = by (nat_lt range.0 (length bytes))
    where
      by : (b : Bool) → option_map (λ (ends : ℕ × ℕ). window ends.0 (ends.1 - ends.0) bytes) (if b then Some (range.0, min (range.1 + 1) (length bytes)) else None) ≡ cond b (Some (slice_range bytes range.0 (min (range.1 + 1) (length bytes)))) None
      by true = refl
      by false = refl

  parted_is : (range : Option (ℕ × ℕ)) (size : ℕ) (bytes : List ℕ) → length bytes ≡ size → parted range size bytes ≡ ranged range bytes
  parted_is None size bytes is = ap Some (take_all (size - 0) bytes (omega (arith, is)))
  parted_is (Some range) size bytes is = sym (ap (λ n. parted (Some range) n bytes) is) ∙ parted_by range bytes

  -- the reply by what was read of a list
  list_by : (head : StoredHead) (range : Option (ℕ × ℕ)) (v : Option (List ℕ)) → ((bytes : List ℕ) → v ≡ Some bytes → length bytes ≡ head.size)
      → reply_of head (option_map (parted range head.size) v) ≡ body_reply head range v
  list_by head range None sized = refl
  list_by head range (Some bytes) sized = ap (λ v. reply_of head (Some v)) (parted_is range head.size bytes (sized bytes refl)) ∙ part (ranged range bytes)
    where
      part : (w : Option (List ℕ)) → reply_of head (Some w) ≡ part_reply head w
      part None = refl
      part (Some bytes) = refl

  read_list : (range : Option (ℕ × ℕ)) (content : Content) → is_list content ≡ true
      → reply_of (head_of (object content)) (listed_part looks range (size_of content) (listed_in content)) ≡ get_reply looks range (Some (object content))
  read_list range (Plain bytes) e = absurd (true≢false (sym e))
  read_list range (Segments segments) e = list_by (head_of (object (Segments segments))) range (joined (outer_bytes looks) segments) (λ bytes there. joined_length (outer_bytes looks) (outer_sized looks) segments bytes there)

module _ (c n : List ℕ) (account : SwiftAccount) (range : Option (ℕ × ℕ)) where
  -- of an object with bytes of its own
  pub bytes_some : (head : StoredHead) (from end : ℕ) (body : List ℕ) → Some (from, end) ≡ served_bounds range head.size → body ≡ part_of from end (find_object account c n)
      → Some head ≡ option_map head_of (find_object account c n) → head.manifest ≡ false → Bytes head body ≡ (swift_step (GetObject c n range) account).reply
  bytes_some head from end body asked read e own = ap (Bytes head) read ∙ by (find_object account c n) e
    where
      by : (v : Option SwiftObject) → Some head ≡ option_map head_of v → Bytes head (part_of from end v) ≡ get_reply (find_object account) range v
      by None e = absurd (none-some _ (sym e))
      by (Some f) e =
          let is = same_Some head (head_of f) e in
          ap (λ h. Bytes h (part_of from end (Some f))) is
          ∙ read_content (find_object account) f.content_type f.meta range f.content from end (sym (ap (λ (h : StoredHead). h.manifest) is) ∙ own) (asked ∙ ap (λ h. served_bounds range h.size) is)

  pub bytes_beyond : (head : StoredHead) → None ≡ served_bounds range head.size → Some head ≡ option_map head_of (find_object account c n) → head.manifest ≡ false → Unsatisfiable ≡ (swift_step (GetObject c n range) account).reply
  bytes_beyond head asked e own = by (find_object account c n) e
    where
      by : (v : Option SwiftObject) → Some head ≡ option_map head_of v → Unsatisfiable ≡ get_reply (find_object account) range v
      by None e = absurd (none-some _ (sym e))
      by (Some f) e =
          let is = same_Some head (head_of f) e in
          beyond_content (find_object account) f.content_type f.meta range f.content (sym (ap (λ (h : StoredHead). h.manifest) is) ∙ own) (asked ∙ ap (λ h. served_bounds range h.size) is)

  pub bytes_none : None ≡ option_map head_of (find_object account c n) → NotFound ≡ (swift_step (GetObject c n range) account).reply
  bytes_none e = by (find_object account c n) e
    where
      by : (v : Option SwiftObject) → None ≡ option_map head_of v → NotFound ≡ get_reply (find_object account) range v
      by None e = refl
      by (Some object) e = absurd (none-some _ e)

  -- of one that lists segments
  pub list_read : (head : StoredHead) (read : Option (Option (List ℕ))) → read ≡ listed_part (find_object account) range head.size (segments_at (find_object account c n)) → Some head ≡ option_map head_of (find_object account c n) → head.manifest ≡ true
      → reply_of head read ≡ (swift_step (GetObject c n range) account).reply
  list_read head read is e lists = ap (reply_of head) is ∙ by (find_object account c n) e
    where
      by : (v : Option SwiftObject) → Some head ≡ option_map head_of v → reply_of head (listed_part (find_object account) range head.size (segments_at v)) ≡ get_reply (find_object account) range v
      by None e = absurd (none-some _ (sym e))
      by (Some f) e =
          let is = same_Some head (head_of f) e in
          ap (λ h. reply_of h (listed_part (find_object account) range h.size (listed_in f.content))) is
          ∙ read_list (find_object account) f.content_type f.meta range f.content (sym (ap (λ (h : StoredHead). h.manifest) is) ∙ lists)

  pub list_some : (head : StoredHead) (body : List ℕ) → Some (Some body) ≡ listed_part (find_object account) range head.size (segments_at (find_object account c n)) → Some head ≡ option_map head_of (find_object account c n) → head.manifest ≡ true
      → Bytes head body ≡ (swift_step (GetObject c n range) account).reply
  list_some head body is e lists = list_read head (Some (Some body)) is e lists

  pub list_beyond : (head : StoredHead) → Some None ≡ listed_part (find_object account) range head.size (segments_at (find_object account c n)) → Some head ≡ option_map head_of (find_object account c n) → head.manifest ≡ true
      → Unsatisfiable ≡ (swift_step (GetObject c n range) account).reply
  list_beyond head is e lists = list_read head (Some None) is e lists

  pub list_lost : (head : StoredHead) → None ≡ listed_part (find_object account) range head.size (segments_at (find_object account c n)) → Some head ≡ option_map head_of (find_object account c n) → head.manifest ≡ true
      → NotFound ≡ (swift_step (GetObject c n range) account).reply
  list_lost head is e lists = list_read head None is e lists

-- ---- bytes of a list

-- a segment isn't there
pub lost_part : (look : Look) (range : Option (ℕ × ℕ)) (size : ℕ) (segments : List Segment) → false ≡ list_all (is_outer look) segments → None ≡ option_map (parted range size) (joined (outer_bytes look) segments)
lost_part look range size segments lost = by (joined (outer_bytes look) segments) (lost ∙ sym (joined_some (outer_bytes look) segments))
  where
    by : (v : Option (List ℕ)) → false ≡ is_some v → None ≡ option_map (parted range size) v
    by None e = refl
    by (Some bytes) e = absurd (true≢false (sym e))

-- each is
pub there_part : (look : Look) (range : Option (ℕ × ℕ)) (size : ℕ) (segments : List Segment) (part : Option (List ℕ)) → true ≡ list_all (is_outer look) segments
    → ((bytes : List ℕ) → joined (outer_bytes look) segments ≡ Some bytes → part ≡ parted range size bytes) → Some part ≡ option_map (parted range size) (joined (outer_bytes look) segments)
there_part look range size segments part there is = by (joined (outer_bytes look) segments) refl (there ∙ sym (joined_some (outer_bytes look) segments))
  where
    by : (v : Option (List ℕ)) → joined (outer_bytes look) segments ≡ v → true ≡ is_some v → Some part ≡ option_map (parted range size) v
    by None at e = absurd (true≢false e)
    by (Some bytes) at e = ap Some (is bytes at)

pub part_some : (range : Option (ℕ × ℕ)) (size from end : ℕ) (body bytes : List ℕ) → Some (from, end) ≡ served_bounds range size → body ≡ window from (end - from) bytes → Some body ≡ parted range size bytes
part_some range size from end body bytes ends is = ap Some is ∙ ap (option_map (λ (p : ℕ × ℕ). window p.0 (p.1 - p.0) bytes)) ends

pub part_beyond : (range : Option (ℕ × ℕ)) (size : ℕ) (bytes : List ℕ) → None ≡ served_bounds range size → None ≡ parted range size bytes
part_beyond range size bytes ends = ap (option_map (λ (p : ℕ × ℕ). window p.0 (p.1 - p.0) bytes)) ends

-- ---- manifests

module _ (c n : List ℕ) (account : SwiftAccount) where
  pub manifest_some : (segments : List Segment) → Some segments ≡ segments_at (find_object account c n) → Manifest segments ≡ (swift_step (GetManifest c n) account).reply
  manifest_some segments e = by (find_object account c n) e
    where
      by : (v : Option SwiftObject) → Some segments ≡ segments_at v → Manifest segments ≡ manifest_reply v
      by None e = absurd (none-some _ (sym e))
      by (Some f) e = ap manifest_by e

  pub manifest_none : None ≡ segments_at (find_object account c n) → NotFound ≡ (swift_step (GetManifest c n) account).reply
  manifest_none e = by (find_object account c n) e
    where
      by : (v : Option SwiftObject) → None ≡ segments_at v → NotFound ≡ manifest_reply v
      by None e = refl
      by (Some f) e = ap manifest_by e

-- the joined ETag
pub list_tag : (segments : List Segment) → joined_etag segments ≡ etag_text (joined_etags segments)
unfolding etag_text
list_tag segments = refl

module _ (c n content_type : List ℕ) (meta : List (List ℕ)) (segments : List Segment) (account : SwiftAccount) where
  -- the container is there
  pub listed_there : (head : Option (ReadList × Option ℕ)) (reply : SwiftReply) → head ≡ option_map container_head (get account c) → is_some head ≡ true
      → reply ≡ shelf_reply_to_manifest (is_good_list (find_object account) segments) segments → reply ≡ (swift_step (PutManifest c n content_type meta segments) account).reply
  listed_there head reply e is replies = replies ∙ by (get account c) (sym (is_there c account head e) ∙ is)
    where
      of : (b : Bool) (folder : SwiftContainer) → shelf_reply_to_manifest b segments ≡ (put_listed b (Some folder) c n (record { content_type = content_type; meta = meta; content = Segments segments }) account).reply
      of true folder = refl
      of false folder = refl

      by : (v : Option SwiftContainer) → is_some v ≡ true → shelf_reply_to_manifest (is_good_list (find_object account) segments) segments ≡ (put_manifest v c n content_type meta segments account).reply
      by None e = absurd (true≢false (sym e))
      by (Some folder) e = of (is_good_list (find_object account) segments) folder

  -- it isn't
  pub listed_missing : (head : Option (ReadList × Option ℕ)) → head ≡ option_map container_head (get account c) → is_some head ≡ false → NotFound ≡ (swift_step (PutManifest c n content_type meta segments) account).reply
  listed_missing head e is = by (get account c) (sym (is_there c account head e) ∙ is)
    where
      by : (v : Option SwiftContainer) → is_some v ≡ false → NotFound ≡ (put_manifest v c n content_type meta segments account).reply
      by None e = refl
      by (Some folder) e = absurd (true≢false e)
