-- What the item of an object in the listing of its bucket says of the segments that it lists; and the calls that read a record and
-- a list of segments.
use Rattle.std.specs.Prelude.{◌≡◌, ◌<◌, ◌≤◌, ◌+◌, ℕ, Bool, true, false, cond, bytes_eq, List, [], ◌∷◌, length, sum_by, is_none, None, Some, Result, Ok, Err}
use Rattle.std.specs.Option.{option_and_then, unwrap_or}
use Rattle.std.specs.Result.{IsErrAnd}
use Rattle.std.specs.FinMap.{get}
use Rattle.std.proofs.Common.{refl, sym, ap, subst, ◌∙◌, arith, true≢false}
use Rattle.std.proofs.lemmas.List.Sums.{sum_by-cons}
use Rattle.std.proofs.lemmas.Option.{same_Some}
use Rattle.gate_base.specs.Maps.{Names}
use Rattle.s3_names.specs.Bucket.{is_bucket}
use Rattle.s3_names.specs.Id.{id_digits}
use Rattle.s3_names.specs.Key.{is_key}
use Rattle.s3_machine.specs.ETag.{body_etag}
use Rattle.slo_manifest.specs.declared.Segment.{Segment}
use Rattle.swift_calls.specs.Account.{SwiftObject, SwiftAccount, files, find_object, size_of}
use Rattle.swift_calls.specs.Bodies.{etag_of, listed_in}
use Rattle.swift_calls.specs.Step.{manifest_by, manifest_reply}
use Rattle.swift_calls.specs.declared.calls.SwiftRequest.TheVariants.{GetManifest}
use Rattle.swift_calls.specs.declared.account.Content.TheVariants.{Plain}
use Rattle.swift_calls.specs.declared.heads.NameItem.{NameItem}
use Rattle.swift_marks.specs.Tag.{read_stamp, read_tag, stamp_of}
use Rattle.swift_marks.specs.declared.tag.Stamp.{Stamp}
use Rattle.swift_marks.specs.declared.tag.Tag.{Tag}
use Rattle.swift_marks.proofs.lemmas.Stamps.{tag_has_stamp}
use Rattle.upload_records.specs.Layout.{segments_name, uploads_name}
use Rattle.upload_records.specs.Consistent.{AreParts, IsCompletedBody, of_none, of_segments, IsConsistent, IsObject, in_one_piece, in_parts}
use Rattle.upload_records.proofs.lemmas.Objects.{file_is_object}
use Rattle.upload_records.proofs.lemmas.Subs.{listing_sum}
use Rattle.swift_calls.specs.History.{History, present}
use Rattle.swift_marks.specs.Tag.{ReadsStamp}
use Rattle.swift_marks.specs.declared.fault.MarkFault.{MarkFault}
use Rattle.swift_marks.specs.declared.fault.MarkFault.TheVariants as mark
use Rattle.account_calls.specs.declared.fault.PlanFault.{PlanFault}
use Rattle.account_calls.specs.declared.fault.PlanFault.TheVariants as plan
use Rattle.account_calls.specs.Fault.{mark_fault}
use Rattle.account_calls.specs.Calls.{always, Asks}
use Rattle.account_calls.specs.Interpret.{listed_due}
use Rattle.account_calls.specs.Listing.{TellsOf}
use Rattle.account_calls.proofs.lemmas.Faults.{err_is}
use Rattle.account_calls.proofs.lemmas.FilePages.{file_is_key}
use Rattle.account_calls.proofs.lemmas.Idle.{grows_none}
use Rattle.account_calls.proofs.lemmas.One.{IsReadingOf, not_asked}
use Rattle.leftovers.specs.Lists.{id_in_stamp, is_whole_list, item_id, nothing_due, size_of_list}
use Rattle.leftovers.specs.Gathering.{AreKnown, HasInner, HasItem, HasListing, HasRecord, TellsListing, segments_at, sub_manifests_in}
use Rattle.leftovers.specs.Leftovers.{id_in, segments_in}
use Rattle.account_calls.proofs.lemmas.Etags.{etag_agrees}
use Rattle.account_calls.proofs.lemmas.Quiet.{told_here}
use Rattle.leftovers.proofs.SubManifests.{list_known}
use Rattle.leftovers.proofs.WholeLists.{list_whole}
use Rattle.leftovers.proofs.lemmas.Readings.{asks_given, asks_idle}

-- ---- the item of an object

-- what a list of some parts has is some bytes
parts_filled : (S : Names SwiftObject) (folder id : List ℕ) (above : ℕ) (list : List Segment) → AreParts S folder id above list → 0 < length list → 0 < sum_by (λ s. s.size) list
parts_filled S folder id above [] h some = absurd (omega (arith, some))
parts_filled S folder id above (s ∷ list) (number, low, high, listed, rest) some =
    let filled = listed.filled in
    let sum : sum_by (λ (x : Segment). x.size) (s ∷ list) ≡ s.size + sum_by (λ (x : Segment). x.size) list = sum_by-cons (λ (x : Segment). x.size) s list in
    omega (arith, filled, listed.size, sum)

module _ (tree : SwiftAccount) (bucket : List ℕ) (item : NameItem) (is : is_bucket bucket ≡ true) (sound : IsConsistent tree) (has : HasItem bucket bucket item tree) where
  abbrev S : Names SwiftObject
  S = files tree (segments_name bucket)

  abbrev file : SwiftObject
  file = has.is.file

  object : IsObject S (segments_name bucket) item.name file
  object = file_is_object tree bucket item.name file sound is has.is.found

  size_is : item.size ≡ size_of file.content
  size_is = ap (λ (x : NameItem). x.size) has.is.is

  type_is : item.content_type ≡ file.content_type
  type_is = ap (λ (x : NameItem). x.content_type) has.is.is

  listed_are : segments_at tree bucket item.name ≡ segments_in (Some file)
  listed_are = ap segments_in has.is.found

  stamp_is : (tag : Tag) → read_tag file.content_type ≡ Some tag → read_stamp item.content_type ≡ Some (stamp_of tag)
  stamp_is tag tagged = ap read_stamp type_is ∙ tag_has_stamp file.content_type tag tagged

  body_none : (id : List ℕ) → size_of file.content ≡ 0 → IsCompletedBody S (segments_name bucket) id file.content → segments_in (Some file) ≡ []
  body_none id none (of_none own) = ap (λ c. unwrap_or (listed_in c) []) own
  body_none id none (of_segments listed own list) =
      let filled = parts_filled S (segments_name bucket) id 0 list.parts list.are list.some in
      let sum : sum_by (λ (s : Segment). s.size) listed ≡ sum_by (λ (s : Segment). s.size) list.parts = ap (sum_by (λ (s : Segment). s.size)) list.lists ∙ listing_sum (segments_name bucket) id list.parts in
      absurd (omega (arith, filled, sum, sym (ap size_of own) ∙ none))

  -- an empty one lists none
  pub empty_lists_none : item.size ≡ 0 → segments_at tree bucket item.name ≡ []
  empty_lists_none none = listed_are ∙ by object
    where
      by : IsObject S (segments_name bucket) item.name file → segments_in (Some file) ≡ []
      by (in_one_piece keyed plain) = ap (λ c. unwrap_or (listed_in c) []) plain.own
      by (in_parts keyed completed) = body_none (id_digits completed.id) (sym size_is ∙ none) completed.body

  -- one of no upload lists none
  pub whole_lists_none : (stamp : Stamp) → read_stamp item.content_type ≡ Some stamp → is_none stamp.id ≡ true → segments_at tree bucket item.name ≡ []
  whole_lists_none stamp reads none = listed_are ∙ by object
    where
      by : IsObject S (segments_name bucket) item.name file → segments_in (Some file) ≡ []
      by (in_one_piece keyed plain) = ap (λ c. unwrap_or (listed_in c) []) plain.own
      by (in_parts keyed completed) =
          let tag : Tag = record { content_type = completed.content_type; etag = completed.etag; moment = completed.moment; id = Some completed.id } in
          let ids : stamp.id ≡ Some completed.id = ap (λ (x : Stamp). x.id) (same_Some stamp (stamp_of tag) (sym reads ∙ stamp_is tag completed.tagged)) in
          let no : true ≡ false = sym none ∙ ap is_none ids in
          cc

  -- an object of an upload that has a byte lists segments, in a whole list under the id
  pub record Lists (id : ℕ) : Type 0 where
    pub lists : HasListing bucket item.name tree
    pub whole : is_whole_list true (segments_name bucket) (id_digits id) item.size lists.listed ≡ true

  body_lists : (id : ℕ) → 0 < item.size → IsCompletedBody S (segments_name bucket) (id_digits id) file.content → Lists id
  body_lists id some (of_none own) = absurd (omega (arith, some, size_is, ap size_of own))
  body_lists id some (of_segments listed own list) =
      let sized : size_of_list listed ≡ item.size = sym (ap size_of own) ∙ sym size_is in
      record {
        lists = record { file = file; listed = listed; found = has.is.found; lists = own };
        whole = ap (λ n. is_whole_list true (segments_name bucket) (id_digits id) n listed) (sym sized) ∙ list_whole S (segments_name bucket) id listed list;
      }

  -- the id that the item tells is that of the object's tag
  ids_are : (tag : Tag) → read_tag file.content_type ≡ Some tag → item_id item ≡ tag.id
  ids_are tag tagged = ap (option_and_then id_in_stamp) (stamp_is tag tagged)

  pub others_list : 0 < item.size → (id : ℕ) → item_id item ≡ Some id → Lists id
  others_list some id of = by object
    where
      by : IsObject S (segments_name bucket) item.name file → Lists id
      by (in_one_piece keyed plain) =
          let tag : Tag = record { content_type = plain.content_type; etag = body_etag plain.bytes; moment = plain.moment; id = None } in
          let none : None ≡ Some id = sym (ids_are tag plain.tagged) ∙ of in
          cc
      by (in_parts keyed completed) =
          let tag : Tag = record { content_type = completed.content_type; etag = completed.etag; moment = completed.moment; id = Some completed.id } in
          let both : Some completed.id ≡ Some id = sym (ids_are tag completed.tagged) ∙ of in
          let same : completed.id ≡ id = cc in
          subst Lists same (body_lists completed.id some completed.body)

  -- an item of size 0 has the hash of no byte
  none_of : {X : Type 0} (xs : List X) → length xs ≡ 0 → xs ≡ []
  none_of [] e = refl
  none_of (x ∷ xs) e = absurd (omega (arith, e))

  hash_none : file.content ≡ Plain [] → bytes_eq item.hash (body_etag []) ≡ true
  hash_none own = ap (λ h. bytes_eq h (body_etag [])) (ap (λ (x : NameItem). x.hash) has.is.is ∙ ap etag_of own) ∙ etag_agrees []

  pub empty_hash : item.size ≡ 0 → bytes_eq item.hash (body_etag []) ≡ true
  empty_hash none = by object
    where
      by_body : (id : List ℕ) → IsCompletedBody S (segments_name bucket) id file.content → bytes_eq item.hash (body_etag []) ≡ true
      by_body id (of_none own) = hash_none own
      by_body id (of_segments listed own list) =
          let filled = parts_filled S (segments_name bucket) id 0 list.parts list.are list.some in
          let sum : sum_by (λ (s : Segment). s.size) listed ≡ sum_by (λ (s : Segment). s.size) list.parts = ap (sum_by (λ (s : Segment). s.size)) list.lists ∙ listing_sum (segments_name bucket) id list.parts in
          absurd (omega (arith, filled, sum, sym (ap size_of own) ∙ sym size_is ∙ none))

      by : IsObject S (segments_name bucket) item.name file → bytes_eq item.hash (body_etag []) ≡ true
      by (in_one_piece keyed plain) = hash_none (plain.own ∙ ap Plain (none_of plain.bytes (sym (ap size_of plain.own) ∙ sym size_is ∙ none)))
      by (in_parts keyed completed) = by_body (id_digits completed.id) completed.body

  -- each has a stamp
  pub has_stamp : read_stamp item.content_type ≡ None → ⊥
  has_stamp none = by object
    where
      never : (tag : Tag) → read_tag file.content_type ≡ Some tag → ⊥
      never tag tagged = let no : None ≡ Some (stamp_of tag) = sym none ∙ stamp_is tag tagged in cc

      by : IsObject S (segments_name bucket) item.name file → ⊥
      by (in_one_piece keyed plain) = never _ plain.tagged
      by (in_parts keyed completed) = never _ completed.tagged

-- ---- what it lists

module _ (tree : SwiftAccount) (bucket : List ℕ) (item : NameItem) (is : is_bucket bucket ≡ true) (sound : IsConsistent tree) (has : HasItem bucket bucket item tree) where
  -- each segment that an object lists is a part or a sub-manifest, and of these there are ten at most
  pub object_known : AreKnown bucket (segments_at tree bucket item.name) tree × (sub_manifests_in (segments_at tree bucket item.name) ≤ 10)
  object_known =
      subst (λ l. AreKnown bucket l tree × (sub_manifests_in l ≤ 10)) (sym (ap segments_in has.is.found)) (by (file_is_object tree bucket item.name has.is.file sound is has.is.found))
    where
      bare : (own : segments_in (Some has.is.file) ≡ []) → AreKnown bucket (segments_in (Some has.is.file)) tree × (sub_manifests_in (segments_in (Some has.is.file)) ≤ 10)
      bare own = subst (λ l. AreKnown bucket l tree × (sub_manifests_in l ≤ 10)) (sym own) (tt, omega arith)

      by_body : (id : ℕ) → IsCompletedBody (files tree (segments_name bucket)) (segments_name bucket) (id_digits id) has.is.file.content → AreKnown bucket (segments_in (Some has.is.file)) tree × (sub_manifests_in (segments_in (Some has.is.file)) ≤ 10)
      by_body id (of_none own) = bare (ap (λ c. unwrap_or (listed_in c) []) own)
      by_body id (of_segments listed own list) =
          subst (λ l. AreKnown bucket l tree × (sub_manifests_in l ≤ 10)) (sym (ap (λ c. unwrap_or (listed_in c) []) own)) (list_known tree bucket id listed list)

      by : IsObject (files tree (segments_name bucket)) (segments_name bucket) item.name has.is.file → AreKnown bucket (segments_in (Some has.is.file)) tree × (sub_manifests_in (segments_in (Some has.is.file)) ≤ 10)
      by (in_one_piece keyed plain) = bare (ap (λ c. unwrap_or (listed_in c) []) plain.own)
      by (in_parts keyed completed) = by_body completed.id completed.body

-- ---- GET of a list

pub listing_reads : {bucket key container name : List ℕ} → container ≡ bucket → name ≡ key → IsReadingOf (HasListing bucket key) (GetManifest container name) listed_due (TellsListing bucket key)
listing_reads {bucket = bucket} {key = key} named under = record {
  leaves = λ tree. refl;
  tells = λ tree sound has reply replied. (
    has.listed,
    ap listed_due (replied ∙ (λ i. manifest_reply (find_object tree (named i) (under i))) ∙ ap manifest_reply has.found ∙ ap (λ c. manifest_by (listed_in c)) has.lists),
    sym (ap segments_in has.found ∙ ap (λ c. unwrap_or (listed_in c) []) has.lists),
  );
}

-- ---- the file of a record

-- the item of a record says that its file is there
pub has_record : {folder bucket : List ℕ} {item : NameItem} → folder ≡ uploads_name bucket → (tree : SwiftAccount) → HasItem folder bucket item tree → HasRecord bucket item.name tree
has_record {item = item} named tree has = record { there = has.there; file = has.is.file; found = ap (λ f. get (files tree f) item.name) (sym named) ∙ has.is.found }

-- ---- the stamp of an item can't be read

pub stamp_fault : (bucket : List ℕ) (item : NameItem) → is_bucket bucket ≡ true → {T : Type 0} {P : SwiftAccount → T → Type 0} (a : History) (text : List ℕ) → text ≡ item.content_type → (f : MarkFault) → ReadsStamp (read_stamp text) (Err f)
    → (result : Result T PlanFault) → IsErrAnd result (λ e. e ≡ mark_fault f) → Asks (always 1) a a (HasItem bucket bucket item) (TellsOf P) result
stamp_fault bucket item is {P = P} a text same mark.NoTag none result gives = subst (Asks (always 1) a a (HasItem bucket bucket item) (TellsOf P)) (sym (err_is result plan.Inconsistent gives)) (record {
  grows = grows_none (always 1) (HasItem bucket bucket item) a;
  cause = refl;
  effect = λ met. absurd (has_stamp (present a) bucket item is met.sound met.has (ap read_stamp (sym same) ∙ none));
  settled = λ observable settled. settled;
})
stamp_fault bucket item is a text same mark.BadPack never result gives = absurd never
stamp_fault bucket item is a text same mark.Memory done result gives = not_asked (always 1) a result gives

-- ---- an answer that a consistent account doesn't give

-- nothing was asked
pub refused_here : {T : Type 0} {given : SwiftAccount → Type 0} {P : SwiftAccount → T → Type 0} (h : History) → ((tree : SwiftAccount) → IsConsistent tree → given tree → ⊥) → Asks (always 1) h h given (TellsOf P) (Err plan.Inconsistent)
refused_here {given = given} h never = record {
  grows = grows_none (always 1) given h;
  cause = refl;
  effect = λ met. absurd (never (present h) met.sound met.has);
  settled = λ observable settled. settled;
}

-- what was told can't be
pub refused_told : {T U : Type 0} {a b : History} {given : SwiftAccount → Type 0} {P : SwiftAccount → U → Type 0} {Q : SwiftAccount → T → Type 0} {x : U} → Asks (always 1) a b given (TellsOf P) (Ok x)
    → ((tree : SwiftAccount) → IsConsistent tree → given tree → P tree x → ⊥) → Asks (always 1) a b given (TellsOf Q) (Err plan.Inconsistent)
refused_told first never = record {
  grows = record { on = first.grows.on; calls = first.grows.calls };
  cause = first.cause;
  effect = λ met. absurd (never _ met.sound met.has (told_here first met).of_account);
  settled = first.settled;
}

-- ---- an item of size 0

pub nothing_asks : (bucket : List ℕ) (item : NameItem) → is_bucket bucket ≡ true → (h : History) (result : Result (List Segment) PlanFault) → item.size ≡ 0 → result ≡ nothing_due item
    → Asks (always 1) h h (HasItem bucket bucket item) (TellsOf (TellsListing bucket item.name)) result
nothing_asks bucket item is h result none due = by (bytes_eq item.hash (body_etag [])) refl due
  where
    by : (t : Bool) → bytes_eq item.hash (body_etag []) ≡ t → result ≡ cond t (Ok []) (Err plan.Inconsistent) → Asks (always 1) h h (HasItem bucket bucket item) (TellsOf (TellsListing bucket item.name)) result
    by true same e = subst (Asks (always 1) h h (HasItem bucket bucket item) (TellsOf (TellsListing bucket item.name))) (sym e)
        (asks_idle (always 1) h [] (λ tree sound has. sym (empty_lists_none tree bucket item is sound has none)))
    by false same e = subst (Asks (always 1) h h (HasItem bucket bucket item) (TellsOf (TellsListing bucket item.name))) (sym e)
        (refused_here h (λ tree sound has. true≢false (sym (empty_hash tree bucket item is sound has none) ∙ same)))

-- ---- the list of an object under an id

module _ (bucket : List ℕ) (item : NameItem) (is : is_bucket bucket ≡ true) (some : 0 < item.size) (id : ℕ) (of : item_id item ≡ Some id) where
  pub given_lists : (tree : SwiftAccount) → IsConsistent tree → HasItem bucket bucket item tree → HasListing bucket item.name tree
  given_lists tree sound has = (others_list tree bucket item is sound has some id of).lists

  pub list_refused : {T : Type 0} {Q : SwiftAccount → T → Type 0} {a b : History} {told : List Segment} → Asks (always 1) a b (HasItem bucket bucket item) (TellsOf (TellsListing bucket item.name)) (Ok told)
      → is_whole_list true (segments_name bucket) (id_digits id) item.size told ≡ false → Asks (always 1) a b (HasItem bucket bucket item) (TellsOf Q) (Err plan.Inconsistent)
  list_refused {told = told} first not = refused_told first (λ tree sound has tells.
      let lists = others_list tree bucket item is sound has some id of in
      let same : told ≡ lists.lists.listed = tells ∙ ap segments_in lists.lists.found ∙ ap (λ c. unwrap_or (listed_in c) []) lists.lists.lists in
      true≢false (sym lists.whole ∙ ap (is_whole_list true (segments_name bucket) (id_digits id) item.size) (sym same) ∙ not))

-- ---- the list of a sub-manifest

-- a name that is no key is that of no file
pub unkeyed : {T : Type 0} {P : SwiftAccount → T → Type 0} (bucket : List ℕ) (a : History) (s : Segment) (text : List ℕ) → text ≡ s.name → is_key text ≡ false
    → Asks (always 1) a a (HasInner bucket s) (TellsOf P) (Err plan.Inconsistent)
unkeyed bucket a s text same not = refused_here a (λ tree sound has.
    true≢false (sym (file_is_key s.name (sound.stored (segments_name bucket) s.name has.has.file has.has.found).named) ∙ ap is_key (sym same) ∙ not))

-- the container by its name
pub listing_named : {a b : History} (bucket : List ℕ) (s : Segment) {folder : List ℕ} {result : Result (List Segment) PlanFault} → folder ≡ segments_name bucket
    → Asks (always 1) a b (HasListing folder s.name) (TellsOf (TellsListing folder s.name)) result
    → Asks (always 1) a b (HasInner bucket s) (TellsOf (TellsListing (segments_name bucket) s.name)) result
listing_named {a = a} {b = b} bucket s {result = result} named asks =
    asks_given (λ tree sound has. has.has) (subst (λ f. Asks (always 1) a b (HasListing f s.name) (TellsOf (TellsListing f s.name)) result) named asks)

pub inner_refused : {T : Type 0} {Q : SwiftAccount → T → Type 0} {a b : History} {told : List Segment} (bucket : List ℕ) (s : Segment) → Asks (always 1) a b (HasInner bucket s) (TellsOf (TellsListing (segments_name bucket) s.name)) (Ok told)
    → is_whole_list false (segments_name bucket) (id_in s.name) s.size told ≡ false → Asks (always 1) a b (HasInner bucket s) (TellsOf Q) (Err plan.Inconsistent)
inner_refused {told = told} bucket s first not = refused_told first (λ tree sound has tells.
    let same : told ≡ has.has.listed = tells ∙ ap segments_in has.has.found ∙ ap (λ c. unwrap_or (listed_in c) []) has.has.lists in
    true≢false (sym has.whole ∙ ap (is_whole_list false (segments_name bucket) (id_in s.name) s.size) (sym same) ∙ not))
