-- What is asked again before the first file beside a bucket goes: over a consistent account nothing says against it.
use Rattle.std.specs.Prelude.{◌≡◌, ◌||◌, ℕ, Bool, true, false, not, cond, bytes_eq, IsTrue, List, [], ◌∷◌, Option, None, Some, Result, Ok, Err, IfOk, OnOk}
use Rattle.std.specs.List.{list_any}
use Rattle.std.specs.Option.{option_and_then, unwrap_or}
use Rattle.std.proofs.Common.{refl, sym, ap, subst, ◌∙◌, inl, inr, true≢false}
use Rattle.std.proofs.lemmas.Bool.{and_parts}
use Rattle.std.proofs.lemmas.Map.Text.{is_eq-slice_cmp}
use Rattle.gate_base.specs.Maps.{Names}
use Rattle.gate_base.proofs.lemmas.Maps.{by_name, key_itself}
use Rattle.s3_names.specs.Bucket.{is_bucket}
use Rattle.s3_names.specs.Id.{id_digits}
use Rattle.s3_names.specs.Key.{is_key}
use Rattle.s3_machine.specs.declared.operation.Listed.{Listed}
use Rattle.slo_manifest.specs.declared.Segment.{Segment}
use Rattle.swift_calls.specs.Account.{SwiftObject, SwiftAccount, files, find_object}
use Rattle.swift_calls.specs.Bodies.{bytes_of, head_of, listed_in, plain_bytes}
use Rattle.swift_calls.specs.History.{History, Calls, present}
use Rattle.swift_calls.specs.Step.{body_reply, get_reply, manifest_by, manifest_reply}
use Rattle.swift_calls.specs.declared.account.Content.{Content}
use Rattle.swift_calls.specs.declared.account.Content.TheVariants.{Plain, Segments}
use Rattle.swift_calls.specs.declared.calls.SwiftReply.{SwiftReply}
use Rattle.swift_calls.specs.declared.calls.SwiftRequest.TheVariants.{GetManifest, GetObject}
use Rattle.upload_texts.specs.Records.{has_record_text, read_record}
use Rattle.upload_texts.specs.declared.record.Record.{Record}
use Rattle.upload_texts.specs.declared.record.Record.TheVariants.{Done}
use Rattle.upload_records.specs.Layout.{segments_name, uploads_name}
use Rattle.upload_records.specs.Native.{record_at, record_of, seal_of}
use Rattle.upload_records.specs.Consistent.{IsConsistent, IsSegment, is_part, is_sub_manifest}
use Rattle.account_calls.specs.Calls.{always, Asks}
use Rattle.account_calls.specs.Interpret.{Gives}
use Rattle.account_calls.specs.Listing.{TellsOf}
use Rattle.account_calls.specs.declared.fault.PlanFault.{PlanFault}
use Rattle.account_calls.specs.declared.fault.PlanFault.TheVariants as fault
use Rattle.account_calls.proofs.lemmas.FilePages.{file_is_key}
use Rattle.account_calls.proofs.lemmas.One.{found, IsReadingOf}
use Rattle.account_calls.proofs.lemmas.SideNames.{id_fits}
use Rattle.leftovers.specs.Asking.{any_goes, found_record_due, found_record_by, list_due, record_found, HasOrphan, HasOrphanOf, HasUnused, IsListClear, TellsFound, TellsNothing}
use Rattle.leftovers.specs.Leftovers.{id_in, is_listed_in, is_open, is_sealed_in, is_used, lists_segment, names_segment}
use Rattle.leftovers.proofs.Gathers.{or_true_first}
use Rattle.leftovers.proofs.Listings.{refused_here}
use Rattle.leftovers.proofs.Unused.{not_listed}
use Rattle.leftovers.proofs.UnusedGone.{id_in_name}
use Rattle.leftovers.proofs.WholeLists.{id_in_sub}

-- ---- an id is a key

pub id_is_key : (id : ℕ) → is_key (id_digits id) ≡ true
id_is_key id = let fits = id_fits id in let text = fits.1 in file_is_key (id_digits id) (record { filled = fits.0; within = text.within; text = text.utf8; no_zero = text.no_zero })

-- and each file beside a bucket stands under one
segment_key : (name : List ℕ) (file : SwiftObject) → IsSegment name file → is_key (id_in name) ≡ true
segment_key name file (is_part part) = ap (λ n. is_key (id_in n)) part.named ∙ ap is_key (id_in_name part.id part.number) ∙ id_is_key part.id
segment_key name file (is_sub_manifest sub) = ap (λ n. is_key (id_in n)) sub.named ∙ ap is_key (id_in_sub sub.id sub.number) ∙ id_is_key sub.id

orphan_key : (bucket id : List ℕ) (test : List ℕ → Bool) (tree : SwiftAccount) → is_bucket bucket ≡ true → IsConsistent tree → HasOrphan bucket id test tree → is_key id ≡ true
orphan_key bucket id test tree is sound has =
    ap is_key (sym has.of) ∙ segment_key has.name has.file ((sound.buckets bucket is has.has.there).of_segments has.name has.file has.found)

pub orphan_unkeyed : {T : Type 0} {P : SwiftAccount → T → Type 0} (bucket id : List ℕ) (test : List ℕ → Bool) → is_bucket bucket ≡ true → (h : History) → is_key id ≡ false
    → Asks (always 1) h h (HasOrphan bucket id test) (TellsOf P) (Err fault.Inconsistent)
orphan_unkeyed bucket id test is h not = refused_here h (λ tree sound has. true≢false (sym (orphan_key bucket id test tree is sound has) ∙ not))

-- ---- GET of the record of an id

module _ (tree : SwiftAccount) (bucket id : List ℕ) (is : is_bucket bucket ≡ true) (sound : IsConsistent tree) (test : List ℕ → Bool) (has : HasUnused bucket test tree) where
  found_by : (o : Option SwiftObject) → find_object tree (uploads_name bucket) id ≡ o → (reply : SwiftReply) → reply ≡ get_reply (find_object tree) None o
      → (told : Option Record) × (found_record_due reply ≡ Ok told) × TellsFound bucket id tree told
  found_by None none reply e = (None, ap found_record_due e, sym (ap (option_and_then record_of) none))
  found_by (Some file) there reply e =
      let kept = (sound.buckets bucket is has.there).of_records id file there in (
        Some kept.is,
        ap found_record_due e ∙ (λ i. found_record_due (body_reply (head_of file) None (bytes_of (find_object tree) (kept.own i)))) ∙ ap found_record_by kept.reads,
        sym (ap (option_and_then record_of) there ∙ ap (λ c. option_and_then read_record (plain_bytes c)) kept.own ∙ kept.reads),
      )

pub found_reads : {container name id : List ℕ} (bucket : List ℕ) → container ≡ uploads_name bucket → name ≡ id → is_bucket bucket ≡ true → (test : List ℕ → Bool)
    → IsReadingOf (HasUnused bucket test) (GetObject container name None) found_record_due (TellsFound bucket id)
found_reads {id = id} bucket named same is test = record {
  leaves = λ tree. refl;
  tells = λ tree sound has reply replied.
      found_by tree bucket id is sound test has (find_object tree (uploads_name bucket) id) refl reply (replied ∙ (λ i. get_reply (find_object tree) None (find_object tree (named i) (same i))));
}

pub says_found : {a b : History} {uploads id container name : List ℕ} {reply : SwiftReply} → container ≡ uploads → name ≡ id → Calls a b (GetObject container name None) (Ok reply)
    → (result : Result (Option Record) PlanFault) → Gives result (found_record_due reply) → IsTrue a.observable → IfOk result (λ told. record_found uploads id (present a) ≡ Ok told)
says_found named same calls (Err f) gives observable = tt
says_found named same calls (Ok told) (inl out) observable = cc
says_found {a = a} {b = b} {uploads = uploads} {id = id} named same calls (Ok told) (inr is) observable =
    let tree = b.account_at a.called in
    let told_is : Ok told ≡ found_record_due (get_reply (find_object tree) None (find_object tree uploads id)) =
    is ∙ ap found_record_due (calls.effect observable).reply ∙ (λ i. found_record_due (get_reply (find_object tree) None (find_object tree (named i) (same i)))) in
    subst (λ t. record_found uploads id t ≡ Ok told) (found calls observable) (sym told_is)

-- ---- GET of the list of a key

or_here : (s t : Bool) → s ≡ true → (s || t) ≡ true
or_here s t e = ap (λ u. u || t) e

or_there : (s t : Bool) → t ≡ true → (s || t) ≡ true
or_there s t e = ap (λ u. s || u) e ∙ or_true_first s

not_any : (s t : Bool) → s ≡ false → t ≡ false → (s || t) ≡ false
not_any s t e f = ap (λ u. u || t) e ∙ f

module _ (S : Names SwiftObject) (test : List ℕ → Bool) where
  none_goes : (list : List Segment) → ((name : List ℕ) → list_any (names_segment S name) list ≡ true → test name ≡ false) → any_goes test list ≡ false
  none_goes [] stays = refl
  none_goes (s ∷ list) stays =
      let here : bytes_eq s.name s.name ≡ true = sym (is_eq-slice_cmp s.name s.name) ∙ key_itself by_name s.name in
      not_any (test s.name) (any_goes test list)
      (stays s.name (or_here (names_segment S s.name s) (list_any (names_segment S s.name) list) (or_here (bytes_eq s.name s.name) _ here)))
      (none_goes list (λ name any. stays name (or_there (names_segment S name s) (list_any (names_segment S name) list) any)))

module _ (tree : SwiftAccount) (bucket key : List ℕ) (test : List ℕ → Bool) (has : HasUnused bucket test tree) where
  used_stays : (name : List ℕ) → is_used tree bucket name ≡ true → test name ≡ false
  used_stays name used = has.unused name ∙ ap not used

  listed_used : (file : SwiftObject) → find_object tree bucket key ≡ Some file → (name : List ℕ) → lists_segment (files tree (segments_name bucket)) name file ≡ true → is_used tree bucket name ≡ true
  listed_used file there name lists = by (is_listed_in (files tree bucket) (files tree (segments_name bucket)) name) refl
    where
      by : (t : Bool) → is_listed_in (files tree bucket) (files tree (segments_name bucket)) name ≡ t → is_used tree bucket name ≡ true
      by true listed = or_here (is_listed_in (files tree bucket) (files tree (segments_name bucket)) name) _ listed
      by false unlisted = absurd (true≢false (sym lists ∙ not_listed (files tree bucket) (files tree (segments_name bucket)) name key file unlisted there))

  list_by : (file : SwiftObject) → find_object tree bucket key ≡ Some file → (c : Content) → file.content ≡ c → list_due test (manifest_by (listed_in c)) ≡ Ok tt
  list_by file there (Plain bytes) own = refl
  list_by file there (Segments list) own =
      ap (λ t. cond t (Err fault.Inconsistent) (Ok tt))
      (none_goes (files tree (segments_name bucket)) test list
      (λ name any. used_stays name (listed_used file there name (ap (λ c. list_any (names_segment (files tree (segments_name bucket)) name) (unwrap_or (listed_in c) [])) own ∙ any))))

  list_clear : (o : Option SwiftObject) → find_object tree bucket key ≡ o → list_due test (manifest_reply o) ≡ Ok tt
  list_clear None none = refl
  list_clear (Some file) there = list_by file there file.content refl

pub list_reads : {container name bucket key : List ℕ} (test : List ℕ → Bool) → container ≡ bucket → name ≡ key → IsReadingOf (HasUnused bucket test) (GetManifest container name) (list_due test) TellsNothing
list_reads {bucket = bucket} {key = key} test named same = record {
  leaves = λ tree. refl;
  tells = λ tree sound has reply replied. (
    tt,
    ap (list_due test) (replied ∙ (λ i. manifest_reply (find_object tree (named i) (same i)))) ∙ list_clear tree bucket key test has (find_object tree bucket key) refl,
    tt,
  );
}

pub says_list : {a b : History} {bucket key container name : List ℕ} {reply : SwiftReply} (test : List ℕ → Bool) → container ≡ bucket → name ≡ key → Calls a b (GetManifest container name) (Ok reply)
    → (result : Result (Unit {0}) PlanFault) → result ≡ list_due test reply → IsTrue a.observable → OnOk result (IsListClear bucket test (present a) key)
says_list test named same calls (Err f) is observable = tt
says_list {a = a} {b = b} {bucket = bucket} {key = key} test named same calls (Ok done) is observable =
    let tree = b.account_at a.called in
    let told_is : Ok tt ≡ list_due test (manifest_reply (find_object tree bucket key)) =
    is ∙ ap (list_due test) (calls.effect observable).reply ∙ (λ i. list_due test (manifest_reply (find_object tree (named i) (same i)))) in
    subst (λ t. IsListClear bucket test t key) (found calls observable) (sym told_is)

-- ---- the record of an open upload

pub open_refused : {T : Type 0} {P : SwiftAccount → T → Type 0} (bucket id : List ℕ) (test : List ℕ → Bool) (h : History) (told : Record) → is_open (Some told) ≡ true
    → Asks (always 1) h h (HasOrphanOf bucket id test told) (TellsOf P) (Err fault.Inconsistent)
open_refused bucket id test h told opens = refused_here h (λ tree sound has.
    let here : is_open (record_at (files tree (uploads_name bucket)) (id_in has.has.name)) ≡ true = ap (λ n. is_open (record_at (files tree (uploads_name bucket)) n)) has.has.of ∙ ap is_open (sym has.is) ∙ opens in
    let used : is_used tree bucket has.has.name ≡ true =
    or_there (is_listed_in (files tree bucket) (files tree (segments_name bucket)) has.has.name) _ (or_here (is_open (record_at (files tree (uploads_name bucket)) (id_in has.has.name))) (is_sealed_in (seal_of tree) bucket has.has.name) here) in
    true≢false (sym has.has.passes ∙ used_stays tree bucket id test has.has.has has.has.name used))

-- the key of a record that has a text
pub done_key : (key : List ℕ) (list : List Listed) (etag : List ℕ) (started : ℕ) (moment : Option ℕ) → has_record_text (Done key list etag started moment) ≡ true → is_key key ≡ true
unfolding has_record_text
done_key key list etag started moment has = (and_parts (is_key key) _ has).0
