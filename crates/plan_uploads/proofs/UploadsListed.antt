-- The rows of all records are those of the open uploads of the state.
use Rattle.std.proofs.Common.{◌≡◌, ℕ, zero, suc, ◌+◌, ◌<◌, ◌≤◌, Bool, true, false, cond, ◌&&◌, List, [], ◌∷◌, map, length, is_some, Option, Some, None, Result, Ok, Err, refl, sym, ap, subst, ◌∙◌, arith}
use Rattle.std.specs.Result.{IsErrAnd}
use Rattle.std.specs.List.{All, cons_option, filter, filter_map, AllByRecursion}
use Rattle.std.specs.Option.{option_and_then, option_map, unwrap_or}
use Rattle.std.specs.Ordering.{is_lt}
use Rattle.std.specs.FinMap.{entries, from_entries, get}
use Rattle.std.proofs.lemmas.List.{length-map}
use Rattle.gate_base.specs.Maps.{Names, name_cmp, pick_entry, picked}
use Rattle.gate_base.proofs.lemmas.Maps.{name_antisymmetric, name_total}
use Rattle.s3_names.specs.Bucket.{is_bucket}
use Rattle.s3_names.specs.Id.{id_digits, id_of}
use Rattle.s3_names.proofs.lemmas.Ids.{id_reads_back}
use Rattle.s3_machine.specs.Items.{begins, behind, with_prefix}
use Rattle.s3_machine.specs.Shown.{IsShownUpload}
use Rattle.s3_machine.specs.State.{Upload}
use Rattle.s3_machine.specs.Uploads.{cut, id_value, is_upload_after, is_upload_listed, upload_place, upload_row, uploads_after}
use Rattle.s3_machine.specs.declared.items.UploadItem.{UploadItem}
use Rattle.swift_calls.specs.Account.{SwiftObject, SwiftContainer, SwiftAccount, files}
use Rattle.swift_calls.specs.Bodies.{plain_bytes}
use Rattle.swift_calls.specs.History.{History, present}
use Rattle.upload_texts.specs.Records.{read_record}
use Rattle.upload_texts.specs.declared.record.Record.{Record}
use Rattle.upload_texts.specs.declared.record.Record.TheVariants.{Open, Done}
use Rattle.upload_records.specs.Layout.{uploads_name, segments_name}
use Rattle.upload_records.specs.Native.{bucket_of, bucket_from, record_of, record_at, upload_by, upload_of, IsSettled, s3_state}
use Rattle.upload_records.specs.Consistent.{IsConsistent, IsRecord, IsThere}
use Rattle.upload_records.proofs.lemmas.Plain.{get_plain}
use Rattle.upload_records.proofs.lemmas.Settled.{unsealed_of, s3_state_unsealed}
use Rattle.list_pages.proofs.lemmas.PickedEntries.{entries_picked}
use Rattle.account_calls.specs.declared.fault.PlanFault.{PlanFault}
use Rattle.account_calls.specs.declared.fault.PlanFault.TheVariants.{Failed, Memory, Inconsistent}
use Rattle.account_calls.specs.Answers.{pages, records_of}
use Rattle.account_calls.specs.Calls.{Bound, always, by_account, Asks, GivenOf, Keeps, Met, Tells}
use Rattle.account_calls.specs.Fault.{CausesFault}
use Rattle.account_calls.specs.FilePages.{item_at, rows_after}
use Rattle.account_calls.specs.Listing.{TellsOf}
use Rattle.account_calls.proofs.lemmas.Faults.{err_is}
use Rattle.account_calls.proofs.lemmas.Idle.{goes_trans, grows_none, none_made}
use Rattle.account_calls.proofs.lemmas.Markers.{IsEntry, entries_are}
use Rattle.account_calls.specs.Told.{Idles}
use Rattle.account_calls.proofs.lemmas.Walk.{idles_trans, cause_after, keeps_after}
use Rattle.upload_calls.specs.Listing.{id_due, ids_in, TellsIds}
use Rattle.upload_calls.specs.Records.{InBucket, TellsUploads, uploads_in}
use Rattle.upload_calls.proofs.lemmas.PartWalk.{cut_none}
use Rattle.upload_calls.proofs.lemmas.RecordIds.{rows_within}
use Rattle.upload_calls.proofs.lemmas.Taking.{met_after, same_after}
use Rattle.s3_machine.specs.declared.items.UploadsAsked.{UploadsAsked}
use Rattle.plan_uploads.specs.Listing.{row_due, row_of_record, AllShown, HasRecords, TellsListed, TellsRows}

-- ---- one record

abbrev listed_by : UploadsAsked → List ℕ × Upload → Bool
listed_by asked = is_upload_listed asked.prefix asked.key_marker asked.id_marker

module _ (asked : UploadsAsked) (S : Names SwiftObject) (id : ℕ) (name : List ℕ) (named : name ≡ id_digits id) (read : id_of name ≡ Some id) where
  chosen : (t : Bool) (row : List ℕ × UploadItem) (u : List ℕ × Upload) → row ≡ upload_row u → (L : List (List ℕ × UploadItem)) (R : List (List ℕ × Upload)) → L ≡ map upload_row R
      → cons_option (cond t (Some row) None) L ≡ map upload_row (cond t (u ∷ R) R)
  chosen true row u is L R same = λ k. is k ∷ same k
  chosen false row u is L R same = same

  id_is : id ≡ id_value name
  id_is = sym (ap (λ o. unwrap_or o 0) read)

  one_row : (r : Option Record) (L : List (List ℕ × UploadItem)) (R : List (List ℕ × Upload)) → L ≡ map upload_row (filter (listed_by asked) R)
      → cons_option (row_of_record asked id r) L ≡ map upload_row (filter (listed_by asked) (cons_option (option_map (λ u. (name, u)) (upload_by S name r)) R))
  one_row None L R same = same
  one_row (Some (Open key content_type meta started)) L R same =
      (λ k. cons_option (cond (begins asked.prefix key && is_upload_after asked.key_marker asked.id_marker key (sym named k))
      (Some (upload_place key (sym named k), record { key = key; id = id_is k; started = started })) None) L)
      ∙ chosen (begins asked.prefix key && is_upload_after asked.key_marker asked.id_marker key name) (upload_place key name, record { key = key; id = id_value name; started = started })
      (name, _) refl L (filter (listed_by asked) R) same
  one_row (Some (Done key list etag started moment)) L R same = same

-- ---- all of them

every : {X : Type 0} (P : X → Type 0) (xs : List X) → AllByRecursion P xs → All P xs
every P [] h n d near = absurd (omega (arith, near))
every P (x ∷ xs) h zero d near = h.0
every P (x ∷ xs) h (suc n) d near = every P xs h.1 n d (omega (arith, near))

module _ (asked : UploadsAsked) (tree : SwiftAccount) (bucket : List ℕ) (is : is_bucket bucket ≡ true) (sound : IsConsistent tree) (there : IsThere tree bucket) where
  abbrev records : Names SwiftObject
  records = files tree (uploads_name bucket)

  abbrev segments : Names SwiftObject
  segments = files tree (segments_name bucket)

  filled : (name : List ℕ) → 0 < length name → is_lt (name_cmp [] name) ≡ true
  filled [] some = absurd (omega (arith, some))
  filled (b ∷ name) some = refl

  found_record : (e : List ℕ × SwiftObject) → IsEntry records e → (id : ℕ) → e.0 ≡ id_digits id → record_at records (id_digits id) ≡ record_of e.1
  found_record e found id named = ap (record_at records) (sym named) ∙ ap (option_and_then record_of) found

  rows_by : (es : List (List ℕ × SwiftObject)) → AllByRecursion (IsEntry records) es
      → filter_map (row_due asked bucket tree) (filter_map id_due (map item_at (behind [] (with_prefix [] es)))) ≡ map upload_row (filter (listed_by asked) (filter_map (pick_entry (upload_of segments)) es))
  rows_by [] h = refl
  rows_by (e ∷ es) h =
      let r = (sound.buckets bucket is there).of_records e.0 e.1 h.0 in
      let read : id_of e.0 ≡ Some r.id = ap id_of r.named ∙ id_reads_back r.id r.fits in
      ap (λ t. filter_map (row_due asked bucket tree) (filter_map id_due (map item_at (cond t (e ∷ behind [] (with_prefix [] es)) (behind [] (with_prefix [] es)))))) (filled e.0 (sound.stored (uploads_name bucket) e.0 e.1 h.0).named.filled)
      ∙ ap (λ o. filter_map (row_due asked bucket tree) (cons_option o (filter_map id_due (map item_at (behind [] (with_prefix [] es)))))) read
      ∙ ap (λ o. cons_option (row_of_record asked r.id o) (filter_map (row_due asked bucket tree) (filter_map id_due (map item_at (behind [] (with_prefix [] es)))))) (found_record e h.0 r.id r.named)
      ∙ one_row asked segments r.id e.0 r.named read (record_of e.1) (filter_map (row_due asked bucket tree) (filter_map id_due (map item_at (behind [] (with_prefix [] es)))))
      (filter_map (pick_entry (upload_of segments)) es) (rows_by es h.1)

  -- ---- each of the ids has a record

  abbrev pub Has : ℕ → Type 0
  Has id = is_some (record_at records (id_digits id)) ≡ true

  record_is_some : (e : List ℕ × SwiftObject) (r : IsRecord e.0 e.1) → is_some (record_of e.1) ≡ true
  record_is_some e r = ap (λ c. is_some (option_and_then read_record (plain_bytes c))) r.own ∙ ap is_some r.reads

  have_by : (es : List (List ℕ × SwiftObject)) → AllByRecursion (IsEntry records) es → AllByRecursion Has (filter_map id_due (map item_at (behind [] (with_prefix [] es))))
  have_by [] h = tt
  have_by (e ∷ es) h =
      let r = (sound.buckets bucket is there).of_records e.0 e.1 h.0 in
      let read : id_of e.0 ≡ Some r.id = ap id_of r.named ∙ id_reads_back r.id r.fits in
      let more : filter_map id_due (map item_at (behind [] (with_prefix [] (e ∷ es)))) ≡ r.id ∷ filter_map id_due (map item_at (behind [] (with_prefix [] es))) =
      ap (λ t. filter_map id_due (map item_at (cond t (e ∷ behind [] (with_prefix [] es)) (behind [] (with_prefix [] es))))) (filled e.0 (sound.stored (uploads_name bucket) e.0 e.1 h.0).named.filled)
      ∙ ap (λ o. cons_option o (filter_map id_due (map item_at (behind [] (with_prefix [] es))))) read in
      subst (AllByRecursion Has) (sym more) (ap is_some (found_record e h.0 r.id r.named) ∙ record_is_some e r, have_by es h.1)

  pub records_have : All Has (ids_in bucket tree)
  records_have = every Has (ids_in bucket tree) (have_by (entries records) (entries_are records))

  picked_are : entries (picked (upload_of segments) records) ≡ filter_map (pick_entry (upload_of segments)) (entries records)
  unfolding picked
  picked_are = entries_picked name_total name_antisymmetric (upload_of segments) records

  uploads_by : (o : Option SwiftContainer) → is_some o ≡ true → uploads_in (option_and_then (bucket_of tree bucket) o) ≡ picked (upload_of segments) records
  uploads_by None e = cc
  uploads_by (Some folder) e = ap (λ t. uploads_in (cond t (Some (bucket_from records segments folder)) None)) is

  uploads_are : IsSettled tree → uploads_in (get (s3_state tree) bucket) ≡ picked (upload_of segments) records
  uploads_are settled = ap (λ s. uploads_in (get s bucket)) (s3_state_unsealed tree (unsealed_of settled)) ∙ ap uploads_in (get_plain tree bucket) ∙ uploads_by (get tree bucket) there

  -- what is told of the account is what the state has
  pub rows_are : IsSettled tree → (rows : Names UploadItem) → TellsListed asked bucket tree rows
      → map (λ row. row.1) (entries rows) ≡ uploads_after asked.prefix asked.key_marker asked.id_marker (uploads_in (get (s3_state tree) bucket))
  rows_are settled rows tells =
      ap (λ m. map (λ row. row.1) (entries m)) tells
      ∙ ap (λ l. map (λ row. row.1) (entries (from_entries {R = name_cmp} l))) (rows_by (entries records) (entries_are records) ∙ ap (λ es. map upload_row (filter (listed_by asked) es)) (sym picked_are))
      ∙ ap (uploads_after asked.prefix asked.key_marker asked.id_marker) (sym (uploads_are settled))

-- ---- the ids, and then the record of each

shorter : {X Y : Type 0} (f : X → Option Y) (xs : List X) → length (filter_map f xs) ≤ length xs
shorter f [] = omega arith
shorter f (x ∷ xs) = let less = shorter f xs in elim (f x) as (λ o. length (cons_option o (filter_map f xs)) ≤ suc (length xs)) [ None ↦ omega (arith, less) | Some y ↦ omega (arith, less) ]

ids_within : (tree : SwiftAccount) (bucket : List ℕ) → length (ids_in bucket tree) ≤ records_of tree bucket
ids_within tree bucket =
    let rows = rows_after [] [] (files tree (uploads_name bucket)) in
    let few = shorter id_due (map item_at rows) in
    let within = rows_within tree bucket [] in
    omega (arith, few, within, length-map rows item_at)

module _ {a b : History} (asked : UploadsAsked) (bucket : List ℕ) (is : is_bucket bucket ≡ true) {ids : List ℕ} (first : Asks (by_account (pages (records_of (present a) bucket))) a b (GivenOf (InBucket bucket)) (TellsOf (TellsIds bucket)) (Ok ids)) where
  idles_first : Met (GivenOf (InBucket bucket)) a → Idles b a.called b.called
  idles_first met = let keeps = first.effect met in record { quiet = keeps.0; still = keeps.1; same = keeps.2.same }

  ids_are : Met (GivenOf (InBucket bucket)) a → ids ≡ ids_in bucket (present a)
  ids_are met =
      let order = first.grows.on.ordered in
      (first.effect met).2.of_account ∙ ap (ids_in bucket) ((first.grows.on.kept met.observable).accounts a.called (omega arith))

  met_then : Met (GivenOf (InBucket bucket)) a → Met (GivenOf (HasRecords bucket ids)) b
  met_then met =
      let then = met_after (InBucket bucket) first.grows.on first.settled (idles_first met) met in
      let here : present a ≡ present b = sym (same_after (InBucket bucket) first.grows.on first.settled (idles_first met) met) in
      let have = records_have asked (present b) bucket is then.sound then.has.is in
      record {
        observable = then.observable;
        sound = then.sound;
        has = record {
          settled = then.has.settled;
          is = record {
            there = then.has.is;
            each = subst (All (λ id. is_some (record_at (files (present b) (uploads_name bucket)) (id_digits id)) ≡ true)) (sym (ids_are met ∙ ap (ids_in bucket) here)) have;
          };
        };
      }

  within_both : {c : History} {r : Result (Names UploadItem) PlanFault} → Asks (always (length ids)) b c (GivenOf (HasRecords bucket ids)) (TellsOf (TellsRows asked bucket ids)) r → Met (GivenOf (InBucket bucket)) a
      → c.called ≤ a.called + (pages (records_of (present a) bucket) + records_of (present a) bucket)
  within_both then met =
      let pages_made = first.grows.calls met in
      let gets_made = then.grows.calls in
      let few = ids_within (present a) bucket in
      omega (arith, pages_made, gets_made, few, ap length (ids_are met))

  pub listed : {c : History} (r : Result (Names UploadItem) PlanFault) → Asks (always (length ids)) b c (GivenOf (HasRecords bucket ids)) (TellsOf (TellsRows asked bucket ids)) r
      → Asks (by_account (pages (records_of (present a) bucket) + records_of (present a) bucket)) a c (GivenOf (InBucket bucket)) (TellsOf (TellsListed asked bucket)) r
  listed {c = c} (Ok rows) then = record {
    grows = record { on = goes_trans first.grows.on then.grows.on; calls = within_both then };
    cause = then.cause ∙ first.cause;
    effect = λ met.
        let keeps = then.effect (met_then met) in
        let kept = then.grows.on.kept (first.grows.on.observable met.observable) in
        let idles = idles_trans first.grows.on.ordered kept (idles_first met) (record { quiet = keeps.0; still = keeps.1; same = keeps.2.same }) in
        let here : c.account_at b.called ≡ present a = kept.accounts b.called (omega arith) ∙ same_after (InBucket bucket) first.grows.on first.settled (idles_first met) met in
        let from : c.account_at a.called ≡ present a = ((goes_trans first.grows.on then.grows.on).kept met.observable).accounts a.called (omega arith) in
        let told : TellsListed asked bucket (present a) rows =
        subst {A = SwiftAccount × List ℕ} (λ x. TellsRows asked bucket x.1 x.0 rows) (λ i. (here i, ids_are met i)) keeps.2.of_account in
        (idles.quiet, idles.still, record { of_account = subst (λ tree. TellsListed asked bucket tree rows) (sym from) told; same = idles.same });
    settled = λ observable settled. then.settled (first.grows.on.observable observable) (first.settled observable settled);
  }
  listed {c = c} (Err f) then = record {
    grows = record { on = goes_trans first.grows.on then.grows.on; calls = within_both then };
    cause = cause_after (Names UploadItem) (Names UploadItem) a.faults b.faults c.faults f first.cause then.cause;
    effect = λ met. keeps_after (Names UploadItem) (Names UploadItem) (TellsRows asked bucket ids) (TellsListed asked bucket) b c a.called b.called c.called f first.grows.on.ordered
        (then.grows.on.kept (first.grows.on.observable met.observable)) (idles_first met) (then.effect (met_then met));
    settled = λ observable settled. then.settled (first.grows.on.observable observable) (first.settled observable settled);
  }

-- the same of the ids as they are handed on
pub listed_of : {a b c : History} (asked : UploadsAsked) (bucket : List ℕ) → is_bucket bucket ≡ true → {ids told : List ℕ} → told ≡ ids → Asks (by_account (pages (records_of (present a) bucket))) a b (GivenOf (InBucket bucket)) (TellsOf (TellsIds bucket)) (Ok ids)
    → (r : Result (Names UploadItem) PlanFault) → Asks (always (length told)) b c (GivenOf (HasRecords bucket told)) (TellsOf (TellsRows asked bucket told)) r
    → Asks (by_account (pages (records_of (present a) bucket) + records_of (present a) bucket)) a c (GivenOf (InBucket bucket)) (TellsOf (TellsListed asked bucket)) r
listed_of {a = a} {b = b} asked bucket name is first r then = listed asked bucket name (subst (λ ns. Asks (by_account (pages (records_of (present a) bucket))) a b (GivenOf (InBucket bucket)) (TellsOf (TellsIds bucket)) (Ok ns)) (sym is) first) r then

-- ---- what is told of the state

module _ {most : Bound} {a b : History} (bucket : List ℕ) (is : is_bucket bucket ≡ true) (asked : UploadsAsked) where
  pub told : {rows : Names UploadItem} → Asks most a b (GivenOf (InBucket bucket)) (TellsOf (TellsListed asked bucket)) (Ok rows) → (items : List UploadItem) → items ≡ map (λ row. row.1) (entries rows)
      → (result : List UploadItem × Bool) → result ≡ cut asked.max items → Asks most a b (GivenOf (InBucket bucket)) (Tells (TellsUploads bucket asked.prefix asked.key_marker asked.id_marker asked.max)) (Ok result)
  told {rows = rows} asks items are result cuts = record {
    grows = asks.grows;
    cause = asks.cause;
    effect = λ met.
        let keeps = asks.effect met in
        let from : b.account_at a.called ≡ present a = (asks.grows.on.kept met.observable).accounts a.called (omega arith) in
        let tree = b.account_at a.called in
        let has : GivenOf (InBucket bucket) tree = subst (GivenOf (InBucket bucket)) (sym from) met.has in
        let all = rows_are asked tree bucket is (subst IsConsistent (sym from) met.sound) has.is has.settled rows keeps.2.of_account in (
          keeps.0,
          keeps.1,
          record {
            of_state = cuts ∙ ap (cut asked.max) (are ∙ all);
            same = keeps.2.same;
          },
        );
    settled = asks.settled;
  }

  -- memory ran out behind the calls
  pub out_of_memory : {rows : Names UploadItem} → Asks most a b (GivenOf (InBucket bucket)) (TellsOf (TellsListed asked bucket)) (Ok rows) → (result : Result (List UploadItem × Bool) PlanFault) → IsErrAnd result (λ e. e ≡ Memory)
      → Asks most a b (GivenOf (InBucket bucket)) (Tells (TellsUploads bucket asked.prefix asked.key_marker asked.id_marker asked.max)) result
  out_of_memory asks result gives = subst (Asks most a b (GivenOf (InBucket bucket)) (Tells (TellsUploads bucket asked.prefix asked.key_marker asked.id_marker asked.max))) (sym (err_is result Memory gives)) (record {
    grows = asks.grows;
    cause = asks.cause;
    effect = λ met. let keeps = asks.effect met in (keeps.0, keeps.1);
    settled = asks.settled;
  })

  -- the fault of the calls is handed on
  pub handed_on : {f : PlanFault} → Asks most a b (GivenOf (InBucket bucket)) (TellsOf (TellsListed asked bucket)) (Err f) → (result : Result (List UploadItem × Bool) PlanFault) → IsErrAnd result (λ e. e ≡ f)
      → Asks most a b (GivenOf (InBucket bucket)) (Tells (TellsUploads bucket asked.prefix asked.key_marker asked.id_marker asked.max)) result
  handed_on {f = f} asks result gives = subst (Asks most a b (GivenOf (InBucket bucket)) (Tells (TellsUploads bucket asked.prefix asked.key_marker asked.id_marker asked.max))) (sym (err_is result f gives)) (record {
    grows = asks.grows;
    cause = same_cause f asks.cause;
    effect = λ met. same_keeps f (asks.effect met);
    settled = asks.settled;
  })
    where
      same_cause : (f : PlanFault) → CausesFault {T = Names UploadItem} a.faults b.faults (Err f) → CausesFault {T = List UploadItem × Bool} a.faults b.faults (Err f)
      same_cause Failed cause = cause
      same_cause Memory cause = cause
      same_cause Inconsistent cause = cause

      same_keeps : (f : PlanFault) → Keeps b a.called b.called (TellsOf (TellsListed asked bucket)) (Err f) → Keeps b a.called b.called (Tells (TellsUploads bucket asked.prefix asked.key_marker asked.id_marker asked.max)) (Err f)
      same_keeps Failed keeps = keeps
      same_keeps Memory keeps = keeps
      same_keeps Inconsistent never = never

-- none is asked for
pub none_asked : (a : History) (most : Bound) (bucket prefix key_marker id_marker : List ℕ) (max : ℕ) → max ≡ 0 → (result : List UploadItem × Bool) → result ≡ ([], false)
    → Asks most a a (GivenOf (InBucket bucket)) (Tells (TellsUploads bucket prefix key_marker id_marker max)) (Ok result)
none_asked a most bucket prefix key_marker id_marker max none result is = record {
  grows = grows_none most (GivenOf (InBucket bucket)) a;
  cause = refl;
  effect = λ met.
      let all = uploads_after prefix key_marker id_marker (uploads_in (get (s3_state (present a)) bucket)) in
      (none_made refl met.sound, refl, record { of_state = is ∙ sym (ap (λ n. cut n all) none ∙ cut_none all); same = refl });
  settled = λ observable settled. settled;
}

-- ---- their dates

shown_by : (rows : Names UploadItem) → AllShown rows → (es : List (List ℕ × UploadItem)) → AllByRecursion (IsEntry rows) es → AllByRecursion IsShownUpload (map (λ row. row.1) es)
shown_by rows shown [] h = tt
shown_by rows shown (e ∷ es) h = (shown.each e.0 e.1 h.0, shown_by rows shown es h.1)

pub shown_items : (rows : Names UploadItem) (items : List UploadItem) → AllShown rows → items ≡ map (λ row. row.1) (entries rows) → All IsShownUpload items
shown_items rows items shown are = subst (All IsShownUpload) (sym are) (every IsShownUpload (map (λ row. row.1) (entries rows)) (shown_by rows shown (entries rows) (entries_are rows)))
