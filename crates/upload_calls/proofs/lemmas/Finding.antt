-- What is found of an upload, over consistent accounts on which no completion is sealed; and the steps by it.
use Rattle.std.specs.Prelude.{◌≡◌, ℕ, Bool, true, false, bytes_eq, cond, is_some, List, Option, Some, None, Result, Ok, Err, IfOk}
use Rattle.std.specs.Option.{option_and_then, option_map}
use Rattle.std.specs.FinMap.{get}
use Rattle.std.proofs.Common.{refl, sym, ap, subst, ◌∙◌, true≢false}
use Rattle.std.proofs.lemmas.Slice.Eq.{bytes_eq-Decides}
use Rattle.gate_base.specs.declared.page.Pair.{Pair}
use Rattle.gate_base.specs.Maps.{Names, picked}
use Rattle.gate_base.proofs.lemmas.Maps.{by_name, get-picked}
use Rattle.s3_names.specs.declared.acl.Acl.{Acl}
use Rattle.s3_names.specs.Bucket.{is_bucket}
use Rattle.s3_names.specs.Id.{id_digits}
use Rattle.s3_machine.specs.State.{Bucket, Upload}
use Rattle.s3_machine.specs.Step.{Outcome, in_upload, refuses}
use Rattle.s3_machine.specs.declared.code.Code.TheVariants.{NoSuchUpload}
use Rattle.s3_machine.proofs.lemmas.StepLemmas.{HasUpload, upload_none, upload_other}
use Rattle.swift_calls.specs.Account.{SwiftAccount, SwiftContainer, SwiftObject, files}
use Rattle.swift_calls.specs.History.{History}
use Rattle.upload_texts.specs.declared.record.Record.{Record}
use Rattle.upload_texts.specs.declared.record.Record.TheVariants.{Open, Done}
use Rattle.upload_records.specs.Layout.{segments_name, uploads_name}
use Rattle.upload_records.specs.Native.{IsSettled, bucket_from, bucket_of, kept_by, kept_of, parts_of, plain, record_at, record_of, s3_state, upload_by, upload_of}
use Rattle.upload_records.specs.Consistent.{IsConsistent, IsThere}
use Rattle.upload_records.proofs.lemmas.Buckets.{s3_state_there}
use Rattle.upload_records.proofs.lemmas.Settled.{s3_state_unsealed, unsealed_of}
use Rattle.account_calls.specs.Answers.{named_by}
use Rattle.account_calls.specs.Listing.{TellsOf}
use Rattle.account_calls.specs.Calls.{Asks, Bound, Given, GivenOf, Met, TellsBucket, acl_of_bucket}
use Rattle.account_calls.specs.declared.fault.PlanFault.{PlanFault}
use Rattle.upload_calls.specs.declared.found.Found.{Found}
use Rattle.upload_calls.specs.declared.found.Found.TheVariants as found
use Rattle.upload_calls.specs.Found.{IsFoundBy, IsOpenUpload, LacksUpload, StopsAtBucket, TellsUpload, found_by, is_bucket_missing}
use Rattle.upload_calls.specs.Records.{InBucket, ReadsId}

-- ---- the bucket

some_of : (o : Option Bucket) (acl : Acl) → option_map acl_of_bucket o ≡ Some acl → is_some o ≡ true
some_of None acl e = cc
some_of (Some b) acl e = refl

-- a bucket that HEAD told is there
pub there_of : (tree : SwiftAccount) (b : List ℕ) (acl : Acl) → is_bucket b ≡ true → IsSettled tree → TellsBucket b (s3_state tree) (Some acl) → IsThere tree b
there_of tree b acl is settled told = sym (s3_state_there tree b is (unsealed_of settled)) ∙ some_of (get (s3_state tree) b) acl told

-- ---- the record

-- a text that isn't that of an id names none
pub no_record : (tree : SwiftAccount) (b text : List ℕ) (r : Record) → is_bucket b ≡ true → IsConsistent tree → IsThere tree b → ReadsId text None → record_at (files tree (uploads_name b)) text ≡ Some r → ⊥
no_record tree b text r is sound there none e = by (get (files tree (uploads_name b)) text) refl e
  where
    by : (o : Option SwiftObject) → get (files tree (uploads_name b)) text ≡ o → option_and_then record_of o ≡ Some r → ⊥
    by None found e = let never : None ≡ Some r = e in cc
    by (Some file) found e = let x = (sound.buckets b is there).of_records text file found in none x.id x.named

key_is : {under key c d : List ℕ} {m n : List Pair} {s t : ℕ} → Some (Open under c m s) ≡ Some (Open key d n t) → under ≡ key
key_is e = cc

module _ (b key : List ℕ) (id : ℕ) (tree : SwiftAccount) (settled : IsSettled tree) (there : IsThere tree b) where
  -- what is found by a record
  pub tells_found : (r : Option Record) → record_at (files tree (uploads_name b)) (id_digits id) ≡ r → TellsUpload b key (id_digits id) tree (found_by r key id)
  tells_found None e = record { settled = settled; there = there; none = λ content_type meta started f. let never : None ≡ Some (Open key content_type meta started) = sym e ∙ f in cc }
  tells_found (Some (Done under list etag started moment)) e =
      record { settled = settled; there = there; none = λ content_type meta begun f. let never : Some (Done under list etag started moment) ≡ Some (Open key content_type meta begun) = sym e ∙ f in cc }
  tells_found (Some (Open under content_type meta started)) e =
      elim (bytes_eq under key) as (λ t. bytes_eq under key ≡ t → TellsUpload b key (id_digits id) tree (cond t (found.Open id) found.NoUpload)) [
        | true ↦ λ same. record {
          settled = settled;
          there = there;
          is = refl;
          content_type = content_type;
          meta = meta;
          started = started;
          reads = e ∙ ap (λ k. Some (Open k content_type meta started)) ((bytes_eq-Decides under key).0 same);
        }
        | false ↦ λ other. record {
          settled = settled;
          there = there;
          none = λ c m s f. absurd (true≢false (sym ((bytes_eq-Decides under key).1 (key_is (sym e ∙ f))) ∙ other));
        }
      ] refl

-- ---- the upload

-- the bucket of the state, by what stands beside its container
pub record IsBucketFrom (tree : SwiftAccount) (b : List ℕ) : Type 0 where
  pub folder : SwiftContainer
  pub is : get (s3_state tree) b ≡ Some (bucket_from (files tree (uploads_name b)) (files tree (segments_name b)) folder)

module _ (tree : SwiftAccount) (b : List ℕ) (is : is_bucket b ≡ true) (settled : IsSettled tree) (there : IsThere tree b) where
  found_in : get (s3_state tree) b ≡ option_and_then (bucket_of tree b) (get tree b)
  unfolding plain
  found_in = ap (λ s. get s b) (s3_state_unsealed tree (unsealed_of settled)) ∙ get-picked by_name (bucket_of tree) tree b

  by_folder : (o : Option SwiftContainer) → get tree b ≡ o → is_some o ≡ true → IsBucketFrom tree b
  by_folder None e some = cc
  by_folder (Some folder) e some = record {
    folder = folder;
    is = found_in ∙ ap (option_and_then (bucket_of tree b)) e ∙ ap (λ t. cond t (Some (bucket_from (files tree (uploads_name b)) (files tree (segments_name b)) folder)) None) is;
  }

  pub bucket_there : IsBucketFrom tree b
  bucket_there = by_folder (get tree b) refl there

  -- an upload is what its record represents
  pub upload_is : (text : List ℕ) → get (picked (upload_of (files tree (segments_name b))) (files tree (uploads_name b))) text ≡ upload_by (files tree (segments_name b)) text (record_at (files tree (uploads_name b)) text)
  upload_is text = get-picked by_name (upload_of (files tree (segments_name b))) (files tree (uploads_name b)) text ∙ by (get (files tree (uploads_name b)) text)
    where
      by : (o : Option SwiftObject) → option_and_then (upload_of (files tree (segments_name b)) text) o ≡ upload_by (files tree (segments_name b)) text (option_and_then record_of o)
      by None = refl
      by (Some file) = refl

  -- and so is a completion that is kept
  pub kept_is : (text : List ℕ) → get (picked kept_of (files tree (uploads_name b))) text ≡ kept_by (record_at (files tree (uploads_name b)) text)
  kept_is text = get-picked by_name kept_of (files tree (uploads_name b)) text ∙ by (get (files tree (uploads_name b)) text)
    where
      by : (o : Option SwiftObject) → option_and_then (kept_of text) o ≡ kept_by (option_and_then record_of o)
      by None = refl
      by (Some file) = refl

-- an upload that is found open is one of the state, with the parts that are its segments
pub record HasParts (bucket key text : List ℕ) (tree : SwiftAccount) : Type 0 where
  pub has : HasUpload (s3_state tree) bucket key text
  pub parts : has.u.parts ≡ parts_of (files tree (segments_name bucket)) text

pub has_upload : (bucket key text : List ℕ) (id : ℕ) (tree : SwiftAccount) → is_bucket bucket ≡ true → IsOpenUpload bucket key text id tree → HasParts bucket key text tree
has_upload bucket key text id tree is found =
    let segments : Names SwiftObject = files tree (segments_name bucket) in
    let records : Names SwiftObject = files tree (uploads_name bucket) in
    let it = bucket_there tree bucket is found.settled found.there in
    record {
      has = record {
        b = bucket_from records segments it.folder;
        u = record { key = key; content_type = found.content_type; meta = found.meta; started = found.started; parts = parts_of segments text };
        in_bucket = it.is;
        in_uploads = upload_is tree bucket is found.settled found.there text ∙ ap (upload_by segments text) found.reads;
        of_key = (bytes_eq-Decides key key).1 refl;
      };
      parts = refl;
    }

-- where none is, an operation on it is refused
pub no_upload : (bucket key text : List ℕ) (tree : SwiftAccount) (is : is_bucket bucket ≡ true) (lacks : LacksUpload bucket key text tree) (f : Upload → Outcome)
    → in_upload (s3_state tree) key text f (bucket_from (files tree (uploads_name bucket)) (files tree (segments_name bucket)) (bucket_there tree bucket is lacks.settled lacks.there).folder) ≡ refuses NoSuchUpload (s3_state tree)
no_upload bucket key text tree is lacks f = by (record_at records text) refl
  where
    segments : Names SwiftObject
    segments = files tree (segments_name bucket)

    records : Names SwiftObject
    records = files tree (uploads_name bucket)

    b : Bucket
    b = bucket_from records segments (bucket_there tree bucket is lacks.settled lacks.there).folder

    at : get b.uploads text ≡ upload_by segments text (record_at records text)
    at = upload_is tree bucket is lacks.settled lacks.there text

    by : (r : Option Record) → record_at records text ≡ r → in_upload (s3_state tree) key text f b ≡ refuses NoSuchUpload (s3_state tree)
    by None e = upload_none (s3_state tree) key text f b (at ∙ ap (upload_by segments text) e)
    by (Some (Done under list etag started moment)) e = upload_none (s3_state tree) key text f b (at ∙ ap (upload_by segments text) e)
    by (Some (Open under content_type meta started)) e =
        upload_other (s3_state tree) key text f b (record { key = under; content_type = content_type; meta = meta; started = started; parts = parts_of segments text }) (at ∙ ap (upload_by segments text) e)
        (differs (bytes_eq under key) refl)
      where
        differs : (t : Bool) → bytes_eq under key ≡ t → bytes_eq under key ≡ false
        differs false e' = e'
        differs true e' = absurd (lacks.none content_type meta started (e ∙ ap (λ k. Some (Open k content_type meta started)) ((bytes_eq-Decides under key).0 e')))

-- ---- what the calls are given

pub in_bucket_of : (b : List ℕ) (acl : Acl) → is_bucket b ≡ true → (tree : SwiftAccount) → Given (λ s. TellsBucket b s (Some acl)) tree → GivenOf (InBucket b) tree
in_bucket_of b acl is tree has = record { settled = has.settled; is = there_of tree b acl is has.settled has.is }

-- calls in a bucket that HEAD told
pub met_there : (b : List ℕ) (acl : Acl) → is_bucket b ≡ true → {h : History} → Met (Given (λ s. TellsBucket b s (Some acl))) h → Met (GivenOf (InBucket b)) h
met_there b acl is met = record { observable = met.observable; sound = met.sound; has = in_bucket_of b acl is _ met.has }

-- ---- how many segments are counted

-- as many are named by the id that was found as by its text before
pub named_same : {bucket key text : List ℕ} {id : ℕ} {old new : SwiftAccount} {value : Found} → value ≡ found.Open id → TellsOf (TellsUpload bucket key text) old new value
    → named_by new bucket (id_digits id) ≡ named_by old bucket text
named_same {bucket = bucket} {key = key} {text = text} {id = id} {old = old} is tells =
    let it : IsOpenUpload bucket key text id old = subst (TellsUpload bucket key text old) is tells.of_account in
    ap (λ tree. named_by tree bucket (id_digits id)) tells.same ∙ ap (named_by old bucket) (sym it.is)

-- ---- its id

id_by : (t : Bool) (id : ℕ) → IsFoundBy (id_digits id) (cond t (found.Open id) found.NoUpload)
id_by true id = refl
id_by false id = tt

-- what a record says of an upload is of this id
pub found_by_text : (kept : Option Record) (key : List ℕ) (id : ℕ) → IsFoundBy (id_digits id) (found_by kept key id)
found_by_text None key id = tt
found_by_text (Some (Open under content_type meta started)) key id = id_by (bytes_eq under key) id
found_by_text (Some (Done under list etag started moment)) key id = tt

-- ---- where the bucket is there

-- a record is of a bucket that is there
pub found_in_bucket : (r : Option Record) (key : List ℕ) (id : ℕ) → is_bucket_missing (found_by r key id) ≡ false
found_in_bucket None key id = refl
found_in_bucket (Some (Done under list etag started moment)) key id = refl
found_in_bucket (Some (Open under content_type meta started)) key id =
    elim (bytes_eq under key) as (λ t. is_bucket_missing (cond t (found.Open id) found.NoUpload) ≡ false) [ true ↦ refl | false ↦ refl ]

pub stops_in_bucket : {T : Type 0} {m n : Bound} {given then : SwiftAccount → Type 0} {P : SwiftAccount → SwiftAccount → T → Type 0} {Q : SwiftAccount → SwiftAccount → Found → Type 0} {a b c : History} {value : Result T PlanFault}
    → Asks m a b given P value → (result : Result Found PlanFault) → Asks n b c then Q result → IfOk result (λ found. is_bucket_missing found ≡ false) → StopsAtBucket a c result
stops_in_bucket before (Ok it) after there = λ is. absurd (true≢false (sym is ∙ there))
stops_in_bucket before (Err fault) after there = tt
