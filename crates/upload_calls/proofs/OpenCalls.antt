-- What PUT of an open record does to the state, under an id under which nothing stands.
use Rattle.std.specs.Prelude.{◌≡◌, ◌<◌, ◌≤◌, ◌^◌, ℕ, cond, List, [], length, true, Some, Result, Ok, Err}
use Rattle.std.proofs.Common.{refl, sym, ap, subst, ◌∙◌, inl, arith}
use Rattle.gate_base.proofs.lemmas.Maps.{some_value}
use Rattle.gate_base.specs.declared.page.Pair.{Pair}
use Rattle.s3_names.specs.Bucket.{is_bucket}
use Rattle.s3_names.specs.Id.{id_digits}
use Rattle.s3_machine.specs.ETag.{body_etag}
use Rattle.swift_calls.specs.Account.{SwiftAccount}
use Rattle.swift_calls.specs.History.{History, Calls, present}
use Rattle.swift_calls.specs.Step.{Answer, Fit, put_object, swift_step}
use Rattle.swift_calls.specs.declared.calls.SwiftReply.{SwiftReply}
use Rattle.swift_calls.specs.declared.calls.SwiftRequest.{SwiftRequest}
use Rattle.upload_texts.specs.Records.{read_record}
use Rattle.upload_texts.specs.declared.record.Record.TheVariants.{Open}
use Rattle.upload_records.specs.Layout.{uploads_name}
use Rattle.upload_records.specs.Native.{IsSettled, SameGateway, s3_state}
use Rattle.upload_records.specs.Consistent.{IsConsistent, IsStored}
use Rattle.upload_records.specs.Laws.{ChangesBy, IsOpenText, UploadOpened, file_put}
use Rattle.upload_records.proofs.lemmas.Beside.{records_there}
use Rattle.upload_records.proofs.lemmas.Settled.{settled_same, unsealed_of}
use Rattle.account_calls.specs.Calls.{Becomes}
use Rattle.account_calls.specs.Interpret.{stored_due}
use Rattle.account_calls.specs.Puts.{Ensures, StandsIn}
use Rattle.account_calls.specs.declared.fault.PlanFault.{PlanFault}
use Rattle.account_calls.specs.declared.fault.PlanFault.TheVariants.{Inconsistent}
use Rattle.account_calls.proofs.lemmas.Etags.{etag_agrees}
use Rattle.account_calls.proofs.lemmas.One.{Effect, IsWritingOf}
use Rattle.account_calls.proofs.lemmas.Puts.{file_stands}
use Rattle.account_calls.proofs.lemmas.SideNames.{file_name, id_fits, uploads_fits}
use Rattle.upload_calls.specs.Interpret.{most_open_text, put_record_of, record_type}
use Rattle.upload_calls.specs.Records.{MayOpen, StandsOpen, opens_upload}
use Rattle.upload_calls.proofs.SideFiles.{same_put}

-- the PUT of a record is one that a store takes
pub open_fits : (bucket : List ℕ) (id : ℕ) (text : List ℕ) → is_bucket bucket ≡ true → length text ≤ most_open_text → Fit (put_record_of bucket id text)
open_fits bucket id text is short = (uploads_fits bucket is, id_fits id, refl, refl, omega (arith, short))

-- the request, for an upload's own id and the text of its record
pub record IsOpenOf (request : SwiftRequest) (bucket : List ℕ) (id : ℕ) (key content_type : List ℕ) (meta : List Pair) (started : ℕ) (text : List ℕ) : Type 0 where
  pub same : request ≡ put_record_of bucket id text
  pub reads : read_record text ≡ Some (Open key content_type meta started)
  pub short : length text ≤ most_open_text
  pub is : is_bucket bucket ≡ true
  pub fits : id < 2 ^ 128

module _ (law : UploadOpened) (tree : SwiftAccount) (request : SwiftRequest) (bucket : List ℕ) (id : ℕ) (key content_type : List ℕ) (meta : List Pair) (started : ℕ) (text : List ℕ)
    (put : IsOpenOf request bucket id key content_type meta started text) (sound : IsConsistent tree) (settled : IsSettled tree) (may : MayOpen bucket id tree) where
  abbrev opens : IsOpenText text
  opens = record { key = key; content_type = content_type; meta = meta; started = started; reads = put.reads }

  stored : IsStored (id_digits id) (file_put record_type [] text)
  stored = let short = put.short in record { named = file_name _ (id_fits id); sized = (omega (arith, short)) }

  answered : swift_step request tree ≡ put_object (Some (some_value _ (records_there tree bucket sound put.is may.there)).0) (uploads_name bucket) (id_digits id) (file_put record_type [] text) tree
  answered =
      ap (λ r. swift_step r tree) put.same
      ∙ ap (λ o. put_object o (uploads_name bucket) (id_digits id) (file_put record_type [] text) tree) (some_value _ (records_there tree bucket sound put.is may.there)).1

  -- the upload is opened, and the store says that it has the record
  open_effect : Effect tree request (stored_due (body_etag text)) (Becomes (opens_upload bucket id key content_type meta started))
  open_effect =
      let done : ChangesBy tree (put_record_of bucket id text) (opens_upload bucket id key content_type meta started)
      = law tree bucket id record_type [] text opens put.is put.fits may.unused stored sound (unsealed_of settled) in
      let same : (swift_step request tree).tree ≡ (swift_step (put_record_of bucket id text) tree).tree = ap (λ r. (swift_step r tree).tree) put.same in
      record {
        answer = tt;
        says = ap (λ (a : Answer). stored_due (body_etag text) a.reply) answered ∙ ap (λ t. cond t (Ok tt) (Err Inconsistent)) (etag_agrees text);
        after = subst IsConsistent (sym same) done.sound;
        state = ap s3_state same ∙ done.state;
      }

-- PUT of an open record opens the upload, where nothing stands under its id
pub opens_by : {request : SwiftRequest} {bucket : List ℕ} {id : ℕ} {key content_type : List ℕ} {meta : List Pair} {started : ℕ} {text : List ℕ} → UploadOpened
    → IsOpenOf request bucket id key content_type meta started text
    → IsWritingOf request (stored_due (body_etag text)) (MayOpen bucket id) (Becomes (opens_upload bucket id key content_type meta started))
opens_by {request = request} {bucket = bucket} {id = id} {key = key} {content_type = content_type} {meta = meta} {started = started} {text = text} law put = record {
  effect = λ tree sound settled may. open_effect law tree request bucket id key content_type meta started text put sound settled may;
  settled = λ tree. settled_same (subst (λ r. SameGateway tree (swift_step r tree).tree) (sym put.same)
      (same_put tree (uploads_name bucket) bucket (record { of_bucket = put.is; is = inl refl }) (id_digits id) record_type [] text));
}

-- over every observable store its file stands, where it was answered so
pub stands_open : {a b : History} {request : SwiftRequest} {reply : SwiftReply} {bucket : List ℕ} {id : ℕ} {key content_type : List ℕ} {meta : List Pair} {started : ℕ} {text : List ℕ} (etag : List ℕ)
    → request ≡ put_record_of bucket id text → read_record text ≡ Some (Open key content_type meta started) → Calls a b request (Ok reply) → (result : Result (Unit {0}) PlanFault) → result ≡ stored_due etag reply
    → Ensures b (StandsOpen bucket id key content_type meta started) result
stands_open {b = b} {text = text} etag same reads calls (Ok done) is = record { so = λ observable. record { text = text; reads = reads; stands = subst (StandsIn (present b)) same (file_stands etag calls (sym is) observable) } }
stands_open etag same reads calls (Err fault) is = record { so = λ observable. tt }
