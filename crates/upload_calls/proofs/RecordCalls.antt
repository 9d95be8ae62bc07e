-- What GET of a record's file tells of the record.
use Rattle.std.specs.Prelude.{◌≡◌, ℕ, List, true, Option, None, Some, Ok}
use Rattle.std.specs.Option.{option_and_then}
use Rattle.std.proofs.Common.{refl, ap, ◌∙◌}
use Rattle.s3_names.specs.Bucket.{is_bucket}
use Rattle.s3_names.specs.Id.{id_digits}
use Rattle.swift_calls.specs.Account.{SwiftObject, SwiftAccount, find_object}
use Rattle.swift_calls.specs.Bodies.{bytes_of, head_of, plain_bytes}
use Rattle.swift_calls.specs.Step.{body_reply, get_reply}
use Rattle.swift_calls.specs.declared.calls.SwiftRequest.TheVariants.{GetObject}
use Rattle.swift_calls.specs.declared.calls.SwiftReply.{SwiftReply}
use Rattle.upload_texts.specs.Records.{read_record}
use Rattle.upload_texts.specs.declared.record.Record.{Record}
use Rattle.upload_records.specs.Layout.{uploads_name}
use Rattle.upload_records.specs.Native.{record_of}
use Rattle.upload_records.specs.Consistent.{IsConsistent, IsRecord, IsThere}
use Rattle.account_calls.specs.Calls.{GivenOf}
use Rattle.account_calls.specs.Interpret.{known}
use Rattle.account_calls.proofs.lemmas.One.{IsReadingOf}
use Rattle.upload_calls.specs.Interpret.{record_due}
use Rattle.upload_calls.specs.Records.{InBucket, TellsRecord}

-- the record that a file is
record_file : (name : List ℕ) (file : SwiftObject) (kept : IsRecord name file) → record_of file ≡ Some kept.is
record_file name file kept = ap (λ c. option_and_then read_record (plain_bytes c)) kept.own ∙ kept.reads

module _ (tree : SwiftAccount) (bucket : List ℕ) (id : ℕ) (is : is_bucket bucket ≡ true) (sound : IsConsistent tree) (there : IsThere tree bucket) where
  record_told_by : (o : Option SwiftObject) → find_object tree (uploads_name bucket) (id_digits id) ≡ o → (reply : SwiftReply) → reply ≡ get_reply (find_object tree) None o
      → (told : Option Record) × (record_due reply ≡ Ok told) × TellsRecord bucket id tree told
  record_told_by None none reply e = (None, ap record_due e, ap (option_and_then record_of) none)
  record_told_by (Some file) found reply e =
      let kept = (sound.buckets bucket is there).of_records (id_digits id) file found in (
        Some kept.is,
        ap record_due e ∙ (λ i. record_due (body_reply (head_of file) None (bytes_of (find_object tree) (kept.own i)))) ∙ ap known kept.reads,
        ap (option_and_then record_of) found ∙ record_file (id_digits id) file kept,
      )

module _ {container name : List ℕ} (bucket : List ℕ) (id : ℕ) (named : container ≡ uploads_name bucket) (under : name ≡ id_digits id) (is : is_bucket bucket ≡ true) where
  -- GET of the file of a record tells of the record
  pub record_reads : IsReadingOf (GivenOf (InBucket bucket)) (GetObject container name None) record_due (TellsRecord bucket id)
  record_reads = record {
    leaves = λ tree. refl;
    tells = λ tree sound given reply replied.
        record_told_by tree bucket id is sound given.is (find_object tree (uploads_name bucket) (id_digits id)) refl reply
        (replied ∙ (λ i. get_reply (find_object tree) None (find_object tree (named i) (under i))));
  }
