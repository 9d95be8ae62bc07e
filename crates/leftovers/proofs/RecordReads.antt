-- GET of the file of a record that a listing told of.
use Rattle.std.specs.Prelude.{◌≡◌, ◌&&◌, ℕ, Bool, true, false, cond, bytes_eq, List, None, Some, Ok}
use Rattle.std.specs.Option.{option_and_then}
use Rattle.std.proofs.Common.{refl, sym, ap, subst, ◌∙◌}
use Rattle.std.proofs.lemmas.Option.{same_Some}
use Rattle.s3_names.specs.Bucket.{is_bucket}
use Rattle.swift_calls.specs.Account.{SwiftObject, SwiftAccount, find_object}
use Rattle.swift_calls.specs.Bodies.{bytes_of, head_of, plain_bytes}
use Rattle.swift_calls.specs.Step.{body_reply, get_reply}
use Rattle.swift_calls.specs.declared.calls.SwiftRequest.TheVariants.{GetObject}
use Rattle.swift_calls.specs.declared.calls.SwiftReply.{SwiftReply}
use Rattle.upload_texts.specs.Places.{json_or_null}
use Rattle.upload_texts.specs.Records.{has_record_text, read_record, record_in, record_text}
use Rattle.upload_texts.specs.declared.record.Record.{Record}
use Rattle.upload_records.specs.Layout.{uploads_name}
use Rattle.upload_records.specs.Native.{record_of}
use Rattle.upload_records.specs.Consistent.{IsConsistent, IsRecord}
use Rattle.account_calls.proofs.lemmas.One.{IsReadingOf}
use Rattle.leftovers.specs.Gathering.{HasRecord}
use Rattle.leftovers.specs.Records.{listed_record_by, listed_record_due, TellsRecord}

record_file : (name : List ℕ) (file : SwiftObject) (kept : IsRecord name file) → record_of file ≡ Some kept.is
record_file name file kept = ap (λ c. option_and_then read_record (plain_bytes c)) kept.own ∙ kept.reads

module _ (tree : SwiftAccount) (bucket name : List ℕ) (is : is_bucket bucket ≡ true) (sound : IsConsistent tree) (has : HasRecord bucket name tree) where
  told_by : (reply : SwiftReply) → reply ≡ get_reply (find_object tree) None (Some has.file) → (told : Record) × (listed_record_due reply ≡ Ok told) × TellsRecord bucket name tree told
  told_by reply e =
      let kept = (sound.buckets bucket is has.there).of_records name has.file has.found in (
        kept.is,
        ap listed_record_due e ∙ (λ i. listed_record_due (body_reply (head_of has.file) None (bytes_of (find_object tree) (kept.own i)))) ∙ ap listed_record_by kept.reads,
        sym (ap (option_and_then record_of) has.found ∙ record_file name has.file kept),
      )

pub record_reads : {container name under : List ℕ} (bucket : List ℕ) → container ≡ uploads_name bucket → name ≡ under → is_bucket bucket ≡ true
    → IsReadingOf (HasRecord bucket under) (GetObject container name None) listed_record_due (TellsRecord bucket under)
record_reads {under = under} bucket named same is = record {
  leaves = λ tree. refl;
  tells = λ tree sound has reply replied.
      told_by tree bucket under is sound has reply (replied ∙ (λ i. get_reply (find_object tree) None (find_object tree (named i) (same i))) ∙ ap (get_reply (find_object tree) None) has.found);
}

-- what reads as a record has a text
by_test : (q r : Record) (s t : Bool) → has_record_text q ≡ s → cond (s && t) (Some q) None ≡ Some r → has_record_text r ≡ true
by_test q r true true has e = subst (λ (x : Record). has_record_text x ≡ true) (same_Some q r e) has
by_test q r true false has e = cc
by_test q r false t has e = cc

pub record_has : (text : List ℕ) (r : Record) → read_record text ≡ Some r → has_record_text r ≡ true
unfolding read_record
record_has text r reads =
    let q = record_in (json_or_null text) in
    by_test q r (has_record_text q) (bytes_eq (record_text q) text) refl reads
