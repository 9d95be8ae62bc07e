-- What HEAD of a bucket's container tells of the bucket.
use Rattle.std.specs.Prelude.{◌≡◌, ℕ, List, true, Option, Some, None, Ok}
use Rattle.std.specs.Option.{option_map}
use Rattle.std.specs.FinMap.{get}
use Rattle.std.proofs.Common.{refl, sym, ap, ◌∙◌}
use Rattle.s3_names.specs.declared.acl.Acl.{Acl}
use Rattle.s3_names.specs.Bucket.{is_bucket}
use Rattle.swift_calls.specs.Account.{SwiftContainer, SwiftAccount}
use Rattle.swift_calls.specs.Step.{head_container, swift_step}
use Rattle.swift_calls.specs.declared.calls.SwiftRequest.TheVariants.{HeadContainer}
use Rattle.swift_calls.specs.declared.calls.SwiftReply.{SwiftReply}
use Rattle.swift_calls.specs.declared.calls.SwiftReply.TheVariants.{Readers}
use Rattle.upload_records.specs.Native.{IsSettled, s3_state}
use Rattle.upload_records.specs.Consistent.{IsConsistent, head_of}
use Rattle.upload_records.proofs.lemmas.Buckets.{s3_state_acl}
use Rattle.upload_records.proofs.lemmas.Readers.{acl_of_folder}
use Rattle.upload_records.proofs.lemmas.Settled.{unsealed_of}
use Rattle.account_calls.specs.Calls.{TellsBucket}
use Rattle.account_calls.specs.Interpret.{bucket_due}
use Rattle.account_calls.proofs.lemmas.One.{IsReading}

leaves_by : (o : Option SwiftContainer) (tree : SwiftAccount) → (head_container o tree).tree ≡ tree
leaves_by None tree = refl
leaves_by (Some folder) tree = refl

-- a container that is there has a moment
abbrev IsTimed : Option SwiftContainer → Type 0
IsTimed None = Unit {0}
IsTimed (Some folder) = (moment : ℕ) × (folder.created ≡ Some moment)

timed_by : (tree : SwiftAccount) (bucket : List ℕ) → is_bucket bucket ≡ true → IsConsistent tree → (o : Option SwiftContainer) → get tree bucket ≡ o → IsTimed o
timed_by tree bucket is sound None found = tt
timed_by tree bucket is sound (Some folder) found = let timed = sound.folders.timed bucket (head_of folder) (ap (option_map head_of) found) is in (timed.0, timed.1)

due_by : (o : Option SwiftContainer) (tree : SwiftAccount) (reply : SwiftReply) → IsTimed o → reply ≡ (head_container o tree).reply → bucket_due reply ≡ Ok (option_map acl_of_folder o)
due_by None tree reply timed e = ap bucket_due e
due_by (Some folder) tree reply timed e = ap bucket_due e ∙ ap (λ created. bucket_due (Readers folder.readers created)) timed.1

head_tells : (tree : SwiftAccount) (name bucket : List ℕ) → name ≡ bucket → is_bucket bucket ≡ true → IsConsistent tree → IsSettled tree → (reply : SwiftReply) → reply ≡ (swift_step (HeadContainer name) tree).reply
    → (told : Option Acl) × (bucket_due reply ≡ Ok told) × TellsBucket bucket (s3_state tree) told
head_tells tree name bucket named is sound settled reply replied = (
  option_map acl_of_folder (get tree name),
  due_by (get tree name) tree reply (timed_by tree bucket is sound (get tree name) (ap (get tree) (sym named))) replied,
  s3_state_acl tree bucket is (unsealed_of settled) ∙ ap (λ n. option_map acl_of_folder (get tree n)) (sym named),
)

-- HEAD of a bucket's container tells who may read the bucket
pub head_reads : {name bucket : List ℕ} → name ≡ bucket → is_bucket bucket ≡ true → IsReading (HeadContainer name) bucket_due (TellsBucket bucket)
head_reads {name = name} {bucket = bucket} named is = record {
  leaves = λ tree. leaves_by (get tree name) tree;
  tells = λ tree sound settled reply replied. head_tells tree name bucket named is sound settled reply replied;
}
