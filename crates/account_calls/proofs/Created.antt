-- What HEAD of a container that is there tells of the moment at which it was made.
use Rattle.std.proofs.Common.{◌≡◌, ℕ, ◌<◌, List, true, cond, nat_lt, Option, Some, None, Ok, Err, refl, sym, ap, ◌∙◌, arith}
use Rattle.std.specs.Option.{option_map, unwrap_or}
use Rattle.std.specs.FinMap.{get}
use Rattle.std.proofs.lemmas.Bool.Decides.{nat_tests}
use Rattle.gate_base.specs.Told.{moment_limit}
use Rattle.gate_base.proofs.lemmas.Maps.{some_value}
use Rattle.s3_names.specs.Bucket.{is_bucket}
use Rattle.swift_calls.specs.Account.{SwiftContainer, SwiftAccount}
use Rattle.swift_calls.specs.Step.{head_container}
use Rattle.swift_calls.specs.declared.calls.SwiftRequest.TheVariants.{HeadContainer}
use Rattle.swift_calls.specs.declared.calls.SwiftReply.{SwiftReply}
use Rattle.swift_calls.specs.declared.calls.SwiftReply.TheVariants.{Readers}
use Rattle.upload_records.specs.Consistent.{IsConsistent, head_of}
use Rattle.account_calls.specs.declared.fault.PlanFault.TheVariants.{Inconsistent}
use Rattle.account_calls.specs.Listing.{created_due, made_by, Has, TellsCreated}
use Rattle.account_calls.proofs.lemmas.One.{IsReadingOf}

leaves_by : (o : Option SwiftContainer) (tree : SwiftAccount) → (head_container o tree).tree ≡ tree
leaves_by None tree = refl
leaves_by (Some folder) tree = refl

below : (moment : ℕ) → moment < moment_limit → nat_lt moment moment_limit ≡ true
below moment near = grind (arith, nat_tests)

due_of : (folder : SwiftContainer) (moment : ℕ) → folder.created ≡ Some moment → moment < moment_limit → created_due (Readers folder.readers folder.created) ≡ Ok moment
due_of folder moment is near =
    ap (λ created. created_due (Readers folder.readers created)) is ∙ ap (λ t. cond t (Ok moment) (Err Inconsistent)) (below moment near)

tells_by : (tree : SwiftAccount) (bucket : List ℕ) → is_bucket bucket ≡ true → IsConsistent tree → (folder : SwiftContainer) → get tree bucket ≡ Some folder → (reply : SwiftReply)
    → reply ≡ (head_container (get tree bucket) tree).reply → (told : ℕ) × (created_due reply ≡ Ok told) × TellsCreated bucket tree told
tells_by tree bucket is sound folder found reply replied =
    let timed = sound.folders.timed bucket (head_of folder) (ap (option_map head_of) found) is in (
      timed.0,
      ap created_due (replied ∙ ap (λ o. (head_container o tree).reply) found) ∙ due_of folder timed.0 timed.1 timed.2,
      sym (ap made_by found ∙ ap (λ o. unwrap_or o 0) timed.1),
    )

pub created_reads : {name bucket : List ℕ} → name ≡ bucket → is_bucket bucket ≡ true → IsReadingOf (Has bucket) (HeadContainer name) created_due (TellsCreated bucket)
created_reads {name = name} {bucket = bucket} named is = record {
  leaves = λ tree. leaves_by (get tree name) tree;
  tells = λ tree sound has reply replied.
      let there = some_value (get tree bucket) has.there in
      tells_by tree bucket is sound there.0 there.1 reply (replied ∙ ap (λ n. (head_container (get tree n) tree).reply) named);
}
