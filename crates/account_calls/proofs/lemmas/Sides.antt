-- The containers beside a bucket: their names, and the PUT of one.
use Rattle.std.specs.Prelude.{◌≡◌, ◌<◌, ◌≤◌, ℕ, List, codes, length, Option, None, Some, Ok}
use Rattle.std.specs.FinMap.{get}
use Rattle.std.proofs.Common.{refl, sym, ap, subst, inl, inr, arith}
use Rattle.std.proofs.lemmas.List.{length-append}
use Rattle.s3_names.proofs.lemmas.BucketLemmas.{bucket_length}
use Rattle.swift_calls.specs.declared.account.ReadList.TheVariants.{Nobody}
use Rattle.swift_calls.specs.declared.calls.SwiftRequest.TheVariants.{PutContainer}
use Rattle.swift_calls.specs.Account.{SwiftContainer, SwiftAccount}
use Rattle.swift_calls.specs.Step.{IsContainerName, put_container}
use Rattle.upload_records.specs.Layout.{uploads_name, segments_name}
use Rattle.upload_records.specs.Native.{IsSettled}
use Rattle.upload_records.specs.Consistent.{IsBeside}
use Rattle.upload_records.proofs.lemmas.SideCalls.{side_made, side_settled}
use Rattle.account_calls.specs.Purging.{MakesContainer, placed_due}
use Rattle.account_calls.proofs.lemmas.Markers.{folder_is_marker}
use Rattle.account_calls.proofs.lemmas.Quiet.{IsQuietOf}

-- ---- the names

side_length : (name bucket : List ℕ) → IsBeside name bucket → (0 < length name) × (length name ≤ 256)
unfolding uploads_name segments_name
side_length name bucket beside =
    let near = bucket_length bucket beside.of_bucket in
    elim beside.is [
      | inl e ↦ (omega (arith, near, ap length e, length-append bucket (codes "+uploads")), omega (arith, near, ap length e, length-append bucket (codes "+uploads")))
      | inr e ↦ (omega (arith, near, ap length e, length-append bucket (codes "+segments")), omega (arith, near, ap length e, length-append bucket (codes "+segments")))
    ]

-- one is the name of a container
pub side_name : (name bucket : List ℕ) → IsBeside name bucket → IsContainerName name
side_name name bucket beside =
    let near = side_length name bucket beside in
    let text = folder_is_marker name (inr (inl (bucket, beside))) in
    record { filled = near.0; within = near.1; text = text.utf8; no_zero = text.no_zero }

-- ---- the PUT of one

-- a container that is put is made, or was there
pub placed : (o : Option SwiftContainer) (name : List ℕ) (tree : SwiftAccount) → placed_due (put_container o name Nobody None tree).reply ≡ Ok tt
placed None name tree = refl
placed (Some folder) name tree = refl

side_put : (folder bucket : List ℕ) → IsBeside folder bucket → IsQuietOf IsSettled (PutContainer folder Nobody None) placed_due (MakesContainer folder)
side_put folder bucket beside = record {
  effect = λ tree sound settled.
      let made = side_made tree bucket folder None beside sound settled.none in
      record {
        told = tt;
        says = placed (get tree folder) folder tree;
        sound = made.quiet.sound;
        same = made.quiet.state;
        tells = record { there = made.there; stays = made.stays; holds = made.holds };
      };
  settled = λ tree settled. side_settled tree bucket folder Nobody None beside settled;
}

-- the PUT of a container beside a bucket, by its name
pub makes_side : {name folder bucket : List ℕ} → name ≡ folder → IsBeside folder bucket → IsQuietOf IsSettled (PutContainer name Nobody None) placed_due (MakesContainer folder)
makes_side {folder = folder} {bucket = bucket} named beside = subst (λ n. IsQuietOf IsSettled (PutContainer n Nobody None) placed_due (MakesContainer folder)) (sym named) (side_put folder bucket beside)
