-- A key that is held: an object stands under it. Source: this profile.
use Rattle.std.specs.Prelude.{◌≡◌, ℕ, Bool, false, ◌&&◌, bytes_eq, List, Some}
use Rattle.std.specs.FinMap.{get}
use Rattle.s3_machine.specs.declared.operation.Label.{Label}
use Rattle.s3_machine.specs.declared.operation.Op.{Op}
use Rattle.s3_machine.specs.declared.operation.Op.TheVariants.{GetObject, OnObjects, OnUploads, OnCopies}
use Rattle.s3_machine.specs.declared.operation.ObjectsOp.{ObjectsOp}
use Rattle.s3_machine.specs.declared.operation.ObjectsOp.TheVariants.{DeleteBucket, DeleteObject, DeleteObjects}
use Rattle.s3_machine.specs.declared.operation.Reply.{Reply}
use Rattle.s3_machine.specs.declared.operation.Settings.{Settings}
use Rattle.s3_machine.specs.State.{Object, Bucket, State}
use Rattle.s3_machine.specs.Step.{S3Step}

-- an object stands under the key, whatever it is
pub record Held (state : State) (bucket key : List ℕ) : Type 0 where
  pub b : Bucket
  pub o : Object
  pub there : get state bucket ≡ Some b
  pub taken : get b.objects key ≡ Some o

-- an operation may delete it: of one that deletes the bucket, or many keys of it, nothing more is asked
abbrev pub is_taken_by_objects : ObjectsOp → List ℕ → List ℕ → Bool
is_taken_by_objects (DeleteObject deletion) bucket key = bytes_eq deletion.bucket bucket && bytes_eq deletion.key key
is_taken_by_objects (DeleteBucket name) bucket key = bytes_eq name bucket
is_taken_by_objects (DeleteObjects deletion) bucket key = bytes_eq deletion.bucket bucket
is_taken_by_objects op bucket key = false

abbrev pub takes_away : Op → List ℕ → List ℕ → Bool
takes_away (GetObject read) bucket key = false
takes_away (OnObjects op) bucket key = is_taken_by_objects op bucket key
takes_away (OnUploads op) bucket key = false
takes_away (OnCopies op) bucket key = false

-- any other operation leaves an object there
pub record StaysHeld : Type 0 where
  pub stays : (settings : Settings) (old new : State) (bucket key : List ℕ) (op : Op) (label : Label) (reply : Reply) → Held old bucket key → takes_away op bucket key ≡ false
      → S3Step settings old op label reply new → Held new bucket key
