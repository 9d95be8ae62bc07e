-- The objects of a bucket, where the segments beside it that they list stay.
use Rattle.std.specs.Prelude.{◌≡◌, ℕ, List, Some}
use Rattle.std.specs.FinMap.{get}
use Rattle.gate_base.specs.Maps.{Names, picked}
use Rattle.gate_base.proofs.lemmas.Maps.{by_name, picked_same}
use Rattle.s3_names.specs.Id.{id_digits}
use Rattle.swift_calls.specs.Account.{SwiftObject}
use Rattle.upload_records.specs.Native.{object_of}
use Rattle.upload_records.specs.Consistent.{IsObject, IsListOf, HasList, by_object}
use Rattle.upload_records.proofs.Parts.{KeepsSegments, object_stays, object_same}

module _ (folder : List ℕ) (O S S' : Names SwiftObject) (objects : (key : List ℕ) (file : SwiftObject) → get O key ≡ Some file → IsObject S folder key file)
    (same : (id : ℕ) → HasList O S id → KeepsSegments S S' (id_digits id)) where
  listed_same : (key : List ℕ) (file : SwiftObject) → get O key ≡ Some file → (id : ℕ) → IsListOf file id → KeepsSegments S S' (id_digits id)
  listed_same key file found id lists = same id (by_object key file found lists)

  pub objects_stay : (key : List ℕ) (file : SwiftObject) → get O key ≡ Some file → IsObject S' folder key file
  objects_stay key file found = object_stays S S' folder file (listed_same key file found) key (objects key file found)

  pub objects_same : picked (object_of S') O ≡ picked (object_of S) O
  objects_same = picked_same by_name (object_of S') (object_of S) O (λ key file found. object_same S S' folder file (listed_same key file found) key (objects key file found))

-- a list of a bucket is one, whatever segments stand beside it
pub lists_as : (O S S' : Names SwiftObject) (id : ℕ) → HasList O S' id → HasList O S id
lists_as O S S' id (by_object key file found lists) = by_object key file found lists
