-- That a copy of an object of parts has segments of its own, over every observable store, whether its account is consistent or not.
-- Source: this profile.
use Rattle.std.specs.Prelude.{◌≡◌, ◌<◌, ℕ, IsTrue, List, [], ◌∷◌, length, map, Some, Result, IfOk}
use Rattle.s3_names.specs.Id.{id_digits}
use Rattle.s3_machine.specs.ETag.{body_etag}
use Rattle.s3_machine.specs.declared.operation.Reply.{Reply}
use Rattle.swift_calls.specs.Account.{SwiftObject, SwiftAccount, find_object}
use Rattle.swift_calls.specs.History.{History, present}
use Rattle.swift_marks.specs.declared.tag.Tag.{Tag}
use Rattle.swift_marks.specs.Tag.{tag_text}
use Rattle.upload_texts.specs.declared.sealed.Sealed.{Sealed}
use Rattle.upload_texts.specs.declared.sealed.SealedPart.{SealedPart}
use Rattle.upload_records.specs.Layout.{segment_name, segments_name}
use Rattle.upload_records.specs.Native.{sealed_sub_manifests}
use Rattle.account_calls.specs.Puts.{StandsIn}
use Rattle.account_calls.specs.Sealed.{put_object_of, put_sub_of}
use Rattle.account_calls.specs.declared.fault.PlanFault.{PlanFault}
use Rattle.upload_calls.specs.Interpret.{put_part_of}
use Rattle.many_keys.specs.CopiedLists.{piece_in}
use Rattle.many_keys.specs.declared.cut.Piece.{Piece}

-- ---- what stands

-- the file of a segment stands as it was put for the copy: under its id, with the number, the ETag and the size of the part, and its moment
pub record StandsSegment (bucket : List ℕ) (id moment : ℕ) (p : SealedPart) (tree : SwiftAccount) : Type 0 where
  pub body : List ℕ
  pub etag : p.etag ≡ body_etag body
  pub size : p.size ≡ length body
  pub stands : StandsIn tree (put_part_of bucket id p.number body moment)

-- those of all of these parts
abbrev pub StandSegments : List ℕ → ℕ → ℕ → List SealedPart → SwiftAccount → Type 0
StandSegments bucket id moment [] tree = Unit {0}
StandSegments bucket id moment (p ∷ list) tree = StandsSegment bucket id moment p tree × StandSegments bucket id moment list tree

-- the first sub-manifests of what is put
abbrev pub StandSubs : Sealed → ℕ → SwiftAccount → Type 0
StandSubs s n tree = (k : ℕ) → k < n → StandsIn tree (put_sub_of s k)

-- the file of the copy lists parts with these numbers and sizes, and each is a segment that was put for the copy under this id
pub record HasOwnSegments (bucket key : List ℕ) (id : ℕ) (cut : List Piece) (moment : ℕ) (tree : SwiftAccount) : Type 0 where
  pub sealed : Sealed
  pub in_bucket : sealed.bucket ≡ bucket
  pub under_key : sealed.key ≡ key
  pub under_id : sealed.id ≡ id
  pub at_moment : sealed.moment ≡ moment
  pub pieces : map piece_in sealed.list ≡ cut
  pub stands : StandsIn tree (put_object_of sealed)
  pub subs : StandSubs sealed (sealed_sub_manifests sealed) tree
  pub own : StandSegments bucket id moment sealed.list tree

-- a file stands under the key whose tag is of this moment; one that has an id, as an object of parts, lists segments that were put for it
-- under this id
pub record StandsCopy (bucket key : List ℕ) (moment : ℕ) (tree : SwiftAccount) : Type 0 where
  pub file : SwiftObject
  pub tag : Tag
  pub there : find_object tree bucket key ≡ Some file
  pub tagged : file.content_type ≡ tag_text tag
  pub dated : tag.moment ≡ moment
  pub listed : (id : ℕ) → tag.id ≡ Some id → (cut : List Piece) × HasOwnSegments bucket key id cut moment tree

-- ---- what stays

-- each file but that of this name
abbrev pub KeepsAllBut : List ℕ → List ℕ → SwiftAccount → SwiftAccount → Type 0
KeepsAllBut folder name old new = (container other : List ℕ) → (container ≡ folder → other ≡ name → ⊥) → find_object new container other ≡ find_object old container other

-- each file outside of this container
abbrev pub KeepsOutside : List ℕ → SwiftAccount → SwiftAccount → Type 0
KeepsOutside folder old new = (container other : List ℕ) → (container ≡ folder → ⊥) → find_object new container other ≡ find_object old container other

-- the segments of an id
abbrev pub KeepsSegments : List ℕ → ℕ → SwiftAccount → SwiftAccount → Type 0
KeepsSegments bucket id old new = (number : ℕ)
    → find_object new (segments_name bucket) (segment_name (id_digits id) number) ≡ find_object old (segments_name bucket) (segment_name (id_digits id) number)

-- ---- what the calls do

-- a segment of this number is put, and no other file is changed
pub record PutsOwn (bucket : List ℕ) (id number moment : ℕ) (old new : History) (result : Result SealedPart PlanFault) : Type 0 where
  pub keeps : IsTrue old.observable → KeepsAllBut (segments_name bucket) (segment_name (id_digits id) number) (present old) (present new)
  pub stands : IsTrue new.observable → IfOk result (λ p. StandsSegment bucket id moment p (present new))

-- so many sub-manifests are put, and each segment is as it was
pub record PutsSubs (s : Sealed) (n : ℕ) (old new : History) (result : Result (Unit {0}) PlanFault) : Type 0 where
  pub keeps : IsTrue old.observable → KeepsSegments s.bucket s.id (present old) (present new)
  pub stand : IsTrue new.observable → IfOk result (λ done. StandSubs s n (present new))

-- a call that leaves each file outside of this container, on a store that stays observable, or stays one that isn't
pub record LeavesOutside (folder : List ℕ) (old new : History) : Type 0 where
  pub told : IsTrue new.observable → IsTrue old.observable
  pub keeps : IsTrue old.observable → KeepsOutside folder (present old) (present new)

-- a copy is put with its sub-manifests, and each segment is as it was
pub record PutsWithSubs (s : Sealed) (old new : History) (end : Result Reply PlanFault) : Type 0 where
  pub told : IsTrue new.observable → IsTrue old.observable
  pub keeps : IsTrue old.observable → KeepsSegments s.bucket s.id (present old) (present new)
  pub stand : IsTrue new.observable → IfOk end (λ reply. StandSubs s (sealed_sub_manifests s) (present new))
