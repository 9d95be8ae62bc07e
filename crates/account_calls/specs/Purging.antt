-- The calls on the containers beside a bucket that leave the S3 state: one is made, and all files of one whose names begin with
-- a prefix are deleted page by page, before the bucket is made or after an upload was aborted. Source: this profile.
use Rattle.std.specs.Prelude.{◌≡◌, ◌≤◌, ◌+◌, ℕ, bytes_eq, false, true, List, [], ◌∷◌, map, length, is_some, Option, None, Some, Result, Ok, Err}
use Rattle.std.specs.List.{list_all}
use Rattle.std.specs.Ordering.{is_lt}
use Rattle.std.specs.FinMap.{entries, get, remove}
use Rattle.gate_base.specs.Maps.{Names, name_cmp}
use Rattle.s3_names.specs.Bucket.{is_bucket}
use Rattle.s3_names.specs.Id.{id_digits}
use Rattle.s3_machine.specs.Items.{with_prefix}
use Rattle.swift_calls.specs.Account.{SwiftObject, SwiftAccount, files}
use Rattle.swift_calls.specs.History.{History, present}
use Rattle.swift_calls.specs.declared.calls.SwiftReply.{SwiftReply}
use Rattle.swift_calls.specs.declared.calls.SwiftReply.TheVariants.{Made, There}
use Rattle.upload_records.specs.Layout.{segments_name, segments_prefix}
use Rattle.upload_records.specs.Native.{IsSettled, s3_state}
use Rattle.upload_records.specs.Consistent.{IsBeside, IsThere, HasBareSides}
use Rattle.upload_records.specs.Laws.{StaysThere, IsAbandoned}
use Rattle.account_calls.specs.declared.fault.PlanFault.{PlanFault}
use Rattle.account_calls.specs.declared.fault.PlanFault.TheVariants.{Inconsistent}
use Rattle.account_calls.specs.Answers.{pages}
use Rattle.account_calls.specs.Calls.{Met, LacksBucket}

-- ---- a container beside a bucket

-- PUT of a container that may be there
abbrev pub placed_due : SwiftReply → Result (Unit {0}) PlanFault
placed_due Made = Ok tt
placed_due There = Ok tt
placed_due _ = Err Inconsistent

-- the container is there, what was there still is, and each container has the files that it had
pub record MakesContainer (name : List ℕ) (old new : SwiftAccount) (done : Unit {0}) : Type 0 where
  pub there : IsThere new name
  pub stays : StaysThere old new
  pub holds : (folder : List ℕ) → files new folder ≡ files old folder

-- the bucket is missing, and both containers beside it are there without a file
pub record MayMake (bucket : List ℕ) (tree : SwiftAccount) : Type 0 where
  pub lacks : LacksBucket bucket (s3_state tree)
  pub bare : HasBareSides tree bucket

-- ---- the files under a prefix

-- the files whose names begin with the prefix, in the order of the names
abbrev pub under : List ℕ → Names SwiftObject → List (List ℕ × SwiftObject)
under prefix fs = with_prefix prefix (entries fs)

abbrev pub names_under : List ℕ → Names SwiftObject → List (List ℕ)
names_under prefix fs = map (λ e. e.0) (under prefix fs)

-- files but for those of these names
abbrev pub without : List (List ℕ) → Names SwiftObject → Names SwiftObject
without [] fs = fs
without (name ∷ names) fs = without names (remove fs name)

-- the names under the prefix come after the marker
abbrev pub AllBehind : List ℕ → List ℕ → Names SwiftObject → Type 0
AllBehind marker prefix fs = list_all (λ name. is_lt (name_cmp marker name)) (names_under prefix fs) ≡ true

-- a page for each 1000 of them, and a call for each
abbrev pub purge_calls : SwiftAccount → List ℕ → List ℕ → ℕ
purge_calls tree folder prefix = pages (length (under prefix (files tree folder))) + length (under prefix (files tree folder))

-- ---- what may be deleted

-- the files of a container beside a bucket under a prefix may be deleted: the bucket is missing, or they are the segments of an
-- upload that nothing names
pub data MayGo (folder bucket prefix : List ℕ) (tree : SwiftAccount) : Type 0 where
  is_beside_none : IsBeside folder bucket → LacksBucket bucket (s3_state tree) → MayGo folder bucket prefix tree
  is_abandoned : (id : ℕ) → is_bucket bucket ≡ true → folder ≡ segments_name bucket → prefix ≡ segments_prefix (id_digits id) → IsThere tree bucket
      → IsAbandoned tree bucket (id_digits id) → MayGo folder bucket prefix tree

-- on a settled account, on which the container is there, and all names under the prefix come after the marker
pub record MayPurge (folder bucket prefix marker : List ℕ) (tree : SwiftAccount) : Type 0 where
  pub settled : IsSettled tree
  pub there : IsThere tree folder
  pub may : MayGo folder bucket prefix tree
  pub behind : AllBehind marker prefix (files tree folder)

-- the same without the order, for a name under the prefix
pub record MayDelete (folder bucket prefix : List ℕ) (tree : SwiftAccount) : Type 0 where
  pub settled : IsSettled tree
  pub may : MayGo folder bucket prefix tree

-- ---- what is told

-- only the files of one container changed, and no container went
pub record Touches (folder : List ℕ) (old new : SwiftAccount) : Type 0 where
  pub others : (name : List ℕ) → bytes_eq name folder ≡ false → get new name ≡ get old name
  pub stays : is_some (get new folder) ≡ is_some (get old folder)

-- these names were deleted
pub record Deletes (folder : List ℕ) (names : List (List ℕ)) (old new : SwiftAccount) : Type 0 where
  pub touches : Touches folder old new
  pub left : files new folder ≡ without names (files old folder)

-- and what is left may still be
pub record TellsDeleted (folder bucket prefix : List ℕ) (names : List (List ℕ)) (old new : SwiftAccount) (done : Unit {0}) : Type 0 where
  pub deletes : Deletes folder names old new
  pub settled : IsSettled new
  pub may : MayGo folder bucket prefix new

-- a page was deleted, after which another is to be asked for behind this marker
pub record PurgesPage (folder bucket prefix marker : List ℕ) (old new : SwiftAccount) : Type 0 where
  pub touches : Touches folder old new
  pub fewer : length (under prefix (files old folder)) ≡ 1000 + length (under prefix (files new folder))
  pub may : MayGo folder bucket prefix new
  pub behind : AllBehind marker prefix (files new folder)

-- all were
pub record Purges (folder prefix : List ℕ) (old new : SwiftAccount) : Type 0 where
  pub touches : Touches folder old new
  pub none : names_under prefix (files new folder) ≡ []

abbrev pub TellsAllGone : List ℕ → List ℕ → SwiftAccount → SwiftAccount → Unit {0} → Type 0
TellsAllGone folder prefix old new done = Purges folder prefix old new

-- what the deletion of a page tells: the marker of the next one, or that it was the last
abbrev pub TellsPurged : List ℕ → List ℕ → List ℕ → SwiftAccount → SwiftAccount → Option (List ℕ) → Type 0
TellsPurged folder bucket prefix old new None = Purges folder prefix old new
TellsPurged folder bucket prefix old new (Some marker) = PurgesPage folder bucket prefix marker old new

-- ---- what it pays

-- the calls that are still to be made after a page
abbrev pub left_after : SwiftAccount → List ℕ → List ℕ → Result (Option (List ℕ)) PlanFault → ℕ
left_after tree folder prefix (Ok None) = 0
left_after tree folder prefix (Ok (Some marker)) = purge_calls tree folder prefix
left_after tree folder prefix (Err fault) = 0

-- a page is paid for: the calls that were made, and those that are still to be made, are no more than were to be made before
abbrev pub PaysPage : List ℕ → List ℕ → List ℕ → List ℕ → History → History → Result (Option (List ℕ)) PlanFault → Type 0
PaysPage folder bucket prefix marker old new result = Met (MayPurge folder bucket prefix marker) old
    → new.called + left_after (present new) folder prefix result ≤ old.called + purge_calls (present old) folder prefix
