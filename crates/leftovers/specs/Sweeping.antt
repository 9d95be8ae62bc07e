-- The files of a container beside a bucket of which some are deleted, page by page. Source: this profile.
use Rattle.std.specs.Prelude.{◌≡◌, ◌≤◌, ◌+◌, ℕ, Bool, true, false, not, bytes_eq, IsTrue, List, [], map, length, Option, None, Some, Result, Ok, Err}
use Rattle.std.specs.List.{filter, list_all}
use Rattle.std.specs.Ordering.{is_lt}
use Rattle.std.specs.FinMap.{entries, get, len}
use Rattle.gate_base.specs.Maps.{Names, name_cmp}
use Rattle.s3_names.specs.Bucket.{is_bucket}
use Rattle.s3_machine.specs.Items.{behind}
use Rattle.swift_calls.specs.Account.{SwiftObject, SwiftAccount, files}
use Rattle.swift_calls.specs.History.{History, present}
use Rattle.upload_records.specs.Layout.{segments_name}
use Rattle.upload_records.specs.Native.{IsSettled}
use Rattle.upload_records.specs.Consistent.{IsBeside, IsThere}
use Rattle.account_calls.specs.declared.fault.PlanFault.{PlanFault}
use Rattle.account_calls.specs.Answers.{pages}
use Rattle.account_calls.specs.Calls.{Met}
use Rattle.account_calls.specs.Purging.{Touches, Deletes}
use Rattle.leftovers.specs.Leftovers.{is_used}

-- ---- the files that go

-- the files of a container whose names pass a test, in the order of the names
abbrev pub passing : (List ℕ → Bool) → Names SwiftObject → List (List ℕ × SwiftObject)
passing test fs = filter (λ e. test e.0) (entries fs)

abbrev pub names_passing : (List ℕ → Bool) → Names SwiftObject → List (List ℕ)
names_passing test fs = map (λ e. e.0) (passing test fs)

-- they come after the marker
abbrev pub AllBehind : List ℕ → (List ℕ → Bool) → Names SwiftObject → Type 0
AllBehind marker test fs = list_all (λ name. is_lt (name_cmp marker name)) (names_passing test fs) ≡ true

-- why the files that pass the test may go from a container beside a bucket: the bucket is missing, or they are the segments that
-- aren't used
pub data MayGo (folder bucket : List ℕ) (test : List ℕ → Bool) (tree : SwiftAccount) : Type 0 where
  is_beside_none : IsBeside folder bucket → get tree bucket ≡ None → MayGo folder bucket test tree
  is_unused : is_bucket bucket ≡ true → folder ≡ segments_name bucket → IsThere tree bucket → ((name : List ℕ) → test name ≡ not (is_used tree bucket name)) → MayGo folder bucket test tree

-- on a settled account
pub record MayDelete (folder bucket : List ℕ) (test : List ℕ → Bool) (tree : SwiftAccount) : Type 0 where
  pub settled : IsSettled tree
  pub may : MayGo folder bucket test tree

-- on which the container is there, and all that go come after the marker
pub record MaySweep (folder bucket : List ℕ) (test : List ℕ → Bool) (marker : List ℕ) (tree : SwiftAccount) : Type 0 where
  pub settled : IsSettled tree
  pub there : IsThere tree folder
  pub may : MayGo folder bucket test tree
  pub behind : AllBehind marker test (files tree folder)

-- ---- what is told

-- files were deleted, and those that are left may still be
pub record TellsDeleted (folder bucket : List ℕ) (test : List ℕ → Bool) (names : List (List ℕ)) (old new : SwiftAccount) (done : Unit {0}) : Type 0 where
  pub deletes : Deletes folder names old new
  pub settled : IsSettled new
  pub may : MayGo folder bucket test new

-- of these names those that pass were deleted
pub record TellsSwept (folder bucket : List ℕ) (test : List ℕ → Bool) (names : List (List ℕ)) (old new : SwiftAccount) (count : ℕ) : Type 0 where
  pub deletes : Deletes folder (filter test names) old new
  pub settled : IsSettled new
  pub may : MayGo folder bucket test new

-- the files after a marker
abbrev pub after_marker : List ℕ → Names SwiftObject → List (List ℕ × SwiftObject)
after_marker marker fs = behind marker (entries fs)

-- the files that don't pass the test stayed
abbrev pub OthersStay : List ℕ → (List ℕ → Bool) → SwiftAccount → SwiftAccount → Type 0
OthersStay folder test old new = (name : List ℕ) → test name ≡ false → get (files new folder) name ≡ get (files old folder) name

-- nothing but files of this container that pass the test went
pub record Spares (folder : List ℕ) (test : List ℕ → Bool) (old new : SwiftAccount) : Type 0 where
  pub others : (name : List ℕ) → bytes_eq name folder ≡ false → get new name ≡ get old name
  pub stays : OthersStay folder test old new

-- over every observable store, whatever comes of it
pub record SparesThen (folder : List ℕ) (test : List ℕ → Bool) (old new : History) : Type 0 where
  pub so : IsTrue old.observable → Spares folder test (present old) (present new)

-- so many files went from the container, and no other container changed
pub record Sweeps (folder : List ℕ) (test : List ℕ → Bool) (count : ℕ) (old new : SwiftAccount) : Type 0 where
  pub touches : Touches folder old new
  pub fewer : length (passing test (files old folder)) ≡ count + length (passing test (files new folder))
  pub stays : OthersStay folder test old new

-- another page is to be asked for behind this marker, after which fewer files stand
pub record GoesOnBehind (folder bucket : List ℕ) (test : List ℕ → Bool) (marker next : List ℕ) (old new : SwiftAccount) : Type 0 where
  pub may : MayGo folder bucket test new
  pub behind : AllBehind next test (files new folder)
  pub nearer : length (after_marker next (files new folder)) + 1000 ≤ length (after_marker marker (files old folder))

-- or it was the last, and no file is left that goes
abbrev pub LeftBehind : List ℕ → List ℕ → (List ℕ → Bool) → List ℕ → SwiftAccount → SwiftAccount → Option (List ℕ) → Type 0
LeftBehind folder bucket test marker old new None = names_passing test (files new folder) ≡ []
LeftBehind folder bucket test marker old new (Some next) = GoesOnBehind folder bucket test marker next old new

-- a page was swept
pub record TellsPage (folder bucket : List ℕ) (test : List ℕ → Bool) (marker : List ℕ) (old new : SwiftAccount) (told : ℕ × Option (List ℕ)) : Type 0 where
  pub sweeps : Sweeps folder test told.0 old new
  pub left : LeftBehind folder bucket test marker old new told.1

-- the whole container was
pub record TellsAll (folder : List ℕ) (test : List ℕ → Bool) (old new : SwiftAccount) (count : ℕ) : Type 0 where
  pub touches : Touches folder old new
  pub counted : count ≡ length (passing test (files old folder))
  pub none : names_passing test (files new folder) ≡ []
  pub stays : OthersStay folder test old new

-- ---- how many calls

-- a page for each 1000 of them, and a call for each that goes
abbrev pub sweep_calls : SwiftAccount → List ℕ → (List ℕ → Bool) → List ℕ → ℕ
sweep_calls tree folder test marker = pages (length (after_marker marker (files tree folder))) + length (passing test (files tree folder))

-- where all of them may go
abbrev pub file_calls : SwiftAccount → List ℕ → ℕ
file_calls tree folder = pages (len (files tree folder)) + len (files tree folder)

-- the calls that are still to be made after a page
abbrev pub left_by : SwiftAccount → List ℕ → (List ℕ → Bool) → Option (List ℕ) → ℕ
left_by tree folder test None = 0
left_by tree folder test (Some marker) = sweep_calls tree folder test marker

abbrev pub left_after : SwiftAccount → List ℕ → (List ℕ → Bool) → Result (ℕ × Option (List ℕ)) PlanFault → ℕ
left_after tree folder test (Ok told) = left_by tree folder test told.1
left_after tree folder test (Err fault) = 0

-- a page is paid for: the calls that were made, and those that are still to be made, are no more than were to be made before
abbrev pub PaysPage : List ℕ → List ℕ → (List ℕ → Bool) → List ℕ → History → History → Result (ℕ × Option (List ℕ)) PlanFault → Type 0
PaysPage folder bucket test marker old new result = Met (MaySweep folder bucket test marker) old
    → new.called + left_after (present new) folder test result ≤ old.called + sweep_calls (present old) folder test marker
