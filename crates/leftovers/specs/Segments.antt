-- The segments of a bucket are swept: what is kept of them, and what is told. Source: this profile.
use Rattle.std.specs.Prelude.{◌≡◌, ◌⊎◌, ◌+◌, ℕ, not, IsTrue, List, [], Result, IfOk}
use Rattle.swift_calls.specs.Account.{SwiftAccount, files}
use Rattle.swift_calls.specs.History.{History, present}
use Rattle.upload_records.specs.Layout.{uploads_name, segments_name}
use Rattle.upload_records.specs.Native.{IsSettled}
use Rattle.upload_records.specs.Consistent.{IsThere}
use Rattle.account_calls.specs.FilePages.{items_after}
use Rattle.account_calls.specs.Purging.{Touches}
use Rattle.leftovers.specs.Asking.{asking_calls, ClearsAll}
use Rattle.leftovers.specs.Gathering.{gather_calls}
use Rattle.leftovers.specs.Kept.{goes}
use Rattle.leftovers.specs.Sweeping.{file_calls, Spares}
use Rattle.leftovers.specs.Leftovers.{count_files, is_orphan, is_used}
use Rattle.leftovers.specs.Lists.{AreItemsHeld}
use Rattle.leftovers.specs.declared.gathering.Source.TheVariants.{Objects, Records}
use Rattle.leftovers.specs.declared.kept.Kept.{Kept}

-- a bucket that is there, on a settled account
pub record HasSettled (bucket : List ℕ) (tree : SwiftAccount) : Type 0 where
  pub settled : IsSettled tree
  pub there : IsThere tree bucket

-- what is kept is what is used
abbrev pub TellsKept : List ℕ → SwiftAccount → Kept → Type 0
TellsKept bucket tree kept = (name : List ℕ) → goes kept name ≡ not (is_used tree bucket name)

abbrev pub kept_calls : SwiftAccount → List ℕ → ℕ
kept_calls tree bucket = gather_calls tree (uploads_name bucket) + gather_calls tree bucket

-- the orphans beside a bucket are gone, and counted; no other container changed
pub record SweepsSegments (bucket : List ℕ) (old new : SwiftAccount) (count : ℕ) : Type 0 where
  pub touches : Touches (segments_name bucket) old new
  pub counted : count ≡ count_files (is_orphan old bucket) (files old (segments_name bucket))
  pub none : count_files (is_orphan new bucket) (files new (segments_name bucket)) ≡ 0

abbrev pub segments_calls : SwiftAccount → List ℕ → ℕ
segments_calls tree bucket = kept_calls tree bucket + asking_calls tree (segments_name bucket) + file_calls tree (segments_name bucket)

-- over every observable store, consistent or not, whatever comes of it: nothing went; or what the bucket's objects list was gathered
-- whole, and the ids of its open uploads, of each id under which a file goes nothing says that it is used, and only such files went
pub record Heeds (bucket : List ℕ) (old new : SwiftAccount) : Type 0 where
  pub kept : Kept
  pub objects : AreItemsHeld Objects bucket bucket old kept.listed (items_after [] [] (files old bucket))
  pub records : AreItemsHeld Records (uploads_name bucket) bucket old kept.opened (items_after [] [] (files old (uploads_name bucket)))
  pub clear : ClearsAll (segments_name bucket) bucket (goes kept) old
  pub spares : Spares (segments_name bucket) (goes kept) old new

abbrev pub HeedsThen : List ℕ → History → History → Type 0
HeedsThen bucket old new = IsTrue old.observable → (present new ≡ present old) ⊎ Heeds bucket (present old) (present new)

-- what is kept was gathered whole
abbrev pub HoldsKept : {E : Type 0} → List ℕ → History → Result Kept E → Type 0
HoldsKept bucket old result = IsTrue old.observable → IfOk result (λ kept.
    AreItemsHeld Objects bucket bucket (present old) kept.listed (items_after [] [] (files (present old) bucket))
    × AreItemsHeld Records (uploads_name bucket) bucket (present old) kept.opened (items_after [] [] (files (present old) (uploads_name bucket))))
