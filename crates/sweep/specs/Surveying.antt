-- What stands on an account is counted, container by container. Source: this profile.
use Rattle.std.specs.Prelude.{◌≡◌, ◌≤◌, ◌+◌, ℕ, Bool, true, false, not, List, length, sum_by, Option, None, Some}
use Rattle.std.specs.List.{filter}
use Rattle.std.specs.FinMap.{keys, len}
use Rattle.gate_base.specs.Maps.{Names}
use Rattle.s3_names.specs.Bucket.{is_bucket}
use Rattle.swift_calls.specs.Account.{SwiftAccount, files}
use Rattle.upload_texts.specs.declared.sealed.Sealed.{Sealed}
use Rattle.upload_records.specs.Layout.{segments_name, uploads_name}
use Rattle.upload_records.specs.Native.{seal_of}
use Rattle.upload_records.specs.Consistent.{IsThere}
use Rattle.account_calls.specs.Answers.{pages}
use Rattle.list_pages.specs.declared.page.TheConstants.{MOST_NAMES}
use Rattle.leftovers.specs.declared.sides.Kind.TheVariants.{Segments}
use Rattle.sweep.specs.declared.counting.Surveyed.{Surveyed}
use Rattle.leftovers.specs.declared.gathering.Source.TheVariants.{Records}
use Rattle.sweep.specs.declared.file_counts.FileCount.{FileCount}
use Rattle.leftovers.specs.Sides.{bucket_beside}
use Rattle.sweep.specs.Forgetting.{count_records}
use Rattle.leftovers.specs.Gathering.{TellsAll, gather_calls, names_after}
use Rattle.leftovers.specs.Leftovers.{all_if, count_files, is_missing, is_open, is_orphan}
use Rattle.sweep.specs.Swept.{is_done}

-- ---- what is sealed

-- the completion that is sealed on the account, if one is
abbrev pub TellsSealed : SwiftAccount → Option Sealed → Type 0
TellsSealed tree told = told ≡ seal_of tree

-- ---- how many are, and how many aren't

-- one more is counted, that is used or isn't
abbrev pub one_more : Bool → FileCount → FileCount
one_more true total = record { used = total.used + 1; unused = total.unused }
one_more false total = record { used = total.used; unused = total.unused + 1 }

-- so many of these names more pass a test, and so many don't
pub record TalliesFiles (test : List ℕ → Bool) (names : List (List ℕ)) (old new : FileCount) : Type 0 where
  pub used : new.used ≡ old.used + length (filter test names)
  pub unused : new.unused ≡ old.unused + length (filter (λ name. not (test name)) names)

-- with those behind the next marker it is what it was with those behind this one
pub record TalliesPage (test : List ℕ → Bool) (folder marker next : List ℕ) (old new : FileCount) (tree : SwiftAccount) : Type 0 where
  pub used : new.used + length (filter test (names_after folder next tree)) ≡ old.used + length (filter test (names_after folder marker tree))
  pub unused : new.unused + length (filter (λ name. not (test name)) (names_after folder next tree)) ≡ old.unused + length (filter (λ name. not (test name)) (names_after folder marker tree))
  pub fewer : length (names_after folder next tree) + MOST_NAMES ≤ length (names_after folder marker tree)

abbrev pub TalliesNext : (List ℕ → Bool) → List ℕ → List ℕ → FileCount → FileCount → SwiftAccount → Option (List ℕ) → Type 0
TalliesNext test folder marker old new tree None = TalliesFiles test (names_after folder marker tree) old new
TalliesNext test folder marker old new tree (Some next) = TalliesPage test folder marker next old new tree

-- a page of a container was counted, on top of what was before
abbrev pub TellsTallied : (List ℕ → Bool) → List ℕ → List ℕ → FileCount → SwiftAccount → FileCount × Option (List ℕ) → Type 0
TellsTallied test folder marker old tree told = TalliesNext test folder marker old told.0 tree told.1

abbrev pub no_tally : FileCount
no_tally = record { used = 0; unused = 0 }

-- the whole container was
abbrev pub TellsTally : (List ℕ → Bool) → List ℕ → SwiftAccount → FileCount → Type 0
TellsTally test folder tree told = TalliesFiles test (keys (files tree folder)) no_tally told

-- a page for each 1000 files
abbrev pub page_calls : SwiftAccount → List ℕ → ℕ
page_calls tree folder = pages (len (files tree folder))

-- ---- a bucket that is there

abbrev pub TellsObjects : List ℕ → SwiftAccount → ℕ → Type 0
TellsObjects bucket tree told = told ≡ len (files tree bucket)

-- the ids of its open uploads; and how many these are, and how many completions are kept
pub record TellsRecords (bucket : List ℕ) (tree : SwiftAccount) (told : Names Bool × FileCount) : Type 0 where
  pub opened : TellsAll Records (uploads_name bucket) bucket tree told.0
  pub uploads : told.1.used ≡ count_records is_open (files tree (uploads_name bucket))
  pub kept : told.1.unused ≡ count_records is_done (files tree (uploads_name bucket))

abbrev pub records_calls : SwiftAccount → List ℕ → ℕ
records_calls tree bucket = gather_calls tree (uploads_name bucket) + page_calls tree (uploads_name bucket)

-- a bucket is there, the ids of its open uploads are these, and this is sealed
pub record HasOpened (sealed : Option Sealed) (bucket : List ℕ) (opened : Names Bool) (tree : SwiftAccount) : Type 0 where
  pub there : IsThere tree bucket
  pub seals : seal_of tree ≡ sealed
  pub opens : TellsAll Records (uploads_name bucket) bucket tree opened

-- the orphans beside a bucket
abbrev pub orphans_beside : SwiftAccount → List ℕ → ℕ
orphans_beside tree bucket = count_files (is_orphan tree bucket) (files tree (segments_name bucket))

abbrev pub TellsOrphans : List ℕ → SwiftAccount → ℕ → Type 0
TellsOrphans bucket tree told = told ≡ orphans_beside tree bucket

abbrev pub orphans_calls : SwiftAccount → List ℕ → ℕ
orphans_calls tree bucket = gather_calls tree bucket + page_calls tree (segments_name bucket)

-- ---- the share of one container

-- beside a bucket that is missing: all segments are orphans. Beside one that is there they are counted with the bucket
abbrev pub stray_orphans : SwiftAccount → List ℕ → ℕ
stray_orphans tree bucket = all_if (is_missing tree bucket) (orphans_beside tree bucket)

abbrev pub TellsStray : List ℕ → SwiftAccount → ℕ → Type 0
TellsStray bucket tree told = told ≡ stray_orphans tree bucket

abbrev pub stray_calls : SwiftAccount → List ℕ → ℕ
stray_calls tree bucket = 1 + page_calls tree (segments_name bucket)

abbrev pub only_orphans : ℕ → Surveyed
only_orphans n = record { buckets = 0; objects = 0; uploads = 0; kept = 0; orphans = n; sealed = false }

abbrev pub TellsStrayShare : List ℕ → SwiftAccount → Surveyed → Type 0
TellsStrayShare bucket tree told = told ≡ only_orphans (stray_orphans tree bucket)

abbrev pub no_share : Surveyed
no_share = only_orphans 0

abbrev pub share_of_side : SwiftAccount → Option (List ℕ) → Surveyed
share_of_side tree None = no_share
share_of_side tree (Some bucket) = only_orphans (stray_orphans tree bucket)

abbrev pub share_of_bucket : SwiftAccount → List ℕ → Surveyed
share_of_bucket tree bucket = record {
  buckets = 1;
  objects = len (files tree bucket);
  uploads = count_records is_open (files tree (uploads_name bucket));
  kept = count_records is_done (files tree (uploads_name bucket));
  orphans = orphans_beside tree bucket;
  sealed = false;
}

abbrev pub share_by : Bool → SwiftAccount → List ℕ → Surveyed
share_by true tree name = share_of_bucket tree name
share_by false tree name = share_of_side tree (bucket_beside Segments name)

abbrev pub share_of : SwiftAccount → List ℕ → Surveyed
share_of tree name = share_by (is_bucket name) tree name

-- a container is there, and this is sealed
pub record HasName (sealed : Option Sealed) (name : List ℕ) (tree : SwiftAccount) : Type 0 where
  pub there : IsThere tree name
  pub seals : seal_of tree ≡ sealed

abbrev pub TellsBucketShare : List ℕ → SwiftAccount → Surveyed → Type 0
TellsBucketShare bucket tree told = told ≡ share_of_bucket tree bucket

abbrev pub TellsShare : List ℕ → SwiftAccount → Surveyed → Type 0
TellsShare name tree told = told ≡ share_of tree name

abbrev pub bucket_calls : SwiftAccount → List ℕ → ℕ
bucket_calls tree bucket = page_calls tree bucket + (records_calls tree bucket + orphans_calls tree bucket)

abbrev pub calls_of_side : SwiftAccount → Option (List ℕ) → ℕ
calls_of_side tree None = 0
calls_of_side tree (Some bucket) = stray_calls tree bucket

abbrev pub calls_by : Bool → SwiftAccount → List ℕ → ℕ
calls_by true tree name = bucket_calls tree name
calls_by false tree name = calls_of_side tree (bucket_beside Segments name)

abbrev pub share_calls : SwiftAccount → List ℕ → ℕ
share_calls tree name = calls_by (is_bucket name) tree name

-- ---- all containers

abbrev pub plus : Surveyed → Surveyed → Surveyed
plus a b = record {
  buckets = a.buckets + b.buckets;
  objects = a.objects + b.objects;
  uploads = a.uploads + b.uploads;
  kept = a.kept + b.kept;
  orphans = a.orphans + b.orphans;
  sealed = a.sealed;
}

abbrev pub TellsSum : Surveyed → List ℕ → SwiftAccount → Surveyed → Type 0
TellsSum total name tree told = told ≡ plus total (share_of tree name)

-- what the containers of these names have
abbrev pub shares_of : SwiftAccount → List (List ℕ) → Surveyed
shares_of tree names = record {
  buckets = sum_by (λ name. (share_of tree name).buckets) names;
  objects = sum_by (λ name. (share_of tree name).objects) names;
  uploads = sum_by (λ name. (share_of tree name).uploads) names;
  kept = sum_by (λ name. (share_of tree name).kept) names;
  orphans = sum_by (λ name. (share_of tree name).orphans) names;
  sealed = false;
}

-- these are the names of all containers, and this is sealed
pub record HasAllNames (sealed : Option Sealed) (names : List (List ℕ)) (tree : SwiftAccount) : Type 0 where
  pub all : names ≡ keys tree
  pub seals : seal_of tree ≡ sealed

abbrev pub TellsShares : List (List ℕ) → SwiftAccount → Surveyed → Type 0
TellsShares names tree told = told ≡ shares_of tree names

abbrev pub shares_calls : SwiftAccount → List (List ℕ) → ℕ
shares_calls tree names = sum_by (share_calls tree) names
