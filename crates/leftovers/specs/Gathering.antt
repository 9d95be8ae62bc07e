-- What a sweep remembers of a bucket, gathered from the files of a container page by page: the ids of its open uploads, and the
-- names of the segments that its objects list. Source: this profile.
use Rattle.std.specs.Prelude.{◌≡◌, ◌≤◌, ◌+◌, ◌*◌, ℕ, Bool, true, false, ◌&&◌, ◌||◌, bytes_eq, List, [], map, length, is_some, Option, None, Some, Result, Ok, Err}
use Rattle.std.specs.List.{AllByRecursion, filter, list_any}
use Rattle.std.specs.FinMap.{get, keys, len}
use Rattle.gate_base.specs.Maps.{Names}
use Rattle.slo_manifest.specs.declared.Segment.{Segment}
use Rattle.swift_calls.specs.Account.{SwiftObject, SwiftAccount, files, find_object}
use Rattle.swift_calls.specs.Bodies.{item_of}
use Rattle.swift_calls.specs.History.{History, present}
use Rattle.swift_calls.specs.declared.account.Content.TheVariants.{Segments}
use Rattle.swift_calls.specs.declared.heads.NameItem.{NameItem}
use Rattle.upload_records.specs.Layout.{uploads_name, segments_name}
use Rattle.upload_records.specs.Native.{record_at}
use Rattle.upload_records.specs.Consistent.{IsThere}
use Rattle.account_calls.specs.declared.fault.PlanFault.{PlanFault}
use Rattle.account_calls.specs.Answers.{pages}
use Rattle.account_calls.specs.Calls.{Met}
use Rattle.account_calls.specs.FilePages.{rows_after}
use Rattle.list_pages.specs.declared.page.TheConstants.{MOST_NAMES}
use Rattle.leftovers.specs.declared.gathering.Source.{Source}
use Rattle.leftovers.specs.declared.gathering.Source.TheVariants.{Records, Objects}
use Rattle.leftovers.specs.Lists.{is_whole_list}
use Rattle.leftovers.specs.Leftovers.{id_in, is_named_in, is_open, is_sub_manifest_name, names_segment, segments_in}

-- ---- what a file adds

-- the segments that the file of a name lists
abbrev pub segments_at : SwiftAccount → List ℕ → List ℕ → List Segment
segments_at tree container name = segments_in (find_object tree container name)

-- the container that is gone through
abbrev pub folder_of : Source → List ℕ → List ℕ
folder_of Records bucket = uploads_name bucket
folder_of Objects bucket = bucket

-- whether one of these segments names a text, by itself or as a sub-manifest
abbrev pub any_names : SwiftAccount → List ℕ → List ℕ → List Segment → Bool
any_names tree bucket text listed = list_any (names_segment (files tree (segments_name bucket)) text) listed

-- whether the file of a name adds this text: its own name, where it is the record of an open upload; or one that it lists, by itself
-- or through a sub-manifest
abbrev pub adds : Source → SwiftAccount → List ℕ → List ℕ → List ℕ → Bool
adds Records tree bucket text name = bytes_eq name text && is_open (record_at (files tree (uploads_name bucket)) name)
adds Objects tree bucket text name = any_names tree bucket text (segments_at tree bucket name)

-- whether one of these files does
abbrev pub any_adds : Source → SwiftAccount → List ℕ → List ℕ → List (List ℕ) → Bool
any_adds source tree bucket text names = list_any (adds source tree bucket text) names

-- ---- what is given

-- the bucket is there
abbrev pub InBucket : List ℕ → SwiftAccount → Type 0
InBucket bucket tree = IsThere tree bucket

-- a bucket is there, and beside it the file of a record
pub record HasRecord (bucket name : List ℕ) (tree : SwiftAccount) : Type 0 where
  pub there : IsThere tree bucket
  pub file : SwiftObject
  pub found : get (files tree (uploads_name bucket)) name ≡ Some file

-- an item of a listing is that of a file
pub record IsItemOf (fs : Names SwiftObject) (item : NameItem) : Type 0 where
  pub file : SwiftObject
  pub found : get fs item.name ≡ Some file
  pub is : item ≡ item_of item.name file

-- a bucket is there, and this item is that of a file of the container
pub record HasItem (folder bucket : List ℕ) (item : NameItem) (tree : SwiftAccount) : Type 0 where
  pub there : IsThere tree bucket
  pub is : IsItemOf (files tree folder) item

-- or these are
pub record HasItems (folder bucket : List ℕ) (items : List NameItem) (tree : SwiftAccount) : Type 0 where
  pub there : IsThere tree bucket
  pub are : AllByRecursion (IsItemOf (files tree folder)) items

-- the file of a name lists segments
pub record HasListing (container name : List ℕ) (tree : SwiftAccount) : Type 0 where
  pub file : SwiftObject
  pub listed : List Segment
  pub found : find_object tree container name ≡ Some file
  pub lists : file.content ≡ Segments listed

-- a sub-manifest beside a bucket that an object lists: its list is whole, under the id of its name
pub record HasInner (bucket : List ℕ) (s : Segment) (tree : SwiftAccount) : Type 0 where
  pub has : HasListing (segments_name bucket) s.name tree
  pub whole : is_whole_list false (segments_name bucket) (id_in s.name) s.size has.listed ≡ true

-- a segment that an object of the bucket lists: a part, which lists none, or a sub-manifest, which has a list
abbrev pub IsKnownBy : Bool → List ℕ → Segment → SwiftAccount → Type 0
IsKnownBy false bucket s tree = segments_at tree (segments_name bucket) s.name ≡ []
IsKnownBy true bucket s tree = HasInner bucket s tree

abbrev pub IsKnown : List ℕ → Segment → SwiftAccount → Type 0
IsKnown bucket s tree = IsKnownBy (is_sub_manifest_name s.name) bucket s tree

abbrev pub AreKnown : List ℕ → List Segment → SwiftAccount → Type 0
AreKnown bucket listed tree = AllByRecursion (λ s. IsKnown bucket s tree) listed

-- how many sub-manifests an object lists
abbrev pub sub_manifests_in : List Segment → ℕ
sub_manifests_in listed = length (filter (λ (s : Segment). is_sub_manifest_name s.name) listed)

-- ---- what is told

-- the segments that the file of a name lists
abbrev pub TellsListing : List ℕ → List ℕ → SwiftAccount → List Segment → Type 0
TellsListing container name tree told = told ≡ segments_at tree container name

-- the names that the list of a sub-manifest beside the bucket has were added
abbrev pub TellsInner : List ℕ → List ℕ → Names Bool → Names Bool → SwiftAccount → Unit {0} → Type 0
TellsInner bucket name old new tree done = (text : List ℕ) → is_some (get new text) ≡ (is_some (get old text) || is_named_in text (segments_at tree (segments_name bucket) name))

-- what these segments name was added
abbrev pub TellsNamed : List ℕ → List Segment → Names Bool → Names Bool → SwiftAccount → Unit {0} → Type 0
TellsNamed bucket listed old new tree done = (text : List ℕ) → is_some (get new text) ≡ (is_some (get old text) || any_names tree bucket text listed)

-- whether the record of a name is that of an open upload
abbrev pub TellsOpen : List ℕ → List ℕ → SwiftAccount → Bool → Type 0
TellsOpen bucket name tree told = told ≡ is_open (record_at (files tree (uploads_name bucket)) name)

-- what the files of these names add was added
abbrev pub TellsAdded : Source → List ℕ → List (List ℕ) → Names Bool → Names Bool → SwiftAccount → Unit {0} → Type 0
TellsAdded source bucket names old new tree done = (text : List ℕ) → is_some (get new text) ≡ (is_some (get old text) || any_adds source tree bucket text names)

-- the names of a container after a marker
abbrev pub names_after : List ℕ → List ℕ → SwiftAccount → List (List ℕ)
names_after folder marker tree = map (λ e. e.0) (rows_after [] marker (files tree folder))

-- what a page adds was added: with what is to be added behind the next marker it is what was to be
pub record AddsPage (source : Source) (folder bucket marker next : List ℕ) (old new : Names Bool) (tree : SwiftAccount) : Type 0 where
  pub all : (text : List ℕ) → (is_some (get new text) || any_adds source tree bucket text (names_after folder next tree)) ≡ (is_some (get old text) || any_adds source tree bucket text (names_after folder marker tree))
  pub fewer : length (names_after folder next tree) + MOST_NAMES ≤ length (names_after folder marker tree)

abbrev pub TellsGathered : Source → List ℕ → List ℕ → List ℕ → Names Bool → Names Bool → SwiftAccount → Option (List ℕ) → Type 0
TellsGathered source folder bucket marker old new tree None = (text : List ℕ) → is_some (get new text) ≡ (is_some (get old text) || any_adds source tree bucket text (names_after folder marker tree))
TellsGathered source folder bucket marker old new tree (Some next) = AddsPage source folder bucket marker next old new tree

-- what all files of the container add
abbrev pub TellsAll : Source → List ℕ → List ℕ → SwiftAccount → Names Bool → Type 0
TellsAll source folder bucket tree told = (text : List ℕ) → is_some (get told text) ≡ any_adds source tree bucket text (keys (files tree folder))

-- the most calls for one file: GET of it, and GET of each of its sub-manifests
abbrev pub calls_a_file : ℕ
calls_a_file = 11

-- a page for each 1000 files, and the calls for each
abbrev pub gather_calls : SwiftAccount → List ℕ → ℕ
gather_calls tree folder = pages (len (files tree folder)) + calls_a_file * len (files tree folder)

-- the calls that are still to be made after a page
abbrev pub gather_after : SwiftAccount → List ℕ → List ℕ → ℕ
gather_after tree folder marker = pages (length (names_after folder marker tree)) + calls_a_file * length (names_after folder marker tree)

abbrev pub gather_left : SwiftAccount → List ℕ → Option (List ℕ) → ℕ
gather_left tree folder None = 0
gather_left tree folder (Some marker) = gather_after tree folder marker

abbrev pub left_to_gather : SwiftAccount → List ℕ → Result (Option (List ℕ)) PlanFault → ℕ
left_to_gather tree folder (Ok next) = gather_left tree folder next
left_to_gather tree folder (Err fault) = 0

-- a page is paid for
abbrev pub PaysGathering : List ℕ → List ℕ → List ℕ → History → History → Result (Option (List ℕ)) PlanFault → Type 0
PaysGathering folder bucket marker old new result = Met (InBucket bucket) old → new.called + left_to_gather (present old) folder result ≤ old.called + gather_after (present old) folder marker

-- ---- what an answer comes to
