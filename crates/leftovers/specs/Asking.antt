-- What is asked again before the first file beside a bucket goes: of each id under which one goes, its record, and the list of the
-- object that a finished record names. Source: Object Storage API v1, "Get object content and metadata" and "Static large objects",
-- and this profile.
use Rattle.std.specs.Prelude.{◌≡◌, ◌≤◌, ◌+◌, ◌++◌, ◌*◌, ℕ, Bool, true, not, cond, IsTrue, List, [], length, is_some, Option, None, Some, Result, Ok, Err, IfOk}
use Rattle.std.specs.List.{AllByRecursion, list_any}
use Rattle.std.specs.FinMap.{get, len}
use Rattle.gate_base.specs.Maps.{Names}
use Rattle.slo_manifest.specs.declared.Segment.{Segment}
use Rattle.swift_calls.specs.Account.{SwiftObject, SwiftAccount, files, find_object}
use Rattle.swift_calls.specs.History.{History, present}
use Rattle.swift_calls.specs.Step.{get_reply, manifest_reply}
use Rattle.swift_calls.specs.declared.calls.SwiftReply.{SwiftReply}
use Rattle.swift_calls.specs.declared.calls.SwiftReply.TheVariants.{Bytes, Manifest, NotFound}
use Rattle.swift_calls.specs.declared.heads.NameItem.{NameItem}
use Rattle.upload_texts.specs.Records.{read_record}
use Rattle.upload_texts.specs.declared.record.Record.{Record}
use Rattle.upload_texts.specs.declared.record.Record.TheVariants.{Open, Done}
use Rattle.upload_records.specs.Layout.{segments_name, uploads_name}
use Rattle.upload_records.specs.Native.{record_at}
use Rattle.upload_records.specs.Consistent.{IsThere}
use Rattle.account_calls.specs.Answers.{pages}
use Rattle.account_calls.specs.Calls.{Met}
use Rattle.account_calls.specs.FilePages.{items_after}
use Rattle.account_calls.specs.declared.fault.PlanFault.{PlanFault}
use Rattle.account_calls.specs.declared.fault.PlanFault.TheVariants as fault
use Rattle.leftovers.specs.Gathering.{names_after, IsItemOf}
use Rattle.leftovers.specs.Leftovers.{id_in, is_used}
use Rattle.leftovers.specs.Lists.{items_left}

-- ---- what an answer comes to

abbrev pub found_record_by : Option Record → Result (Option Record) PlanFault
found_record_by None = Err fault.Inconsistent
found_record_by (Some told) = Ok (Some told)

-- GET of the record of an id, which may be missing
abbrev pub found_record_due : SwiftReply → Result (Option Record) PlanFault
found_record_due (Bytes head body) = found_record_by (read_record body)
found_record_due NotFound = Ok None
found_record_due _ = Err fault.Inconsistent

-- a segment of a list goes
abbrev pub any_goes : (List ℕ → Bool) → List Segment → Bool
any_goes test list = list_any (λ (s : Segment). test s.name) list

abbrev pub kept_list_due : (List ℕ → Bool) → List Segment → Result (Unit {0}) PlanFault
kept_list_due test list = cond (any_goes test list) (Err fault.Inconsistent) (Ok tt)

-- GET of the list of an object, which may be missing, or have bytes of its own: none of its segments goes
abbrev pub list_due : (List ℕ → Bool) → SwiftReply → Result (Unit {0}) PlanFault
list_due test (Manifest list) = kept_list_due test list
list_due test NotFound = Ok tt
list_due test _ = Err fault.Inconsistent

-- ---- over every observable store, whether its account is consistent or not

abbrev pub record_found : List ℕ → List ℕ → SwiftAccount → Result (Option Record) PlanFault
record_found uploads id tree = found_record_due (get_reply (find_object tree) None (find_object tree uploads id))

-- no segment of the list of a key goes
abbrev pub IsListClear : List ℕ → (List ℕ → Bool) → SwiftAccount → List ℕ → Type 0
IsListClear bucket test tree key = list_due test (manifest_reply (find_object tree bucket key)) ≡ Ok tt

-- a record says nothing against it that files under its id go: it is missing, or it is that of a completion whose key has no list of
-- which a segment goes
abbrev pub IsRecordClear : List ℕ → (List ℕ → Bool) → SwiftAccount → Option Record → Type 0
IsRecordClear bucket test tree None = Unit {0}
IsRecordClear bucket test tree (Some (Open key content_type meta started)) = ⊥
IsRecordClear bucket test tree (Some (Done key list etag started moment)) = IsListClear bucket test tree key

-- nor does the record of an id
pub record IsClear (uploads bucket : List ℕ) (test : List ℕ → Bool) (tree : SwiftAccount) (id : List ℕ) : Type 0 where
  pub told : Option Record
  pub reads : record_found uploads id tree ≡ Ok told
  pub clear : IsRecordClear bucket test tree told

-- each id in a table is clear
abbrev pub AreClear : List ℕ → List ℕ → (List ℕ → Bool) → SwiftAccount → Names Bool → Type 0
AreClear uploads bucket test tree table = (id : List ℕ) → is_some (get table id) ≡ true → IsClear uploads bucket test tree id

-- over every observable store each id in a table is clear after a success, where it was before
abbrev pub ClearsMore : {T E : Type 0} → List ℕ → (List ℕ → Bool) → Names Bool → Names Bool → History → Result T E → Type 0
ClearsMore bucket test old_table new_table old result = IsTrue old.observable → AreClear (uploads_name bucket) bucket test (present old) old_table
    → IfOk result (λ done. AreClear (uploads_name bucket) bucket test (present old) new_table)

-- a table has the id of an item that goes
abbrev pub IsAsked : (List ℕ → Bool) → Names Bool → NameItem → Type 0
IsAsked test table item = test item.name ≡ true → is_some (get table (id_in item.name)) ≡ true

abbrev pub AreAsked : (List ℕ → Bool) → Names Bool → List NameItem → Type 0
AreAsked test table items = AllByRecursion (IsAsked test table) items

-- what a listing has behind a marker is a page, of which the ids were asked for, and what is behind it
pub record IsPageAsked (folder marker : List ℕ) (test : List ℕ → Bool) (tree : SwiftAccount) (table : Names Bool) (next : Option (List ℕ)) : Type 0 where
  pub page : List NameItem
  pub all : items_after [] marker (files tree folder) ≡ page ++ items_left folder tree next
  pub asked : AreAsked test table page

-- the ids of all files beside a bucket that go are clear
abbrev pub ClearsAll : List ℕ → List ℕ → (List ℕ → Bool) → SwiftAccount → Type 0
ClearsAll folder bucket test tree = AllByRecursion (λ (item : NameItem). test item.name ≡ true → IsClear (uploads_name bucket) bucket test tree (id_in item.name)) (items_after [] [] (files tree folder))

-- ---- what is given

-- a bucket is there, and the test is passed by just what isn't used beside it
pub record HasUnused (bucket : List ℕ) (test : List ℕ → Bool) (tree : SwiftAccount) : Type 0 where
  pub there : IsThere tree bucket
  pub unused : (name : List ℕ) → test name ≡ not (is_used tree bucket name)

-- and a file stands beside it under an id that passes
pub record HasOrphan (bucket id : List ℕ) (test : List ℕ → Bool) (tree : SwiftAccount) : Type 0 where
  pub has : HasUnused bucket test tree
  pub name : List ℕ
  pub passes : test name ≡ true
  pub of : id_in name ≡ id
  pub file : SwiftObject
  pub found : get (files tree (segments_name bucket)) name ≡ Some file

-- whose record is this
pub record HasOrphanOf (bucket id : List ℕ) (test : List ℕ → Bool) (told : Record) (tree : SwiftAccount) : Type 0 where
  pub has : HasOrphan bucket id test tree
  pub is : Some told ≡ record_at (files tree (uploads_name bucket)) id

-- an item beside it
pub record HasSegment (bucket : List ℕ) (test : List ℕ → Bool) (item : NameItem) (tree : SwiftAccount) : Type 0 where
  pub has : HasUnused bucket test tree
  pub is : IsItemOf (files tree (segments_name bucket)) item

pub record HasSegments (bucket : List ℕ) (test : List ℕ → Bool) (items : List NameItem) (tree : SwiftAccount) : Type 0 where
  pub has : HasUnused bucket test tree
  pub are : AllByRecursion (IsItemOf (files tree (segments_name bucket))) items

-- ---- how many calls

-- the record of an id, if it is there
abbrev pub TellsFound : List ℕ → List ℕ → SwiftAccount → Option Record → Type 0
TellsFound bucket id tree told = told ≡ record_at (files tree (uploads_name bucket)) id

-- nothing is told
abbrev pub TellsNothing : SwiftAccount → Unit {0} → Type 0
TellsNothing tree done = Unit {0}

-- the marker of the next page, behind which fewer are left
abbrev pub TellsNextPage : List ℕ → List ℕ → SwiftAccount → Option (List ℕ) → Type 0
TellsNextPage folder marker tree None = Unit {0}
TellsNextPage folder marker tree (Some next) = length (names_after folder next tree) + 1000 ≤ length (names_after folder marker tree)

-- a page for each 1000 files, and two calls for each id: its record, and the list of the key that it names
abbrev pub asking_calls : SwiftAccount → List ℕ → ℕ
asking_calls tree folder = pages (len (files tree folder)) + 2 * len (files tree folder)

abbrev pub asking_after : SwiftAccount → List ℕ → List ℕ → ℕ
asking_after tree folder marker = pages (length (names_after folder marker tree)) + 2 * length (names_after folder marker tree)

abbrev pub asking_left : SwiftAccount → List ℕ → Option (List ℕ) → ℕ
asking_left tree folder None = 0
asking_left tree folder (Some marker) = asking_after tree folder marker

abbrev pub left_to_ask : SwiftAccount → List ℕ → Result (Option (List ℕ)) PlanFault → ℕ
left_to_ask tree folder (Ok next) = asking_left tree folder next
left_to_ask tree folder (Err fault) = 0

-- a page is paid for
abbrev pub PaysAsking : List ℕ → List ℕ → List ℕ → (List ℕ → Bool) → History → History → Result (Option (List ℕ)) PlanFault → Type 0
PaysAsking folder bucket marker test old new result = Met (HasUnused bucket test) old → new.called + left_to_ask (present old) folder result ≤ old.called + asking_after (present old) folder marker
