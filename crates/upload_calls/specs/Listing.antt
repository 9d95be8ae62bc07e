-- The parts of an upload and the ids of a bucket's records, as listings of the containers beside the bucket tell them page by
-- page. Source: Object Storage API v1, "Show container details and list objects", and this profile.
use Rattle.std.specs.Prelude.{◌≡◌, ◌≤◌, ⊤, ℕ, ◌+◌, ◌==◌, ◌&&◌, List, [], ◌++◌, length, take, drop, cond, bytes_eq, Contains, Option, None, Some, Result, Ok, Err}
use Rattle.std.specs.List.{filter_map, list_all}
use Rattle.std.specs.Str.Parse.{digits_value}
use Rattle.gate_base.specs.Ascii.{is_digit}
use Rattle.s3_names.specs.Id.{id_of}
use Rattle.s3_machine.specs.declared.items.PartItem.{PartItem}
use Rattle.swift_calls.specs.Account.{SwiftAccount, files}
use Rattle.swift_calls.specs.declared.heads.NameItem.{NameItem}
use Rattle.swift_marks.specs.Tag.{read_stamp}
use Rattle.swift_marks.specs.declared.tag.Stamp.{Stamp}
use Rattle.list_pages.specs.declared.page.TheConstants.{MOST_NAMES}
use Rattle.upload_records.specs.Layout.{uploads_name}
use Rattle.account_calls.specs.FilePages.{items_after, rows_after}
use Rattle.account_calls.specs.declared.fault.PlanFault.{PlanFault}
use Rattle.account_calls.specs.declared.fault.PlanFault.TheVariants.{Failed, Memory, Inconsistent}

-- ---- the part of an item

-- the number that five digits write
abbrev pub digits_in : List ℕ → Option ℕ
digits_in text = cond (length text == 5 && list_all is_digit text) (Some (digits_value 10 text)) None

-- the number whose five digits stand behind a prefix
abbrev pub number_in : List ℕ → List ℕ → Option ℕ
number_in prefix name = cond (bytes_eq (take (length prefix) name) prefix) (digits_in (drop (length prefix) name)) None

abbrev pub part_from : Option ℕ → Option Stamp → ℕ → Option PartItem
part_from None stamp size = None
part_from (Some number) None size = None
part_from (Some number) (Some stamp) size = Some (record { number = number; etag = stamp.etag; modified = stamp.moment; size = size })

-- the part that an item of a listing tells: its number by its name, its ETag and moment by the end of its type
unfoldable pub part_due : List ℕ → NameItem → Option PartItem
part_due prefix item = part_from (number_in prefix item.name) (read_stamp item.content_type) item.size

-- what reading it answers; memory may run out for any item
abbrev pub ReadsPart : Option PartItem → Result PartItem PlanFault → Type 0
ReadsPart due (Ok part) = due ≡ Some part
ReadsPart due (Err Failed) = ⊥
ReadsPart due (Err Memory) = ⊤
ReadsPart due (Err Inconsistent) = due ≡ None

-- ---- what the items of a container tell, page by page

-- an item tells nothing
pub record HasOdd {X : Type 0} (due : NameItem → Option X) (items : List NameItem) : Type 0 where
  pub item : NameItem
  pub has : Contains items item
  pub odd : due item ≡ None

-- what the items of a page tell was added
abbrev pub Adds : {X : Type 0} → (NameItem → Option X) → List X → List X → List NameItem → Result (Unit {0}) PlanFault → Type 0
Adds due old new page (Ok done) = new ≡ old ++ filter_map due page
Adds due old new page (Err Failed) = ⊥
Adds due old new page (Err Memory) = ⊤
Adds due old new page (Err Inconsistent) = HasOdd due page

-- what the items after a marker tell
abbrev pub told_after : {X : Type 0} → (NameItem → Option X) → List ℕ → List ℕ → List ℕ → SwiftAccount → List X
told_after due folder prefix marker tree = filter_map due (items_after prefix marker (files tree folder))

-- a page was added: what is told after its marker is there, or so far as to the next one, behind which fewer are left
pub record GoesOnWith {X : Type 0} (due : NameItem → Option X) (folder prefix marker next : List ℕ) (old new : List X) (tree : SwiftAccount) : Type 0 where
  pub all : new ++ told_after due folder prefix next tree ≡ old ++ told_after due folder prefix marker tree
  pub fewer : length (rows_after prefix next (files tree folder)) + MOST_NAMES ≤ length (rows_after prefix marker (files tree folder))

-- what is told is the marker of the next page, and none after the last one
abbrev pub TellsNext : {X : Type 0} → (NameItem → Option X) → List ℕ → List ℕ → List ℕ → List X → List X → SwiftAccount → Option (List ℕ) → Type 0
TellsNext due folder prefix marker old new tree None = new ≡ old ++ told_after due folder prefix marker tree
TellsNext due folder prefix marker old new tree (Some next) = GoesOnWith due folder prefix marker next old new tree

-- ---- the ids of the records of a bucket

-- the id that the name of a record writes
abbrev pub id_due : NameItem → Option ℕ
id_due item = id_of item.name

-- all of them
abbrev pub ids_in : List ℕ → SwiftAccount → List ℕ
ids_in bucket tree = told_after id_due (uploads_name bucket) [] [] tree

abbrev pub TellsIds : List ℕ → SwiftAccount → List ℕ → Type 0
TellsIds bucket tree told = told ≡ ids_in bucket tree
