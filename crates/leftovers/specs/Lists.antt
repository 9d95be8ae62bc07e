-- What a list of segments has to be before it is taken for what an object has, and what is held of it over every observable store.
-- Source: Object Storage API v1, "Static large objects", and this profile.
use Rattle.std.specs.Prelude.{◌≡◌, ◌==◌, ◌&&◌, ◌||◌, ℕ, Bool, true, false, IsTrue, nat_le, bytes_eq, get_or, List, [], ◌∷◌, ◌++◌, drop, length, sum_by, is_some, cond, Option, None, Some, Result, Ok, Err, IfOk}
use Rattle.std.specs.Option.{option_and_then}
use Rattle.std.specs.List.{AllByRecursion, list_all}
use Rattle.std.specs.Ordering.{is_lt}
use Rattle.std.specs.FinMap.{get}
use Rattle.gate_base.specs.Ascii.{is_digit}
use Rattle.gate_base.specs.Maps.{Names, name_cmp}
use Rattle.s3_machine.specs.ETag.{body_etag}
use Rattle.s3_names.specs.Id.{id_digits}
use Rattle.slo_manifest.specs.declared.Segment.{Segment}
use Rattle.swift_calls.specs.Account.{SwiftObject, SwiftAccount, files, find_object}
use Rattle.swift_calls.specs.History.{History, present}
use Rattle.swift_calls.specs.Step.{get_reply}
use Rattle.swift_calls.specs.declared.account.Content.TheVariants.{Segments}
use Rattle.swift_calls.specs.declared.heads.NameItem.{NameItem}
use Rattle.swift_marks.specs.Tag.{read_stamp}
use Rattle.swift_marks.specs.declared.tag.Stamp.{Stamp}
use Rattle.upload_texts.specs.declared.record.Record.{Record}
use Rattle.upload_records.specs.Layout.{segments_name}
use Rattle.account_calls.specs.FilePages.{items_after, TellsFiles}
use Rattle.account_calls.specs.declared.fault.PlanFault.{PlanFault}
use Rattle.account_calls.specs.declared.fault.PlanFault.TheVariants as fault
use Rattle.leftovers.specs.Leftovers.{id_in, is_open, is_sub_manifest_name}
use Rattle.leftovers.specs.Records.{listed_record_due}
use Rattle.leftovers.specs.declared.gathering.Source.{Source}
use Rattle.leftovers.specs.declared.gathering.Source.TheVariants.{Records, Objects}

-- ---- a list that says what it should

-- the name of a part under the text of an id: the id, a slash and five digits
abbrev pub is_part_name : List ℕ → List ℕ → Bool
is_part_name id name = length name == 38 && (bytes_eq (id_in name) id && (get_or name 32 0 == 47 && list_all is_digit (drop 33 name)))

-- that of a sub-manifest: the id, a slash, `m` and five digits
abbrev pub is_sub_name : List ℕ → List ℕ → Bool
is_sub_name id name = length name == 39 && (bytes_eq (id_in name) id && (get_or name 32 0 == 47 && (is_sub_manifest_name name && list_all is_digit (drop 34 name))))

-- the list of an object may have both, that of a sub-manifest parts alone
abbrev pub is_entry_name : Bool → List ℕ → List ℕ → Bool
is_entry_name true id name = is_part_name id name || is_sub_name id name
is_entry_name false id name = is_part_name id name

-- an entry of a list under an id: it stands in this container, by such a name
abbrev pub is_entry : Bool → List ℕ → List ℕ → Segment → Bool
is_entry subs folder id s = bytes_eq s.container folder && is_entry_name subs id s.name

-- the names ascend strictly in the order of their bytes, the first behind this one: of names of one form so do the numbers
abbrev pub names_rise : List ℕ → List Segment → Bool
names_rise last [] = true
names_rise last (s ∷ list) = is_lt (name_cmp last s.name) && names_rise s.name list

abbrev pub size_of_list : List Segment → ℕ
size_of_list list = sum_by (λ (s : Segment). s.size) list

-- a list of so many bytes under an id: it isn't empty, each entry stands in the container under the id, their numbers rise, and their
-- sizes add up
abbrev pub is_whole_list : Bool → List ℕ → List ℕ → ℕ → List Segment → Bool
is_whole_list subs folder id size list = nat_le 1 (length list) && (list_all (is_entry subs folder id) list && (names_rise [] list && (size_of_list list == size)))

-- ---- what the item of an object says

abbrev pub id_in_stamp : Stamp → Option ℕ
id_in_stamp stamp = stamp.id

-- the id of the upload that it is of, if it is of one
abbrev pub item_id : NameItem → Option ℕ
item_id item = option_and_then id_in_stamp (read_stamp item.content_type)

-- it has no byte: a size of 0, and the MD5 of no byte
abbrev pub is_empty_item : NameItem → Bool
is_empty_item item = item.size == 0 && bytes_eq item.hash (body_etag [])

-- an item of size 0 whose hash is another lists nothing that could be had
abbrev pub nothing_due : NameItem → Result (List Segment) PlanFault
nothing_due item = cond (bytes_eq item.hash (body_etag [])) (Ok []) (Err fault.Inconsistent)

-- ---- what is held, over every observable store, whether its account is consistent or not

-- the file of a name is there, and lists these segments
pub record IsListThere (container name : List ℕ) (tree : SwiftAccount) (list : List Segment) : Type 0 where
  pub file : SwiftObject
  pub found : find_object tree container name ≡ Some file
  pub lists : file.content ≡ Segments list

-- the same after a success
abbrev pub SaysListing : List ℕ → List ℕ → History → Result (List Segment) PlanFault → Type 0
SaysListing container name old result = IsTrue old.observable → IfOk result (IsListThere container name (present old))

-- and it is a whole list of the size of the item, under the id
pub record IsWholeList (bucket : List ℕ) (id : ℕ) (item : NameItem) (tree : SwiftAccount) (list : List Segment) : Type 0 where
  pub there : IsListThere bucket item.name tree list
  pub whole : is_whole_list true (segments_name bucket) (id_digits id) item.size list ≡ true

-- an object that is of an upload, and has a byte, by its item
abbrev pub IsListOfId : Option ℕ → List ℕ → NameItem → SwiftAccount → List Segment → Type 0
IsListOfId None bucket item tree list = Unit {0}
IsListOfId (Some id) bucket item tree list = is_empty_item item ≡ false → IsWholeList bucket id item tree list

-- an item has a stamp
abbrev pub IsListByStamp : Option Stamp → List ℕ → NameItem → SwiftAccount → List Segment → Type 0
IsListByStamp None bucket item tree list = ⊥
IsListByStamp (Some stamp) bucket item tree list = IsListOfId stamp.id bucket item tree list

abbrev pub SaysObject : List ℕ → NameItem → History → Result (List Segment) PlanFault → Type 0
SaysObject bucket item old result = IsTrue old.observable → IfOk result (IsListByStamp (read_stamp item.content_type) bucket item (present old))

abbrev pub SaysOfId : List ℕ → ℕ → NameItem → History → Result (List Segment) PlanFault → Type 0
SaysOfId bucket id item old result = IsTrue old.observable → IfOk result (IsListOfId (Some id) bucket item (present old))

-- ---- a table that holds it

-- what stood in a table still does
pub record Stays (old new : Names Bool) : Type 0 where
  pub so : (text : List ℕ) → is_some (get old text) ≡ true → is_some (get new text) ≡ true

-- the table has the name of a segment
abbrev pub HasName : Names Bool → Segment → Type 0
HasName table s = is_some (get table s.name) ≡ true

-- a sub-manifest that a list has is there, with a whole list of its size under the id of its name
pub record IsInnerList (bucket : List ℕ) (s : Segment) (tree : SwiftAccount) (list : List Segment) : Type 0 where
  pub there : IsListThere (segments_name bucket) s.name tree list
  pub whole : is_whole_list false (segments_name bucket) (id_in s.name) s.size list ≡ true

-- and the table has each name of it
pub record IsInnerHeld (bucket : List ℕ) (s : Segment) (tree : SwiftAccount) (table : Names Bool) : Type 0 where
  pub inner : List Segment
  pub is : IsInnerList bucket s tree inner
  pub held : AllByRecursion (HasName table) inner

abbrev pub SaysInner : List ℕ → Segment → History → Result (List Segment) PlanFault → Type 0
SaysInner bucket s old result = IsTrue old.observable → IfOk result (IsInnerList bucket s (present old))

-- the table has the name of a segment and, of a sub-manifest, those that it lists
pub record IsHeld (bucket : List ℕ) (tree : SwiftAccount) (table : Names Bool) (s : Segment) : Type 0 where
  pub named : HasName table s
  pub inner : is_sub_manifest_name s.name ≡ true → IsInnerHeld bucket s tree table

abbrev pub AreHeld : List ℕ → SwiftAccount → Names Bool → List Segment → Type 0
AreHeld bucket tree table list = AllByRecursion (IsHeld bucket tree table) list

-- of an object the list is there, and the table has its names
pub record IsObjectHeld (bucket : List ℕ) (id : ℕ) (item : NameItem) (tree : SwiftAccount) (table : Names Bool) : Type 0 where
  pub list : List Segment
  pub is : IsWholeList bucket id item tree list
  pub held : AreHeld bucket tree table list

abbrev pub IsObjectHeldById : Option ℕ → List ℕ → NameItem → SwiftAccount → Names Bool → Type 0
IsObjectHeldById None bucket item tree table = Unit {0}
IsObjectHeldById (Some id) bucket item tree table = is_empty_item item ≡ false → IsObjectHeld bucket id item tree table

abbrev pub IsObjectHeldByStamp : Option Stamp → List ℕ → NameItem → SwiftAccount → Names Bool → Type 0
IsObjectHeldByStamp None bucket item tree table = ⊥
IsObjectHeldByStamp (Some stamp) bucket item tree table = IsObjectHeldById stamp.id bucket item tree table

-- what GET of the file of a record comes to
abbrev pub record_told : List ℕ → List ℕ → SwiftAccount → Result Record PlanFault
record_told folder name tree = listed_record_due (get_reply (find_object tree) None (find_object tree folder name))

abbrev pub SaysRecord : List ℕ → List ℕ → History → Result Record PlanFault → Type 0
SaysRecord folder name old result = IsTrue old.observable → IfOk result (λ told. record_told folder name (present old) ≡ Ok told)

abbrev pub SaysOpen : List ℕ → List ℕ → History → Result Bool PlanFault → Type 0
SaysOpen folder name old result = IsTrue old.observable → IfOk result (λ opened. (told : Record) × (record_told folder name (present old) ≡ Ok told) × (opened ≡ is_open (Some told)))

-- a file beside a bucket is a record, and the table has its name, where it is that of an open upload
pub record IsRecordHeld (folder name : List ℕ) (tree : SwiftAccount) (table : Names Bool) : Type 0 where
  pub told : Record
  pub reads : record_told folder name tree ≡ Ok told
  pub held : is_open (Some told) ≡ true → is_some (get table name) ≡ true

-- what a listing says of a file is held
abbrev pub IsItemHeld : Source → List ℕ → List ℕ → SwiftAccount → Names Bool → NameItem → Type 0
IsItemHeld Records folder bucket tree table item = IsRecordHeld folder item.name tree table
IsItemHeld Objects folder bucket tree table item = IsObjectHeldByStamp (read_stamp item.content_type) bucket item tree table

abbrev pub AreItemsHeld : Source → List ℕ → List ℕ → SwiftAccount → Names Bool → List NameItem → Type 0
AreItemsHeld source folder bucket tree table items = AllByRecursion (IsItemHeld source folder bucket tree table) items

-- of all files of a container, as they are listed, after a success
abbrev pub HoldsAll : {E : Type 0} → Source → List ℕ → List ℕ → History → Result (Names Bool) E → Type 0
HoldsAll source folder bucket old result = IsTrue old.observable
    → IfOk result (λ table. AreItemsHeld source folder bucket (present old) table (items_after [] [] (files (present old) folder)))

-- a page of the files of a container, after a success
abbrev pub SaysFiles : {E : Type 0} → List ℕ → List ℕ → History → Result (List NameItem) E → Type 0
SaysFiles folder marker old result = IsTrue old.observable → IfOk result (TellsFiles folder [] marker (present old))

-- what a listing has behind the marker of the next page
abbrev pub items_left : List ℕ → SwiftAccount → Option (List ℕ) → List NameItem
items_left folder tree None = []
items_left folder tree (Some marker) = items_after [] marker (files tree folder)

-- what a listing has behind a marker is a page, which is held, and what is behind it
pub record IsPageHeld (source : Source) (folder bucket marker : List ℕ) (tree : SwiftAccount) (table : Names Bool) (next : Option (List ℕ)) : Type 0 where
  pub page : List NameItem
  pub all : items_after [] marker (files tree folder) ≡ page ++ items_left folder tree next
  pub held : AreItemsHeld source folder bucket tree table page
