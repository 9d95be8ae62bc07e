-- What is kept while names are rolled up, and what a name of a listing tells. Source: this profile.
use Rattle.std.specs.Prelude.{◌≡◌, ℕ, nat_lt, Bool, true, false, not, ◌&&◌, is_none, List, [], length, map, Option, None, Some}
use Rattle.std.specs.List.{Contains}
use Rattle.std.specs.Ordering.{is_lt}
use Rattle.gate_base.specs.Maps.{name_cmp}
use Rattle.s3_machine.specs.Items.{row_of}
use Rattle.s3_machine.specs.Step.{marker_of}
use Rattle.list_pages.specs.Rolling.{Wanted}
use Rattle.s3_machine.specs.declared.items.Item.{Item}
use Rattle.s3_machine.specs.declared.items.ItemHead.{ItemHead}
use Rattle.swift_calls.specs.declared.heads.NameItem.{NameItem}
use Rattle.swift_marks.specs.Tag.{read_stamp}
use Rattle.swift_marks.specs.declared.tag.Stamp.{Stamp}
use Rattle.list_pages.specs.Rolling.{ends}
use Rattle.s3_machine.specs.declared.items.Asked.{Asked}

-- what ListObjects wants
abbrev pub wanted : Asked → Wanted
wanted asked = record { prefix = asked.prefix; delimiter = asked.delimiter; marker = marker_of asked; max = asked.max }

-- what is wanted, the items so far, whether one more is left over, and the last name
pub record Rolls : Type 0 where
  pub wanted : Wanted
  pub items : List Item
  pub more : Bool
  pub last : List ℕ

-- an item as a row: its text, and of an object its head
abbrev pub row_view : Item → List ℕ × Option ItemHead
row_view item = (item.text, item.object)

abbrev pub rows_of : List Item → List (List ℕ × Option ItemHead)
rows_of items = map row_view items

-- the head of an object, by the stamp that its type ends in; of one without a stamp only the size is told
abbrev pub head_by : Option Stamp → ℕ → ItemHead
head_by None size = record { etag = []; modified = 0; size = size }
head_by (Some stamp) size = record { etag = stamp.etag; modified = stamp.moment; size = size }

abbrev pub head_in : NameItem → ItemHead
head_in item = head_by (read_stamp item.content_type) item.size

-- a name with the head of its object
abbrev pub seen_of : NameItem → List ℕ × ItemHead
seen_of item = (item.name, head_in item)

-- what stands under a text, by whether it rolled up
abbrev pub under_of : {H : Type 0} → Bool → H → Option H
under_of true h = None
under_of false h = Some h

-- a row comes after the marker, behind the rows so far, and there is room for it
abbrev pub is_new : Rolls → List ℕ × Option ItemHead → Bool
is_new rolls row = not rolls.more && is_lt (name_cmp rolls.wanted.marker row.0) && not (ends row.0 (rows_of rolls.items))
    && nat_lt (length rolls.items) rolls.wanted.max

abbrev pub is_single : List ℕ × Option ItemHead → Bool
is_single row = not (is_none row.1)

-- an object is to be shown: its name doesn't roll up, and its row is new
abbrev pub is_to_show : Rolls → NameItem → Bool
is_to_show rolls item =
    let row = row_of rolls.wanted.prefix rolls.wanted.delimiter (seen_of item) in
    is_single row && is_new rolls row

-- an object is to be shown, and its type ends in no stamp
pub record IsUntagged (rolls : Rolls) (item : NameItem) : Type 0 where
  pub shown : is_to_show rolls item ≡ true
  pub bare : read_stamp item.content_type ≡ None

-- the type of one of these objects ends in no stamp
abbrev pub HasUntagged : List NameItem → Type 0
HasUntagged items = (item : NameItem) × Contains items item × (read_stamp item.content_type ≡ None)
