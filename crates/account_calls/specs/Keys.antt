-- The keys of a bucket, as a listing of its container tells them page by page, and what ListObjects gives of them. Source:
-- Object Storage API v1, "Show container details and list objects", and this profile.
use Rattle.std.specs.Prelude.{◌≡◌, ◌≤◌, ◌<◌, ◌+◌, ℕ, Bool, true, false, not, List, map, length, take, Option, None, Some}
use Rattle.std.specs.List.{filter}
use Rattle.std.specs.Ordering.{is_lt}
use Rattle.std.specs.FinMap.{entries, get, empty}
use Rattle.gate_base.specs.Maps.{Names, name_cmp}
use Rattle.s3_machine.specs.Items.{behind, with_prefix}
use Rattle.s3_machine.specs.Limits.{is_listing_text}
use Rattle.s3_machine.specs.State.{Object, Bucket, State}
use Rattle.s3_machine.specs.Step.{listed_key}
use Rattle.s3_machine.specs.declared.items.Asked.{Asked}
use Rattle.s3_machine.specs.declared.items.Item.{Item}
use Rattle.s3_machine.specs.declared.items.ItemHead.{ItemHead}
use Rattle.swift_calls.specs.Account.{SwiftAccount}
use Rattle.swift_calls.specs.declared.heads.NameItem.{NameItem}
use Rattle.upload_records.specs.Native.{s3_state}
use Rattle.list_pages.specs.Jumps.{next_marker}
use Rattle.list_pages.specs.Rolling.{Rolled, UpTo, first_rows}
use Rattle.list_pages.specs.Rolls.{Rolls, HasUntagged, rows_of, seen_of, wanted}
use Rattle.list_pages.specs.declared.page.TheConstants.{MOST_NAMES}

-- the objects of a bucket, none where it is missing
abbrev pub objects_in : Option Bucket → Names Object
objects_in None = empty
objects_in (Some b) = b.objects

-- the keys of a bucket that begin with a prefix, in the order of their bytes, each with its object's head
abbrev pub keys_with : List ℕ → List ℕ → State → List (List ℕ × ItemHead)
keys_with bucket prefix state = with_prefix prefix (map listed_key (entries (objects_in (get state bucket))))

-- a page of them after a marker; each type ends in the stamp of a tag
pub record TellsKeys (bucket prefix marker : List ℕ) (tree : SwiftAccount) (told : List NameItem) : Type 0 where
  pub keys : map seen_of told ≡ take MOST_NAMES (behind marker (keys_with bucket prefix (s3_state tree)))
  pub tagged : HasUntagged told → ⊥

-- ListObjects: the items, and whether one is left over
abbrev pub TellsListing : List ℕ → Asked → State → List Item × Bool → Type 0
TellsListing bucket asked state told = (rows_of told.0, told.1) ≡ first_rows (wanted asked) (keys_with bucket asked.prefix state)

-- the keys up to a marker
abbrev pub up_to : {H : Type 0} → List ℕ → List (List ℕ × H) → List (List ℕ × H)
up_to marker keys = filter (λ key. not (is_lt (name_cmp marker key.0))) keys

-- these keys were rolled up
abbrev pub HasRolled : Rolls → List (List ℕ × ItemHead) → Type 0
HasRolled rolls seen = Rolled rolls.wanted (rows_of rolls.items) rolls.more seen

-- the next page is asked for behind a name, or behind the keys of its common prefix; the name is the marker or comes after it
pub record StandsBehind (rolls : Rolls) : Type 0 where
  pub name : List ℕ
  pub is_text : is_listing_text name ≡ true
  pub from : UpTo rolls.wanted.marker name
  pub last : rolls.last ≡ next_marker rolls.wanted.prefix rolls.wanted.delimiter name

-- a page was taken, and more are wanted: all keys are rolled up as far as the next page begins, fewer are left behind that, and
-- another item is shown
pub record GoesOnWith (keys : List (List ℕ × ItemHead)) (old new : Rolls) : Type 0 where
  pub rolled : HasRolled old (up_to old.last keys) → HasRolled new (up_to new.last keys)
  pub fewer : length (behind new.last keys) + MOST_NAMES ≤ length (behind old.last keys)
  pub shows : HasRolled old (up_to old.last keys) → length old.items < length new.items

-- a page was taken; what is told is whether another is wanted
abbrev pub TellsTaken : List ℕ → List ℕ → Rolls → Rolls → SwiftAccount → Bool → Type 0
TellsTaken bucket prefix old new tree true = GoesOnWith (keys_with bucket prefix (s3_state tree)) old new
TellsTaken bucket prefix old new tree false = HasRolled old (up_to old.last (keys_with bucket prefix (s3_state tree)))
    → HasRolled new (keys_with bucket prefix (s3_state tree))
