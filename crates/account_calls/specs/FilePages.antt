-- A page of the files of any container, as a listing of it tells them. Source: Object Storage API v1, "Show container details and
-- list objects", and this profile.
use Rattle.std.specs.Prelude.{◌≡◌, ℕ, ◌-◌, nat_lt, slice_get, List, map, length, take, cond, Option, None}
use Rattle.std.specs.FinMap.{entries}
use Rattle.gate_base.specs.Maps.{Names}
use Rattle.s3_machine.specs.Items.{behind, with_prefix}
use Rattle.swift_calls.specs.Account.{SwiftObject, SwiftAccount, files}
use Rattle.swift_calls.specs.Bodies.{item_of}
use Rattle.swift_calls.specs.declared.heads.NameItem.{NameItem}
use Rattle.list_pages.specs.declared.page.TheConstants.{MOST_NAMES}

abbrev pub item_at : List ℕ × SwiftObject → NameItem
item_at e = item_of e.0 e.1

-- the files whose names begin with a prefix and come after a marker, in the order of the names, and the items of them
abbrev pub rows_after : List ℕ → List ℕ → Names SwiftObject → List (List ℕ × SwiftObject)
rows_after prefix marker fs = behind marker (with_prefix prefix (entries fs))

abbrev pub items_after : List ℕ → List ℕ → Names SwiftObject → List NameItem
items_after prefix marker fs = map item_at (rows_after prefix marker fs)

-- a page of them
pub record TellsFiles (folder prefix marker : List ℕ) (tree : SwiftAccount) (told : List NameItem) : Type 0 where
  pub items : told ≡ take MOST_NAMES (items_after prefix marker (files tree folder))

-- the marker of the next page, by the names of a page: a shorter page is the last one
abbrev pub next_after : List (List ℕ) → Option (List ℕ)
next_after names = cond (nat_lt (length names) MOST_NAMES) None (slice_get names (length names - 1))
