-- What the calls of a shelf tell and do, in the words of a store's step. Source: Object Storage API v1; that a shelf may
-- fail is this profile's.
use Rattle.std.specs.Prelude.{◌≡◌, ◌⊎◌, ℕ, Bool, ◌&&◌, nat_le, cond, List, [], slice_range, length, Option, None, Some, Result, Ok, Err, IsTrue, IfOk, IsErrOf}
use Rattle.std.specs.FinMap.{entries, get}
use Rattle.gate_base.specs.Causes.{Rose}
use Rattle.gate_base.specs.Maps.{Names}
use Rattle.swift_calls.specs.Account.{SwiftAccount, SwiftContainer, SwiftObject}
use Rattle.swift_calls.specs.Bodies.{item_of}
use Rattle.swift_calls.specs.Step.{page, is_listed, put_container as put_container_step}
use Rattle.swift_calls.specs.declared.account.ReadList.{ReadList}
use Rattle.swift_calls.specs.declared.account.Content.{Content}
use Rattle.swift_calls.specs.declared.account.Content.TheVariants.{Plain, Segments}
use Rattle.swift_calls.specs.declared.account.Stored.{Stored}
use Rattle.swift_calls.specs.declared.heads.NameItem.{NameItem}
use Rattle.swift_store.specs.declared.faults.StoreFault.{StoreFault}
use Rattle.swift_store.specs.declared.faults.StoreFault.TheVariants.{Failed, Memory}

-- what a shelf tells of itself: whether it never fails, its count of faults, whether it tells the account, and this
pub record ShelfModel : Type 0 where
  pub sure : Bool
  pub faults : ℕ
  pub observable : Bool
  pub account : SwiftAccount

-- the count of faults rises exactly where a call failed
abbrev pub CountsStoreFaults : {A : Type 0} → ℕ → ℕ → Result A StoreFault → Type 0
CountsStoreFaults before now (Ok value) = now ≡ before
CountsStoreFaults before now (Err Failed) = Rose before now
CountsStoreFaults before now (Err Memory) = now ≡ before

-- what each call keeps: the count of faults rises exactly where it failed, a shelf that never fails stays so, and one is
-- observable after it exactly where it was before
pub record ShelfKeeps {A : Type 0} (old : ShelfModel) (result : Result A StoreFault) (new : ShelfModel) : Type 0 where
  pub faults : CountsStoreFaults old.faults new.faults result
  pub sure : IsTrue old.sure → IsTrue new.sure
  pub never : IsTrue old.sure → IsErrOf result Failed → ⊥
  pub observable : IsTrue old.observable → IsTrue new.observable
  pub told : IsTrue new.observable → IsTrue old.observable

-- a call that reads: it leaves the account, and what it answers is told of it
pub record ShelfReads {A : Type 0} (told : SwiftAccount → A → Type 0) (old : ShelfModel) (result : Result A StoreFault) (new : ShelfModel) : Type 0 where
  pub keeps : ShelfKeeps old result new
  pub same : IsTrue old.observable → new.account ≡ old.account
  pub effect : IsTrue old.observable → IfOk result (told old.account)

-- a call that writes: where it failed it changed nothing or all, and where memory ran out nothing
abbrev pub Writes : {A : Type 0} → SwiftAccount → SwiftAccount → SwiftAccount → Result A StoreFault → Type 0
Writes old written new (Ok value) = new ≡ written
Writes old written new (Err Failed) = (new ≡ old) ⊎ (new ≡ written)
Writes old written new (Err Memory) = new ≡ old

pub record ShelfWrites {A : Type 0} (written : SwiftAccount → SwiftAccount) (old : ShelfModel) (result : Result A StoreFault) (new : ShelfModel) : Type 0 where
  pub keeps : ShelfKeeps old result new
  pub effect : IsTrue old.observable → Writes old.account (written old.account) new.account result

-- ---- what is told

-- the read list and the creation time of a container
abbrev pub container_head : SwiftContainer → ReadList × Option ℕ
container_head c = (c.readers, c.created)

-- a page of the names of containers
abbrev pub map_shelf_container_page : ℕ → List ℕ → SwiftAccount → List (List ℕ)
map_shelf_container_page limit marker account = page limit (λ e. e.0) (λ e. is_listed [] marker e.0) (entries account)

-- a page of a container's objects
abbrev pub object_page : ℕ → List ℕ → List ℕ → Names SwiftObject → List NameItem
object_page limit prefix marker objects = page limit (λ e. item_of e.0 e.1) (λ e. is_listed prefix marker e.0) (entries objects)

-- the bytes from one place to another, none where these aren't within
abbrev pub part : ℕ → ℕ → List ℕ → List ℕ
part from end bytes = cond (nat_le from end && nat_le end (length bytes)) (slice_range bytes from end) []

-- of an object's own bytes
abbrev pub part_of_content : ℕ → ℕ → Content → List ℕ
part_of_content from end (Plain bytes) = part from end bytes
part_of_content from end (Segments segments) = []

abbrev pub part_of : ℕ → ℕ → Option SwiftObject → List ℕ
part_of from end None = []
part_of from end (Some object) = part_of_content from end object.content

-- an account with a container made, or its read list and creation time written over
abbrev pub with_container : List ℕ → ReadList → Option ℕ → SwiftAccount → SwiftAccount
with_container name readers created account = (put_container_step (get account name) name readers created account).tree

abbrev pub object_of : Stored → SwiftObject
object_of s = record { content_type = s.content_type; meta = s.meta; content = s.content }
