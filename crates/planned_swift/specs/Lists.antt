-- An account as it is declared, by lists, after a call with effect. Source: Object Storage API v1.
use Rattle.std.specs.Prelude.{ℕ, ◌^◌, List, [], ◌∷◌, length, Bool, true, false, cond, not, nat_lt, IsTrue, Option, None, Some}
use Rattle.std.specs.List.{filter, list_all}
use Rattle.gate_base.specs.Named.{has_name, named, placed, changed}
use Rattle.swift_calls.specs.Account.{file_of, find_object}
use Rattle.planned_swift.specs.Accounts.{tree_of, is_sized_object, IsSized, IsOrdered}
use Rattle.swift_calls.specs.Bodies.{Look, is_good_list, item_of}
use Rattle.swift_calls.specs.declared.heads.NameItem.{NameItem}
use Rattle.swift_calls.specs.declared.account.ReadList.{ReadList}
use Rattle.swift_calls.specs.declared.account.Content.TheVariants.{Plain, Segments}
use Rattle.swift_calls.specs.declared.account.Stored.{Stored}
use Rattle.planned_swift.specs.declared.account.Container.{Container}
use Rattle.planned_swift.specs.declared.account.Account.{Account}
use Rattle.swift_calls.specs.Step.{is_taken}
use Rattle.swift_calls.specs.declared.calls.FilePut.{FilePut}
use Rattle.swift_calls.specs.declared.calls.SwiftRequest.{SwiftRequest}
use Rattle.swift_calls.specs.declared.calls.SwiftRequest.TheVariants.{
  ListContainers,
  HeadContainer,
  PutContainer,
  PostContainer,
  DeleteContainer,
  ListNames,
  PutObject,
  PutManifest,
  HeadObject,
  GetObject,
  GetManifest,
  DeleteObject,
}

abbrev pub name_of : Container → List ℕ
name_of c = c.name

abbrev pub object_name : Stored → List ℕ
object_name s = s.name

-- the things of other names
unfoldable pub without : {A : Type 0} → (A → List ℕ) → List ℕ → List A → List A
without name n things = filter (λ a. not (has_name name n a)) things

abbrev pub stored_in : List ℕ → Option Container → Option Stored
stored_in name None = None
stored_in name (Some c) = named object_name name c.objects

-- the object of a name in the container of a name
abbrev pub stored : List ℕ → List ℕ → List Container → Option Stored
stored container name cs = stored_in name (named name_of container cs)

abbrev pub listed : List Container → Account
listed cs = record { containers = cs }

-- the objects of containers by container and name
abbrev pub look_in : List Container → Look
look_in cs = find_object (tree_of (listed cs))

-- the object that a PUT of bytes puts
abbrev pub stored_of : FilePut → Stored
stored_of put = record { name = put.name; content_type = put.content_type; meta = put.meta; content = Plain put.body }

-- an object in a listing
abbrev pub stored_item : Stored → NameItem
stored_item s = item_of s.name (file_of s)

abbrev pub AreSizedObjects : List Stored → Type 0
AreSizedObjects objects = IsTrue (list_all is_sized_object objects)

abbrev pub AreSized : List Container → Type 0
AreSized cs = IsSized (listed cs)

abbrev pub AreOrdered : List Container → Type 0
AreOrdered cs = IsOrdered (listed cs)

-- ---- a container changed

-- a container with its read list and creation time written over
abbrev pub with_readers : ReadList → Option ℕ → Container → Container
with_readers readers created c = record c { readers = readers; created = created }

-- a container with its read list written over
abbrev pub with_list : ReadList → Container → Container
with_list readers c = record c { readers = readers }

-- a container with an object put in its place
abbrev pub with_object : Stored → Container → Container
with_object s c = record c { objects = placed object_name s c.objects }

-- a container without the object of a name
abbrev pub without_object : List ℕ → Container → Container
without_object name c = record c { objects = without object_name name c.objects }

-- ---- the containers after a call

-- a new container without objects, in its place, or the one that is there written over
abbrev pub with_container : Option Container → List ℕ → ReadList → Option ℕ → List Container → List Container
with_container None name readers created cs = placed name_of (record { name = name; readers = readers; created = created; objects = [] }) cs
with_container (Some c) name readers created cs = changed name_of name (with_readers readers created) cs

abbrev pub is_nil : {A : Type 0} → List A → Bool
is_nil [] = true
is_nil (a ∷ rest) = false

-- an empty container goes
abbrev pub without_container : Option Container → List ℕ → List Container → List Container
without_container None name cs = cs
without_container (Some c) name cs = cond (is_nil c.objects) (without name_of name cs) cs

-- the account after a call with effect
abbrev pub served : SwiftRequest → Account → Account
served (ListContainers marker limit) account = account
served (HeadContainer container) account = account
served (PutContainer container readers created) account =
    record { containers = with_container (named name_of container account.containers) container readers created account.containers }
served (PostContainer container readers) account = record { containers = changed name_of container (with_list readers) account.containers }
served (DeleteContainer container) account = record { containers = without_container (named name_of container account.containers) container account.containers }
served (ListNames container prefix marker limit) account = account
served (PutObject put) account =
    cond (is_taken put.fresh (stored put.container put.name account.containers)) account (record { containers = changed name_of put.container (with_object (stored_of put)) account.containers })
served (PutManifest container name content_type meta segments) account =
    let object : Stored = record { name = name; content_type = content_type; meta = meta; content = Segments segments } in
    cond (is_good_list (look_in account.containers) segments) (record { containers = changed name_of container (with_object object) account.containers }) account
served (HeadObject container name) account = account
served (GetObject container name range) account = account
served (GetManifest container name) account = account
served (DeleteObject container name) account = record { containers = changed name_of container (without_object name) account.containers }

-- a body that a call puts is below 2^63 bytes
abbrev pub is_small : SwiftRequest → Bool
is_small (ListContainers marker limit) = true
is_small (HeadContainer container) = true
is_small (PutContainer container readers created) = true
is_small (PostContainer container readers) = true
is_small (DeleteContainer container) = true
is_small (ListNames container prefix marker limit) = true
is_small (PutObject put) = nat_lt (length put.body) (2 ^ 63)
is_small (PutManifest container name content_type meta segments) = true
is_small (HeadObject container name) = true
is_small (GetObject container name range) = true
is_small (GetManifest container name) = true
is_small (DeleteObject container name) = true
