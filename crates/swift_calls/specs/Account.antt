-- An account as maps by names: its containers, and the objects of each. Source: Object Storage API v1.
use Rattle.std.specs.Prelude.{ℕ, List, length, sum_by, Option, None, Some}
use Rattle.std.specs.FinMap.{empty, get, insert, remove}
use Rattle.gate_base.specs.Maps.{Names, adjust}
use Rattle.swift_calls.specs.declared.account.ReadList.{ReadList}
use Rattle.swift_calls.specs.declared.account.Content.{Content}
use Rattle.swift_calls.specs.declared.account.Content.TheVariants.{Plain, Segments}
use Rattle.swift_calls.specs.declared.account.Stored.{Stored}

-- an object, but for its name
pub record SwiftObject : Type 0 where
  pub content_type : List ℕ
  pub meta : List (List ℕ)
  pub content : Content

-- a container, but for its name
pub record SwiftContainer : Type 0 where
  pub readers : ReadList
  pub created : Option ℕ
  pub files : Names SwiftObject

-- an account
abbrev pub SwiftAccount : Type 0
SwiftAccount = Names SwiftContainer

abbrev pub files_of : Option SwiftContainer → Names SwiftObject
files_of None = empty
files_of (Some folder) = folder.files

-- the objects of a container, none where it is missing
abbrev pub files : SwiftAccount → List ℕ → Names SwiftObject
files tree folder = files_of (get tree folder)

-- an object of a container
abbrev pub find_object : SwiftAccount → List ℕ → List ℕ → Option SwiftObject
find_object tree folder name = get (files tree folder) name

-- a container with its objects changed
abbrev pub on_files : (Names SwiftObject → Names SwiftObject) → SwiftContainer → SwiftContainer
on_files f folder = record folder { files = f folder.files }

-- an object put into a container that is there
abbrev pub put_file : List ℕ → List ℕ → SwiftObject → SwiftAccount → SwiftAccount
put_file folder name file tree = adjust folder (on_files (λ fs. insert fs name file)) tree

-- an object taken from a container that is there
abbrev pub remove_file : List ℕ → List ℕ → SwiftAccount → SwiftAccount
remove_file folder name tree = adjust folder (on_files (λ fs. remove fs name)) tree

-- a container with its read list written over
abbrev pub with_readers : ReadList → SwiftContainer → SwiftContainer
with_readers readers folder = record folder { readers = readers }

-- a container with its read list and creation time written over
abbrev pub with_head : ReadList → Option ℕ → SwiftContainer → SwiftContainer
with_head readers created folder = record folder { readers = readers; created = created }

-- a container without objects
abbrev pub new_folder : ReadList → Option ℕ → SwiftContainer
new_folder readers created = record { readers = readers; created = created; files = empty }

-- an object as it is declared, but for its name
abbrev pub file_of : Stored → SwiftObject
file_of s = record { content_type = s.content_type; meta = s.meta; content = s.content }

-- the size of an object in bytes: its own, or the sum of its segments'
abbrev pub size_of : Content → ℕ
size_of (Plain bytes) = length bytes
size_of (Segments segments) = sum_by (λ s. s.size) segments
