-- The objects and containers that a shelf in memory keeps.
use Rattle.std.specs.Prelude.{◌≡◌}
use Rattle.swift_calls.specs.Account.{SwiftObject, SwiftContainer, size_of}
use Rattle.swift_calls.specs.Bodies.{etag_of}
use Rattle.swift_store.specs.declared.kept.Kept.TheInside as kept
use Rattle.swift_store.specs.declared.folder.Folder.TheInside as folder

abbrev pub object_in : kept.Inside → SwiftObject
object_in k = record { content_type = k.content_type; meta = k.meta; content = k.content }

-- the ETag and the size are those of the content
pub record IsKept (k : kept.Inside) : Type 0 where
  pub etag : k.etag ≡ etag_of k.content
  pub size : k.size ≡ size_of k.content

abbrev pub container_in : folder.Inside → SwiftContainer
container_in f = record { readers = f.readers; created = f.created; files = f.objects }
