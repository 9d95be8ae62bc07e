-- An object as the columns of a row (this profile).
use Rattle.std.specs.Prelude.{◌≡◌, ◌≢◌, ⊤, ℕ, ◌<◌, ◌^◌, Bool, true, ◌&&◌, bytes_eq, nat_eq, List, [], Result, Ok, Err}
use Rattle.std.specs.List.{list_all}
use Rattle.slo_manifest.specs.declared.Segment.{Segment}
use Rattle.slo_manifest.specs.declared.manifest.Form.TheVariants.{Put}
use Rattle.slo_manifest.specs.Segments.{is_manifest}
use Rattle.slo_manifest.specs.Text.{manifest_text}
use Rattle.swift_calls.specs.Account.{size_of}
use Rattle.swift_calls.specs.Bodies.{etag_of}
use Rattle.swift_calls.specs.declared.account.Content.{Content}
use Rattle.swift_calls.specs.declared.account.Content.TheVariants.{Plain, Segments}
use Rattle.swift_calls.specs.declared.account.Stored.{Stored}
use Rattle.object_rows.specs.Pieces.{is_short, joined}
use Rattle.object_rows.specs.declared.row.Row.{Row}
use Rattle.object_rows.specs.declared.row.RowFault.{RowFault}
use Rattle.object_rows.specs.declared.row.RowFault.TheVariants.{Unread, Memory}

-- 0 for its own bytes, 1 for a list
abbrev pub kind_of : Content → ℕ
kind_of (Plain bytes) = 0
kind_of (Segments segments) = 1

-- its own bytes, or the text that puts the list
abbrev pub body_of : Content → List ℕ
body_of (Plain bytes) = bytes
body_of (Segments segments) = manifest_text Put segments

abbrev pub row_of : Stored → Row
row_of s = record {
  kind = kind_of s.content;
  content_type = s.content_type;
  meta = joined s.meta;
  size = size_of s.content;
  hash = etag_of s.content;
  body = body_of s.content;
}

-- the row of an object whose own bytes stand at a place, which the row has for a body
abbrev pub placed_row : List ℕ → Stored → Row
placed_row place s = record {
  kind = 2;
  content_type = s.content_type;
  meta = joined s.meta;
  size = size_of s.content;
  hash = etag_of s.content;
  body = place;
}

-- what a row can have: bytes, or a list of 1 to 1000 segments as a manifest may list them
abbrev pub IsListed : Content → Type 0
IsListed (Plain bytes) = ⊤
IsListed (Segments segments) = (is_manifest segments ≡ true) × (segments ≢ [])

pub record IsRowContent (content : Content) : Type 0 where
  pub size : size_of content < 2 ^ 63
  pub listed : IsListed content

-- an object that has a row
pub record HasRow (s : Stored) : Type 0 where
  pub content : IsRowContent s.content
  pub meta : list_all is_short s.meta ≡ true

-- what the body of a list answers
abbrev pub ReadsList : List ℕ → Result (List Segment) RowFault → Type 0
ReadsList body (Ok segments) = (is_manifest segments ≡ true) × ((other : List Segment) → is_manifest other ≡ true → manifest_text Put other ≡ body → segments ≡ other)
ReadsList body (Err Unread) = (other : List Segment) → is_manifest other ≡ true → manifest_text Put other ≡ body → ⊥
ReadsList body (Err Memory) = ⊤

-- what the body of a row answers
abbrev pub ReadsContent : ℕ → List ℕ → Result Content RowFault → Type 0
ReadsContent kind body (Ok content) = IsRowContent content × (kind_of content ≡ kind) × (body_of content ≡ body) × ((other : Content) → IsRowContent other → kind_of other ≡ kind → body_of other ≡ body → content ≡ other)
ReadsContent kind body (Err Unread) = (other : Content) → IsRowContent other → kind_of other ≡ kind → body_of other ≡ body → ⊥
ReadsContent kind body (Err Memory) = ⊤

-- the columns of an object's row, whatever its hash
abbrev pub has_columns : Stored → List ℕ → ℕ → Bool
has_columns s meta size = bytes_eq (joined s.meta) meta && nat_eq (size_of s.content) size

-- what is read for a name: the only object of that name which has a row and is as is asked, or that there is none
abbrev pub ReadsOnly : (Stored → Type 0) → List ℕ → Result Stored RowFault → Type 0
ReadsOnly is name (Ok s) = (s.name ≡ name) × HasRow s × is s × ((other : Stored) → other.name ≡ name → HasRow other → is other → s ≡ other)
ReadsOnly is name (Err Unread) = (other : Stored) → other.name ≡ name → HasRow other → is other → ⊥
ReadsOnly is name (Err Memory) = ⊤

-- what a row answers: the object whose row it is
abbrev pub ReadsRow : List ℕ → Row → Result Stored RowFault → Type 0
ReadsRow name row = ReadsOnly (λ s. row_of s ≡ row) name

-- what it answers where its hash isn't looked at: the object whose row it is but for the hash
abbrev pub ReadsColumns : List ℕ → Row → Result Stored RowFault → Type 0
ReadsColumns name row = ReadsOnly (λ s. row_of s ≡ record row { hash = etag_of s.content }) name
