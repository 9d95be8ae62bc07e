-- What the laws of this crate say: a value and its text determine each other, and a store takes the texts.
use Rattle.std.specs.Prelude.{◌≡◌, ◌≤◌, ℕ, true, List, ◌++◌, length, codes, decimal, Some}
use Rattle.std.specs.List.{list_all}
use Rattle.gate_base.specs.Fields.{is_field}
use Rattle.gate_base.specs.declared.page.Pair.{Pair}
use Rattle.gate_base.specs.Ascii.{is_lower_hex}
use Rattle.swift_marks.specs.Limits.{is_kept_metadata}
use Rattle.swift_marks.specs.Tag.{is_etag, has_text, tag_text, read_tag}
use Rattle.swift_marks.specs.Pack.{has_pack, pack_of, unpacked}
use Rattle.swift_marks.specs.declared.tag.Tag.{Tag}

-- the text of a tag reads as the tag
abbrev pub TagTextReads : Type 0
TagTextReads = (tag : Tag) → has_text tag ≡ true → read_tag (tag_text tag) ≡ Some tag

-- what a text reads as has a text, and it is that one
abbrev pub TagHasOneText : Type 0
TagHasOneText = (text : List ℕ) (tag : Tag) → read_tag text ≡ Some tag → (has_text tag ≡ true) × (text ≡ tag_text tag)

-- the pack of metadata unpacks to the metadata
abbrev pub PackUnpacks : Type 0
PackUnpacks = (entries : List Pair) → has_pack entries ≡ true → unpacked (pack_of entries) ≡ Some entries

-- what pieces unpack to has a pack, and it is those pieces
abbrev pub MetadataHasOnePack : Type 0
MetadataHasOnePack = (pieces : List (List ℕ)) (entries : List Pair) → unpacked pieces ≡ Some entries → (has_pack entries ≡ true) × (pieces ≡ pack_of entries)

-- 32 digits are an ETag, and so are 32 digits, `-` and a number of parts
abbrev pub EtagForms : Type 0
EtagForms =
    (digits : List ℕ) → length digits ≡ 32 → list_all is_lower_hex digits ≡ true
    → (is_etag digits ≡ true) × ((parts : ℕ) → 1 ≤ parts → parts ≤ 10000 → is_etag (digits ++ codes "-" ++ decimal parts) ≡ true)

-- the text of a tag is a field of at most 512 bytes
abbrev pub TagIsField : Type 0
TagIsField = (tag : Tag) → has_text tag ≡ true → is_field 512 (tag_text tag) ≡ true

-- metadata that is kept packs into at most 11 pieces, each a field of at most 256 bytes
abbrev pub PackIsSmall : Type 0
PackIsSmall = (entries : List Pair) → is_kept_metadata entries ≡ true → (length (pack_of entries) ≤ 11) × (list_all (is_field 256) (pack_of entries) ≡ true)
