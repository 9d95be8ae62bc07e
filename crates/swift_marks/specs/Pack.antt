-- The pack of an object's metadata: the pieces in which a store keeps it (this profile).
use Rattle.std.specs.Prelude.{◌≡◌, ⊤, ℕ, ◌-◌, zero, suc, ◌^◌, Bool, true, false, ◌&&◌, nat_lt, if◌then◌else◌, Option, Some, None, Result, Ok, Err}
use Rattle.std.specs.Prelude.{List, [], ◌∷◌, ◌++◌, length, map, flat_map, take, drop, slice_get, codes, decimal}
use Rattle.std.specs.Cmp.Lexicographic.{pointwise}
use Rattle.std.specs.List.{list_all, before_first, after_first}
use Rattle.std.specs.Str.{bytes_eq}
use Rattle.gate_base.specs.declared.page.Pair.{Pair}
use Rattle.s3_names.specs.Meta.{is_before, names_ascend}
use Rattle.swift_marks.specs.Number.{number_of}
use Rattle.swift_marks.specs.Tag.{is_dot}
use Rattle.swift_marks.specs.declared.fault.MarkFault.{MarkFault}
use Rattle.swift_marks.specs.declared.fault.MarkFault.TheVariants.{NoTag, BadPack, Memory}

-- an entry as `NLEN.VLEN.NAME` and its value: the lengths of both in decimal, then both
abbrev pub entry_text : Pair → List ℕ
entry_text entry = decimal (length entry.name) ++ codes "." ++ decimal (length entry.value) ++ codes "." ++ entry.name ++ entry.value

-- a text cut into pieces of 254 bytes, the last one shorter or equal, with a turn for each piece
unfoldable pub cut_in : ℕ → List ℕ → List (List ℕ)
cut_in zero text = []
cut_in (suc turns) [] = []
cut_in (suc turns) (byte ∷ text) = take 254 (byte ∷ text) ∷ cut_in turns (drop 254 (byte ∷ text))

abbrev pub bracketed : List ℕ → List ℕ
bracketed piece = codes "[" ++ piece ++ codes "]"

-- a text in pieces, each in brackets
abbrev pub pieces_of : List ℕ → List (List ℕ)
pieces_of text = map bracketed (cut_in (length text) text)

-- the pack of metadata: its entries in order, joined and cut
unfoldable pub pack_of : List Pair → List (List ℕ)
pack_of entries = pieces_of (flat_map entry_text entries)

-- a piece without its first and its last byte
abbrev pub inside : List ℕ → List ℕ
inside piece = drop 1 (take (length piece - 1) piece)

-- what stands in the places of an entry at the front of a text, and what stands behind it
abbrev pub name_size : List ℕ → ℕ
name_size text = number_of (before_first is_dot text)

abbrev pub value_size : List ℕ → ℕ
value_size text = number_of (before_first is_dot (after_first is_dot text))

abbrev pub entry_body : List ℕ → List ℕ
entry_body text = after_first is_dot (after_first is_dot text)

unfoldable pub first_entry : List ℕ → Pair
first_entry text = record {
  name = take (name_size text) (entry_body text);
  value = take (value_size text) (drop (name_size text) (entry_body text));
}

unfoldable pub other_entries : List ℕ → List ℕ
other_entries text = drop (value_size text) (drop (name_size text) (entry_body text))

-- what stands in the places of entries in a text, be it a pack's or not, with a turn for each entry
unfoldable pub entries_in : ℕ → List ℕ → List Pair
entries_in zero text = []
entries_in (suc turns) [] = []
entries_in (suc turns) (byte ∷ text) = first_entry (byte ∷ text) ∷ entries_in turns (other_entries (byte ∷ text))

unfoldable pub entries_of : List ℕ → List Pair
entries_of text = entries_in (length text) text

-- nothing, or an entry whose name stands before this one
abbrev pub is_past : List ℕ → Option Pair → Bool
is_past name None = true
is_past name (Some last) = is_before name last

-- the name stands behind that of the last entry
abbrev pub is_behind : List ℕ → List Pair → Bool
is_behind name entries = is_past name (slice_get entries (length entries - 1))

-- the entries of a text, where their names ascend
abbrev pub ReadsEntries : List Pair → Result (List Pair) MarkFault → Type 0
ReadsEntries due (Ok entries) = (entries ≡ due) × (names_ascend due ≡ true)
ReadsEntries due (Err BadPack) = names_ascend due ≡ false
ReadsEntries due (Err NoTag) = ⊥
ReadsEntries due (Err Memory) = ⊤

-- a name and a value below 10^19 bytes, as every text in memory is
abbrev pub is_short : Pair → Bool
is_short entry = nat_lt (length entry.name) (10 ^ 19) && nat_lt (length entry.value) (10 ^ 19)

-- the metadata that has a pack, whatever its names and values: pairs in the byte order of their names, none twice
abbrev pub has_pack : List Pair → Bool
has_pack entries = names_ascend entries && list_all is_short entries

abbrev pub packed_entries : List (List ℕ) → List Pair
packed_entries pieces = entries_of (flat_map inside pieces)

-- the metadata whose pack this is
unfoldable pub unpacked : List (List ℕ) → Option (List Pair)
unpacked pieces =
    if names_ascend (packed_entries pieces) && pointwise bytes_eq pieces (pack_of (packed_entries pieces)) then Some (packed_entries pieces) else None

-- what unpacking answers; memory may run out for any pieces
abbrev pub Unpacks : Option (List Pair) → Result (List Pair) MarkFault → Type 0
Unpacks due (Ok entries) = due ≡ Some entries
Unpacks due (Err BadPack) = due ≡ None
Unpacks due (Err NoTag) = ⊥
Unpacks due (Err Memory) = ⊤
