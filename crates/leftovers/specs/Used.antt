-- Which files of a container are used, where a completion may be sealed. Source: this profile.
use Rattle.std.specs.Prelude.{ℕ, Bool, true, false, ◌&&◌, ◌||◌, bytes_eq, List, Option, None, Some}
use Rattle.std.specs.List.{list_any}
use Rattle.s3_names.specs.Id.{id_digits}
use Rattle.upload_texts.specs.declared.sealed.Sealed.{Sealed}
use Rattle.upload_texts.specs.declared.sealed.SealedPart.{SealedPart}
use Rattle.upload_records.specs.Layout.{segment_name}
use Rattle.leftovers.specs.declared.used.Used.{Used}
use Rattle.leftovers.specs.Kept.{keeps}
use Rattle.leftovers.specs.Leftovers.{id_in, is_sub_manifest_name}

-- ---- what is sealed

-- a completion that is sealed in the bucket lists the part of this name
abbrev pub seals_part : Option Sealed → List ℕ → List ℕ → Bool
seals_part None bucket name = false
seals_part (Some s) bucket name = bytes_eq s.bucket bucket && list_any (λ (p : SealedPart). bytes_eq (segment_name (id_digits s.id) p.number) name) s.list

-- the text of its id
abbrev pub id_if : Bool → Sealed → Option (List ℕ)
id_if true s = Some (id_digits s.id)
id_if false s = None

abbrev pub sealed_id_in : Option Sealed → List ℕ → Option (List ℕ)
sealed_id_in None bucket = None
sealed_id_in (Some s) bucket = id_if (bytes_eq s.bucket bucket) s

-- ---- which files of a container are used

-- a name is that of a sub-manifest of this id
abbrev pub is_sub_of : Option (List ℕ) → List ℕ → Bool
is_sub_of None name = false
is_sub_of (Some id) name = is_sub_manifest_name name && bytes_eq (id_in name) id

-- a file of this name is used: it is kept, or it is a sub-manifest of what is sealed
abbrev pub is_taken : Used → List ℕ → Bool
is_taken used name = keeps used.kept name || is_sub_of used.sealed name
