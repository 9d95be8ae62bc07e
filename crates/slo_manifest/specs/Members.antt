-- Objects and arrays of JSON, of what is put one after another.
use Rattle.std.specs.Prelude.{List, [], ◌∷◌, map}
use Rattle.serde_json.specs.Data.{Data, Members, array, number, string, unsigned, put as with_member}
use Rattle.serde_json.specs.View.{items_of, view}
use Rattle.slo_manifest.specs.declared.members.Field.{Field}
use Rattle.slo_manifest.specs.declared.members.Field.TheVariants.{Text, Number, Json}
use Rattle.slo_manifest.specs.declared.members.Member.{Member}

-- what a member says
abbrev pub field_json : Field → Data
field_json (Text text) = string text.now
field_json (Number count) = number (unsigned count)
field_json (Json value) = view value.now

-- the members behind those that are there
abbrev pub with_fields : List Member → Members → Members
with_fields [] ms = ms
with_fields (member ∷ rest) ms = with_fields rest (with_member member.name.now (field_json member.field) ms)

-- a list of the value of each
abbrev pub array_of : {A : Type 0} → (A → Data) → List A → Data
array_of f xs = array (items_of (map f xs))
