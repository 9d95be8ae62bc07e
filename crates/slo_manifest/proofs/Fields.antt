-- Members that are put one after another.
use Rattle.std.proofs.Common.{◌≡◌, ℕ, ◌+◌, ◌<◌, List, [], ◌∷◌, ◌++◌, length, take, get_or, refl, sym, ap, ◌∙◌}
use Rattle.std.proofs.lemmas.List.{take_more}
use Rattle.serde_json.specs.Data.{Members, put as with_member}
use Rattle.slo_manifest.specs.Members.{field_json, with_fields}
use Rattle.slo_manifest.specs.declared.members.Member.{Member}

fields_behind : (front back : List Member) (ms : Members) → with_fields (front ++ back) ms ≡ with_fields back (with_fields front ms)
fields_behind [] back ms = refl
fields_behind (member ∷ front) back ms = fields_behind front back (with_member member.name.now (field_json member.field) ms)

-- one more member
pub fields_more : (members : List Member) (i : ℕ) (member : Member) (ms : Members) → i < length members → member ≡ get_or members i member → with_fields (take (i + 1) members) ms ≡ with_member member.name.now (field_json member.field) (with_fields (take i members) ms)
fields_more members i member ms below same =
    ap (λ front. with_fields front ms) (take_more members i member below ∙ ap (λ last. take i members ++ last ∷ []) (sym same))
    ∙ fields_behind (take i members) (member ∷ []) ms
