use Rattle.std.proofs.Common.{◌≡◌, take}
use Rattle.serde_json.specs.Data.{no_members}
use Rattle.serde_json.specs.View.{members_view}
use Rattle.slo_manifest.specs.Members.{with_fields}
use Rattle.slo_manifest.proofs.members.json_object.Given as goal

abbrev pub invariant-loop-member : goal.invariant-loop-member
invariant-loop-member l = members_view l.map.entries ≡ with_fields (take l.member-index l.members) no_members
