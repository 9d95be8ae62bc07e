use Rattle.std.proofs.Common.{◌≡◌, ◌≤◌}
use Rattle.s3_names.specs.Id.{id_digits}
use Rattle.upload_records.specs.Native.{sub_segments}
use Rattle.account_calls.proofs.sub_manifests.sub_manifest_segments.Given as goal

-- the sub-manifests of the first runs
abbrev pub invariant-loop-n : goal.invariant-loop-n
invariant-loop-n l = record {
  within : l.n ≤ l.count;
  are : l.listed ≡ sub_segments l.folder (id_digits l.id) l.segments l.n;
}
