use Rattle.std.proofs.Common.{◌≡◌, map}
use Rattle.std.specs.FinMap.{empty}
use Rattle.name_table.specs.Table.{entry_of}
use Rattle.s3_native.proofs.Listings.{add_all, upload_rows}
use Rattle.s3_native.proofs.uploads.native_upload_rows_after.Given as goal

abbrev pub invariant-loop-id : goal.invariant-loop-id
invariant-loop-id l =
    add_all (upload_rows l.prefix l.key_marker l.id_marker (map entry_of l.id-iterator)) l.rows
    ≡ add_all (upload_rows l.prefix l.key_marker l.id_marker (map entry_of l.initial.id-iterator)) empty
