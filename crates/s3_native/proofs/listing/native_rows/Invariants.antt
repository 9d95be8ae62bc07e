use Rattle.std.proofs.Common.{◌≡◌, map}
use Rattle.std.specs.FinMap.{empty}
use Rattle.s3_machine.specs.Step.{listed_key}
use Rattle.name_table.specs.Table.{entry_of}
use Rattle.s3_native.proofs.Listings.{add_all, rows_for}
use Rattle.s3_native.proofs.listing.native_rows.Given as goal

abbrev pub invariant-loop-key : goal.invariant-loop-key
invariant-loop-key l =
    add_all (rows_for l.prefix l.delimiter (map (λ e. listed_key (entry_of e)) l.key-iterator)) l.rows
    ≡ add_all (rows_for l.prefix l.delimiter (map (λ e. listed_key (entry_of e)) l.initial.key-iterator)) empty
