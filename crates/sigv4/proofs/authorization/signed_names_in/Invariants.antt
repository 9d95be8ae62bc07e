use Rattle.std.proofs.Common.{◌≡◌, ◌++◌, length}
use Rattle.std.specs.List.{slice_split}
use Rattle.sigv4.specs.Authorization.{is_semicolon}
use Rattle.sigv4.proofs.authorization.signed_names_in.Given as goal

abbrev pub invariant-names : goal.invariant-names
invariant-names l = slice_split is_semicolon l.text ≡ l.names ++ slice_split is_semicolon l.rest

abbrev pub decreases-names : goal.decreases-names
decreases-names l = length l.rest
