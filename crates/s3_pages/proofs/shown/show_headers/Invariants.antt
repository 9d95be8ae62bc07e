use Rattle.std.proofs.Common.{◌≡◌, drop}
use Rattle.s3_pages.specs.Pages.{overlaid}
use Rattle.s3_pages.proofs.shown.show_headers.Given as goal

abbrev pub invariant-loop-pair : goal.invariant-loop-pair
invariant-loop-pair l = overlaid l.shown l.initial.headers ≡ overlaid (drop l.pair-index l.shown) l.headers
