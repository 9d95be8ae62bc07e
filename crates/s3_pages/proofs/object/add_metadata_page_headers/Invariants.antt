use Rattle.std.proofs.Common.{◌≡◌, ◌++◌, take, map}
use Rattle.s3_pages.specs.Pages.{meta_header}
use Rattle.s3_pages.proofs.object.add_metadata_page_headers.Given as goal

abbrev pub invariant-loop-pair : goal.invariant-loop-pair
invariant-loop-pair l = l.headers ≡ l.initial.headers ++ map meta_header (take l.pair-index l.pairs)
