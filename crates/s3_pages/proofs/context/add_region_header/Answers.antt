use Rattle.s3_pages.proofs.Headers.{region_added}
use Rattle.s3_pages.proofs.Pieces.{on_ok}
use Rattle.s3_pages.proofs.context.add_region_header.Goals as goal

pub returns : goal.returns
returns c = on_ok c.add_header.result (λ e. region_added c.args.extended.now _ _ _ c.if-not-extended.false c.as_slice.ensures e) c.add_header.ensures
