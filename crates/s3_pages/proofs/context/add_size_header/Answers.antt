use Rattle.std.proofs.Common.{◌≡◌, Some}
use Rattle.s3_machine.specs.declared.code.Code.TheVariants.{InvalidRange}
use Rattle.s3_pages.proofs.Headers.{size_added}
use Rattle.s3_pages.proofs.Pieces.{on_ok}
use Rattle.s3_pages.proofs.context.add_size_header.Goals as goal

pub returns : goal.returns
returns c =
    let code = c.in-Some-InvalidRange-Some in
    let refused : code.field-0 ≡ InvalidRange code.field-0-0 = rw code.is at code.field-0-is in
    let range : code.field-0-0 ≡ Some code.size = rw refused at (rw code.is at code.field-0-0-is) in
    on_ok c.add_header.result
    (λ e. size_added c.args.code code.field-0 code.field-0-0 code.size _ _ c.in_ok-text.text c.append_decimal.new.text c.as_slice.result.now code.is refused range c.in_ok-text.ensures
    c.in_ok-append_decimal.ensures c.as_slice.ensures e)
    c.add_header.ensures
