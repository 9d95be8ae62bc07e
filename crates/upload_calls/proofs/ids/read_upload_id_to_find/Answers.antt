use Rattle.std.proofs.Common.{◌≡◌, true, false, not, ap, sym, subst, ◌∙◌}
use Rattle.std.proofs.lemmas.Slice.Eq.{bytes_eq-Decides}
use Rattle.upload_calls.specs.Records.{ReadsId}
use Rattle.upload_calls.proofs.IdTexts.{none_reads, others_differ}
use Rattle.upload_calls.proofs.ids.read_upload_id_to_find.Goals as goal

pub returns-in_err-id : goal.returns-in_err-id
returns-in_err-id c = subst (ReadsId c.args.text.now) (sym c.from_residual.ensures) (none_reads c.args.text.now (sym c.read_id_digits.ensures ∙ c.in_err-id.was))

pub returns-then-ne : goal.returns-then-ne
returns-then-ne c =
    others_differ c.args.text.now c.in_ok-id.id (sym c.read_id_digits.ensures ∙ c.in_ok-id.was) (λ is.
    let same = (bytes_eq-Decides c.as_slice.result.now c.args.text.now).1 (c.as_slice.ensures ∙ c.id_digits.ensures ∙ sym is) in
    let never : true ≡ false = c.if-ne.ensures ∙ ap not same in
    cc)
