use Rattle.std.proofs.Common.{sym, ◌∙◌}
use Rattle.presign_cmd.proofs.PresigningLemmas.{presigns_of}
use Rattle.presign_cmd.proofs.message.presign_message.Goals as goal

pub returns-in_ok-presign-in-Some : goal.returns-in_ok-presign-in-Some
returns-in_ok-presign-in-Some c =
    presigns_of c.args.signer.now.secret.now c.args.signer.now.id.now c.args.signer.now.region.now c.args.signer.now.moment c.args.signer.now.expires c.args.message.now c.as_slice.result.now c.in_ok-presign-in-Some.field-0 c.in-Some.target c.in_ok-target.field-0
    (sym c.has_host.ensures ∙ c.if-not-has_host.false) c.as_slice.ensures c.in_ok-target.ensures c.in-Some.is c.in_ok-presign-in-Some.ensures
