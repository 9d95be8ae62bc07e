use Rattle.s3_names.specs.Id.{id_digits}
use Rattle.std.proofs.Common.{sym, subst}
use Rattle.account_calls.proofs.lemmas.Ask.{asks_told}
use Rattle.upload_calls.specs.Found.{IsFoundBy, TellsUpload, is_bucket_missing}
use Rattle.upload_calls.proofs.lemmas.Finding.{found_by_text, tells_found, found_in_bucket}
use Rattle.std.specs.Prelude.{◌≡◌, false}
use Rattle.upload_calls.proofs.found.find_upload_by_id.Goals as goal

pub returns-clause-asks : goal.returns-clause-asks
returns-clause-asks g c =
    asks_told (λ tree has. has) c.found_in.result
    (λ tree sound has told. subst (TellsUpload c.args.bucket.now c.args.key.now _ tree) (sym c.found_in.ensures) (tells_found _ _ c.args.id tree has.settled has.is _ told))
    c.in_ok-record.ensures.asks

pub returns-clause-by_text : goal.returns-clause-by_text
returns-clause-by_text g c = subst (IsFoundBy (id_digits c.args.id)) (sym c.found_in.ensures) (found_by_text c.in_ok-record.record c.args.key.now c.args.id)

pub returns-clause-there : goal.returns-clause-there
returns-clause-there g c = subst (λ f. is_bucket_missing f ≡ false) (sym c.found_in.ensures) (found_in_bucket c.in_ok-record.record c.args.key.now c.args.id)
