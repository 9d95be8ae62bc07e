use Rattle.std.proofs.Common.{Err, ap, sym, subst, inr}
use Rattle.upload_texts.specs.Records.{ReadsRecord}
use Rattle.account_calls.specs.Interpret.{known}
use Rattle.upload_texts.proofs.lemmas.RecordVersions.{none_of_version}
use Rattle.upload_calls.proofs.records.record_in_fetched_file.Goals as goal

pub returns-in-Err-Version-clause-due : goal.returns-in-Err-Version-clause-due
returns-in-Err-Version-clause-due c =
    let other = subst (λ fault. ReadsRecord c.args.text.now (Err fault)) c.in-Err-Version.field-0-is c.in-Err-Version.ensures in
    inr (sym (ap known (none_of_version c.args.text.now c.in-Err-Version.field-0-0 other)))
