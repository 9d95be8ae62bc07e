use Rattle.std.proofs.Common.{Err, ap, sym, subst, inr}
use Rattle.upload_texts.specs.Records.{ReadsRecord}
use Rattle.upload_texts.proofs.lemmas.RecordVersions.{none_of_version}
use Rattle.leftovers.specs.Asking.{found_record_by}
use Rattle.leftovers.proofs.RecordReads.{record_has}
use Rattle.leftovers.proofs.asking.found_record_in_text.Goals as goal

pub returns-in-Ok-clause-has : goal.returns-in-Ok-clause-has
returns-in-Ok-clause-has c = record_has c.args.text.now _ c.in-Ok.ensures

pub returns-in-Err-Version-clause-due : goal.returns-in-Err-Version-clause-due
returns-in-Err-Version-clause-due c =
    let other = subst (λ fault. ReadsRecord c.args.text.now (Err fault)) c.in-Err-Version.field-0-is c.in-Err-Version.ensures in
    inr (sym (ap found_record_by (none_of_version c.args.text.now c.in-Err-Version.field-0-0 other)))
