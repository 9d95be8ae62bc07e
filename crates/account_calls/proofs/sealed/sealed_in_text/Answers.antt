use Rattle.std.proofs.Common.{Err, ap, sym, subst, inr}
use Rattle.upload_texts.specs.Sealed.{ReadsSealed}
use Rattle.upload_records.proofs.lemmas.SealedTexts.{sealed_has}
use Rattle.account_calls.specs.Interpret.{known}
use Rattle.upload_texts.proofs.lemmas.SealedVersions.{none_of_version}
use Rattle.account_calls.proofs.sealed.sealed_in_text.Goals as goal

pub returns-in-Ok-clause-has : goal.returns-in-Ok-clause-has
returns-in-Ok-clause-has c = sealed_has c.args.text.now _ c.in-Ok.ensures

pub returns-in-Err-Version-clause-due : goal.returns-in-Err-Version-clause-due
returns-in-Err-Version-clause-due c =
    let other = subst (λ fault. ReadsSealed c.args.text.now (Err fault)) c.in-Err-Version.field-0-is c.in-Err-Version.ensures in
    inr (sym (ap known (none_of_version c.args.text.now c.in-Err-Version.field-0-0 other)))
