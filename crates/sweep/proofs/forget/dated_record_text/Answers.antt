use Rattle.std.proofs.Common.{ap, subst, ◌∙◌}
use Rattle.std.specs.Prelude.{◌≡◌, IfOk, Some}
use Rattle.upload_texts.specs.Records.{has_record_text, read_record, record_text}
use Rattle.upload_texts.specs.declared.record.Record.{Record}
use Rattle.sweep.proofs.DatedTexts.{dated_has, dated_short}
use Rattle.sweep.proofs.forget.dated_record_text.Goals as goal

pub write-requires : goal.write-requires
write-requires c = ap has_record_text c.dated-told.ensures ∙ dated_has c.args.told c.requires.has c.requires.undated

pub returns-clause-reads : goal.returns-clause-reads
returns-clause-reads c = subst (λ (r : Record). IfOk c.write.result (λ text. read_record text ≡ Some r)) c.dated-told.ensures c.write.ensures.reads_back

pub returns-clause-short : goal.returns-clause-short
returns-clause-short c =
    dated_short c.args.told c.requires.has c.requires.undated c.write.result
    (subst (λ (r : Record). IfOk c.write.result (λ text. text ≡ record_text r)) c.dated-told.ensures c.write.ensures.text)
