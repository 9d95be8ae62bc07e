use Rattle.std.proofs.Common.{◌≡◌, true, subst, sym}
use Rattle.s3_names.specs.Key.{is_key}
use Rattle.s3_machine.specs.Proper.{IsProperDescribed}
use Rattle.upload_calls.specs.Interpret.{most_open_text}
use Rattle.upload_calls.proofs.RecordLength.{open_has_text, open_short, short_by_text}
use Rattle.upload_calls.proofs.records.text_for_put_record.Goals as goal

pub write-requires : goal.write-requires
write-requires c =
    let described = c.into_value-described.result in
    let keyed = subst (λ k. is_key k ≡ true) (sym c.into_text.ensures.value) c.into_text.ensures.fit in
    let proper = subst IsProperDescribed (sym c.into_value-described.ensures.value) c.into_value-described.ensures.fit in
    open_has_text c.into_text.result described.content_type described.meta c.args.label.now.moment keyed proper.typed proper.described c.pairs-ordered.ensures.ordered c.args.label.now.timed

pub returns-clause-reads : goal.returns-clause-reads
returns-clause-reads c = rw (c.into_text.ensures.value, c.into_value-described.ensures.value) at c.write.ensures.reads_back

pub returns-clause-short : goal.returns-clause-short
returns-clause-short c =
    let described = c.into_value-described.result in
    let keyed = subst (λ k. is_key k ≡ true) (sym c.into_text.ensures.value) c.into_text.ensures.fit in
    let proper = subst IsProperDescribed (sym c.into_value-described.ensures.value) c.into_value-described.ensures.fit in
    short_by_text most_open_text _ c.write.result (open_short c.into_text.result described.content_type described.meta c.args.label.now.moment keyed proper.typed proper.described c.args.label.now.timed) c.write.ensures.text
