use Rattle.std.proofs.Common.{◌≡◌, ℕ, List, Some, map, ap, subst, ◌∙◌}
use Rattle.std.specs.Prelude.{IfOk}
use Rattle.s3_machine.specs.declared.operation.Listed.{Listed}
use Rattle.upload_texts.specs.Records.{has_record_text, read_record, record_text}
use Rattle.upload_texts.specs.declared.record.Record.{Record}
use Rattle.upload_texts.specs.declared.record.Record.TheVariants.{Done}
use Rattle.upload_texts.specs.declared.sealed.Sealed.{Sealed}
use Rattle.upload_records.specs.Native.{listed_of, sealed_record}
use Rattle.account_calls.proofs.lemmas.SealStands.{record_has_text}
use Rattle.recovery.proofs.sealed.rolled_forward_record_text.Goals as goal

made : (s : Sealed) (key : List ℕ) (list : List Listed) (etag : List ℕ) → key ≡ s.key → list ≡ map listed_of s.list → etag ≡ s.etag → Done key list etag s.started (Some s.moment) ≡ sealed_record s
made s key list etag keyed listed tagged = λ i. Done (keyed i) (listed i) (tagged i) s.started (Some s.moment)

pub write-requires : goal.write-requires
write-requires c =
    ap has_record_text (made c.args.sealed.now _ _ _ c.in_ok-key.ensures (c.in_ok-list.ensures ∙ ap (map listed_of) c.as_slice.ensures) c.in_ok-etag.ensures) ∙ record_has_text c.args.sealed.now c.requires

pub returns-clause-text : goal.returns-clause-text
returns-clause-text c =
    subst (λ (r : Record). IfOk c.write.result (λ text. text ≡ record_text r))
    (made c.args.sealed.now _ _ _ c.in_ok-key.ensures (c.in_ok-list.ensures ∙ ap (map listed_of) c.as_slice.ensures) c.in_ok-etag.ensures) c.write.ensures.text

pub returns-clause-reads : goal.returns-clause-reads
returns-clause-reads c =
    subst (λ (r : Record). IfOk c.write.result (λ text. read_record text ≡ Some r))
    (made c.args.sealed.now _ _ _ c.in_ok-key.ensures (c.in_ok-list.ensures ∙ ap (map listed_of) c.as_slice.ensures) c.in_ok-etag.ensures) c.write.ensures.reads_back
