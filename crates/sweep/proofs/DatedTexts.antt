-- The text of a record that gets its moment.
use Rattle.std.specs.Prelude.{◌≡◌, ◌≤◌, ℕ, nat_lt, true, ◌&&◌, List, length, None, Some, Result, Ok, Err, IfOk}
use Rattle.std.proofs.Common.{subst, sym}
use Rattle.std.proofs.lemmas.Bool.{and_from, and_parts}
use Rattle.gate_base.specs.Told.{moment_limit}
use Rattle.s3_names.specs.Key.{is_key}
use Rattle.s3_machine.specs.declared.operation.Listed.{Listed}
use Rattle.swift_marks.specs.Tag as mark
use Rattle.upload_texts.specs.Records.{has_record_text, list_fits_record_text, record_text}
use Rattle.upload_texts.specs.declared.record.Record.{Record}
use Rattle.upload_texts.specs.declared.record.Record.TheVariants.{Open, Done}
use Rattle.upload_records.proofs.lemmas.TextLengths.{done_short}
use Rattle.sweep.specs.Aging.{dated, most_record_text}
use Rattle.sweep.specs.Forgetting.{is_undated}

done_has : (key : List ℕ) (list : List Listed) (etag : List ℕ) (started : ℕ) → has_record_text (Done key list etag started None) ≡ true → has_record_text (Done key list etag started (Some started)) ≡ true
unfolding has_record_text
done_has key list etag started has =
    let keyed = and_parts (is_key key) (list_fits_record_text list && (mark.is_etag etag && (nat_lt started moment_limit && true))) has in
    let listed = and_parts (list_fits_record_text list) (mark.is_etag etag && (nat_lt started moment_limit && true)) keyed.1 in
    let tagged = and_parts (mark.is_etag etag) (nat_lt started moment_limit && true) listed.1 in
    let begun = and_parts (nat_lt started moment_limit) true tagged.1 in
    and_from _ _ keyed.0 (and_from _ _ listed.0 (and_from _ _ tagged.0 (and_from _ _ begun.0 begun.0)))

pub dated_has : (told : Record) → has_record_text told ≡ true → is_undated (Some told) ≡ true → has_record_text (dated told) ≡ true
dated_has (Open key content_type meta started) has undated = cc
dated_has (Done key list etag started (Some moment)) has undated = cc
dated_has (Done key list etag started None) has undated = done_has key list etag started has

short_text : (told : Record) → has_record_text told ≡ true → is_undated (Some told) ≡ true → length (record_text (dated told)) ≤ most_record_text
short_text (Open key content_type meta started) has undated = cc
short_text (Done key list etag started (Some moment)) has undated = cc
short_text (Done key list etag started None) has undated = done_short key list etag started (Some started) (done_has key list etag started has)

pub dated_short : {F : Type 0} (told : Record) → has_record_text told ≡ true → is_undated (Some told) ≡ true → (result : Result (List ℕ) F) → IfOk result (λ text. text ≡ record_text (dated told)) → IfOk result (λ text. length text ≤ most_record_text)
dated_short told has undated (Ok text) is = subst (λ t. length t ≤ most_record_text) (sym is) (short_text told has undated)
dated_short told has undated (Err fault) is = tt
