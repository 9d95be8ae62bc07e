use Rattle.std.proofs.Common.{◌≡◌, ◌<◌, ◌↔◌, ◌∙◌, ℕ, ap, sym, arith, get_or, IfOk, Ok, subst, refl}
use Rattle.std.proofs.lemmas.Result.{IfOk-weaker}
use Rattle.base64.specs.Engines.{standard}
use Rattle.base64.specs.GeneralPurpose.{decode_of}
use Rattle.checksums.specs.declared.values.Comparison.{Comparison}
use Rattle.checksums.specs.declared.values.Comparison.TheVariants.{NotAChecksum}
use Rattle.checksums.specs.Kinds.{checksum_of, checksum_size, IsChecksumText, compared_bytes, compared}
use Rattle.checksums.proofs.ValueLemmas.{read_iff, unread}
use Rattle.checksums.proofs.values.compare_checksum.Goals as goal

pub returns-in-Ok-clause-value : goal.returns-in-Ok-clause-value
unfolding compared
returns-in-Ok-clause-value c =
    let bytes : Ok c.as_slice.result.now ≡ decode_of standard c.args.value.now = ap Ok c.as_slice.ensures.value ∙ sym c.in-Ok.ensures.ok in
    subst
    (λ bytes. IfOk c.compare_checksum_bytes.result
    (λ comparison. comparison ≡ compared_bytes (checksum_size c.args.kind) (checksum_of c.args.kind c.args.message.now) bytes)) bytes
    c.compare_checksum_bytes.ensures

pub returns-in-Ok-clause-read : goal.returns-in-Ok-clause-read
returns-in-Ok-clause-read c =
    let due = checksum_of c.args.kind c.args.message.now in
    let size = checksum_size c.args.kind in
    let text : (i : ℕ) → get_or c.args.value.now i 0 < 256 = λ i. omega (arith, c.type_inv.value i) in
    let read : (compared_bytes size due (Ok c.as_slice.result.now) ≡ NotAChecksum) ↔ (IsChecksumText c.args.kind c.args.value.now → ⊥) =
    subst (λ bytes. (compared_bytes size due (Ok bytes) ≡ NotAChecksum) ↔ (IsChecksumText c.args.kind c.args.value.now → ⊥)) (sym c.as_slice.ensures.value)
    (read_iff c.args.kind c.args.value.now due c.in-Ok.bytes.items text c.in-Ok.ensures.bytes c.in-Ok.ensures.ok) in
    IfOk-weaker c.compare_checksum_bytes.result (λ comparison. comparison ≡ compared_bytes size due (Ok c.as_slice.result.now))
    (λ comparison. (comparison ≡ NotAChecksum) ↔ (IsChecksumText c.args.kind c.args.value.now → ⊥))
    (λ comparison is. subst (λ (x : Comparison). (x ≡ NotAChecksum) ↔ (IsChecksumText c.args.kind c.args.value.now → ⊥)) (sym is) read)
    c.compare_checksum_bytes.ensures

pub returns-in-Err-DecodeError-clause-value : goal.returns-in-Err-DecodeError-clause-value
unfolding compared
returns-in-Err-DecodeError-clause-value c =
    let failed = rw c.in-Err-DecodeError.field-0-is at c.in-Err-DecodeError.ensures.err in
    sym (ap (compared_bytes (checksum_size c.args.kind) (checksum_of c.args.kind c.args.message.now)) failed)

pub returns-in-Err-DecodeError-clause-read : goal.returns-in-Err-DecodeError-clause-read
returns-in-Err-DecodeError-clause-read c =
    let failed = rw c.in-Err-DecodeError.field-0-is at c.in-Err-DecodeError.ensures.err in
    (λ same. unread c.args.kind c.args.value.now _ (λ i. omega (arith, c.type_inv.value i)) failed, λ none. refl)
