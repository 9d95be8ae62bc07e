use Rattle.std.proofs.Common.{sym, ◌∙◌, ap, nat_eq, length}
use Rattle.request_fields.specs.Content.{is_digest, has_sixteen_bytes}
use Rattle.request_fields.proofs.content.is_content_md5.Goals as goal

pub returns-in-Ok : goal.returns-in-Ok
unfolding is_digest
returns-in-Ok c =
    ap (λ bytes. nat_eq (length bytes) 16) c.as_slice.ensures.value ∙ sym (ap has_sixteen_bytes c.in-Ok.ensures.ok)

pub returns-in-Err-DecodeError : goal.returns-in-Err-DecodeError
unfolding is_digest
returns-in-Err-DecodeError c =
    let failed = rw c.in-Err-DecodeError.field-0-is at c.in-Err-DecodeError.ensures.err in
    sym (ap has_sixteen_bytes failed)
