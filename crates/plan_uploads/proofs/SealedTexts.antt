-- The ETag of a completion is one that a text may have.
use Rattle.std.proofs.Common.{◌≡◌, ℕ, ◌≤◌, true, List, length}
use Rattle.std.specs.Prelude.{flat_map}
use Rattle.md5.specs.Md5.{md5}
use Rattle.hex.specs.Hex.{encode_lower}
use Rattle.s3_machine.specs.ETag.{body_etag}
use Rattle.s3_machine.specs.Uploads.{digest_in, upload_etag}
use Rattle.swift_marks.specs.Tag as mark
use Rattle.swift_marks.proofs.lemmas.FieldLaws.{etag_of_parts}
use Rattle.account_calls.proofs.lemmas.Etags.{etag_digits, etag_length}

pub completion_etag : (etags : List (List ℕ)) → 1 ≤ length etags → length etags ≤ 10000 → mark.is_etag (upload_etag etags) ≡ true
unfolding upload_etag body_etag
completion_etag etags some few =
    let body = flat_map digest_in etags in
    etag_of_parts (encode_lower (md5 body)) (etag_length body) (etag_digits body) (length etags) some few
