-- The moment of a stamp has a date.
use Rattle.std.proofs.Common.{◌≡◌, ◌<◌, List, ℕ, true, arith, ap, sym, ◌∙◌}
use Rattle.std.specs.Prelude.{◌&&◌, nat_eq, nat_lt, Some}
use Rattle.std.specs.List.{ends_with}
use Rattle.std.proofs.lemmas.Bool.{and_parts}
use Rattle.std.proofs.lemmas.Bool.Decides.{nat_tests}
use Rattle.gate_base.specs.Told.{moment_limit}
use Rattle.swift_marks.specs.Number.{id_fits_tag}
use Rattle.swift_marks.specs.Tag.{is_etag, tag_parts, stamp_of, is_stamp, stamp_text, read_stamp}
use Rattle.swift_marks.specs.declared.tag.Stamp.{Stamp}
use Rattle.swift_marks.proofs.lemmas.TagLaws.{kept}

dated : (stamp : Stamp) → is_stamp stamp ≡ true → stamp.moment < moment_limit
unfolding is_stamp
dated stamp h =
    let all = and_parts (is_etag stamp.etag && nat_lt stamp.moment moment_limit) (id_fits_tag stamp.id) h in
    let most = and_parts (is_etag stamp.etag) (nat_lt stamp.moment moment_limit) all.0 in
    grind (arith, nat_tests, most.1)

pub stamp_is_dated : (text : List ℕ) (stamp : Stamp) → read_stamp text ≡ Some stamp → stamp.moment < moment_limit
unfolding read_stamp
stamp_is_dated text stamp h =
    let found = kept (is_stamp (stamp_of (tag_parts text)) && ends_with nat_eq text (stamp_text (stamp_of (tag_parts text)))) (stamp_of (tag_parts text)) stamp h in
    let both = and_parts (is_stamp (stamp_of (tag_parts text))) (ends_with nat_eq text (stamp_text (stamp_of (tag_parts text)))) found.0 in
    dated stamp (ap is_stamp (sym found.1) ∙ both.0)
