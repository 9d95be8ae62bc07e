use Rattle.std.proofs.Common.{◌≡◌, length}
use Rattle.request_fields.specs.Headers.{has_part}
use Rattle.request_fields.proofs.headers.content_encoding_has_word.Given as goal

abbrev pub invariant-bytes : goal.invariant-bytes
invariant-bytes l = has_part l.word l.text ≡ has_part l.word l.rest

abbrev pub decreases-bytes : goal.decreases-bytes
decreases-bytes l = length l.rest
