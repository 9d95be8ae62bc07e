use Rattle.std.proofs.Common.{◌≡◌, [], take}
use Rattle.std.specs.Prelude.{fold}
use Rattle.request_fields.specs.Content.{entered}
use Rattle.request_fields.proofs.content.given_meta.Given as goal

abbrev pub invariant-loop-header : goal.invariant-loop-header
invariant-loop-header l = l.meta ≡ fold (entered l.headers) [] (take l.header-index l.headers)
