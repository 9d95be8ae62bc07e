use Rattle.std.proofs.Common.{◌≡◌, ◌++◌, take}
use Rattle.s3_pages.proofs.context.append_copies.Given as goal

abbrev pub invariant-loop-header : goal.invariant-loop-header
invariant-loop-header l = l.all ≡ l.initial.all ++ take l.header-index l.headers
