use Rattle.std.proofs.Common.{arith}
use Rattle.list_pages.proofs.lemmas.Greatest.{appended_all, appended_more}
use Rattle.list_pages.proofs.text.append_greatest.Goals as goal

pub characters-preserved : goal.characters-preserved
characters-preserved c = appended_more c.append.new.self c.characters.invariant (omega (arith, c.len.ensures, c.characters-test.true)) c.in_ok-append.ensures.ok

pub returns : goal.returns
returns c = appended_all c.characters.invariant (omega (arith, c.len.ensures, c.characters-test.false))
