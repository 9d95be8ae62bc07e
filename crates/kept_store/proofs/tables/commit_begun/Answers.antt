use Rattle.kept_store.specs.Kept.{Commits}
use Rattle.kept_store.proofs.tables.commit_begun.Goals as goal

pub returns : goal.returns
unfolding Commits
returns g c = (
  c.executed.new.connection,
  c.executed-2.new.connection,
  c.numbered.new.connection,
  _,
  c.in_ok-executed.ensures,
  c.in_ok-count.ensures,
  c.in_ok-numbered.ensures,
  c.in_ok-executed-2.ensures,
)
