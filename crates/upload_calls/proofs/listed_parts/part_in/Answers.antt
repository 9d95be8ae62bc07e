use Rattle.list_pages.proofs.lemmas.Dated.{stamp_is_dated}
use Rattle.upload_calls.proofs.listed_parts.part_in.Goals as goal

pub returns-clause-dated : goal.returns-clause-dated
returns-clause-dated c = stamp_is_dated c.as_slice-2.result.now c.in_ok-stamp.stamp c.in_ok-stamp.ensures
