use Rattle.std.proofs.Common.{◌≡◌, subst}
use Rattle.std.specs.Prelude.{IfOk}
use Rattle.account_calls.proofs.SubLists.{list_tag}
use Rattle.account_calls.proofs.sub_manifests.list_etag.Goals as goal

pub returns : goal.returns
returns c = subst (λ t. IfOk c.joined_etag.result (λ etag. etag ≡ t)) (list_tag c.args.listed.now) c.joined_etag.ensures
