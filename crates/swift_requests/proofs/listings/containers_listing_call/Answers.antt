use Rattle.std.proofs.Common.{◌≡◌, subst, rules}
use Rattle.std.specs.Prelude.{IfOk}
use Rattle.swift_requests.proofs.ListingLemmas.{containers_behind_limit}
use Rattle.swift_requests.proofs.listings.containers_listing_call.Goals as goal

pub returns-in-Some : goal.returns-in-Some
returns-in-Some c =
    subst (λ asked. IfOk c.containers_call_behind_limit.result (λ call. call ≡ asked)) (containers_behind_limit c.args.query.now c.in-Some.rest.now c.in-Some.limit (search rules))
    c.containers_call_behind_limit.ensures
