use Rattle.std.proofs.Common.{◌≡◌, subst, rules}
use Rattle.std.specs.Prelude.{IfOk}
use Rattle.swift_requests.proofs.ListingLemmas.{names_behind_limit}
use Rattle.swift_requests.proofs.listings.names_listing_call.Goals as goal

pub returns-in-Some : goal.returns-in-Some
returns-in-Some c =
    subst (λ asked. IfOk c.names_call_behind_limit.result (λ call. call ≡ asked)) (names_behind_limit c.args.container c.args.query.now c.in-Some.rest.now c.in-Some.limit (search rules))
    c.names_call_behind_limit.ensures
