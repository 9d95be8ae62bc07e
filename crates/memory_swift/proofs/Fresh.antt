-- What a store begins with that is made over a shelf, and the place of the one in memory.
use Rattle.std.specs.Prelude.{◌≡◌, ℕ, Bool, true, List, [], codes}
use Rattle.std.proofs.Common.{refl, sym, subst}
use Rattle.swift_calls.specs.Account.{SwiftAccount}
use Rattle.swift_calls.specs.History.{History}
use Rattle.swift_requests.specs.Place.{IsPlace}
use Rattle.swift_requests.specs.declared.place.Place.{Place}
use Rattle.memory_swift.specs.Log.{IsFresh, is_sure_by}

-- the client's history is the link's, and the store's shelf the one that was given
pub fresh_over : {S : Type 0} (told sure : S → Bool) (account : S → SwiftAccount) (before after : List ℕ) (given kept : S) (link client : History) → kept ≡ given → client ≡ link
    → IsFresh (told kept) (is_sure_by (sure kept) before after) (account kept) link → IsFresh (told given) (is_sure_by (sure given) before after) (account given) client
fresh_over told sure account before after given kept link client same over fresh =
    subst (λ (h : History). IsFresh (told given) (is_sure_by (sure given) before after) (account given) h) (sym over)
    (subst (λ s. IsFresh (told s) (is_sure_by (sure s) before after) (account s) link) same fresh)

-- an empty shelf, and no message that is lost
pub fresh_empty : (given kept : SwiftAccount) (before after : List ℕ) (client : History) → kept ≡ given → before ≡ [] → after ≡ []
    → IsFresh true (is_sure_by true before after) kept client → IsFresh true true given client
fresh_empty given kept before after client same none_before none_after fresh =
    subst (λ a. IsFresh true true a client) same (subst (λ b. IsFresh true b kept client) (λ i. is_sure_by true (none_before i) (none_after i)) fresh)

pub memory_is_place : (place : Place) → place.host ≡ codes "memory" → place.account ≡ codes "memory" → place.token ≡ codes "memory" → IsPlace place
memory_is_place place host account token = subst IsPlace (λ i. record { host = sym host i; account = sym account i; token = sym token i }) refl
