-- The texts of a listing may be markers.
use Rattle.std.proofs.Common.{◌≡◌, ℕ, ◌==◌, true, false, if◌then◌else◌, List, [], Option, None, Some, IfSome, refl, sym, subst}
use Rattle.std.specs.Option.{unwrap_or}
use Rattle.s3_machine.specs.Limits.{is_listing_text}
use Rattle.s3_machine.specs.Proper.{IsProperAsked}
use Rattle.s3_machine.specs.declared.items.Asked.{Asked}
use Rattle.swift_calls.specs.Limits.{IsMarker}
use Rattle.list_pages.specs.Jumps.{next_marker}
use Rattle.list_pages.specs.Rolls.{Rolls, wanted}
use Rattle.list_pages.proofs.lemmas.Rising.{upto_same}
use Rattle.account_calls.specs.Keys.{StandsBehind}
use Rattle.account_calls.proofs.Taken.{listing_is_marker}

pub prefix_is_marker : (asked : Asked) → IsProperAsked asked → IsMarker asked.prefix
prefix_is_marker asked proper = listing_is_marker asked.prefix proper.prefix

token_is_text : (token : Option (List ℕ)) (after : List ℕ) → IfSome token (λ text. is_listing_text text ≡ true) → is_listing_text after ≡ true → is_listing_text (unwrap_or token after) ≡ true
token_is_text None after token_is is = is
token_is_text (Some text) after token_is is = token_is

pub asked_is_text : (asked : Asked) → IsProperAsked asked → is_listing_text (wanted asked).marker ≡ true
asked_is_text asked proper = elim (asked.version == 2) as (λ t. is_listing_text (if t then unwrap_or asked.token asked.start_after else asked.marker) ≡ true) [
  | true ↦ token_is_text asked.token asked.start_after proper.token proper.start_after
  | false ↦ proper.marker
]

-- before the first page
pub stands_first : (asked : Asked) → IsProperAsked asked → (roll : Rolls)
    → roll ≡ record { wanted = wanted asked; items = []; more = false; last = next_marker asked.prefix asked.delimiter (wanted asked).marker } → StandsBehind roll
stands_first asked proper roll is = subst StandsBehind (sym is) (record {
  name = (wanted asked).marker;
  is_text = asked_is_text asked proper;
  from = upto_same (wanted asked).marker (wanted asked).marker refl;
  last = refl;
})
