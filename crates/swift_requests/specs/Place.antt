-- Where an account is, and the token of a message. Source: Object Storage API v1, "X-Auth-Token"; the limits are this
-- profile's.
use Rattle.std.specs.Prelude.{◌≡◌, ℕ, Bool, true, ◌&&◌, nat_le, List, [], ◌∷◌, length, codes}
use Rattle.std.specs.List.{list_all}
use Rattle.gate_base.specs.Ascii.{is_visible}
use Rattle.http_wire.specs.declared.message.Message.{Message}
use Rattle.http_wire.specs.Headers.{values_of}
use Rattle.swift_requests.specs.declared.place.Place.{Place}
use Rattle.swift_requests.specs.declared.place.TheConstants.{MOST_PLACE_BYTES}

-- 1 to 1024 bytes of visible ASCII
abbrev pub is_place_text : List ℕ → Bool
is_place_text text = nat_le 1 (length text) && nat_le (length text) MOST_PLACE_BYTES && list_all is_visible text

-- each text of the place has this form
abbrev pub is_place : Place → Bool
is_place place = is_place_text place.host && is_place_text place.account && is_place_text place.token

abbrev pub IsPlace : Place → Type 0
IsPlace place = is_place place ≡ true

-- the message has exactly one X-Auth-Token, and it is the place's
abbrev pub HasToken : Place → Message → Type 0
HasToken place message = values_of (codes "x-auth-token") message.headers ≡ place.token ∷ []
