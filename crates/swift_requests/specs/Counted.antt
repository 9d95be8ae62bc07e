-- Lists whose entries are counted as they are passed over, by the tokens of JSON (RFC 8259).
use Rattle.std.specs.Prelude.{◌≡◌, ℕ, suc, ◌+◌, ◌<◌, List, ◌∷◌, None, Some}
use Rattle.json.specs.Token.{Token, begin_array}
use Rattle.json.specs.Json.{Items, no_items, item, items, value, after_end_array, skip_value}

-- how many entries
abbrev pub count : Items → ℕ
count no_items = 0
count (item entry rest) = suc (count rest)

-- an entry, of at most 126 levels
abbrev pub PassesEntry : List Token → List Token → Type 0
PassesEntry old new = (after_end_array old ≡ None) × (skip_value 126 old ≡ Some new)

-- what is read as entries from `start` on is so many, and those that are read from `now` on
abbrev pub Passed : ℕ → List Token → List Token → Type 0
Passed n start now = (turns : ℕ) (all : Items) (end : List Token) → items (value 126) turns start ≡ Some (all, end)
    → (left : ℕ) × (rest : Items) × (items (value 126) left now ≡ Some (rest, end)) × (count all ≡ n + count rest)

-- what is read as entries is more of them than a list of segments may have
abbrev pub HasMore : List Token → Type 0
HasMore ts = (turns : ℕ) (all : Items) (end : List Token) → items (value 126) turns ts ≡ Some (all, end) → 1000 < count all

-- a list of such
abbrev pub IsLong : List Token → Type 0
IsLong ts = (start : List Token) × (ts ≡ begin_array ∷ start) × HasMore start
