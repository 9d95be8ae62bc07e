-- Where a listing goes on behind the last name that was taken: behind all keys of its common prefix, where it rolls up into
-- one. Source: RFC 3629 (the greatest character), and this profile.
use Rattle.std.specs.Prelude.{◌≡◌, ℕ, zero, suc, ◌+◌, ◌-◌, ◌/◌, nat_lt, true, cond, List, [], ◌∷◌, ◌++◌, length, drop, Option, None, Some}
use Rattle.s3_names.specs.declared.key.TheConstants.{MOST_KEY_BYTES}
use Rattle.s3_machine.specs.Items.{begins, roll_by, row_of}
use Rattle.s3_machine.specs.Limits.{is_listing_text}
use Rattle.s3_machine.specs.declared.items.ItemHead.{ItemHead}
use Rattle.list_pages.specs.Listing.{is_listed_name_with_prefix}
use Rattle.list_pages.specs.Rolling.{UpTo}
use Rattle.list_pages.specs.Rolls.{Rolls}

-- U+10FFFF, the greatest character, so many times: no text of UTF-8 with fewer bytes comes after it
abbrev pub greatest_times : ℕ → List ℕ
greatest_times zero = []
greatest_times (suc n) = 0xF4 ∷ 0x8F ∷ 0xBF ∷ 0xBF ∷ greatest_times n

-- how many of them make a text of so many bytes longer than a key: none, where it is
abbrev pub times_past : ℕ → ℕ
times_past bytes = cond (nat_lt MOST_KEY_BYTES bytes) 0 ((MOST_KEY_BYTES - bytes) / 4 + 1)

-- a text that no key with this beginning comes after
abbrev pub past_all : List ℕ → List ℕ
past_all text = text ++ greatest_times (times_past (length text))

-- the text after which the next page of names is asked for, behind a name with the prefix, by what it rolls up into there
abbrev pub marker_by : List ℕ → List ℕ → Option (List ℕ) → List ℕ
marker_by prefix name None = name
marker_by prefix name (Some text) = past_all (prefix ++ text)

-- and behind any name
abbrev pub next_marker : List ℕ → List ℕ → List ℕ → List ℕ
next_marker prefix delimiter name = cond (begins prefix name) (marker_by prefix name (roll_by delimiter (drop (length prefix) name))) name

-- of what is wanted and taken, all stays but the last name
abbrev pub jumped : Rolls → Rolls
jumped rolls = record { wanted = rolls.wanted; items = rolls.items; more = rolls.more; last = next_marker rolls.wanted.prefix rolls.wanted.delimiter rolls.last }

-- exactly those keys are left out that can show nothing more: a key is up to the next marker where its text is up to the name
abbrev pub JumpsExactly : Type 0
JumpsExactly = (prefix delimiter name key : List ℕ) (head : ItemHead) → is_listing_text delimiter ≡ true → is_listing_text name ≡ true
    → is_listed_name_with_prefix prefix key ≡ true
    → (UpTo key (next_marker prefix delimiter name) → UpTo (row_of prefix delimiter (key, head)).0 name)
    × (UpTo (row_of prefix delimiter (key, head)).0 name → UpTo key (next_marker prefix delimiter name))
