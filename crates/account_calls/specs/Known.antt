-- What is known of a store between two operations. Source: this profile.
use Rattle.std.specs.Prelude.{◌≡◌, IsTrue}
use Rattle.swift_calls.specs.Account.{SwiftAccount}
use Rattle.swift_calls.specs.History.{History, present}
use Rattle.upload_records.specs.Native.{IsSettled}
use Rattle.account_calls.specs.declared.state.Known.{Known}
use Rattle.account_calls.specs.declared.state.Known.TheVariants.{Settled}

-- what is known of an account is so
abbrev pub IsKnown : Known → SwiftAccount → Type 0
IsKnown known tree = known ≡ Settled → IsSettled tree

-- and of a store, where it is observable
abbrev pub Knows : Known → History → Type 0
Knows known h = IsTrue h.observable → IsKnown known (present h)
