-- An account as it is declared, by lists. Source: this profile.
use Rattle.std.specs.Prelude.{◌^◌, Bool, ◌&&◌, map, nat_lt, IsTrue}
use Rattle.std.specs.List.{list_all}
use Rattle.gate_base.specs.Named.{map_of, ascends}
use Rattle.swift_calls.specs.Account.{SwiftContainer, SwiftAccount, file_of, size_of}
use Rattle.swift_calls.specs.declared.account.Stored.{Stored}
use Rattle.planned_swift.specs.declared.account.Container.{Container}
use Rattle.planned_swift.specs.declared.account.Account.{Account}

abbrev pub folder_of : Container → SwiftContainer
folder_of c = record { readers = c.readers; created = c.created; files = map_of (λ s. s.name) file_of c.objects }

-- an account as maps; of two things with one name the first counts
abbrev pub tree_of : Account → SwiftAccount
tree_of account = map_of (λ c. c.name) folder_of account.containers

abbrev pub is_ordered : Account → Bool
is_ordered account = ascends (map (λ c. c.name) account.containers) && list_all (λ c. ascends (map (λ s. s.name) c.objects)) account.containers

-- names ascend strictly in byte order, those of the containers and those of each container's objects
abbrev pub IsOrdered : Account → Type 0
IsOrdered account = IsTrue (is_ordered account)

abbrev pub is_sized_object : Stored → Bool
is_sized_object s = nat_lt (size_of s.content) (2 ^ 63)

abbrev pub is_sized : Account → Bool
is_sized account = list_all (λ c. list_all is_sized_object c.objects) account.containers

-- the size of each object is below 2^63
abbrev pub IsSized : Account → Type 0
IsSized account = IsTrue (is_sized account)
