-- A page of the names of a container, over every store. Source: Object Storage API v1, "Show container details and list
-- objects".
use Rattle.std.specs.Prelude.{◌≡◌, ◌≤◌, ⊤, ℕ, Bool, true, ◌&&◌, List, [], ◌∷◌, ◌++◌, length, map, Option, None, Some, Result, Ok, Err}
use Rattle.std.specs.List.{list_all}
use Rattle.std.specs.declared.cmp.Ordering.TheVariants.{Less}
use Rattle.std.specs.Ordering.{is_lt}
use Rattle.gate_base.specs.Maps.{name_cmp}
use Rattle.s3_names.specs.Key.{is_key}
use Rattle.s3_machine.specs.Items.{begins}
use Rattle.swift_calls.specs.History.{History, Calls}
use Rattle.swift_calls.specs.declared.calls.SwiftFault.{SwiftFault}
use Rattle.swift_calls.specs.declared.calls.SwiftFault.TheVariants as swift
use Rattle.swift_calls.specs.declared.calls.SwiftReply.{SwiftReply}
use Rattle.swift_calls.specs.declared.calls.SwiftReply.TheVariants.{Names, NotFound}
use Rattle.swift_calls.specs.declared.calls.SwiftRequest.{SwiftRequest}
use Rattle.swift_calls.specs.declared.calls.SwiftRequest.TheVariants.{ListNames}
use Rattle.swift_calls.specs.declared.heads.NameItem.{NameItem}
use Rattle.list_pages.specs.declared.page.TheConstants.{MOST_NAMES}
use Rattle.list_pages.specs.declared.fault.PageFault.{PageFault}
use Rattle.list_pages.specs.declared.fault.PageFault.TheVariants.{Failed, Memory, Inconsistent}

-- the names ascend strictly in the order of their bytes, and come after a marker
abbrev pub Ascends : List ℕ → List (List ℕ) → Type 0
Ascends marker [] = Unit {0}
Ascends marker (name ∷ names) = (name_cmp marker name ≡ Less) × Ascends name names

-- the last of some names, or the marker before them
abbrev pub last_of : List ℕ → List (List ℕ) → List ℕ
last_of marker [] = marker
last_of marker (name ∷ names) = last_of name names

-- the name of an object, 1 to 1024 bytes of UTF-8 without byte 0, that begins with a prefix
abbrev pub is_listed_name_with_prefix : List ℕ → List ℕ → Bool
is_listed_name_with_prefix prefix name = is_key name && begins prefix name

-- the names that a page after a marker may have
pub record IsPageOf (prefix marker : List ℕ) (names : List (List ℕ)) : Type 0 where
  pub within : length names ≤ MOST_NAMES
  pub ascends : Ascends marker names
  pub named : list_all (is_listed_name_with_prefix prefix) names ≡ true

-- the first name by which names are no such page: those before it are one, and with it they are none
pub record BreaksAt (prefix marker : List ℕ) (names : List (List ℕ)) (name : List ℕ) : Type 0 where
  pub front : List (List ℕ)
  pub rest : List (List ℕ)
  pub at : names ≡ front ++ name ∷ rest
  pub sound : IsPageOf prefix marker front
  pub odd : IsPageOf prefix marker (front ++ name ∷ []) → ⊥

-- what a search for such a name finds
abbrev pub FindsOdd : List ℕ → List ℕ → List (List ℕ) → Option (List ℕ) → Type 0
FindsOdd prefix marker names None = IsPageOf prefix marker names
FindsOdd prefix marker names (Some name) = BreaksAt prefix marker names name

-- whether a name may come next after another
abbrev pub follows : List ℕ → List ℕ → List ℕ → Bool
follows prefix last name = is_lt (name_cmp last name) && is_listed_name_with_prefix prefix name

abbrev pub name_in : NameItem → List ℕ
name_in item = item.name

-- what a page tells, by the store's answer: of a container that is missing nothing
abbrev pub IsTold : List ℕ → List ℕ → SwiftReply → List NameItem → Type 0
IsTold prefix marker (Names items) told = (told ≡ items) × IsPageOf prefix marker (map name_in items)
IsTold prefix marker NotFound told = told ≡ []
IsTold prefix marker _ told = ⊥

-- the name that an answer is refused for: another answer than a listing has none
abbrev pub IsOdd : List ℕ → List ℕ → SwiftReply → List ℕ → Type 0
IsOdd prefix marker (Names items) name = BreaksAt prefix marker (map name_in items) name
IsOdd prefix marker NotFound name = ⊥
IsOdd prefix marker _ name = name ≡ []

-- what an answer of the store comes to; memory may run out for any
abbrev pub ComesTo : List ℕ → List ℕ → List ℕ → SwiftReply → Result (List NameItem) PageFault → Type 0
ComesTo container prefix marker reply (Ok told) = IsTold prefix marker reply told
ComesTo container prefix marker reply (Err Failed) = ⊥
ComesTo container prefix marker reply (Err Memory) = ⊤
ComesTo container prefix marker reply (Err (Inconsistent folder name)) = (folder ≡ container) × IsOdd prefix marker reply name

-- the fault of a container and a name; or there was no memory to name them
abbrev pub IsFaultOf : List ℕ → List ℕ → PageFault → Type 0
IsFaultOf container name Failed = ⊥
IsFaultOf container name Memory = ⊤
IsFaultOf container name (Inconsistent folder odd) = (folder ≡ container) × (odd ≡ name)

-- and a call that wasn't answered
abbrev pub EndsWith : List ℕ → List ℕ → List ℕ → Result SwiftReply SwiftFault → Result (List NameItem) PageFault → Type 0
EndsWith container prefix marker (Ok reply) result = ComesTo container prefix marker reply result
EndsWith container prefix marker (Err swift.Failed) result = result ≡ Err Failed
EndsWith container prefix marker (Err swift.Memory) result = result ≡ Err Memory

-- the call that asks for a page
abbrev pub page_request : List ℕ → List ℕ → List ℕ → SwiftRequest
page_request container prefix marker = ListNames container prefix marker MOST_NAMES

-- a page was asked for by one call of the store; or memory ran out before it
pub data AsksPage (old new : History) (container prefix marker : List ℕ) (result : Result (List NameItem) PageFault) : Type 0 where
  asked : (answered : Result SwiftReply SwiftFault) → Calls old new (page_request container prefix marker) answered
      → EndsWith container prefix marker answered result
      → AsksPage old new container prefix marker result
  not_asked : new ≡ old → result ≡ Err Memory → AsksPage old new container prefix marker result
