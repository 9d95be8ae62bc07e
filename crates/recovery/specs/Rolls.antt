-- A completion that is sealed, and the calls that finish it: how far it is, and what each call leaves. Source: Object Storage API
-- v1, "Static large objects", and this profile.
use Rattle.std.specs.Prelude.{◌≡◌, ◌⊎◌, ◌≤◌, ◌+◌, ℕ, IsTrue, Option, Some, Result, Ok, IfOk}
use Rattle.s3_names.specs.Id.{id_digits}
use Rattle.swift_calls.specs.Account.{SwiftObject, SwiftAccount, files, find_object}
use Rattle.swift_calls.specs.History.{History, present}
use Rattle.swift_calls.specs.declared.calls.SwiftRequest.{SwiftRequest}
use Rattle.upload_texts.specs.declared.sealed.Sealed.{Sealed}
use Rattle.upload_records.specs.Consistent.{HasSubManifests, IsThere}
use Rattle.upload_records.specs.Layout.{uploads_name, segments_name, gateway_name}
use Rattle.upload_records.specs.Native.{object_of, record_at, seal_of, sealed_object, sealed_record, sealed_segments, sub_manifests_of, IsSettled}
use Rattle.account_calls.specs.declared.fault.PlanFault.{PlanFault}
use Rattle.account_calls.specs.Calls.{Met}
use Rattle.account_calls.specs.Puts.{StandsIn}
use Rattle.account_calls.specs.Sealed.{put_object_of, put_record_of}

-- ---- how far a sealed completion is

-- the gateway's own container is there
abbrev pub HasGateway : SwiftAccount → Type 0
HasGateway tree = IsThere tree gateway_name

-- this completion is sealed
pub record IsSealed (s : Sealed) (tree : SwiftAccount) : Type 0 where
  pub gateway : HasGateway tree
  pub is : seal_of tree ≡ Some s

-- the gateway's own container is there, and what is sealed is as it was
pub record OpensGateway (old new : SwiftAccount) (done : Unit {0}) : Type 0 where
  pub there : HasGateway new
  pub same : seal_of new ≡ seal_of old

-- this completion is sealed, and its first sub-manifests are there
pub record HasSubs (s : Sealed) (count : ℕ) (tree : SwiftAccount) : Type 0 where
  pub sealed : IsSealed s tree
  pub subs : HasSubManifests (files tree (segments_name s.bucket)) (id_digits s.id) (sealed_segments s) count

-- and its object is there
pub record HasObject (s : Sealed) (tree : SwiftAccount) : Type 0 where
  pub sealed : IsSealed s tree
  pub file : SwiftObject
  pub there : find_object tree s.bucket s.key ≡ Some file
  pub stands : object_of (files tree (segments_name s.bucket)) s.key file ≡ Some (sealed_object (files tree (segments_name s.bucket)) s)

-- and its record
pub record HasRecord (s : Sealed) (tree : SwiftAccount) : Type 0 where
  pub object : HasObject s tree
  pub kept : record_at (files tree (uploads_name s.bucket)) (id_digits s.id) ≡ Some (sealed_record s)

-- what calls leave, whatever they found
abbrev pub Leaves : (SwiftAccount → Type 0) → SwiftAccount → SwiftAccount → Unit {0} → Type 0
Leaves P old new done = P new

-- over every observable store, whether its account is consistent or not, calls leave the gateway's own container where it is
abbrev pub KeepsGateway : History → History → Type 0
KeepsGateway old new = IsTrue old.observable → HasGateway (present old) → HasGateway (present new)

-- and where they told this over a store that has it, no completion is sealed after them
abbrev pub LeavesClear : {T : Type 0} → T → History → History → Result T PlanFault → Type 0
LeavesClear told old new result = IsTrue old.observable → HasGateway (present old) → result ≡ Ok told → IsSettled (present new)

-- over every observable store, whatever calls came to, what stands in the gateway's own container stays
abbrev pub HoldsSealed : History → History → Type 0
HoldsSealed old new = IsTrue old.observable → files (present new) gateway_name ≡ files (present old) gateway_name

-- the files of its object and of its record stand as they were put
pub record IsFinished (s : Sealed) (tree : SwiftAccount) : Type 0 where
  pub object : StandsIn tree (put_object_of s)
  pub kept : StandsIn tree (put_record_of s)

-- over every observable store, whatever calls came to, both stand, or what is sealed stands as it did
abbrev pub HoldsOrFinished : Sealed → History → History → Type 0
HoldsOrFinished s old new = IsTrue old.observable → (files (present new) gateway_name ≡ files (present old) gateway_name) ⊎ IsFinished s (present new)

-- and calls leave what this request put
abbrev pub KeepsFile : SwiftRequest → History → History → Type 0
KeepsFile request old new = IsTrue old.observable → StandsIn (present old) request → StandsIn (present new) request

-- over every observable store, whether its account is consistent or not, what is told to be sealed is what stands there as such
abbrev pub SaysSealed : History → Result (Option Sealed) PlanFault → Type 0
SaysSealed old result = IsTrue old.observable → IfOk result (λ told. told ≡ seal_of (present old))

-- a completion was sealed, and the files of its object and of its record stand
pub record IsFinishedSince (old new : SwiftAccount) : Type 0 where
  pub s : Sealed
  pub sealed : seal_of old ≡ Some s
  pub finished : IsFinished s new

-- calls that settle, over every observable store, whether its account is consistent or not: whatever they came to, what stands in the
-- gateway's own container stays, or a completion was sealed there and is finished; and after a success one that was sealed is finished
pub record FinishesSealed {T : Type 0} (old new : History) (result : Result T PlanFault) : Type 0 where
  pub rolls : IsTrue old.observable → (files (present new) gateway_name ≡ files (present old) gateway_name) ⊎ IsFinishedSince (present old) (present new)
  pub done : IsTrue old.observable → IfOk result (λ told. (s : Sealed) → seal_of (present old) ≡ Some s → IsFinished s (present new))

-- what is sealed is told, and the account is left as it is
pub record TellsSealed (old new : SwiftAccount) (told : Option Sealed) : Type 0 where
  pub same : new ≡ old
  pub is : told ≡ seal_of old

-- ---- how many calls

-- over a consistent account that is observable: so many calls, and one for each sub-manifest of what is sealed on it
pub record IsCounted (most : ℕ) (given : SwiftAccount → Type 0) (old new : History) : Type 0 where
  pub within : Met given old → new.called ≤ old.called + (most + sub_manifests_of (seal_of (present old)))
