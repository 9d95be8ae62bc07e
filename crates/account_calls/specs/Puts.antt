-- A file that is put: that it stands then, and the ETag that a store has of it. Source: Object Storage API v1, "Create or replace
-- object" and "Static large objects", and this profile.
use Rattle.std.specs.Prelude.{◌≡◌, IsTrue, List, [], ℕ, Some, Result, IfOk}
use Rattle.s3_machine.specs.ETag.{body_etag}
use Rattle.s3_machine.specs.declared.operation.Reply.{Reply}
use Rattle.s3_machine.specs.declared.operation.Reply.TheVariants.{Refused, Memory}
use Rattle.swift_calls.specs.Account.{SwiftAccount, find_object}
use Rattle.swift_calls.specs.Bodies.{etag_of}
use Rattle.swift_calls.specs.History.{History, present}
use Rattle.swift_calls.specs.Step.{plain_file}
use Rattle.swift_calls.specs.declared.account.Content.TheVariants.{Segments}
use Rattle.swift_calls.specs.declared.calls.SwiftRequest.{SwiftRequest}
use Rattle.swift_calls.specs.declared.calls.SwiftRequest.TheVariants.{PutManifest, PutObject}
use Rattle.account_calls.specs.declared.fault.PlanFault.{PlanFault}

-- ---- that it stands

-- the file that a request puts stands in the account as it was put; a request other than these puts none
abbrev pub StandsIn : SwiftAccount → SwiftRequest → Type 0
StandsIn tree (PutObject put) = find_object tree put.container put.name ≡ Some (plain_file put)
StandsIn tree (PutManifest container name content_type meta segments) =
    find_object tree container name ≡ Some (record { content_type = content_type; meta = meta; content = Segments segments })
StandsIn tree _ = Unit {0}

-- where the store is observable, whether its account is consistent or not, this holds of it after a success
pub record Ensures {T : Type 0} (h : History) (P : SwiftAccount → Type 0) (result : Result T PlanFault) : Type 0 where
  pub so : IsTrue h.observable → IfOk result (λ told. P (present h))

-- and it is that the file stands that this request puts
abbrev pub Stands : {T : Type 0} → History → SwiftRequest → Result T PlanFault → Type 0
Stands h request result = Ensures h (λ tree. StandsIn tree request) result

-- this holds where a reply says that the operation was done
abbrev pub IfDone : Reply → Type 0 → Type 0
IfDone (Refused code) P = Unit {0}
IfDone Memory P = Unit {0}
IfDone _ P = P

-- where the store is observable, whether its account is consistent or not, this holds of it after an operation that was done
pub record EnsuresIfDone (h : History) (P : SwiftAccount → Type 0) (end : Result Reply PlanFault) : Type 0 where
  pub so : IsTrue h.observable → IfOk end (λ reply. IfDone reply (P (present h)))

-- ---- its ETag

-- the ETag that a store has of the file that a request puts; of a request that puts none that of no byte
abbrev pub etag_put : SwiftRequest → List ℕ
etag_put (PutObject put) = body_etag put.body
etag_put (PutManifest container name content_type meta segments) = etag_of (Segments segments)
etag_put _ = body_etag []
