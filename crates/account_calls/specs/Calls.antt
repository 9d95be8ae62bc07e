-- What the calls of an operation mean for the S3 state: some leave it and tell of it, and one changes it. Source: this profile.
use Rattle.std.specs.Prelude.{◌≡◌, ◌⊎◌, ◌≤◌, ℕ, ◌+◌, Bool, true, false, IsTrue, is_some, List, Option, None, Some, IfSome, Result, Ok, Err, IfOk}
use Rattle.std.specs.Option.{option_and_then, option_map}
use Rattle.std.specs.FinMap.{get, insert, remove}
use Rattle.gate_base.specs.Causes.{Rose}
use Rattle.gate_base.specs.Maps.{adjust}
use Rattle.gate_base.specs.declared.page.Pair.{Pair}
use Rattle.s3_names.specs.declared.acl.Acl.{Acl}
use Rattle.s3_machine.specs.declared.operation.ObjectHead.{ObjectHead}
use Rattle.s3_machine.specs.State.{Object, Bucket, State}
use Rattle.s3_machine.specs.Step.{new_bucket, is_bare, with_acl, new_object, head_of, put_object, drop_object}
use Rattle.swift_calls.specs.Account.{SwiftAccount, find_object}
use Rattle.swift_calls.specs.Bodies.{ranged}
use Rattle.swift_calls.specs.Bodies as bodies
use Rattle.swift_calls.specs.History.{History, present, Extends}
use Rattle.swift_calls.specs.declared.heads.StoredHead.{StoredHead}
use Rattle.swift_marks.specs.declared.tag.Tag.{Tag}
use Rattle.swift_marks.specs.Tag.{read_tag}
use Rattle.upload_records.specs.Native.{object_at, IsSettled, s3_state}
use Rattle.upload_records.specs.Consistent.{IsConsistent}
use Rattle.account_calls.specs.declared.bucket.Dropped.{Dropped}
use Rattle.account_calls.specs.declared.bucket.Dropped.TheVariants.{Gone, Full, Missing}
use Rattle.account_calls.specs.declared.fault.PlanFault.{PlanFault}
use Rattle.account_calls.specs.declared.fault.PlanFault.TheVariants.{Failed, Memory, Inconsistent}
use Rattle.account_calls.specs.Fault.{CausesFault}
use Rattle.account_calls.specs.Interpret.{object_head_agrees_with_tag}
use Rattle.account_calls.specs.Stutters.{Stutters, LastFailed}

-- calls were made, and the history went on. Where the store is observable and sure, its count of faults stayed as it was at
-- each of them
pub record GoesOn (old new : History) : Type 0 where
  pub ordered : old.called ≤ new.called
  pub faults : old.faults ≤ new.faults
  pub observable : IsTrue old.observable → IsTrue new.observable
  pub told : IsTrue new.observable → IsTrue old.observable
  pub sure : IsTrue old.sure → IsTrue new.sure
  pub never : IsTrue old.observable → IsTrue old.sure → (k : ℕ) → old.called ≤ k → k ≤ new.called
      → new.faults_at k ≡ old.faults_at old.called
  pub kept : IsTrue old.observable → Extends old.called old new

-- how many calls are made at most: over every store, or by the account, where the store tells it and it is consistent
pub data Bound : Type 0 where
  always : ℕ → Bound
  by_account : ℕ → Bound

abbrev pub amount : Bound → ℕ
amount (always n) = n
amount (by_account n) = n

-- from p to q no more calls are made than that, where the premises of a bound by the account hold
abbrev pub IsWithin : Bound → Type 0 → ℕ → ℕ → Type 0
IsWithin (always n) premises p q = q ≤ p + n
IsWithin (by_account n) premises p q = premises → q ≤ p + n

-- the store is observable, its account is consistent, and this is given of it
pub record Met (given : SwiftAccount → Type 0) (h : History) : Type 0 where
  pub observable : IsTrue h.observable
  pub sound : IsConsistent (present h)
  pub has : given (present h)

-- the history went on, by at most so many calls
pub record Grows (most : Bound) (given : SwiftAccount → Type 0) (old new : History) : Type 0 where
  pub on : GoesOn old new
  pub calls : IsWithin most (Met given old) old.called new.called

-- ---- where the store is observable, and its account is consistent

-- what is given of the account that the calls begin on: no completion is sealed, and this
pub record GivenOf (P : SwiftAccount → Type 0) (tree : SwiftAccount) : Type 0 where
  pub settled : IsSettled tree
  pub is : P tree

-- the same, where this is said of the state
abbrev pub Given : (State → Type 0) → SwiftAccount → Type 0
Given P = GivenOf (λ tree. P (s3_state tree))

-- calls that leave the state, whether they write or not: answered, P says it of the account before and after them; where
-- memory ran out, or where the store failed, they told nothing
abbrev pub Keeps : {T : Type 0} → History → ℕ → ℕ → (SwiftAccount → SwiftAccount → T → Type 0) → Result T PlanFault → Type 0
Keeps h p q P (Ok told) = Stutters h p q × (h.faults_at q ≡ h.faults_at p) × P (h.account_at p) (h.account_at q) told
Keeps h p q P (Err Failed) = Stutters h p q × LastFailed h p q
Keeps h p q P (Err Memory) = Stutters h p q × (h.faults_at q ≡ h.faults_at p)
Keeps h p q P (Err Inconsistent) = ⊥

-- what is told is of the state, and the account is left as it is
pub record Tells {T : Type 0} (P : State → T → Type 0) (old new : SwiftAccount) (told : T) : Type 0 where
  pub of_state : P (s3_state old) told
  pub same : new ≡ old

-- the last call before q had its effect: S allows the state after it by the state at p, and it may be the same. The calls before
-- it left the state, and none of them failed
pub record Commits (h : History) (p q : ℕ) (S : State → State → Type 0) : Type 0 where
  pub last : ℕ
  pub quiet : Stutters h p last
  pub no_fault : h.faults_at last ≡ h.faults_at p
  pub next : q ≡ last + 1
  pub sound : IsConsistent (h.account_at q)
  pub made : S (s3_state (h.account_at p)) (s3_state (h.account_at q))

-- the last call had its effect, whatever it would have told
abbrev pub CommitsUntold : {T : Type 0} → History → ℕ → ℕ → (T → State → State → Type 0) → Type 0
CommitsUntold {T = T} h p q S = (told : T) × Commits h p q (S told)

-- calls of which the last may change the state: what is told says how, by the state before and the state after. Where a call
-- failed, the state stayed, or the last one took its effect and was counted as failed
abbrev pub Writes : {T : Type 0} → History → ℕ → ℕ → (T → State → State → Type 0) → Result T PlanFault → Type 0
Writes h p q S (Ok told) = Commits h p q (S told) × (h.faults_at q ≡ h.faults_at p)
Writes h p q S (Err Failed) = (Stutters h p q × LastFailed h p q) ⊎ (CommitsUntold h p q S × Rose (h.faults_at p) (h.faults_at q))
Writes h p q S (Err Memory) = (Stutters h p q ⊎ CommitsUntold h p q S) × (h.faults_at q ≡ h.faults_at p)
Writes h p q S (Err Inconsistent) = ⊥

-- ---- a function that makes calls, over every store

-- calls that leave the state, where this is given of the account that they begin on
pub record Asks {T : Type 0} (most : Bound) (old new : History) (given : SwiftAccount → Type 0)
    (P : SwiftAccount → SwiftAccount → T → Type 0) (result : Result T PlanFault) : Type 0 where
  pub grows : Grows most given old new
  pub cause : CausesFault old.faults new.faults result
  pub effect : Met given old → Keeps new old.called new.called P result
  pub settled : IsTrue old.observable → IsSettled (present old) → IsSettled (present new)

-- calls of which the last may change the state, where this is given of the account that they begin on
pub record Changes {T : Type 0} (most : Bound) (old new : History) (given : SwiftAccount → Type 0)
    (S : T → State → State → Type 0) (result : Result T PlanFault) : Type 0 where
  pub grows : Grows most given old new
  pub cause : CausesFault old.faults new.faults result
  pub effect : Met given old → Writes new old.called new.called S result
  pub settled : IsTrue old.observable → IsSettled (present old) → IsSettled (present new)

-- calls of which the last may change the state, after which this holds of the account where they were answered
pub record ChangesTo {T : Type 0} (most : Bound) (old new : History) (given : SwiftAccount → Type 0)
    (S : T → State → State → Type 0) (Q : SwiftAccount → Type 0) (result : Result T PlanFault) : Type 0 where
  pub changes : Changes most old new given S result
  pub leaves : Met given old → IfOk result (λ told. Q (present new))

-- ---- what is told, and what is changed

abbrev pub acl_of_bucket : Bucket → Acl
acl_of_bucket bucket = bucket.acl

-- the access control list of a bucket, if it is there
abbrev pub TellsBucket : List ℕ → State → Option Acl → Type 0
TellsBucket name state told = option_map acl_of_bucket (get state name) ≡ told

-- the head of an object, if it is there
abbrev pub TellsObject : List ℕ → List ℕ → State → Option ObjectHead → Type 0
TellsObject bucket key state told = option_map head_of (object_at (get state bucket) key) ≡ told

abbrev pub bytes_in : Object → List ℕ
bytes_in object = object.bytes

-- the bytes of an object, or those of a range by its first and its last, if the object is there and has one of them
abbrev pub TellsBytes : List ℕ → List ℕ → Option (ℕ × ℕ) → State → Option (List ℕ) → Type 0
TellsBytes bucket key range state told = option_and_then (ranged range) (option_map bytes_in (object_at (get state bucket) key)) ≡ told

-- the object is there, with this ETag and this size
abbrev pub HasObject : List ℕ → List ℕ → List ℕ → ℕ → State → Type 0
HasObject bucket key etag size state = (head : ObjectHead) × TellsObject bucket key state (Some head) × (head.etag ≡ etag) × (head.size ≡ size)

-- the file of an object is there: it is what its tag says, of an object with this ETag and this size. One that was put in one
-- piece has the ETag itself
pub record IsStoredAs (tree : SwiftAccount) (container name etag : List ℕ) (size : ℕ) : Type 0 where
  pub head : StoredHead
  pub tag : Tag
  pub there : option_map bodies.head_of (find_object tree container name) ≡ Some head
  pub tagged : read_tag head.content_type ≡ Some tag
  pub as_tagged : object_head_agrees_with_tag head tag ≡ true
  pub has_etag : tag.etag ≡ etag
  pub has_size : head.size ≡ size

-- where the store is observable, bytes are given of an object with this ETag and this size alone, whether its account is
-- consistent or not
abbrev pub GivesUnchanged : History → List ℕ → List ℕ → List ℕ → ℕ → Result (Option (List ℕ)) PlanFault → Type 0
GivesUnchanged h bucket key etag size result =
    IsTrue h.observable → IfOk result (λ given. IfSome given (λ bytes. IsStoredAs (present h) bucket key etag size))

-- nothing is given, of a state or of an account
abbrev pub Any : {A : Type 0} → A → Type 0
Any a = Unit {0}

-- the bucket is there
abbrev pub HasBucket : List ℕ → State → Type 0
HasBucket name state = (acl : Acl) × TellsBucket name state (Some acl)

-- the bucket is missing
abbrev pub LacksBucket : List ℕ → State → Type 0
LacksBucket name state = get state name ≡ None

-- a change that tells nothing
abbrev pub Becomes : (State → State) → Unit {0} → State → State → Type 0
Becomes f done old new = new ≡ f old

-- a bucket is made
abbrev pub makes_bucket : List ℕ → Acl → ℕ → State → State
makes_bucket name acl moment state = insert state name (new_bucket moment acl)

-- a bucket is deleted, or it has an object, or it is missing
abbrev pub DropsBucket : List ℕ → Dropped → State → State → Type 0
DropsBucket name Gone old new = (option_map is_bare (get old name) ≡ Some true) × (new ≡ remove old name)
DropsBucket name Full old new = (option_map is_bare (get old name) ≡ Some false) × (new ≡ old)
DropsBucket name Missing old new = (get old name ≡ None) × (new ≡ old)

-- the access control list of a bucket is replaced, or the bucket is missing
abbrev pub SetsAcl : List ℕ → Acl → Bool → State → State → Type 0
SetsAcl name acl true old new = (is_some (get old name) ≡ true) × (new ≡ adjust name (with_acl acl) old)
SetsAcl name acl false old new = (get old name ≡ None) × (new ≡ old)

-- an object is put into a bucket, as one whose body came at a moment
abbrev pub puts_object : List ℕ → List ℕ → List ℕ → List Pair → List ℕ → ℕ → State → State
puts_object bucket key content_type meta body moment state = adjust bucket (put_object key (new_object moment content_type meta body)) state

-- an object of a bucket is deleted
abbrev pub drops_object : List ℕ → List ℕ → State → State
drops_object bucket key state = adjust bucket (drop_object key) state
