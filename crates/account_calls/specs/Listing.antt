-- The containers of an account, as a listing tells them page by page, and the buckets among them. Source: Object Storage API
-- v1, "Show account details and list containers", and this profile.
use Rattle.std.specs.Prelude.{
  ◌≡◌,
  ◌≤◌,
  ◌+◌,
  ◌-◌,
  ℕ,
  nat_le,
  nat_lt,
  Bool,
  true,
  ◌&&◌,
  IsTrue,
  cond,
  List,
  [],
  ◌∷◌,
  ◌++◌,
  map,
  length,
  take,
  slice_get,
  is_some,
  Option,
  None,
  Some,
  Result,
  Ok,
  Err,
  IfOk,
}
use Rattle.std.specs.List.{AllByRecursion, filter}
use Rattle.std.specs.Ordering.{is_gt, is_lt}
use Rattle.std.specs.Option.{unwrap_or}
use Rattle.std.specs.FinMap.{get, keys}
use Rattle.gate_base.specs.Maps.{name_cmp}
use Rattle.gate_base.specs.Told.{moment_limit}
use Rattle.s3_names.specs.Bucket.{is_bucket}
use Rattle.s3_machine.specs.declared.items.BucketItem.{BucketItem}
use Rattle.s3_machine.specs.State.{State}
use Rattle.s3_machine.specs.Step.{bucket_items}
use Rattle.swift_calls.specs.Account.{SwiftContainer, SwiftAccount}
use Rattle.swift_calls.specs.History.{History, present}
use Rattle.swift_calls.specs.Limits.{IsMarker}
use Rattle.swift_calls.specs.declared.calls.SwiftReply.{SwiftReply}
use Rattle.swift_calls.specs.declared.calls.SwiftReply.TheVariants.{Containers, Readers}
use Rattle.upload_records.specs.Native.{IsSettled}
use Rattle.upload_records.specs.Consistent.{IsThere}
use Rattle.account_calls.specs.declared.listing.TheConstants.{MOST_NAMES}
use Rattle.account_calls.specs.declared.fault.PlanFault.{PlanFault}
use Rattle.account_calls.specs.declared.fault.PlanFault.TheVariants.{Inconsistent}

-- what is told is of the account, which is left as it is
pub record TellsOf {T : Type 0} (P : SwiftAccount → T → Type 0) (old new : SwiftAccount) (told : T) : Type 0 where
  pub of_account : P old told
  pub same : new ≡ old

-- ListBuckets: all buckets, in byte order of their names
abbrev pub TellsBuckets : State → List BucketItem → Type 0
TellsBuckets state told = told ≡ bucket_items state

-- ---- the names of the containers

-- how many names a page has at most
abbrev pub most_names : ℕ
most_names = MOST_NAMES

-- the names after a marker
abbrev pub after : List ℕ → List (List ℕ) → List (List ℕ)
after marker names = filter (λ name. is_gt (name_cmp name marker)) names

-- all names, in byte order
abbrev pub TellsNames : SwiftAccount → List (List ℕ) → Type 0
TellsNames tree told = told ≡ keys tree

-- where the store is observable, whether its account is consistent or not, there is a container of each name that is told
abbrev pub NamesContainers : History → Result (List (List ℕ)) PlanFault → Type 0
NamesContainers h result = IsTrue h.observable → IfOk result (AllByRecursion (IsThere (present h)))

-- a page of names
abbrev pub TellsPage : List ℕ → SwiftAccount → List (List ℕ) → Type 0
TellsPage marker tree told = told ≡ take most_names (after marker (keys tree))

-- a listing of the account may be asked for after this marker, be the account settled or not
pub record MayListAfter (marker : List ℕ) (tree : SwiftAccount) : Type 0 where
  pub is_marker : IsMarker marker

-- the marker of the next page, by a page: a shorter page is the last one
abbrev pub next_marker : List (List ℕ) → Option (List ℕ)
next_marker page = cond (nat_lt (length page) most_names) None (slice_get page (length page - 1))

-- a page was added to names: those after its marker are there, or so far as to the next one, behind which fewer are left
pub record GoesOnAfter (marker next : List ℕ) (old new : List (List ℕ)) (tree : SwiftAccount) : Type 0 where
  pub names : new ++ after next (keys tree) ≡ old ++ after marker (keys tree)
  pub fewer : length (after next (keys tree)) + most_names ≤ length (after marker (keys tree))
  pub is_marker : IsMarker next

abbrev pub TellsNext : List ℕ → List (List ℕ) → List (List ℕ) → SwiftAccount → Option (List ℕ) → Type 0
TellsNext marker old new tree None = new ≡ old ++ after marker (keys tree)
TellsNext marker old new tree (Some next) = GoesOnAfter marker next old new tree

-- ---- the buckets among them

-- a container that is there, on a settled account
pub record Has (name : List ℕ) (tree : SwiftAccount) : Type 0 where
  pub settled : IsSettled tree
  pub there : is_some (get tree name) ≡ true

-- a settled account that has these names
pub record HasNames (names : List (List ℕ)) (tree : SwiftAccount) : Type 0 where
  pub settled : IsSettled tree
  pub all : names ≡ keys tree

-- the moment at which a container was made
abbrev pub made_by : Option SwiftContainer → ℕ
made_by None = 0
made_by (Some folder) = unwrap_or folder.created 0

abbrev pub item_at : SwiftAccount → List ℕ → BucketItem
item_at tree name = record { name = name; created = made_by (get tree name) }

abbrev pub TellsCreated : List ℕ → SwiftAccount → ℕ → Type 0
TellsCreated name tree told = told ≡ made_by (get tree name)

abbrev pub TellsItem : List ℕ → SwiftAccount → BucketItem → Type 0
TellsItem name tree told = told ≡ item_at tree name

-- whether a container is asked for, and what it adds: only where it is a bucket's
abbrev pub heads : List ℕ → ℕ
heads name = cond (is_bucket name) 1 0

abbrev pub TellsAdded : List ℕ → List BucketItem → List BucketItem → SwiftAccount → Unit {0} → Type 0
TellsAdded name old new tree told = new ≡ old ++ cond (is_bucket name) (item_at tree name ∷ []) []

abbrev pub TellsItems : List (List ℕ) → SwiftAccount → List BucketItem → Type 0
TellsItems names tree told = told ≡ map (item_at tree) (filter is_bucket names)

-- ---- what an answer comes to

-- whether names ascend strictly in the order of their bytes, and come after a marker
abbrev pub ascends : List ℕ → List (List ℕ) → Bool
ascends marker [] = true
ascends marker (name ∷ names) = is_lt (name_cmp marker name) && ascends name names

-- GET of the account: names after the marker in their order, no more than a page has
abbrev pub names_due : List ℕ → SwiftReply → Result (List (List ℕ)) PlanFault
names_due marker (Containers names) = cond (nat_le (length names) most_names && ascends marker names) (Ok names) (Err Inconsistent)
names_due marker _ = Err Inconsistent

-- HEAD of a container that is there: the moment at which it was made, which has a date
abbrev pub created_due : SwiftReply → Result ℕ PlanFault
created_due (Readers readers (Some created)) = cond (nat_lt created moment_limit) (Ok created) (Err Inconsistent)
created_due _ = Err Inconsistent
