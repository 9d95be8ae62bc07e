-- One container beside a bucket is swept, by its name. Source: this profile.
use Rattle.std.specs.Prelude.{◌≡◌, ◌+◌, ℕ, Bool, true, false, bytes_eq, is_some, IsTrue, List, Option, None, Some, Result, IfOk}
use Rattle.std.specs.FinMap.{get}
use Rattle.gate_base.specs.Maps.{Names}
use Rattle.s3_names.specs.Bucket.{is_bucket}
use Rattle.swift_calls.specs.Account.{SwiftAccount}
use Rattle.swift_calls.specs.History.{History, present}
use Rattle.upload_records.specs.Native.{IsSettled}
use Rattle.upload_records.specs.Consistent.{IsThere}
use Rattle.account_calls.specs.declared.fault.PlanFault.{PlanFault}
use Rattle.sweep.specs.declared.account.Swept.{Swept}
use Rattle.leftovers.specs.declared.sides.Kind.{Kind}
use Rattle.leftovers.specs.declared.sides.Kind.TheVariants.{Records, Segments}
use Rattle.leftovers.specs.Leftovers.{Leftovers, left_by, left_in, left_there, nothing_left}
use Rattle.leftovers.specs.Segments.{segments_calls}
use Rattle.leftovers.specs.Sides.{Side, beside_records, beside_segments, folder_beside, side_by, side_of}
use Rattle.leftovers.specs.Strays.{clear_calls}
use Rattle.sweep.specs.Swept.{removed}

-- what is left over in it
abbrev pub left_beside : SwiftAccount → Kind → List ℕ → Leftovers
left_beside tree kind bucket = left_there (is_some (get tree (folder_beside kind bucket))) (left_by tree (folder_beside kind bucket) (Some (side_by kind bucket)))

-- a table has the names of just those buckets that are there
abbrev pub ListsBuckets : Names Bool → SwiftAccount → Type 0
ListsBuckets table tree = (bucket : List ℕ) → is_bucket bucket ≡ true → is_some (get table bucket) ≡ is_some (get tree bucket)

-- it is there, on a settled account whose buckets a table has
pub record HasSide (table : Names Bool) (kind : Kind) (bucket : List ℕ) (tree : SwiftAccount) : Type 0 where
  pub settled : IsSettled tree
  pub there : IsThere tree (folder_beside kind bucket)
  pub listed : ListsBuckets table tree

-- what was left over in it is removed and counted, nothing of it is left, and no other container changed; records beside a bucket
-- that is there weren't touched
pub record SweepsSide (kind : Kind) (bucket : List ℕ) (old new : SwiftAccount) (swept : Swept) : Type 0 where
  pub counted : removed swept ≡ left_beside old kind bucket
  pub none : left_beside new kind bucket ≡ nothing_left
  pub others : (name : List ℕ) → bytes_eq name (folder_beside kind bucket) ≡ false → get new name ≡ get old name
  pub spared : kind ≡ Records → IsThere old bucket → new ≡ old

-- over every observable store, consistent or not, nothing goes from beside a bucket that the listing of the account had and that HEAD misses
pub record HeedsListed (table : Names Bool) (bucket : List ℕ) (old new : History) (result : Result Swept PlanFault) : Type 0 where
  pub so : IsTrue old.observable → is_some (get table bucket) ≡ true → get (present old) bucket ≡ None → (present new ≡ present old) × IfOk result (λ swept. ⊥)

-- over every observable store nothing changes but containers beside a bucket: no bucket of its own, and not what the gateway keeps
pub record SparesOthers (old new : History) : Type 0 where
  pub so : IsTrue old.observable → (name : List ℕ) → side_of name ≡ None → get (present new) name ≡ get (present old) name

-- HEAD of the bucket, and what follows it
abbrev pub calls_there : SwiftAccount → Kind → List ℕ → ℕ
calls_there tree Records bucket = 0
calls_there tree Segments bucket = segments_calls tree bucket

abbrev pub calls_beside : Bool → SwiftAccount → Kind → List ℕ → ℕ
calls_beside true tree kind bucket = calls_there tree kind bucket
calls_beside false tree kind bucket = clear_calls tree (folder_beside kind bucket)

abbrev pub side_calls : SwiftAccount → Kind → List ℕ → ℕ
side_calls tree kind bucket = 1 + calls_beside (is_some (get tree bucket)) tree kind bucket

-- ---- a container by its name

-- a container is there, on a settled account
pub record HasContainer (name : List ℕ) (tree : SwiftAccount) : Type 0 where
  pub settled : IsSettled tree
  pub there : IsThere tree name

-- the same, on one whose buckets a table has
pub record HasListed (table : Names Bool) (name : List ℕ) (tree : SwiftAccount) : Type 0 where
  pub settled : IsSettled tree
  pub there : IsThere tree name
  pub listed : ListsBuckets table tree

-- a container that isn't swept: a bucket's own, that of the gateway, and that of records beside a bucket that is there
abbrev pub IsSpared : SwiftAccount → Option Side → Type 0
IsSpared tree None = Unit {0}
IsSpared tree (Some (beside_records bucket)) = IsThere tree bucket
IsSpared tree (Some (beside_segments bucket)) = ⊥

-- what was left over in a container is removed and counted, nothing of it is left, and no other container changed
pub record SweepsName (name : List ℕ) (old new : SwiftAccount) (swept : Swept) : Type 0 where
  pub counted : removed swept ≡ left_in old name
  pub none : left_in new name ≡ nothing_left
  pub others : (other : List ℕ) → bytes_eq other name ≡ false → get new other ≡ get old other
  pub spared : IsSpared old (side_of name) → new ≡ old

abbrev pub calls_by_side : SwiftAccount → Option Side → ℕ
calls_by_side tree None = 0
calls_by_side tree (Some (beside_records bucket)) = side_calls tree Records bucket
calls_by_side tree (Some (beside_segments bucket)) = side_calls tree Segments bucket

abbrev pub name_calls : SwiftAccount → List ℕ → ℕ
name_calls tree name = calls_by_side tree (side_of name)
