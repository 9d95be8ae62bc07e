-- A container is swept by its name.
use Rattle.std.specs.Prelude.{◌≡◌, ℕ, Bool, true, false, cond, bytes_eq, is_some, List, None, Some, Result, Ok, Err}
use Rattle.std.specs.FinMap.{get}
use Rattle.std.proofs.Common.{refl, sym, ap, subst, ◌∙◌}
use Rattle.std.proofs.lemmas.Bool.{and_parts}
use Rattle.std.proofs.lemmas.Option.{same_Some}
use Rattle.std.proofs.lemmas.Slice.Eq.{bytes_eq-Decides}
use Rattle.gate_base.specs.Maps.{Names}
use Rattle.s3_names.specs.Bucket.{is_bucket}
use Rattle.swift_calls.specs.Account.{SwiftAccount}
use Rattle.swift_calls.specs.History.{History, present}
use Rattle.upload_records.specs.Layout.{segments_name, uploads_name}
use Rattle.upload_records.specs.Consistent.{IsThere}
use Rattle.account_calls.specs.declared.fault.PlanFault.{PlanFault}
use Rattle.account_calls.specs.Calls.{by_account, Asks}
use Rattle.sweep.specs.declared.account.Swept.{Swept}
use Rattle.leftovers.specs.declared.sides.Kind.{Kind}
use Rattle.leftovers.specs.declared.sides.Kind.TheVariants.{Records, Segments}
use Rattle.leftovers.specs.Sides.{bucket_beside, folder_beside, is_side_of, side_by, suffix_length, beside_records, beside_segments, is_segments_of, is_uploads_of, side_of, without_last}
use Rattle.sweep.specs.Containers.{calls_by_side, name_calls, side_calls, HasListed, HasSide, IsSpared, SweepsName, SweepsSide}
use Rattle.leftovers.specs.Leftovers.{left_by, left_there, nothing_left}
use Rattle.sweep.proofs.Beside.{asks_err, asks_made, swept_of}
use Rattle.leftovers.proofs.lemmas.Consistency.{none_found}

-- ---- the name

same_name : (name folder : List ℕ) → bytes_eq name folder ≡ true → name ≡ folder
same_name name folder e = (bytes_eq-Decides name folder).0 e

is_beside_of : (kind : Kind) (bucket name : List ℕ) → is_side_of kind bucket name ≡ true → (is_bucket bucket ≡ true) × (name ≡ folder_beside kind bucket)
is_beside_of Records bucket name e = let parts = and_parts (is_bucket bucket) (bytes_eq name (uploads_name bucket)) e in (parts.0, same_name name (uploads_name bucket) parts.1)
is_beside_of Segments bucket name e = let parts = and_parts (is_bucket bucket) (bytes_eq name (segments_name bucket)) e in (parts.0, same_name name (segments_name bucket) parts.1)

pub told_side : (kind : Kind) (name bucket : List ℕ) → bucket_beside kind name ≡ Some bucket → (is_bucket bucket ≡ true) × (name ≡ folder_beside kind bucket)
told_side kind name bucket told = by (is_side_of kind (without_last (suffix_length kind) name) name) refl told
  where
    by : (t : Bool) → is_side_of kind (without_last (suffix_length kind) name) name ≡ t → cond t (Some (without_last (suffix_length kind) name)) None ≡ Some bucket → (is_bucket bucket ≡ true) × (name ≡ folder_beside kind bucket)
    by true e same = subst (λ b. (is_bucket b ≡ true) × (name ≡ folder_beside kind b)) (same_Some (without_last (suffix_length kind) name) bucket same) (is_beside_of kind (without_last (suffix_length kind) name) name e)
    by false e never = absurd (none_found bucket never)

pub side_records : (name bucket : List ℕ) → bucket_beside Records name ≡ Some bucket → side_of name ≡ Some (beside_records bucket)
side_records name bucket told = by (is_uploads_of (without_last 8 name) name) told
  where
    by : (t : Bool) → cond t (Some (without_last 8 name)) None ≡ Some bucket → cond t (Some (beside_records (without_last 8 name))) (cond (is_segments_of (without_last 9 name) name) (Some (beside_segments (without_last 9 name))) None) ≡ Some (beside_records bucket)
    by true same = ap (λ b. Some (beside_records b)) (same_Some (without_last 8 name) bucket same)
    by false never = absurd (none_found bucket never)

pub side_others : (name : List ℕ) → bucket_beside Records name ≡ None → side_of name ≡ cond (is_segments_of (without_last 9 name) name) (Some (beside_segments (without_last 9 name))) None
side_others name other = by (is_uploads_of (without_last 8 name) name) other
  where
    by : (t : Bool) → cond t (Some (without_last 8 name)) None ≡ None → cond t (Some (beside_records (without_last 8 name))) (cond (is_segments_of (without_last 9 name) name) (Some (beside_segments (without_last 9 name))) None) ≡ cond (is_segments_of (without_last 9 name) name) (Some (beside_segments (without_last 9 name))) None
    by true never = absurd (none_found (without_last 8 name) (sym never))
    by false e = refl

pub side_segments : (name bucket : List ℕ) → bucket_beside Records name ≡ None → bucket_beside Segments name ≡ Some bucket → side_of name ≡ Some (beside_segments bucket)
side_segments name bucket other told = side_others name other ∙ by (is_segments_of (without_last 9 name) name) told
  where
    by : (t : Bool) → cond t (Some (without_last 9 name)) None ≡ Some bucket → cond t (Some (beside_segments (without_last 9 name))) None ≡ Some (beside_segments bucket)
    by true same = ap (λ b. Some (beside_segments b)) (same_Some (without_last 9 name) bucket same)
    by false never = absurd (none_found bucket never)

pub side_none : (name : List ℕ) → bucket_beside Records name ≡ None → bucket_beside Segments name ≡ None → side_of name ≡ None
side_none name other none = side_others name other ∙ by (is_segments_of (without_last 9 name) name) none
  where
    by : (t : Bool) → cond t (Some (without_last 9 name)) None ≡ None → cond t (Some (beside_segments (without_last 9 name))) None ≡ None
    by true never = absurd (none_found (without_last 9 name) (sym never))
    by false e = refl

-- ---- what is told

module _ (table : Names Bool) (kind : Kind) (bucket name : List ℕ) (named : name ≡ folder_beside kind bucket) (side : side_of name ≡ Some (side_by kind bucket)) where
  spared_by : (k : Kind) (old new : SwiftAccount) → (k ≡ Records → IsThere old bucket → new ≡ old) → IsSpared old (Some (side_by k bucket)) → new ≡ old
  spared_by Records old new spared here = spared refl here
  spared_by Segments old new spared never = absurd never

  name_swept : (old new : SwiftAccount) (swept : Swept) → SweepsSide kind bucket old new swept → SweepsName name old new swept
  name_swept old new swept told = record {
    counted = told.counted ∙ (λ i. left_there (is_some (get old (sym named i))) (left_by old (sym named i) (sym side i)));
    none = (λ i. left_there (is_some (get new (named i))) (left_by new (named i) (side i))) ∙ told.none;
    others = λ other apart. told.others other (ap (bytes_eq other) (sym named) ∙ apart);
    spared = λ spared. spared_by kind old new told.spared (subst (IsSpared old) side spared);
  }

  calls_by : (k : Kind) (tree : SwiftAccount) → calls_by_side tree (Some (side_by k bucket)) ≡ side_calls tree k bucket
  calls_by Records tree = refl
  calls_by Segments tree = refl

  calls_same : (tree : SwiftAccount) → side_calls tree kind bucket ≡ name_calls tree name
  calls_same tree = sym (ap (calls_by_side tree) side ∙ calls_by kind tree)

  side_here : (tree : SwiftAccount) → HasListed table name tree → HasSide table kind bucket tree
  side_here tree has = record { settled = has.settled; there = subst (IsThere tree) named has.there; listed = has.listed }

  pub asks_named : {a b : History} (result : Result Swept PlanFault) → Asks (by_account (side_calls (present a) kind bucket)) a b (HasSide table kind bucket) (SweepsSide kind bucket) result
      → Asks (by_account (name_calls (present a) name)) a b (HasListed table name) (SweepsName name) result
  asks_named {a = a} {b = b} result asks = by result here
    where
      here : Asks (by_account (name_calls (present a) name)) a b (HasListed table name) (SweepsSide kind bucket) result
      here = subst (λ n. Asks (by_account n) a b (HasListed table name) (SweepsSide kind bucket) result) (calls_same (present a)) (record {
        grows = record { on = asks.grows.on; calls = λ met. asks.grows.calls (record { observable = met.observable; sound = met.sound; has = side_here (present a) met.has }) };
        cause = asks.cause;
        effect = λ met. asks.effect (record { observable = met.observable; sound = met.sound; has = side_here (present a) met.has });
        settled = asks.settled;
      })

      by : (result : Result Swept PlanFault) → Asks (by_account (name_calls (present a) name)) a b (HasListed table name) (SweepsSide kind bucket) result → Asks (by_account (name_calls (present a) name)) a b (HasListed table name) (SweepsName name) result
      by (Ok swept) asks = asks_made swept (λ old new sound has told. name_swept old new swept told) asks
      by (Err f) asks = asks_err asks (Err f) refl

-- a container that stands beside no bucket has nothing left over
pub none_beside : (name : List ℕ) → side_of name ≡ None → (tree : SwiftAccount) → SweepsName name tree tree (swept_of 0 0 0)
none_beside name side tree = record {
  counted = sym (left_none (is_some (get tree name)));
  none = left_none (is_some (get tree name));
  others = λ other apart. refl;
  spared = λ spared. refl;
}
  where
    left_by_none : (t : Bool) → left_there t (left_by tree name None) ≡ nothing_left
    left_by_none true = refl
    left_by_none false = refl

    left_none : (t : Bool) → left_there t (left_by tree name (side_of name)) ≡ nothing_left
    left_none t = ap (λ s. left_there t (left_by tree name s)) side ∙ left_by_none t
