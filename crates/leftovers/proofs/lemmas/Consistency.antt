-- What is needed of consistent accounts and of calls that leave them so.
use Rattle.std.specs.Prelude.{◌≡◌, ℕ, List, true, is_some, Option, None, Some}
use Rattle.std.specs.Option.{option_and_then, option_map}
use Rattle.std.specs.FinMap.{get, remove}
use Rattle.std.proofs.Common.{refl, sym, ap, subst, ◌∙◌, inl, inr}
use Rattle.gate_base.specs.Maps.{Names}
use Rattle.gate_base.proofs.lemmas.Maps.{by_name, same_key, at_remove, off_remove, removed_is}
use Rattle.s3_names.specs.Id.{id_digits}
use Rattle.s3_machine.specs.State.{State}
use Rattle.swift_calls.specs.declared.calls.SwiftRequest.{SwiftRequest}
use Rattle.swift_calls.specs.Account.{SwiftObject, SwiftContainer, SwiftAccount}
use Rattle.swift_calls.specs.Step.{swift_step}
use Rattle.upload_records.specs.Native.{plain, record_of, record_at, SameGateway, IsUnsealed, s3_state}
use Rattle.upload_records.specs.Consistent.{head_of, IsRecord, IsOpen, HasList, by_object, ConsistentBucket, IsConsistent}
use Rattle.upload_records.specs.Laws.{ChangesBy}
use Rattle.upload_records.proofs.lemmas.Settled.{unsealed_same, s3_state_by_plain}

pub none_found : {X : Type 0} (x : X) → None ≡ Some x → ⊥
none_found x e = cc

-- a bucket's maps may be replaced by equal ones
pub bucket_as : (folder : List ℕ) {O O' R R' S S' : Names SwiftObject} {sealed sealed' : Option ℕ} → O' ≡ O → R' ≡ R → S' ≡ S → sealed' ≡ sealed → ConsistentBucket folder O R S sealed → ConsistentBucket folder O' R' S' sealed'
bucket_as folder {O = O} {O' = O'} {R = R} {R' = R'} {S = S} {S' = S'} {sealed = sealed} {sealed' = sealed'} objects records segments same old =
    subst (λ x. ConsistentBucket folder O' R' S' x) (sym same)
    (subst (λ x. ConsistentBucket folder O' R' x sealed) (sym segments)
    (subst (λ x. ConsistentBucket folder O' x S sealed) (sym records)
    (subst (λ x. ConsistentBucket folder x R S sealed) (sym objects) old)))

pub there_of : (o : Option SwiftContainer) → is_some (option_map head_of o) ≡ true → is_some o ≡ true
there_of None e = e
there_of (Some folder) e = refl

-- a list of a bucket is one, whatever segments stand beside it
pub lists_as : (O S S' : Names SwiftObject) (id : ℕ) → HasList O S' id → HasList O S id
lists_as O S S' id (by_object key file found lists) = by_object key file found lists

-- a call that leaves another account, where the gateway's own container is the same
pub changes_same : (tree new : SwiftAccount) (request : SwiftRequest) (f : State → State) → IsUnsealed tree → SameGateway tree new
    → (swift_step request tree).tree ≡ new → IsConsistent new → plain new ≡ f (plain tree) → ChangesBy tree request f
changes_same tree new request f unsealed same leaves sound state = record {
  sound = subst IsConsistent (sym leaves) sound;
  state = ap s3_state leaves ∙ s3_state_by_plain tree new f unsealed (unsealed_same tree new same unsealed) state;
  gateway = subst (SameGateway tree) (sym leaves) same;
}

-- ---- the records without one

module _ (folder : List ℕ) (O R S : Names SwiftObject) (sealed : Option ℕ) (id : List ℕ) where
  -- what stands under the removed name is no record
  gone : (j : List ℕ) → j ≡ id → record_at (remove R id) j ≡ None
  gone j e = ap (option_and_then record_of) (ap (get (remove R id)) e ∙ at_remove by_name R id)

  pub records_left : ConsistentBucket folder O R S sealed → ConsistentBucket folder O (remove R id) S sealed
  records_left old = record {
    of_objects = old.of_objects;
    of_segments = old.of_segments;
    of_records = λ n f found. removed_is IsRecord R id n f (old.of_records n f) found;
    apart = λ j lists opens. elim (same_key by_name (id_digits j) id) [
      | inl e ↦ absurd (subst IsOpen (gone (id_digits j) e) opens)
      | inr a ↦ old.apart j lists (subst IsOpen (ap (option_and_then record_of) (off_remove by_name R id (id_digits j) a)) opens)
    ];
    subs_apart = λ n f sub found opens. elim (same_key by_name (id_digits sub.id) id) [
      | inl e ↦ absurd (subst IsOpen (gone (id_digits sub.id) e) opens)
      | inr a ↦ old.subs_apart n f sub found (subst IsOpen (ap (option_and_then record_of) (off_remove by_name R id (id_digits sub.id) a)) opens)
    ];
  }
