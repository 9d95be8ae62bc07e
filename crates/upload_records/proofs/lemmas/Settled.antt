-- Accounts on which no completion is sealed.
use Rattle.std.specs.Prelude.{◌≡◌, List, ℕ, true, false, is_some, Option, None, Some}
use Rattle.std.specs.Option.{option_map}
use Rattle.std.specs.FinMap.{get, empty}
use Rattle.std.specs.Ordering.{eq_by_cmp}
use Rattle.std.proofs.Common.{refl, sym, ap, ◌∙◌}
use Rattle.gate_base.specs.Maps.{name_cmp}
use Rattle.gate_base.proofs.lemmas.Maps.{by_name, get_empty}
use Rattle.s3_names.specs.Bucket.{is_bucket}
use Rattle.s3_machine.specs.State.{State}
use Rattle.swift_calls.specs.Account.{SwiftAccount, files, files_of}
use Rattle.upload_records.specs.Layout.{segments_name, gateway_name, sealed_name}
use Rattle.upload_records.specs.Native.{seal_by, seal_of, sealed_of, finished_from, laid, SameGateway, IsUnsealed, IsSettled, plain, s3_state}
use Rattle.upload_records.proofs.Apart.{gateway_apart}

-- ---- the gateway's own container stays

-- what stands under each other name stays
abbrev pub OffSame : SwiftAccount → SwiftAccount → List ℕ → Type 0
OffSame tree tree' b = (n : List ℕ) → eq_by_cmp name_cmp n b ≡ false → get tree' n ≡ get tree n

pub same_none : (tree : SwiftAccount) → SameGateway tree tree
same_none tree = record { there = refl; holds = refl }

-- a change of another container leaves it
pub same_apart : (tree tree' : SwiftAccount) (c : List ℕ) → eq_by_cmp name_cmp gateway_name c ≡ false → OffSame tree tree' c → SameGateway tree tree'
same_apart tree tree' c apart off =
    let same = off gateway_name apart in
    record { there = ap is_some same; holds = ap files_of same }

-- a change of a bucket's container leaves the gateway's own
pub same_off : (tree tree' : SwiftAccount) (b : List ℕ) → is_bucket b ≡ true → OffSame tree tree' b → SameGateway tree tree'
same_off tree tree' b is off = same_apart tree tree' b (gateway_apart b is) off

-- ---- what is sealed stands there

pub seal_holds : (tree tree' : SwiftAccount) → files tree' gateway_name ≡ files tree gateway_name → seal_of tree' ≡ seal_of tree
unfolding seal_of
seal_holds tree tree' holds = ap (λ fs. seal_by (get fs sealed_name)) holds

pub seal_same : (tree tree' : SwiftAccount) → SameGateway tree tree' → seal_of tree' ≡ seal_of tree
seal_same tree tree' same = seal_holds tree tree' same.holds

none_of_map : {X Y : Type 0} (f : X → Y) (o : Option X) → option_map f o ≡ None → o ≡ None
none_of_map f None e = refl
none_of_map f (Some x) e = cc

-- where no completion is sealed, the gateway's own container says none
pub seal_none : (tree : SwiftAccount) → IsUnsealed tree → seal_of tree ≡ None
unfolding sealed_of
seal_none tree unsealed = none_of_map (λ s. finished_from (files tree (segments_name s.bucket)) s) (seal_of tree) unsealed

pub unsealed_by : (tree : SwiftAccount) → seal_of tree ≡ None → IsUnsealed tree
unfolding sealed_of
unsealed_by tree none = ap (option_map (λ s. finished_from (files tree (segments_name s.bucket)) s)) none

pub unsealed_same : (tree tree' : SwiftAccount) → SameGateway tree tree' → IsUnsealed tree → IsUnsealed tree'
unsealed_same tree tree' same unsealed = unsealed_by tree' (seal_same tree tree' same ∙ seal_none tree unsealed)

empty_seals : seal_of empty ≡ None
unfolding seal_of
empty_seals = ap (λ fs. seal_by (get fs sealed_name)) (ap files_of (get_empty by_name gateway_name)) ∙ ap seal_by (get_empty by_name sealed_name)

-- on the empty account none is
pub unsealed_empty : IsUnsealed empty
unsealed_empty = unsealed_by empty empty_seals

pub unsealed_of : {tree : SwiftAccount} → IsSettled tree → IsUnsealed tree
unsealed_of settled = settled.none

pub settled_same : {tree tree' : SwiftAccount} → SameGateway tree tree' → IsSettled tree → IsSettled tree'
settled_same {tree = tree} {tree' = tree'} same settled = record { none = unsealed_same tree tree' same settled.none; gateway = same.there ∙ settled.gateway }

-- ---- the state, where nothing is sealed

-- it is that of the buckets
pub s3_state_unsealed : (tree : SwiftAccount) → IsUnsealed tree → s3_state tree ≡ plain tree
unfolding s3_state
s3_state_unsealed tree unsealed = ap (λ s. laid s (plain tree)) unsealed

-- a change of what the containers hold is one of the state
pub s3_state_by_plain : (tree tree' : SwiftAccount) (f : State → State) → IsUnsealed tree → IsUnsealed tree' → plain tree' ≡ f (plain tree) → s3_state tree' ≡ f (s3_state tree)
s3_state_by_plain tree tree' f before after e = s3_state_unsealed tree' after ∙ e ∙ ap f (sym (s3_state_unsealed tree before))
