-- The calls that put sub-manifests, one after another; and how many calls settle a store.
use Rattle.std.specs.Prelude.{◌≡◌, ◌≤◌, ◌<◌, ℕ, true, List, length}
use Rattle.std.proofs.Common.{sym, subst, arith}
use Rattle.s3_machine.specs.Uploads.{most_parts}
use Rattle.slo_manifest.specs.declared.Segment.{Segment}
use Rattle.upload_texts.specs.Sealed.{has_sealed_text}
use Rattle.upload_texts.specs.declared.sealed.Sealed.{Sealed}
use Rattle.upload_records.specs.Native.{sealed_segments, sealed_sub_manifests}
use Rattle.upload_records.proofs.lemmas.Subs.{sub_manifests_few}
use Rattle.account_calls.proofs.lemmas.SealStands.{segments_few}

-- a completion has no more segments than parts
pub within_parts : (s : Sealed) (segments : List Segment) → has_sealed_text s ≡ true → segments ≡ sealed_segments s → length segments ≤ most_parts
within_parts s segments has are = subst (λ (l : List Segment). length l ≤ most_parts) (sym are) (segments_few s has).few

-- ---- how many calls settle a store

-- a sealed completion with a text has ten sub-manifests at most
pub few_sub_manifests : (s : Sealed) → has_sealed_text s ≡ true → sealed_sub_manifests s ≤ 10
few_sub_manifests s has = sub_manifests_few _ (segments_few s has).few

pub sub_below : (s : Sealed) (n : ℕ) → has_sealed_text s ≡ true → n < sealed_sub_manifests s → n < 10
sub_below s n has below = let few = few_sub_manifests s has in omega (arith, below, few)
