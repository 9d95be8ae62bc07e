-- What the calls that put sub-manifests build: runs of segments, as parts of a slice, and the sub-manifests of the first of them.
use Rattle.std.specs.Prelude.{◌≡◌, ◌≤◌, ◌<◌, ◌+◌, ◌-◌, ◌*◌, ◌/◌, ℕ, suc, min, Bool, true, false, cond, nat_le, List, [], ◌∷◌, ◌++◌, length, take, drop, slice_range}
use Rattle.std.proofs.Common.{refl, sym, ap, ◌∙◌, arith}
use Rattle.std.proofs.lemmas.Bool.{leb-true}
use Rattle.std.proofs.lemmas.List.{length-drop, take_min}
use Rattle.s3_machine.specs.Uploads.{most_parts}
use Rattle.slo_manifest.specs.Etag.{joined_etag}
use Rattle.slo_manifest.specs.declared.manifest.TheConstants.{MOST_SEGMENTS}
use Rattle.slo_manifest.specs.declared.Segment.{Segment}
use Rattle.swift_calls.specs.Bodies.{etag_of, etag_text}
use Rattle.swift_calls.specs.declared.account.Content.TheVariants.{Segments}
use Rattle.upload_records.specs.Native.{listing_by, run, sub_manifests, sub_segment, sub_segments}

pub run_slice : (segments : List Segment) (n : ℕ) → slice_range segments (n * MOST_SEGMENTS) (min (length segments) (n * MOST_SEGMENTS + MOST_SEGMENTS)) ≡ run n segments
unfolding run
run_slice segments n =
    let left = length-drop (n * MOST_SEGMENTS) segments in
    let count : min (length segments) (n * MOST_SEGMENTS + MOST_SEGMENTS) - n * MOST_SEGMENTS ≡ min MOST_SEGMENTS (length (drop (n * MOST_SEGMENTS) segments)) = omega (arith, left) in
    let order : n * MOST_SEGMENTS ≡ MOST_SEGMENTS * n = omega arith in
    ap (λ k. take k (drop (n * MOST_SEGMENTS) segments)) count
    ∙ take_min MOST_SEGMENTS (drop (n * MOST_SEGMENTS) segments)
    ∙ ap (λ k. take MOST_SEGMENTS (drop k segments)) order

pub few_segments : (n : ℕ) → n ≤ most_parts → n ≤ 10000
unfolding most_parts
few_segments n most = omega (arith, most)

-- the joined ETag is the one of the list
pub list_tag : (segments : List Segment) → joined_etag segments ≡ etag_of (Segments segments)
unfolding etag_text
list_tag segments = refl

pub no_subs : (folder id : List ℕ) (segments : List Segment) → [] ≡ sub_segments folder id segments 0
unfolding sub_segments
no_subs folder id segments = refl

subs_more : (folder id : List ℕ) (segments : List Segment) (n : ℕ) → sub_segments folder id segments (suc n) ≡ sub_segments folder id segments n ++ sub_segment folder id n (run n segments) ∷ []
unfolding sub_segments
subs_more folder id segments n = refl

pub subs_push : (folder id : List ℕ) (segments : List Segment) (n : ℕ) → sub_segments folder id segments (n + 1) ≡ sub_segments folder id segments n ++ sub_segment folder id n (run n segments) ∷ []
subs_push folder id segments n = let next : n + 1 ≡ suc n = omega arith in ap (sub_segments folder id segments) next ∙ subs_more folder id segments n

by_subs : (folder id : List ℕ) (segments : List Segment) (t : Bool) → nat_le (length segments) MOST_SEGMENTS ≡ t → MOST_SEGMENTS < length segments
    → cond t segments (sub_segments folder id segments (sub_manifests (length segments))) ≡ sub_segments folder id segments (sub_manifests (length segments))
by_subs folder id segments true is many = let few = leb-true (length segments) MOST_SEGMENTS is in absurd (omega (arith, few, many))
by_subs folder id segments false is many = refl

-- more segments than a manifest may list are listed by their sub-manifests
pub listing_subs : (folder id : List ℕ) (segments : List Segment) → MOST_SEGMENTS < length segments → listing_by folder id segments ≡ sub_segments folder id segments (sub_manifests (length segments))
unfolding listing_by
listing_subs folder id segments many = by_subs folder id segments (nat_le (length segments) MOST_SEGMENTS) refl many
