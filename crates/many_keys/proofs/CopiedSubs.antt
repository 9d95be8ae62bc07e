-- The PUT of the sub-manifests of a copy, one after another: each stands beside the bucket, and what was put before it stays.
use Rattle.std.specs.Prelude.{◌≡◌, ◌<◌, ◌+◌, ℕ, true, List, [], ◌∷◌, ◌++◌, length, Some, Result, Ok, Err}
use Rattle.std.specs.Result.{IsErrAnd}
use Rattle.std.specs.Option.{option_and_then}
use Rattle.std.specs.FinMap.{get, insert}
use Rattle.std.proofs.Common.{refl, sym, ap, subst, ◌∙◌, inl, inr, arith}
use Rattle.std.proofs.lemmas.Bool.{cases_lt}
use Rattle.gate_base.specs.Maps.{Names}
use Rattle.gate_base.proofs.lemmas.Maps.{apart, at_insert, by_name, off_insert, some_value}
use Rattle.s3_names.specs.Id.{id_digits}
use Rattle.slo_manifest.specs.declared.Segment.{Segment}
use Rattle.swift_calls.specs.Account.{SwiftObject, SwiftAccount, files, put_file}
use Rattle.swift_calls.specs.Bodies.{etag_of}
use Rattle.swift_calls.specs.History.{History}
use Rattle.swift_calls.specs.Step.{Answer, put_object, swift_step}
use Rattle.swift_calls.specs.declared.account.Content.TheVariants.{Segments}
use Rattle.swift_calls.specs.declared.calls.SwiftRequest.{SwiftRequest}
use Rattle.swift_marks.specs.Tag.{tag_text}
use Rattle.upload_texts.specs.Sealed.{has_sealed_text}
use Rattle.upload_texts.specs.declared.sealed.Sealed.{Sealed}
use Rattle.upload_texts.specs.declared.sealed.SealedPart.{SealedPart}
use Rattle.upload_records.specs.Consistent.{AreParts, AreSealedParts, HasSubManifests, IsConsistent, IsSubManifestOf}
use Rattle.upload_records.specs.Laws.{IsAbandoned, KeepsOrphan, OrphanListed}
use Rattle.upload_records.specs.Layout.{segment_name, segments_name, sub_manifest_name}
use Rattle.upload_records.specs.Native.{SameGateway, part_bytes, part_of, run, s3_state, sealed_bytes, sealed_segments, sealed_sub_manifests, sub_file_at, sub_manifests, sub_tag}
use Rattle.upload_records.proofs.lemmas.Beside.{same_beside, segments_there}
use Rattle.upload_records.proofs.lemmas.Rolling.{listing_stands}
use Rattle.upload_records.proofs.lemmas.Settled.{settled_same, unsealed_of}
use Rattle.upload_records.proofs.lemmas.Sides.{part_no_sub, sub_id, sub_number}
use Rattle.account_calls.specs.Calls.{always, Asks, GivenOf}
use Rattle.account_calls.specs.Interpret.{stored_due}
use Rattle.account_calls.specs.Puts.{etag_put}
use Rattle.account_calls.specs.Sealed.{put_sub_of}
use Rattle.account_calls.specs.declared.fault.PlanFault.{PlanFault}
use Rattle.account_calls.proofs.lemmas.Idle.{grows_none, none_made}
use Rattle.account_calls.proofs.lemmas.ListPut.{manifest_stays, manifest_step}
use Rattle.account_calls.proofs.lemmas.Puts.{due_of}
use Rattle.account_calls.proofs.lemmas.Quiet.{IsQuietOf, QuietEffect, asks_failed, asks_then}
use Rattle.account_calls.proofs.lemmas.SealStands.{all_counted, sub_stands, sub_stored, takes_sub}
use Rattle.many_keys.specs.CopiedLists.{HasCopied, IsCopy, LeavesCopied}

-- ---- what stands stays

module _ (S : Names SwiftObject) (id : List ℕ) (number : ℕ) (file : SwiftObject) where
  abbrev after : Names SwiftObject
  after = insert S (sub_manifest_name id number) file

  part_stays : (k : ℕ) → get after (segment_name id k) ≡ get S (segment_name id k)
  part_stays k = off_insert by_name S (sub_manifest_name id number) file (segment_name id k) (apart by_name (segment_name id k) (sub_manifest_name id number) (part_no_sub id id k number))

  parts_stay : (list : List SealedPart) → AreSealedParts S id list → AreSealedParts after id list
  parts_stay [] parts = tt
  parts_stay (p ∷ list) parts =
      (record { file = parts.0.file; bytes = parts.0.bytes; there = part_stays p.number ∙ parts.0.there; own = parts.0.own; etag = parts.0.etag; size = parts.0.size }, parts_stay list parts.1)

  bytes_stay : (list : List SealedPart) → sealed_bytes after id list ≡ sealed_bytes S id list
  bytes_stay [] = refl
  bytes_stay (p ∷ list) = (λ i. part_bytes (option_and_then part_of (part_stays p.number i)) ++ bytes_stay list i)

-- the first sub-manifests, and one more
subs_more : (S : Names SwiftObject) (id : List ℕ) (parts : List Segment) (n : ℕ) (file : SwiftObject) → file.content ≡ Segments (run n parts) → HasSubManifests S id parts n
    → HasSubManifests (insert S (sub_manifest_name id (n + 1)) file) id parts (n + 1)
subs_more S id parts n file own subs k below = elim (cases_lt k n) [
  | inl earlier ↦ before earlier
  | inr last ↦ let same : n ≡ k = omega (arith, below, last) in subst (IsSubManifestOf (insert S (sub_manifest_name id (n + 1)) file) id parts) same (record { file = file; there = at_insert by_name S (sub_manifest_name id (n + 1)) file; own = own })
]
  where
    before : k < n → IsSubManifestOf (insert S (sub_manifest_name id (n + 1)) file) id parts k
    before earlier =
        let sub = subs k earlier in
        record {
          file = sub.file;
          there = off_insert by_name S (sub_manifest_name id (n + 1)) file (sub_manifest_name id (k + 1))
              (apart by_name (sub_manifest_name id (k + 1)) (sub_manifest_name id (n + 1)) (λ e. let same = sub_number id (k + 1) (n + 1) e in omega (arith, same, earlier)))
              ∙ sub.there;
          own = sub.own;
        }

-- ---- one PUT

module _ (law : OrphanListed) (tree : SwiftAccount) (s : Sealed) (n : ℕ) (is : IsCopy s) (has : has_sealed_text s ≡ true) (below : n < sealed_sub_manifests s) (sound : IsConsistent tree)
    (given : GivenOf (HasCopied s n) tree) where
  abbrev folder : List ℕ
  folder = segments_name s.bucket

  abbrev name : List ℕ
  name = sub_manifest_name (id_digits s.id) (n + 1)

  sub_kept : KeepsOrphan tree (put_file folder name (sub_file_at s n) tree) s.bucket (id_digits s.id) name (sub_file_at s n)
  sub_kept =
      let sub = sub_stands s n has below in
      let same : id_digits sub.id ≡ id_digits s.id = sub_id (id_digits sub.id) (id_digits s.id) sub.number (n + 1) (sym sub.named) in
      subst (λ id. KeepsOrphan tree (put_file folder name (sub_file_at s n) tree) s.bucket id name (sub_file_at s n)) same
      (law tree s.bucket name (sub_file_at s n) sub is.place.named given.is.unnamed.there (subst (IsAbandoned tree s.bucket) (sym same) given.is.unnamed.abandoned) (sub_stored s n has below) sound (unsealed_of given.settled))

  are_parts : AreParts (files tree folder) folder (id_digits s.id) 0 (sealed_segments s)
  are_parts = (listing_stands (files tree folder) folder (id_digits s.id) 0 s.list is.ascends (all_counted s.list is.proper)
      (sound.buckets s.bucket is.place.named given.is.unnamed.there).of_segments given.is.parts).0

  answered : swift_step (put_sub_of s n) tree ≡ put_object (Some (some_value (get tree folder) (segments_there tree s.bucket sound is.place.named given.is.unnamed.there)).0) folder name (sub_file_at s n) tree
  answered =
      let there = some_value (get tree folder) (segments_there tree s.bucket sound is.place.named given.is.unnamed.there) in
      manifest_step tree folder name (tag_text (sub_tag s (run n (sealed_segments s)))) [] (run n (sealed_segments s)) there.0 there.1 (takes_sub s n has below tree are_parts)

  leaves : LeavesCopied s (n + 1) tree (put_file folder name (sub_file_at s n) tree) tt
  leaves = record {
    settled = settled_same sub_kept.gateway given.settled;
    copied = record {
      unnamed = record { there = sub_kept.there; abandoned = sub_kept.abandoned };
      parts = subst (λ fs. AreSealedParts fs (id_digits s.id) s.list) (sym sub_kept.holds) (parts_stay (files tree folder) (id_digits s.id) (n + 1) (sub_file_at s n) s.list given.is.parts);
      subs = subst (λ fs. HasSubManifests fs (id_digits s.id) (sealed_segments s) (n + 1)) (sym sub_kept.holds) (subs_more (files tree folder) (id_digits s.id) (sealed_segments s) n (sub_file_at s n) refl given.is.subs);
    };
    same = ap (λ fs. sealed_bytes fs (id_digits s.id) s.list) sub_kept.holds ∙ bytes_stay (files tree folder) (id_digits s.id) (n + 1) (sub_file_at s n) s.list;
  }

  sub_effect : QuietEffect tree (put_sub_of s n) (stored_due (etag_put (put_sub_of s n))) (LeavesCopied s (n + 1))
  sub_effect = record {
    told = tt;
    says = ap (λ (a : Answer). stored_due (etag_put (put_sub_of s n)) a.reply) answered ∙ due_of (etag_of (sub_file_at s n).content) (etag_put (put_sub_of s n)) refl;
    sound = subst IsConsistent (sym (ap (λ (a : Answer). a.tree) answered)) sub_kept.sound;
    same = ap (λ (a : Answer). s3_state a.tree) answered ∙ sub_kept.same;
    tells = subst (λ t. LeavesCopied s (n + 1) tree t tt) (sym (ap (λ (a : Answer). a.tree) answered)) leaves;
  }

sub_same : (tree : SwiftAccount) (s : Sealed) (n : ℕ) → IsCopy s → SameGateway tree (swift_step (put_sub_of s n) tree).tree
sub_same tree s n is = same_beside tree (swift_step (put_sub_of s n) tree).tree s.bucket (segments_name s.bucket) (record { of_bucket = is.place.named; is = inr refl })
    (manifest_stays tree (segments_name s.bucket) (sub_manifest_name (id_digits s.id) (n + 1)) (tag_text (sub_tag s (run n (sealed_segments s)))) [] (get tree (segments_name s.bucket)) (run n (sealed_segments s)))

sub_put : OrphanListed → (s : Sealed) (n : ℕ) → IsCopy s → has_sealed_text s ≡ true → n < sealed_sub_manifests s
    → IsQuietOf (GivenOf (HasCopied s n)) (put_sub_of s n) (stored_due (etag_put (put_sub_of s n))) (LeavesCopied s (n + 1))
sub_put law s n is has below = record {
  effect = λ tree sound given. sub_effect law tree s n is has below sound given;
  settled = λ tree. settled_same (sub_same tree s n is);
}

pub puts_sub : {request : SwiftRequest} {s : Sealed} {n : ℕ} → OrphanListed → request ≡ put_sub_of s n → IsCopy s → has_sealed_text s ≡ true → n < sealed_sub_manifests s
    → IsQuietOf (GivenOf (HasCopied s n)) request (stored_due (etag_put request)) (LeavesCopied s (n + 1))
puts_sub {s = s} {n = n} law same is has below = subst (λ r. IsQuietOf (GivenOf (HasCopied s n)) r (stored_due (etag_put r)) (LeavesCopied s (n + 1))) (sym same) (sub_put law s n is has below)

-- ---- the loop

pub subs_none : (s : Sealed) (h : History) → Asks (always 0) h h (GivenOf (HasCopied s 0)) (LeavesCopied s 0) (Ok tt)
subs_none s h = record {
  grows = grows_none (always 0) (GivenOf (HasCopied s 0)) h;
  cause = refl;
  effect = λ met. (none_made refl met.sound, refl, record { settled = met.has.settled; copied = met.has.is; same = refl });
  settled = λ observable settled. settled;
}

pub as_counted : (s : Sealed) (segments : List Segment) (k : ℕ) → k ≡ sub_manifests (length segments) → segments ≡ sealed_segments s → k ≡ sealed_sub_manifests s
as_counted s segments k counted are = counted ∙ ap (λ (l : List Segment). sub_manifests (length l)) are

left_here : {s : Sealed} {n : ℕ} (old new : SwiftAccount) → LeavesCopied s n old new tt → GivenOf (HasCopied s n) new
left_here old new left = record { settled = left.settled; is = left.copied }

module _ {s : Sealed} {n : ℕ} {a b c : History} where
  -- one more was put
  pub subs_next : Asks (always n) a b (GivenOf (HasCopied s 0)) (LeavesCopied s n) (Ok tt) → Asks (always 1) b c (GivenOf (HasCopied s n)) (LeavesCopied s (n + 1)) (Ok tt)
      → Asks (always (n + 1)) a c (GivenOf (HasCopied s 0)) (LeavesCopied s (n + 1)) (Ok tt)
  subs_next before one = asks_then (omega arith) before one (λ old new sound same given left. left_here old new left)
      (λ old new last done sound given left more. record { settled = more.settled; copied = more.copied; same = more.same ∙ left.same })

  -- or not
  pub subs_failed : {f : PlanFault} → n < sealed_sub_manifests s → Asks (always n) a b (GivenOf (HasCopied s 0)) (LeavesCopied s n) (Ok tt) → Asks (always 1) b c (GivenOf (HasCopied s n)) (LeavesCopied s (n + 1)) (Err f)
      → (result : Result (Unit {0}) PlanFault) → IsErrAnd result (λ e. e ≡ f) → Asks (always (sealed_sub_manifests s)) a c (GivenOf (HasCopied s 0)) (LeavesCopied s (sealed_sub_manifests s)) result
  subs_failed below before one result is =
      asks_failed {R = LeavesCopied s (sealed_sub_manifests s)} (omega (arith, below))
      (asks_then {most = n + 1} {R = λ old last (done : Unit {0}). Unit {0}} (omega arith) before one (λ old new sound same given left. left_here old new left) (λ old new last done sound given left more. tt)) result is

-- all were
pub subs_all : {s : Sealed} {n : ℕ} {a b : History} → n ≡ sealed_sub_manifests s → Asks (always n) a b (GivenOf (HasCopied s 0)) (LeavesCopied s n) (Ok tt)
    → Asks (always (sealed_sub_manifests s)) a b (GivenOf (HasCopied s 0)) (LeavesCopied s (sealed_sub_manifests s)) (Ok tt)
subs_all {s = s} {a = a} {b = b} same asks = subst (λ k. Asks (always k) a b (GivenOf (HasCopied s 0)) (LeavesCopied s k) (Ok tt)) same asks
