-- The PUT of the file of a copy whose segments stand beside the bucket: what a store takes of it.
use Rattle.std.specs.Prelude.{◌≡◌, ◌<◌, ◌≤◌, ◌^◌, true, List, [], ◌∷◌, length}
use Rattle.std.specs.List.{All}
use Rattle.std.proofs.Common.{refl, sym, ap, subst, ◌∙◌, arith}
use Rattle.std.proofs.lemmas.Bool.{and_from, le-leb, lt-ltb}
use Rattle.std.proofs.lemmas.List.Elements.{All-nil}
use Rattle.gate_base.specs.Told.{moment_limit}
use Rattle.s3_machine.specs.Uploads.{most_parts}
use Rattle.slo_manifest.specs.declared.Segment.{Segment}
use Rattle.swift_calls.specs.Step.{Fit, IsSegmentPlace}
use Rattle.swift_calls.specs.Files.{PutObject}
use Rattle.swift_marks.specs.Pack.{pack_of}
use Rattle.swift_marks.specs.Tag.{has_text, tag_text}
use Rattle.swift_marks.proofs.lemmas.FieldLaws.{tag_is_field}
use Rattle.upload_texts.specs.Sealed.{has_sealed_text}
use Rattle.upload_texts.specs.declared.sealed.Sealed.{Sealed}
use Rattle.upload_texts.specs.declared.sealed.SealedPart.{SealedPart}
use Rattle.upload_records.specs.Consistent.{IsStored}
use Rattle.upload_records.specs.Layout.{segments_name}
use Rattle.upload_records.specs.Native.{completed_file, content_by, filled_parts, listing_by, listing_of, part_segments, sealed_segments, sealed_tag}
use Rattle.s3_names.specs.Id.{id_digits}
use Rattle.account_calls.specs.Sealed.{put_by, put_object_of, sealed_listing}
use Rattle.account_calls.proofs.lemmas.SealStands.{SegmentsFew, segments_few, object_fits, object_stored, pack_fits, sum_of}
use Rattle.account_calls.proofs.lemmas.Fits.{typed}
use Rattle.account_calls.proofs.lemmas.Names.{container_name, object_name}
use Rattle.account_calls.proofs.lemmas.SideNames.{file_name}
use Rattle.many_keys.specs.CopiedLists.{IsCopy}

-- ---- what has a text

-- its tag has one
pub tag_has_text : (s : Sealed) → IsCopy s → has_text (sealed_tag s) ≡ true
unfolding has_text
tag_has_text s is =
    and_from _ _ (and_from _ _ (and_from _ _ (typed s.content_type is.typed) is.etag) (lt-ltb s.moment moment_limit is.dated)) (lt-ltb s.id (2 ^ 128) is.fits)

pub some_length : {X : Type 0} (list : List X) → (list ≡ [] → ⊥) → 1 ≤ length list
some_length [] some = absurd (some (λ i. []))
some_length (x ∷ list) some = omega arith

-- one that lists parts has a text as a completion has
pub copy_has_text : (s : Sealed) → IsCopy s → (s.list ≡ [] → ⊥) → has_sealed_text s ≡ true
unfolding has_sealed_text
copy_has_text s is some =
    and_from _ _ (and_from _ _ is.place.named is.place.keyed)
    (and_from _ _ (lt-ltb s.id (2 ^ 128) is.fits)
    (and_from _ _ (and_from _ _ is.typed (and_from _ _ is.described is.ordered))
    (and_from _ _ (and_from _ _ (and_from _ _ (le-leb 1 (length s.list) (some_length s.list some)) (le-leb (length s.list) most_parts is.few)) is.proper)
    (and_from _ _ is.etag (and_from _ _ (lt-ltb s.started moment_limit is.started) (lt-ltb s.moment moment_limit is.dated))))))

-- ---- one without a part

pub none_listed : (s : Sealed) → s.list ≡ [] → sealed_listing s ≡ []
unfolding listing_by
none_listed s none = ap (λ list. listing_of (segments_name s.bucket) (id_digits s.id) (filled_parts list)) none

none_segments : (s : Sealed) → s.list ≡ [] → sealed_segments s ≡ []
none_segments s none = ap (λ list. part_segments (segments_name s.bucket) (id_digits s.id) (filled_parts list)) none

none_few : (s : Sealed) → s.list ≡ [] → SegmentsFew s
none_few s none = record {
  few = subst (λ (l : List Segment). length l ≤ most_parts) (sym (none_segments s none)) (omega arith);
  sum = subst (λ (l : List Segment). sum_of l < 2 ^ 63) (sym (none_segments s none)) (omega arith);
  places = subst (λ (l : List Segment). All IsSegmentPlace l) (sym (none_segments s none)) (All-nil IsSegmentPlace);
}

-- the PUT of an object without a byte
pub put_none : (s : Sealed) → s.list ≡ [] → put_object_of s ≡ PutObject s.bucket s.key (tag_text (sealed_tag s)) (pack_of s.meta) []
put_none s none = ap (put_by s.bucket s.key (tag_text (sealed_tag s)) (pack_of s.meta)) (none_listed s none)

pub none_fits : (s : Sealed) → IsCopy s → s.list ≡ [] → Fit (put_object_of s)
none_fits s is none =
    subst Fit (sym (put_none s none))
    (container_name s.bucket is.place.named, object_name s.key is.place.keyed, tag_is_field (sealed_tag s) (tag_has_text s is), pack_fits s.meta is.described, omega arith)

none_stored : (s : Sealed) → IsCopy s → s.list ≡ [] → IsStored s.key (completed_file s)
none_stored s is none =
    subst (λ (l : List Segment). IsStored s.key (record { content_type = tag_text (sealed_tag s); meta = pack_of s.meta; content = content_by l })) (sym (none_listed s none))
    (record { named = file_name s.key (object_name s.key is.place.keyed); sized = omega arith })

-- ---- any

-- whether it lists a part
module _ (P : Sealed → Type 0) (none : (s : Sealed) → IsCopy s → s.list ≡ [] → P s) (some : (s : Sealed) → has_sealed_text s ≡ true → P s) where
  by_list : (s : Sealed) → IsCopy s → (list : List SealedPart) → s.list ≡ list → P s
  by_list s is [] e = none s is e
  by_list s is (p ∷ rest) e = some s (copy_has_text s is (λ empty. let no : [] ≡ p ∷ rest = sym empty ∙ e in cc))

pub copy_segments : (s : Sealed) → IsCopy s → SegmentsFew s
copy_segments s is = by_list SegmentsFew (λ t it none. none_few t none) segments_few s is s.list refl

pub copy_fits : (s : Sealed) → IsCopy s → Fit (put_object_of s)
copy_fits s is = by_list (λ t. Fit (put_object_of t)) none_fits object_fits s is s.list refl

pub copy_stored : (s : Sealed) → IsCopy s → IsStored s.key (completed_file s)
copy_stored s is = by_list (λ t. IsStored t.key (completed_file t)) none_stored object_stored s is s.list refl
