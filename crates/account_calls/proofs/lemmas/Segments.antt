-- The segments of a completed object, part by part.
use Rattle.std.specs.Prelude.{◌≡◌, ◌<◌, ◌+◌, ℕ, zero, suc, true, nat_lt, List, [], ◌∷◌, ◌++◌, get_or, length, map, take}
use Rattle.std.specs.List.{list_all}
use Rattle.std.proofs.Common.{sym, ap, ◌∙◌, arith}
use Rattle.std.proofs.lemmas.Bool.{and_parts}
use Rattle.std.proofs.lemmas.List.{map-append, take_all, take_more}
use Rattle.std.proofs.lemmas.List.Elements.{filter-append}
use Rattle.slo_manifest.specs.declared.Segment.{Segment}
use Rattle.s3_machine.specs.declared.operation.Listed.{Listed}
use Rattle.upload_texts.specs.Sealed.{part_fits_sealed_text}
use Rattle.upload_texts.specs.declared.sealed.SealedPart.{SealedPart}
use Rattle.upload_records.specs.Native.{filled_parts, listed_of, part_segment, part_segments}

passes_at : (parts : List SealedPart) (i : ℕ) (d : SealedPart) → list_all part_fits_sealed_text parts ≡ true → i < length parts → part_fits_sealed_text (get_or parts i d) ≡ true
passes_at [] i d h below = absurd (omega arith)
passes_at (p ∷ parts) zero d h below = (and_parts (part_fits_sealed_text p) (list_all part_fits_sealed_text parts) h).0
passes_at (p ∷ parts) (suc i) d h below = passes_at parts i d (and_parts (part_fits_sealed_text p) (list_all part_fits_sealed_text parts) h).1 (omega arith)

pub part_there : (parts : List SealedPart) (i : ℕ) (p : SealedPart) → list_all part_fits_sealed_text parts ≡ true → i < length parts → p ≡ get_or parts i p → part_fits_sealed_text p ≡ true
part_there parts i p h below same = ap part_fits_sealed_text same ∙ passes_at parts i p h below

-- one part more
more : (parts : List SealedPart) (i : ℕ) (p : SealedPart) → i < length parts → p ≡ get_or parts i p → take (i + 1) parts ≡ take i parts ++ p ∷ []
more parts i p below same = take_more parts i p below ∙ ap (λ t. take i parts ++ t ∷ []) (sym same)

pub segments_more : (folder id : List ℕ) (parts : List SealedPart) (i : ℕ) (p : SealedPart) (old new : List Segment) → old ≡ map (part_segment folder id) (filled_parts (take i parts))
    → new ≡ old ++ map (part_segment folder id) (filled_parts (p ∷ [])) → i < length parts → p ≡ get_or parts i p → new ≡ map (part_segment folder id) (filled_parts (take (i + 1) parts))
segments_more folder id parts i p old new so grown below same =
    grown ∙ ap (λ list. list ++ map (part_segment folder id) (filled_parts (p ∷ []))) so
    ∙ sym (map-append (part_segment folder id) (filled_parts (take i parts)) (filled_parts (p ∷ [])))
    ∙ ap (map (part_segment folder id)) (sym (ap filled_parts (more parts i p below same) ∙ filter-append (λ x. nat_lt 0 x.size) (take i parts) (p ∷ [])))

pub listed_more : (parts : List SealedPart) (i : ℕ) (p : SealedPart) (old new : List Listed) → old ≡ map listed_of (take i parts) → new ≡ old ++ listed_of p ∷ [] → i < length parts → p ≡ get_or parts i p
    → new ≡ map listed_of (take (i + 1) parts)
listed_more parts i p old new so grown below same =
    grown ∙ ap (λ list. list ++ listed_of p ∷ []) so ∙ sym (ap (map listed_of) (more parts i p below same) ∙ map-append listed_of (take i parts) (p ∷ []))

-- and all of them
pub segments_all : (folder id : List ℕ) (parts : List SealedPart) (i : ℕ) (list : List Segment) → list ≡ map (part_segment folder id) (filled_parts (take i parts)) → (i < length parts → ⊥)
    → list ≡ part_segments folder id (filled_parts parts)
segments_all folder id parts i list so end = so ∙ ap (λ ps. map (part_segment folder id) (filled_parts ps)) (take_all i parts (omega (arith, end)))
