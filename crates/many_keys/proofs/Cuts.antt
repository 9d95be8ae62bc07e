-- How the segments of an object cut its bytes.
use Rattle.std.specs.Prelude.{◌≡◌, ◌<◌, ◌+◌, ℕ, List, [], ◌∷◌, ◌++◌, get_or, length, take}
use Rattle.std.proofs.Common.{sym, ap, ◌∙◌, arith, append_assoc}
use Rattle.std.proofs.lemmas.List.{map-append, take_all, take_more}
use Rattle.slo_manifest.specs.declared.Segment.{Segment}
use Rattle.many_keys.specs.CopiedLists.{cut_of, piece_of}
use Rattle.many_keys.specs.declared.cut.Piece.{Piece}

-- ---- piece by piece

pub cut_more : (segments : List Segment) (i : ℕ) (s : Segment) (before old new : List Piece) → old ≡ before ++ cut_of (take i segments) → new ≡ old ++ piece_of s ∷ [] → i < length segments → s ≡ get_or segments i s
    → new ≡ before ++ cut_of (take (i + 1) segments)
cut_more segments i s before old new so grown below same =
    grown ∙ ap (λ list. list ++ piece_of s ∷ []) so ∙ append_assoc before (cut_of (take i segments)) (piece_of s ∷ [])
    ∙ ap (λ list. before ++ list) (sym (ap cut_of (take_more segments i s below ∙ ap (λ t. take i segments ++ t ∷ []) (sym same)) ∙ map-append piece_of (take i segments) (s ∷ [])))

pub cut_all : (segments : List Segment) (i : ℕ) (before cut : List Piece) → cut ≡ before ++ cut_of (take i segments) → (i < length segments → ⊥) → cut ≡ before ++ cut_of segments
cut_all segments i before cut so end = so ∙ ap (λ list. before ++ cut_of list) (take_all i segments (omega (arith, end)))
