-- What was written, one more piece at a time.
use Rattle.std.proofs.Common.{◌≡◌, ◌∙◌, ◌<◌, ℕ, ◌+◌, ◌-◌, ◌^◌, min, List, [], ◌∷◌, ◌++◌, take, get_or, length, sym, ap, append-nil, length-append, arith}
use Rattle.std.proofs.lemmas.List.{take_more}
use Rattle.std.proofs.lemmas.List.Concat.{flat_map-append}
use Rattle.gate_base.specs.declared.outside.Piece.{Piece}
use Rattle.trial_cmd.specs.Replied.{output_of}

pub output_more : (pieces : List Piece) (i : ℕ) (piece : Piece) → i < length pieces → piece ≡ get_or pieces i piece → output_of (take (i + 1) pieces) ≡ output_of (take i pieces) ++ piece.bytes
output_more pieces i piece below same =
    ap output_of (take_more pieces i piece below ∙ ap (λ t. take i pieces ++ t ∷ []) (sym same))
    ∙ flat_map-append (λ (piece : Piece). piece.bytes) (take i pieces) (piece ∷ [])
    ∙ ap (λ e. output_of (take i pieces) ++ e) (append-nil piece.bytes)

pub size_more : (size : ℕ) (text bytes : List ℕ) → size ≡ min (length text) (2 ^ 64 - 1) → min (size + length bytes) (2 ^ 64 - 1) ≡ min (length (text ++ bytes)) (2 ^ 64 - 1)
size_more size text bytes is = omega (arith, is, length-append text bytes)
