-- Pieces in a row.
use Rattle.std.proofs.Common.{◌≡◌, ℕ, ◌-◌, ◌≤◌, List, [], ◌∷◌, ◌++◌, length, take, drop, get_or, append-nil, arith, sym, ◌∙◌, ap}
use Rattle.std.specs.Prelude.{flat_map}
use Rattle.std.proofs.lemmas.Grind.{common_steps}
use Rattle.std.specs.List.{join_with_byte}

-- the first piece, and each of the others with the separator before it
pub joined_from : (separator : ℕ) (first : List ℕ) (others : List (List ℕ)) → join_with_byte separator (first ∷ others) ≡ first ++ flat_map (λ piece. separator ∷ piece) others
joined_from separator first [] = sym (append-nil first)
joined_from separator first (next ∷ others) = ap (λ rest. first ++ separator ∷ rest) (joined_from separator next others)

pub joined_all : (separator : ℕ) (pieces : List (List ℕ)) (first begun text : List ℕ) → 1 ≤ length pieces → first ≡ get_or pieces 0 first → begun ≡ first → text ≡ begun ++ flat_map (λ piece. separator ∷ piece) (take (length pieces - 1) (drop 1 pieces)) → text ≡ join_with_byte separator pieces
joined_all separator [] first begun text full at start all = absurd (omega arith)
joined_all separator (piece ∷ others) first begun text full at start all =
    let rest : take (length (piece ∷ others) - 1) others ≡ others = grind (arith, common_steps) in
    (rw rest at all) ∙ ap (λ b. b ++ flat_map (λ p. separator ∷ p) others) (start ∙ at) ∙ sym (joined_from separator piece others)
