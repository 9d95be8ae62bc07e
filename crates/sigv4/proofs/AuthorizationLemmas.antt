-- How the names of an Authorization header are read, one after the other.
use Rattle.std.proofs.Common.{◌≡◌, ℕ, ◌+◌, ◌<◌, List, [], ◌∷◌, ◌++◌, length, take, drop, Some, None, position, append_assoc, sym, ap, ◌∙◌, arith, length-drop}
use Rattle.std.specs.List.{slice_split}
use Rattle.s3_names.proofs.lemmas.Dots.{slice_split_from, slice_split_none_at}
use Rattle.sigv4.specs.Authorization.{is_semicolon}

-- one more name
pub names_more : (text rest name behind : List ℕ) (names more : List (List ℕ)) (at : ℕ) → slice_split is_semicolon text ≡ names ++ slice_split is_semicolon rest → position is_semicolon rest ≡ Some at → name ≡ take at rest → behind ≡ drop (at + 1) rest → more ≡ names ++ name ∷ [] → slice_split is_semicolon text ≡ more ++ slice_split is_semicolon behind
names_more text rest name behind names more at so_far found front tail grown =
    rw (grown, front, tail, append_assoc) (so_far ∙ ap (λ parts. names ++ parts) (slice_split_from is_semicolon rest at found))

-- and the last one
pub names_end : (text rest name : List ℕ) (names all : List (List ℕ)) → slice_split is_semicolon text ≡ names ++ slice_split is_semicolon rest → position is_semicolon rest ≡ None → name ≡ rest → all ≡ names ++ name ∷ [] → all ≡ slice_split is_semicolon text
names_end text rest name names all so_far none last grown =
    rw (grown, last) (sym (so_far ∙ ap (λ parts. names ++ parts) (slice_split_none_at is_semicolon rest none)))

pub behind_is_shorter : (rest behind : List ℕ) (at : ℕ) → at < length rest → behind ≡ drop (at + 1) rest → length behind < length rest
behind_is_shorter rest behind at within tail = rw tail (omega (arith, length-drop (at + 1) rest))
