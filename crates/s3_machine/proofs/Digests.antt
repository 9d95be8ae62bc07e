-- The digests that the ETags of a completion write, one by one.
use Rattle.std.proofs.Common.{◌≡◌, ℕ, ◌+◌, ◌<◌, List, [], ◌∷◌, ◌++◌, flat_map, take, length, get_or, refl, sym, ap, ◌∙◌, append_assoc}
use Rattle.std.proofs.lemmas.List.{append-nil, take_more}
use Rattle.s3_machine.specs.declared.operation.Listed.{Listed}
use Rattle.s3_machine.specs.Uploads.{digest_in, digests_of}

-- one more text behind those of a list
flat_more : {X : Type 0} (f : X → List ℕ) (xs : List X) (x : X) → flat_map f (xs ++ x ∷ []) ≡ flat_map f xs ++ f x
flat_more f [] x = append-nil (f x)
flat_more f (y ∷ xs) x = ap (λ rest. f y ++ rest) (flat_more f xs x) ∙ sym (append_assoc (f y) (flat_map f xs) (f x))

-- one more item of a list that is gone through
pub flat_next : {X : Type 0} (f : X → List ℕ) (xs : List X) (i : ℕ) (x : X) → i < length xs → x ≡ get_or xs i x → flat_map f (take (i + 1) xs) ≡ flat_map f (take i xs) ++ f x
flat_next f xs i x below same = ap (flat_map f) (take_more xs i x below ∙ ap (λ t. take i xs ++ t ∷ []) (sym same)) ∙ flat_more f (take i xs) x

digests_are : (list : List Listed) → digests_of list ≡ flat_map (λ (l : Listed). digest_in l.etag) list
digests_are [] = refl
digests_are (l ∷ list) = ap (λ rest. digest_in l.etag ++ rest) (digests_are list)

-- one more digest
pub digests_more : (list : List Listed) (i : ℕ) (l : Listed) → i < length list → l ≡ get_or list i l → digests_of (take (i + 1) list) ≡ digests_of (take i list) ++ digest_in l.etag
digests_more list i l below same =
    digests_are (take (i + 1) list) ∙ flat_next (λ (l : Listed). digest_in l.etag) list i l below same ∙ ap (λ front. front ++ digest_in l.etag) (sym (digests_are (take i list)))
