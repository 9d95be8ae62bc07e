-- The tags of a value between its commas.
use Rattle.std.proofs.Common.{◌≡◌, ℕ, ◌+◌, List, [], ◌∷◌, ◌++◌, take, drop, map, Some, None, position, sym, ap, ◌∙◌, append_assoc}
use Rattle.std.specs.List.{slice_split}
use Rattle.std.proofs.lemmas.List.{drop-drop}
use Rattle.s3_names.proofs.lemmas.Dots.{slice_split_from, slice_split_none_at}
use Rattle.http_wire.specs.Closing.{is_comma}
use Rattle.request_fields.specs.Conditions.{etag_of}

abbrev pub tags : List ℕ → List (List ℕ)
tags text = map etag_of (slice_split is_comma text)

tags_from : (all seen : List (List ℕ)) (text : List ℕ) (at : ℕ) → position is_comma text ≡ Some at → all ≡ seen ++ tags text
    → all ≡ (seen ++ etag_of (take at text) ∷ []) ++ tags (drop (at + 1) text)
tags_from all seen text at h e =
    e ∙ ap (λ pieces. seen ++ map etag_of pieces) (slice_split_from is_comma text at h)
    ∙ sym (append_assoc seen (etag_of (take at text) ∷ []) (tags (drop (at + 1) text)))

drop_past : (text : List ℕ) (at : ℕ) → drop 1 (drop at text) ≡ drop (at + 1) text
drop_past text at = drop-drop 1 at text

-- the first tag, and then the others
pub tags_go_on : (all seen : List (List ℕ)) (text : List ℕ) (at : ℕ) → position is_comma text ≡ Some at → all ≡ seen ++ tags text
    → all ≡ (seen ++ etag_of (take at text) ∷ []) ++ tags (drop 1 (drop at text))
tags_go_on all seen text at h e =
    tags_from all seen text at h e ∙ sym (ap (λ rest. (seen ++ etag_of (take at text) ∷ []) ++ tags rest) (drop_past text at))

pub tags_end : (all seen : List (List ℕ)) (text : List ℕ) → position is_comma text ≡ None → all ≡ seen ++ tags text
    → seen ++ etag_of text ∷ [] ≡ all
tags_end all seen text h e = sym (e ∙ ap (λ pieces. seen ++ map etag_of pieces) (slice_split_none_at is_comma text h))
