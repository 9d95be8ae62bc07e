-- A tag ends in its stamp.
use Rattle.std.proofs.Common.{◌≡◌, ℕ, ◌-◌, true, cond, List, [], ◌∷◌, ◌++◌, length, drop, refl, ap, ◌∙◌, arith, append_assoc}
use Rattle.std.specs.Prelude.{◌&&◌, nat_eq, nat_lt, decimal, Some, None}
use Rattle.std.specs.List.{ends_with}
use Rattle.std.specs.Str.{bytes_eq}
use Rattle.std.specs.Cmp.Lexicographic.{pointwise}
use Rattle.std.proofs.lemmas.Bool.{and_parts, and_from}
use Rattle.std.proofs.lemmas.List.{length-append}
use Rattle.std.proofs.lemmas.Slice.Eq.{bytes_eq-Decides}
use Rattle.gate_base.specs.Told.{moment_limit}
use Rattle.swift_marks.specs.Number.{id_text, id_fits_tag}
use Rattle.swift_marks.specs.Tag.{is_content_type, is_etag, has_text, tag_text, tag_parts, read_tag, stamp_of, is_stamp, stamp_text, read_stamp}
use Rattle.swift_marks.specs.declared.tag.Tag.{Tag}
use Rattle.swift_marks.proofs.lemmas.TagLaws.{kept, tag_has_one_text}

drop_front : (a b : List ℕ) → drop (length (a ++ b) - length b) (a ++ b) ≡ b
drop_front a b = ap (λ n. drop n (a ++ b)) (omega (arith, length-append a b)) ∙ past a b
  where
    past : (a b : List ℕ) → drop (length a) (a ++ b) ≡ b
    past [] b = refl
    past (x ∷ a) b = past a b

ends_in : (a b : List ℕ) → ends_with nat_eq (a ++ b) b ≡ true
ends_in a b = ap (λ t. pointwise nat_eq b t) (drop_front a b) ∙ (bytes_eq-Decides b b).1 refl

regroup : (a e d i : List ℕ) → (((((a ++ 59 ∷ 115 ∷ 51 ∷ 61 ∷ []) ++ e) ++ 46 ∷ []) ++ d) ++ 46 ∷ []) ++ i ≡ a ++ ((((((59 ∷ 115 ∷ 51 ∷ 61 ∷ []) ++ e) ++ 46 ∷ []) ++ d) ++ 46 ∷ []) ++ i)
regroup a e d i = simp append_assoc

stamped : (tag : Tag) → tag_text tag ≡ tag.content_type ++ stamp_text (stamp_of tag)
unfolding tag_text stamp_text
stamped tag = regroup tag.content_type tag.etag (decimal tag.moment) (id_text tag.id)

stamp_has_text : (tag : Tag) → has_text tag ≡ true → is_stamp (stamp_of tag) ≡ true
unfolding has_text is_stamp
stamp_has_text tag h =
    let all = and_parts (is_content_type tag.content_type && is_etag tag.etag && nat_lt tag.moment moment_limit) (id_fits_tag tag.id) h in
    let most = and_parts (is_content_type tag.content_type && is_etag tag.etag) (nat_lt tag.moment moment_limit) all.0 in
    let some = and_parts (is_content_type tag.content_type) (is_etag tag.etag) most.0 in
    and_from _ _ (and_from _ _ some.1 most.1) all.1

-- the parts of what reads as a tag are the tag
parts_are : (text : List ℕ) (tag : Tag) → read_tag text ≡ Some tag → tag_parts text ≡ tag
unfolding read_tag
parts_are text tag h = (kept (has_text (tag_parts text) && bytes_eq (tag_text (tag_parts text)) text) (tag_parts text) tag h).1

-- what reads as a tag ends in its stamp
pub tag_has_stamp : (text : List ℕ) (tag : Tag) → read_tag text ≡ Some tag → read_stamp text ≡ Some (stamp_of tag)
unfolding read_stamp
tag_has_stamp text tag h =
    let one = tag_has_one_text text tag h in
    let ends : ends_with nat_eq text (stamp_text (stamp_of tag)) ≡ true = ap (λ t. ends_with nat_eq t (stamp_text (stamp_of tag))) (one.1 ∙ stamped tag) ∙ ends_in tag.content_type (stamp_text (stamp_of tag)) in
    ap (λ (parts : Tag). cond (is_stamp (stamp_of parts) && ends_with nat_eq text (stamp_text (stamp_of parts))) (Some (stamp_of parts)) None) (parts_are text tag h)
    ∙ ap (λ b. cond b (Some (stamp_of tag)) None) (and_from _ _ (stamp_has_text tag one.0) ends)
