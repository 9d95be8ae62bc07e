use Rattle.std.proofs.Common.{◌≡◌, ℕ, List, Some, subst, ◌∙◌}
use Rattle.std.specs.Prelude.{IfOk}
use Rattle.swift_marks.specs.Tag.{has_text, tag_text}
use Rattle.swift_marks.specs.declared.tag.Tag.{Tag}
use Rattle.upload_calls.proofs.parts.part_tag_text.Goals as goal

abbrev made : List ℕ → List ℕ → ℕ → ℕ → Tag
made content_type etag moment id = record { content_type = content_type; etag = etag; moment = moment; id = Some id }

pub write-requires : goal.write-requires
write-requires c =
    (λ i. has_text (made (c.in_ok-from_slice.ensures i) (c.in_ok-from_slice-2.ensures i) c.args.moment c.args.id)) ∙ c.requires

pub returns : goal.returns
returns c =
    subst (λ (tag : Tag). IfOk c.write.result (λ text. text ≡ tag_text tag)) (λ i. made (c.in_ok-from_slice.ensures i) (c.in_ok-from_slice-2.ensures i) c.args.moment c.args.id) c.write.ensures
