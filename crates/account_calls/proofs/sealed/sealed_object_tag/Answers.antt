use Rattle.std.proofs.Common.{◌≡◌, ℕ, List, Some, subst, ◌∙◌}
use Rattle.std.specs.Prelude.{IfOk}
use Rattle.swift_marks.specs.Tag.{has_text, tag_text}
use Rattle.swift_marks.specs.declared.tag.Tag.{Tag}
use Rattle.account_calls.proofs.sealed.sealed_object_tag.Goals as goal

abbrev made : List ℕ → List ℕ → ℕ → ℕ → Tag
made content_type etag moment id = record { content_type = content_type; etag = etag; moment = moment; id = Some id }

pub write-requires : goal.write-requires
write-requires c =
    (λ i. has_text (made (c.in_ok-content_type.ensures i) (c.in_ok-etag.ensures i) c.args.sealed.now.moment c.args.sealed.now.id)) ∙ c.requires

pub returns : goal.returns
returns c =
    subst (λ (tag : Tag). IfOk c.write.result (λ text. text ≡ tag_text tag))
    (λ i. made (c.in_ok-content_type.ensures i) (c.in_ok-etag.ensures i) c.args.sealed.now.moment c.args.sealed.now.id) c.write.ensures
