use Rattle.std.proofs.Common.{◌≡◌, rules, ℕ, false, List, sym, ap, ◌∙◌}
use Rattle.std.specs.Prelude.{option_copied}
use Rattle.std.specs.FinMap.{get}
use Rattle.gate_base.specs.Maps.{adjust}
use Rattle.s3_names.specs.Id.{id_digits}
use Rattle.s3_machine.specs.Replies.{Started}
use Rattle.s3_machine.specs.State.{Machine, State}
use Rattle.s3_machine.specs.Step.{is_other_acl}
use Rattle.s3_machine.specs.Uploads.{new_upload, open_upload}
use Rattle.s3_native.proofs.Completing.{starts_flat}
use Rattle.s3_native.proofs.native.Native.create_upload.Goals as goal

pub returns-clause-ok : goal.returns-clause-ok
returns-clause-ok c =
    let self = c.args.self.now in
    let start = c.args.start.now in
    let b = c.in-Some.found.now in
    let id = c.in-Some-new_id.id in
    let state = ap (λ (m : Machine). m.state) c.self.view_is in
    let found = sym (ap (λ (s : State). get s start.bucket) state) ∙ sym (ap (λ (name : List ℕ). get c.self.inside.buckets name) c.bytes.ensures.value) ∙ sym c.get.ensures ∙ ap option_copied c.in-Some.is in
    let same : is_other_acl start.acl b.acl ≡ false = search rules in
    let made : c.open_upload.new.buckets ≡ adjust start.bucket (open_upload (id_digits id) (new_upload start.key start.described.content_type start.described.meta c.args.label.now.moment)) self.state = search rules in
    starts_flat self.settings self.state start.bucket start.key start.described.content_type start.acl start.described.meta c.args.label.now b id found same c.in-Some-new_id.ensures.new _ _
    (λ i. Started (c.in_ok-bucket.ensures.value i) (c.in_ok-key.ensures.value i) id) made
