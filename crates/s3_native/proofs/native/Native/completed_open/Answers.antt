use Rattle.std.proofs.Common.{rules, ℕ, List, map, sym, ap, ◌∙◌}
use Rattle.std.specs.Prelude.{option_copied}
use Rattle.std.specs.FinMap.{get}
use Rattle.gate_base.specs.Maps.{adjust}
use Rattle.s3_machine.specs.declared.operation.Listed.{Listed}
use Rattle.s3_machine.specs.Replies.{Completed}
use Rattle.s3_machine.specs.State.{Bucket, Machine, State}
use Rattle.s3_machine.specs.Step.{refusal_in}
use Rattle.s3_machine.specs.Uploads.{etag_listed, upload_etag}
use Rattle.s3_native.specs.Native.{closed, joined_by, kept_by, refuses}
use Rattle.s3_native.proofs.Completing.{completes_flat, held_flat, refuses_flat}
use Rattle.s3_native.proofs.native.Native.completed_open.Goals as goal

pub returns-in-Some-refuses : goal.returns-in-Some-refuses
returns-in-Some-refuses c =
    let self = c.args.self.now in
    let done = c.args.done.now in
    let b = c.in-Some.found.now in
    let u = c.in-Some-get.upload.now in
    let state = ap (λ (m : Machine). m.state) c.self.view_is in
    let found = sym (ap (λ (s : State). get s done.bucket) state) ∙ sym (ap (λ (name : List ℕ). get c.self.inside.buckets name) c.bytes.ensures.value) ∙ sym c.get.ensures ∙ ap option_copied c.in-Some.is in
    let there = sym (ap (λ (b : Bucket). get b.uploads done.id) c.found.view_is) ∙ sym (ap (λ (id : List ℕ). get c.found.inside.uploads id) c.as_slice.ensures) ∙ sym c.get-2.ensures ∙ ap option_copied c.in-Some-get.is in
    let judged =
    sym (ap (λ (m : Machine). refuses m.settings.least_part u.parts done.list) c.self.view_is)
    ∙ sym (ap (λ (list : List Listed). refuses c.self.inside.settings.least_part u.parts list) (c.as_slice-2.ensures ∙ c.get-list.ensures.value))
    ∙ sym c.refuses.ensures in
    refuses_flat self.settings self.state done.bucket done.key done.id c.args.label.now done.list done.only_if b u found there (search rules) (c.requires b found) _ (judged ∙ c.in-Some-refuses.is)

pub returns-in-Some-refuses-2 : goal.returns-in-Some-refuses-2
returns-in-Some-refuses-2 c =
    let self = c.args.self.now in
    let done = c.args.done.now in
    let b = c.in-Some.found.now in
    let u = c.in-Some-get.upload.now in
    let state = ap (λ (m : Machine). m.state) c.self.view_is in
    let found = sym (ap (λ (s : State). get s done.bucket) state) ∙ sym (ap (λ (name : List ℕ). get c.self.inside.buckets name) c.bytes.ensures.value) ∙ sym c.get.ensures ∙ ap option_copied c.in-Some.is in
    let there = sym (ap (λ (b : Bucket). get b.uploads done.id) c.found.view_is) ∙ sym (ap (λ (id : List ℕ). get c.found.inside.uploads id) c.as_slice.ensures) ∙ sym c.get-2.ensures ∙ ap option_copied c.in-Some-get.is in
    let judged =
    sym (ap (λ (m : Machine). refuses m.settings.least_part u.parts done.list) c.self.view_is)
    ∙ sym (ap (λ (list : List Listed). refuses c.self.inside.settings.least_part u.parts list) (c.as_slice-2.ensures ∙ c.get-list.ensures.value))
    ∙ sym c.refuses.ensures in
    let held = sym (ap (λ (key : List ℕ). refusal_in done.only_if key b) c.bytes-3.ensures.value) ∙ sym c.refuses-2.ensures in
    held_flat self.settings self.state done.bucket done.key done.id c.args.label.now done.list done.only_if b u found there (search rules) (c.requires b found) (judged ∙ c.in_default-refuses.is) _ (held ∙ c.in-Some-refuses-2.is)

pub returns : goal.returns
returns c =
    let self = c.args.self.now in
    let done = c.args.done.now in
    let b = c.in-Some.found.now in
    let u = c.in-Some-get.upload.now in
    let state = ap (λ (m : Machine). m.state) c.self.view_is in
    let found = sym (ap (λ (s : State). get s done.bucket) state) ∙ sym (ap (λ (name : List ℕ). get c.self.inside.buckets name) c.bytes.ensures.value) ∙ sym c.get.ensures ∙ ap option_copied c.in-Some.is in
    let there = sym (ap (λ (b : Bucket). get b.uploads done.id) c.found.view_is) ∙ sym (ap (λ (id : List ℕ). get c.found.inside.uploads id) c.as_slice.ensures) ∙ sym c.get-2.ensures ∙ ap option_copied c.in-Some-get.is in
    let judged =
    sym (ap (λ (m : Machine). refuses m.settings.least_part u.parts done.list) c.self.view_is)
    ∙ sym (ap (λ (list : List Listed). refuses c.self.inside.settings.least_part u.parts list) (c.as_slice-2.ensures ∙ c.get-list.ensures.value))
    ∙ sym c.refuses.ensures in
    let held = sym (ap (λ (key : List ℕ). refusal_in done.only_if key b) c.bytes-3.ensures.value) ∙ sym c.refuses-2.ensures in
    let made = c.in_ok-completed.ensures in
    let list = c.get-list.ensures.value in
    let moment = c.args.label.now.moment in
    completes_flat self.settings self.state done.bucket done.key done.id c.args.label.now done.list done.only_if b u found there (search rules) (c.requires b found) (judged ∙ c.in_default-refuses.is) (held ∙ c.in_default-refuses-2.is) _ _
    ((λ i. Completed done.bucket done.key (made i).0) ∙ (λ i. Completed done.bucket done.key (upload_etag (map etag_listed (list i)))))
    ((λ i. adjust done.bucket (closed done.key done.id (made i).1 (made i).2) self.state)
    ∙ (λ i. adjust done.bucket (closed done.key done.id (joined_by u (list i) moment) (kept_by u (list i) moment)) self.state))
