-- The step of a completion that isn't kept, by what its list comes to.
use Rattle.std.specs.Prelude.{◌≡◌, ℕ, Bool, true, false, not, List, map, bytes_eq, is_some, Option, None, Some}
use Rattle.std.proofs.Common.{refl, sym, ap, ◌∙◌}
use Rattle.std.proofs.lemmas.Slice.Eq.{bytes_eq-Decides}
use Rattle.std.specs.FinMap.{get, insert, remove}
use Rattle.gate_base.specs.declared.page.Pair.{Pair}
use Rattle.gate_base.specs.Maps.{adjust, Names}
use Rattle.gate_base.proofs.lemmas.Maps.{by_name, remove_insert, remove_missing}
use Rattle.s3_names.specs.declared.acl.Acl.{Acl}
use Rattle.s3_names.specs.Id.{id_digits}
use Rattle.s3_machine.specs.declared.code.Code.{Code}
use Rattle.s3_machine.specs.declared.code.Code.TheVariants.{EntityTooSmall, InvalidPart, InvalidPartOrder}
use Rattle.s3_machine.specs.declared.operation.Label.{Label}
use Rattle.s3_machine.specs.declared.operation.Listed.{Listed}
use Rattle.s3_machine.specs.Ops.{CompleteUpload, CreateUpload}
use Rattle.s3_machine.specs.declared.operation.Reply.{Reply}
use Rattle.s3_machine.specs.declared.operation.Reply.TheVariants.{Refused}
use Rattle.s3_machine.specs.Replies.{Completed, Started}
use Rattle.s3_machine.specs.declared.only_if.OnlyIf.{OnlyIf}
use Rattle.s3_machine.specs.declared.operation.Settings.{Settings}
use Rattle.s3_machine.specs.Finish.{finished}
use Rattle.s3_machine.specs.State.{Bucket, State, Upload}
use Rattle.s3_machine.specs.Step.{IsNewId, S3Step, is_other_acl, completes, completes_by, completes_chosen, completes_open, gives, refusal_in, unless, unless_refused}
use Rattle.s3_machine.specs.Step.{refuses as step_refuses}
use Rattle.s3_machine.specs.Uploads.{etag_listed, chosen, completed, etag_in, kept_as, new_upload, open_upload, rises, upload_etag}
use Rattle.s3_machine.proofs.lemmas.StepLemmas.{HasUpload, complete_held, in_found, step_completed, step_started, steps, upload_there}
use Rattle.s3_native.specs.Native.{closed, has_all, is_small_list, joined_by, kept_by, refuses}
use Rattle.s3_native.proofs.Parts.{Tested, accepts, chooses, chosen_is, none_chosen, sizes_are}

module _ (settings : Settings) (old : State) (bucket id : List ℕ) (list : List Listed) (held : Option Code) (moment : ℕ) (u : Upload) where
  open_refused : (code : Code) → refuses settings.least_part u.parts list ≡ Some code → completes_open settings old bucket id list held moment u ≡ step_refuses code old
  open_refused code some = by (rises list) (has_all u.parts list) (is_small_list u.parts settings.least_part list) refl refl refl some
    where
      by : (rise all small : Bool) → rises list ≡ rise → has_all u.parts list ≡ all → is_small_list u.parts settings.least_part list ≡ small
          → Tested settings.least_part u list (Some code) rise all small → completes_open settings old bucket id list held moment u ≡ step_refuses code old
      by false all small e f g is =
          let same : InvalidPartOrder ≡ code = cc in
          ap (λ t. unless (not t) InvalidPartOrder old (completes_chosen settings old bucket id list held moment u (chosen u.parts list))) e ∙ ap (λ c. step_refuses c old) same
      by true false small e f g is =
          let same : InvalidPart ≡ code = cc in
          ap (λ t. unless (not t) InvalidPartOrder old (completes_chosen settings old bucket id list held moment u (chosen u.parts list))) e
          ∙ ap (completes_chosen settings old bucket id list held moment u) (none_chosen u.parts list f) ∙ ap (λ c. step_refuses c old) same
      by true true true e f g is =
          let same : EntityTooSmall ≡ code = cc in
          let found = chooses u.parts list f in
          ap (λ t. unless (not t) InvalidPartOrder old (completes_chosen settings old bucket id list held moment u (chosen u.parts list))) e
          ∙ ap (completes_chosen settings old bucket id list held moment u) (chosen_is u.parts list found.0 found.1)
          ∙ ap (λ t. unless t EntityTooSmall old (unless_refused held old (gives (Completed bucket u.key (upload_etag (map etag_in found.0))) (finished (completed bucket id u list found.0 moment) old)))) (sym (sizes_are u.parts settings.least_part list found.0 found.1) ∙ g) ∙ ap (λ c. step_refuses c old) same
      by true true false e f g is = cc

module _ (settings : Settings) (old : State) (bucket key id : List ℕ) (label : Label) (list : List Listed) (only_if : OnlyIf) (has : HasUpload old bucket key id)
    (kept : kept_as key list (get has.b.kept id) ≡ None) where
  pub refuses_step : (code : Code) → refuses settings.least_part has.u.parts list ≡ Some code → S3Step settings old (CompleteUpload bucket key id list only_if) label (Refused code) old
  refuses_step code some = steps _ _ 0 tt (
      in_found old bucket has.b has.in_bucket (completes settings old bucket key id list only_if label.moment)
      ∙ ap (λ v. completes_by v settings old bucket key id list only_if label.moment has.b) kept
      ∙ upload_there old key id (completes_open settings old bucket id list (refusal_in only_if key has.b) label.moment) has.b has.u has.in_uploads has.of_key
      ∙ open_refused settings old bucket id list (refusal_in only_if key has.b) label.moment has.u code some)

  pub held_step : refuses settings.least_part has.u.parts list ≡ None → (code : Code) → refusal_in only_if key has.b ≡ Some code → S3Step settings old (CompleteUpload bucket key id list only_if) label (Refused code) old
  held_step none code some =
      let a = accepts settings.least_part has.u list label.moment none in
      complete_held settings old bucket key id label has list only_if a.parts kept a.rise a.are a.large code some

  pub completes_step : refuses settings.least_part has.u.parts list ≡ None → refusal_in only_if key has.b ≡ None → (reply : Reply) (new : State) → reply ≡ Completed bucket key (upload_etag (map etag_listed list))
      → new ≡ adjust bucket (closed key id (joined_by has.u list label.moment) (kept_by has.u list label.moment)) old
      → S3Step settings old (CompleteUpload bucket key id list only_if) label reply new
  completes_step none met reply new replied gone =
      let a = accepts settings.least_part has.u list label.moment none in
      let s = step_completed settings old bucket key id label has list only_if a.parts kept a.rise a.are a.large met in
      let same : key ≡ has.u.key = sym ((bytes_eq-Decides has.u.key key).0 has.of_key) in
      record {
        choice = s.choice;
        free = s.free;
        replies = replied ∙ (λ i. Completed bucket (same i) (a.etag i)) ∙ s.replies;
        goes = gone ∙ (λ i. adjust bucket (closed (same i) id (a.object i) (a.kept i)) old) ∙ s.goes;
      }

-- the same by what is found one by one
module _ (settings : Settings) (old : State) (bucket key id : List ℕ) (label : Label) (list : List Listed) (only_if : OnlyIf) (b : Bucket) (u : Upload) where
  pub refuses_flat : get old bucket ≡ Some b → get b.uploads id ≡ Some u → bytes_eq u.key key ≡ true → kept_as key list (get b.kept id) ≡ None
      → (code : Code) → refuses settings.least_part u.parts list ≡ Some code → S3Step settings old (CompleteUpload bucket key id list only_if) label (Refused code) old
  refuses_flat found there same kept = refuses_step settings old bucket key id label list only_if (record { b = b; u = u; in_bucket = found; in_uploads = there; of_key = same }) kept

  pub completes_flat : get old bucket ≡ Some b → get b.uploads id ≡ Some u → bytes_eq u.key key ≡ true → kept_as key list (get b.kept id) ≡ None
      → refuses settings.least_part u.parts list ≡ None → refusal_in only_if key b ≡ None → (reply : Reply) (new : State) → reply ≡ Completed bucket key (upload_etag (map etag_listed list))
      → new ≡ adjust bucket (closed key id (joined_by u list label.moment) (kept_by u list label.moment)) old
      → S3Step settings old (CompleteUpload bucket key id list only_if) label reply new
  completes_flat found there same kept = completes_step settings old bucket key id label list only_if (record { b = b; u = u; in_bucket = found; in_uploads = there; of_key = same }) kept

  pub held_flat : get old bucket ≡ Some b → get b.uploads id ≡ Some u → bytes_eq u.key key ≡ true → kept_as key list (get b.kept id) ≡ None
      → refuses settings.least_part u.parts list ≡ None → (code : Code) → refusal_in only_if key b ≡ Some code → S3Step settings old (CompleteUpload bucket key id list only_if) label (Refused code) old
  held_flat found there same kept = held_step settings old bucket key id label list only_if (record { b = b; u = u; in_bucket = found; in_uploads = there; of_key = same }) kept

-- an upload is created under a new id
pub starts_flat : (settings : Settings) (old : State) (bucket key content_type : List ℕ) (acl : Option Acl) (meta : List Pair) (label : Label) (b : Bucket) (id : ℕ)
    → get old bucket ≡ Some b → is_other_acl acl b.acl ≡ false → IsNewId b id → (reply : Reply) (new : State) → reply ≡ Started bucket key id
    → new ≡ adjust bucket (open_upload (id_digits id) (new_upload key content_type meta label.moment)) old
    → S3Step settings old (CreateUpload bucket key acl content_type meta) label reply new
starts_flat settings old bucket key content_type acl meta label b id found same unused reply new replied gone =
    let s = step_started settings old bucket label b found key acl content_type meta id same unused in
    record { choice = s.choice; free = s.free; replies = replied ∙ s.replies; goes = gone ∙ s.goes }

-- what was put where nothing stood is taken away again
pub dropped_again : {X : Type 0} (m : Names X) (k : List ℕ) (x : X) → is_some (get m k) ≡ false → remove (insert m k x) k ≡ m
dropped_again m k x none = remove_insert by_name m k x ∙ remove_missing by_name m k (missing (get m k) none)
  where
    missing : {X : Type 0} (v : Option X) → is_some v ≡ false → v ≡ None
    missing None e = refl
    missing (Some x) e = cc
