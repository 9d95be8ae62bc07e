-- What the PUT of a copy's file does to the state, and the step that it is.
use Rattle.std.specs.Prelude.{◌≡◌, ◌<◌, ℕ, true, false, List, length, Option, None, Some}
use Rattle.std.specs.FinMap.{get}
use Rattle.std.proofs.Common.{refl, sym, ap, subst, ◌∙◌}
use Rattle.gate_base.proofs.lemmas.Maps.{some_value}
use Rattle.gate_base.specs.Maps.{adjust}
use Rattle.s3_names.specs.Id.{id_digits}
use Rattle.s3_names.specs.declared.acl.Acl.{Acl}
use Rattle.s3_machine.specs.Conditions.{no_conditions}
use Rattle.s3_machine.specs.Copies.{copied, is_onto_itself}
use Rattle.s3_machine.specs.State.{Object, State}
use Rattle.s3_machine.specs.Step.{S3Step, is_other_acl}
use Rattle.s3_machine.specs.Step as machine
use Rattle.s3_machine.specs.declared.operation.Label.{Label}
use Rattle.s3_machine.specs.declared.only_if.OnlyIf.TheVariants.{Always}
use Rattle.s3_machine.specs.Ops.{CopyObject}
use Rattle.s3_machine.specs.declared.operation.Described.{Described}
use Rattle.s3_machine.specs.Replies.{Copied}
use Rattle.s3_machine.specs.declared.operation.Settings.{Settings}
use Rattle.swift_calls.specs.Account.{SwiftContainer, SwiftAccount, files, find_object, put_file}
use Rattle.swift_calls.specs.Bodies.{etag_of, is_good_list}
use Rattle.swift_calls.specs.Step.{Answer, put_object, swift_step}
use Rattle.swift_calls.specs.declared.calls.SwiftRequest.{SwiftRequest}
use Rattle.swift_marks.specs.Pack.{pack_of}
use Rattle.swift_marks.specs.Tag.{tag_text}
use Rattle.upload_texts.specs.declared.sealed.Sealed.{Sealed}
use Rattle.upload_records.specs.Consistent.{IsConsistent, IsOpen}
use Rattle.upload_records.specs.Laws.{MayStand, PutsFile, Stands}
use Rattle.upload_records.specs.Layout.{segments_name, uploads_name}
use Rattle.upload_records.specs.Native.{IsSettled, completed_file, record_at, s3_state, sealed_object, sealed_segments, sealed_sub_manifests, sealed_tag}
use Rattle.upload_records.proofs.lemmas.Objects.{file_puts}
use Rattle.upload_records.proofs.lemmas.Rolling.{completed_stands, listing_stands}
use Rattle.upload_records.proofs.lemmas.Settled.{same_off, settled_same, unsealed_of}
use Rattle.account_calls.specs.Interpret.{stored_due}
use Rattle.account_calls.specs.Puts.{etag_put}
use Rattle.account_calls.specs.Sealed.{put_object_of, sealed_listing}
use Rattle.account_calls.proofs.lemmas.Fits.{has_a_pack}
use Rattle.account_calls.proofs.lemmas.ListPut.{by_stays, put_step}
use Rattle.account_calls.proofs.lemmas.One.{Effect, IsWritingOf}
use Rattle.account_calls.proofs.lemmas.Puts.{by_etag, due_of}
use Rattle.account_calls.proofs.lemmas.SealStands.{all_counted, some_parts, takes_listing}
use Rattle.many_keys.specs.CopiedLists.{CopiesObject, HasCopy, IsCopy, MayPut}
use Rattle.many_keys.proofs.CopySteps.{of_source}
use Rattle.many_keys.proofs.PutsCopy.{copy_segments, copy_stored, tag_has_text}

-- ---- what it does to the state

module _ (from_bucket from_key : List ℕ) (replaced : Option Described) (s : Sealed) (is : IsCopy s) where
  module _ (tree : SwiftAccount) (sound : IsConsistent tree) (settled : IsSettled tree) (has : HasCopy from_bucket from_key replaced s (sealed_sub_manifests s) tree) where
    may_stand : MayStand (files tree (segments_name s.bucket)) s
    may_stand = record {
      keyed = is.place.keyed;
      tagged = tag_has_text s is;
      of_upload = is.of_parts;
      packed = has_a_pack s.meta is.described is.ordered;
      described = is.described;
      ascends = is.ascends;
      counted = all_counted s.list is.proper;
      few = is.few;
      filed = (sound.buckets s.bucket is.place.named has.stands.unnamed.there).of_segments;
      parts = has.stands.parts;
      subs = has.stands.subs;
    }

    stands : Stands (files tree (segments_name s.bucket)) s (completed_file s)
    stands = completed_stands (files tree (segments_name s.bucket)) s may_stand

    takes_list : 0 < length (sealed_listing s) → is_good_list (find_object tree) (sealed_listing s) ≡ true
    takes_list some =
        let lists = copy_segments s is in
        let parts = (listing_stands (files tree (segments_name s.bucket)) (segments_name s.bucket) (id_digits s.id) 0 s.list is.ascends (all_counted s.list is.proper) may_stand.filed has.stands.parts).0 in
        takes_listing tree (segments_name s.bucket) (id_digits s.id) (sealed_segments s) parts lists.places lists.few lists.sum (some_parts (segments_name s.bucket) (id_digits s.id) (sealed_segments s) some) has.stands.subs

    puts : PutsFile tree s.bucket s.key (sealed_object (files tree (segments_name s.bucket)) s) (put_file s.bucket s.key (completed_file s) tree)
    puts = file_puts tree s.bucket s.key (completed_file s) (sealed_object (files tree (segments_name s.bucket)) s) is.place.named stands.is stands.reads
        (λ id lists opens. has.stands.unnamed.abandoned.closed (subst (λ i. IsOpen (record_at (files tree (uploads_name s.bucket)) (id_digits i))) (stands.lists id lists) opens))
        (copy_stored s is) sound (unsealed_of settled)

    folder : (x : SwiftContainer) × (get tree s.bucket ≡ Some x)
    folder = some_value (get tree s.bucket) has.stands.unnamed.there

    answered : swift_step (put_object_of s) tree ≡ put_object (Some folder.0) s.bucket s.key (completed_file s) tree
    answered = put_step tree s.bucket s.key (tag_text (sealed_tag s)) (pack_of s.meta) (sealed_listing s) folder.0 folder.1 takes_list

    put_effect : Effect tree (put_object_of s) (stored_due (etag_put (put_object_of s))) (CopiesObject s.bucket s.key from_bucket from_key replaced s.moment)
    put_effect = record {
      answer = tt;
      says = ap (λ (a : Answer). stored_due (etag_put (put_object_of s)) a.reply) answered
          ∙ due_of (etag_of (completed_file s).content) (etag_put (put_object_of s)) (by_etag s.bucket s.key (tag_text (sealed_tag s)) (pack_of s.meta) (sealed_listing s));
      after = subst IsConsistent (sym (ap (λ (a : Answer). a.tree) answered)) puts.sound;
      state = record {
        object = has.object;
        found = has.found;
        made = ap (λ (a : Answer). s3_state a.tree) answered ∙ puts.state ∙ ap (λ o. adjust s.bucket (machine.put_object s.key o) (s3_state tree)) has.same;
      };
    }

  put_writes : IsWritingOf (put_object_of s) (stored_due (etag_put (put_object_of s))) (HasCopy from_bucket from_key replaced s (sealed_sub_manifests s)) (CopiesObject s.bucket s.key from_bucket from_key replaced s.moment)
  put_writes = record {
    effect = λ tree sound settled has. put_effect tree sound settled has;
    settled = λ tree.
        settled_same (same_off tree (swift_step (put_object_of s) tree).tree s.bucket is.place.named (by_stays tree s.bucket s.key (tag_text (sealed_tag s)) (pack_of s.meta) (sealed_listing s)));
  }

  pub puts_copy : {request : SwiftRequest} → request ≡ put_object_of s
      → IsWritingOf request (stored_due (etag_put request)) (HasCopy from_bucket from_key replaced s (sealed_sub_manifests s)) (CopiesObject s.bucket s.key from_bucket from_key replaced s.moment)
  puts_copy same = subst (λ r. IsWritingOf r (stored_due (etag_put r)) (HasCopy from_bucket from_key replaced s (sealed_sub_manifests s)) (CopiesObject s.bucket s.key from_bucket from_key replaced s.moment)) (sym same) put_writes

-- ---- the step that it is

-- a copy has its source's ETag
etag_kept : (replaced : Option Described) (moment : ℕ) (o : Object) → (copied replaced moment o).etag ≡ o.etag
etag_kept None moment o = refl
etag_kept (Some r) moment o = refl

same_some : (x y : Object) → Some x ≡ Some y → x ≡ y
same_some x y e = cc

pub copy_steps : (settings : Settings) (acl : Option Acl) (list : Acl) (from_bucket from_key : List ℕ) (replaced : Option Described) (label : Label) (s : Sealed) (etag : List ℕ) → is_other_acl acl list ≡ false
    → is_onto_itself s.bucket s.key from_bucket from_key replaced ≡ false → s.moment ≡ label.moment → etag ≡ s.etag → (tree : SwiftAccount) (told : Unit {0}) (new : State) → MayPut list from_bucket from_key replaced s (sealed_sub_manifests s) tree
    → CopiesObject s.bucket s.key from_bucket from_key replaced s.moment told (s3_state tree) new
    → S3Step settings (s3_state tree) (CopyObject s.bucket s.key acl from_bucket from_key replaced no_conditions Always) label (Copied false etag s.moment) new
copy_steps settings acl list from_bucket from_key replaced label s etag same other dated tagged tree told new may does =
    let o : Object = does.object in
    let step = of_source settings (s3_state tree) s.bucket s.key acl from_bucket from_key replaced label list may.listed same o does.found other in
    let then : S3Step settings (s3_state tree) (CopyObject s.bucket s.key acl from_bucket from_key replaced no_conditions Always) label (Copied false o.etag s.moment) (adjust s.bucket (machine.put_object s.key (copied replaced s.moment o)) (s3_state tree)) =
    subst (λ m. S3Step settings (s3_state tree) (CopyObject s.bucket s.key acl from_bucket from_key replaced no_conditions Always) label (Copied false o.etag m) (adjust s.bucket (machine.put_object s.key (copied replaced m o)) (s3_state tree))) (sym dated) step in
    let is_one : o ≡ may.copy.object = same_some o may.copy.object (sym does.found ∙ may.copy.found) in
    let is_etag : o.etag ≡ etag = ap (λ (x : Object). x.etag) is_one ∙ sym (etag_kept replaced s.moment may.copy.object) ∙ sym (ap (λ (x : Object). x.etag) may.copy.same) ∙ sym tagged in
    subst {A = List ℕ × State} (λ e. S3Step settings (s3_state tree) (CopyObject s.bucket s.key acl from_bucket from_key replaced no_conditions Always) label (Copied false e.0 s.moment) e.1) (λ i. (is_etag i, sym does.made i)) then
