-- What PUT of a part's file does to the state, where the upload is open.
use Rattle.std.specs.Prelude.{◌≡◌, ◌<◌, ◌≤◌, ◌^◌, ℕ, cond, List, [], length, codes, true, Some, Ok, Err}
use Rattle.std.proofs.Common.{refl, sym, ap, subst, ◌∙◌, inr, arith}
use Rattle.std.proofs.lemmas.Bool.{and_from, lt-ltb}
use Rattle.gate_base.proofs.lemmas.Maps.{some_value}
use Rattle.gate_base.specs.Told.{moment_limit}
use Rattle.s3_names.specs.Bucket.{is_bucket}
use Rattle.s3_names.specs.Id.{id_digits}
use Rattle.s3_machine.specs.ETag.{body_etag}
use Rattle.s3_machine.specs.Limits.{most_body_bytes}
use Rattle.s3_machine.specs.Uploads.{IsPartNumber}
use Rattle.swift_calls.specs.Account.{SwiftObject, SwiftAccount}
use Rattle.swift_calls.specs.Step.{Answer, Fit, put_object, swift_step}
use Rattle.swift_calls.specs.declared.calls.SwiftRequest.{SwiftRequest}
use Rattle.swift_marks.specs.Tag.{has_text, is_etag, tag_text}
use Rattle.swift_marks.proofs.lemmas.FieldLaws.{tag_is_field}
use Rattle.swift_marks.proofs.lemmas.TagLaws.{tag_text_reads}
use Rattle.upload_records.specs.Layout.{segment_name, segments_name}
use Rattle.upload_records.specs.Native.{IsSettled, SameGateway, s3_state}
use Rattle.upload_records.specs.Consistent.{IsConsistent, IsPart, IsStored}
use Rattle.upload_records.specs.Laws.{ChangesBy, PartPut, file_put}
use Rattle.upload_records.proofs.lemmas.Beside.{segments_there}
use Rattle.upload_records.proofs.lemmas.Settled.{settled_same, unsealed_of}
use Rattle.account_calls.specs.Calls.{Becomes}
use Rattle.account_calls.specs.Interpret.{stored_due}
use Rattle.account_calls.specs.declared.fault.PlanFault.TheVariants.{Inconsistent}
use Rattle.account_calls.proofs.lemmas.Etags.{etag_agrees, etag_is_etag}
use Rattle.account_calls.proofs.lemmas.One.{Effect, IsWritingOf}
use Rattle.account_calls.proofs.lemmas.SideNames.{file_name, segment_fits, segments_fits}
use Rattle.upload_calls.specs.Interpret.{part_tag, put_part_of}
use Rattle.upload_calls.specs.Records.{HasOpen, puts_part}
use Rattle.upload_calls.proofs.SideFiles.{same_put}

-- the tag of a part has a text
pub part_has_text : (etag body : List ℕ) (moment id : ℕ) → etag ≡ body_etag body → moment < moment_limit → id < 2 ^ 128 → has_text (part_tag etag moment id) ≡ true
unfolding has_text
part_has_text etag body moment id of_body below fits =
    and_from _ _ (and_from _ _ (and_from _ _ refl (subst (λ e. is_etag e ≡ true) (sym of_body) (etag_is_etag body))) (lt-ltb moment moment_limit below)) (lt-ltb id (2 ^ 128) fits)

-- the PUT of a part's file is one that a store takes
pub part_fits : (bucket : List ℕ) (id number : ℕ) (body : List ℕ) (moment : ℕ) → is_bucket bucket ≡ true → IsPartNumber number → length body ≤ most_body_bytes → moment < moment_limit → id < 2 ^ 128
    → Fit (put_part_of bucket id number body moment)
part_fits bucket id number body moment is counted sized below fits = (
  segments_fits bucket is,
  segment_fits id number counted,
  tag_is_field (part_tag (body_etag body) moment id) (part_has_text (body_etag body) body moment id refl below fits),
  refl,
  sized,
)

-- the request, for a part's own upload, number, bytes and moment
pub record IsPartOf (request : SwiftRequest) (bucket : List ℕ) (id number : ℕ) (body : List ℕ) (moment : ℕ) : Type 0 where
  pub same : request ≡ put_part_of bucket id number body moment
  pub is : is_bucket bucket ≡ true
  pub counted : IsPartNumber number
  pub sized : length body ≤ most_body_bytes
  pub below : moment < moment_limit
  pub fits : id < 2 ^ 128

-- the file of a part as it is put
abbrev file_of_part : ℕ → List ℕ → ℕ → SwiftObject
file_of_part id body moment = file_put (tag_text (part_tag (body_etag body) moment id)) [] body

module _ (law : PartPut) (tree : SwiftAccount) (request : SwiftRequest) (bucket : List ℕ) (id number : ℕ) (body : List ℕ) (moment : ℕ)
    (put : IsPartOf request bucket id number body moment) (sound : IsConsistent tree) (settled : IsSettled tree) (has : HasOpen bucket id tree) where
  abbrev part : IsPart (segment_name (id_digits id) number) (file_of_part id body moment)
  part = record {
    id = id;
    number = number;
    bytes = body;
    content_type = codes "application/octet-stream";
    moment = moment;
    named = refl;
    fits = put.fits;
    counted = put.counted;
    own = refl;
    sized = put.sized;
    tagged = tag_text_reads (part_tag (body_etag body) moment id) (part_has_text (body_etag body) body moment id refl put.below put.fits);
  }

  stored : IsStored (segment_name (id_digits id) number) (file_of_part id body moment)
  stored = let sized = put.sized in record { named = file_name _ (segment_fits id number put.counted); sized = (omega (arith, sized)) }

  answered : swift_step request tree ≡ put_object (Some (some_value _ (segments_there tree bucket sound put.is has.there)).0) (segments_name bucket) (segment_name (id_digits id) number) (file_of_part id body moment) tree
  answered =
      ap (λ r. swift_step r tree) put.same
      ∙ ap (λ o. put_object o (segments_name bucket) (segment_name (id_digits id) number) (file_of_part id body moment) tree) (some_value _ (segments_there tree bucket sound put.is has.there)).1

  -- the part is put, and the store says so
  part_effect : Effect tree request (stored_due (body_etag body)) (Becomes (puts_part bucket id number body moment))
  part_effect =
      let done : ChangesBy tree (put_part_of bucket id number body moment) (puts_part bucket id number body moment)
      = law tree bucket (segment_name (id_digits id) number) (tag_text (part_tag (body_etag body) moment id)) [] body part put.is has.opens stored sound (unsealed_of settled) in
      let same : (swift_step request tree).tree ≡ (swift_step (put_part_of bucket id number body moment) tree).tree = ap (λ r. (swift_step r tree).tree) put.same in
      record {
        answer = tt;
        says = ap (λ (a : Answer). stored_due (body_etag body) a.reply) answered ∙ ap (λ t. cond t (Ok tt) (Err Inconsistent)) (etag_agrees body);
        after = subst IsConsistent (sym same) done.sound;
        state = ap s3_state same ∙ done.state;
      }

-- PUT of a part's file puts the part, into an upload that is open
pub puts : {request : SwiftRequest} {bucket : List ℕ} {id number : ℕ} {body : List ℕ} {moment : ℕ} → PartPut → IsPartOf request bucket id number body moment
    → IsWritingOf request (stored_due (body_etag body)) (HasOpen bucket id) (Becomes (puts_part bucket id number body moment))
puts {request = request} {bucket = bucket} {id = id} {number = number} {body = body} {moment = moment} law put = record {
  effect = λ tree sound settled has. part_effect law tree request bucket id number body moment put sound settled has;
  settled = λ tree. settled_same (subst (λ r. SameGateway tree (swift_step r tree).tree) (sym put.same) (same_put tree (segments_name bucket) bucket (record { of_bucket = put.is; is = inr refl }) (segment_name (id_digits id) number) (tag_text (part_tag (body_etag body) moment id)) [] body));
}
