-- GET of the file of a segment, and PUT of it as a segment of an id that nothing names.
use Rattle.std.specs.Prelude.{◌≡◌, ◌==◌, ◌<◌, ◌≤◌, ◌^◌, ℕ, true, cond, List, [], codes, length, None, Some, Ok, Err}
use Rattle.std.specs.Option.{option_map, unwrap_or}
use Rattle.std.specs.FinMap.{get}
use Rattle.std.proofs.Common.{refl, sym, ap, subst, ◌∙◌, arith}
use Rattle.std.proofs.lemmas.Bool.{and_from, le-leb, eq-eqb}
use Rattle.gate_base.proofs.lemmas.Maps.{some_value}
use Rattle.gate_base.specs.Told.{moment_limit}
use Rattle.s3_names.specs.Bucket.{is_bucket}
use Rattle.s3_names.specs.Id.{id_digits}
use Rattle.s3_machine.specs.ETag.{body_etag}
use Rattle.s3_machine.specs.Limits.{most_body_bytes}
use Rattle.s3_machine.specs.Uploads.{IsPartNumber, greatest_part}
use Rattle.slo_manifest.specs.Segments.{is_etag}
use Rattle.swift_calls.specs.Account.{SwiftObject, SwiftAccount, find_object}
use Rattle.swift_calls.specs.Bodies.{bytes_of, etag_text, head_of, plain_bytes}
use Rattle.swift_calls.specs.Step.{Answer, body_reply, get_reply, put_object, swift_step}
use Rattle.swift_calls.specs.declared.calls.SwiftRequest.{SwiftRequest}
use Rattle.swift_calls.specs.declared.calls.SwiftRequest.TheVariants.{GetObject}
use Rattle.swift_marks.specs.Tag.{tag_text}
use Rattle.swift_marks.proofs.lemmas.TagLaws.{tag_text_reads}
use Rattle.upload_texts.specs.Sealed.{part_fits_sealed_text}
use Rattle.upload_texts.specs.declared.sealed.SealedPart.{SealedPart}
use Rattle.upload_records.specs.Consistent.{IsConsistent, IsPart, IsStored}
use Rattle.upload_records.specs.Laws.{OrphanPut, file_put, of_part}
use Rattle.upload_records.specs.Layout.{segment_name, segments_name}
use Rattle.upload_records.specs.Native.{SameGateway, part_by, part_bytes, s3_state}
use Rattle.upload_records.proofs.lemmas.Beside.{segments_there}
use Rattle.upload_records.proofs.lemmas.Settled.{settled_same}
use Rattle.account_calls.specs.Calls.{GivenOf}
use Rattle.account_calls.specs.Interpret.{stored_due}
use Rattle.account_calls.specs.declared.fault.PlanFault.TheVariants.{Inconsistent}
use Rattle.account_calls.proofs.lemmas.Etags.{etag_agrees, part_etag}
use Rattle.account_calls.proofs.lemmas.One.{IsReadingOf}
use Rattle.account_calls.proofs.lemmas.Quiet.{IsQuietOf}
use Rattle.account_calls.proofs.lemmas.SideNames.{file_name, segment_fits}
use Rattle.upload_calls.specs.Interpret.{part_tag, put_part_of}
use Rattle.many_keys.specs.CopiedLists.{HasPiece, IsUnnamed, PutsSegment, TellsPiece, modified_in, piece_due, plain_in, told_due}
use Rattle.many_keys.specs.declared.cut.Piece.{Piece}
use Rattle.many_keys.proofs.SideFiles.{others_stay, part_has_text, put_stays, same_put}

-- ---- the file of a piece

body_told : (bytes : List ℕ) (size : ℕ) → length bytes ≡ size → cond (length bytes == size) (Ok bytes) (Err Inconsistent) ≡ Ok bytes
body_told bytes size same = ap (λ t. cond t (Ok bytes) (Err Inconsistent)) (eq-eqb (length bytes) size same)

-- GET of the file of a piece that is there tells its bytes
pub piece_reads : {container name : List ℕ} (bucket : List ℕ) (id : ℕ) (piece : Piece) → container ≡ segments_name bucket → name ≡ segment_name (id_digits id) piece.number
    → IsReadingOf (GivenOf (HasPiece bucket id piece)) (GetObject container name None) (piece_due piece.size) (TellsPiece bucket id piece)
piece_reads bucket id piece named under = record {
  leaves = λ tree. refl;
  tells = λ tree sound given reply replied.
      let here = given.is in (
        here.bytes,
        ap (piece_due piece.size) (replied ∙ (λ i. get_reply (find_object tree) None (find_object tree (named i) (under i))) ∙ ap (get_reply (find_object tree) None) here.there
            ∙ ap (λ c. body_reply (head_of here.file) None (bytes_of (find_object tree) c)) here.own)
            ∙ body_told here.bytes piece.size here.size,
        sym (ap plain_in here.there ∙ ap (λ c. unwrap_or (plain_bytes c) []) here.own),
      );
}

-- ---- a segment

same_etag : (body : List ℕ) → body_etag body ≡ etag_text body
unfolding etag_text body_etag
same_etag body = refl

-- the request, for a part's own id, number, bytes and moment, and the part as it is told
pub record IsSegmentPut (request : SwiftRequest) (part : SealedPart) (bucket : List ℕ) (id number : ℕ) (body : List ℕ) (moment : ℕ) : Type 0 where
  pub same : request ≡ put_part_of bucket id number body moment
  pub is : is_bucket bucket ≡ true
  pub counted : IsPartNumber number
  pub sized : length body ≤ most_body_bytes
  pub below : moment < moment_limit
  pub fits : id < 2 ^ 128
  pub numbered : part.number ≡ number
  pub etag : part.etag ≡ body_etag body
  pub size : part.size ≡ length body

-- the file of the part
abbrev file_of_part : ℕ → List ℕ → ℕ → SwiftObject
file_of_part id body moment = file_put (tag_text (part_tag (body_etag body) moment id)) [] body

module _ (law : OrphanPut) (tree : SwiftAccount) (request : SwiftRequest) (told : SealedPart) (bucket : List ℕ) (id number : ℕ) (body : List ℕ) (moment : ℕ)
    (put : IsSegmentPut request told bucket id number body moment) (sound : IsConsistent tree) (has : GivenOf (IsUnnamed bucket id) tree) where
  abbrev part : IsPart (segment_name (id_digits id) number) (file_of_part id body moment)
  part = record {
    id = id;
    number = number;
    bytes = body;
    content_type = codes "application/octet-stream";
    moment = moment;
    named = refl;
    fits = put.fits;
    counted = put.counted;
    own = refl;
    sized = put.sized;
    tagged = tag_text_reads (part_tag (body_etag body) moment id) (part_has_text body moment id put.below put.fits);
  }

  stored : IsStored (segment_name (id_digits id) number) (file_of_part id body moment)
  stored = let sized = put.sized in record { named = file_name _ (segment_fits id number put.counted); sized = (omega (arith, sized)) }

  answered : swift_step request tree ≡ put_object (Some (some_value _ (segments_there tree bucket sound put.is has.is.there)).0) (segments_name bucket) (segment_name (id_digits id) number) (file_of_part id body moment) tree
  answered =
      ap (λ r. swift_step r tree) put.same
      ∙ ap (λ o. put_object o (segments_name bucket) (segment_name (id_digits id) number) (file_of_part id body moment) tree) (some_value _ (segments_there tree bucket sound put.is has.is.there)).1

  same_tree : (swift_step request tree).tree ≡ (swift_step (put_part_of bucket id number body moment) tree).tree
  same_tree = ap (λ r. (swift_step r tree).tree) put.same

  says_stored : told_due told (stored_due (body_etag body) (swift_step request tree).reply) ≡ Ok told
  says_stored = ap (λ (a : Answer). told_due told (stored_due (body_etag body) a.reply)) answered ∙ ap (λ t. told_due told (cond t (Ok tt) (Err Inconsistent))) (etag_agrees body)

  segment_put : PutsSegment bucket id number body moment tree (swift_step (put_part_of bucket id number body moment) tree).tree told
  segment_put =
      let done = law tree bucket (segment_name (id_digits id) number) (tag_text (part_tag (body_etag body) moment id)) [] body part put.is has.is.there has.is.abandoned stored sound has.settled.none in
      record {
        settled = settled_same done.quiet.gateway has.settled;
        unnamed = record { there = done.there; abandoned = done.abandoned };
        part = record { number_is = put.numbered; etag = put.etag ∙ same_etag body; size = put.size };
        file = file_of_part id body moment;
        own = refl;
        reads = ap (λ t. part_bytes (part_by t (Some body))) part.tagged;
        dated = ap (λ t. option_map modified_in (part_by t (Some body))) part.tagged;
        holds = done.holds;
        others = others_stay tree (swift_step (put_part_of bucket id number body moment) tree).tree bucket (id_digits id) (segment_name (id_digits id) number) (file_of_part id body moment) (of_part number refl)
            (put_stays (get tree (segments_name bucket)) (segments_name bucket) (segment_name (id_digits id) number) (file_of_part id body moment) tree) done.holds;
      }

-- PUT of a part's file under an id that nothing names leaves the state
pub puts_segment : {request : SwiftRequest} {told : SealedPart} {bucket : List ℕ} {id number : ℕ} {body : List ℕ} {moment : ℕ} → OrphanPut → IsSegmentPut request told bucket id number body moment
    → IsQuietOf (GivenOf (IsUnnamed bucket id)) request (λ reply. told_due told (stored_due (body_etag body) reply)) (PutsSegment bucket id number body moment)
puts_segment {request = request} {told = told} {bucket = bucket} {id = id} {number = number} {body = body} {moment = moment} law put = record {
  effect = λ tree sound has.
      let done = law tree bucket (segment_name (id_digits id) number) (tag_text (part_tag (body_etag body) moment id)) [] body (part law tree request told bucket id number body moment put sound has) put.is has.is.there has.is.abandoned
      (stored law tree request told bucket id number body moment put sound has) sound has.settled.none in
      let same = same_tree law tree request told bucket id number body moment put sound has in
      record {
        told = told;
        says = says_stored law tree request told bucket id number body moment put sound has;
        sound = subst IsConsistent (sym same) done.quiet.sound;
        same = ap s3_state same ∙ done.quiet.state;
        tells = subst (λ t. PutsSegment bucket id number body moment tree t told) (sym same) (segment_put law tree request told bucket id number body moment put sound has);
      };
  settled = λ tree. settled_same (subst (λ r. SameGateway tree (swift_step r tree).tree) (sym put.same) (same_put tree bucket (segment_name (id_digits id) number) (tag_text (part_tag (body_etag body) moment id)) [] body put.is));
}

-- the part is one that a completion may list
pub part_is_sealed : (part : SealedPart) (number : ℕ) (body : List ℕ) → part.number ≡ number → part.etag ≡ body_etag body → part.size ≡ length body → IsPartNumber number → length body ≤ most_body_bytes → part_fits_sealed_text part ≡ true
part_is_sealed part number body numbered of_body size counted sized =
    let low = counted.counted in
    and_from _ _ (and_from _ _ (and_from _ _ (le-leb 1 part.number (omega (arith, numbered, low))) (le-leb part.number greatest_part (subst (λ n. n ≤ greatest_part) (sym numbered) counted.within)))
    (ap is_etag of_body ∙ part_etag body)) (le-leb part.size most_body_bytes (omega (arith, size, sized)))
