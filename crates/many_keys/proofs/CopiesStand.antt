-- What the last call of a copy leaves where it stands, over every observable store.
use Rattle.std.specs.Prelude.{◌≡◌, ℕ, List, [], ◌∷◌, length, map, Some, Result, Ok, Err}
use Rattle.std.proofs.Common.{refl, sym, ap, subst, ◌∙◌, arith}
use Rattle.gate_base.specs.declared.page.Pair.{Pair}
use Rattle.s3_machine.specs.ETag.{body_etag}
use Rattle.slo_manifest.specs.declared.Segment.{Segment}
use Rattle.swift_calls.specs.Account.{SwiftObject, SwiftAccount, find_object}
use Rattle.swift_calls.specs.History.{History, Calls}
use Rattle.swift_calls.specs.declared.account.Content.TheVariants.{Plain, Segments}
use Rattle.swift_calls.specs.declared.calls.SwiftReply.{SwiftReply}
use Rattle.swift_calls.specs.declared.calls.SwiftRequest.{SwiftRequest}
use Rattle.swift_marks.specs.Pack.{pack_of}
use Rattle.swift_marks.specs.Tag.{tag_text}
use Rattle.upload_texts.specs.declared.sealed.Sealed.{Sealed}
use Rattle.upload_texts.specs.declared.sealed.SealedPart.{SealedPart}
use Rattle.s3_names.specs.Id.{id_digits}
use Rattle.upload_records.specs.Layout.{segments_name}
use Rattle.upload_records.specs.Native.{filled_parts, part_segments, sealed_sub_manifests, sealed_tag, sub_manifests}
use Rattle.account_calls.specs.declared.fault.PlanFault.{PlanFault}
use Rattle.account_calls.specs.Interpret.{plain_tag, put_of, stored_due}
use Rattle.account_calls.specs.Puts.{Stands, StandsIn}
use Rattle.account_calls.specs.Sealed.{put_by, put_object_of, sealed_listing}
use Rattle.account_calls.proofs.lemmas.Puts.{stands_by, stands_not}
use Rattle.many_keys.specs.CopiedLists.{piece_in, told_due}
use Rattle.many_keys.specs.OwnSegments.{HasOwnSegments, StandSegments, StandsCopy}
use Rattle.many_keys.specs.declared.cut.Piece.{Piece}

-- the file of an object that lists these segments, or has no byte where there are none
file_by : (tree : SwiftAccount) (bucket key content_type : List ℕ) (meta : List (List ℕ)) (segments : List Segment) → StandsIn tree (put_by bucket key content_type meta segments)
    → (file : SwiftObject) × (find_object tree bucket key ≡ Some file) × (file.content_type ≡ content_type)
file_by tree bucket key content_type meta [] stands = (record { content_type = content_type; meta = meta; content = Plain [] }, stands, refl)
file_by tree bucket key content_type meta (x ∷ rest) stands = (record { content_type = content_type; meta = meta; content = Segments (x ∷ rest) }, stands, refl)

same_some : {m n : ℕ} → Some m ≡ Some n → m ≡ n
same_some e = cc

-- the copy of an object of parts
pub own_stands : {bucket key : List ℕ} {id moment : ℕ} {cut : List Piece} (tree : SwiftAccount) → HasOwnSegments bucket key id cut moment tree → StandsCopy bucket key moment tree
own_stands {bucket = bucket} {key = key} {moment = moment} {cut = cut} tree own =
    let s : Sealed = own.sealed in
    let file = file_by tree s.bucket s.key (tag_text (sealed_tag s)) (pack_of s.meta) (sealed_listing s) own.stands in
    record {
      file = file.0;
      tag = sealed_tag s;
      there = (λ i. find_object tree (sym own.in_bucket i) (sym own.under_key i)) ∙ file.1;
      tagged = file.2;
      dated = own.at_moment;
      listed = λ other is. (cut, subst (λ n. HasOwnSegments bucket key n cut moment tree) (sym own.under_id ∙ same_some is) own);
    }

-- that of one without a byte, which lists nothing
pub empty_own : (s : Sealed) {bucket key : List ℕ} {id moment : ℕ} → s.bucket ≡ bucket → s.key ≡ key → s.id ≡ id → s.moment ≡ moment → s.list ≡ [] → (tree : SwiftAccount) → StandsIn tree (put_object_of s)
    → HasOwnSegments bucket key id [] moment tree
empty_own s {bucket = bucket} {id = id} {moment = moment} in_bucket under_key under_id at_moment none tree stands = record {
  sealed = s;
  in_bucket = in_bucket;
  under_key = under_key;
  under_id = under_id;
  at_moment = at_moment;
  pieces = ap (map piece_in) none;
  stands = stands;
  subs = λ k below. absurd (let no_subs : sealed_sub_manifests s ≡ 0 = ap (λ l. sub_manifests (length (part_segments (segments_name s.bucket) (id_digits s.id) (filled_parts l)))) none in omega (arith, below, no_subs));
  own = subst (λ l. StandSegments bucket id moment l tree) (sym none) tt;
}

-- the copy of an object in one piece
pub plain_stands : (tree : SwiftAccount) (bucket key content_type : List ℕ) (meta : List Pair) (body : List ℕ) (moment : ℕ) → StandsIn tree (put_of bucket key content_type meta body moment) → StandsCopy bucket key moment tree
plain_stands tree bucket key content_type meta body moment stands = record {
  file = record { content_type = tag_text (plain_tag content_type (body_etag body) moment); meta = pack_of meta; content = Plain body };
  tag = plain_tag content_type (body_etag body) moment;
  there = stands;
  tagged = refl;
  dated = refl;
  listed = λ id none. cc;
}

-- a segment of a copy, whose part is told
pub told_stands : {a b : History} {request other : SwiftRequest} {reply : SwiftReply} (etag : List ℕ) → request ≡ other → Calls a b request (Ok reply) → (part : SealedPart) (result : Result SealedPart PlanFault)
    (due : Result (Unit {0}) PlanFault) → due ≡ stored_due etag reply → result ≡ told_due part due → Stands b other result
told_stands {b = b} {other = other} etag same calls part result (Ok done) is told =
    let stands : Stands b other (Ok done) = stands_by etag same calls (Ok done) is in
    subst (Stands {T = SealedPart} b other) (sym told) (record { so = λ observable. stands.so observable })
told_stands etag same calls part result (Err fault) is told = stands_not result told
