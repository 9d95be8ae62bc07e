-- A URL that is made is read, and its request is taken in its time.
use Rattle.std.proofs.Common.{◌≡◌, ℕ, ◌+◌, ◌≤◌, Bool, true, false, not, ◌&&◌, ◌||◌, List, [], ◌∷◌, ◌++◌, All, Contains, Some, Ok, ◌↔◌, map, codes, decimal, nat_eq, bytes_eq, flat_map, refl, ap, sym, subst, ◌∙◌, inl, inr}
use Rattle.std.specs.Prelude.{IsPermutation}
use Rattle.std.specs.List.{list_any, starts_with, join_with_byte}
use Rattle.std.proofs.lemmas.Bool.{cases_Bool}
use Rattle.std.proofs.lemmas.List.Elements.{All-head, All-tail, All-weaker, All-contains_itself}
use Rattle.std.proofs.lemmas.Slice.Eq.{bytes_eq-Decides}
use Rattle.hex.specs.Hex.{encode_lower}
use Rattle.gate_base.specs.declared.caller.Caller.TheVariants.{Owner}
use Rattle.gate_base.specs.declared.page.Pair.{Pair}
use Rattle.s3_names.specs.declared.target.Target.{Target}
use Rattle.s3_names.specs.Escapes.{escaped_path}
use Rattle.s3_names.specs.Query.{without}
use Rattle.s3_names.specs.Target.{target_of}
use Rattle.http_wire.specs.declared.message.Message.{Message}
use Rattle.sigv4.specs.Canonical.{clean_header_value, canonical_query, canonical_headers, canonical_of}
use Rattle.sigv4.specs.Keys.{secret_of}
use Rattle.sigv4.specs.Moment.{signing_time_seconds}
use Rattle.sigv4.specs.Sign.{date_of, signed_of}
use Rattle.sign_rules.specs.Rules.{must_be_signed}
use Rattle.sigv4.specs.Verdict.{is_among}
use Rattle.sigv4.specs.declared.keys.AccessKey.{AccessKey}
use Rattle.presign.specs.declared.claim.Claim.{Claim}
use Rattle.presign.specs.Claim.{claim_of}
use Rattle.presign.specs.Parameters.{has_presigned_parameter, is_presigned}
use Rattle.presign.specs.Url.{host_alone, credential_for, url_text, signing_query, url_of}
use Rattle.presign.specs.Verdict.{is_left_out, leaves_unsigned, signed_text, expected, owner_or_refusal}
use Rattle.presign.specs.Laws.{IsMade, IsSent, InTime, IsWhole, AsksTheSame}
use Rattle.presign.proofs.Back.{five, five_texts, AreTexts, Shape, shape_of, Back, back, is_read, six_moved, same_query, asks_the_same}
use Rattle.presign.proofs.Given.{six, LacksEach, lacks_each, shown, claim_made, credential_ends, parts, parts_are, parts_formed}
use Rattle.presign.proofs.Parts.{IsPart, IsSignature, region_part, id_part, date_part, time_plain, credential_plain, seconds_plain, span_back, signature_form}
use Rattle.presign.proofs.Taken.{taken_is, is_taken}

-- ---- the headers that are sent

-- a header that may stand beside `host` unsigned
abbrev MayStand : Pair → Type 0
MayStand header = starts_with nat_eq header.name (codes "x-amz-") ≡ true → header.name ≡ codes "x-amz-content-sha256"

abbrev left_out : List ℕ → Bool
left_out name = must_be_signed name && not (bytes_eq name (codes "x-amz-content-sha256")) && not (is_among name host_alone)

stays : (header : Pair) → MayStand header → is_left_out host_alone header ≡ false
stays header may =
    elim (cases_Bool (bytes_eq header.name (codes "host"))) [
      | inl e ↦ ap left_out ((bytes_eq-Decides header.name (codes "host")).0 e)
      | inr e ↦ elim (cases_Bool (starts_with nat_eq header.name (codes "x-amz-"))) [
        | inl f ↦ ap left_out (may f)
        | inr f ↦ λ i. (e i || f i) && not (bytes_eq header.name (codes "x-amz-content-sha256")) && not (is_among header.name host_alone)
      ]
    ]

none_out : (headers : List Pair) → All MayStand headers → list_any (is_left_out host_alone) headers ≡ false
none_out [] may = refl
none_out (header ∷ headers) may =
    ap (λ b. b || list_any (is_left_out host_alone) headers) (stays header (All-head MayStand header headers may)) ∙ none_out headers (All-tail MayStand header headers may)

all_signed_of : (message sent : Message) → IsSent message sent → leaves_unsigned host_alone sent.headers ≡ false
all_signed_of message sent sends =
    ap (λ b. not b || list_any (is_left_out host_alone) sent.headers) sends.has_host
    ∙ none_out sent.headers (All-weaker (Contains sent.headers) MayStand sends.alone sent.headers (All-contains_itself sent.headers))

same_headers : (message sent : Message) → IsSent message sent → canonical_headers sent.headers host_alone ≡ canonical_headers message.headers host_alone
same_headers message sent sends =
    ap (λ (values : List (List ℕ)). flat_map (λ name. name ++ 58 ∷ [] ++ join_with_byte 44 (map clean_header_value values) ++ 10 ∷ []) host_alone) sends.host

-- a request that is sent signs to the same, where its path and its query do
same_text : (message sent : Message) (path other : List ℕ) (query pairs : List Pair) → IsSent message sent → other ≡ path → canonical_query pairs ≡ canonical_query query → signed_text sent other pairs host_alone ≡ signed_text message path query host_alone
unfolding canonical_of
same_text message sent path other query pairs sends same_path same_pairs =
    λ i. join_with_byte 10 (sends.method i ∷ escaped_path (same_path i) ∷ same_pairs i ∷ same_headers message sent sends i ∷ join_with_byte 59 host_alone ∷ codes "UNSIGNED-PAYLOAD" ∷ [])

right_scope : (region : List ℕ) → not (bytes_eq region region && true) ≡ false
right_scope region = ap (λ b. not (b && true)) ((bytes_eq-Decides region region).1 refl)

module _ (secret id region : List ℕ) (message : Message) (target : Target) (moment expires : ℕ) (url : List ℕ) (made : IsMade secret id region message target moment expires url) where
  abbrev time : List ℕ
  time = made.made.0

  abbrev credential : List ℕ
  credential = credential_for id (date_of time) region

  abbrev signed : List Pair
  signed = target.query ++ five credential time (decimal expires)

  abbrev signature : List ℕ
  signature = encode_lower (signed_of secret time region (signed_text message target.path signed host_alone)).signature

  text_is : url ≡ url_text target.path signed signature
  unfolding url_of signing_query
  text_is = made.made.2

  lacks : LacksEach target.query
  lacks = lacks_each target.query made.unsigned

  of_id : IsPart id
  of_id = id_part id secret made.key

  of_date : IsPart (date_of time)
  of_date = date_part time made.made.1.0

  of_region : IsPart region
  of_region = region_part region made.scope

  form : IsSignature signature
  form = signature_form secret time region (signed_text message target.path signed host_alone)

  more : AreTexts (five credential time (decimal expires))
  more = five_texts credential time (decimal expires) (credential_plain id (date_of time) region of_id of_date of_region) (time_plain time made.made.1.0) (seconds_plain expires made.most)

  shape : Shape target credential time (decimal expires) signature made.path made.query more form lacks url
  shape = shape_of target credential time (decimal expires) signature made.path made.query more form lacks url text_is

  back_of : (read : Target) → target_of url ≡ Ok read → Back target credential time (decimal expires) signature made.path made.query more form lacks read
  back_of read reads = back target credential time (decimal expires) signature made.path made.query more form lacks url read shape reads

  -- it is read, as what it was made for
  pub made_is_read : IsWhole target → (read : Target) × (target_of url ≡ Ok read) × AsksTheSame target read
  made_is_read whole =
      let found = is_read target credential time (decimal expires) signature made.path made.query more form lacks url shape whole in
      let b = back_of found.read found.answer in (
        found.read,
        found.answer,
        record {
          path = b.same_path;
          bucket = found.bucket;
          key = found.key;
          query = asks_the_same target credential time (decimal expires) signature made.path made.query more form lacks found.read b;
        },
      )

  -- and it is taken
  module _ (keys : List AccessKey) (sent : Message) (read : Target) (of_key : secret_of id keys ≡ Some secret) (sends : IsSent message sent) (reads : target_of url ≡ Ok read) where
    it_is_back : Back target credential time (decimal expires) signature made.path made.query more form lacks read
    it_is_back = back_of read reads

    moved : IsPermutation (target.query ++ six credential time (decimal expires) signature) read.query
    moved = six_moved target credential time (decimal expires) signature made.path made.query more form lacks read it_is_back

    pub is_presigned_of : is_presigned read.query ≡ true
    is_presigned_of =
        ap (λ b. b || has_presigned_parameter (codes "X-Amz-Signature") read.query) (shown target.query read.query credential time (decimal expires) signature lacks moved)

    abbrev claim : Claim
    claim = record { by = parts id (date_of time) region signature of_id of_date of_region; time = time; expires = expires }

    said : claim_of sent.headers read.query ≡ Some claim
    said =
        claim_made target.query read.query credential time (decimal expires) signature lacks moved sent.headers (parts id (date_of time) region signature of_id of_date of_region) expires sends.unauthorized
        (parts_are id (date_of time) region signature of_id of_date of_region) (credential_ends id (date_of time) region signature of_id of_date of_region)
        (parts_formed id (date_of time) region signature of_id of_date of_region form.hex) made.made.1.0 refl (span_back expires made.least made.most)

    same_signature : signature ≡ encode_lower (expected secret region sent read claim).signature
    unfolding expected
    same_signature =
        ap (λ text. encode_lower (signed_of secret time region text).signature)
        (sym (same_text message sent target.path read.path signed (without (codes "X-Amz-Signature") read.query) sends it_is_back.same_path (same_query target credential time (decimal expires) signature made.path made.query more form lacks read it_is_back)))

    pub taken_where : (now : ℕ) → (owner_or_refusal keys region sent read now ≡ Ok Owner) ↔ InTime moment expires now
    taken_where now = (in_time, in_turn)
      where
        in_time : owner_or_refusal keys region sent read now ≡ Ok Owner → InTime moment expires now
        in_time h =
            let found = taken_is keys region sent read now h in
            let both : Some found.claim ≡ Some claim = sym found.said ∙ said in
            let same : found.claim ≡ claim = cc in
            let begun : signing_time_seconds time ≤ now + 900 = subst (λ (c : Claim). signing_time_seconds c.time ≤ now + 900) same found.begun in
            let not_over : now ≤ signing_time_seconds time + expires = subst (λ (c : Claim). now ≤ signing_time_seconds c.time + c.expires) same found.not_over in
            (subst (λ s. s ≤ now + 900) made.made.1.1 begun, subst (λ s. now ≤ s + expires) made.made.1.1 not_over)

        in_turn : InTime moment expires now → owner_or_refusal keys region sent read now ≡ Ok Owner
        in_turn times =
            is_taken keys region sent read now (record {
              claim = claim;
              said = said;
              secret = secret;
              of_key = of_key;
              scope = right_scope region;
              all_signed = all_signed_of message sent sends;
              whole = sends.whole;
              begun = subst (λ s. s ≤ now + 900) (sym made.made.1.1) times.0;
              not_over = subst (λ s. now ≤ s + expires) (sym made.made.1.1) times.1;
              signature = same_signature;
            })
