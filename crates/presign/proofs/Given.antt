-- What the query of a URL says: the parts that it was made of.
use Rattle.std.proofs.Common.{◌≡◌, ℕ, Bool, true, false, cond, not, ◌&&◌, ◌||◌, eqb, List, [], ◌∷◌, ◌++◌, codes, count_by, Some, None, bytes_eq, refl, ap, sym, ◌∙◌}
use Rattle.std.specs.Prelude.{IsPermutation}
use Rattle.std.specs.List.{before_first, after_first, join_with_byte}
use Rattle.std.specs.Option.{option_map_or}
use Rattle.std.proofs.lemmas.Bool.{and_from, or_parts}
use Rattle.std.proofs.lemmas.List.Sorted.{list_any-IsPermutation}
use Rattle.std.proofs.lemmas.Slice.Eq.{bytes_eq-Decides}
use Rattle.gate_base.specs.Ascii.{is_slash}
use Rattle.gate_base.specs.declared.page.Pair.{Pair}
use Rattle.http_wire.specs.Headers.{value_of, has_name, has_header, has_single_header, first_value}
use Rattle.sigv4.specs.Authorization.{is_hex, is_formed, behind_id, behind_date, behind_region, behind_service}
use Rattle.sigv4.specs.declared.authorization.Authorization.{Authorization}
use Rattle.sigv4.specs.Moment.{is_time}
use Rattle.sigv4.specs.Sign.{date_of}
use Rattle.sigv4.proofs.lemmas.Signatures.{host_is_names}
use Rattle.sigv4.proofs.lemmas.Cuts.{before_of, after_of}
use Rattle.presign.specs.Parameters.{has_each_once, parameter}
use Rattle.presign.specs.Claim.{span_of, parts_from, parts_of, presigned_time_in, is_labelled, is_dated, formed_presigned_parts, claim_for, claim_of}
use Rattle.presign.specs.Url.{has_signature_name, credential_for, scope_parameters, span_parameters, host_alone}
use Rattle.presign.proofs.Finds.{moved_count, moved_find, behind_count, behind_find, behind_any}
use Rattle.presign.proofs.Parts.{IsPart}

-- the parameters that a URL has besides those of its target
abbrev pub six : List ℕ → List ℕ → List ℕ → List ℕ → List Pair
six credential time seconds signature =
    (scope_parameters credential time ++ span_parameters seconds) ++ record { name = codes "X-Amz-Signature"; value = signature } ∷ []

-- no parameter has one of the names
pub record LacksEach (query : List Pair) : Type 0 where
  pub algorithm : has_header (codes "X-Amz-Algorithm") query ≡ false
  pub credential : has_header (codes "X-Amz-Credential") query ≡ false
  pub date : has_header (codes "X-Amz-Date") query ≡ false
  pub expires : has_header (codes "X-Amz-Expires") query ≡ false
  pub names : has_header (codes "X-Amz-SignedHeaders") query ≡ false
  pub signature : has_header (codes "X-Amz-Signature") query ≡ false

pub lacks_each : (query : List Pair) → has_signature_name query ≡ false → LacksEach query
lacks_each query h =
    let a : Bool = has_header (codes "X-Amz-Algorithm") query in
    let b : Bool = has_header (codes "X-Amz-Credential") query in
    let c : Bool = has_header (codes "X-Amz-Date") query in
    let d : Bool = has_header (codes "X-Amz-Expires") query in
    let e : Bool = has_header (codes "X-Amz-SignedHeaders") query in
    let six_of = or_parts (a || b || c || d || e) (has_header (codes "X-Amz-Signature") query) h in
    let five = or_parts (a || b || c || d) e six_of.0 in
    let four = or_parts (a || b || c) d five.0 in
    let three = or_parts (a || b) c four.0 in
    let two = or_parts a b three.0 in
    record { algorithm = two.0; credential = two.1; date = three.1; expires = four.1; names = five.1; signature = six_of.1 }

module _ (target made : List Pair) (credential time seconds signature : List ℕ) (lacks : LacksEach target) (moved : IsPermutation (target ++ six credential time seconds signature) made) where
  -- one of the six, which stands once among them, stands once, with its value
  once : (name : List ℕ) → has_header name target ≡ false → count_by (has_name name) (six credential time seconds signature) ≡ 1 → count_by (has_name name) made ≡ 1
  once name none one =
      moved_count (has_name name) (target ++ six credential time seconds signature) made moved ∙ (behind_count (has_name name) target (six credential time seconds signature) none ∙ one)

  given : (name : List ℕ) → has_header name target ≡ false → count_by (has_name name) (six credential time seconds signature) ≡ 1 → first_value name made ≡ first_value name (six credential time seconds signature)
  given name none one =
      let all : List Pair = target ++ six credential time seconds signature in
      let single : count_by (has_name name) all ≡ 1 = behind_count (has_name name) target (six credential time seconds signature) none ∙ one in
      ap (λ found. option_map_or value_of found []) (moved_find (has_name name) all made moved single ∙ behind_find (has_name name) target (six credential time seconds signature) none)

  one_of : (name : List ℕ) → has_header name target ≡ false → count_by (has_name name) (six credential time seconds signature) ≡ 1 → has_single_header name made ≡ true
  one_of name none one = ap (λ n. eqb n 1) (once name none one)

  pub each_once : has_each_once made ≡ true
  each_once =
      and_from _ _ (and_from _ _ (and_from _ _ (and_from _ _ (and_from _ _ (one_of (codes "X-Amz-Algorithm") lacks.algorithm refl) (one_of (codes "X-Amz-Credential") lacks.credential refl)) (one_of (codes "X-Amz-Date") lacks.date refl)) (one_of (codes "X-Amz-Expires") lacks.expires refl)) (one_of (codes "X-Amz-SignedHeaders") lacks.names refl)) (one_of (codes "X-Amz-Signature") lacks.signature refl)

  algorithm_is : parameter (codes "X-Amz-Algorithm") made ≡ codes "AWS4-HMAC-SHA256"
  algorithm_is = given (codes "X-Amz-Algorithm") lacks.algorithm refl

  credential_is : parameter (codes "X-Amz-Credential") made ≡ credential
  credential_is = given (codes "X-Amz-Credential") lacks.credential refl

  date_is : parameter (codes "X-Amz-Date") made ≡ time
  date_is = given (codes "X-Amz-Date") lacks.date refl

  expires_is : parameter (codes "X-Amz-Expires") made ≡ seconds
  expires_is = given (codes "X-Amz-Expires") lacks.expires refl

  names_is : parameter (codes "X-Amz-SignedHeaders") made ≡ codes "host"
  names_is = given (codes "X-Amz-SignedHeaders") lacks.names refl

  signature_is : parameter (codes "X-Amz-Signature") made ≡ signature
  signature_is = given (codes "X-Amz-Signature") lacks.signature refl

  pub shown : has_header (codes "X-Amz-Algorithm") made ≡ true
  shown =
      sym (list_any-IsPermutation (has_name (codes "X-Amz-Algorithm")) (target ++ six credential time seconds signature) made moved)
      ∙ behind_any (has_name (codes "X-Amz-Algorithm")) target (six credential time seconds signature) lacks.algorithm

  pub parts_made : parts_of made ≡ parts_from credential (codes "host") signature
  parts_made = λ i. parts_from (credential_is i) (names_is i) (signature_is i)

  pub claim_made : (headers : List Pair) (parts : Authorization) (expires : ℕ) → has_header (codes "authorization") headers ≡ false → parts_from credential (codes "host") signature ≡ parts → behind_service credential ≡ codes "aws4_request"
      → is_formed parts ≡ true → is_time time ≡ true → parts.date ≡ date_of time → span_of seconds ≡ Some expires
      → claim_of headers made ≡ Some (record { by = parts; time = time; expires = expires })
  unfolding claim_of
  claim_made headers parts expires unauthorized same ends formed timed day span =
      let all : parts_of made ≡ parts = parts_made ∙ same in
      let algorithm : bytes_eq (parameter (codes "X-Amz-Algorithm") made) (codes "AWS4-HMAC-SHA256") ≡ true = (bytes_eq-Decides _ _).1 algorithm_is in
      let service : bytes_eq (behind_service (parameter (codes "X-Amz-Credential") made)) (codes "aws4_request") ≡ true = (bytes_eq-Decides _ _).1 (ap behind_service credential_is ∙ ends) in
      let labelled : is_labelled headers made ≡ true = and_from _ _ (and_from _ _ (and_from _ _ (ap not unauthorized) each_once) algorithm) service in
      let dated : is_dated (presigned_time_in made) (parts_of made).date ≡ true = and_from _ _ (ap is_time date_is ∙ timed) ((bytes_eq-Decides _ _).1 (ap date_of date_is ∙ (sym day ∙ sym (ap (λ (p : Authorization). p.date) all)))) in
      let tests : (is_labelled headers made && (is_formed (parts_of made) && is_dated (presigned_time_in made) (parts_of made).date)) ≡ true = and_from _ _ labelled (and_from _ _ (ap is_formed all ∙ formed) dated) in
      let said : formed_presigned_parts headers made ≡ Some parts = ap (λ b. cond b (Some (parts_of made)) None) tests ∙ ap Some all in
      λ i. claim_for (date_is i) ((ap span_of expires_is ∙ span) i) (said i)

-- ---- the parts of the credential

module _ (id date region signature : List ℕ) (one : IsPart id) (two : IsPart date) (three : IsPart region) where
  after_id : behind_id (credential_for id date region) ≡ join_with_byte 47 (date ∷ region ∷ codes "s3" ∷ codes "aws4_request" ∷ [])
  after_id = after_of is_slash id 47 (join_with_byte 47 (date ∷ region ∷ codes "s3" ∷ codes "aws4_request" ∷ [])) one.free refl

  after_date : behind_date (credential_for id date region) ≡ join_with_byte 47 (region ∷ codes "s3" ∷ codes "aws4_request" ∷ [])
  after_date = ap (after_first is_slash) after_id ∙ after_of is_slash date 47 (join_with_byte 47 (region ∷ codes "s3" ∷ codes "aws4_request" ∷ [])) two.free refl

  after_region : behind_region (credential_for id date region) ≡ join_with_byte 47 (codes "s3" ∷ codes "aws4_request" ∷ [])
  after_region = ap (after_first is_slash) after_date ∙ after_of is_slash region 47 (join_with_byte 47 (codes "s3" ∷ codes "aws4_request" ∷ [])) three.free refl

  pub credential_ends : behind_service (credential_for id date region) ≡ codes "aws4_request"
  credential_ends = ap (after_first is_slash) after_region ∙ after_of is_slash (codes "s3") 47 (codes "aws4_request") refl refl

  -- what the credential, the names and the signature say
  abbrev pub parts : Authorization
  parts = record { id = id; date = date; region = region; service = codes "s3"; names = host_alone; signature = signature }

  pub parts_are : parts_from (credential_for id date region) (codes "host") signature ≡ parts
  unfolding parts_from
  parts_are =
      let a : before_first is_slash (credential_for id date region) ≡ id = before_of is_slash id 47 (join_with_byte 47 (date ∷ region ∷ codes "s3" ∷ codes "aws4_request" ∷ [])) one.free refl in
      let b : before_first is_slash (behind_id (credential_for id date region)) ≡ date = ap (before_first is_slash) after_id ∙ before_of is_slash date 47 (join_with_byte 47 (region ∷ codes "s3" ∷ codes "aws4_request" ∷ [])) two.free refl in
      let c : before_first is_slash (behind_date (credential_for id date region)) ≡ region = ap (before_first is_slash) after_date ∙ before_of is_slash region 47 (join_with_byte 47 (codes "s3" ∷ codes "aws4_request" ∷ [])) three.free refl in
      let d : before_first is_slash (behind_region (credential_for id date region)) ≡ codes "s3" = ap (before_first is_slash) after_region ∙ before_of is_slash (codes "s3") 47 (codes "aws4_request") refl refl in
      λ i. record { id = a i; date = b i; region = c i; service = d i; names = host_alone; signature = signature }

  pub parts_formed : is_hex signature ≡ true → is_formed parts ≡ true
  parts_formed hex = and_from _ _ (and_from _ _ (and_from _ _ (and_from _ _ (and_from _ _ one.part two.part) three.part) refl) host_is_names) hex
