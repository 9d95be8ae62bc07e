-- What is said of a request that is taken, and that one of which it is said is taken.
use Rattle.std.proofs.Common.{◌≡◌, ℕ, ◌+◌, ◌-◌, ◌≤◌, Bool, true, false, not, ◌||◌, cond, nat_lt, List, Option, Some, None, Result, Ok, Err, refl, ap, ◌∙◌, arith, bytes_eq}
use Rattle.hex.specs.Hex.{encode_lower}
use Rattle.std.proofs.lemmas.Bool.Decides.{nat_tests}
use Rattle.std.proofs.lemmas.Slice.Eq.{bytes_eq-Decides}
use Rattle.gate_base.specs.declared.caller.Caller.{Caller}
use Rattle.gate_base.specs.declared.caller.Caller.TheVariants.{Owner}
use Rattle.s3_names.specs.declared.target.Target.{Target}
use Rattle.http_wire.specs.declared.message.Message.{Message}
use Rattle.sigv4.specs.Keys.{secret_of}
use Rattle.sigv4.specs.Moment.{signing_time_seconds}
use Rattle.sigv4.specs.Verdict.{has_wrong_scope, has_signed_pieces, signature_differs}
use Rattle.sigv4.specs.declared.keys.AccessKey.{AccessKey}
use Rattle.presign.specs.declared.claim.Claim.{Claim}
use Rattle.presign.specs.declared.refusal.QueryRefusal.{QueryRefusal}
use Rattle.presign.specs.declared.refusal.QueryRefusal.TheVariants.{WrongScope, UnsignedHeader, Streaming, OutOfTime, SignatureDiffers}
use Rattle.presign.specs.Claim.{claim_of}
use Rattle.presign.specs.Verdict.{leaves_unsigned, is_out_of_time, expected, judged_with, judged, owner_or_refusal}
use Rattle.presign.specs.Laws.{IsSignedInTime}

-- a reason that holds refuses
passes : (b : Bool) (refusal : QueryRefusal) (rest : Result Caller QueryRefusal) → cond b (Err refusal) rest ≡ Ok Owner → (b ≡ false) × (rest ≡ Ok Owner)
passes true refusal rest h = cc
passes false refusal rest h = (refl, h)

skips : (b : Bool) (refusal : QueryRefusal) (rest : Result Caller QueryRefusal) → b ≡ false → cond b (Err refusal) rest ≡ rest
skips b refusal rest h = ap (λ held. cond held (Err refusal) rest) h

-- times
in_time : (seconds moment expires : ℕ) → (nat_lt 900 (seconds - moment) || nat_lt expires (moment - seconds)) ≡ false → (seconds ≤ moment + 900) × (moment ≤ seconds + expires)
in_time seconds moment expires h = grind (arith, nat_tests)

late_is : (a b k : ℕ) → a ≤ b + k → nat_lt k (a - b) ≡ false
late_is a b k h = grind (arith, nat_tests)

no_reason : (a b : Bool) → a ≡ false → b ≡ false → (a || b) ≡ false
no_reason a b p q = ap (λ x. x || b) p ∙ q

-- signatures
same_is : (a b : List ℕ) → not (bytes_eq a b) ≡ false → a ≡ b
same_is a b h = (bytes_eq-Decides a b).0 (holds (bytes_eq a b) h)
  where
    holds : (x : Bool) → not x ≡ false → x ≡ true
    holds true e = refl
    holds false e = cc

is_same : (a b : List ℕ) → a ≡ b → not (bytes_eq a b) ≡ false
is_same a b h = ap not ((bytes_eq-Decides a b).1 h)

module _ (keys : List AccessKey) (region : List ℕ) (message : Message) (target : Target) (moment : ℕ) where
  by_secret : (claim : Claim) (secret : Option (List ℕ)) → claim_of message.headers target.query ≡ Some claim → secret_of claim.by.id keys ≡ secret
      → judged_with secret region message target moment claim ≡ Ok Owner → IsSignedInTime keys region message target moment
  by_secret claim None said of_key h = cc
  by_secret claim (Some secret) said of_key h =
      let due = expected secret region message target claim in
      let first = passes (has_wrong_scope region claim.by) WrongScope _ h in
      let second = passes (leaves_unsigned claim.by.names message.headers) UnsignedHeader _ first.1 in
      let third = passes (has_signed_pieces message.headers) Streaming _ second.1 in
      let fourth = passes (is_out_of_time claim moment) OutOfTime _ third.1 in
      let fifth = passes (signature_differs claim.by due) (SignatureDiffers due.canonical_hash) (Ok Owner) fourth.1 in
      let times = in_time (signing_time_seconds claim.time) moment claim.expires fourth.0 in
      record {
        claim = claim;
        said = said;
        secret = secret;
        of_key = of_key;
        scope = first.0;
        all_signed = second.0;
        whole = third.0;
        begun = times.0;
        not_over = times.1;
        signature = same_is claim.by.signature (encode_lower due.signature) fifth.0;
      }

  by_claim : (claim : Option Claim) → claim_of message.headers target.query ≡ claim → judged keys region message target moment claim ≡ Ok Owner → IsSignedInTime keys region message target moment
  by_claim None said h = cc
  by_claim (Some claim) said h = by_secret claim (secret_of claim.by.id keys) said refl h

  pub taken_is : owner_or_refusal keys region message target moment ≡ Ok Owner → IsSignedInTime keys region message target moment
  unfolding owner_or_refusal
  taken_is h = by_claim (claim_of message.headers target.query) refl h

  pub is_taken : IsSignedInTime keys region message target moment → owner_or_refusal keys region message target moment ≡ Ok Owner
  unfolding owner_or_refusal
  is_taken said =
      let due = expected said.secret region message target said.claim in
      let seconds = signing_time_seconds said.claim.time in
      ap (judged keys region message target moment) said.said
      ∙ ap (λ secret. judged_with secret region message target moment said.claim) said.of_key
      ∙ skips (has_wrong_scope region said.claim.by) WrongScope _ said.scope
      ∙ skips (leaves_unsigned said.claim.by.names message.headers) UnsignedHeader _ said.all_signed
      ∙ skips (has_signed_pieces message.headers) Streaming _ said.whole
      ∙ skips (is_out_of_time said.claim moment) OutOfTime _ (no_reason (nat_lt 900 (seconds - moment)) (nat_lt said.claim.expires (moment - seconds)) (late_is seconds moment 900 said.begun) (late_is moment seconds said.claim.expires said.not_over))
      ∙ skips (signature_differs said.claim.by due) (SignatureDiffers due.canonical_hash) (Ok Owner) (is_same said.claim.by.signature (encode_lower due.signature) said.signature)
