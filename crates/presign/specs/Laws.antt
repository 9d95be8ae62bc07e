-- What the laws of this crate say.
use Rattle.std.specs.Prelude.{◌≡◌, ◌≤◌, ◌<◌, ◌↔◌, ℕ, ◌+◌, true, false, List, codes, nat_eq, All, Contains, IsPermutation, Some, Ok}
use Rattle.std.specs.List.{list_all, starts_with}
use Rattle.hex.specs.Hex.{encode_lower}
use Rattle.gate_base.specs.declared.caller.Caller.TheVariants.{Owner}
use Rattle.gate_base.specs.declared.page.Pair.{Pair}
use Rattle.s3_names.specs.declared.target.Target.{Target}
use Rattle.s3_names.specs.Query.{is_text_pair}
use Rattle.s3_names.specs.Target.{begins_with_slash, bucket_text, key_text, target_of}
use Rattle.s3_names.specs.Text.{is_text}
use Rattle.http_wire.specs.Headers.{has_header, values_of}
use Rattle.http_wire.specs.declared.message.Message.{Message}
use Rattle.sigv4.specs.Keys.{is_key, secret_of}
use Rattle.sigv4.specs.Moment.{signing_time_seconds}
use Rattle.sigv4.specs.Verdict.{has_wrong_scope, has_signed_pieces}
use Rattle.sigv4.specs.declared.keys.AccessKey.{AccessKey}
use Rattle.presign.specs.declared.claim.Claim.{Claim}
use Rattle.presign.specs.Claim.{claim_of}
use Rattle.presign.specs.Parameters.{is_presigned, without_signature}
use Rattle.presign.specs.Url.{has_signature_name, is_region, IsPresigned}
use Rattle.presign.specs.Verdict.{leaves_unsigned, expected, owner_or_refusal}

-- a key of the service signed just this request, for this region, and the moment lies in the signature's time: from 900 seconds
-- before it to the seconds that it holds for
pub record IsSignedInTime (keys : List AccessKey) (region : List ℕ) (message : Message) (target : Target) (moment : ℕ) : Type 0 where
  pub claim : Claim
  pub said : claim_of message.headers target.query ≡ Some claim
  pub secret : List ℕ
  pub of_key : secret_of claim.by.id keys ≡ Some secret
  pub scope : has_wrong_scope region claim.by ≡ false
  pub all_signed : leaves_unsigned claim.by.names message.headers ≡ false
  pub whole : has_signed_pieces message.headers ≡ false
  pub begun : signing_time_seconds claim.time ≤ moment + 900
  pub not_over : moment ≤ signing_time_seconds claim.time + claim.expires
  pub signature : claim.by.signature ≡ encode_lower (expected secret region message target claim).signature

-- a presigned request is the owner's exactly where it is signed and in time
abbrev pub TakenExactly : Type 0
TakenExactly =
    (keys : List AccessKey) (region : List ℕ) (message : Message) (target : Target) (moment : ℕ)
    → (owner_or_refusal keys region message target moment ≡ Ok Owner) ↔ IsSignedInTime keys region message target moment

-- the numbers of a text or of a pair are bytes, as those that code holds always are
abbrev pub IsBytes : List ℕ → Type 0
IsBytes text = All (λ byte. byte < 256) text

abbrev pub IsBytePair : Pair → Type 0
IsBytePair pair = IsBytes pair.name × IsBytes pair.value

-- what `presign` wants of its arguments, as far as it matters here, and a URL that it gives of them
pub record IsMade (secret id region : List ℕ) (message : Message) (target : Target) (moment expires : ℕ) (url : List ℕ) : Type 0 where
  pub unsigned : has_signature_name target.query ≡ false
  pub key : is_key (record { id = id; secret = secret }) ≡ true
  pub scope : is_region region ≡ true
  pub least : 1 ≤ expires
  pub most : expires ≤ 604800
  pub path : IsBytes target.path
  pub query : All IsBytePair target.query
  pub made : IsPresigned secret id region message target moment expires url

-- the request of a URL: it has the method and the `host` that were signed, no Authorization header and no `x-amz-*` header but the
-- hash of its body, which doesn't come in signed pieces
pub record IsSent (message sent : Message) : Type 0 where
  pub method : sent.method ≡ message.method
  pub host : values_of (codes "host") sent.headers ≡ values_of (codes "host") message.headers
  pub has_host : has_header (codes "host") sent.headers ≡ true
  pub unauthorized : has_header (codes "authorization") sent.headers ≡ false
  pub alone : (header : Pair) → Contains sent.headers header → starts_with nat_eq header.name (codes "x-amz-") ≡ true
      → header.name ≡ codes "x-amz-content-sha256"
  pub whole : has_signed_pieces sent.headers ≡ false

-- from 900 seconds before the moment of the URL to the seconds behind it that it is good for
abbrev pub InTime : ℕ → ℕ → ℕ → Type 0
InTime moment expires now = (moment ≤ now + 900) × (now ≤ moment + expires)

-- a URL that is made with a key of the service, and read, is presigned, and its request is the owner's exactly in its time
abbrev pub MadeIsTaken : Type 0
MadeIsTaken =
    (keys : List AccessKey) (secret id region : List ℕ) (message : Message) (target : Target) (moment expires : ℕ) (url : List ℕ)
    (sent : Message) (read : Target) (now : ℕ)
    → secret_of id keys ≡ Some secret → IsMade secret id region message target moment expires url → IsSent message sent
    → target_of url ≡ Ok read
    → (is_presigned read.query ≡ true) × ((owner_or_refusal keys region sent read now ≡ Ok Owner) ↔ InTime moment expires now)

-- a target as it is read where its bucket has no slash: bucket and key stand in the path, and the key and the query are texts
pub record IsWhole (target : Target) : Type 0 where
  pub slash : begins_with_slash target.path ≡ true
  pub bucket : target.bucket ≡ bucket_text target.path
  pub key : target.key ≡ key_text target.path
  pub key_is_text : is_text target.key ≡ true
  pub query_is_texts : list_all is_text_pair target.query ≡ true

-- the target that is read asks for what the other does: besides the six parameters of a signature its query has the other's, in
-- some order
pub record AsksTheSame (target read : Target) : Type 0 where
  pub path : read.path ≡ target.path
  pub bucket : read.bucket ≡ target.bucket
  pub key : read.key ≡ target.key
  pub query : IsPermutation target.query (without_signature read.query)

-- a URL that is made is read, as a target that asks for what the URL was made for
abbrev pub MadeIsRead : Type 0
MadeIsRead =
    (secret id region : List ℕ) (message : Message) (target : Target) (moment expires : ℕ) (url : List ℕ)
    → IsMade secret id region message target moment expires url → IsWhole target
    → (read : Target) × (target_of url ≡ Ok read) × AsksTheSame target read
