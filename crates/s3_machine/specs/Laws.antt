-- Laws of the service, apart from any code.
use Rattle.std.specs.Prelude.{◌≡◌, ℕ, false, bytes_eq, List, [], ◌∷◌, Option, None, Some}
use Rattle.std.specs.FinMap.{get}
use Rattle.std.specs.List.{All}
use Rattle.gate_base.specs.declared.caller.Caller.TheVariants.{Owner}
use Rattle.gate_base.specs.declared.page.Pair.{Pair}
use Rattle.s3_names.specs.declared.acl.Acl.{Acl}
use Rattle.s3_machine.specs.declared.operation.Label.{Label}
use Rattle.s3_machine.specs.declared.operation.Settings.{Settings}
use Rattle.s3_machine.specs.Ops.{PutObject, GetObject, DeleteObject}
use Rattle.s3_machine.specs.declared.code.Code.TheVariants.{NoSuchKey, PreconditionFailed}
use Rattle.s3_machine.specs.declared.operation.Reply.{Reply}
use Rattle.s3_machine.specs.declared.operation.Reply.TheVariants.{Refused, Gone}
use Rattle.s3_machine.specs.Replies.{Stored}
use Rattle.s3_machine.specs.declared.reading.Conditions.{Conditions}
use Rattle.s3_machine.specs.declared.reading.Range.{Range}
use Rattle.s3_machine.specs.declared.only_if.OnlyIf.{OnlyIf}
use Rattle.s3_machine.specs.declared.only_if.OnlyIf.TheVariants.{Missing, Holds}
use Rattle.s3_machine.specs.ETag.{body_etag}
use Rattle.s3_machine.specs.Conditions.{no_conditions}
use Rattle.s3_machine.specs.State.{Bucket, State}
use Rattle.s3_machine.specs.Step.{S3Step, new_object, whole}

-- what was put is what an owner gets next who asks for all of it, whatever headers are to be shown: the bytes, with their type,
-- metadata and moment
pub record GetAfterPut : Type 0 where
  pub gets : (settings : Settings) (old new after : State) (bucket key content_type body etag : List ℕ) (acl : Option Acl) (meta : List Pair) (only_if : OnlyIf)
      (checksum : Option Pair) (shown : List Pair) (first second : Label) (reply : Reply)
      → S3Step settings old (PutObject bucket key acl content_type meta body only_if checksum) first (Stored etag checksum) new
      → second.caller ≡ Owner → S3Step settings new (GetObject bucket key None no_conditions None shown) second reply after
      → reply ≡ whole shown (new_object first.moment content_type meta body)

-- and what was deleted is gone, whatever is asked for
pub record GetAfterDelete : Type 0 where
  pub gets : (settings : Settings) (old new after : State) (bucket key : List ℕ) (range : Option Range) (conditions : Conditions) (only_if : OnlyIf)
      (part : Option ℕ) (shown : List Pair) (first second : Label) (reply : Reply)
      → S3Step settings old (DeleteObject bucket key only_if) first Gone new
      → second.caller ≡ Owner → S3Step settings new (GetObject bucket key range conditions part shown) second reply after
      → reply ≡ Refused NoSuchKey

-- ---- locks

-- a bucket is there, in which nothing stands under the key
pub record HasFreeKey (state : State) (bucket key : List ℕ) : Type 0 where
  pub b : Bucket
  pub there : get state bucket ≡ Some b
  pub free : get b.objects key ≡ None

-- what a key is claimed with: an object that is put where nothing stands under the key
pub record Claim : Type 0 where
  pub content_type : List ℕ
  pub meta : List Pair
  pub body : List ℕ
  pub checksum : Option Pair
  pub label : Label

abbrev pub Claims : Settings → List ℕ → List ℕ → State → Claim → Reply → State → Type 0
Claims settings bucket key old claim reply new = S3Step settings old (PutObject bucket key None claim.content_type claim.meta claim.body Missing claim.checksum) claim.label reply new

-- the service answers these claims of one key, one after another, each so
unfoldable pub AnswersClaims : Settings → List ℕ → List ℕ → State → List (Claim × Reply) → State → Type 0
AnswersClaims settings bucket key old [] new = new ≡ old
AnswersClaims settings bucket key old (c ∷ claims) new = (middle : State) × Claims settings bucket key old c.0 c.1 middle × AnswersClaims settings bucket key middle claims new

-- of any number of claims of a free key exactly one is done, the first; each other is refused
pub record OneClaimWins : Type 0 where
  pub wins : (settings : Settings) (old new : State) (bucket key : List ℕ) (first : Claim × Reply) (others : List (Claim × Reply)) → HasFreeKey old bucket key
      → AnswersClaims settings bucket key old (first ∷ others) new
      → (first.1 ≡ Stored (body_etag first.0.body) first.0.checksum) × All (λ (other : Claim × Reply). other.1 ≡ Refused PreconditionFailed) others

-- of two puts in place of an object with one ETag the second is refused where the first was done, and put an object with another
-- ETag; it leaves the state
pub record SwapsOnce : Type 0 where
  pub refuses : (settings : Settings) (old middle new : State) (bucket key etag : List ℕ) (one other : Claim) (stored : List ℕ) (reply : Reply)
      → S3Step settings old (PutObject bucket key None one.content_type one.meta one.body (Holds etag) one.checksum) one.label (Stored stored one.checksum) middle
      → bytes_eq etag (body_etag one.body) ≡ false
      → S3Step settings middle (PutObject bucket key None other.content_type other.meta other.body (Holds etag) other.checksum) other.label reply new
      → (reply ≡ Refused PreconditionFailed) × (new ≡ middle)
