-- What PUT of a bucket's container does to the state, where the bucket is missing.
use Rattle.std.specs.Prelude.{◌≡◌, ◌<◌, ℕ, true, false, List, Option, Some, None, is_some, Ok}
use Rattle.std.specs.FinMap.{get}
use Rattle.std.proofs.Common.{refl, sym, ap, subst, ◌∙◌}
use Rattle.gate_base.specs.Told.{moment_limit}
use Rattle.s3_names.specs.declared.acl.Acl.{Acl}
use Rattle.s3_names.specs.Bucket.{is_bucket}
use Rattle.swift_calls.specs.Account.{SwiftContainer, SwiftAccount}
use Rattle.swift_calls.specs.Step.{Answer, put_container, swift_step}
use Rattle.swift_calls.specs.declared.account.ReadList.{ReadList}
use Rattle.swift_calls.specs.declared.calls.SwiftRequest.TheVariants.{PutContainer}
use Rattle.upload_records.specs.Layout.{readers_of}
use Rattle.upload_records.specs.Native.{SameGateway, IsSettled, s3_state}
use Rattle.upload_records.specs.Consistent.{IsConsistent}
use Rattle.upload_records.proofs.lemmas.Buckets.{s3_state_there, bucket_made}
use Rattle.upload_records.proofs.lemmas.Off.{same_put}
use Rattle.upload_records.proofs.lemmas.Settled.{unsealed_of, settled_same}
use Rattle.account_calls.specs.Calls.{Becomes, makes_bucket}
use Rattle.account_calls.specs.Interpret.{made_due}
use Rattle.account_calls.specs.Purging.{MayMake}
use Rattle.account_calls.proofs.lemmas.One.{Effect, IsWritingOf}

-- the request, for the bucket's own name, access control list and moment
pub record IsPutOf (name bucket : List ℕ) (readers : ReadList) (acl : Acl) (moment : ℕ) : Type 0 where
  pub named : name ≡ bucket
  pub listed : readers ≡ readers_of acl
  pub is : is_bucket bucket ≡ true
  pub below : moment < moment_limit

none_of : {X : Type 0} (o : Option X) → is_some o ≡ false → o ≡ None
none_of None e = refl
none_of (Some x) e = cc

-- a bucket that is missing has no container
no_container : (tree : SwiftAccount) (bucket : List ℕ) → is_bucket bucket ≡ true → IsSettled tree → get (s3_state tree) bucket ≡ None → get tree bucket ≡ None
no_container tree bucket is settled missing = none_of (get tree bucket) (sym (s3_state_there tree bucket is (unsealed_of settled)) ∙ ap is_some missing)

put_replies : (o : Option SwiftContainer) (name : List ℕ) (readers : ReadList) (created : Option ℕ) (tree : SwiftAccount) → o ≡ None → made_due (put_container o name readers created tree).reply ≡ Ok tt
put_replies o name readers created tree none = ap (λ v. made_due (put_container v name readers created tree).reply) none

module _ (tree : SwiftAccount) (name bucket : List ℕ) (readers : ReadList) (acl : Acl) (moment : ℕ) (put : IsPutOf name bucket readers acl moment) where
  same_step : swift_step (PutContainer name readers (Some moment)) tree ≡ swift_step (PutContainer bucket (readers_of acl) (Some moment)) tree
  same_step = λ i. swift_step (PutContainer (put.named i) (put.listed i) (Some moment)) tree

  -- the bucket is made, and the store says so
  put_effect : IsConsistent tree → IsSettled tree → MayMake bucket tree → Effect tree (PutContainer name readers (Some moment)) made_due (Becomes (makes_bucket bucket acl moment))
  put_effect sound settled may =
      let none : get tree bucket ≡ None = no_container tree bucket put.is settled may.lacks in
      let done = bucket_made tree bucket acl moment put.is put.below sound (unsealed_of settled) none may.bare in
      record {
        answer = tt;
        says = ap (λ (a : Answer). made_due a.reply) same_step ∙ put_replies (get tree bucket) bucket (readers_of acl) (Some moment) tree none;
        after = subst IsConsistent (sym (ap (λ (a : Answer). a.tree) same_step)) done.sound;
        state = ap (λ (a : Answer). s3_state a.tree) same_step ∙ done.state;
      }

  put_gateway : SameGateway tree (swift_step (PutContainer name readers (Some moment)) tree).tree
  put_gateway = subst (SameGateway tree) (sym (ap (λ (a : Answer). a.tree) same_step)) (same_put tree bucket put.is (readers_of acl) (Some moment))

-- PUT of a bucket's container makes a bucket that is missing, beside which nothing stands
pub puts : {name bucket : List ℕ} {readers : ReadList} {acl : Acl} {moment : ℕ} → IsPutOf name bucket readers acl moment
    → IsWritingOf (PutContainer name readers (Some moment)) made_due (MayMake bucket) (Becomes (makes_bucket bucket acl moment))
puts {name = name} {bucket = bucket} {readers = readers} {acl = acl} {moment = moment} put = record {
  effect = λ tree sound settled may. put_effect tree name bucket readers acl moment put sound settled may;
  settled = λ tree. settled_same (put_gateway tree name bucket readers acl moment put);
}
