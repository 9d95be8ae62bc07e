-- Of the claims of a free key exactly one is done.
use Rattle.std.specs.Prelude.{◌≡◌, ℕ, false, bytes_eq, if◌then◌else◌, List, [], ◌∷◌, Option, Some, None}
use Rattle.std.proofs.Common.{refl, sym, ap, ◌∙◌}
use Rattle.std.specs.FinMap.{get}
use Rattle.std.specs.List.{All}
use Rattle.std.specs.Option.{option_map}
use Rattle.std.proofs.lemmas.List.Elements.{All-cons, All-nil}
use Rattle.gate_base.specs.declared.page.Pair.{Pair}
use Rattle.s3_machine.specs.declared.code.Code.{Code}
use Rattle.s3_machine.specs.declared.code.Code.TheVariants.{PreconditionFailed}
use Rattle.s3_machine.specs.declared.only_if.OnlyIf.{OnlyIf}
use Rattle.s3_machine.specs.declared.only_if.OnlyIf.TheVariants.{Missing, Holds}
use Rattle.s3_machine.specs.declared.operation.Settings.{Settings}
use Rattle.s3_machine.specs.Ops.{PutObject}
use Rattle.s3_machine.specs.declared.operation.Reply.{Reply}
use Rattle.s3_machine.specs.declared.operation.Reply.TheVariants.{Refused}
use Rattle.s3_machine.specs.Replies.{Stored}
use Rattle.s3_machine.specs.ETag.{body_etag}
use Rattle.s3_machine.specs.Laws.{AnswersClaims, Claim, HasFreeKey}
use Rattle.s3_machine.specs.OnlyIf.{refusal}
use Rattle.s3_machine.specs.State.{Object, Bucket, State}
use Rattle.s3_machine.specs.Step.{Outcome, S3Step, etag_of_object, new_object, puts, refusal_in}
use Rattle.s3_machine.proofs.lemmas.StepLemmas.{held_back, in_found, not_held}
use Rattle.s3_machine.proofs.Rereads.{left_by_put}

-- a bucket is there, in which this object stands under the key
abbrev Holder : State → List ℕ → List ℕ → Object → Type 0
Holder state bucket key o = (b : Bucket) × (get state bucket ≡ Some b) × (get b.objects key ≡ Some o)

module _ (settings : Settings) (bucket key : List ℕ) where
  module _ (old new : State) (claim : Claim) (only_if : OnlyIf) (reply : Reply)
      (claims : S3Step settings old (PutObject bucket key None claim.content_type claim.meta claim.body only_if claim.checksum) claim.label reply new) where
    abbrev put : Object
    put = new_object claim.label.moment claim.content_type claim.meta claim.body

    -- where an object stands under the key for which the condition refuses it, it is refused
    refused_by : (o : Object) (code : Code) → Holder old bucket key o → refusal only_if (Some o.etag) ≡ Some code → (reply ≡ Refused code) × (new ≡ old)
    refused_by o code holder is =
        let held : refusal_in only_if key holder.0 ≡ Some code = ap (λ v. refusal only_if (option_map etag_of_object v)) holder.2 ∙ is in
        let comes = in_found old bucket holder.0 holder.1 (puts old bucket key None put only_if claim.checksum) ∙ held_back _ _ _ _ held in
        (claims.replies ∙ ap (λ (w : Outcome). w.reply) comes, claims.goes ∙ ap (λ (w : Outcome). w.state) comes)

    -- where nothing stands there, and the condition allows that, it is done
    done_by : HasFreeKey old bucket key → refusal only_if None ≡ None → reply ≡ Stored (body_etag claim.body) claim.checksum
    done_by free is =
        let met : refusal_in only_if key free.b ≡ None = ap (λ v. refusal only_if (option_map etag_of_object v)) free.free ∙ is in
        claims.replies ∙ ap (λ (w : Outcome). w.reply) (in_found old bucket free.b free.there (puts old bucket key None put only_if claim.checksum) ∙ not_held _ _ _ met)

    -- once done, it stands there
    holds_then : (etag : List ℕ) (compared : Option Pair) → reply ≡ Stored etag compared → Holder new bucket key put
    holds_then etag compared is = left_by_put old new bucket key None put etag only_if claim.checksum compared (get old bucket) refl (sym is ∙ claims.replies) claims.goes

  abbrev IsRefused : Claim × Reply → Type 0
  IsRefused other = other.1 ≡ Refused PreconditionFailed

  -- under a key that is taken each claim is refused
  all_refused : (old new : State) (o : Object) (claims : List (Claim × Reply)) → Holder old bucket key o → AnswersClaims settings bucket key old claims new
      → All (λ (other : Claim × Reply). other.1 ≡ Refused PreconditionFailed) claims
  unfolding AnswersClaims
  all_refused old new o [] holder answers = All-nil IsRefused
  all_refused old new o (c ∷ claims) holder answers =
      let refused = refused_by old answers.0 c.0 Missing c.1 answers.1 o PreconditionFailed holder refl in
      All-cons IsRefused c claims refused.0 (all_refused answers.0 new o claims (holder.0, (ap (λ s. get s bucket) refused.1 ∙ holder.1), holder.2) answers.2)

  pub one_wins : (old new : State) (first : Claim × Reply) (others : List (Claim × Reply)) → HasFreeKey old bucket key → AnswersClaims settings bucket key old (first ∷ others) new
      → (first.1 ≡ Stored (body_etag first.0.body) first.0.checksum) × All (λ (other : Claim × Reply). other.1 ≡ Refused PreconditionFailed) others
  unfolding AnswersClaims
  one_wins old new first others free answers =
      let done = done_by old answers.0 first.0 Missing first.1 answers.1 free refl in
      (done, all_refused answers.0 new _ others (holds_then old answers.0 first.0 Missing first.1 answers.1 _ first.0.checksum done) answers.2)

  pub swaps_once : (old middle new : State) (etag : List ℕ) (one other : Claim) (stored : List ℕ) (reply : Reply)
      → S3Step settings old (PutObject bucket key None one.content_type one.meta one.body (Holds etag) one.checksum) one.label (Stored stored one.checksum) middle
      → bytes_eq etag (body_etag one.body) ≡ false
      → S3Step settings middle (PutObject bucket key None other.content_type other.meta other.body (Holds etag) other.checksum) other.label reply new
      → (reply ≡ Refused PreconditionFailed) × (new ≡ middle)
  swaps_once old middle new etag one other stored reply first differ second =
      refused_by middle new other (Holds etag) reply second _ PreconditionFailed (holds_then old middle one (Holds etag) (Stored stored one.checksum) first stored one.checksum refl)
      (ap (λ same. if same then None else Some PreconditionFailed) differ)
