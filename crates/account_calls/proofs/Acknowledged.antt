-- Of two claims of one key at most one is acknowledged.
use Rattle.std.specs.Prelude.{◌≡◌, ℕ, List, [], ◌∷◌, Option, None, Some}
use Rattle.std.proofs.Common.{refl, sym, ap, subst, ◌∙◌}
use Rattle.std.proofs.lemmas.List.Elements.{All-head}
use Rattle.std.specs.FinMap.{get}
use Rattle.std.specs.Option.{option_map}
use Rattle.gate_base.specs.declared.page.Pair.{Pair}
use Rattle.s3_machine.specs.declared.code.Code.TheVariants.{NoSuchBucket, PreconditionFailed}
use Rattle.s3_machine.specs.declared.only_if.OnlyIf.TheVariants.{Missing}
use Rattle.s3_machine.specs.declared.operation.Label.{Label}
use Rattle.s3_machine.specs.declared.operation.Op.{Op}
use Rattle.s3_machine.specs.Ops.{PutObject}
use Rattle.s3_machine.specs.declared.operation.Reply.{Reply}
use Rattle.s3_machine.specs.declared.operation.Reply.TheVariants.{Refused}
use Rattle.s3_machine.specs.Replies.{Stored}
use Rattle.s3_machine.specs.declared.operation.Settings.{Settings}
use Rattle.s3_machine.specs.Laws.{AnswersClaims, Claim, HasFreeKey}
use Rattle.s3_machine.specs.OnlyIf.{refusal}
use Rattle.s3_machine.specs.State.{Object, Bucket, State}
use Rattle.s3_machine.specs.Step.{Outcome, S3Step, etag_of_object, new_object, puts, refusal_in}
use Rattle.s3_machine.proofs.Locks.{one_wins}
use Rattle.s3_machine.proofs.lemmas.StepLemmas.{held_back, in_found, in_missing}
use Rattle.swift_calls.specs.History.{History}
use Rattle.upload_records.specs.Native.{s3_state}
use Rattle.account_calls.specs.Answers.{Answers, AnswersBy, machine, unavailable, memory}

-- what is acknowledged was done
by_step : {settings : Settings} {h : History} {p q : ℕ} {op : Op} {label : Label} {takes : ℕ} {etag : List ℕ} {checksum : Option Pair} → AnswersBy settings h p q op label takes (Stored etag checksum)
    → S3Step settings (s3_state (h.account_at p)) op label (Stored etag checksum) (s3_state (h.account_at q))
by_step (machine all does) = does
by_step (unavailable is failed old) = cc
by_step (memory is old) = cc

module _ (settings : Settings) (bucket key : List ℕ) (old new : State) (claim : Claim) (etag : List ℕ)
    (does : S3Step settings old (PutObject bucket key None claim.content_type claim.meta claim.body Missing claim.checksum) claim.label (Stored etag claim.checksum) new) where
  abbrev put : Object
  put = new_object claim.label.moment claim.content_type claim.meta claim.body

  in_there : (b : Bucket) → get old bucket ≡ Some b → (v : Option Object) → get b.objects key ≡ v → HasFreeKey old bucket key
  in_there b there None free = record { b = b; there = there; free = free }
  in_there b there (Some o) taken =
      let held : refusal_in Missing key b ≡ Some PreconditionFailed = ap (λ v. refusal Missing (option_map etag_of_object v)) taken in
      let refused : Stored etag claim.checksum ≡ Refused PreconditionFailed = does.replies ∙ ap (λ (w : Outcome). w.reply) (in_found old bucket b there (puts old bucket key None put Missing claim.checksum) ∙ held_back _ _ _ _ held) in
      cc

  by_bucket : (v : Option Bucket) → get old bucket ≡ v → HasFreeKey old bucket key
  by_bucket None none =
      let refused : Stored etag claim.checksum ≡ Refused NoSuchBucket = does.replies ∙ ap (λ (w : Outcome). w.reply) (in_missing old bucket none (puts old bucket key None put Missing claim.checksum)) in
      cc
  by_bucket (Some b) there = in_there b there (get b.objects key) refl

  -- a claim is done of a free key alone
  was_free : HasFreeKey old bucket key
  was_free = by_bucket (get old bucket) refl

abbrev IsRefused : Claim × Reply → Type 0
IsRefused c = c.1 ≡ Refused PreconditionFailed

not_both : (settings : Settings) (old middle new : State) (bucket key : List ℕ) (one other : Claim) (first second : List ℕ)
    → S3Step settings old (PutObject bucket key None one.content_type one.meta one.body Missing one.checksum) one.label (Stored first one.checksum) middle
    → S3Step settings middle (PutObject bucket key None other.content_type other.meta other.body Missing other.checksum) other.label (Stored second other.checksum) new → ⊥
unfolding AnswersClaims
not_both settings old middle new bucket key one other first second does then =
    let wins = one_wins settings bucket key old new (one, Stored first one.checksum) ((other, Stored second other.checksum) ∷ []) (was_free settings bucket key old middle one first does) (middle, does, (new, then, refl)) in
    differ (All-head IsRefused (other, Stored second other.checksum) [] wins.1)
  where
    differ : Stored second other.checksum ≡ Refused PreconditionFailed → ⊥
    differ e = cc

pub one_acknowledged : (settings : Settings) (h : History) (p t q r u s takes took : ℕ) (bucket key : List ℕ) (one other : Claim) (first second : List ℕ)
    → Answers settings h p t q (PutObject bucket key None one.content_type one.meta one.body Missing one.checksum) one.label takes (Stored first one.checksum)
    → s3_state (h.account_at r) ≡ s3_state (h.account_at q)
    → Answers settings h r u s (PutObject bucket key None other.content_type other.meta other.body Missing other.checksum) other.label took (Stored second other.checksum) → ⊥
one_acknowledged settings h p t q r u s takes took bucket key one other first second answers same then =
    not_both settings (s3_state (h.account_at p)) (s3_state (h.account_at q)) (s3_state (h.account_at s)) bucket key one other first second (by_step answers.by)
    (subst (λ old. S3Step settings old (PutObject bucket key None other.content_type other.meta other.body Missing other.checksum) other.label (Stored second other.checksum) (s3_state (h.account_at s))) same (by_step then.by))
