-- The step of ListObjects, from what its calls told, and how many they are.
use Rattle.std.specs.Prelude.{◌≡◌, ◌+◌, ℕ, Bool, true, false, List, [], ◌∷◌, map, Option, Some, None, Result, Ok}
use Rattle.std.specs.FinMap.{entries, get}
use Rattle.std.specs.List.{All}
use Rattle.std.proofs.Common.{refl, sym, ap, subst, ◌∙◌, arith}
use Rattle.s3_names.specs.declared.acl.Acl.{Acl}
use Rattle.s3_machine.specs.Shown.{IsShownItem}
use Rattle.s3_machine.specs.State.{Bucket, State}
use Rattle.s3_machine.specs.Items.{with_prefix}
use Rattle.s3_machine.specs.Step.{S3Step, may_read, item_of, listed_key, listing, listing_reply}
use Rattle.s3_machine.specs.declared.code.Code.TheVariants.{AccessDenied, NoSuchBucket}
use Rattle.s3_machine.specs.declared.items.Asked.{Asked}
use Rattle.s3_machine.specs.declared.items.Item.{Item}
use Rattle.s3_machine.specs.declared.items.ItemHead.{ItemHead}
use Rattle.s3_machine.specs.declared.operation.Label.{Label}
use Rattle.s3_machine.specs.declared.operation.Op.{Op}
use Rattle.s3_machine.specs.Ops.{ListObjects}
use Rattle.s3_machine.specs.declared.operation.Reply.{Reply}
use Rattle.s3_machine.specs.Replies as reply
use Rattle.s3_machine.specs.declared.operation.Settings.{Settings}
use Rattle.s3_machine.proofs.lemmas.StepLemmas.{list_without_bucket, list_denied, step_items}
use Rattle.swift_calls.specs.Account.{SwiftAccount}
use Rattle.swift_calls.specs.History.{History, present}
use Rattle.upload_records.specs.Native.{IsSettled, s3_state}
use Rattle.list_pages.specs.Rolling.{first_rows}
use Rattle.list_pages.specs.Rolls.{rows_of, wanted}
use Rattle.account_calls.specs.Calls.{always, by_account, Asks, GivenOf, Tells, TellsBucket}
use Rattle.account_calls.specs.Keys.{objects_in, TellsListing}
use Rattle.account_calls.specs.declared.fault.PlanFault.{PlanFault}
use Rattle.account_calls.specs.declared.state.Known.{Known}
use Rattle.account_calls.specs.Plan.{IsOwnReply, Plans}
use Rattle.account_calls.proofs.lemmas.Ends.{met_settled, after_told, goes_on_from}
use Rattle.planner.specs.Listing.{objects_reply}
use Rattle.planner.proofs.CreateBucket.{missing_of}
use Rattle.planner.proofs.Steps.{bucket_by}

-- ---- the steps

items_again : (items : List Item) → map item_of (rows_of items) ≡ items
items_again [] = refl
items_again (x ∷ items) = ap (λ l. x ∷ l) (items_again items)

module _ (settings : Settings) (state : State) (bucket : List ℕ) (asked : Asked) (label : Label) where
  pub list_missing : TellsBucket bucket state None → S3Step settings state (ListObjects bucket asked) label (reply.Refused NoSuchBucket) state
  list_missing told = list_without_bucket settings state bucket label (missing_of bucket state told) asked

  module _ (list : Acl) (told : TellsBucket bucket state (Some list)) where
    it : (b : Bucket) × (get state bucket ≡ Some b) × (b.acl ≡ list)
    it = bucket_by (get state bucket) list told

    pub list_refused : may_read label.caller list ≡ false → S3Step settings state (ListObjects bucket asked) label (reply.Refused AccessDenied) state
    list_refused no_reader = list_denied settings state bucket label it.0 it.1 asked (ap (may_read label.caller) it.2 ∙ no_reader)

    pub list_told : may_read label.caller list ≡ true → (told : List Item × Bool) → TellsListing bucket asked state told → S3Step settings state (ListObjects bucket asked) label (objects_reply bucket asked told) state
    list_told reader told tells =
        let same : (rows_of told.0, told.1) ≡ listing asked it.0.objects = tells ∙ ap (λ o. first_rows (wanted asked) (keys_of o)) it.1 in
        subst (λ r. S3Step settings state (ListObjects bucket asked) label r state)
        (ap (listing_reply bucket asked) (sym same) ∙ ap (λ l. reply.Objects bucket asked l told.1) (items_again told.0))
        (step_items settings state bucket label it.0 it.1 asked (ap (may_read label.caller) it.2 ∙ reader))
      where
        keys_of : Option Bucket → List (List ℕ × ItemHead)
        keys_of o = with_prefix asked.prefix (map listed_key (entries (objects_in o)))

pub items_are_own : (bucket : List ℕ) (asked : Asked) (told : List Item × Bool) → All IsShownItem told.0 → IsOwnReply (objects_reply bucket asked told)
items_are_own bucket asked told dated = record { showable = dated; no_memory = λ e. cc; no_failure = λ e. cc; no_inconsistency = λ e. cc }

-- ---- how many calls

-- a call told of the state, and the rest is counted by what the account has after it, which is what it had before
pub counted_on : {T : Type 0} {P : State → T → Type 0} {given rest : SwiftAccount → Type 0} {a b c : History} {settings now : Settings} {op : Op} {label : Label} {after : Known} {end : Result Reply PlanFault} {value : T}
    → (pages : SwiftAccount → ℕ) (told : T) → value ≡ told → now ≡ settings → Asks (always 1) a b IsSettled (Tells P) (Ok value)
    → Plans (by_account (pages (present b))) b c now (GivenOf rest) op label after end → ((tree : SwiftAccount) → given tree → P (s3_state tree) told → rest tree)
    → Plans (by_account (1 + pages (present a))) a c settings (GivenOf given) op label after end
counted_on {given = given} {rest = rest} pages told is same asks plans gives =
    goes_on_from met_settled same asks plans (after_told given rest told is gives) (λ x. let same = ap pages x.1.same in omega (arith, same))
