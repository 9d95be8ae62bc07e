-- One page of the names of a bucket's container, asked for by one call.
use Rattle.std.proofs.Common.{◌≡◌, ℕ, zero, suc, List, [], ◌∷◌, map, length, take, Bool, true, Option, Some, None, Result, Ok, Err, refl, sym, ap, subst, ◌∙◌, inr, arith}
use Rattle.std.specs.Result.{IsErrAnd}
use Rattle.std.specs.List.{filter}
use Rattle.std.specs.FinMap.{entries, get, len-empty, len-entries}
use Rattle.gate_base.specs.Maps.{name_cmp}
use Rattle.s3_names.specs.Bucket.{is_bucket}
use Rattle.swift_calls.specs.Account.{SwiftObject, SwiftContainer, SwiftAccount, files, files_of}
use Rattle.swift_calls.specs.Bodies.{item_of}
use Rattle.swift_calls.specs.History.{History, Calls}
use Rattle.swift_calls.specs.Step.{page, is_listed, items_reply}
use Rattle.swift_calls.specs.declared.calls.SwiftFault.TheVariants as swift
use Rattle.swift_calls.specs.declared.calls.SwiftReply.{SwiftReply}
use Rattle.swift_calls.specs.declared.calls.SwiftReply.TheVariants.{Made, There, Gone, Stored, NotFound, Exists, NotEmpty, BadManifest, Unsatisfiable, Containers, Readers, Names, Head, Bytes, Manifest}
use Rattle.swift_calls.specs.declared.heads.NameItem.{NameItem}
use Rattle.upload_records.specs.Native.{IsSettled}
use Rattle.upload_records.specs.Consistent.{IsConsistent}
use Rattle.list_pages.specs.Listing.{AsksPage, asked, not_asked, ComesTo, IsTold, IsOdd, BreaksAt, name_in, page_request}
use Rattle.list_pages.specs.declared.fault.PageFault.{PageFault}
use Rattle.list_pages.specs.declared.fault.PageFault.TheVariants as fault
use Rattle.list_pages.specs.Rolls.{HasUntagged}
use Rattle.list_pages.specs.declared.fault.RollFault.{RollFault}
use Rattle.list_pages.specs.declared.fault.RollFault.TheVariants as rolls
use Rattle.list_pages.proofs.lemmas.Fronts.{breaks_nowhere}
use Rattle.account_calls.specs.declared.fault.PlanFault.{PlanFault}
use Rattle.account_calls.specs.declared.fault.PlanFault.TheVariants as plan
use Rattle.account_calls.specs.Fault.{of_page, of_roll}
use Rattle.account_calls.specs.Calls.{always, Asks}
use Rattle.account_calls.specs.Keys.{TellsKeys}
use Rattle.account_calls.specs.Listing.{TellsOf}
use Rattle.account_calls.proofs.lemmas.Faults.{err_is}
use Rattle.account_calls.proofs.lemmas.Idle.{stays}
use Rattle.account_calls.proofs.lemmas.Ask.{asks_out_of_memory}
use Rattle.account_calls.proofs.KeyPages.{page_is_one, page_tells}
use Rattle.account_calls.proofs.lemmas.One as one
use Rattle.account_calls.proofs.lemmas.One.{IsReadingOf, asked_of, asked_of_in_vain, grows_one, found, stays_settled}

-- what a listing answers, where it is a page
abbrev page_due : SwiftReply → Result (List NameItem) PlanFault
page_due (Names items) = Ok items
page_due NotFound = Ok []
page_due _ = Err plan.Inconsistent

told_due : (prefix marker : List ℕ) (reply : SwiftReply) (told : List NameItem) → IsTold prefix marker reply told → Ok told ≡ page_due reply
told_due prefix marker (Names items) told comes = ap Ok comes.0
told_due prefix marker NotFound told comes = ap Ok comes
told_due prefix marker Made told comes = absurd comes
told_due prefix marker There told comes = absurd comes
told_due prefix marker Gone told comes = absurd comes
told_due prefix marker (Stored etag) told comes = absurd comes
told_due prefix marker Exists told comes = absurd comes
told_due prefix marker NotEmpty told comes = absurd comes
told_due prefix marker BadManifest told comes = absurd comes
told_due prefix marker Unsatisfiable told comes = absurd comes
told_due prefix marker (Containers names) told comes = absurd comes
told_due prefix marker (Readers readers created) told comes = absurd comes
told_due prefix marker (Head head) told comes = absurd comes
told_due prefix marker (Bytes head body) told comes = absurd comes
told_due prefix marker (Manifest segments) told comes = absurd comes

none_of : {X : Type 0} (xs : List X) → length xs ≡ 0 → xs ≡ []
none_of [] e = refl
none_of (x ∷ xs) e = absurd (omega (arith, e))

take_none : (X : Type 0) (n : ℕ) → let none : List X = [] in take n none ≡ none
take_none X zero = refl
take_none X (suc n) = refl

no_page : (prefix marker : List ℕ) (es : List (List ℕ × SwiftObject)) → es ≡ [] → page 1000 (λ e. item_of e.0 e.1) (λ e. is_listed prefix marker e.0) es ≡ []
unfolding page
no_page prefix marker es e = ap (λ es. take 1000 (map (λ (e : List ℕ × SwiftObject). item_of e.0 e.1) (filter (λ e. is_listed prefix marker e.0) es))) e ∙ take_none NameItem 1000

no_files : (prefix marker : List ℕ) → page 1000 (λ e. item_of e.0 e.1) (λ e. is_listed prefix marker e.0) (entries (files_of None)) ≡ []
no_files prefix marker = no_page prefix marker (entries (files_of None)) (none_of (entries (files_of None)) (sym (len-entries (files_of None)) ∙ len-empty name_cmp SwiftObject))

no_fault : {X F : Type 0} (x : X) (f : F) → Ok x ≡ Err f → ⊥
no_fault x f e = cc

module _ (bucket prefix marker : List ℕ) (is : is_bucket bucket ≡ true) where
  module _ (tree : SwiftAccount) (sound : IsConsistent tree) where
    tells_by : IsSettled tree → (o : Option SwiftContainer) → get tree bucket ≡ o → (reply : SwiftReply) → reply ≡ items_reply 1000 prefix marker o
        → (told : List NameItem) × (page_due reply ≡ Ok told) × TellsKeys bucket prefix marker tree told
    tells_by settled None e reply replied = (
      [],
      ap page_due replied,
      subst (TellsKeys bucket prefix marker tree) (ap (λ o. page 1000 (λ e. item_of e.0 e.1) (λ e. is_listed prefix marker e.0) (entries (files_of o))) e ∙ no_files prefix marker)
          (page_tells tree bucket prefix marker is sound settled),
    )
    tells_by settled (Some folder) e reply replied = (
      page 1000 (λ e. item_of e.0 e.1) (λ e. is_listed prefix marker e.0) (entries folder.files),
      ap page_due replied,
      subst (TellsKeys bucket prefix marker tree) (ap (λ o. page 1000 (λ e. item_of e.0 e.1) (λ e. is_listed prefix marker e.0) (entries (files_of o))) e)
          (page_tells tree bucket prefix marker is sound settled),
    )

    odd_by : (o : Option SwiftContainer) → get tree bucket ≡ o → (name : List ℕ) → IsOdd prefix marker (items_reply 1000 prefix marker o) name → ⊥
    odd_by None e name odd = odd
    odd_by (Some folder) e name odd =
        breaks_nowhere prefix marker (map name_in (page 1000 (λ e. item_of e.0 e.1) (λ e. is_listed prefix marker e.0) (entries (files tree bucket)))) name (page_is_one tree bucket prefix marker is sound)
        (subst (λ o. BreaksAt prefix marker (map name_in (page 1000 (λ e. item_of e.0 e.1) (λ e. is_listed prefix marker e.0) (entries (files_of o)))) name) (sym e) odd)

  keys_read : IsReadingOf IsSettled (page_request bucket prefix marker) page_due (TellsKeys bucket prefix marker)
  keys_read = record {
    leaves = λ tree. refl;
    tells = λ tree sound settled reply replied. tells_by tree sound settled (get tree bucket) refl reply replied;
  }

  module _ {a b : History} where
    -- the page that a call told
    told_by : (told : List NameItem) (reply : SwiftReply) → Calls a b (page_request bucket prefix marker) (Ok reply) → IsTold prefix marker reply told
        → Asks (always 1) a b IsSettled (TellsOf (TellsKeys bucket prefix marker)) (Ok told)
    told_by told reply calls comes = asked_of keys_read calls (Ok told) (inr (told_due prefix marker reply told comes)) (no_fault told plan.Failed)

    pub keys_told : {told : List NameItem} → AsksPage a b bucket prefix marker (Ok told) → Asks (always 1) a b IsSettled (TellsOf (TellsKeys bucket prefix marker)) (Ok told)
    keys_told {told = told} (asked (Ok reply) calls comes) = told_by told reply calls comes
    keys_told {told = told} (asked (Err swift.Failed) calls e) = absurd (no_fault told fault.Failed e)
    keys_told {told = told} (asked (Err swift.Memory) calls e) = absurd (no_fault told fault.Memory e)
    keys_told {told = told} (not_asked same e) = absurd (no_fault told fault.Memory e)

    module _ {reply : SwiftReply} (calls : Calls a b (page_request bucket prefix marker) (Ok reply)) where
      by_reply : (f : PageFault) → ComesTo bucket prefix marker reply (Err f) → Asks (always 1) a b IsSettled (TellsOf (TellsKeys bucket prefix marker)) (Err (of_page f))
      by_reply fault.Failed never = absurd never
      by_reply fault.Memory done = record {
        grows = grows_one IsSettled calls;
        cause = calls.faults;
        effect = λ met.
            let c = calls.effect met.observable in
            let next = c.next in
            (stays (omega arith) (omega arith) c.tree (subst IsConsistent (sym (found calls met.observable)) met.sound), c.quiet);
        settled = stays_settled (λ tree settled. settled) calls;
      }
      by_reply (fault.Inconsistent folder name) odd = record {
        grows = grows_one IsSettled calls;
        cause = calls.faults;
        effect = λ met.
            let c = calls.effect met.observable in
            let here = b.account_at a.called in
            odd_by here (subst IsConsistent (sym (found calls met.observable)) met.sound) (get here bucket) refl name (subst (λ r. IsOdd prefix marker r name) c.reply odd.1);
        settled = stays_settled (λ tree settled. settled) calls;
      }

    fault_by : (f : PageFault) → AsksPage a b bucket prefix marker (Err f) → Asks (always 1) a b IsSettled (TellsOf (TellsKeys bucket prefix marker)) (Err (of_page f))
    fault_by f (asked (Ok reply) calls comes) = by_reply calls f comes
    fault_by f (asked (Err swift.Failed) calls e) = let is_f : f ≡ fault.Failed = cc in asked_of_in_vain keys_read calls (Err (of_page f)) (ap of_page is_f)
    fault_by f (asked (Err swift.Memory) calls e) = let is_f : f ≡ fault.Memory = cc in asked_of_in_vain keys_read calls (Err (of_page f)) (ap of_page is_f)
    fault_by f (not_asked same e) =
        let is_f : f ≡ fault.Memory = cc in
        subst (λ h. Asks (always 1) a h IsSettled (TellsOf (TellsKeys bucket prefix marker)) (Err (of_page f))) (sym same) (one.not_asked (always 1) a (Err (of_page f)) (ap of_page is_f))

    -- a page wasn't had
    pub keys_fault : {f : PageFault} → AsksPage a b bucket prefix marker (Err f) → (result : Result (List NameItem) PlanFault) → IsErrAnd result (λ e. e ≡ of_page f)
        → Asks (always 1) a b IsSettled (TellsOf (TellsKeys bucket prefix marker)) result
    keys_fault {f = f} asks result gives = subst (Asks (always 1) a b IsSettled (TellsOf (TellsKeys bucket prefix marker))) (sym (err_is result (of_page f) gives)) (fault_by f asks)

-- the same of texts that are handed on
pub as_named : {a b : History} {bucket prefix marker container front : List ℕ} {r : Result (List NameItem) PageFault} → container ≡ bucket → front ≡ prefix → AsksPage a b container front marker r → AsksPage a b bucket prefix marker r
as_named {a = a} {b = b} {marker = marker} {r = r} named fronted asks = subst {A = List ℕ × List ℕ} (λ x. AsksPage a b x.0 x.1 marker r) (λ i. (named i, fronted i)) asks

-- the keys couldn't be taken
pub asks_rolled : {a b : History} {bucket prefix marker : List ℕ} {page handed : List NameItem} {f : RollFault} {Q : SwiftAccount → Bool → Type 0} → Asks (always 1) a b IsSettled (TellsOf (TellsKeys bucket prefix marker)) (Ok page)
    → handed ≡ page → (f ≡ rolls.NoTag → HasUntagged handed) → (result : Result Bool PlanFault) → IsErrAnd result (λ e. e ≡ of_roll f) → Asks (always 1) a b IsSettled (TellsOf Q) result
asks_rolled {f = rolls.Memory} asks same untagged result gives = asks_out_of_memory (λ tree has. has) asks result gives
asks_rolled {a = a} {b = b} {f = rolls.NoTag} {Q = Q} asks same untagged result gives = subst (Asks (always 1) a b IsSettled (TellsOf Q)) (sym (err_is result plan.Inconsistent gives)) (record {
  grows = asks.grows;
  cause = asks.cause;
  effect = λ met. (asks.effect met).2.of_account.tagged (subst HasUntagged same (untagged refl));
  settled = asks.settled;
})
