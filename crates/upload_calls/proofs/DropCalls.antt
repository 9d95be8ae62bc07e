-- What DELETE of an open record does: the upload is dropped, and its segments may be deleted.
use Rattle.std.specs.Prelude.{◌≡◌, ◌<◌, ℕ, IfOk, List, [], ◌∷◌, cond, map, length, true, false, Option, Some, None, Result, Ok, Err, is_some}
use Rattle.std.specs.Result.{IsErrAnd}
use Rattle.std.specs.List.{filter, list_all}
use Rattle.std.specs.Option.{option_map}
use Rattle.std.specs.Ordering.{is_lt}
use Rattle.std.specs.FinMap.{entries, get, remove}
use Rattle.std.proofs.Common.{refl, sym, ap, subst, ◌∙◌, inl, inr, arith}
use Rattle.std.proofs.lemmas.Bool.{and_from}
use Rattle.std.proofs.lemmas.List.{length-append}
use Rattle.gate_base.specs.Maps.{name_cmp, adjust}
use Rattle.gate_base.proofs.lemmas.Maps.{by_name, same_key, at_adjust, off_adjust}
use Rattle.s3_names.specs.Bucket.{is_bucket}
use Rattle.s3_names.specs.Id.{id_digits}
use Rattle.s3_machine.specs.Items.{begins}
use Rattle.s3_machine.specs.State.{State}
use Rattle.swift_calls.specs.Account.{SwiftObject, SwiftContainer, SwiftAccount, files, find_object, on_files}
use Rattle.swift_calls.specs.History.{History, Calls, present}
use Rattle.swift_calls.specs.Step.{Answer, delete_object, swift_step}
use Rattle.swift_calls.specs.declared.calls.SwiftRequest.TheVariants.{DeleteObject}
use Rattle.swift_calls.specs.declared.calls.SwiftReply.{SwiftReply}
use Rattle.upload_records.specs.Layout.{segments_name, segments_prefix, uploads_name}
use Rattle.upload_records.specs.Native.{IsSettled, SameGateway, s3_state}
use Rattle.upload_records.specs.Consistent.{IsConsistent, IsThere}
use Rattle.upload_records.specs.Laws.{IsAbandoned, UploadAbandoned, UploadDropped}
use Rattle.upload_records.proofs.lemmas.Beside.{segments_there}
use Rattle.upload_records.proofs.lemmas.Settled.{settled_same, unsealed_of}
use Rattle.account_calls.specs.Calls.{Becomes, Bound, Changes, ChangesTo, GivenOf, Met}
use Rattle.account_calls.specs.Interpret.{gone_due}
use Rattle.account_calls.specs.declared.fault.PlanFault.{PlanFault}
use Rattle.account_calls.specs.Purging.{AllBehind, MayPurge, is_abandoned}
use Rattle.account_calls.proofs.lemmas.One.{Effect, IsWritingOf, found}
use Rattle.upload_calls.specs.Records.{HasOpen, drops_upload}
use Rattle.upload_calls.proofs.SideFiles.{same_delete}

-- ---- what is there stays there

some_mapped : {X Y : Type 0} (f : X → Y) (o : Option X) → is_some (option_map f o) ≡ is_some o
some_mapped f None = refl
some_mapped f (Some x) = refl

adjusted_there : (tree : SwiftAccount) (folder : List ℕ) (f : SwiftContainer → SwiftContainer) (name : List ℕ) → is_some (get (adjust folder f tree) name) ≡ is_some (get tree name)
adjusted_there tree folder f name = elim (same_key by_name name folder) [
  | inl e ↦ ap (λ n. is_some (get (adjust folder f tree) n)) e ∙ ap is_some (at_adjust by_name folder f tree) ∙ some_mapped f (get tree folder) ∙ ap (λ n. is_some (get tree n)) (sym e)
  | inr a ↦ ap is_some (off_adjust by_name folder f tree name a)
]

deleted_there : (o : Option SwiftObject) (folder file : List ℕ) (tree : SwiftAccount) (name : List ℕ) → is_some (get (delete_object o folder file tree).tree name) ≡ is_some (get tree name)
deleted_there None folder file tree name = refl
deleted_there (Some f) folder file tree name = adjusted_there tree folder (on_files (λ fs. remove fs file)) name

-- ---- no name with a prefix is empty

filled_with : (prefix name : List ℕ) → 0 < length prefix → begins prefix name ≡ true → is_lt (name_cmp [] name) ≡ true
filled_with [] name some e = absurd (omega (arith, some))
filled_with (c ∷ front) [] some e = cc
filled_with (c ∷ front) (b ∷ text) some e = refl

behind_none : {X : Type 0} (prefix : List ℕ) → 0 < length prefix → (es : List (List ℕ × X))
    → list_all (λ name. is_lt (name_cmp [] name)) (map (λ e. e.0) (filter (λ e. begins prefix e.0) es)) ≡ true
behind_none prefix some [] = refl
behind_none prefix some (e ∷ es) =
    elim (begins prefix e.0) as (λ t. begins prefix e.0 ≡ t
    → list_all (λ name. is_lt (name_cmp [] name)) (map (λ e. e.0) (cond t (e ∷ filter (λ e. begins prefix e.0) es) (filter (λ e. begins prefix e.0) es))) ≡ true) [
      | true ↦ λ has. and_from _ _ (filled_with prefix e.0 some has) (behind_none prefix some es)
      | false ↦ λ not. behind_none prefix some es
    ] refl

prefix_filled : (id : List ℕ) → 0 < length (segments_prefix id)
unfolding segments_prefix
prefix_filled id = let long = length-append id (47 ∷ []) in omega (arith, long)

all_behind : (tree : SwiftAccount) (folder id : List ℕ) → AllBehind [] (segments_prefix id) (files tree folder)
all_behind tree folder id = behind_none (segments_prefix id) (prefix_filled id) (entries (files tree folder))

-- ---- the record is deleted

gone_by : (tree : SwiftAccount) (folder name : List ℕ) (o : Option SwiftObject) → gone_due (delete_object o folder name tree).reply ≡ Ok tt
gone_by tree folder name None = refl
gone_by tree folder name (Some file) = refl

module _ (container name bucket : List ℕ) (id : ℕ) (named : container ≡ uploads_name bucket) (under : name ≡ id_digits id) (is : is_bucket bucket ≡ true) where
  same_step : (tree : SwiftAccount) → swift_step (DeleteObject container name) tree ≡ swift_step (DeleteObject (uploads_name bucket) (id_digits id)) tree
  same_step tree = λ i. swift_step (DeleteObject (named i) (under i)) tree

  drop_gateway : (tree : SwiftAccount) → SameGateway tree (swift_step (DeleteObject container name) tree).tree
  drop_gateway tree = subst (SameGateway tree) (sym (ap (λ (a : Answer). a.tree) (same_step tree))) (same_delete tree (uploads_name bucket) bucket (record { of_bucket = is; is = inl refl }) (id_digits id))

  drop_effect : UploadDropped → (tree : SwiftAccount) → IsConsistent tree → IsSettled tree → HasOpen bucket id tree → Effect tree (DeleteObject container name) gone_due (Becomes (drops_upload bucket id))
  drop_effect law tree sound settled has =
      let done = law tree bucket (id_digits id) is has.opens sound (unsealed_of settled) in
      record {
        answer = tt;
        says = ap (λ (a : Answer). gone_due a.reply) (same_step tree) ∙ gone_by tree (uploads_name bucket) (id_digits id) (find_object tree (uploads_name bucket) (id_digits id));
        after = subst IsConsistent (sym (ap (λ (a : Answer). a.tree) (same_step tree))) done.sound;
        state = ap (λ (a : Answer). s3_state a.tree) (same_step tree) ∙ done.state;
      }

  -- DELETE of the file of an open record drops the upload
  pub drops : UploadDropped → IsWritingOf (DeleteObject container name) gone_due (HasOpen bucket id) (Becomes (drops_upload bucket id))
  drops law = record {
    effect = λ tree sound settled has. drop_effect law tree sound settled has;
    settled = λ tree. settled_same (drop_gateway tree);
  }

  stays_there : (tree : SwiftAccount) (other : List ℕ) → IsThere tree other → IsThere (swift_step (DeleteObject container name) tree).tree other
  stays_there tree other there = deleted_there (find_object tree container name) container name tree other ∙ there

  may_purge : UploadAbandoned → (tree : SwiftAccount) → IsConsistent tree → IsSettled tree → HasOpen bucket id tree
      → MayPurge (segments_name bucket) bucket (segments_prefix (id_digits id)) [] (swift_step (DeleteObject container name) tree).tree
  may_purge law tree sound settled has = record {
    settled = settled_same (drop_gateway tree) settled;
    there = stays_there tree (segments_name bucket) (segments_there tree bucket sound is has.there);
    may = is_abandoned id is refl refl (stays_there tree bucket has.there)
        (subst (λ (a : Answer). IsAbandoned a.tree bucket (id_digits id)) (sym (same_step tree)) (law tree bucket (id_digits id) is has.there has.opens sound (unsealed_of settled)));
    behind = all_behind (swift_step (DeleteObject container name) tree).tree (segments_name bucket) (id_digits id);
  }

  -- and leaves its segments to be deleted
  pub purgeable : {old new : History} {reply : SwiftReply} → UploadAbandoned → Calls old new (DeleteObject container name) (Ok reply) → Met (GivenOf (HasOpen bucket id)) old
      → MayPurge (segments_name bucket) bucket (segments_prefix (id_digits id)) [] (present new)
  purgeable {old = old} {new = new} law calls met =
      let same = (calls.effect met.observable).tree ∙ ap (λ tree. (swift_step (DeleteObject container name) tree).tree) (found calls met.observable) in
      subst (MayPurge (segments_name bucket) bucket (segments_prefix (id_digits id)) []) (sym same) (may_purge law (present old) met.sound met.has.settled met.has.is)

-- ---- what is left of a result

none_left : {T : Type 0} (Q : Type 0) (result : Result T PlanFault) (fault : PlanFault) → IsErrAnd result (λ e. e ≡ fault) → IfOk result (λ told. Q)
none_left Q (Ok told) fault never = absurd never
none_left Q (Err e) fault is = tt

left_any : {T : Type 0} (Q : Type 0) (result : Result T PlanFault) → Q → IfOk result (λ told. Q)
left_any Q (Ok told) is = is
left_any Q (Err fault) is = tt

module _ {T : Type 0} {most : Bound} {old new : History} {given : SwiftAccount → Type 0} {S : T → State → State → Type 0} {Q : SwiftAccount → Type 0} {result : Result T PlanFault}
    (changes : Changes most old new given S result) where
  -- nothing was answered, and nothing is left
  pub to_none : (fault : PlanFault) → IsErrAnd result (λ e. e ≡ fault) → ChangesTo most old new given S Q result
  to_none fault is = record { changes = changes; leaves = λ met. none_left (Q (present new)) result fault is }

  -- this is left
  pub to_this : (Met given old → Q (present new)) → ChangesTo most old new given S Q result
  to_this is = record { changes = changes; leaves = λ met. left_any (Q (present new)) result (is met) }
