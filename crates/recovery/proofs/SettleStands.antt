-- What the calls that settle a store leave of a completion that was sealed, over every observable store.
use Rattle.std.specs.Prelude.{◌≡◌, ◌⊎◌, ℕ, true, IsTrue, List, Option, None, Some, Result, Ok, Err, IfOk}
use Rattle.std.specs.FinMap.{get}
use Rattle.std.specs.Option.{option_and_then, option_map}
use Rattle.std.specs.Result.{IsErrAnd}
use Rattle.std.proofs.Common.{refl, sym, ap, subst, ◌∙◌, inl, inr}
use Rattle.std.proofs.lemmas.Option.{same_Some}
use Rattle.gate_base.proofs.lemmas.Maps.{at_adjust, at_insert, by_name}
use Rattle.swift_calls.specs.Account.{SwiftAccount, SwiftContainer, SwiftObject, files, files_of, find_object, with_head}
use Rattle.swift_calls.specs.Bodies.{Look, bytes_of, head_of, is_list, joined, outer_bytes, plain_bytes}
use Rattle.swift_calls.specs.History.{History, Calls, present}
use Rattle.swift_calls.specs.Step.{body_reply, get_reply, put_container, swift_step}
use Rattle.swift_calls.specs.declared.account.Content.{Content}
use Rattle.swift_calls.specs.declared.account.Content.TheVariants.{Plain, Segments}
use Rattle.swift_calls.specs.declared.account.ReadList.TheVariants.{Nobody}
use Rattle.swift_calls.specs.declared.calls.SwiftFault.{SwiftFault}
use Rattle.swift_calls.specs.declared.calls.SwiftReply.{SwiftReply}
use Rattle.swift_calls.specs.declared.calls.SwiftRequest.TheVariants.{GetObject, PutContainer}
use Rattle.swift_calls.specs.declared.heads.StoredHead.{StoredHead}
use Rattle.upload_texts.specs.Sealed.{read_sealed}
use Rattle.upload_texts.specs.declared.sealed.Sealed.{Sealed}
use Rattle.upload_records.specs.Layout.{gateway_name, sealed_name}
use Rattle.upload_records.specs.Native.{seal_by, seal_of}
use Rattle.upload_records.proofs.lemmas.Settled.{seal_holds}
use Rattle.account_calls.specs.Calls.{Asks, Bound}
use Rattle.account_calls.specs.Interpret.{Gives, known}
use Rattle.account_calls.specs.Puts.{Ensures}
use Rattle.account_calls.specs.declared.fault.PlanFault.{PlanFault}
use Rattle.account_calls.specs.declared.fault.PlanFault.TheVariants as fault
use Rattle.account_calls.proofs.lemmas.One.{found, stays_so}
use Rattle.account_calls.specs.Sealed.{sealed_by, sealed_due}
use Rattle.recovery.specs.Rolls.{FinishesSealed, HoldsOrFinished, HoldsSealed, IsFinished, IsFinishedSince, SaysSealed}

-- ---- the PUT of the gateway's own container

made_files : (tree : SwiftAccount) (o : Option SwiftContainer) → get tree gateway_name ≡ o → files (put_container o gateway_name Nobody None tree).tree gateway_name ≡ files tree gateway_name
made_files tree None e = ap files_of (at_insert by_name tree gateway_name _) ∙ sym (ap files_of e)
made_files tree (Some folder) e = ap files_of (at_adjust by_name gateway_name (with_head Nobody None) tree ∙ ap (option_map (with_head Nobody None)) e) ∙ sym (ap files_of e)

-- it leaves what stands there
pub gateway_holds : {a b : History} {name : List ℕ} {result : Result SwiftReply SwiftFault} → name ≡ gateway_name → Calls a b (PutContainer name Nobody None) result → HoldsSealed a b
gateway_holds {a = a} {b = b} {result = result} named calls = λ observable.
    stays_so {P = λ tree. files tree gateway_name ≡ files (present a) gateway_name} (λ tree has. made_files tree (get tree gateway_name) refl ∙ has)
    (subst (λ n. Calls a b (PutContainer n Nobody None) result) named calls) observable refl

-- ---- the GET of what is sealed

-- it leaves the account
pub get_holds : {a b : History} {folder name : List ℕ} {range : Option (ℕ × ℕ)} {result : Result SwiftReply SwiftFault} → Calls a b (GetObject folder name range) result → HoldsSealed a b
get_holds {a = a} calls = λ observable. stays_so {P = λ tree. files tree gateway_name ≡ files (present a) gateway_name} (λ tree has. has) calls observable refl

read_known : (o told : Option Sealed) → known o ≡ Ok told → told ≡ o
read_known None told e = cc
read_known (Some s) told e = cc

-- what its answer says of a file: its own bytes are read, and of one that lists segments nothing
says_content : (look : Look) (head : StoredHead) (content : Content) (told : Option Sealed) → head.manifest ≡ is_list content → sealed_due (body_reply head None (bytes_of look content)) ≡ Ok told
    → told ≡ option_and_then read_sealed (plain_bytes content)
says_content look head (Plain bytes) told own e = read_known (read_sealed bytes) told (sym (ap (λ m. sealed_by m bytes) own) ∙ e)
says_content look head (Segments segments) told own e = by (joined (outer_bytes look) segments) e
  where
    by : (o : Option (List ℕ)) → sealed_due (body_reply head None o) ≡ Ok told → told ≡ None
    by None e = cc
    by (Some bytes) e = absurd (let no : sealed_by true bytes ≡ Ok told = sym (ap (λ m. sealed_by m bytes) own) ∙ e in cc)

says_file : (look : Look) (o : Option SwiftObject) (told : Option Sealed) → sealed_due (get_reply look None o) ≡ Ok told → told ≡ seal_by o
says_file look None told e = cc
says_file look (Some file) told e = says_content look (head_of file) file.content told refl e

says_sealed : (tree : SwiftAccount) (told : Option Sealed) → sealed_due (swift_step (GetObject gateway_name sealed_name None) tree).reply ≡ Ok told → told ≡ seal_of tree
unfolding seal_of
says_sealed tree told e = says_file (find_object tree) (find_object tree gateway_name sealed_name) told e

says_so : {a b : History} {reply : SwiftReply} (result : Result (Option Sealed) PlanFault) → Calls a b (GetObject gateway_name sealed_name None) (Ok reply) → Gives result (sealed_due reply) → SaysSealed a result
says_so {a = a} {b = b} {reply = reply} result calls gives = λ observable. by result gives observable
  where
    by : (result : Result (Option Sealed) PlanFault) → Gives result (sealed_due reply) → IsTrue a.observable → IfOk result (λ told. told ≡ seal_of (present a))
    by (Err f) gives observable = tt
    by (Ok told) (inl e) observable = absurd (let no : Ok told ≡ Err fault.Memory = e in cc)
    by (Ok told) (inr e) observable =
        subst (λ tree. told ≡ seal_of tree) (found calls observable) (says_sealed (b.account_at a.called) told (ap sealed_due (sym (calls.effect observable).reply) ∙ sym e))

-- over every account it tells what is sealed
pub got_says : {a b : History} {folder name : List ℕ} {reply : SwiftReply} (result : Result (Option Sealed) PlanFault) → folder ≡ gateway_name → name ≡ sealed_name → Calls a b (GetObject folder name None) (Ok reply)
    → Gives result (sealed_due reply) → SaysSealed a result
got_says {a = a} {b = b} {reply = reply} result foldered named calls gives =
    says_so result (subst {A = List ℕ × List ℕ} (λ n. Calls a b (GetObject n.0 n.1 None) (Ok reply)) (λ i. (foldered i, named i)) calls) gives

-- ---- what was sealed is finished

-- it wasn't told
pub held_in_vain : {a b : History} (f : PlanFault) (result : Result (Unit {0}) PlanFault) → IsErrAnd result (λ e. e ≡ f) → HoldsSealed a b → FinishesSealed a b result
held_in_vain f (Ok done) is holds = absurd is
held_in_vain f (Err e) is holds = record { rolls = λ observable. inl (holds observable); done = λ observable. tt }

-- none is sealed
pub none_to_finish : {a b : History} {told : Option Sealed} → told ≡ None → SaysSealed a (Ok told) → HoldsSealed a b → FinishesSealed {T = Unit {0}} a b (Ok tt)
none_to_finish is says holds = record { rolls = λ observable. inl (holds observable); done = λ observable s e. absurd (let no : None ≡ Some s = sym is ∙ says observable ∙ e in cc) }

held_or_since : (old middle new : SwiftAccount) (s : Sealed) → seal_of old ≡ Some s → files middle gateway_name ≡ files old gateway_name → (files new gateway_name ≡ files middle gateway_name) ⊎ IsFinished s new
    → (files new gateway_name ≡ files old gateway_name) ⊎ IsFinishedSince old new
held_or_since old middle new s sealed holds (inl same) = inl (same ∙ holds)
held_or_since old middle new s sealed holds (inr finished) = inr (record { s = s; sealed = sealed; finished = finished })

finished_as : (old new : SwiftAccount) (s : Sealed) → seal_of old ≡ Some s → (result : Result (Unit {0}) PlanFault) → IfOk result (λ done. IsFinished s new)
    → IfOk result (λ done. (t : Sealed) → seal_of old ≡ Some t → IsFinished t new)
finished_as old new s sealed (Ok done) finished = λ t e. subst (λ t. IsFinished t new) (same_Some s t (sym sealed ∙ e)) finished
finished_as old new s sealed (Err f) finished = tt

-- it was told, and rolled forward
pub rolled_forward : {a b c : History} {m : Bound} {given : SwiftAccount → Type 0} {P : SwiftAccount → SwiftAccount → Option Sealed → Type 0} {told : Option Sealed} {s : Sealed} → Asks m a b given P (Ok told) → told ≡ Some s
    → SaysSealed a (Ok told) → HoldsSealed a b → (IsTrue b.observable → IsTrue c.observable) → (result : Result (Unit {0}) PlanFault) → HoldsOrFinished s b c → Ensures c (IsFinished s) result → FinishesSealed a c result
rolled_forward {a = a} {b = b} {c = c} {s = s} asks is says holds on result rolls finishes = record {
  rolls = λ observable.
      held_or_since (present a) (present b) (present c) s (sym (says observable) ∙ is) (holds observable) (rolls (asks.grows.on.observable observable));
  done = λ observable. finished_as (present a) (present c) s (sym (says observable) ∙ is) result (finishes.so (on (asks.grows.on.observable observable)));
}

since_before : (old middle new : SwiftAccount) → files middle gateway_name ≡ files old gateway_name → (files new gateway_name ≡ files middle gateway_name) ⊎ IsFinishedSince middle new
    → (files new gateway_name ≡ files old gateway_name) ⊎ IsFinishedSince old new
since_before old middle new holds (inl same) = inl (same ∙ holds)
since_before old middle new holds (inr since) = inr (record { s = since.s; sealed = sym (seal_holds old middle holds) ∙ since.sealed; finished = since.finished })

done_before : (old middle new : SwiftAccount) → files middle gateway_name ≡ files old gateway_name → (result : Result (Unit {0}) PlanFault) → IfOk result (λ done. (s : Sealed) → seal_of middle ≡ Some s → IsFinished s new)
    → IfOk result (λ done. (s : Sealed) → seal_of old ≡ Some s → IsFinished s new)
done_before old middle new holds (Ok done) finishes = λ s e. finishes s (seal_holds old middle holds ∙ e)
done_before old middle new holds (Err f) finishes = tt

-- the container was made before
pub made_then : {a b c : History} {T : Type 0} {m : Bound} {given : SwiftAccount → Type 0} {P : SwiftAccount → SwiftAccount → T → Type 0} {told : T} → Asks m a b given P (Ok told) → HoldsSealed a b
    → (result : Result (Unit {0}) PlanFault) → FinishesSealed b c result → FinishesSealed a c result
made_then {a = a} {b = b} {c = c} asks holds result finishes = record {
  rolls = λ observable. since_before (present a) (present b) (present c) (holds observable) (finishes.rolls (asks.grows.on.observable observable));
  done = λ observable. done_before (present a) (present b) (present c) (holds observable) result (finishes.done (asks.grows.on.observable observable));
}
