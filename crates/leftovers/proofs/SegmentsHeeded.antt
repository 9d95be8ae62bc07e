-- What a sweep of segments heeds, over every observable store.
use Rattle.std.specs.Prelude.{◌≡◌, ℕ, Bool, IsTrue, List, [], Ok}
use Rattle.std.proofs.Common.{subst, inl, inr}
use Rattle.gate_base.specs.Maps.{Names}
use Rattle.swift_calls.specs.Account.{files}
use Rattle.swift_calls.specs.History.{History, present}
use Rattle.upload_records.specs.Layout.{segments_name, uploads_name}
use Rattle.account_calls.specs.Calls.{GoesOn}
use Rattle.account_calls.specs.declared.fault.PlanFault.{PlanFault}
use Rattle.account_calls.specs.FilePages.{items_after}
use Rattle.account_calls.specs.Told.{LeavesThroughout}
use Rattle.account_calls.proofs.lemmas.Left.{throughout_end}
use Rattle.leftovers.specs.Asking.{ClearsAll}
use Rattle.leftovers.specs.Kept.{goes}
use Rattle.leftovers.specs.Lists.{AreItemsHeld, HoldsAll}
use Rattle.leftovers.specs.Segments.{HeedsThen, HoldsKept}
use Rattle.leftovers.specs.Sweeping.{Spares, SparesThen}
use Rattle.leftovers.specs.declared.gathering.Source.TheVariants.{Objects, Records}
use Rattle.leftovers.specs.declared.kept.Kept.{Kept}
use Rattle.leftovers.proofs.Held.{said_there}

-- both were gathered whole
pub kept_holds : {a b : History} (bucket : List ℕ) {uploads : List ℕ} (opened listed : Names Bool) → uploads ≡ uploads_name bucket → GoesOn a b → LeavesThroughout a b
    → HoldsAll {E = PlanFault} Records uploads bucket a (Ok opened) → HoldsAll {E = PlanFault} Objects bucket bucket b (Ok listed) → HoldsKept {E = PlanFault} bucket a (Ok (record { listed = listed; opened = opened }))
kept_holds {a = a} bucket opened listed named on leaves first then observable = (
  said_there (λ tree. AreItemsHeld Objects bucket bucket tree listed (items_after [] [] (files tree bucket))) on leaves observable then,
  subst (λ u. AreItemsHeld Records u bucket (present a) opened (items_after [] [] (files (present a) u))) named (first observable),
)

-- nothing was written
pub heeds_none : (bucket : List ℕ) {a b : History} → GoesOn a b → LeavesThroughout a b → HeedsThen bucket a b
heeds_none bucket on leaves observable = inl (throughout_end on leaves observable)

-- what goes was asked for
pub heeds_swept : {a b c : History} {bucket folder : List ℕ} (kept : Kept) → folder ≡ segments_name bucket → GoesOn a b → LeavesThroughout a b → HoldsKept {E = PlanFault} bucket a (Ok kept)
    → (IsTrue a.observable → ClearsAll folder bucket (goes kept) (present a)) → SparesThen folder (goes kept) b c → HeedsThen bucket a c
heeds_swept {a = a} {b = b} {c = c} {bucket = bucket} kept named on leaves holds clear spares observable =
    let held = holds observable in
    inr (record {
      kept = kept;
      objects = held.0;
      records = held.1;
      clear = subst (λ f. ClearsAll f bucket (goes kept) (present a)) named (clear observable);
      spares = subst (λ tree. Spares (segments_name bucket) (goes kept) tree (present c)) (throughout_end on leaves observable)
          (subst (λ f. Spares f (goes kept) (present b) (present c)) named (spares.so (on.observable observable)));
    })
