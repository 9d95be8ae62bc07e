-- The sweep of a container beside a bucket that is missing.
use Rattle.std.specs.Prelude.{◌≡◌, ◌≤◌, ◌||◌, ℕ, Bool, true, false, nat_eq, not, bytes_eq, List, [], length, is_some, Option, None, Some, Result, Ok, Err}
use Rattle.std.specs.Result.{IsErrAnd}
use Rattle.std.specs.Ordering.{eq_by_cmp, is_lt}
use Rattle.std.specs.FinMap.{empty, entries, get, len, len-entries}
use Rattle.std.proofs.Common.{refl, sym, ap, subst, ◌∙◌, arith}
use Rattle.std.proofs.lemmas.Map.Text.{is_eq-slice_cmp}
use Rattle.gate_base.specs.Maps.{Names, name_cmp}
use Rattle.gate_base.proofs.lemmas.Maps.{by_name, at_remove, get_empty, off_remove}
use Rattle.swift_calls.specs.Account.{SwiftAccount, SwiftContainer, files, files_of}
use Rattle.swift_calls.specs.History.{History, Calls, present}
use Rattle.swift_calls.specs.Step.{delete_by, delete_container, head_container, is_bare, swift_step}
use Rattle.swift_calls.specs.declared.calls.SwiftReply.{SwiftReply}
use Rattle.swift_calls.specs.declared.calls.SwiftRequest.TheVariants.{DeleteContainer, HeadContainer}
use Rattle.upload_records.specs.Native.{IsSettled}
use Rattle.upload_records.specs.Consistent.{IsBeside, IsConsistent}
use Rattle.upload_records.proofs.lemmas.Settled.{same_apart, settled_same}
use Rattle.upload_records.proofs.lemmas.Sides.{bucket_side, gateway_side}
use Rattle.account_calls.specs.declared.fault.PlanFault.{PlanFault}
use Rattle.account_calls.specs.Calls.{always, by_account, Any, Asks}
use Rattle.account_calls.proofs.lemmas.Faults.{err_is}
use Rattle.account_calls.proofs.lemmas.One.{IsReadingOf, found}
use Rattle.account_calls.proofs.lemmas.Quiet.{IsQuietOf, asks_untold}
use Rattle.leftovers.specs.Kept.{goes}
use Rattle.leftovers.specs.declared.kept.Kept.{Kept}
use Rattle.leftovers.specs.Leftovers.{id_in}
use Rattle.leftovers.specs.Strays.{clear_calls, removed_due, there_due, ClearsSide, IsBareStray, IsStray, LeavesNone, Removes, SaysThere, TellsThere}
use Rattle.leftovers.specs.Sweeping.{MaySweep, TellsAll, is_beside_none, passing, sweep_calls, file_calls}
use Rattle.leftovers.proofs.lemmas.Joined.{asks_then_by}
use Rattle.leftovers.proofs.NoneLeft.{none_length}
use Rattle.leftovers.proofs.PageSweep.{filter_few}
use Rattle.leftovers.proofs.lemmas.Readings.{asks_account}
use Rattle.leftovers.proofs.lemmas.Lists.{filter_alike, filter_all}
use Rattle.leftovers.proofs.SegmentsSwept.{all_behind_none}
use Rattle.leftovers.proofs.SideGone.{side_gone}

-- ---- HEAD

head_told : (o : Option SwiftContainer) (tree : SwiftAccount) → there_due (head_container o tree).reply ≡ Ok (is_some o)
head_told None tree = refl
head_told (Some folder) tree = refl

pub head_reads : {name container : List ℕ} → container ≡ name → IsReadingOf Any (HeadContainer container) there_due (TellsThere name)
head_reads {name = name} named = record {
  leaves = λ tree. head_leaves (get tree _) tree;
  tells = λ tree sound has reply replied. (
    is_some (get tree name),
    ap there_due (replied ∙ (λ i. (head_container (get tree (named i)) tree).reply)) ∙ head_told (get tree name) tree,
    refl,
  );
}
  where
    head_leaves : (o : Option SwiftContainer) (tree : SwiftAccount) → (head_container o tree).tree ≡ tree
    head_leaves None tree = refl
    head_leaves (Some folder) tree = refl

-- ---- DELETE

-- each other container stays
delete_off : (o : Option SwiftContainer) (c : List ℕ) (tree : SwiftAccount) (n : List ℕ) → eq_by_cmp name_cmp n c ≡ false → get (delete_container o c tree).tree n ≡ get tree n
delete_off None c tree n apart = refl
delete_off (Some folder) c tree n apart = by (is_bare folder)
  where
    by : (t : Bool) → get (delete_by t c tree).tree n ≡ get tree n
    by true = off_remove by_name tree c n apart
    by false = refl

container_settled : (tree : SwiftAccount) (b c : List ℕ) → IsBeside c b → IsSettled tree → IsSettled (swift_step (DeleteContainer c) tree).tree
container_settled tree b c beside settled = settled_same (same_apart tree _ c (gateway_side c b beside) (delete_off (get tree c) c tree)) settled

-- a container without files goes
bare_goes : (o : Option SwiftContainer) (c : List ℕ) (tree : SwiftAccount) → is_some o ≡ true → len (files_of o) ≡ 0 → delete_container o c tree ≡ delete_by true c tree
bare_goes None c tree there bare = cc
bare_goes (Some folder) c tree there bare = ap (λ n. delete_by (nat_eq n 0) c tree) bare

module _ (folder bucket : List ℕ) (beside : IsBeside folder bucket) where
  removes : (tree : SwiftAccount) → IsBareStray folder bucket tree → Removes folder tree (swift_step (DeleteContainer folder) tree).tree tt
  removes tree has = record {
    gone = ap (λ a. get a.tree folder) (bare_goes (get tree folder) folder tree has.stray.there has.bare) ∙ at_remove by_name tree folder;
    others = λ n apart. delete_off (get tree folder) folder tree n (is_eq-slice_cmp n folder ∙ apart);
    settled = container_settled tree bucket folder beside has.stray.settled;
  }

  removal : IsQuietOf (IsBareStray folder bucket) (DeleteContainer folder) removed_due (Removes folder)
  removal = record {
    effect = λ tree sound has.
        let quiet = side_gone tree bucket folder beside has.stray.missing sound has.stray.settled.none in
        record { told = tt; says = ap (λ a. removed_due a.reply) (bare_goes (get tree folder) folder tree has.stray.there has.bare); sound = quiet.sound; same = quiet.state; tells = removes tree has };
    settled = λ tree settled. container_settled tree bucket folder beside settled;
  }

pub removes_side : {folder container : List ℕ} → container ≡ folder → (bucket : List ℕ) → IsBeside folder bucket → IsQuietOf (IsBareStray folder bucket) (DeleteContainer container) removed_due (Removes folder)
removes_side {folder = folder} named bucket beside = subst (λ n. IsQuietOf (IsBareStray folder bucket) (DeleteContainer n) removed_due (Removes folder)) (sym named) (removal folder bucket beside)

-- ---- both

none_in : {X : Type 0} (m : Names X) (name : List ℕ) → m ≡ empty → is_some (get m name) ≡ false
none_in m name is = ap (λ t. is_some (get t name)) is ∙ ap is_some (get_empty by_name name)

pub all_go : (kept : Kept) → kept.listed ≡ empty → kept.opened ≡ empty → (name : List ℕ) → goes kept name ≡ true
all_go kept listed opened name =
    ap (λ t. not (t || is_some (get kept.opened (id_in name)))) (none_in kept.listed name listed) ∙ ap not (none_in kept.opened (id_in name) opened)

module _ (folder bucket : List ℕ) (beside : IsBeside folder bucket) (kept : Kept) (all : (name : List ℕ) → goes kept name ≡ true) where
  apart_side : (n : List ℕ) → eq_by_cmp name_cmp n folder ≡ false → bytes_eq n folder ≡ false
  apart_side n apart = sym (is_eq-slice_cmp n folder) ∙ apart

  may : (tree : SwiftAccount) → IsConsistent tree → IsStray folder bucket tree → MaySweep folder bucket (goes kept) [] tree
  may tree sound has = record {
    settled = has.settled;
    there = has.there;
    may = is_beside_none has.beside has.missing;
    behind = all_behind_none tree folder (goes kept) sound;
  }

  passing_all : (tree : SwiftAccount) → length (passing (goes kept) (files tree folder)) ≡ length (entries (files tree folder))
  passing_all tree = ap length (filter_alike (λ e. goes kept e.0) (λ e. true) (λ e. all e.0) (entries (files tree folder)) ∙ filter_all (entries (files tree folder)))

  bared : (old new : SwiftAccount) (count : ℕ) → IsStray folder bucket old → TellsAll folder (goes kept) old new count → IsBareStray folder bucket new
  bared old new count has told = record {
    stray = record {
      settled = settled_same (same_apart old new folder (gateway_side folder bucket beside) (λ n apart. told.touches.others n (apart_side n apart))) has.settled;
      there = told.touches.stays ∙ has.there;
      beside = beside;
      missing = told.touches.others bucket (apart_side bucket (bucket_side folder bucket beside bucket beside.of_bucket)) ∙ has.missing;
    };
    bare = len-entries (files new folder) ∙ (sym (passing_all new) ∙ none_length (goes kept) (files new folder) told.none);
  }

  cleared : (old new last : SwiftAccount) (count : ℕ) → TellsAll folder (goes kept) old new count → Removes folder new last tt → ClearsSide folder old last count
  cleared old new last count told gone = record {
    counted = told.counted ∙ passing_all old;
    removes = record { gone = gone.gone; others = λ n apart. gone.others n apart ∙ told.touches.others n apart; settled = gone.settled };
  }

  few : (tree : SwiftAccount) → sweep_calls tree folder (goes kept) [] ≤ file_calls tree folder
  few tree =
      let rows = filter_few (λ e. is_lt (name_cmp [] e.0)) (entries (files tree folder)) in
      let going = filter_few (λ e. goes kept e.0) (entries (files tree folder)) in
      omega (arith, rows, going, len-entries (files tree folder))

  by_then : {a b c : History} {count : ℕ} {result : Result (Unit {0}) PlanFault}
      → Asks (by_account (sweep_calls (present a) folder (goes kept) [])) a b (MaySweep folder bucket (goes kept) []) (TellsAll folder (goes kept)) (Ok count)
      → Asks (always 1) b c (IsBareStray folder bucket) (Removes folder) result
      → Asks (by_account (clear_calls (present a) folder)) a c (IsStray folder bucket) (λ old new done. ClearsSide folder old new count) result
  by_then {a = a} {b = b} {c = c} {count = count} first then =
      asks_then_by {m = 1} (under first) (asks_account (λ met. omega arith) then)
      (λ old new sound alike has told. bared old new count has told)
      (λ old new last y sound has told gone. cleared old new last count told gone)
      (λ met told. let near = few (present a) in omega (arith, near))
    where
      under : Asks (by_account (sweep_calls (present a) folder (goes kept) [])) a b (MaySweep folder bucket (goes kept) []) (TellsAll folder (goes kept)) (Ok count)
          → Asks (by_account (sweep_calls (present a) folder (goes kept) [])) a b (IsStray folder bucket) (TellsAll folder (goes kept)) (Ok count)
      under asks = record {
        grows = record { on = asks.grows.on; calls = λ met. asks.grows.calls (record { observable = met.observable; sound = met.sound; has = may _ met.sound met.has }) };
        cause = asks.cause;
        effect = λ met. asks.effect (record { observable = met.observable; sound = met.sound; has = may _ met.sound met.has });
        settled = asks.settled;
      }

  -- the container went
  pub stray_swept : {a b c : History} (count : ℕ)
      → Asks (by_account (sweep_calls (present a) folder (goes kept) [])) a b (MaySweep folder bucket (goes kept) []) (TellsAll folder (goes kept)) (Ok count)
      → Asks (always 1) b c (IsBareStray folder bucket) (Removes folder) (Ok tt)
      → Asks (by_account (clear_calls (present a) folder)) a c (IsStray folder bucket) (ClearsSide folder) (Ok count)
  stray_swept count first then = let asks = by_then first then in record { grows = asks.grows; cause = asks.cause; effect = asks.effect; settled = asks.settled }

  -- it didn't
  pub stray_left : {a b c : History} {count : ℕ} {f : PlanFault}
      → Asks (by_account (sweep_calls (present a) folder (goes kept) [])) a b (MaySweep folder bucket (goes kept) []) (TellsAll folder (goes kept)) (Ok count)
      → Asks (always 1) b c (IsBareStray folder bucket) (Removes folder) (Err f)
      → (result : Result ℕ PlanFault) → IsErrAnd result (λ e. e ≡ f) → Asks (by_account (clear_calls (present a) folder)) a c (IsStray folder bucket) (ClearsSide folder) result
  stray_left {a = a} {c = c} {f = f} first then result gives =
      subst (Asks (by_account (clear_calls (present a) folder)) a c (IsStray folder bucket) (ClearsSide folder)) (sym (err_is result f gives)) (asks_untold f (by_then first then))

  -- its files didn't all
  pub stray_kept : {a b : History} {f : PlanFault}
      → Asks (by_account (sweep_calls (present a) folder (goes kept) [])) a b (MaySweep folder bucket (goes kept) []) (TellsAll folder (goes kept)) (Err f)
      → (result : Result ℕ PlanFault) → IsErrAnd result (λ e. e ≡ f) → Asks (by_account (clear_calls (present a) folder)) a b (IsStray folder bucket) (ClearsSide folder) result
  stray_kept {a = a} {b = b} {f = f} asks result gives =
      let untold : Asks (by_account (sweep_calls (present a) folder (goes kept) [])) a b (MaySweep folder bucket (goes kept) []) (ClearsSide folder) (Err f) = asks_untold f asks in
      subst (Asks (by_account (clear_calls (present a) folder)) a b (IsStray folder bucket) (ClearsSide folder)) (sym (err_is result f gives)) (record {
        grows = record {
          on = asks.grows.on;
          calls = λ met. let near = asks.grows.calls (record { observable = met.observable; sound = met.sound; has = may _ met.sound met.has }) in let order = few (present a) in omega (arith, near, order);
        };
        cause = untold.cause;
        effect = λ met. untold.effect (record { observable = met.observable; sound = met.sound; has = may _ met.sound met.has });
        settled = untold.settled;
      })

-- ---- over every observable store

-- what HEAD tells is whether the container stands there
pub says_there : {a b : History} {name container : List ℕ} {reply : SwiftReply} → container ≡ name → Calls a b (HeadContainer container) (Ok reply)
    → (result : Result Bool PlanFault) → result ≡ there_due reply → SaysThere name a result
says_there named calls (Err f) is = λ observable. tt
says_there {a = a} {b = b} {container = container} named calls (Ok told) is = λ observable.
    let same : Ok told ≡ Ok (is_some (get (b.account_at a.called) container)) = is ∙ ap there_due (calls.effect observable).reply ∙ head_told (get (b.account_at a.called) container) (b.account_at a.called) in
    let so : told ≡ is_some (get (b.account_at a.called) container) = cc in
    so ∙ (λ i. is_some (get (found calls observable i) (named i)))

gone_by : (o : Option SwiftContainer) (name : List ℕ) (tree : SwiftAccount) → removed_due (delete_container o name tree).reply ≡ Ok tt → get (delete_container o name tree).tree name ≡ None
gone_by None name tree says = cc
gone_by (Some folder) name tree says = by (is_bare folder) says
  where
    by : (bare : Bool) → removed_due (delete_by bare name tree).reply ≡ Ok tt → get (delete_by bare name tree).tree name ≡ None
    by true says = at_remove by_name tree name
    by false says = cc

-- a container is gone whose DELETE told so
pub gone_after : {a b : History} {folder container : List ℕ} {reply : SwiftReply} → container ≡ folder → Calls a b (DeleteContainer container) (Ok reply)
    → (result : Result (Unit {0}) PlanFault) → result ≡ removed_due reply → LeavesNone folder b result
gone_after named calls (Err f) is = record { so = λ observable. tt }
gone_after {a = a} {b = b} {container = container} named calls (Ok done) is = record {
  so = λ observable.
      let replied = calls.effect (calls.told observable) in
      let there = gone_by (get (b.account_at a.called) container) container (b.account_at a.called) (sym (is ∙ ap removed_due replied.reply)) in
      (λ i. get (replied.tree i) (sym named i)) ∙ there;
}
