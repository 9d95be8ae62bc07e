-- What was gathered is what is used.
use Rattle.std.specs.Prelude.{◌≡◌, ◌&&◌, ◌||◌, ℕ, Bool, true, false, not, cond, bytes_eq, List, [], ◌∷◌, map, Option, None, Some, Result, Ok, Err, ◌-◌}
use Rattle.std.specs.Result.{IsErrAnd}
use Rattle.std.specs.List.{AllByRecursion, list_any}
use Rattle.std.specs.Option.{option_and_then}
use Rattle.std.specs.FinMap.{entries, find, get, get-entries, keys}
use Rattle.std.proofs.Common.{refl, sym, ap, subst, ◌∙◌, inl, inr, arith}
use Rattle.std.proofs.lemmas.Map.Text.{is_eq-slice_cmp}
use Rattle.gate_base.specs.Maps.{Names, name_cmp}
use Rattle.gate_base.proofs.lemmas.Maps.{by_name, key_itself, same_key}
use Rattle.swift_calls.specs.Account.{SwiftObject, SwiftAccount, files}
use Rattle.upload_records.specs.Layout.{uploads_name, segments_name}
use Rattle.upload_records.specs.Native.{IsSettled, record_of, record_at, seal_of}
use Rattle.upload_records.proofs.lemmas.Settled.{seal_none}
use Rattle.account_calls.proofs.lemmas.Markers.{IsEntry, entries_are}
use Rattle.leftovers.specs.declared.gathering.Source.TheVariants.{Records, Objects}
use Rattle.leftovers.specs.declared.kept.Kept.{Kept}
use Rattle.leftovers.specs.Gathering.{InBucket, TellsAll, adds, any_adds, gather_calls}
use Rattle.leftovers.specs.Leftovers.{id_in, is_listed_in, is_open, is_sealed_in, lists_segment, names_segment, segments_in}
use Rattle.swift_calls.specs.History.{History, present}
use Rattle.account_calls.specs.Calls.{by_account, Asks}
use Rattle.account_calls.specs.Listing.{TellsOf}
use Rattle.account_calls.specs.declared.fault.PlanFault.{PlanFault}
use Rattle.account_calls.proofs.lemmas.Ask.{asks_fault, asks_told}
use Rattle.leftovers.specs.Segments.{HasSettled, kept_calls, TellsKept}
use Rattle.leftovers.proofs.lemmas.Joined.{asks_counted, asks_then_by}
use Rattle.leftovers.proofs.lemmas.Readings.{asks_account}
use Rattle.leftovers.proofs.lemmas.Consistency.{none_found}

-- ---- the names that objects list

module _ (tree : SwiftAccount) (bucket text : List ℕ) where
  abbrev O : Names SwiftObject
  O = files tree bucket

  abbrev S : Names SwiftObject
  S = files tree (segments_name bucket)

  listed_rows : (es : List (List ℕ × SwiftObject)) → AllByRecursion (IsEntry O) es → any_adds Objects tree bucket text (map (λ e. e.0) es) ≡ list_any (λ e. lists_segment S text e.1) es
  listed_rows [] h = refl
  listed_rows (e ∷ es) h =
      let one : adds Objects tree bucket text e.0 ≡ lists_segment S text e.1 = ap (λ o. list_any (names_segment S text) (segments_in o)) h.0 in
      let rest = listed_rows es h.1 in
      λ i. one i || rest i

  pub listed_are : any_adds Objects tree bucket text (keys O) ≡ is_listed_in O S text
  listed_are = listed_rows (entries O) (entries_are O)

-- ---- the ids of open uploads

and_false : (t : Bool) → (t && false) ≡ false
and_false true = refl
and_false false = refl

or_true : (t : Bool) → (t || true) ≡ true
or_true true = refl
or_true false = refl

module _ (R : Names SwiftObject) (id : List ℕ) where
  abbrev opened : List ℕ → Bool
  opened name = bytes_eq name id && is_open (record_at R name)

  none_one : (name : List ℕ) → is_open (record_at R id) ≡ false → opened name ≡ false
  none_one name closed = elim (same_key by_name name id) [
    | inl e ↦ ap (λ n. bytes_eq name id && is_open (record_at R n)) e ∙ ap (λ b. bytes_eq name id && b) closed ∙ and_false (bytes_eq name id)
    | inr a ↦ ap (λ b. b && is_open (record_at R name)) (sym (is_eq-slice_cmp name id) ∙ a)
  ]

  none_open : (names : List (List ℕ)) → is_open (record_at R id) ≡ false → list_any opened names ≡ false
  none_open [] closed = refl
  none_open (name ∷ names) closed = (λ i. none_one name closed i || none_open names closed i)

  this_one : (name : List ℕ) → id ≡ name → is_open (record_at R id) ≡ true → opened name ≡ true
  this_one name e opens =
      (λ i. bytes_eq (sym e i) id && is_open (record_at R (sym e i))) ∙ ap (λ b. b && is_open (record_at R id)) (sym (is_eq-slice_cmp id id) ∙ key_itself by_name id) ∙ opens

  some_open : (es : List (List ℕ × SwiftObject)) (x : SwiftObject) → find name_cmp id es ≡ Some x → is_open (record_at R id) ≡ true → list_any opened (map (λ e. e.0) es) ≡ true
  some_open [] x found opens = absurd (none_found x found)
  some_open (e ∷ es) x found opens = elim (same_key by_name id e.0) [
    | inl same ↦ ap (λ b. b || list_any opened (map (λ e. e.0) es)) (this_one e.0 same opens)
    | inr a ↦ ap (λ b. opened e.0 || b) (some_open es x (sym (ap (λ t. cond t (Some e.1) (find name_cmp id es)) a) ∙ found) opens) ∙ or_true (opened e.0)
  ]

  by_file : (o : Option SwiftObject) → get R id ≡ o → (t : Bool) → is_open (record_at R id) ≡ t → list_any opened (keys R) ≡ t
  by_file o e false closed = none_open (keys R) closed
  by_file (Some x) e true opens = some_open (entries R) x (sym (get-entries R id) ∙ e) opens
  by_file None e true opens = absurd (let no : true ≡ false = sym opens ∙ ap (λ v. is_open (option_and_then record_of v)) e in cc)

  pub opened_are : list_any opened (keys R) ≡ is_open (record_at R id)
  opened_are = by_file (get R id) refl (is_open (record_at R id)) refl

-- ---- both

not_sealed : (tree : SwiftAccount) (bucket name : List ℕ) → IsSettled tree → is_sealed_in (seal_of tree) bucket name ≡ false
not_sealed tree bucket name settled = ap (λ s. is_sealed_in s bucket name) (seal_none tree settled.none)

or_end : (t : Bool) → (t || false) ≡ t
or_end true = refl
or_end false = refl

pub kept_is : (tree : SwiftAccount) (bucket : List ℕ) (kept : Kept) → IsSettled tree → TellsAll Records (uploads_name bucket) bucket tree kept.opened → TellsAll Objects bucket bucket tree kept.listed → TellsKept bucket tree kept
kept_is tree bucket kept settled opened listed name =
    ap not ((λ i. (listed name ∙ listed_are tree bucket name) i || (opened (id_in name) ∙ opened_are (files tree (uploads_name bucket)) (id_in name)) i)
    ∙ ap (λ b. is_listed_in (files tree bucket) (files tree (segments_name bucket)) name || b)
    (sym (ap (λ b. is_open (record_at (files tree (uploads_name bucket)) (id_in name)) || b) (not_sealed tree bucket name settled) ∙ or_end (is_open (record_at (files tree (uploads_name bucket)) (id_in name))))))

-- one stretch of readings after the other
pub kept_told : {a b c : History} {bucket uploads folder : List ℕ} {opened listed : Names Bool} → uploads ≡ uploads_name bucket → folder ≡ bucket
    → Asks (by_account (gather_calls (present a) uploads)) a b (InBucket bucket) (TellsOf (TellsAll Records uploads bucket)) (Ok opened)
    → Asks (by_account (gather_calls (present b) folder)) b c (InBucket bucket) (TellsOf (TellsAll Objects folder bucket)) (Ok listed)
    → Asks (by_account (kept_calls (present a) bucket)) a c (HasSettled bucket) (TellsOf (TellsKept bucket)) (Ok (record { listed = listed; opened = opened }))
kept_told {a = a} {b = b} {c = c} {bucket = bucket} {uploads = uploads} {folder = folder} {opened = opened} {listed = listed} named same first then =
    let one = asks_told {given' = HasSettled bucket} {Q = TellsAll Records uploads bucket} (λ tree has. has.there) opened (λ tree sound has told. told) first in
    let two = asks_told {given' = InBucket bucket} {Q = λ tree y. TellsAll Objects folder bucket tree listed × (y ≡ record { listed = listed; opened = opened })} (λ tree has. has) (record { listed = listed; opened = opened }) (λ tree sound has told. (told, refl)) then in
    asks_then_by one two
    (λ old new sound alike has told. subst (InBucket bucket) (sym told.same) has.there)
    (λ old new last y sound has told next. record {
      of_account = subst (TellsKept bucket old) (sym next.of_account.1) (kept_is old bucket (record { listed = listed; opened = opened }) has.settled
          (subst (λ u. TellsAll Records u bucket old opened) named told.of_account)
          (subst (λ f. TellsAll Objects f bucket old listed) same (subst (λ tree. TellsAll Objects folder bucket tree listed) told.same next.of_account.0)));
      same = next.same ∙ told.same;
    })
    (λ met told. omega (arith, ap (gather_calls (present a)) named, ap (λ f. gather_calls (present b) f) same, ap (λ tree. gather_calls tree bucket) told.same))

-- the first weren't had
pub kept_unopened : {T : Type 0} {Q : SwiftAccount → T → Type 0} {a b : History} {bucket uploads : List ℕ} {f : PlanFault} → uploads ≡ uploads_name bucket → Asks (by_account (gather_calls (present a) uploads)) a b (InBucket bucket) (TellsOf Q) (Err f)
    → (result : Result Kept PlanFault) → IsErrAnd result (λ e. e ≡ f) → Asks (by_account (kept_calls (present a) bucket)) a b (HasSettled bucket) (TellsOf (TellsKept bucket)) result
kept_unopened {a = a} {b = b} named asks result gives =
    asks_account {n = b.called - a.called} (λ met.
    let near = asks.grows.calls (record { observable = met.observable; sound = met.sound; has = met.has.there }) in
    let order = asks.grows.on.ordered in
    omega (arith, near, order, ap (gather_calls (present a)) named))
    (asks_fault (λ tree has. has.there) (asks_counted asks) result gives)

-- the others weren't
pub kept_unlisted : {T : Type 0} {Q : SwiftAccount → T → Type 0} {a b c : History} {bucket uploads folder : List ℕ} {opened : Names Bool} {f : PlanFault} → uploads ≡ uploads_name bucket → folder ≡ bucket
    → Asks (by_account (gather_calls (present a) uploads)) a b (InBucket bucket) (TellsOf (TellsAll Records uploads bucket)) (Ok opened)
    → Asks (by_account (gather_calls (present b) folder)) b c (InBucket bucket) (TellsOf Q) (Err f)
    → (result : Result Kept PlanFault) → IsErrAnd result (λ e. e ≡ f) → Asks (by_account (kept_calls (present a) bucket)) a c (HasSettled bucket) (TellsOf (TellsKept bucket)) result
kept_unlisted {a = a} {b = b} {bucket = bucket} {uploads = uploads} {opened = opened} named same first then result gives =
    let one = asks_told {given' = HasSettled bucket} {Q = TellsAll Records uploads bucket} (λ tree has. has.there) opened (λ tree sound has told. told) first in
    asks_then_by one (asks_fault {given' = InBucket bucket} {Q = λ tree y. ⊥} (λ tree has. has) then result gives)
    (λ old new sound alike has told. subst (InBucket bucket) (sym told.same) has.there)
    (λ old new last y sound has told never. absurd never.of_account)
    (λ met told. omega (arith, ap (gather_calls (present a)) named, ap (λ f. gather_calls (present b) f) same, ap (λ tree. gather_calls tree bucket) told.same))
