-- The buckets among containers, HEAD by HEAD.
use Rattle.std.proofs.Common.{◌≡◌, ℕ, ◌+◌, ◌<◌, ◌≤◌, IsTrue, Bool, true, false, cond, T, ◌&&◌, List, [], ◌∷◌, ◌++◌, length, map, take, drop, get_or, Option, Some, None, is_some, Result, Ok, Err, refl, sym, ap, subst, ◌∙◌, arith}
use Rattle.std.specs.Result.{IsErrAnd}
use Rattle.std.specs.Ordering.{is_lt}
use Rattle.std.specs.List.{filter, filter_map, cons_option, AllByRecursion}
use Rattle.std.specs.Option.{option_map}
use Rattle.std.specs.FinMap.{entries, entries_sorted, from_entries, get, get-entries, get-from_entries, keys, len, len-entries, is_sorted}
use Rattle.std.specs.FinMap.Entries.{below_all, same_entries}
use Rattle.std.proofs.lemmas.List.{append-nil, length-map, length-append, take-append-drop, take_all, take_more}
use Rattle.std.proofs.lemmas.List.Elements.{filter-append}
use Rattle.gate_base.specs.Maps.{Names, name_cmp, pick_entry, picked}
use Rattle.gate_base.proofs.lemmas.Maps.{name_total, name_antisymmetric}
use Rattle.s3_names.specs.Bucket.{is_bucket}
use Rattle.s3_machine.specs.declared.items.BucketItem.{BucketItem}
use Rattle.s3_machine.specs.Step.{bucket_item, bucket_items}
use Rattle.swift_calls.specs.Account.{SwiftContainer, SwiftAccount, files}
use Rattle.swift_calls.specs.History.{History, present}
use Rattle.upload_records.specs.Layout.{uploads_name, segments_name}
use Rattle.upload_records.specs.Native.{IsSettled, s3_state, plain, bucket_of, bucket_from}
use Rattle.upload_records.proofs.lemmas.Settled.{unsealed_of, s3_state_unsealed}
use Rattle.account_calls.specs.declared.fault.PlanFault.{PlanFault}
use Rattle.account_calls.specs.Listing.{TellsOf, TellsAdded, TellsItems, Has, HasNames, heads, item_at, made_by}
use Rattle.account_calls.specs.Calls.{always, GoesOn, Met, Asks}
use Rattle.account_calls.proofs.lemmas.Faults.{err_is}
use Rattle.account_calls.proofs.lemmas.Idle.{none_made, goes_none, goes_trans, grows_none}
use Rattle.account_calls.proofs.lemmas.Ascending.{front, back}
use Rattle.account_calls.proofs.lemmas.Markers.{IsEntry, IsKey, entries_are, keys_are}
use Rattle.account_calls.proofs.lemmas.Pages.{at_index}
use Rattle.account_calls.specs.Told.{Idles}
use Rattle.account_calls.proofs.lemmas.Walk.{idles_none, idles_trans, cause_after, keeps_after}

-- ---- the buckets of the state are those of the containers

join : (a b : Bool) → T a → T b → T (a && b)
join true b p q = q
join false b p q = absurd p

-- what is picked of entries that ascend ascends
module _ {X Y : Type 0} (f : List ℕ → X → Option Y) where
  below_picked : (x : List ℕ) (es : List (List ℕ × X)) → T (below_all name_cmp x es) → T (below_all name_cmp x (filter_map (pick_entry f) es))
  below_picked x [] p = tt
  below_picked x (e ∷ es) p =
      elim (f e.0 e.1) as (λ o. T (below_all name_cmp x (cons_option (option_map (λ y. (e.0, y)) o) (filter_map (pick_entry f) es)))) [
        | None ↦ below_picked x es (back (is_lt (name_cmp x e.0)) (below_all name_cmp x es) p)
        | Some y ↦ join (is_lt (name_cmp x e.0)) (below_all name_cmp x (filter_map (pick_entry f) es)) (front (is_lt (name_cmp x e.0)) (below_all name_cmp x es) p)
            (below_picked x es (back (is_lt (name_cmp x e.0)) (below_all name_cmp x es) p))
      ]

  sorted_picked : (es : List (List ℕ × X)) → T (is_sorted name_cmp es) → T (is_sorted name_cmp (filter_map (pick_entry f) es))
  sorted_picked [] p = tt
  sorted_picked (e ∷ es) p =
      elim (f e.0 e.1) as (λ o. T (is_sorted name_cmp (cons_option (option_map (λ y. (e.0, y)) o) (filter_map (pick_entry f) es)))) [
        | None ↦ sorted_picked es (back (below_all name_cmp e.0 es) (is_sorted name_cmp es) p)
        | Some y ↦ join (below_all name_cmp e.0 (filter_map (pick_entry f) es)) (is_sorted name_cmp (filter_map (pick_entry f) es))
            (below_picked e.0 es (front (below_all name_cmp e.0 es) (is_sorted name_cmp es) p)) (sorted_picked es (back (below_all name_cmp e.0 es) (is_sorted name_cmp es) p))
      ]

  entries_picked : (m : Names X) → entries (picked f m) ≡ filter_map (pick_entry f) (entries m)
  unfolding picked
  entries_picked m = same_entries name_cmp name_total name_antisymmetric (entries (from_entries (filter_map (pick_entry f) (entries m)))) (filter_map (pick_entry f) (entries m))
      (entries_sorted (from_entries (filter_map (pick_entry f) (entries m)))) (sorted_picked (entries m) (entries_sorted m))
      (λ q. sym (get-entries (from_entries (filter_map (pick_entry f) (entries m))) q) ∙ get-from_entries name_total (filter_map (pick_entry f) (entries m)) q)

items_by : (tree : SwiftAccount) (es : List (List ℕ × SwiftContainer)) → AllByRecursion (IsEntry tree) es
    → map bucket_item (filter_map (pick_entry (bucket_of tree)) es) ≡ map (item_at tree) (filter is_bucket (map (λ e. e.0) es))
items_by tree [] h = refl
items_by tree (e ∷ es) h =
    elim (is_bucket e.0) as (λ t. map bucket_item (cons_option (option_map (λ b. (e.0, b)) (cond t (Some (bucket_from (files tree (uploads_name e.0)) (files tree (segments_name e.0)) e.1)) None)) (filter_map (pick_entry (bucket_of tree)) es))
    ≡ map (item_at tree) (cond t (e.0 ∷ filter is_bucket (map (λ e. e.0) es)) (filter is_bucket (map (λ e. e.0) es)))) [
      | true ↦ (λ i. record { name = e.0; created = made_by (sym h.0 i) } ∷ items_by tree es h.1 i)
      | false ↦ items_by tree es h.1
    ]

pub bucket_items_are : (tree : SwiftAccount) → IsSettled tree → bucket_items (s3_state tree) ≡ map (item_at tree) (filter is_bucket (keys tree))
unfolding plain
bucket_items_are tree settled =
    ap bucket_items (s3_state_unsealed tree (unsealed_of settled)) ∙ ap (map bucket_item) (entries_picked (bucket_of tree) tree) ∙ items_by tree (entries tree) (entries_are tree)

pub len_is : (tree : SwiftAccount) → IsSettled tree → len (s3_state tree) ≡ length (filter is_bucket (keys tree))
len_is tree settled =
    len-entries (s3_state tree) ∙ sym (length-map (entries (s3_state tree)) bucket_item) ∙ ap length (bucket_items_are tree settled)
    ∙ length-map (filter is_bucket (keys tree)) (item_at tree)

-- ---- HEAD by HEAD

-- the names of which the first are done
module _ (names : List (List ℕ)) where
  abbrev pub done_of : ℕ → List (List ℕ)
  done_of i = filter is_bucket (take i names)

  one_more : (i : ℕ) (name : List ℕ) → i < length names → name ≡ get_or names i name → done_of (i + 1) ≡ done_of i ++ cond (is_bucket name) (name ∷ []) []
  one_more i name near is =
      ap (filter is_bucket) (take_more names i name near) ∙ filter-append is_bucket (take i names) (get_or names i name ∷ [])
      ∙ ap (λ n. done_of i ++ cond (is_bucket n) (n ∷ []) []) (sym is)

  not_more : (i : ℕ) → length (done_of i) ≤ length (filter is_bucket names)
  not_more i =
      omega (arith, ap (λ xs. length (filter is_bucket xs)) (take-append-drop i names), ap length (filter-append is_bucket (take i names) (drop i names)), length-append (done_of i) (filter is_bucket (drop i names)))

-- the first i of the names were asked for
pub record Made (a b : History) (names : List (List ℕ)) (i : ℕ) (items : List BucketItem) : Type 0 where
  pub on : GoesOn a b
  pub faults : b.faults ≡ a.faults
  pub settled : IsTrue a.observable → IsSettled (present a) → IsSettled (present b)
  pub calls : b.called ≤ a.called + length (done_of names i)
  pub idles : Met (HasNames names) a → Idles b a.called b.called
  pub are : Met (HasNames names) a → items ≡ map (item_at (present a)) (done_of names i)

pub made_none : (a : History) (names : List (List ℕ)) → Made a a names 0 []
made_none a names = record {
  on = goes_none a;
  faults = refl;
  settled = λ observable settled. settled;
  calls = omega arith;
  idles = λ met. idles_none a met.sound;
  are = λ met. refl;
}

there_at : (tree : SwiftAccount) (names : List (List ℕ)) → names ≡ keys tree → (i : ℕ) (name : List ℕ) → i < length names → name ≡ get_or names i name → is_some (get tree name) ≡ true
there_at tree names all i name near is =
    let key = at_index (IsKey tree) (keys tree) i name (keys_are tree) (subst (λ ns. i < length ns) all near) in
    ap (λ n. is_some (get tree n)) (is ∙ ap (λ ns. get_or ns i name) all) ∙ ap is_some key.1

length_one : (t : Bool) (name : List ℕ) → length (cond t (name ∷ []) []) ≡ cond t 1 0
length_one true name = refl
length_one false name = refl

map_one : (t : Bool) (tree : SwiftAccount) (name : List ℕ) → cond t (item_at tree name ∷ []) [] ≡ map (item_at tree) (cond t (name ∷ []) [])
map_one true tree name = refl
map_one false tree name = refl

map_append : {A B : Type 0} (f : A → B) (xs ys : List A) → map f (xs ++ ys) ≡ map f xs ++ map f ys
map_append f [] ys = refl
map_append f (x ∷ xs) ys = ap (λ zs. f x ∷ zs) (map_append f xs ys)

module _ {a b : History} {names : List (List ℕ)} {i : ℕ} {items : List BucketItem} (made : Made a b names i items) (name : List ℕ) (near : i < length names) (is : name ≡ get_or names i name) where
  pub met_item : Met (HasNames names) a → Met (Has name) b
  met_item met =
      let idles = made.idles met in
      let order = made.on.ordered in
      let same : present b ≡ present a = idles.same ∙ (made.on.kept met.observable).accounts a.called (omega arith) in
      record {
        observable = made.on.observable met.observable;
        sound = idles.quiet.sound b.called order (omega arith);
        has = record { settled = made.settled met.observable met.has.settled; there = ap (λ tree. is_some (get tree name)) same ∙ there_at (present a) names met.has.all i name near is };
      }

  -- one more
  pub made_more : {c : History} {new : List BucketItem} {told : Unit {0}} → Asks (always (heads name)) b c (Has name) (TellsOf (TellsAdded name items new)) (Ok told) → Made a c names (i + 1) new
  made_more {c = c} {new = new} asks =
      let calls = asks.grows.calls in
      let before = made.calls in
      let counted : length (done_of names (i + 1)) ≡ length (done_of names i) + heads name =
      ap length (one_more names i name near is) ∙ length-append (done_of names i) (cond (is_bucket name) (name ∷ []) []) ∙ ap (λ n. length (done_of names i) + n) (length_one (is_bucket name) name) in
      record {
        on = goes_trans made.on asks.grows.on;
        faults = asks.cause ∙ made.faults;
        settled = λ observable settled. asks.settled (made.on.observable observable) (made.settled observable settled);
        calls = omega arith;
        idles = λ met.
            let keeps = asks.effect (met_item met) in
            idles_trans made.on.ordered (asks.grows.on.kept (made.on.observable met.observable)) (made.idles met) (record { quiet = keeps.0; still = keeps.1; same = keeps.2.same });
        are = λ met.
            let keeps = asks.effect (met_item met) in
            let kept = asks.grows.on.kept (made.on.observable met.observable) in
            let same : c.account_at b.called ≡ present a = kept.accounts b.called (omega arith) ∙ (made.idles met).same ∙ (made.on.kept met.observable).accounts a.called (omega arith) in
            let added : new ≡ items ++ cond (is_bucket name) (item_at (present a) name ∷ []) [] = subst (λ tree. TellsAdded name items new tree tt) same keeps.2.of_account in
            added ∙ ap (λ xs. xs ++ cond (is_bucket name) (item_at (present a) name ∷ []) []) (made.are met)
            ∙ ap (λ xs. map (item_at (present a)) (done_of names i) ++ xs) (map_one (is_bucket name) (present a) name)
            ∙ sym (map_append (item_at (present a)) (done_of names i) (cond (is_bucket name) (name ∷ []) []))
            ∙ ap (map (item_at (present a))) (sym (one_more names i name near is));
      }

  -- one that wasn't told
  pub made_fault : {T : Type 0} {P : SwiftAccount → T → Type 0} {c : History} {f : PlanFault} → Asks (always (heads name)) b c (Has name) (TellsOf P) (Err f)
      → (result : Result (List BucketItem) PlanFault) → IsErrAnd result (λ e. e ≡ f) → Asks (always (length (filter is_bucket names))) a c (HasNames names) (TellsOf (TellsItems names)) result
  made_fault {T = T} {P = P} {c = c} {f = f} asks result err =
      let calls = asks.grows.calls in
      let before = made.calls in
      let most = not_more names (i + 1) in
      let counted : length (done_of names (i + 1)) ≡ length (done_of names i) + heads name =
      ap length (one_more names i name near is) ∙ length-append (done_of names i) (cond (is_bucket name) (name ∷ []) []) ∙ ap (λ n. length (done_of names i) + n) (length_one (is_bucket name) name) in
      subst (Asks (always (length (filter is_bucket names))) a c (HasNames names) (TellsOf (TellsItems names))) (sym (err_is result f err)) (record {
        grows = record { on = goes_trans made.on asks.grows.on; calls = omega arith };
        cause = cause_after T (List BucketItem) a.faults b.faults c.faults f made.faults asks.cause;
        effect = λ met. keeps_after T (List BucketItem) P (TellsItems names) b c a.called b.called c.called f made.on.ordered (asks.grows.on.kept (made.on.observable met.observable)) (made.idles met) (asks.effect (met_item met));
        settled = λ observable settled. asks.settled (made.on.observable observable) (made.settled observable settled);
      })

-- all were
pub made_all : {a b : History} {names : List (List ℕ)} {i : ℕ} {items : List BucketItem} → Made a b names i items → length names ≤ i
    → Asks (always (length (filter is_bucket names))) a b (HasNames names) (TellsOf (TellsItems names)) (Ok items)
made_all {a = a} {b = b} {names = names} {i = i} {items = items} made all =
    let before = made.calls in
    let most = not_more names i in
    record {
      grows = record { on = made.on; calls = omega arith };
      cause = made.faults;
      effect = λ met.
          let idles = made.idles met in
          let from : b.account_at a.called ≡ present a = (made.on.kept met.observable).accounts a.called (omega arith) in (
            idles.quiet,
            idles.still,
            record {
              of_account = made.are met ∙ ap (λ xs. map (item_at (present a)) (filter is_bucket xs)) (take_all i names all) ∙ ap (λ tree. map (item_at tree) (filter is_bucket names)) (sym from);
              same = idles.same;
            },
          );
      settled = made.settled;
    }

-- a name that is no bucket's adds nothing
pub none_added : (a : History) (name : List ℕ) (items : List BucketItem) → is_bucket name ≡ false → Asks (always (heads name)) a a (Has name) (TellsOf (TellsAdded name items items)) (Ok tt)
none_added a name items other = record {
  grows = grows_none (always (heads name)) (Has name) a;
  cause = refl;
  effect = λ met. (
    none_made refl met.sound,
    refl,
    record {
      of_account = sym (ap (λ t. items ++ cond t (item_at (present a) name ∷ []) []) other ∙ append-nil items);
      same = refl;
    },
  );
  settled = λ observable settled. settled;
}
