-- A page of the records beside a bucket is asked for, and what is to be done with each is done.
use Rattle.std.specs.Prelude.{◌≡◌, ◌≤◌, ◌+◌, ◌*◌, ℕ, true, is_some, List, [], ◌∷◌, map, length, Option, None, Some, Result, Ok, Err}
use Rattle.std.specs.Result.{IsErrAnd}
use Rattle.std.specs.List.{AllByRecursion}
use Rattle.std.specs.FinMap.{get}
use Rattle.std.proofs.Common.{refl, sym, ap, subst, ◌∙◌, arith}
use Rattle.std.proofs.lemmas.List.{drop-map, length-drop, length-map, length-take}
use Rattle.gate_base.specs.Maps.{name_cmp}
use Rattle.swift_calls.specs.Account.{SwiftAccount, SwiftObject, files}
use Rattle.swift_calls.specs.History.{History, present}
use Rattle.swift_calls.specs.declared.heads.NameItem.{NameItem}
use Rattle.list_pages.specs.Listing.{Ascends, IsPageOf, name_in}
use Rattle.upload_records.specs.Layout.{uploads_name}
use Rattle.account_calls.specs.declared.fault.PlanFault.{PlanFault}
use Rattle.account_calls.specs.declared.fault.PlanFault.TheVariants as fault
use Rattle.account_calls.specs.Calls.{always, Any, Asks, Met}
use Rattle.account_calls.specs.FilePages.{item_at, next_after, rows_after, TellsFiles}
use Rattle.account_calls.specs.Listing.{TellsOf}
use Rattle.account_calls.proofs.lemmas.Quiet.{asks_no_memory, asks_under, told_here}
use Rattle.account_calls.proofs.lemmas.Removal.{IsNext, next_is}
use Rattle.sweep.specs.declared.forget.Aged.{Aged}
use Rattle.sweep.specs.Aging.{AreDistinct, Forgetting, HasFiles, PaysForgetting, TellsAged, TellsAgedPage, TurnsBy, forget_after, old_among, page_of}
use Rattle.leftovers.specs.Gathering.{names_after}
use Rattle.leftovers.specs.Segments.{HasSettled}
use Rattle.sweep.proofs.ForgetCalls.{forgetting_quiet, forgetting_quiet_failed, forgetting_then, forgetting_told, forgetting_vain, forgot_here, no_olds}
use Rattle.sweep.proofs.PageNames.{distinct_page, last_is, last_out, lt_less, names_stay, page_is, page_there}
use Rattle.account_calls.proofs.lemmas.Turned.{ended, turned}

module _ (bucket marker : List ℕ) (page : List NameItem) where
  abbrev folder : List ℕ
  folder = uploads_name bucket

  -- where the next page begins
  turns_by : {before : ℕ} (old new : SwiftAccount) → TellsFiles folder [] marker old page → Ascends marker (map name_in page) → (told : Aged) → TellsAged before bucket (map name_in page) old new told
      → (next : Option (List ℕ)) → next ≡ next_after (map name_in page) → TurnsBy bucket marker old new next
  turns_by old new tells up told aged None is =
      sym (page_is folder marker old page tells) ∙ ap (map name_in) (ended [] marker (files old folder) page tells.items (sym is)) ∙ names_all (rows_after [] marker (files old folder))
    where
      names_all : (rows : List (List ℕ × SwiftObject)) → map name_in (map item_at rows) ≡ map (λ e. e.0) rows
      names_all [] = refl
      names_all (e ∷ rows) = ap (λ l. e.0 ∷ l) (names_all rows)
  turns_by old new tells up told aged (Some next) is =
      let turns = turned [] marker (files old folder) page next tells.items (sym is) in
      let near : IsNext (map name_in page) (Some next) = next_is (map name_in page) (Some next) is in
      record {
        rest = ap (map (λ e. e.0)) turns.0 ∙ sym (drop-map (λ e. e.0) 1000 (rows_after [] marker (files old folder)));
        whole = let long = turns.1 in omega (arith, long, length-map (rows_after [] marker (files old folder)) (λ e. e.0));
        stays = names_stay folder next old new (λ q after.
            aged.ages.others q (last_out marker (map name_in page) q up (ap (λ n. name_cmp n q) (last_is marker (map name_in page) next near.1) ∙ lt_less (name_cmp next q) after)));
      }

  module _ {a b : History} (first : Asks (always 1) a b Any (TellsOf (TellsFiles folder [] marker)) (Ok page)) (is_page : IsPageOf [] marker (map name_in page)) where
    listed : Asks (always 1) a b (HasSettled bucket) (TellsOf (TellsFiles folder [] marker)) (Ok page)
    listed = asks_under (λ tree has. tt) first

    pub page_distinct : AreDistinct (map name_in page)
    page_distinct = distinct_page marker (map name_in page) is_page.ascends

    abbrev olds_here : ℕ → SwiftAccount → List (List ℕ × List ℕ)
    olds_here before tree = old_among before bucket (page_of bucket marker tree) tree

    -- they are listed
    files_here : (old new : SwiftAccount) → HasSettled bucket old → TellsOf (TellsFiles folder [] marker) old new page → HasFiles bucket (map name_in page) new
    files_here old new has told = subst (HasFiles bucket (map name_in page)) (sym told.same) (record {
      has = has;
      there = subst (AllByRecursion (λ id. is_some (get (files old folder) id) ≡ true)) (sym (page_is folder marker old page told.of_account)) (page_there folder marker old);
    })

    pub page_no_memory : {before : ℕ} (result : Result (Aged × Option (List ℕ)) PlanFault) → IsErrAnd result (λ e. e ≡ fault.Memory) → Forgetting a b (HasSettled bucket) (olds_here before) (TellsAgedPage before bucket marker) result
    page_no_memory {before = before} result is = forgetting_quiet_failed {given = HasSettled bucket} {P = TellsAgedPage before bucket marker} (λ tree has. has) (asks_no_memory {most = 1} (omega arith) listed (Err fault.Memory) refl) result is

    module _ {c : History} (next : Option (List ℕ)) (is : next ≡ next_after (map name_in page)) where
      page_then : {before : ℕ} (result : Result Aged PlanFault) → Forgetting b c (HasFiles bucket (map name_in page)) (old_among before bucket (map name_in page)) (TellsAged before bucket (map name_in page)) result
          → Forgetting a c (HasSettled bucket) (olds_here before) (λ old last told. TellsAgedPage before bucket marker old last (told, next)) result
      page_then {before = before} result then =
          forgetting_then {given = HasSettled bucket} {rest = HasFiles bucket (map name_in page)} {xs = no_olds} {ys = old_among before bucket (map name_in page)} {zs = olds_here before} (forgetting_quiet listed) then
          (λ old new sound has told. files_here old new has told)
          (λ old new sound after has told. (λ i. old_among before bucket (sym (page_is folder marker old page told.of_account) i) (sym told.same i)))
          (λ old new last y sound has told aged.
          let here : TellsAged before bucket (map name_in page) old last y = subst (λ (tree : SwiftAccount). TellsAged before bucket (map name_in page) tree last y) told.same aged in
          record {
            aged = subst (λ ids. TellsAged before bucket ids old last y) (page_is folder marker old page told.of_account) here;
            turns = turns_by old last told.of_account is_page.ascends y here next is;
          })

      pub page_aged : {before : ℕ} (told : Aged) → Forgetting b c (HasFiles bucket (map name_in page)) (old_among before bucket (map name_in page)) (TellsAged before bucket (map name_in page)) (Ok told)
          → Forgetting a c (HasSettled bucket) (olds_here before) (TellsAgedPage before bucket marker) (Ok (told, next))
      page_aged {before = before} told then = forgetting_told {given = HasSettled bucket} {given' = HasSettled bucket} {xs = olds_here before} {zs = olds_here before} (told, next) (λ tree has. has) (page_then (Ok told) then) (λ old new sound has tells. refl) (λ old new sound has tells. tells)

      pub page_broken : {before : ℕ} {f : PlanFault} → Forgetting b c (HasFiles bucket (map name_in page)) (old_among before bucket (map name_in page)) (TellsAged before bucket (map name_in page)) (Err f)
          → (result : Result (Aged × Option (List ℕ)) PlanFault) → IsErrAnd result (λ e. e ≡ f) → Forgetting a c (HasSettled bucket) (olds_here before) (TellsAgedPage before bucket marker) result
      page_broken {before = before} {f = f} then result gives =
          forgetting_vain {olds = olds_here before} (page_then (Err f) then) result gives

    -- ---- what it pays

    few_here : Met (HasSettled bucket) a → length page ≤ length (names_after folder marker (present a))
    few_here met =
        let names = page_is folder marker (present a) page (told_here listed met).of_account in
        omega (arith, ap length names, length-map page name_in, length-take 1000 (names_after folder marker (present a)))

    pub pays_no_memory : (result : Result (Aged × Option (List ℕ)) PlanFault) → IsErrAnd result (λ e. e ≡ fault.Memory) → PaysForgetting bucket marker a b result
    pays_no_memory (Ok told) is = absurd is
    pays_no_memory (Err e) is = λ met. let one = first.grows.calls in omega (arith, one)

    module _ (c : History) (near : c.called ≤ b.called + 2 * length page) where
      paid_so_far : Met (HasSettled bucket) a → c.called ≤ a.called + forget_after bucket marker (present a)
      paid_so_far met = let few = few_here met in let one = first.grows.calls in omega (arith, few, one, near)

      pub pays_broken : (f : PlanFault) (result : Result (Aged × Option (List ℕ)) PlanFault) → IsErrAnd result (λ e. e ≡ f) → PaysForgetting bucket marker a c result
      pays_broken f (Ok told) is = absurd is
      pays_broken f (Err e) is = λ met. let paid = paid_so_far met in omega (arith, paid)

      pub pays_page : {before : ℕ} (told : Aged) (next : Option (List ℕ)) → Forgetting a c (HasSettled bucket) (olds_here before) (TellsAgedPage before bucket marker) (Ok (told, next)) → PaysForgetting bucket marker a c (Ok (told, next))
      pays_page told None forgets = λ met. let paid = paid_so_far met in omega (arith, paid)
      pays_page told (Some next) forgets = λ met.
          let turns = (forgot_here forgets met).turns in
          let whole = turns.whole in
          let few = is_page.within in
          let one = first.grows.calls in
          omega (arith, whole, few, one, near, length-map page name_in, ap length turns.rest, length-drop 1000 (names_after folder marker (present a)))

    -- by the calls that were made
    pub pays_broken_by : {before : ℕ} {c : History} {fault : PlanFault} → Forgetting b c (HasFiles bucket (map name_in page)) (old_among before bucket (map name_in page)) (TellsAged before bucket (map name_in page)) (Err fault)
        → c.called ≤ b.called + 2 * length page → (f : PlanFault) (result : Result (Aged × Option (List ℕ)) PlanFault) → IsErrAnd result (λ e. e ≡ f) → PaysForgetting bucket marker a c result
    pays_broken_by {c = c} then near f result is = pays_broken c near f result is

-- the page wasn't had
module _ {a b : History} (bucket marker : List ℕ) {f : PlanFault} (first : Asks (always 1) a b Any (TellsOf (TellsFiles (uploads_name bucket) [] marker)) (Err f))
    (result : Result (Aged × Option (List ℕ)) PlanFault) (is : IsErrAnd result (λ e. e ≡ f)) where
  pub page_failed : {before : ℕ} → Forgetting a b (HasSettled bucket) (λ tree. old_among before bucket (page_of bucket marker tree) tree) (TellsAgedPage before bucket marker) result
  page_failed {before = before} = forgetting_quiet_failed {given = Any} {given' = HasSettled bucket} {olds = λ tree. old_among before bucket (page_of bucket marker tree) tree} (λ tree has. tt) first result is

  pub pays_failed : PaysForgetting bucket marker a b result
  pays_failed = by result is
    where
      by : (result : Result (Aged × Option (List ℕ)) PlanFault) → IsErrAnd result (λ e. e ≡ f) → PaysForgetting bucket marker a b result
      by (Ok told) is = absurd is
      by (Err e) is = λ met. let near = first.grows.calls in omega (arith, near)
