-- A page of the files of a container, as a listing tells it over every observable store.
use Rattle.std.specs.Prelude.{◌≡◌, ◌&&◌, ℕ, zero, suc, Bool, true, false, cond, IsTrue, List, [], ◌∷◌, map, length, take, Option, None, Some, Ok, Err}
use Rattle.std.specs.List.{filter}
use Rattle.std.specs.Ordering.{is_lt}
use Rattle.std.specs.FinMap.{entries, get, len-empty, len-entries}
use Rattle.std.proofs.Common.{refl, sym, ap, subst, ◌∙◌, arith}
use Rattle.gate_base.specs.Maps.{name_cmp}
use Rattle.gate_base.specs.Maps as maps
use Rattle.s3_machine.specs.Items.{begins, behind, with_prefix}
use Rattle.s3_machine.proofs.lemmas.Starts.{starts_begins}
use Rattle.swift_calls.specs.Account.{SwiftObject, SwiftContainer, SwiftAccount, files_of}
use Rattle.swift_calls.specs.Bodies.{item_of}
use Rattle.swift_calls.specs.History.{History, present}
use Rattle.swift_calls.specs.Step.{page, is_listed, items_reply}
use Rattle.swift_calls.specs.declared.calls.SwiftFault.TheVariants as swift
use Rattle.swift_calls.specs.declared.heads.NameItem.{NameItem}
use Rattle.list_pages.specs.Listing.{AsksPage, asked, not_asked, IsTold}
use Rattle.list_pages.specs.declared.fault.PageFault.TheVariants as fault
use Rattle.list_pages.proofs.lemmas.Starting.{not_behind}
use Rattle.account_calls.specs.FilePages.{item_at, items_after, TellsFiles}
use Rattle.account_calls.proofs.lemmas.One.{found}

-- ---- the rows of a page

listed_is : (prefix marker : List ℕ) (e : List ℕ × SwiftObject) → is_listed prefix marker e.0 ≡ (is_lt (name_cmp marker e.0) && begins prefix e.0)
listed_is prefix marker e = λ i. sym (not_behind marker e.0) i && starts_begins prefix e.0 i

one_row : (e : List ℕ × SwiftObject) (rest : List (List ℕ × SwiftObject)) (later : Bool) (fits : Bool) (marker : List ℕ) (chosen : List (List ℕ × SwiftObject)) → later ≡ is_lt (name_cmp marker e.0) → chosen ≡ behind marker rest
    → cond (later && fits) (e ∷ chosen) chosen ≡ behind marker (cond fits (e ∷ rest) rest)
one_row e rest true true marker chosen is same = ap (λ l. e ∷ l) same ∙ ap (λ t. cond t (e ∷ behind marker rest) (behind marker rest)) is
one_row e rest false true marker chosen is same = same ∙ ap (λ t. cond t (e ∷ behind marker rest) (behind marker rest)) is
one_row e rest true false marker chosen is same = same
one_row e rest false false marker chosen is same = same

listed_rows : (prefix marker : List ℕ) (es : List (List ℕ × SwiftObject)) → filter (λ e. is_listed prefix marker e.0) es ≡ behind marker (with_prefix prefix es)
listed_rows prefix marker [] = refl
listed_rows prefix marker (e ∷ es) =
    ap (λ t. cond t (e ∷ filter (λ e. is_listed prefix marker e.0) es) (filter (λ e. is_listed prefix marker e.0) es)) (listed_is prefix marker e)
    ∙ one_row e (with_prefix prefix es) (is_lt (name_cmp marker e.0)) (begins prefix e.0) marker (filter (λ e. is_listed prefix marker e.0) es) refl (listed_rows prefix marker es)

page_is : (prefix marker : List ℕ) (fs : maps.Names SwiftObject) → page 1000 (λ e. item_of e.0 e.1) (λ e. is_listed prefix marker e.0) (entries fs) ≡ take 1000 (items_after prefix marker fs)
unfolding page
page_is prefix marker fs = ap (λ rows. take 1000 (map item_at rows)) (listed_rows prefix marker (entries fs))

none_of : {X : Type 0} (xs : List X) → length xs ≡ 0 → xs ≡ []
none_of [] e = refl
none_of (x ∷ xs) e = absurd (omega (arith, e))

take_none : (X : Type 0) (n : ℕ) → let none : List X = [] in take n none ≡ none
take_none X zero = refl
take_none X (suc n) = refl

no_items : (prefix marker : List ℕ) → take 1000 (items_after prefix marker (files_of None)) ≡ []
no_items prefix marker =
    ap (λ es. take 1000 (map item_at (behind marker (with_prefix prefix es)))) (none_of (entries (files_of None)) (sym (len-entries (files_of None)) ∙ len-empty name_cmp SwiftObject)) ∙ take_none NameItem 1000

-- ---- what is told

module _ (folder prefix marker : List ℕ) (tree : SwiftAccount) (told : List NameItem) where
  told_by : (o : Option SwiftContainer) → get tree folder ≡ o → IsTold prefix marker (items_reply 1000 prefix marker o) told → TellsFiles folder prefix marker tree told
  told_by None e comes = record { items = comes ∙ sym (ap (λ o. take 1000 (items_after prefix marker (files_of o))) e ∙ no_items prefix marker) }
  told_by (Some there) e comes = record { items = comes.0 ∙ page_is prefix marker there.files ∙ ap (λ o. take 1000 (items_after prefix marker (files_of o))) (sym e) }

ok_no_err : {T E : Type 0} (x : T) (f : E) → Ok x ≡ Err f → ⊥
ok_no_err x f e = cc

pub says_files : {a b : History} (folder prefix marker : List ℕ) (told : List NameItem) → AsksPage a b folder prefix marker (Ok told) → IsTrue a.observable → TellsFiles folder prefix marker (present a) told
says_files {a = a} {b = b} folder prefix marker told (asked (Ok reply) calls comes) observable =
    let tree = b.account_at a.called in
    subst (λ t. TellsFiles folder prefix marker t told) (found calls observable)
    (told_by folder prefix marker tree told (get tree folder) refl (subst (λ r. IsTold prefix marker r told) (calls.effect observable).reply comes))
says_files folder prefix marker told (asked (Err swift.Failed) calls e) observable = absurd (ok_no_err told fault.Failed e)
says_files folder prefix marker told (asked (Err swift.Memory) calls e) observable = absurd (ok_no_err told fault.Memory e)
says_files folder prefix marker told (not_asked same e) observable = absurd (ok_no_err told fault.Memory e)
