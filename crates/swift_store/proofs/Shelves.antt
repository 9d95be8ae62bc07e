-- What a shelf in memory finds and does, by what stands under a container's name.
use Rattle.std.specs.Prelude.{◌≡◌, ◌<◌, ◌^◌, IfSome, ℕ, zero, suc, Bool, List, [], ◌∷◌, length, Option, None, Some, is_some, true, false, Result, Ok, Err, OnOk, OnErr}
use Rattle.std.specs.FinMap.{get, insert, remove, empty, len-entries, len-empty}
use Rattle.std.proofs.Common.{subst, refl, sym, ap, ◌∙◌, true≢false}
use Rattle.gate_base.specs.Maps.{adjust, name_cmp}
use Rattle.gate_base.proofs.lemmas.Maps.{by_name, get_empty}
use Rattle.swift_calls.specs.Account.{SwiftAccount, SwiftContainer, SwiftObject, files, files_of, find_object, new_folder, put_file, remove_file, size_of, with_head}
use Rattle.swift_calls.specs.Bodies.{item_of}
use Rattle.swift_calls.specs.Step.{IsContainerName, IsMoment, page, is_listed, put_container}
use Rattle.swift_calls.specs.declared.account.Content.{Content}
use Rattle.swift_calls.specs.declared.account.ReadList.{ReadList}
use Rattle.swift_store.specs.Made.{IsMade, IsMadeObject}
use Rattle.swift_store.specs.Shelf.{container_head, object_page, with_container}
use Rattle.swift_store.proofs.MadeChanges.{made_head, made_new, made_size, made_removed, made_put, made_taken}

-- nothing is found in a container that isn't there
pub found_nowhere : (c n : List ℕ) (account : SwiftAccount) → None ≡ get account c → None ≡ find_object account c n
found_nowhere c n account none = sym (ap (λ v. get (files_of v) n) (sym none) ∙ get_empty by_name n)

-- a container that is there is written over
pub head_written : (n : List ℕ) (readers : ReadList) (created : Option ℕ) (account : SwiftAccount) → is_some (get account n) ≡ true → adjust n (with_head readers created) account ≡ with_container n readers created account
head_written n readers created account is = there (get account n) is
  where
    there : (v : Option SwiftContainer) → is_some v ≡ true → adjust n (with_head readers created) account ≡ (put_container v n readers created account).tree
    there None is = absurd (true≢false (sym is))
    there (Some c) is = refl

-- one that isn't is made
pub container_made : (n : List ℕ) (readers : ReadList) (created : Option ℕ) (account : SwiftAccount) → is_some (get account n) ≡ false → insert account n (new_folder readers created) ≡ with_container n readers created account
container_made n readers created account is = missing (get account n) is
  where
    missing : (v : Option SwiftContainer) → is_some v ≡ false → insert account n (new_folder readers created) ≡ (put_container v n readers created account).tree
    missing None is = refl
    missing (Some c) is = absurd (true≢false is)

nil_of : {A : Type 0} (l : List A) → length l ≡ 0 → l ≡ []
nil_of [] e = refl
nil_of (a ∷ l) e = cc

page_nil : {A B : Type 0} (n : ℕ) (f : A → B) (test : A → Bool) → page n f test [] ≡ []
unfolding page
page_nil zero f test = refl
page_nil (suc n) f test = refl

-- nothing is listed of a container that isn't there
pub listed_nowhere : (limit : ℕ) (prefix marker c : List ℕ) (account : SwiftAccount) → None ≡ get account c → [] ≡ object_page limit prefix marker (files account c)
listed_nowhere limit prefix marker c account none =
    sym (ap (λ v. object_page limit prefix marker (files_of v)) (sym none)
    ∙ ap (page limit (λ e. item_of e.0 e.1) (λ e. is_listed prefix marker e.0)) (nil_of _ (sym (len-entries empty) ∙ len-empty name_cmp SwiftObject))
    ∙ page_nil limit _ _)

-- ---- calls can make the account

module _ (c : List ℕ) (account : SwiftAccount) (made : IsMade account) where
  -- a creation time that is found is a moment
  pub moment_found : (head : ReadList × Option ℕ) (folder : SwiftContainer) → Some folder ≡ get account c → head ≡ container_head folder → IfSome head.1 IsMoment
  moment_found head folder found is = subst (λ (h : ReadList × Option ℕ). IfSome h.1 IsMoment) (sym is) (made c folder (sym found)).created

  pub made_written : (readers : ReadList) (created : Option ℕ) (new : SwiftAccount) → IfSome created IsMoment → new ≡ adjust c (with_head readers created) account
      → IsMade new
  made_written readers created new moment is = subst IsMade (sym is) (made_head c readers created account made moment)

  -- whether it was made or memory ran out
  pub made_with : {A E : Type 0} (readers : ReadList) (created : Option ℕ) (folder : SwiftContainer) (new : SwiftAccount) (result : Result A E)
      → IsContainerName c → IfSome created IsMoment → folder ≡ new_folder readers created → OnOk result (new ≡ insert account c folder)
      → OnErr result (new ≡ account) → IsMade new
  made_with readers created folder new (Ok done) name moment is put same =
      subst IsMade (sym (put ∙ ap (insert account c) is)) (made_new c readers created account made name moment)
  made_with readers created folder new (Err fault) name moment is put same = subst IsMade (sym same) made

  pub made_without : (new : SwiftAccount) → new ≡ remove account c → IsMade new
  made_without new is = subst IsMade (sym is) (made_removed c account made)

  pub made_less : (n : List ℕ) (new : SwiftAccount) → new ≡ remove_file c n account → IsMade new
  made_less n new is = subst IsMade (sym is) (made_taken c n account made)

  -- whether it was put or memory ran out
  pub made_kept : {A E : Type 0} (n : List ℕ) (object : SwiftObject) (new : SwiftAccount) (result : Result A E) → IsMadeObject n object
      → OnOk result (new ≡ put_file c n object account) → OnErr result (new ≡ account) → IsMade new
  made_kept n object new (Ok done) own is same = subst IsMade (sym is) (made_put c n object account made own)
  made_kept n object new (Err fault) own is same = subst IsMade (sym same) made

pub small_object : (n content_type : List ℕ) (meta : List (List ℕ)) (content : Content)
    → IsMadeObject n (record { content_type = content_type; meta = meta; content = content }) → size_of content < 2 ^ 63
small_object n content_type meta content own = made_size content own.content

-- the same object under the same name
pub made_as : (n m : List ℕ) (object other : SwiftObject) → IsMadeObject m other → n ≡ m → object ≡ other → IsMadeObject n object
made_as n m object other own same is =
    subst (λ (x : SwiftObject). IsMadeObject n x) (sym is) (subst (λ (k : List ℕ). IsMadeObject k other) (sym same) own)
