-- An account that calls make is still one after each change.
use Rattle.std.specs.Prelude.{◌≡◌, ◌<◌, ◌^◌, ℕ, List, Option, None, Some, IfSome}
use Rattle.std.specs.FinMap.{get, insert, remove, empty}
use Rattle.std.specs.Option.{option_map}
use Rattle.std.proofs.lemmas.Option.{none-some, same_Some}
use Rattle.std.proofs.Common.{arith, inl, inr, subst, refl, sym, ap, ◌∙◌}
use Rattle.gate_base.specs.Maps.{adjust}
use Rattle.gate_base.proofs.lemmas.Maps.{by_name, get_empty, same_key, at_adjust, off_adjust, insert_is, remove_is}
use Rattle.swift_calls.specs.Account.{SwiftAccount, SwiftContainer, SwiftObject, files_of, find_object, new_folder, on_files, put_file, remove_file, size_of, with_head, with_readers}
use Rattle.swift_calls.specs.Step.{IsContainerName, IsMoment}
use Rattle.swift_calls.specs.declared.account.ReadList.{ReadList}
use Rattle.swift_calls.specs.declared.account.Content.{Content}
use Rattle.swift_calls.specs.declared.account.Content.TheVariants.{Plain, Segments}
use Rattle.swift_store.specs.Made.{IsMade, IsMadeContainer, IsMadeContent, IsMadeObject}

pub made_empty : IsMade empty
made_empty c folder found = absurd (none-some folder (sym (get_empty by_name c) ∙ found))

-- an object that is found is made
pub made_found : (c n : List ℕ) (account : SwiftAccount) (object : SwiftObject) → IsMade account → find_object account c n ≡ Some object → IsMadeObject n object
made_found c n account object made found = by (get account c) refl found
  where
    by : (v : Option SwiftContainer) → get account c ≡ v → get (files_of v) n ≡ Some object → IsMadeObject n object
    by None at found = absurd (none-some _ (sym (get_empty by_name n) ∙ found))
    by (Some folder) at found = (made c folder at).objects n object found

-- a container is changed
adjusted : (c : List ℕ) (f : SwiftContainer → SwiftContainer) (account : SwiftAccount)
    → ((folder : SwiftContainer) → IsMadeContainer c folder → IsMadeContainer c (f folder)) → IsMade account → IsMade (adjust c f account)
adjusted c f account keeps made q folder found = elim (same_key by_name q c) [
  | inl is ↦
      subst (λ (k : List ℕ). IsMadeContainer k folder) (sym is)
      (changed (get account c) refl (sym (ap (get (adjust c f account)) is ∙ at_adjust by_name c f account) ∙ found))
  | inr other ↦ made q folder (sym (off_adjust by_name c f account q other) ∙ found)
]
  where
    changed : (v : Option SwiftContainer) → get account c ≡ v → option_map f v ≡ Some folder → IsMadeContainer c folder
    changed None e done = absurd (none-some folder done)
    changed (Some old) e done = subst (λ (x : SwiftContainer). IsMadeContainer c x) (same_Some (f old) folder done) (keeps old (made c old e))

-- its read list and creation time are written over
pub made_head : (c : List ℕ) (readers : ReadList) (created : Option ℕ) (account : SwiftAccount) → IsMade account → IfSome created IsMoment
    → IsMade (adjust c (with_head readers created) account)
made_head c readers created account made moment =
    adjusted c (with_head readers created) account (λ folder m. record { named = m.named; created = moment; objects = m.objects }) made

-- its read list alone
pub made_readers : (c : List ℕ) (readers : ReadList) (account : SwiftAccount) → IsMade account → IsMade (adjust c (with_readers readers) account)
made_readers c readers account made =
    adjusted c (with_readers readers) account (λ folder m. record { named = m.named; created = m.created; objects = m.objects }) made

-- a container is made
pub made_new : (c : List ℕ) (readers : ReadList) (created : Option ℕ) (account : SwiftAccount) → IsMade account → IsContainerName c → IfSome created IsMoment
    → IsMade (insert account c (new_folder readers created))
made_new c readers created account made name moment q folder found =
    insert_is by_name IsMadeContainer account c (new_folder readers created) q folder
    (record { named = name; created = moment; objects = λ n object there. absurd (none-some object (sym (get_empty by_name n) ∙ there)) })
    (made q folder) found

-- a container is taken away
pub made_removed : (c : List ℕ) (account : SwiftAccount) → IsMade account → IsMade (remove account c)
made_removed c account made q folder found = remove_is by_name IsMadeContainer account c q folder (made q folder) found

-- an object is put
pub made_put : (c n : List ℕ) (object : SwiftObject) (account : SwiftAccount) → IsMade account → IsMadeObject n object → IsMade (put_file c n object account)
made_put c n object account made own =
    adjusted c (on_files (λ fs. insert fs n object)) account
    (λ folder m. record {
      named = m.named;
      created = m.created;
      objects = λ k other there. insert_is by_name IsMadeObject folder.files n object k other own (m.objects k other) there;
    }) made

-- an object is taken away
pub made_taken : (c n : List ℕ) (account : SwiftAccount) → IsMade account → IsMade (remove_file c n account)
made_taken c n account made =
    adjusted c (on_files (λ fs. remove fs n)) account
    (λ folder m. record {
      named = m.named;
      created = m.created;
      objects = λ k other there. remove_is by_name IsMadeObject folder.files n k other (m.objects k other) there;
    }) made

-- what is put is below 2^63 bytes
pub made_size : (content : Content) → IsMadeContent content → size_of content < 2 ^ 63
made_size (Plain bytes) made = omega (arith, made.own bytes refl)
made_size (Segments segments) made = (made.list segments refl).sized.size
