-- A record of calls with one call more, and the order and the sizes that each call keeps.
use Rattle.std.specs.Prelude.{◌≡◌, ℕ, zero, suc, ◌+◌, ◌<◌, ◌≤◌, ◌^◌, Bool, true, false, cond, nat_lt, sum_by, IsTrue, List, [], ◌∷◌, ◌++◌, map, length, take, Option, None, Some}
use Rattle.std.specs.List.{list_all}
use Rattle.std.proofs.Common.{refl, sym, ap, subst, ◌∙◌, get_or, add-one, arith}
use Rattle.std.proofs.lemmas.Bool.{lt-ltb}
use Rattle.gate_base.specs.Named.{ascends, changed}
use Rattle.gate_base.proofs.lemmas.Named.{ascends_placed, names_changed, all_placed, all_changed, both, first_of_two, second_of_two}
use Rattle.std.proofs.Math.Seq.{take-suc, take-append_seam}
use Rattle.planned_swift.specs.Accounts.{IsOrdered, is_sized_object, IsSized}
use Rattle.slo_manifest.specs.declared.Segment.{Segment}
use Rattle.swift_calls.specs.Bodies.{Look, is_good_list}
use Rattle.swift_calls.specs.Step.{Fit, is_taken}
use Rattle.swift_calls.specs.declared.account.Content.TheVariants.{Segments}
use Rattle.swift_calls.specs.declared.account.Stored.{Stored as StoredObject}
use Rattle.planned_swift.specs.Lists.{name_of, object_name, stored, stored_of, look_in, is_nil, without, with_readers, with_list, with_object, without_object, with_container, without_container, served, is_small}
use Rattle.planned_swift.specs.Replay.{left_by, replayed, all_small}
use Rattle.swift_calls.specs.declared.account.ReadList.{ReadList}
use Rattle.planned_swift.specs.declared.account.Container.{Container}
use Rattle.planned_swift.specs.declared.account.Account.{Account}
use Rattle.swift_calls.specs.declared.calls.SwiftRequest.{SwiftRequest}
use Rattle.swift_calls.specs.declared.calls.SwiftRequest.TheVariants.{ListContainers, HeadContainer, PutContainer, PostContainer, DeleteContainer, ListNames, PutObject, PutManifest, HeadObject, GetObject, GetManifest, DeleteObject}
use Rattle.swift_calls.specs.declared.outcome.Outcome.{Outcome}
use Rattle.swift_calls.specs.declared.outcome.Outcome.TheVariants.{Answered, LostBefore, LostAfter}
use Rattle.planned_swift.specs.declared.memory.Entry.{Entry}
use Rattle.planned_swift.proofs.ByName.{all_without, ascends_without}

-- one call more
pub replayed_more : (account : Account) (entries : List Entry) (e : Entry) → replayed account (entries ++ e ∷ []) ≡ left_by e.outcome e.request (replayed account entries)
unfolding replayed
replayed_more account [] e = refl
replayed_more account (x ∷ entries) e = replayed_more (left_by x.outcome x.request account) entries e

-- and without it again
pub without_last : (entries : List Entry) (e : Entry) → take (length entries) (entries ++ e ∷ []) ≡ entries
without_last entries e = take-append_seam entries (e ∷ [])

pub replayed_none : (account : Account) → replayed account [] ≡ account
unfolding replayed
replayed_none account = refl

-- the next of the calls
pub replayed_next : (account : Account) (entries : List Entry) (i : ℕ) (e : Entry) → i < length entries → e ≡ get_or entries i e → replayed account (take (i + 1) entries) ≡ left_by e.outcome e.request (replayed account (take i entries))
replayed_next account entries i e within at =
    ap (λ n. replayed account (take n entries)) (add-one i)
    ∙ ap (replayed account) (take-suc entries i e within)
    ∙ ap (λ x. replayed account (take i entries ++ x ∷ [])) (sym at)
    ∙ replayed_more account (take i entries) e

-- ---- order

abbrev has_order : Container → Bool
has_order c = ascends (map (λ s. s.name) c.objects)

-- a container changed, but for its name
ordered_changed : (n : List ℕ) (f : Container → Container) (account : Account) → ((c : Container) → name_of (f c) ≡ name_of c) → ((c : Container) → has_order c ≡ true → has_order (f c) ≡ true) → IsOrdered account → IsOrdered (record { containers = changed name_of n f account.containers })
ordered_changed n f account keeps orders h = both _ _
    (ap ascends (names_changed name_of n f keeps account.containers) ∙ first_of_two _ _ h)
    (all_changed name_of has_order n f account.containers orders (second_of_two _ _ h))

ordered_with : (v : Option Container) (n : List ℕ) (readers : ReadList) (created : Option ℕ) (account : Account) → IsOrdered account → IsOrdered (record { containers = with_container v n readers created account.containers })
ordered_with None n readers created account h = both _ _
    (ascends_placed name_of _ account.containers (first_of_two _ _ h))
    (all_placed name_of has_order _ account.containers refl (second_of_two _ _ h))
ordered_with (Some c) n readers created account h = ordered_changed n (with_readers readers created) account (λ c. refl) (λ c is. is) h

ordered_without : (v : Option Container) (n : List ℕ) (account : Account) → IsOrdered account → IsOrdered (record { containers = without_container v n account.containers })
ordered_without None n account h = h
ordered_without (Some c) n account h = elim (is_nil c.objects) as (λ b. IsOrdered (record { containers = cond b (without name_of n account.containers) account.containers })) [
  | true ↦ both _ _ (ascends_without name_of n account.containers (first_of_two _ _ h)) (all_without name_of has_order n account.containers (second_of_two _ _ h))
  | false ↦ h
]

ordered_served : (request : SwiftRequest) (account : Account) → IsOrdered account → IsOrdered (served request account)
ordered_served (ListContainers marker limit) account h = h
ordered_served (HeadContainer n) account h = h
ordered_served (PutContainer n readers created) account h = ordered_with _ n readers created account h
ordered_served (PostContainer n readers) account h = ordered_changed n (with_list readers) account (λ c. refl) (λ c is. is) h
ordered_served (DeleteContainer n) account h = ordered_without _ n account h
ordered_served (ListNames n prefix marker limit) account h = h
ordered_served (PutObject put) account h = elim (is_taken put.fresh (stored put.container put.name account.containers)) as (λ b. IsOrdered (cond b account (record { containers = changed name_of put.container (with_object (stored_of put)) account.containers }))) [
  | true ↦ h
  | false ↦ ordered_changed put.container (with_object (stored_of put)) account (λ x. refl) (λ x is. ascends_placed object_name (stored_of put) x.objects is) h
]
ordered_served (PutManifest c n content_type meta segments) account h =
    let s : StoredObject = record { name = n; content_type = content_type; meta = meta; content = Segments segments } in
    elim (is_good_list (look_in account.containers) segments) as (λ b. IsOrdered (cond b (record { containers = changed name_of c (with_object s) account.containers }) account)) [
      | true ↦ ordered_changed c (with_object s) account (λ x. refl) (λ x is. ascends_placed object_name s x.objects is) h
      | false ↦ h
    ]
ordered_served (HeadObject c n) account h = h
ordered_served (GetObject c n range) account h = h
ordered_served (GetManifest c n) account h = h
ordered_served (DeleteObject c n) account h = ordered_changed c (without_object n) account (λ x. refl) (λ x is. ascends_without object_name n x.objects is) h

ordered_left : (outcome : Outcome) (request : SwiftRequest) (account : Account) → IsOrdered account → IsOrdered (left_by outcome request account)
ordered_left Answered request account h = ordered_served request account h
ordered_left LostBefore request account h = h
ordered_left LostAfter request account h = ordered_served request account h

-- calls keep names ascending
pub ordered_replayed : (account : Account) (entries : List Entry) → IsOrdered account → IsOrdered (replayed account entries)
unfolding replayed
ordered_replayed account [] h = h
ordered_replayed account (e ∷ entries) h = ordered_replayed (left_by e.outcome e.request account) entries (ordered_left e.outcome e.request account h)

-- ---- sizes

abbrev has_sizes : Container → Bool
has_sizes c = list_all is_sized_object c.objects

sized_with : (v : Option Container) (n : List ℕ) (readers : ReadList) (created : Option ℕ) (account : Account) → IsSized account → IsSized (record { containers = with_container v n readers created account.containers })
sized_with None n readers created account h = all_placed name_of has_sizes _ account.containers refl h
sized_with (Some c) n readers created account h = all_changed name_of has_sizes n (with_readers readers created) account.containers (λ c is. is) h

sized_without : (v : Option Container) (n : List ℕ) (account : Account) → IsSized account → IsSized (record { containers = without_container v n account.containers })
sized_without None n account h = h
sized_without (Some c) n account h = elim (is_nil c.objects) as (λ b. IsSized (record { containers = cond b (without name_of n account.containers) account.containers })) [
  | true ↦ all_without name_of has_sizes n account.containers h
  | false ↦ h
]

-- segments that may be listed have a size below the limit together
small_list : (look : Look) (segments : List Segment) → is_good_list look segments ≡ true → nat_lt (sum_by (λ s. s.size) segments) (2 ^ 63) ≡ true
unfolding is_good_list
small_list look segments good = second_of_two _ (nat_lt (sum_by (λ s. s.size) segments) (2 ^ 63)) good

sized_served : (request : SwiftRequest) (account : Account) → is_small request ≡ true → IsSized account → IsSized (served request account)
sized_served (ListContainers marker limit) account small h = h
sized_served (HeadContainer n) account small h = h
sized_served (PutContainer n readers created) account small h = sized_with _ n readers created account h
sized_served (PostContainer n readers) account small h = all_changed name_of has_sizes n (with_list readers) account.containers (λ c is. is) h
sized_served (DeleteContainer n) account small h = sized_without _ n account h
sized_served (ListNames n prefix marker limit) account small h = h
sized_served (PutObject put) account small h = elim (is_taken put.fresh (stored put.container put.name account.containers)) as (λ b. IsSized (cond b account (record { containers = changed name_of put.container (with_object (stored_of put)) account.containers }))) [
  | true ↦ h
  | false ↦ all_changed name_of has_sizes put.container (with_object (stored_of put)) account.containers (λ x is. all_placed object_name is_sized_object (stored_of put) x.objects small is) h
]
sized_served (PutManifest c n content_type meta segments) account small h =
    let s : StoredObject = record { name = n; content_type = content_type; meta = meta; content = Segments segments } in
    elim (is_good_list (look_in account.containers) segments) as (λ b. is_good_list (look_in account.containers) segments ≡ b → IsSized (cond b (record { containers = changed name_of c (with_object s) account.containers }) account)) [
      | true ↦ λ good. all_changed name_of has_sizes c (with_object s) account.containers (λ x is. all_placed object_name is_sized_object s x.objects (small_list (look_in account.containers) segments good) is) h
      | false ↦ λ bad. h
    ] refl
sized_served (HeadObject c n) account small h = h
sized_served (GetObject c n range) account small h = h
sized_served (GetManifest c n) account small h = h
sized_served (DeleteObject c n) account small h = all_changed name_of has_sizes c (without_object n) account.containers (λ x is. all_without object_name is_sized_object n x.objects is) h

sized_left : (outcome : Outcome) (request : SwiftRequest) (account : Account) → is_small request ≡ true → IsSized account → IsSized (left_by outcome request account)
sized_left Answered request account small h = sized_served request account small h
sized_left LostBefore request account small h = h
sized_left LostAfter request account small h = sized_served request account small h

-- and sizes within their limit
pub sized_replayed : (account : Account) (entries : List Entry) → IsSized account → IsTrue (all_small entries) → IsSized (replayed account entries)
unfolding replayed
sized_replayed account [] h small = h
sized_replayed account (e ∷ entries) h small = sized_replayed (left_by e.outcome e.request account) entries (sized_left e.outcome e.request account (first_of_two _ _ small) h) (second_of_two _ _ small)

pub small_take : (n : ℕ) (entries : List Entry) → IsTrue (all_small entries) → IsTrue (all_small (take n entries))
small_take zero entries small = refl
small_take (suc n) [] small = refl
small_take (suc n) (e ∷ entries) small = both _ _ (first_of_two _ _ small) (small_take n entries (second_of_two _ _ small))

pub sized_take : (account : Account) (n : ℕ) (entries : List Entry) → IsSized account → IsTrue (all_small entries) → IsSized (replayed account (take n entries))
sized_take account n entries h small = sized_replayed account (take n entries) h (small_take n entries small)

-- an account that a record of calls left
pub ordered_at : (first account : Account) (entries : List Entry) → account ≡ replayed first entries → IsOrdered first → IsOrdered account
ordered_at first account entries is h = subst IsOrdered (sym is) (ordered_replayed first entries h)

pub sized_at : (first account : Account) (entries : List Entry) → account ≡ replayed first entries → IsSized first → IsTrue (all_small entries) → IsSized account
sized_at first account entries is h small = subst IsSized (sym is) (sized_replayed first entries h small)

pub sized_at_take : (first account : Account) (n : ℕ) (entries : List Entry) → account ≡ replayed first (take n entries) → IsSized first → IsTrue (all_small entries) → IsSized account
sized_at_take first account n entries is h small = subst IsSized (sym is) (sized_take first n entries h small)

-- one call more
pub small_more : (entries : List Entry) (e : Entry) → IsTrue (all_small entries) → is_small e.request ≡ true → IsTrue (all_small (entries ++ e ∷ []))
small_more [] e small is = both _ _ is refl
small_more (x ∷ entries) e small is = both _ _ (first_of_two _ _ small) (small_more entries e (second_of_two _ _ small) is)

below_limit : (n : ℕ) → n ≤ 1073741824 → n < 2 ^ 63
below_limit n h = omega arith

-- the body of a call within the limits
pub small_fit : (request : SwiftRequest) → Fit request → is_small request ≡ true
small_fit (ListContainers marker limit) fit = refl
small_fit (HeadContainer n) fit = refl
small_fit (PutContainer n readers created) fit = refl
small_fit (PostContainer n readers) fit = refl
small_fit (DeleteContainer n) fit = refl
small_fit (ListNames n prefix marker limit) fit = refl
small_fit (PutObject put) fit = lt-ltb _ _ (below_limit (length put.body) fit.4)
small_fit (PutManifest c n content_type meta segments) fit = refl
small_fit (HeadObject c n) fit = refl
small_fit (GetObject c n range) fit = refl
small_fit (GetManifest c n) fit = refl
small_fit (DeleteObject c n) fit = refl
