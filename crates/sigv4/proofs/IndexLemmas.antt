-- The index of a list of keys, as the list grows.
use Rattle.std.proofs.Common.{Bor, ◌≡◌, ℕ, ◌<◌, Bool, true, false, cond, List, [], ◌∷◌, ◌++◌, length, find, slice_get, is_some, Option, Some, None, refl, ap, sym, ◌∙◌, subst, arith, length-append}
use Rattle.std.specs.Prelude.{bytes_eq}
use Rattle.std.specs.Global.{Vec}
use Rattle.std.specs.BTreeMap.{BTreeMap, IsEmpty, insert_entry}
use Rattle.std.specs.Cmp.Lexicographic.{slice_cmp}
use Rattle.std.specs.List.{list_any, AllZip}
use Rattle.std.specs.Map.{lookup}
use Rattle.std.specs.Option.{option_or, option_copied}
use Rattle.std.specs.declared.cmp.Ordering.{Ordering}
use Rattle.std.specs.declared.cmp.Ordering.TheVariants.{Less, Equal, Greater}
use Rattle.std.specs.Ordering.{nat_cmp, is_eq, match_ordering}
use Rattle.std.proofs.lemmas.List.{get_or_append_left}
use Rattle.std.proofs.lemmas.List.Folds.{find-append}
use Rattle.std.proofs.lemmas.Map.Text.{is_eq-slice_cmp}
use Rattle.std.proofs.lemmas.Option.{slice_get-get_or}
use Rattle.std.proofs.lemmas.Slice.Eq.{bytes_eq-Decides}
use Rattle.sigv4.specs.declared.keys.AccessKey.{AccessKey}
use Rattle.sigv4.specs.Keys.{has_id}
use Rattle.sigv4.specs.Index.{place_of, LeadsTo, Finds}
use Rattle.sigv4.proofs.KeysLemmas.{finds, seam}

abbrev key_cmp : Vec ℕ → Vec ℕ → Ordering
key_cmp x y = slice_cmp nat_cmp x.items y.items

abbrev Places : Type 0
Places = BTreeMap (Vec ℕ) ℕ

pub found_some : (places : Places) (keys : List AccessKey) (id : List ℕ) (at : ℕ) → Finds places keys → Some at ≡ place_of places id
    → slice_get keys at ≡ find (has_id id) keys
found_some places keys id at all is = sym (subst (LeadsTo (has_id id) keys) (sym is) (all id)).1

pub found_within : (places : Places) (keys : List AccessKey) (id : List ℕ) (at : ℕ) → Finds places keys → Some at ≡ place_of places id
    → at < length keys
found_within places keys id at all is = (subst (LeadsTo (has_id id) keys) (sym is) (all id)).0

pub found_none : (places : Places) (keys : List AccessKey) (id : List ℕ) → Finds places keys → None ≡ place_of places id
    → None ≡ find (has_id id) keys
found_none places keys id all is = sym (subst (LeadsTo (has_id id) keys) (sym is) (all id))

pub finds_nothing : (places : Places) → IsEmpty places → Finds places []
finds_nothing places empty = λ id.
    subst (λ entries. LeadsTo (has_id id) [] (lookup (λ (key : Vec ℕ). is_eq (slice_cmp nat_cmp id key.items)) entries)) (sym empty) refl

copied_some : (found : Option (Bor AccessKey)) → is_some found ≡ is_some (option_copied found)
copied_some None = refl
copied_some (Some key) = refl

pub there_where : (keys : List AccessKey) (test : AccessKey → Bool) (found : Option (Bor AccessKey)) (there : Bool) → option_copied found ≡ find test keys
    → there ≡ is_some found → there ≡ list_any test keys
there_where keys test found there is tested = tested ∙ copied_some found ∙ ap is_some is ∙ finds test keys

none_found : (found : Option AccessKey) → is_some found ≡ false → found ≡ None
none_found None none = refl
none_found (Some key) none = cc

-- no key has the id, where none had it before
none_before : (keys : List AccessKey) (test : AccessKey → Bool) → list_any test keys ≡ false → find test keys ≡ None
none_before keys test fresh = none_found (find test keys) (finds test keys ∙ fresh)

or_none : (found : Option AccessKey) → option_or found None ≡ found
or_none None = refl
or_none (Some key) = refl

find_last : (keys : List AccessKey) (key : AccessKey) (test : AccessKey → Bool) → list_any test keys ≡ false → test key ≡ true
    → find test (keys ++ key ∷ []) ≡ Some key
find_last keys key test fresh is =
    find-append test keys (key ∷ []) ∙ ap (λ found. option_or found (find test (key ∷ []))) (none_before keys test fresh)
    ∙ ap (λ b. cond b (Some key) None) is

find_past : (keys : List AccessKey) (key : AccessKey) (test : AccessKey → Bool) → test key ≡ false → find test (keys ++ key ∷ []) ≡ find test keys
find_past keys key test is =
    find-append test keys (key ∷ []) ∙ ap (λ b. option_or (find test keys) (cond b (Some key) None)) is ∙ or_none (find test keys)

get_same : (keys : List AccessKey) (key : AccessKey) (at : ℕ) → at < length keys → slice_get keys at ≡ slice_get (keys ++ key ∷ []) at
get_same keys key at within =
    let long : at < length (keys ++ key ∷ []) = omega (arith, within, length-append keys (key ∷ [])) in
    slice_get-get_or keys at key within ∙ ap Some (sym (get_or_append_left keys (key ∷ []) key at within))
    ∙ sym (slice_get-get_or (keys ++ key ∷ []) at key long)

-- another key at the end changes nothing
leads_past : (keys : List AccessKey) (key : AccessKey) (test : AccessKey → Bool) (place : Option ℕ) → test key ≡ false → LeadsTo test keys place
    → LeadsTo test (keys ++ key ∷ []) place
leads_past keys key test None is leads = find_past keys key test is ∙ leads
leads_past keys key test (Some at) is leads =
    (omega (arith, leads.0, length-append keys (key ∷ [])), find_past keys key test is ∙ leads.1 ∙ get_same keys key at leads.0)

leads_last : (keys : List AccessKey) (key : AccessKey) (id : List ℕ) → list_any (has_id key.id) keys ≡ false → bytes_eq key.id id ≡ true
    → LeadsTo (has_id id) (keys ++ key ∷ []) (Some (length keys))
leads_last keys key id fresh is =
    let others : list_any (has_id id) keys ≡ false = subst (λ (i : List ℕ). list_any (has_id i) keys ≡ false) ((bytes_eq-Decides key.id id).0 is) fresh in
    (omega (arith, length-append keys (key ∷ [])), find_last keys key (has_id id) others is ∙ sym (seam keys key []))

leads_by : (b : Bool) (keys : List AccessKey) (key : AccessKey) (id : List ℕ) (place : Option ℕ) → bytes_eq key.id id ≡ b
    → list_any (has_id key.id) keys ≡ false → LeadsTo (has_id id) keys place
    → LeadsTo (has_id id) (keys ++ key ∷ []) (cond b (Some (length keys)) place)
leads_by true keys key id place is fresh leads = leads_last keys key id fresh is
leads_by false keys key id place is fresh leads = leads_past keys key (has_id id) place is leads

same_truth : (a b : Bool) → (a ≡ true → b ≡ true) → (b ≡ true → a ≡ true) → a ≡ b
same_truth true b there back = sym (there refl)
same_truth false true there back = back refl
same_truth false false there back = refl

bytes_swap : (xs ys : List ℕ) → bytes_eq xs ys ≡ bytes_eq ys xs
bytes_swap xs ys =
    same_truth (bytes_eq xs ys) (bytes_eq ys xs) (λ e. (bytes_eq-Decides ys xs).1 (sym ((bytes_eq-Decides xs ys).0 e)))
    (λ e. (bytes_eq-Decides xs ys).1 (sym ((bytes_eq-Decides ys xs).0 e)))

abbrev is_named : List ℕ → Vec ℕ → Bool
is_named id key = is_eq (slice_cmp nat_cmp id key.items)

chosen_once : {A : Type 0} (b : Bool) (x y z : A) → cond b x z ≡ cond b x (cond b y z)
chosen_once true x y z = refl
chosen_once false x y z = refl

chosen_apart : {A : Type 0} (a b : Bool) (x y z : A) → (a ≡ true → b ≡ true → ⊥) → cond a x (cond b y z) ≡ cond b y (cond a x z)
chosen_apart true true x y z apart = absurd (apart refl refl)
chosen_apart true false x y z apart = refl
chosen_apart false b x y z apart = refl

-- an id in front of an entry, in its place, or behind it
entered_at : (order : Ordering) (id : List ℕ) (key : Vec ℕ) (at : ℕ) (entry : Vec ℕ × ℕ) (entries more : List (Vec ℕ × ℕ))
    → slice_cmp nat_cmp key.items entry.0.items ≡ order
    → lookup (is_named id) more ≡ cond (bytes_eq id key.items) (Some at) (lookup (is_named id) entries)
    → lookup (is_named id) (match_ordering order ((key, at) ∷ entry ∷ entries) ((entry.0, at) ∷ entries) (entry ∷ more))
    ≡ cond (bytes_eq id key.items) (Some at) (lookup (is_named id) (entry ∷ entries))
entered_at Less id key at entry entries more order is =
    ap (λ b. cond b (Some at) (lookup (is_named id) (entry ∷ entries))) (is_eq-slice_cmp id key.items)
entered_at Equal id key at entry entries more order is =
    let same : key.items ≡ entry.0.items =
    (bytes_eq-Decides key.items entry.0.items).0 (sym (is_eq-slice_cmp key.items entry.0.items) ∙ ap is_eq order) in
    let test : is_named id entry.0 ≡ bytes_eq id key.items = is_eq-slice_cmp id entry.0.items ∙ ap (bytes_eq id) (sym same) in
    ap (λ b. cond b (Some at) (lookup (is_named id) entries)) test
    ∙ chosen_once (bytes_eq id key.items) (Some at) (Some entry.1) (lookup (is_named id) entries)
    ∙ ap (λ b. cond (bytes_eq id key.items) (Some at) (cond b (Some entry.1) (lookup (is_named id) entries))) (sym test)
entered_at Greater id key at entry entries more order is =
    let other : bytes_eq key.items entry.0.items ≡ false = sym (is_eq-slice_cmp key.items entry.0.items) ∙ ap is_eq order in
    ap (cond (is_named id entry.0) (Some entry.1)) is
    ∙ chosen_apart (is_named id entry.0) (bytes_eq id key.items) (Some entry.1) (Some at) (lookup (is_named id) entries)
    (λ one two. apart id key.items entry.0.items other ((bytes_eq-Decides id key.items).0 two) ((bytes_eq-Decides id entry.0.items).0 (sym (is_eq-slice_cmp id entry.0.items) ∙ one)))
  where
    apart : (id one two : List ℕ) → bytes_eq one two ≡ false → id ≡ one → id ≡ two → ⊥
    apart id one two other is also =
        let same : bytes_eq one two ≡ true = (bytes_eq-Decides one two).1 (sym is ∙ also) in
        cc

entered : (id : List ℕ) (key : Vec ℕ) (at : ℕ) (entries : List (Vec ℕ × ℕ))
    → lookup (is_named id) (insert_entry key_cmp entries key at) ≡ cond (bytes_eq id key.items) (Some at) (lookup (is_named id) entries)
entered id key at [] = ap (λ b. cond b (Some at) None) (is_eq-slice_cmp id key.items)
entered id key at (entry ∷ entries) =
    entered_at (key_cmp key entry.0) id key at entry entries (insert_entry key_cmp entries key at) refl (entered id key at entries)

-- one more key, under its id
pub finds_more : (old new : Places) (keys : List AccessKey) (key : AccessKey) (name : Vec ℕ) (at : ℕ) → Finds old keys
    → list_any (has_id key.id) keys ≡ false → name.items ≡ key.id → at ≡ length keys → new.entries ≡ insert_entry key_cmp old.entries name at
    → Finds new (keys ++ key ∷ [])
finds_more old new keys key name at all fresh same last grown = λ id.
    let place : place_of new id ≡ cond (bytes_eq id key.id) (Some (length keys)) (place_of old id) =
    ap (lookup (is_named id)) grown ∙ entered id name at old.entries
    ∙ ap (λ (name : List ℕ). cond (bytes_eq id name) (Some at) (place_of old id)) same
    ∙ ap (λ n. cond (bytes_eq id key.id) (Some n) (place_of old id)) last in
    subst (LeadsTo (has_id id) (keys ++ key ∷ [])) (sym place)
    (leads_by (bytes_eq id key.id) keys key id (place_of old id) (bytes_swap key.id id) fresh (all id))

-- ---- copies

entries_same : (C : Vec ℕ → Vec ℕ → Type 0) (D : ℕ → ℕ → Type 0) → ((x y : Vec ℕ) → C x y → y.items ≡ x.items) → ((v w : ℕ) → D v w → w ≡ v)
    → (id : List ℕ) (old new : List (Vec ℕ × ℕ)) → AllZip (λ p q. C p.0 q.0 × D p.1 q.1) old new
    → lookup (is_named id) new ≡ lookup (is_named id) old
entries_same C D names places id [] [] all = refl
entries_same C D names places id [] (entry ∷ new) all = absurd all
entries_same C D names places id (entry ∷ old) [] all = absurd all
entries_same C D names places id (entry ∷ old) (other ∷ new) all =
    ap (λ (name : List ℕ). cond (is_eq (slice_cmp nat_cmp id name)) (Some other.1) (lookup (is_named id) new)) (names entry.0 other.0 all.0.0)
    ∙ ap (λ (at : ℕ). cond (is_named id entry.0) (Some at) (lookup (is_named id) new)) (places entry.1 other.1 all.0.1)
    ∙ ap (cond (is_named id entry.0) (Some entry.1)) (entries_same C D names places id old new all.1)

pub finds_copied : (C : Vec ℕ → Vec ℕ → Type 0) (D : ℕ → ℕ → Type 0) → ((x y : Vec ℕ) → C x y → y.items ≡ x.items) → ((v w : ℕ) → D v w → w ≡ v)
    → (old new : Places) (keys : List AccessKey) → AllZip (λ p q. C p.0 q.0 × D p.1 q.1) old.entries new.entries → Finds old keys → Finds new keys
finds_copied C D names places old new keys all finds = λ id.
    subst (LeadsTo (has_id id) keys) (sym (entries_same C D names places id old.entries new.entries all)) (finds id)
