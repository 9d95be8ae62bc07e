-- The names of a page, taken one by one.
use Rattle.std.proofs.Common.{◌≡◌, ℕ, ◌+◌, ◌≤◌, ◌<◌, Bool, true, false, not, ◌&&◌, nat_lt, List, [], ◌∷◌, ◌++◌, length, map, take, drop, get_or, refl, sym, ap, subst, ◌∙◌, suc, append_assoc, lt-ltb}
use Rattle.std.specs.List.{list_all}
use Rattle.std.proofs.lemmas.Bool.{and_parts}
use Rattle.std.proofs.lemmas.List.{append-nil, map-append, take_more, take-append-drop, take_all}
use Rattle.std.proofs.lemmas.List.Folds.{list_all-append}
use Rattle.std.proofs.Math.Seq.{drop-cons}
use Rattle.s3_machine.specs.Items.{begins}
use Rattle.s3_machine.specs.declared.items.ItemHead.{ItemHead}
use Rattle.swift_calls.specs.declared.heads.NameItem.{NameItem}
use Rattle.list_pages.specs.Listing.{is_listed_name_with_prefix, last_of, name_in}
use Rattle.list_pages.specs.Rolling.{Before, Rises, Rolled}
use Rattle.list_pages.specs.Rolls.{Rolls, rows_of, seen_of}
use Rattle.list_pages.proofs.Follows.{last_more}
use Rattle.list_pages.proofs.lemmas.Pages.{roll_rest}

-- of further keys, those up to a place and those from there on
pub rises_cut : {H : Type 0} (prefix : List ℕ) (seen front rest : List (List ℕ × H)) → Rises prefix seen (front ++ rest) → Rises prefix (seen ++ front) rest
rises_cut prefix seen [] rest r = subst (λ l. Rises prefix l rest) (sym (append-nil seen)) r
rises_cut prefix seen (k ∷ front) rest r = subst (λ l. Rises prefix l rest) (append_assoc seen (k ∷ []) front) (rises_cut prefix (seen ++ k ∷ []) front rest r.2)

-- the first i names were taken
pub record Paged (old now : Rolls) (page : List NameItem) (i : ℕ) : Type 0 where
  pub wanted : now.wanted ≡ old.wanted
  pub room : now.more ≡ false
  pub last : now.last ≡ last_of old.last (map name_in (take i page))
  pub rolled : (seen : List (List ℕ × ItemHead)) → Rolled old.wanted (rows_of old.items) old.more seen → Rises old.wanted.prefix seen (map seen_of page)
      → Rolled now.wanted (rows_of now.items) now.more (seen ++ map seen_of (take i page))

pub paged_none : (old : Rolls) (page : List NameItem) → old.more ≡ false → Paged old old page 0
paged_none old page room = record { wanted = refl; room = room; last = refl; rolled = λ seen r rises. subst (λ l. Rolled old.wanted (rows_of old.items) old.more l) (sym (append-nil seen)) r }

module _ {old now : Rolls} {page : List NameItem} {i : ℕ} (paged : Paged old now page i) (item : NameItem) (within : i < length page) (is : item ≡ get_or page i item) where
  here : page ≡ take i page ++ item ∷ drop (suc i) page
  here = sym (take-append-drop i page) ∙ ap (λ l. take i page ++ l) (drop-cons page i item within ∙ ap (λ x. x ∷ drop (suc i) page) (sym is))

  more : take (i + 1) page ≡ take i page ++ item ∷ []
  more = take_more page i item within ∙ ap (λ x. take i page ++ x ∷ []) (sym is)

  -- the name at the place begins with the prefix
  pub paged_fits : list_all (is_listed_name_with_prefix old.wanted.prefix) (map name_in page) ≡ true → begins now.wanted.prefix item.name ≡ true
  paged_fits named =
      let cut = sym (list_all-append (is_listed_name_with_prefix old.wanted.prefix) (map name_in (take i page)) (item.name ∷ map name_in (drop (suc i) page)))
      ∙ ap (list_all (is_listed_name_with_prefix old.wanted.prefix)) (sym (ap (map name_in) here ∙ map-append name_in (take i page) (item ∷ drop (suc i) page))) ∙ named in
      let rest = and_parts (list_all (is_listed_name_with_prefix old.wanted.prefix) (map name_in (take i page))) (list_all (is_listed_name_with_prefix old.wanted.prefix) (item.name ∷ map name_in (drop (suc i) page))) cut in
      let one = and_parts (is_listed_name_with_prefix old.wanted.prefix item.name) (list_all (is_listed_name_with_prefix old.wanted.prefix) (map name_in (drop (suc i) page))) rest.1 in
      ap (λ w. begins w item.name) (ap (λ w. w.prefix) paged.wanted) ∙ (and_parts _ (begins old.wanted.prefix item.name) one.0).1

  module _ (new : Rolls) (wanted : new.wanted ≡ now.wanted) (rolled : (seen : List (List ℕ × ItemHead)) → Rolled now.wanted (rows_of now.items) now.more seen → Before item.name seen
      → Rolled new.wanted (rows_of new.items) new.more (seen ++ seen_of item ∷ [])) where
    next : (seen : List (List ℕ × ItemHead)) → Rolled old.wanted (rows_of old.items) old.more seen → Rises old.wanted.prefix seen (map seen_of page)
        → Rolled new.wanted (rows_of new.items) new.more (seen ++ map seen_of (take (i + 1) page))
    next seen r rises =
        let cut = rises_cut old.wanted.prefix seen (map seen_of (take i page)) (seen_of item ∷ map seen_of (drop (suc i) page))
        (subst (λ l. Rises old.wanted.prefix seen l) (ap (map seen_of) here ∙ map-append seen_of (take i page) (item ∷ drop (suc i) page)) rises) in
        subst (λ l. Rolled new.wanted (rows_of new.items) new.more l)
        (append_assoc seen (map seen_of (take i page)) (seen_of item ∷ []) ∙ ap (λ l. seen ++ l) (sym (ap (map seen_of) more ∙ map-append seen_of (take i page) (item ∷ []))))
        (rolled (seen ++ map seen_of (take i page)) (paged.rolled seen r rises) cut.1)

    pub paged_more : new.more ≡ false → new.last ≡ item.name → Paged old new page (i + 1)
    paged_more room last = record {
      wanted = wanted ∙ paged.wanted;
      room = room;
      last = last ∙ sym (ap (last_of old.last) (ap (map name_in) more ∙ map-append name_in (take i page) (item ∷ [])) ∙ last_more old.last (map name_in (take i page)) item.name);
      rolled = next;
    }

    -- the answer is full
    pub paged_full : new.more ≡ true → (seen : List (List ℕ × ItemHead)) → Rolled old.wanted (rows_of old.items) old.more seen → Rises old.wanted.prefix seen (map seen_of page)
        → Rolled new.wanted (rows_of new.items) new.more (seen ++ map seen_of page)
    paged_full full seen r rises =
        let all = ap (map seen_of) (sym (take-append-drop (i + 1) page)) ∙ map-append seen_of (take (i + 1) page) (drop (i + 1) page) in
        let cut = rises_cut old.wanted.prefix seen (map seen_of (take (i + 1) page)) (map seen_of (drop (i + 1) page)) (subst (λ l. Rises old.wanted.prefix seen l) all rises) in
        subst (λ l. Rolled new.wanted (rows_of new.items) new.more l)
        (append_assoc seen (map seen_of (take (i + 1) page)) (map seen_of (drop (i + 1) page)) ∙ ap (λ l. seen ++ l) (sym all))
        (roll_rest new.wanted (rows_of new.items) new.more (seen ++ map seen_of (take (i + 1) page)) (map seen_of (drop (i + 1) page)) full
        (subst (λ w. Rises w (seen ++ map seen_of (take (i + 1) page)) (map seen_of (drop (i + 1) page))) (sym (ap (λ w. w.prefix) (wanted ∙ paged.wanted))) cut)
        (next seen r rises))

-- whether it is full, where items are wanted
pub is_full : (goes more : Bool) (max : ℕ) → 0 < max → goes ≡ (nat_lt 0 max && not more) → goes ≡ false → more ≡ true
is_full goes true max some is h = refl
is_full goes false max some is h = let k : true ≡ false = sym (ap (λ t. t && true) (lt-ltb 0 max some)) ∙ sym is ∙ h in cc k

pub has_room : (goes more : Bool) (max : ℕ) → goes ≡ (nat_lt 0 max && not more) → goes ≡ true → more ≡ false
has_room goes false max is h = refl
has_room goes true max is h = let k : true ≡ false = sym h ∙ is ∙ none (nat_lt 0 max) in cc k
  where
    none : (b : Bool) → (b && false) ≡ false
    none true = refl
    none false = refl

pub paged_end : {old now : Rolls} {page : List NameItem} {i : ℕ} → Paged old now page i → length page ≤ i → (seen : List (List ℕ × ItemHead)) → Rolled old.wanted (rows_of old.items) old.more seen
    → Rises old.wanted.prefix seen (map seen_of page) → Rolled now.wanted (rows_of now.items) now.more (seen ++ map seen_of page)
paged_end {now = now} {page = page} {i = i} paged end seen r rises = subst (λ l. Rolled now.wanted (rows_of now.items) now.more (seen ++ map seen_of l)) (take_all i page end) (paged.rolled seen r rises)
