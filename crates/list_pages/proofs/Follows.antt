-- Names that come one after the other.
use Rattle.std.proofs.Common.{◌≡◌, ◌≢◌, ℕ, ◌+◌, ◌≤◌, ◌<◌, Bool, true, false, ◌&&◌, List, [], ◌∷◌, ◌++◌, length, map, take, drop, get_or, refl, sym, ap, subst, ◌∙◌, arith, suc}
use Rattle.std.specs.List.{list_all}
use Rattle.std.specs.Ordering.{is_lt}
use Rattle.std.specs.declared.cmp.Ordering.{Ordering}
use Rattle.std.specs.declared.cmp.Ordering.TheVariants.{Less, Equal, Greater}
use Rattle.std.proofs.lemmas.Bool.{and_parts, and_from}
use Rattle.std.proofs.lemmas.List.{length-append, length-map, length-take, map-append, take_more, take-append-drop, take_all}
use Rattle.std.proofs.lemmas.List.Folds.{list_all-append}
use Rattle.std.proofs.Math.Seq.{drop-cons}
use Rattle.gate_base.specs.Maps.{name_cmp}
use Rattle.swift_calls.specs.declared.heads.NameItem.{NameItem}
use Rattle.list_pages.specs.Listing.{last_of, Ascends, IsPageOf, BreaksAt, is_listed_name_with_prefix, follows, name_in}

pub last_more : (marker : List ℕ) (names : List (List ℕ)) (name : List ℕ) → last_of marker (names ++ name ∷ []) ≡ name
last_more marker [] name = refl
last_more marker (n ∷ names) name = last_more n names name

is_less : (o : Ordering) → is_lt o ≡ true → o ≡ Less
is_less Less h = refl
is_less Equal h = cc h
is_less Greater h = cc h

ascends_more : (marker : List ℕ) (names : List (List ℕ)) (name : List ℕ) → Ascends marker names → name_cmp (last_of marker names) name ≡ Less → Ascends marker (names ++ name ∷ [])
ascends_more marker [] name h less = (less, tt)
ascends_more marker (n ∷ names) name h less = (h.0, ascends_more n names name h.1 less)

ascends_last : (marker : List ℕ) (names : List (List ℕ)) (name : List ℕ) → Ascends marker (names ++ name ∷ []) → name_cmp (last_of marker names) name ≡ Less
ascends_last marker [] name h = h.0
ascends_last marker (n ∷ names) name h = ascends_last n names name h.1

one : (b : Bool) → (b && true) ≡ b
one true = refl
one false = refl

module _ (prefix marker : List ℕ) (names : List (List ℕ)) (name : List ℕ) (page : IsPageOf prefix marker names) where
  -- a name that follows makes a longer page
  pub page_more : length names < 1000 → follows prefix (last_of marker names) name ≡ true → IsPageOf prefix marker (names ++ name ∷ [])
  page_more room h =
      let parts = and_parts (is_lt (name_cmp (last_of marker names) name)) (is_listed_name_with_prefix prefix name) h in
      record {
        within = omega (arith, length-append names (name ∷ []));
        ascends = ascends_more marker names name page.ascends (is_less (name_cmp (last_of marker names) name) parts.0);
        named = list_all-append (is_listed_name_with_prefix prefix) names (name ∷ []) ∙ and_from _ _ page.named (one (is_listed_name_with_prefix prefix name) ∙ parts.1);
      }

  -- and one that doesn't makes none
  pub page_not : follows prefix (last_of marker names) name ≡ false → IsPageOf prefix marker (names ++ name ∷ []) → ⊥
  page_not h more =
      let less = ascends_last marker names name more.ascends in
      let both = and_parts (list_all (is_listed_name_with_prefix prefix) names) (is_listed_name_with_prefix prefix name && true) (sym (list_all-append (is_listed_name_with_prefix prefix) names (name ∷ [])) ∙ more.named) in
      let k : true ≡ false = sym (and_from _ _ (ap is_lt less) (sym (one (is_listed_name_with_prefix prefix name)) ∙ both.1)) ∙ h in
      cc k

  pub page_full : length names ≡ 1000 → IsPageOf prefix marker (names ++ name ∷ []) → ⊥
  page_full full more = let within = more.within in absurd (omega (arith, length-append names (name ∷ []), full, within))

pub page_none : (prefix marker : List ℕ) → IsPageOf prefix marker []
page_none prefix marker = record { within = omega arith; ascends = tt; named = refl }

-- ---- the search

-- so far the items are a page
pub record Follow (prefix marker last : List ℕ) (items : List NameItem) (i : ℕ) : Type 0 where
  pub near : i ≤ 1000
  pub at_last : last ≡ last_of marker (map name_in (take i items))
  pub page : IsPageOf prefix marker (map name_in (take i items))

pub follow_none : (prefix marker : List ℕ) (items : List NameItem) → Follow prefix marker marker items 0
follow_none prefix marker items = record { near = omega arith; at_last = refl; page = page_none prefix marker }

module _ (prefix marker last : List ℕ) (items : List NameItem) (i : ℕ) (f : Follow prefix marker last items i) (d : NameItem) (within : i < length items) where
  abbrev front : List (List ℕ)
  front = map name_in (take i items)

  abbrev item : NameItem
  item = get_or items i d

  front_long : length front ≡ i
  front_long = length-map (take i items) name_in ∙ omega (arith, length-take i items)

  next : map name_in (take (i + 1) items) ≡ front ++ item.name ∷ []
  next = ap (map name_in) (take_more items i d within) ∙ map-append name_in (take i items) (item ∷ [])

  all : map name_in items ≡ front ++ item.name ∷ map name_in (drop (suc i) items)
  all = ap (map name_in) (sym (take-append-drop i items) ∙ ap (λ l. take i items ++ l) (drop-cons items i d within)) ∙ map-append name_in (take i items) (item ∷ drop (suc i) items)

  pub follow_more : i ≢ 1000 → follows prefix last item.name ≡ true → Follow prefix marker item.name items (i + 1)
  follow_more other h =
      let near = f.near in
      let long = front_long in
      record {
        near = omega (arith, near, other);
        at_last = sym (ap (last_of marker) next ∙ last_more marker front item.name);
        page = subst (IsPageOf prefix marker) (sym next) (page_more prefix marker front item.name f.page (omega (arith, near, long, other)) (ap (λ l. follows prefix l item.name) (sym f.at_last) ∙ h));
      }

  odd : (IsPageOf prefix marker (front ++ item.name ∷ []) → ⊥) → BreaksAt prefix marker (map name_in items) item.name
  odd never = record { front = front; rest = map name_in (drop (suc i) items); at = all; sound = f.page; odd = never }

  pub follow_full : i ≡ 1000 → BreaksAt prefix marker (map name_in items) item.name
  follow_full full = odd (page_full prefix marker front item.name f.page (front_long ∙ full))

  pub follow_not : follows prefix last item.name ≡ false → BreaksAt prefix marker (map name_in items) item.name
  follow_not h = odd (page_not prefix marker front item.name f.page (ap (λ l. follows prefix l item.name) (sym f.at_last) ∙ h))

pub follow_end : (prefix marker last : List ℕ) (items : List NameItem) (i : ℕ) → Follow prefix marker last items i → length items ≤ i → IsPageOf prefix marker (map name_in items)
follow_end prefix marker last items i f end = subst (λ l. IsPageOf prefix marker (map name_in l)) (take_all i items end) f.page

-- the same of an item that was found at its place
module _ {prefix marker last : List ℕ} {items : List NameItem} {i : ℕ} (f : Follow prefix marker last items i) (item : NameItem) (within : i < length items) (is : item ≡ get_or items i item) where
  pub follow_full_at : i ≡ 1000 → BreaksAt prefix marker (map name_in items) item.name
  follow_full_at full = subst (λ (x : NameItem). BreaksAt prefix marker (map name_in items) x.name) (sym is) (follow_full prefix marker last items i f item within full)

  pub follow_not_at : {name : List ℕ} → name ≡ item.name → follows prefix last name ≡ false → BreaksAt prefix marker (map name_in items) item.name
  follow_not_at named h = subst (λ (x : NameItem). BreaksAt prefix marker (map name_in items) x.name) (sym is)
      (follow_not prefix marker last items i f item within (ap (λ (x : NameItem). follows prefix last x.name) (sym is) ∙ ap (follows prefix last) (sym named) ∙ h))

  pub follow_more_at : {name : List ℕ} → name ≡ item.name → i ≢ 1000 → follows prefix last name ≡ true → Follow prefix marker name items (i + 1)
  follow_more_at named other h = subst (λ n. Follow prefix marker n items (i + 1)) (sym (named ∙ ap (λ (x : NameItem). x.name) is))
      (follow_more prefix marker last items i f item within other (ap (λ (x : NameItem). follows prefix last x.name) (sym is) ∙ ap (follows prefix last) (sym named) ∙ h))
