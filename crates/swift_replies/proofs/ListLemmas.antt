-- Listings in JSON, entry by entry.
use Rattle.std.proofs.Common.{◌≡◌, ℕ, zero, suc, ◌+◌, ◌<◌, ◌≤◌, Bool, true, false, cond, List, [], ◌∷◌, ◌++◌, length, get_or, take, Option, Some, None, option_and_then, refl, sym, ap, ◌∙◌, arith}
use Rattle.std.specs.Str.{IsUtf8, is_utf8}
use Rattle.std.proofs.lemmas.Str.{is_utf8-from_IsUtf8, IsUtf8-from_is_utf8}
use Rattle.std.proofs.lemmas.List.{take_more, take_all}
use Rattle.json.specs.Find.{as_array}
use Rattle.json.specs.Json.{Json, no_items, document}
use Rattle.json.specs.Value.{value_view, items_view}
use Rattle.json.specs.declared.value.Value.{Value}
use Rattle.swift_replies.specs.Answers.{both, each, items_in, listing_json}

-- ---- the JSON of a text

pub json_read : (text : List ℕ) (json : Json) → IsUtf8 text → document text ≡ Some json → Some json ≡ listing_json text
json_read text json utf8 h = rw (is_utf8-from_IsUtf8 text utf8) (sym h)

refused_at : (b : Bool) (text : List ℕ) → is_utf8 text ≡ b → (IsUtf8 text → document text ≡ None) → None ≡ cond b (document text) None
refused_at true text e h = sym (h (IsUtf8-from_is_utf8 text e))
refused_at false text e h = refl

abbrev no_json : Option Json
no_json = None

pub json_refused : (text : List ℕ) → (IsUtf8 text → document text ≡ None) → no_json ≡ listing_json text
json_refused text h = refused_at (is_utf8 text) text refl h

-- ---- entries

abbrev nothing : {A : Type 0} → Option (List A)
nothing = None

pub listed_no_json : {A : Type 0} (f : Json → Option A) (text : List ℕ) → no_json ≡ listing_json text → nothing ≡ option_and_then (each f) (items_in text)
listed_no_json f text none = ap (λ json. option_and_then (each f) (option_and_then as_array json)) none

pub listed : {A : Type 0} (f : Json → Option A) (text : List ℕ) (json : Json) → Some json ≡ listing_json text
    → option_and_then (each f) (as_array json) ≡ option_and_then (each f) (items_in text)
listed f text json some = ap (λ found. option_and_then (each f) (option_and_then as_array found)) some

abbrev front : {A : Type 0} → Option A → Option (List A) → Option (List A)
front o rest = both (λ first others. first ∷ others) o rest

abbrev back : {A : Type 0} → Option (List A) → Option A → Option (List A)
back None o = None
back (Some firsts) None = None
back (Some firsts) (Some last) = Some (firsts ++ last ∷ [])

one_back : {A : Type 0} (o : Option A) → front o (Some []) ≡ back (Some []) o
one_back None = refl
one_back (Some a) = refl

front_back : {A : Type 0} (p : Option A) (q : Option (List A)) (o : Option A) → front p (back q o) ≡ back (front p q) o
front_back None q o = refl
front_back (Some a) None o = refl
front_back (Some a) (Some firsts) None = refl
front_back (Some a) (Some firsts) (Some last) = refl

each_back : {A B : Type 0} (f : Json → Option A) (values : List (Value B)) (value : Value B)
    → each f (items_view (values ++ value ∷ [])) ≡ back (each f (items_view values)) (f (value_view value))
unfolding each
each_back f [] value = one_back (f (value_view value))
each_back f (v ∷ values) value =
    ap (front (f (value_view v))) (each_back f values value) ∙ front_back (f (value_view v)) (each f (items_view values)) (f (value_view value))

-- no entry yet
pub each_start : {A : Type 0} (f : Json → Option A) (firsts : List A) → firsts ≡ [] → each f no_items ≡ Some firsts
unfolding each
each_start f firsts none = ap Some (sym none)

-- one entry more
pub each_more : {A B : Type 0} (f : Json → Option A) (values : List (Value B)) (i : ℕ) (value : Value B) (firsts : List A) (last : A)
    → each f (items_view (take i values)) ≡ Some firsts → i < length values → value ≡ get_or values i value → f (value_view value) ≡ Some last
    → each f (items_view (take (i + 1) values)) ≡ Some (firsts ++ last ∷ [])
each_more f values i value firsts last upto within same is =
    ap (λ vs. each f (items_view vs)) (take_more values i value within ∙ ap (λ v. take i values ++ v ∷ []) (sym same))
    ∙ each_back f (take i values) value ∙ ap (λ rest. back rest (f (value_view value))) upto ∙ ap (back (Some firsts)) is

front_none : {A : Type 0} (o : Option A) → nothing ≡ front o None
front_none None = refl
front_none (Some a) = refl

-- an entry that says nothing
pub each_none : {A B : Type 0} (f : Json → Option A) (values : List (Value B)) (i : ℕ) (value : Value B)
    → i < length values → value ≡ get_or values i value → f (value_view value) ≡ None → nothing ≡ each f (items_view values)
unfolding each
each_none f [] i value within same none = absurd (omega (arith, within))
each_none f (v ∷ values) zero value within same none =
    sym (ap (λ o. front o (each f (items_view values))) (ap (λ x. f (value_view x)) (sym same) ∙ none))
each_none f (v ∷ values) (suc i) value within same none =
    front_none (f (value_view v)) ∙ ap (front (f (value_view v))) (each_none f values i value (omega (arith, within)) same none)

pub each_all : {A B : Type 0} (f : Json → Option A) (values : List (Value B)) (i : ℕ) (firsts : List A)
    → each f (items_view (take i values)) ≡ Some firsts → length values ≤ i → Some firsts ≡ each f (items_view values)
each_all f values i firsts upto past = sym upto ∙ ap (λ vs. each f (items_view vs)) (take_all i values past)
