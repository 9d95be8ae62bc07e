-- Listings in JSON, as they are written.
use Rattle.std.proofs.Common.{◌≡◌, ℕ, zero, suc, ◌+◌, ◌^◌, ◌<◌, Bool, true, false, List, [], ◌∷◌, ◌++◌, length, get_or, map, take, refl, sym, ap, ◌∙◌, arith}
use Rattle.std.proofs.Common.{Vec, Global}
use Rattle.std.specs.Prelude.{Result, Ok, Err, IfOk}
use Rattle.std.specs.List.{list_all}
use Rattle.std.specs.Str.{is_utf8}
use Rattle.std.proofs.lemmas.Bool.{and_parts, ltb-true}
use Rattle.std.proofs.lemmas.List.{take_more, map-append}
use Rattle.serde_json.specs.Data.{Data, array}
use Rattle.serde_json.specs.View.{view, items_of}
use Rattle.serde_json.specs.Written.{has_float, items_have_float, compact_text}
use Rattle.serde_json.specs.declared.value.Value.{Value, Array}
use Rattle.serde_json.proofs.Views.{view-Array}
use Rattle.swift_calls.specs.declared.heads.NameItem.{NameItem}
use Rattle.swift_replies.specs.AnswerText.{list_text, is_spelled_name_item}

-- ---- what an entry that is written has

pub record Parts (i : NameItem) : Type 0 where
  pub name : is_utf8 i.name ≡ true
  pub hash : is_utf8 i.hash ≡ true
  pub content_type : is_utf8 i.content_type ≡ true
  pub size : i.size < 10 ^ 19

pub parts_of : (i : NameItem) → is_spelled_name_item i ≡ true → Parts i
parts_of i fine =
    let first = and_parts (is_utf8 i.name) _ fine in
    let second = and_parts (is_utf8 i.hash) _ first.1 in
    let third = and_parts (is_utf8 i.content_type) _ second.1 in
    record { name = first.0; hash = second.0; content_type = third.0; size = ltb-true i.size (10 ^ 19) third.1 }

pub name_is_utf8 : (i : NameItem) → is_spelled_name_item i ≡ true → is_utf8 i.name ≡ true
name_is_utf8 i fine = (parts_of i fine).name

pub hash_is_utf8 : (i : NameItem) → is_spelled_name_item i ≡ true → is_utf8 i.hash ≡ true
hash_is_utf8 i fine = (parts_of i fine).hash

pub type_is_utf8 : (i : NameItem) → is_spelled_name_item i ≡ true → is_utf8 i.content_type ≡ true
type_is_utf8 i fine = (parts_of i fine).content_type

-- ---- entries

passes_at : {X : Type 0} (test : X → Bool) (xs : List X) (i : ℕ) (d : X) → list_all test xs ≡ true → i < length xs → test (get_or xs i d) ≡ true
passes_at test [] i d h below = absurd (omega (arith, below))
passes_at test (x ∷ rest) zero d h below = (and_parts (test x) (list_all test rest) h).0
passes_at test (x ∷ rest) (suc i) d h below = passes_at test rest i d (and_parts (test x) (list_all test rest) h).1 (omega (arith, below))

-- each passes where all do
pub passes : {X : Type 0} (test : X → Bool) (xs : List X) (i : ℕ) (x : X) → list_all test xs ≡ true → i < length xs → x ≡ get_or xs i x → test x ≡ true
passes test xs i x h below same = ap test same ∙ passes_at test xs i x h below

-- one more item of a list that is made item by item
pub map_more : {X Y : Type 0} (f : X → Y) (xs : List X) (i : ℕ) (x : X) → i < length xs → x ≡ get_or xs i x
    → map f (take (i + 1) xs) ≡ map f (take i xs) ++ f x ∷ []
map_more f xs i x below same = ap (map f) (take_more xs i x below ∙ ap (λ t. take i xs ++ t ∷ []) (sym same)) ∙ map-append f (take i xs) (x ∷ [])

-- ---- no entry has a float

pub no_float_in : {X : Type 0} (entry : X → Data) → ((x : X) → has_float (entry x) ≡ false) → (xs : List X) → items_have_float (items_of (map entry xs)) ≡ false
no_float_in entry none [] = refl
no_float_in entry none (x ∷ xs) = rw (none x) (no_float_in entry none xs)

-- the text of a list of entries
text_written : (values : Vec Value Global) (entries : List Data) (text : List ℕ) → map view values.items ≡ entries
    → items_have_float (items_of entries) ≡ false
    → (has_float (view (Array values)) ≡ false → text ≡ compact_text (view (Array values))) → text ≡ list_text entries
text_written values entries text made plain spelled =
    let same : view (Array values) ≡ array (items_of entries) = view-Array values ∙ ap (λ ds. array (items_of ds)) made in
    spelled (ap has_float same ∙ plain) ∙ ap compact_text same

-- the same of what writing it answers
pub text_of_entries : {E : Type 0} (values : Vec Value Global) (entries : List Data) (written : Result (List ℕ) E) → map view values.items ≡ entries
    → items_have_float (items_of entries) ≡ false
    → IfOk written (λ text. has_float (view (Array values)) ≡ false → text ≡ compact_text (view (Array values))) → IfOk written (λ text. text ≡ list_text entries)
text_of_entries values entries (Ok text) made plain spelled = text_written values entries text made plain spelled
text_of_entries values entries (Err fault) made plain spelled = spelled
