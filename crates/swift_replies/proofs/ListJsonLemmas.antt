-- The text of a listing is read as the JSON that it was written for, and that as the listing.
use Rattle.std.proofs.Common.{◌≡◌, ℕ, ◌^◌, ◌<◌, ◌≤◌, Bool, true, false, List, [], ◌∷◌, ◌++◌, map, codes, decimal, IsUtf8, Option, Some, option_and_then, refl, sym, ap, ◌∙◌, arith, lit≤}
use Rattle.std.specs.Prelude.{⊤}
use Rattle.std.specs.List.{list_all}
use Rattle.std.specs.Str.{is_utf8}
use Rattle.std.proofs.lemmas.Bool.{and_parts}
use Rattle.std.proofs.lemmas.Fmt.{IsAscii-decimal}
use Rattle.std.proofs.lemmas.Str.{IsUtf8-append, IsUtf8-from_ascii, IsUtf8-from_is_utf8, IsUtf8-nil}
use Rattle.json.specs.Find.{as_array}
use Rattle.json.specs.Json as json
use Rattle.json.specs.Print.{quoted}
use Rattle.json.specs.Tree as tree
use Rattle.json.proofs.Printed.Decimals.{IsNumber-decimal}
use Rattle.json.proofs.Printed.Trees.{document-print}
use Rattle.json.proofs.Printed.Utf8.{are_ascii, IsUtf8-are_ascii, IsUtf8-quoted}
use Rattle.serde_json.specs.Data.{Data, array, Items, no_items, item}
use Rattle.serde_json.specs.View.{items_of}
use Rattle.serde_json.specs.Written.{outline, items_outline, comma_if, compact_text, items_text}
use Rattle.serde_json.proofs.Texts.{print-outline}
use Rattle.swift_calls.specs.declared.heads.NameItem.{NameItem}
use Rattle.text_forms.proofs.lemmas.Decimals.{number_of_decimal}
use Rattle.swift_replies.specs.Answers.{each, container_name, item_from, name_item, items_in}
use Rattle.swift_replies.specs.AnswerText.{container_value, item_value, is_spelled_name_item, list_text}
use Rattle.swift_replies.proofs.ListLemmas.{json_read}
use Rattle.swift_replies.proofs.ListTextLemmas.{parts_of}

-- ---- UTF-8

comma : (later : Bool) → IsUtf8 (comma_if later)
comma true = IsUtf8-are_ascii (44 ∷ []) refl
comma false = IsUtf8-nil

-- behind an ASCII byte
behind : (byte : ℕ) (text : List ℕ) → are_ascii (byte ∷ []) ≡ true → IsUtf8 text → IsUtf8 (byte ∷ text)
behind byte text small utf8 = IsUtf8-append (byte ∷ []) text (IsUtf8-are_ascii (byte ∷ []) small) utf8

-- one member more, and what follows it
one_member : (later : Bool) (key text rest : List ℕ) → are_ascii key ≡ true → IsUtf8 text → IsUtf8 rest
    → IsUtf8 (comma_if later ++ (quoted key ++ 58 ∷ (text ++ rest)))
one_member later key text rest small value others =
    IsUtf8-append (comma_if later) _ (comma later)
    (IsUtf8-append (quoted key) _ (IsUtf8-quoted key (IsUtf8-are_ascii key small)) (behind 58 _ refl (IsUtf8-append text rest value others)))

closed : IsUtf8 (125 ∷ [])
closed = IsUtf8-are_ascii (125 ∷ []) refl

-- ---- a list of entries

-- an entry whose text is read as the JSON that it is the outline of
pub record IsRead (d : Data) : Type 0 where
  pub numbers : tree.HasNumbers (outline d)
  pub flat : tree.depth (outline d) ≡ 1
  pub text : IsUtf8 (compact_text d)

abbrev AreRead : Items → Type 0
AreRead no_items = ⊤
AreRead (item d ds) = IsRead d × AreRead ds

items_numbers : (ds : Items) → AreRead ds → tree.ItemsHaveNumbers (items_outline ds)
items_numbers no_items all = tt
items_numbers (item d ds) all = (all.0.numbers, items_numbers ds all.1)

items_flat : (ds : Items) → AreRead ds → tree.items_depth (items_outline ds) ≤ 1
items_flat no_items all = omega arith
items_flat (item d ds) all = omega (arith, all.0.flat, items_flat ds all.1)

items_utf8 : (later : Bool) (ds : Items) → AreRead ds → IsUtf8 (items_text later ds)
items_utf8 later no_items all = IsUtf8-are_ascii (93 ∷ []) refl
items_utf8 later (item d ds) all =
    IsUtf8-append (comma_if later) _ (comma later) (IsUtf8-append (compact_text d) _ all.0.text (items_utf8 true ds all.1))

text_value : (ds : Items) → AreRead ds → json.document (compact_text (array ds)) ≡ Some (outline (array ds))
text_value ds all =
    let shallow : tree.depth (outline (array ds)) ≤ json.max_depth = omega (arith, items_flat ds all) in
    ap json.document (sym (print-outline (array ds))) ∙ document-print (outline (array ds)) (items_numbers ds all) shallow

items_back : (ds : Items) → AreRead ds → items_in (compact_text (array ds)) ≡ Some (items_outline ds)
items_back ds all =
    ap (option_and_then as_array) (sym (json_read (compact_text (array ds)) (outline (array ds)) (behind 91 _ refl (items_utf8 false ds all)) (text_value ds all)))

module _ {X : Type 0} (test : X → Bool) (entry : X → Data) (f : json.Json → Option X)
    (written : (x : X) → test x ≡ true → IsRead (entry x)) (back : (x : X) → test x ≡ true → f (outline (entry x)) ≡ Some x) where
  are_read : (xs : List X) → list_all test xs ≡ true → AreRead (items_of (map entry xs))
  are_read [] all = tt
  are_read (x ∷ xs) all =
      let parts = and_parts (test x) (list_all test xs) all in
      (written x parts.0, are_read xs parts.1)

  each_back : (xs : List X) → list_all test xs ≡ true → each f (items_outline (items_of (map entry xs))) ≡ Some xs
  unfolding each
  each_back [] all = refl
  each_back (x ∷ xs) all =
      let parts = and_parts (test x) (list_all test xs) all in
      rw (back x parts.0, each_back xs parts.1) refl

  -- the text of a list is read as the list
  pub list_back : (xs : List X) → list_all test xs ≡ true → option_and_then (each f) (items_in (list_text (map entry xs))) ≡ Some xs
  list_back xs all = ap (option_and_then (each f)) (items_back (items_of (map entry xs)) (are_read xs all)) ∙ each_back xs all

-- ---- the entries of both listings

utf8_number : (n : ℕ) → n < 2 ^ 64 → IsUtf8 (decimal n)
utf8_number n fits = IsUtf8-from_ascii (decimal n) (IsAscii-decimal n fits)

utf8_text : (text : List ℕ) → is_utf8 text ≡ true → IsUtf8 (quoted text)
utf8_text text fine = IsUtf8-quoted text (IsUtf8-from_is_utf8 text fine)

zero_fits : 0 < 2 ^ 64
zero_fits = omega arith

parts_fit : (n : ℕ) → n < 10 ^ 19 → n < 2 ^ 64
parts_fit n fits = omega (arith, fits)

pub container_read : (name : List ℕ) → is_utf8 name ≡ true → IsRead (container_value name)
container_read name fine = record {
  numbers = (IsNumber-decimal 0 zero_fits, (IsNumber-decimal 0 zero_fits, (tt, tt)));
  flat = refl;
  text =
      behind 123 _ refl
      (one_member false (codes "bytes") _ _ refl (utf8_number 0 zero_fits)
      (one_member true (codes "count") _ _ refl (utf8_number 0 zero_fits)
      (one_member true (codes "name") _ _ refl (utf8_text name fine) closed)));
}

pub container_back : (name : List ℕ) → is_utf8 name ≡ true → container_name (outline (container_value name)) ≡ Some name
container_back name fine = refl

pub item_read : (i : NameItem) → is_spelled_name_item i ≡ true → IsRead (item_value i)
item_read i fine =
    let parts = parts_of i fine in
    record {
      numbers = (IsNumber-decimal i.size (parts_fit i.size parts.size), (tt, (tt, (tt, (tt, tt)))));
      flat = refl;
      text =
          behind 123 _ refl
          (one_member false (codes "bytes") _ _ refl (utf8_number i.size (parts_fit i.size parts.size))
          (one_member true (codes "content_type") _ _ refl (utf8_text i.content_type parts.content_type)
          (one_member true (codes "hash") _ _ refl (utf8_text i.hash parts.hash)
          (one_member true (codes "last_modified") _ _ refl (IsUtf8-quoted _ (IsUtf8-are_ascii (codes "1970-01-01T00:00:00.000000") refl))
          (one_member true (codes "name") _ _ refl (utf8_text i.name parts.name) closed)))));
    }

pub item_back : (i : NameItem) → is_spelled_name_item i ≡ true → name_item (outline (item_value i)) ≡ Some i
item_back i fine =
    let parts = parts_of i fine in
    ap (λ size. item_from (Some i.name) (Some i.hash) size (Some i.content_type)) (number_of_decimal 19 i.size (lit≤ tt) parts.size (parts_fit i.size parts.size))
