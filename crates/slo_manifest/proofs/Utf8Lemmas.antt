-- Compact JSON over texts in UTF-8 is UTF-8.
use Rattle.std.proofs.Common.{◌≡◌, ℕ, Bool, true, false, List, [], ◌∷◌, IsUtf8, refl}
use Rattle.std.specs.Prelude.{⊤}
use Rattle.std.proofs.lemmas.Str.{IsUtf8-append, IsUtf8-nil}
use Rattle.json.specs.Print.{quoted}
use Rattle.json.proofs.Printed.Utf8.{are_ascii, IsUtf8-are_ascii, IsUtf8-quoted, IsUtf8-boolean}
use Rattle.serde_json.specs.Data.{Data, null, boolean, number, string, array, object, Items, no_items, item, Members, no_members, member}
use Rattle.serde_json.specs.Written.{number_text, comma_if, compact_text, items_text, members_text}

-- each text of the value is UTF-8
abbrev mutual
  pub AreTexts : Data → Type 0
  AreTexts null = ⊤
  AreTexts (boolean b) = ⊤
  AreTexts (number n) = IsUtf8 (number_text n)
  AreTexts (string s) = IsUtf8 s
  AreTexts (array ds) = ItemsAreTexts ds
  AreTexts (object ms) = MembersAreTexts ms

  pub ItemsAreTexts : Items → Type 0
  ItemsAreTexts no_items = ⊤
  ItemsAreTexts (item d ds) = AreTexts d × ItemsAreTexts ds

  pub MembersAreTexts : Members → Type 0
  MembersAreTexts no_members = ⊤
  MembersAreTexts (member k d ms) = IsUtf8 k × AreTexts d × MembersAreTexts ms

-- behind an ASCII byte
pub behind : (byte : ℕ) (text : List ℕ) → are_ascii (byte ∷ []) ≡ true → IsUtf8 text → IsUtf8 (byte ∷ text)
behind byte text small h = IsUtf8-append (byte ∷ []) text (IsUtf8-are_ascii (byte ∷ []) small) h

comma : (later : Bool) → IsUtf8 (comma_if later)
comma true = IsUtf8-are_ascii (44 ∷ []) refl
comma false = IsUtf8-nil

mutual
  pub IsUtf8-compact_text : (d : Data) → AreTexts d → IsUtf8 (compact_text d)
  IsUtf8-compact_text null h = IsUtf8-are_ascii _ refl
  IsUtf8-compact_text (boolean b) h = IsUtf8-boolean b
  IsUtf8-compact_text (number n) h = h
  IsUtf8-compact_text (string s) h = IsUtf8-quoted s h
  IsUtf8-compact_text (array ds) h = behind 91 (items_text false ds) refl (IsUtf8-items_text false ds h)
  IsUtf8-compact_text (object ms) h = behind 123 (members_text false ms) refl (IsUtf8-members_text false ms h)

  IsUtf8-items_text : (later : Bool) (ds : Items) → ItemsAreTexts ds → IsUtf8 (items_text later ds)
  IsUtf8-items_text later no_items h = IsUtf8-are_ascii (93 ∷ []) refl
  IsUtf8-items_text later (item d ds) h =
      IsUtf8-append (comma_if later) _ (comma later)
      (IsUtf8-append (compact_text d) (items_text true ds) (IsUtf8-compact_text d h.0) (IsUtf8-items_text true ds h.1))

  IsUtf8-members_text : (later : Bool) (ms : Members) → MembersAreTexts ms → IsUtf8 (members_text later ms)
  IsUtf8-members_text later no_members h = IsUtf8-are_ascii (125 ∷ []) refl
  IsUtf8-members_text later (member k d ms) h =
      IsUtf8-append (comma_if later) _ (comma later)
      (IsUtf8-append (quoted k) _ (IsUtf8-quoted k h.0)
      (behind 58 _ refl (IsUtf8-append (compact_text d) (members_text true ms) (IsUtf8-compact_text d h.1) (IsUtf8-members_text true ms h.2))))
