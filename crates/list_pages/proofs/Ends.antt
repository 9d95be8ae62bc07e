-- Two words for texts that are the same.
use Rattle.std.proofs.Common.{◌≡◌, ℕ, ◌<◌, ◌-◌, true, false, ◌==◌, arith, List, length, get_or, sym, ap, ◌∙◌, inl, inr}
use Rattle.std.specs.Str.{bytes_eq}
use Rattle.std.specs.Ordering.{eq_by_cmp}
use Rattle.std.proofs.lemmas.Bool.Decides.{nat_tests}
use Rattle.std.proofs.lemmas.Slice.Eq.{bytes_eq-Decides}
use Rattle.gate_base.specs.Maps.{name_cmp}
use Rattle.gate_base.proofs.lemmas.Maps.{by_name, key_itself, same_key}
use Rattle.s3_machine.specs.declared.items.Item.{Item}
use Rattle.list_pages.specs.Rolling.{ends}
use Rattle.list_pages.specs.Rolls.{rows_of}
use Rattle.list_pages.proofs.lemmas.Rising.{tells}
use Rattle.list_pages.proofs.lemmas.Texts.{ends_at}

pub same_text : (a b : List ℕ) → bytes_eq a b ≡ eq_by_cmp name_cmp a b
same_text a b = elim (same_key by_name a b) [
  | inl e ↦ (bytes_eq-Decides a b).1 e ∙ sym (ap (λ t. eq_by_cmp name_cmp a t) (sym e) ∙ key_itself by_name a)
  | inr f ↦ elim (tells (bytes_eq a b)) [
    | inl t ↦ let e : a ≡ b = (bytes_eq-Decides a b).0 t in let k : true ≡ false = sym (key_itself by_name a) ∙ ap (λ t. eq_by_cmp name_cmp a t) e ∙ f in cc k
    | inr u ↦ u ∙ sym f
  ]
]

-- the last of some items
pub last_is : (t text : List ℕ) (all items : List Item) (item : Item) → all ≡ items → text ≡ item.text → (length all == 0) ≡ false → item ≡ get_or all (length all - 1) item → bytes_eq t text ≡ ends t (rows_of items)
last_is t text all items item are same some at =
    ap (bytes_eq t) same ∙ same_text t item.text ∙ sym (ends_at t all item (filled (length all) some) at) ∙ ap (λ l. ends t (rows_of l)) are
  where
    filled : (n : ℕ) → (n == 0) ≡ false → 0 < n
    filled n h = grind (arith, nat_tests)
