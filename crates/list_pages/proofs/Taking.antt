-- A name more, at each exit of the code that takes it.
use Rattle.std.proofs.Common.{◌≡◌, ℕ, zero, suc, ◌<◌, ◌≤◌, true, false, List, [], ◌∷◌, ◌++◌, length, Option, ap, sym, subst, ◌∙◌, arith}
use Rattle.std.specs.List.{All}
use Rattle.std.specs.Ordering.{is_lt}
use Rattle.std.proofs.lemmas.List.{map-append, length-map}
use Rattle.std.proofs.lemmas.List.Elements.{All-append}
use Rattle.gate_base.specs.Maps.{name_cmp}
use Rattle.s3_machine.specs.Items.{begins, row_of}
use Rattle.s3_machine.specs.declared.items.Item.{Item}
use Rattle.s3_machine.specs.declared.items.ItemHead.{ItemHead}
use Rattle.swift_calls.specs.declared.heads.NameItem.{NameItem}
use Rattle.list_pages.specs.Rolling.{Before, Rolled, ends}
use Rattle.list_pages.specs.Rolls.{Rolls, head_in, row_view, rows_of, seen_of}
use Rattle.list_pages.proofs.lemmas.Rolling.{push_behind, push_last, push_row, push_left, row_at}

pub all_more : {X : Type 0} (P : X → Type 0) (xs : List X) (x : X) → All P xs → P x → All P (xs ++ x ∷ [])
all_more P xs x all h = All-append P xs (x ∷ []) all (one P x h)
  where
    one : {X : Type 0} (P : X → Type 0) (x : X) → P x → All P (x ∷ [])
    one P x h zero d near = h
    one P x h (suc k) d near = absurd (omega (arith, near))

module _ (rolls : Rolls) (item : NameItem) (seen : List (List ℕ × ItemHead)) (fits : begins rolls.wanted.prefix item.name ≡ true) (r : Rolled rolls.wanted (rows_of rolls.items) rolls.more seen)
    (before : Before item.name seen) {name prefix delimiter text : List ℕ} {under : Option ItemHead} (name_is : name ≡ item.name) (prefix_is : prefix ≡ rolls.wanted.prefix)
    (delimiter_is : delimiter ≡ rolls.wanted.delimiter) (row : row_of prefix delimiter (name, head_in item) ≡ (text, under)) where
  row_here : row_of rolls.wanted.prefix rolls.wanted.delimiter (seen_of item) ≡ (text, under)
  row_here = subst (λ n. row_of rolls.wanted.prefix rolls.wanted.delimiter (n, head_in item) ≡ (text, under)) name_is
      (row_at prefix delimiter rolls.wanted.prefix rolls.wanted.delimiter (name, head_in item) (text, under) prefix_is delimiter_is row)

  -- its text isn't behind the marker
  pub takes_hidden : is_lt (name_cmp rolls.wanted.marker text) ≡ false → Rolled rolls.wanted (rows_of rolls.items) rolls.more (seen ++ seen_of item ∷ [])
  takes_hidden hidden = push_behind rolls.wanted (rows_of rolls.items) rolls.more seen item.name (head_in item) fits r before text under row_here hidden

  module _ (room : rolls.more ≡ false) where
    -- its text is the last one again
    pub takes_again : ends text (rows_of rolls.items) ≡ true → Rolled rolls.wanted (rows_of rolls.items) rolls.more (seen ++ seen_of item ∷ [])
    takes_again again = push_last rolls.wanted (rows_of rolls.items) rolls.more seen item.name (head_in item) fits r before text under row_here room again

    module _ (shown : is_lt (name_cmp rolls.wanted.marker text) ≡ true) (other : ends text (rows_of rolls.items) ≡ false) {inside : Rolls} (view_is : inside ≡ rolls) where
      -- there is no room for it
      pub takes_full : inside.wanted.max ≤ length inside.items → Rolled inside.wanted (rows_of inside.items) true (seen ++ seen_of item ∷ [])
      takes_full full =
          subst (λ (s : Rolls). Rolled s.wanted (rows_of s.items) true (seen ++ seen_of item ∷ [])) (sym view_is)
          (push_left rolls.wanted (rows_of rolls.items) rolls.more seen item.name (head_in item) fits r before text under row_here room shown other
          (omega (arith, full, length-map rolls.items row_view, ap (λ (s : Rolls). s.wanted.max) view_is, ap (λ (s : Rolls). length s.items) view_is)))

      -- it is shown
      pub takes_row : (items : List Item) (made : Item) → items ≡ inside.items ++ made ∷ [] → row_view made ≡ (text, under) → length inside.items < inside.wanted.max
          → Rolled inside.wanted (rows_of items) inside.more (seen ++ seen_of item ∷ [])
      takes_row items made is made_is near =
          subst (λ l. Rolled inside.wanted l inside.more (seen ++ seen_of item ∷ [])) (sym (ap rows_of is ∙ map-append row_view inside.items (made ∷ []) ∙ ap (λ x. rows_of inside.items ++ x ∷ []) made_is))
          (subst (λ (s : Rolls). Rolled s.wanted (rows_of s.items ++ (text, under) ∷ []) s.more (seen ++ seen_of item ∷ [])) (sym view_is)
          (push_row rolls.wanted (rows_of rolls.items) rolls.more seen item.name (head_in item) fits r before text under row_here room shown other
          (omega (arith, near, length-map rolls.items row_view, ap (λ (s : Rolls). s.wanted.max) view_is, ap (λ (s : Rolls). length s.items) view_is))))
