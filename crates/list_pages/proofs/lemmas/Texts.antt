-- The places of texts.
use Rattle.std.proofs.Common.{◌≡◌, ℕ, ◌+◌, ◌-◌, ◌≤◌, ◌<◌, Bool, true, false, cond, ◌&&◌, ◌==◌, List, [], ◌∷◌, ◌++◌, length, take, drop, get_or, Option, Some, None, refl, sym, ◌∙◌, ap, arith, suc, add-one, append_assoc}
use Rattle.std.proofs.lemmas.List.{drop_all, length-drop, take_more}
use Rattle.std.proofs.lemmas.Bool.{eqb-true}
use Rattle.std.proofs.Math.Seq.{drop-cons, take-add}
use Rattle.std.specs.Ordering.{eq_by_cmp}
use Rattle.s3_machine.specs.declared.items.Item.{Item}
use Rattle.list_pages.specs.Rolls.{rows_of}
use Rattle.std.specs.Option.{option_map}
use Rattle.gate_base.specs.Maps.{name_cmp}
use Rattle.s3_machine.specs.Items.{begins, rolled, row_of, row_by}
use Rattle.list_pages.specs.Rolling.{ends}

last : (a b : Bool) → (a && b) ≡ true → b ≡ true
last true b e = e
last false b e = let h : false ≡ true = e in cc h

first : (a b : Bool) → (a && b) ≡ true → a ≡ true
first true b e = refl
first false b e = e

-- a text that begins with another is as long
pub begins_long : (d x : List ℕ) → begins d x ≡ true → length d ≤ length x
begins_long [] x h = omega arith
begins_long (c ∷ d) [] h = let k : false ≡ true = h in cc k
begins_long (c ∷ d) (b ∷ x) h = let r = begins_long d x (last (c == b) (begins d x) h) in omega (arith, r)

-- the front of a text that begins with another is that one
pub begins_take : (d x : List ℕ) → begins d x ≡ true → take (length d) x ≡ d
begins_take [] x h = refl
begins_take (c ∷ d) [] h = let k : false ≡ true = h in cc k
begins_take (c ∷ d) (b ∷ x) h =
    let e : c ≡ b = eqb-true c b (first (c == b) (begins d x) h) in
    λ i. sym e i ∷ begins_take d x (last (c == b) (begins d x) h) i

-- a longer word can't stand at the end
pub begins_short : (d x : List ℕ) (i : ℕ) → i < length d → length x ≤ i → begins (drop i d) (drop i x) ≡ false
begins_short d x i within past = rw (drop_all i x past) (rw (drop-cons d i 0 within) refl)

twice : (f : List ℕ → List ℕ) (b : ℕ) (o : Option (List ℕ)) → option_map f (option_map (λ t. b ∷ t) o) ≡ option_map (λ t. f (b ∷ t)) o
twice f b None = refl
twice f b (Some t) = refl

alike : (f g : List ℕ → List ℕ) → ((t : List ℕ) → f t ≡ g t) → (o : Option (List ℕ)) → option_map f o ≡ option_map g o
alike f g h None = refl
alike f g h (Some t) = ap (λ x. Some x) (h t)

pub rolled_goes : (d : List ℕ) (b : ℕ) (r : List ℕ) → begins d (b ∷ r) ≡ false → rolled d (b ∷ r) ≡ option_map (λ t. b ∷ t) (rolled d r)
rolled_goes d b r h = ap (λ t. cond t (Some d) (option_map (λ t. b ∷ t) (rolled d r))) h

pub rolled_here : (d : List ℕ) (b : ℕ) (r : List ℕ) → begins d (b ∷ r) ≡ true → rolled d (b ∷ r) ≡ Some d
rolled_here d b r h = ap (λ t. cond t (Some d) (option_map (λ t. b ∷ t) (rolled d r))) h

-- the delimiter isn't at this place
pub first_more : (d text : List ℕ) (i : ℕ) → i < length text → begins d (drop i text) ≡ false → option_map (λ t. take i text ++ t) (rolled d (drop i text)) ≡ rolled d text
    → option_map (λ t. take (i + 1) text ++ t) (rolled d (drop (i + 1) text)) ≡ rolled d text
first_more d text i within no_d so =
    let b = get_or text i 0 in
    let r = drop (i + 1) text in
    let cut : drop i text ≡ b ∷ r = drop-cons text i 0 within ∙ ap (λ n. b ∷ drop n text) (sym (add-one i)) in
    alike (λ t. take (i + 1) text ++ t) (λ t. take i text ++ (b ∷ t)) (λ t. ap (λ f. f ++ t) (take_more text i 0 within) ∙ append_assoc (take i text) (b ∷ []) t) (rolled d r)
    ∙ sym (twice (λ t. take i text ++ t) b (rolled d r))
    ∙ ap (option_map (λ t. take i text ++ t)) (sym (rolled_goes d b r (ap (begins d) (sym cut) ∙ no_d)) ∙ ap (rolled d) (sym cut))
    ∙ so

-- the delimiter is at this place
pub first_here : (d text : List ℕ) (i : ℕ) → i < length text → begins d (drop i text) ≡ true → option_map (λ t. take i text ++ t) (rolled d (drop i text)) ≡ rolled d text → Some (take (i + length d) text) ≡ rolled d text
first_here d text i within is so =
    let b = get_or text i 0 in
    let r = drop (i + 1) text in
    let cut : drop i text ≡ b ∷ r = drop-cons text i 0 within ∙ ap (λ n. b ∷ drop n text) (sym (add-one i)) in
    ap (λ x. Some x) (take-add i (length d) text ∙ ap (λ f. take i text ++ f) (begins_take d (drop i text) is))
    ∙ ap (option_map (λ t. take i text ++ t)) (sym (rolled_here d b r (ap (begins d) (sym cut) ∙ is)) ∙ ap (rolled d) (sym cut))
    ∙ so

pub first_within : (d text : List ℕ) (i : ℕ) → i < length text → begins d (drop i text) ≡ true → i + length d ≤ length text
first_within d text i within is = let l = begins_long d (drop i text) is in omega (arith, l, length-drop i text)

-- the row of a key that rolls up
pub row_up : {H : Type 0} (p d key rest : List ℕ) (n : ℕ) (h : H) → begins p key ≡ true → (length d ≡ 0 → ⊥) → rest ≡ drop (length p) key → Some (take n rest) ≡ rolled d rest → row_of p d (key, h) ≡ (take (length p + n) key, None)
row_up p [] key rest n h is some cut e = absurd (some refl)
row_up p (c ∷ d) key rest n h is some cut e =
    ap (λ o. row_by p key h o) (ap (rolled (c ∷ d)) (sym cut) ∙ sym e)
    ∙ ap (λ t. (t, None)) (ap (λ f. f ++ take n rest) (sym (begins_take p key is)) ∙ ap (λ r. take (length p) key ++ take n r) cut ∙ sym (take-add (length p) n key))

-- whether the last item has a text
pub ends_at : (t : List ℕ) (items : List Item) (item : Item) → 0 < length items → item ≡ get_or items (length items - 1) item → ends t (rows_of items) ≡ eq_by_cmp name_cmp t item.text
ends_at t [] item some e = absurd (omega arith)
ends_at t (x ∷ []) item some e = ap (λ (y : Item). eq_by_cmp name_cmp t y.text) (sym e)
ends_at t (x ∷ y ∷ items) item some e = ends_at t (y ∷ items) item (omega arith) (e ∙ ap (λ n. get_or (x ∷ y ∷ items) n item) (n_is (length items)))
  where
    n_is : (n : ℕ) → suc (suc n) - 1 ≡ suc (suc n - 1)
    n_is n = omega arith

-- a text that isn't empty has bytes
pub some_bytes : (d : List ℕ) → (length d == 0) ≡ false → length d ≡ 0 → ⊥
some_bytes d h e = let k : true ≡ false = ap (λ n. n == 0) (sym e) ∙ h in cc k
