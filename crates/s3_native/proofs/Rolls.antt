-- How a key rolls up: the first place of a delimiter, and the row of a key.
use Rattle.std.proofs.Common.{◌≡◌, ℕ, ◌+◌, ◌≤◌, ◌<◌, Bool, true, false, cond, ◌&&◌, ◌==◌, List, [], ◌∷◌, ◌++◌, length, take, drop, get_or, Option, Some, None, refl, sym, ◌∙◌, ap, arith, add-one, append_assoc}
use Rattle.std.specs.Option.{option_map}
use Rattle.std.proofs.lemmas.List.{drop_all, length-drop, take_more}
use Rattle.std.proofs.lemmas.Bool.{eqb-true}
use Rattle.std.proofs.Math.Seq.{drop-cons, take-add}
use Rattle.s3_machine.specs.Items.{begins, rolled, roll_by, row_of, row_by}

last : (a b : Bool) → (a && b) ≡ true → b ≡ true
last true b e = e
last false b e = let h : false ≡ true = e in cc h

first : (a b : Bool) → (a && b) ≡ true → a ≡ true
first true b e = refl
first false b e = e

-- a text that begins with another is as long
pub begins_long : (front text : List ℕ) → begins front text ≡ true → length front ≤ length text
begins_long [] text h = omega arith
begins_long (c ∷ front) [] h = let k : false ≡ true = h in cc k
begins_long (c ∷ front) (b ∷ text) h = let r = begins_long front text (last (c == b) (begins front text) h) in omega (arith, r)

begins_take : (front text : List ℕ) → begins front text ≡ true → take (length front) text ≡ front
begins_take [] text h = refl
begins_take (c ∷ front) [] h = let k : false ≡ true = h in cc k
begins_take (c ∷ front) (b ∷ text) h =
    let e : c ≡ b = eqb-true c b (first (c == b) (begins front text) h) in
    λ i. sym e i ∷ begins_take front text (last (c == b) (begins front text) h) i

twice : (f : List ℕ → List ℕ) (b : ℕ) (o : Option (List ℕ)) → option_map f (option_map (λ t. b ∷ t) o) ≡ option_map (λ t. f (b ∷ t)) o
twice f b None = refl
twice f b (Some t) = refl

alike : (f g : List ℕ → List ℕ) → ((t : List ℕ) → f t ≡ g t) → (o : Option (List ℕ)) → option_map f o ≡ option_map g o
alike f g h None = refl
alike f g h (Some t) = ap (λ x. Some x) (h t)

rolled_goes : (d : List ℕ) (b : ℕ) (r : List ℕ) → begins d (b ∷ r) ≡ false → rolled d (b ∷ r) ≡ option_map (λ t. b ∷ t) (rolled d r)
rolled_goes d b r h = ap (λ t. cond t (Some d) (option_map (λ t. b ∷ t) (rolled d r))) h

rolled_here : (d : List ℕ) (b : ℕ) (r : List ℕ) → begins d (b ∷ r) ≡ true → rolled d (b ∷ r) ≡ Some d
rolled_here d b r h = ap (λ t. cond t (Some d) (option_map (λ t. b ∷ t) (rolled d r))) h

-- a delimiter that isn't empty
pub roll_filled : (d text : List ℕ) → (length d ≡ 0 → ⊥) → roll_by d text ≡ rolled d text
roll_filled [] text e = absurd (e refl)
roll_filled (c ∷ d) text e = refl

-- the first delimiter is none before the i-th byte
abbrev pub IsPast : List ℕ → List ℕ → ℕ → Type 0
IsPast d text i = option_map (λ t. take i text ++ t) (rolled d (drop i text)) ≡ rolled d text

itself : (o : Option (List ℕ)) → option_map (λ t. t) o ≡ o
itself None = refl
itself (Some t) = refl

pub past_none : (d text : List ℕ) → IsPast d text 0
past_none d text = itself (rolled d text)

pub past_all : (d text : List ℕ) (i : ℕ) → length text ≤ i → IsPast d text i → None ≡ rolled d text
past_all d text i past so = ap (λ t. option_map (λ t. take i text ++ t) (rolled d t)) (sym (drop_all i text past)) ∙ so

-- the delimiter isn't at this place
pub past_more : (d text : List ℕ) (i : ℕ) → i < length text → begins d (drop i text) ≡ false → IsPast d text i → IsPast d text (i + 1)
past_more d text i within no_d so =
    let b = get_or text i 0 in
    let r = drop (i + 1) text in
    let cut : drop i text ≡ b ∷ r = drop-cons text i 0 within ∙ ap (λ n. b ∷ drop n text) (sym (add-one i)) in
    alike (λ t. take (i + 1) text ++ t) (λ t. take i text ++ (b ∷ t)) (λ t. ap (λ f. f ++ t) (take_more text i 0 within) ∙ append_assoc (take i text) (b ∷ []) t) (rolled d r)
    ∙ sym (twice (λ t. take i text ++ t) b (rolled d r))
    ∙ ap (option_map (λ t. take i text ++ t)) (sym (rolled_goes d b r (ap (begins d) (sym cut) ∙ no_d)) ∙ ap (rolled d) (sym cut))
    ∙ so

-- the delimiter is at this place
pub past_here : (d text : List ℕ) (i : ℕ) → i < length text → begins d (drop i text) ≡ true → IsPast d text i → Some (take (i + length d) text) ≡ rolled d text
past_here d text i within is so =
    let b = get_or text i 0 in
    let r = drop (i + 1) text in
    let cut : drop i text ≡ b ∷ r = drop-cons text i 0 within ∙ ap (λ n. b ∷ drop n text) (sym (add-one i)) in
    ap (λ x. Some x) (take-add i (length d) text ∙ ap (λ f. take i text ++ f) (begins_take d (drop i text) is))
    ∙ ap (option_map (λ t. take i text ++ t)) (sym (rolled_here d b r (ap (begins d) (sym cut) ∙ is)) ∙ ap (rolled d) (sym cut))
    ∙ so

pub here_within : (d text : List ℕ) (i : ℕ) → i < length text → begins d (drop i text) ≡ true → i + length d ≤ length text
here_within d text i within is = let l = begins_long d (drop i text) is in omega (arith, l, length-drop i text)

-- the row of a key that rolls up, and of one that doesn't
pub row_up : {X : Type 0} (p d key rest : List ℕ) (n : ℕ) (x : X) → begins p key ≡ true → rest ≡ drop (length p) key → Some (take n rest) ≡ roll_by d rest
    → row_of p d (key, x) ≡ (take (length p + n) key, None)
row_up p d key rest n x is cut e =
    ap (λ o. row_by p key x o) (ap (roll_by d) (sym cut) ∙ sym e)
    ∙ ap (λ t. (t, None)) (ap (λ f. f ++ take n rest) (sym (begins_take p key is)) ∙ ap (λ r. take (length p) key ++ take n r) cut ∙ sym (take-add (length p) n key))

pub row_own : {X : Type 0} (p d key rest : List ℕ) (x : X) → rest ≡ drop (length p) key → None ≡ roll_by d rest → row_of p d (key, x) ≡ (key, Some x)
row_own p d key rest x cut e = ap (λ o. row_by p key x o) (ap (roll_by d) (sym cut) ∙ sym e)
