-- Keys that rise have texts that never fall.
use Rattle.std.proofs.Common.{◌≡◌, ℕ, ◌≤◌, ◌<◌, Bool, true, false, cond, ◌&&◌, ◌==◌, List, [], ◌∷◌, ◌++◌, length, Option, Some, None, refl, sym, ◌∙◌, ap, subst, arith, suc, eq-eqb, ◌⊎◌, inl, inr}
use Rattle.std.specs.declared.cmp.Ordering.{Ordering}
use Rattle.std.specs.declared.cmp.Ordering.TheVariants.{Less, Equal, Greater}
use Rattle.std.specs.Ordering.{nat_cmp, is_gt, ordering_then}
use Rattle.std.specs.Cmp.{upto, ranked}
use Rattle.std.specs.Cmp.Lexicographic.{nat_list_cmp_total}
use Rattle.std.specs.Option.{option_map, unwrap_or}
use Rattle.std.proofs.lemmas.Bool.{eqb-true}
use Rattle.std.proofs.lemmas.List.{append-nil}
use Rattle.std.specs.Ordering.{MatchOrdering}
use Rattle.gate_base.specs.Maps.{name_cmp}
use Rattle.s3_machine.specs.Items.{begins, rolled}
use Rattle.list_pages.specs.Rolling.{UpTo}

-- three ways for two bytes
pub data Byte_order (a b : ℕ) : Type 0 where
  below : a < b → nat_cmp a b ≡ Less → Byte_order a b
  same : a ≡ b → Byte_order a b
  above : b < a → nat_cmp a b ≡ Greater → Byte_order a b

order_by : (a b : ℕ) (o : Ordering) → o ≡ nat_cmp a b → MatchOrdering o (a < b) (a ≡ b) (b < a) → Byte_order a b
order_by a b Less e m = below m (sym e)
order_by a b Equal e m = same m
order_by a b Greater e m = above m (sym e)

pub bytes_order : (a b : ℕ) → Byte_order a b
bytes_order a b = order_by a b (nat_cmp a b) refl (ranked a b (nat_cmp a b) refl)

itself : (a : ℕ) → nat_cmp a a ≡ Equal
itself a = equal_by a (nat_cmp a a) refl (ranked a a (nat_cmp a a) refl)
  where
    equal_by : (a : ℕ) (o : Ordering) → o ≡ nat_cmp a a → MatchOrdering o (a < a) (a ≡ a) (a < a) → nat_cmp a a ≡ Equal
    equal_by a Less e m = absurd (omega (arith, m))
    equal_by a Equal e m = sym e
    equal_by a Greater e m = absurd (omega (arith, m))

-- the comparison of lists with heads that are the same
pub then_same : (a b : ℕ) (x y : List ℕ) → a ≡ b → name_cmp (a ∷ x) (b ∷ y) ≡ name_cmp x y
then_same a b x y e = ap (λ o. ordering_then o (name_cmp x y)) (ap (λ c. nat_cmp a c) (sym e) ∙ itself a)

pub then_below : (a b : ℕ) (x y : List ℕ) → nat_cmp a b ≡ Less → name_cmp (a ∷ x) (b ∷ y) ≡ Less
then_below a b x y e = ap (λ o. ordering_then o (name_cmp x y)) e

pub then_above : (a b : ℕ) (x y : List ℕ) → nat_cmp a b ≡ Greater → name_cmp (a ∷ x) (b ∷ y) ≡ Greater
then_above a b x y e = ap (λ o. ordering_then o (name_cmp x y)) e

pub no_gt : (o : Ordering) → o ≡ Greater → is_gt o ≡ false → ⊥
no_gt o e h = let k : true ≡ false = ap is_gt (sym e) ∙ h in cc k

no_lt : (o : Ordering) → o ≡ Greater → o ≡ Less → ⊥
no_lt o e h = let k : Greater ≡ Less = sym e ∙ h in cc k

-- a text is up to what it begins
pub upto_longer : (x v : List ℕ) → UpTo x (x ++ v)
upto_longer [] [] = refl
upto_longer [] (b ∷ v) = refl
upto_longer (a ∷ x) v = ap is_gt (then_same a a x (x ++ v) refl) ∙ upto_longer x v

-- what is up to a text is up to each front of it that is as long
pub upto_front : (d w v : List ℕ) → length d ≤ length w → UpTo d (w ++ v) → UpTo d w
upto_front [] [] v le h = refl
upto_front [] (b ∷ w) v le h = refl
upto_front (a ∷ d) [] v le h = absurd (omega arith)
upto_front (a ∷ d) (b ∷ w) v le h = elim (bytes_order a b) [
  | below l e ↦ ap is_gt (then_below a b d w e)
  | same e ↦ ap is_gt (then_same a b d w e) ∙ upto_front d w v (omega arith) (ap is_gt (sym (then_same a b d (w ++ v) e)) ∙ h)
  | above l e ↦ absurd (no_gt (name_cmp (a ∷ d) (b ∷ (w ++ v))) (then_above a b d (w ++ v) e) h)
]

pub eqb_same : (a b : ℕ) → a ≡ b → (a == b) ≡ true
eqb_same a b e = eq-eqb a b e

-- what is up to a text and doesn't begin with its front is up to that front
pub upto_begin : (d x v : List ℕ) → begins d x ≡ false → UpTo x (d ++ v) → UpTo x d
upto_begin [] x v not h = let k : true ≡ false = not in cc k
upto_begin (c ∷ d) [] v not h = refl
upto_begin (c ∷ d) (b ∷ x) v not h = elim (bytes_order b c) [
  | below l e ↦ ap is_gt (then_below b c x d e)
  | same e ↦ ap is_gt (then_same b c x d e) ∙ upto_begin d x v (ap (λ t. t && begins d x) (sym (eqb_same c b (sym e))) ∙ not) (ap is_gt (sym (then_same b c x (d ++ v) e)) ∙ h)
  | above l e ↦ absurd (no_gt (name_cmp (b ∷ x) (c ∷ (d ++ v))) (then_above b c x (d ++ v) e) h)
]

-- a longer text begins with what the shorter one does
pub begins_longer : (d x v : List ℕ) → begins d x ≡ true → begins d (x ++ v) ≡ true
begins_longer [] x v h = refl
begins_longer (c ∷ d) [] v h = let k : false ≡ true = h in cc k
begins_longer (c ∷ d) (b ∷ x) v h = elim (c == b) as (λ t. (t && begins d x) ≡ true → (t && begins d (x ++ v)) ≡ true) [ true ↦ λ k. begins_longer d x v k | false ↦ λ k. k ] h

first : (a b : Bool) → (a && b) ≡ true → a ≡ true
first true b e = refl
first false b e = e

last : (a b : Bool) → (a && b) ≡ true → b ≡ true
last true b e = e
last false b e = let h : false ≡ true = e in cc h

-- a text that begins with another is that and more
pub begins_cut : (d x : List ℕ) → begins d x ≡ true → (v : List ℕ) × (x ≡ d ++ v)
begins_cut [] x h = (x, refl)
begins_cut (c ∷ d) [] h = let k : false ≡ true = h in cc k
begins_cut (c ∷ d) (b ∷ x) h =
    let e : c ≡ b = eqb-true c b (first (c == b) (begins d x) h) in
    let r = begins_cut d x (last (c == b) (begins d x) h) in
    (r.0, (λ i. sym e i ∷ r.1 i))

-- a text as far as its first delimiter
abbrev pub short : List ℕ → List ℕ → List ℕ
short d r = unwrap_or (rolled d r) r

mapped : (b : ℕ) (r : List ℕ) (o : Option (List ℕ)) → unwrap_or (option_map (λ t. b ∷ t) o) (b ∷ r) ≡ b ∷ unwrap_or o r
mapped b r None = refl
mapped b r (Some t) = refl

pub short_begins : (d : List ℕ) (b : ℕ) (r : List ℕ) → begins d (b ∷ r) ≡ true → short d (b ∷ r) ≡ d
short_begins d b r h = ap (λ t. unwrap_or (cond t (Some d) (option_map (λ t. b ∷ t) (rolled d r))) (b ∷ r)) h

pub short_goes : (d : List ℕ) (b : ℕ) (r : List ℕ) → begins d (b ∷ r) ≡ false → short d (b ∷ r) ≡ b ∷ short d r
short_goes d b r h = ap (λ t. unwrap_or (cond t (Some d) (option_map (λ t. b ∷ t) (rolled d r))) (b ∷ r)) h ∙ mapped b r (rolled d r)

pub tells : (t : Bool) → (t ≡ true) ⊎ (t ≡ false)
tells true = inl refl
tells false = inr refl

-- a text goes on from there
pub short_front : (d r : List ℕ) → (v : List ℕ) × (r ≡ short d r ++ v)
short_front d [] = ([], refl)
short_front d (b ∷ r) = elim (tells (begins d (b ∷ r))) [
  | inl t ↦ let c = begins_cut d (b ∷ r) t in (c.0, c.1 ∙ ap (λ w. w ++ c.0) (sym (short_begins d b r t)))
  | inr f ↦ let q = short_front d r in (q.0, ap (λ w. b ∷ w) q.1 ∙ ap (λ w. w ++ q.0) (sym (short_goes d b r f)))
]

-- it is all of the text, or as long as the delimiter
pub short_long : (d r : List ℕ) → (short d r ≡ r) ⊎ (length d ≤ length (short d r))
short_long d [] = inl refl
short_long d (b ∷ r) = elim (tells (begins d (b ∷ r))) [
  | inl t ↦ let h : length (short d (b ∷ r)) ≡ length d = ap length (short_begins d b r t) in inr (omega arith)
  | inr f ↦ elim (short_long d r) [
    | inl e ↦ inl (short_goes d b r f ∙ ap (λ w. b ∷ w) e)
    | inr l ↦ let h : length (short d (b ∷ r)) ≡ suc (length (short d r)) = ap length (short_goes d b r f) in inr (omega arith)
  ]
]

pub upto_empty : (x : List ℕ) → UpTo [] x
upto_empty [] = refl
upto_empty (b ∷ x) = refl

pub upto_same : (x y : List ℕ) → x ≡ y → UpTo x y
upto_same x y e = subst (λ z. UpTo x z) (append-nil x ∙ e) (upto_longer x [])

pub upto_trans : (x y z : List ℕ) → UpTo x y → UpTo y z → UpTo x z
upto_trans x y z = upto nat_list_cmp_total x y z

upto_less : (x y : List ℕ) → name_cmp x y ≡ Less → UpTo x y
upto_less x y h = ap is_gt h

-- the front of the later of two texts, where the earlier begins with the delimiter
after_delimiter : (d r s : List ℕ) → begins d r ≡ true → name_cmp r s ≡ Less → UpTo d (short d s)
after_delimiter d r s h less =
    let c = begins_cut d r h in
    let up : UpTo d s = upto_trans d r s (subst (λ z. UpTo d z) (sym c.1) (upto_longer d c.0)) (upto_less r s less) in
    elim (short_long d s) [
      | inl e ↦ subst (λ z. UpTo d z) (sym e) up
      | inr l ↦ let q = short_front d s in upto_front d (short d s) q.0 l (subst (λ z. UpTo d z) q.1 up)
    ]

-- the front of the earlier of two texts, where the later begins with the delimiter
before_delimiter : (d r s : List ℕ) → begins d r ≡ false → begins d s ≡ true → name_cmp r s ≡ Less → UpTo (short d r) d
before_delimiter d r s no_r h less =
    let c = begins_cut d s h in
    let q = short_front d r in
    let up : UpTo (short d r) s = upto_trans (short d r) r s (subst (λ z. UpTo (short d r) z) (sym q.1) (upto_longer (short d r) q.0)) (upto_less r s less) in
    upto_begin d (short d r) c.0
    (elim (tells (begins d (short d r))) [
      | inl t ↦ let k : true ≡ false = sym (begins_longer d (short d r) q.0 t) ∙ ap (begins d) (sym q.1) ∙ no_r in cc k
      | inr f ↦ f
    ])
    (subst (λ z. UpTo (short d r) z) c.1 up)

-- texts that rise have fronts that never fall
pub rising : (d r s : List ℕ) → name_cmp r s ≡ Less → UpTo (short d r) (short d s)
rising d [] s h = upto_empty (short d s)
rising d (b ∷ r) [] h = cc h
rising d (b ∷ r) (c ∷ s) h = elim (tells (begins d (b ∷ r))) [
  | inl t ↦ subst (λ z. UpTo z (short d (c ∷ s))) (sym (short_begins d b r t)) (after_delimiter d (b ∷ r) (c ∷ s) t h)
  | inr f ↦ elim (tells (begins d (c ∷ s))) [
    | inl u ↦ subst (λ z. UpTo (short d (b ∷ r)) z) (sym (short_begins d c s u)) (before_delimiter d (b ∷ r) (c ∷ s) f u h)
    | inr g ↦ subst (λ z. UpTo z (short d (c ∷ s))) (sym (short_goes d b r f)) (subst (λ z. UpTo (b ∷ short d r) z) (sym (short_goes d c s g)) (elim (bytes_order b c) [
      | below l e ↦ ap is_gt (then_below b c (short d r) (short d s) e)
      | same e ↦ ap is_gt (then_same b c (short d r) (short d s) e) ∙ rising d r s (sym (then_same b c r s e) ∙ h)
      | above l e ↦ absurd (no_lt (name_cmp (b ∷ r) (c ∷ s)) (then_above b c r s e) h)
    ]))
  ]
]
