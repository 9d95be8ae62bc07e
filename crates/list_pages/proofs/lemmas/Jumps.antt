-- Which keys a listing goes past, behind a name that rolls up.
use Rattle.std.specs.Prelude.{IsUtf8, Contains, ◌||◌}
use Rattle.std.proofs.Common.{◌≡◌, ℕ, ◌≤◌, ◌<◌, Bool, true, false, cond, ◌&&◌, ◌==◌, List, [], ◌∷◌, ◌++◌, length, drop, Option, Some, None, refl, sym, ◌∙◌, ap, subst, arith, suc, inl, inr, append_assoc}
use Rattle.std.specs.Ordering.{is_gt}
use Rattle.std.specs.Option.{option_map, unwrap_or}
use Rattle.std.proofs.lemmas.Bool.{and_parts}
use Rattle.std.proofs.lemmas.Bool.Decides.{nat_tests}
use Rattle.std.proofs.lemmas.List.{length-append}
use Rattle.std.proofs.lemmas.List.Elements.{Contains-append_left}
use Rattle.std.proofs.lemmas.Str.{IsUtf8-nil}
use Rattle.gate_base.specs.Maps.{name_cmp}
use Rattle.s3_names.specs.Key.{is_key}
use Rattle.s3_names.proofs.lemmas.KeyLemmas.{key_is_utf8, key_length}
use Rattle.s3_machine.specs.Items.{begins, rolled, roll_by, row_of}
use Rattle.s3_machine.specs.Limits.{is_listing_text}
use Rattle.swift_calls.specs.Limits.{IsMarker}
use Rattle.list_pages.specs.Jumps.{marker_by, next_marker, past_all, JumpsExactly}
use Rattle.list_pages.specs.Rolling.{UpTo}
use Rattle.list_pages.proofs.lemmas.Greatest.{cut_utf8, key_upto_past, past_is_marker}
use Rattle.list_pages.proofs.lemmas.Rising.{bytes_order, below, same, above, then_same, then_below, then_above, no_gt, eqb_same, begins_cut, tells, upto_begin, upto_longer, upto_same, upto_trans}
use Rattle.list_pages.proofs.lemmas.Rolling.{common, drop_front, fronted, fronted_is, text_is}
use Rattle.list_pages.proofs.lemmas.Starting.{fronted_upto}
use Rattle.list_pages.proofs.lemmas.Texts.{rolled_goes, rolled_here}

-- ---- texts that begin with others

pub begins_itself : (c v : List ℕ) → begins c (c ++ v) ≡ true
begins_itself [] v = refl
begins_itself (b ∷ c) v = ap (λ t. t && begins c (c ++ v)) (eqb_same b b refl) ∙ begins_itself c v

-- what is up to a text that it doesn't begin is up to no more than that: all with this beginning come before it
upto_all_longer : (c v x : List ℕ) → begins c x ≡ false → UpTo c x → UpTo (c ++ v) x
upto_all_longer [] v x other h = let k : true ≡ false = other in cc k
upto_all_longer (b ∷ c) v [] other h = h
upto_all_longer (b ∷ c) v (d ∷ x) other h = elim (bytes_order b d) [
  | below l e ↦ ap is_gt (then_below b d (c ++ v) x e)
  | same e ↦ ap is_gt (then_same b d (c ++ v) x e) ∙ upto_all_longer c v x (ap (λ t. t && begins c x) (sym (eqb_same b d e)) ∙ other) (ap is_gt (sym (then_same b d c x e)) ∙ h)
  | above l e ↦ absurd (no_gt (name_cmp (b ∷ c) (d ∷ x)) (then_above b d c x e) h)
]

-- ---- what a text rolls up into

-- a text rolls up into the front that ends its first delimiter, whatever follows
begins_front : (d w v v' : List ℕ) → length d ≤ length w → begins d (w ++ v) ≡ begins d (w ++ v')
begins_front [] w v v' le = refl
begins_front (b ∷ d) [] v v' le = absurd (omega (arith, le))
begins_front (b ∷ d) (a ∷ w) v v' le = ap (λ t. (b == a) && t) (begins_front d w v v' (omega (arith, le)))

some_is : {X : Type 0} (x y : X) → Some x ≡ Some y → x ≡ y
some_is x y e = cc

no_none : {X : Type 0} (x : X) → None ≡ Some x → ⊥
no_none x e = cc

mapped_some : (b : ℕ) (o : Option (List ℕ)) (s : List ℕ) → option_map (λ t. b ∷ t) o ≡ Some s → (t : List ℕ) × (o ≡ Some t) × (s ≡ b ∷ t)
mapped_some b None s e = absurd (no_none s e)
mapped_some b (Some t) s e = (t, refl, sym (some_is (b ∷ t) s e))

-- what a text rolls up into ends in the delimiter, and the text goes on from there
pub rolled_parts : (d r s : List ℕ) → rolled d r ≡ Some s → (y : List ℕ) × (v : List ℕ) × (s ≡ y ++ d) × (r ≡ s ++ v)
rolled_parts d [] s e = absurd (no_none s e)
rolled_parts d (b ∷ r) s e = elim (tells (begins d (b ∷ r))) [
  | inl t ↦
      let is : d ≡ s = some_is d s (sym (rolled_here d b r t) ∙ e) in
      let c = begins_cut d (b ∷ r) t in
      ([], c.0, sym is, c.1 ∙ ap (λ w. w ++ c.0) is)
  | inr f ↦
      let m = mapped_some b (rolled d r) s (sym (rolled_goes d b r f) ∙ e) in
      let p = rolled_parts d r m.0 m.1 in
      (b ∷ p.0, p.1, m.2 ∙ ap (λ w. b ∷ w) p.2, ap (λ w. b ∷ w) p.3 ∙ ap (λ w. w ++ p.1) (sym m.2))
]

filled : (y d : List ℕ) → 0 < length d → [] ≡ y ++ d → ⊥
filled y d some e = let long = length-append y d in let none : 0 ≡ length (y ++ d) = ap length e in absurd (omega (arith, some, long, none))

-- so does each text with that front
pub rolled_again : (d s v v' : List ℕ) → 0 < length d → rolled d (s ++ v) ≡ Some s → rolled d (s ++ v') ≡ Some s
rolled_again d [] v v' some e = let p = rolled_parts d v [] e in absurd (filled p.0 d some p.2)
rolled_again d (b ∷ s) v v' some e = elim (tells (begins d (b ∷ (s ++ v)))) [
  | inl t ↦
      let is : d ≡ b ∷ s = some_is d (b ∷ s) (sym (rolled_here d b (s ++ v) t) ∙ e) in
      rolled_here d b (s ++ v') (subst (λ w. begins d (w ++ v') ≡ true) is (begins_itself d v')) ∙ ap (λ w. Some w) is
  | inr f ↦
      let m = mapped_some b (rolled d (s ++ v)) (b ∷ s) (sym (rolled_goes d b (s ++ v) f) ∙ e) in
      let tail : m.0 ≡ s = sym (ap tail_of m.2) in
      let inner : rolled d (s ++ v) ≡ Some s = m.1 ∙ ap (λ w. Some w) tail in
      let p = rolled_parts d (s ++ v) s inner in
      let long = length-append p.0 d in
      let as_long : length s ≡ length (p.0 ++ d) = ap length p.2 in
      rolled_goes d b (s ++ v') (begins_front d (b ∷ s) v' v (omega (arith, long, as_long)) ∙ f) ∙ ap (option_map (λ t. b ∷ t)) (rolled_again d s v v' some inner)
]
  where
    tail_of : List ℕ → List ℕ
    tail_of [] = []
    tail_of (x ∷ xs) = xs

roll_filled : (d r s : List ℕ) → roll_by d r ≡ Some s → 0 < length d
roll_filled [] r s e = absurd (no_none s e)
roll_filled (c ∷ d) r s e = omega arith

roll_parts : (d r s : List ℕ) → roll_by d r ≡ Some s → (y : List ℕ) × (v : List ℕ) × (s ≡ y ++ d) × (r ≡ s ++ v)
roll_parts [] r s e = absurd (no_none s e)
roll_parts (c ∷ d) r s e = rolled_parts (c ∷ d) r s e

roll_again : (d s v v' : List ℕ) → roll_by d (s ++ v) ≡ Some s → roll_by d (s ++ v') ≡ Some s
roll_again [] s v v' e = absurd (no_none s e)
roll_again (c ∷ d) s v v' e = rolled_again (c ∷ d) s v v' (omega arith) e

-- a text doesn't roll up, or it rolls up into a front of it
data Rolling_text (d y : List ℕ) : Type 0 where
  whole : roll_by d y ≡ None → fronted d y ≡ y → Rolling_text d y
  cut : (s v : List ℕ) → y ≡ s ++ v → roll_by d (s ++ v) ≡ Some s → Rolling_text d y

rolling_text : (d y : List ℕ) → Rolling_text d y
rolling_text d y = by (roll_by d y) refl
  where
    by : (o : Option (List ℕ)) → roll_by d y ≡ o → Rolling_text d y
    by None e = whole e (sym (fronted_is d y) ∙ ap (λ o. unwrap_or o y) e)
    by (Some s) e = let p = roll_parts d y s e in cut s p.1 p.3 (ap (roll_by d) (sym p.3) ∙ e)

fronted_cut : (d s v w : List ℕ) → roll_by d (s ++ v) ≡ Some s → fronted d (s ++ w) ≡ s
fronted_cut d s v w e = sym (fronted_is d (s ++ w)) ∙ ap (λ o. unwrap_or o (s ++ w)) (roll_again d s v w e)

-- ---- the texts of a listing

pub text_utf8 : (text : List ℕ) → is_listing_text text ≡ true → IsUtf8 text × (length text ≤ 1024)
unfolding is_listing_text
text_utf8 [] is = (IsUtf8-nil, omega arith)
text_utf8 (b ∷ text) is = let key = last_of_two (length (b ∷ text) == 0) (is_key (b ∷ text)) (not_none (length text)) is in (key_is_utf8 (b ∷ text) key, (key_length (b ∷ text) key).1)
  where
    last_of_two : (a b : Bool) → a ≡ false → (a || b) ≡ true → b ≡ true
    last_of_two true b e h = cc
    last_of_two false b e h = h

    not_none : (n : ℕ) → (suc n == 0) ≡ false
    not_none n = grind (arith, nat_tests)

module _ (p d : List ℕ) where
  marker_off : (n : List ℕ) → begins p n ≡ false → next_marker p d n ≡ n
  marker_off n other = ap (λ t. cond t (marker_by p n (roll_by d (drop (length p) n))) n) other

  marker_on : (z : List ℕ) → next_marker p d (p ++ z) ≡ marker_by p (p ++ z) (roll_by d z)
  marker_on z =
      ap (λ t. cond t (marker_by p (p ++ z) (roll_by d (drop (length p) (p ++ z)))) (p ++ z)) (begins_itself p z)
      ∙ ap (λ r. marker_by p (p ++ z) (roll_by d r)) (drop_front p z)

  marker_whole : (z : List ℕ) → roll_by d z ≡ None → next_marker p d (p ++ z) ≡ p ++ z
  marker_whole z e = marker_on z ∙ ap (marker_by p (p ++ z)) e

  marker_cut : (s v : List ℕ) → roll_by d (s ++ v) ≡ Some s → next_marker p d (p ++ (s ++ v)) ≡ past_all (p ++ s)
  marker_cut s v e = marker_on (s ++ v) ∙ ap (marker_by p (p ++ (s ++ v))) e

  -- a key's text is up to the key
  own_text : (y : List ℕ) → UpTo (p ++ fronted d y) (p ++ y)
  own_text y = ap is_gt (common p (fronted d y) y) ∙ fronted_upto d y

  -- what begins with a common prefix rolls up into it
  inside : (s v y : List ℕ) → roll_by d (s ++ v) ≡ Some s → begins (p ++ s) (p ++ y) ≡ true → fronted d y ≡ s
  inside s v y e is =
      let c = begins_cut (p ++ s) (p ++ y) is in
      let y_is : y ≡ s ++ c.0 = sym (drop_front p y) ∙ ap (drop (length p)) (c.1 ∙ append_assoc p s c.0) ∙ drop_front p (s ++ c.0) in
      ap (fronted d) y_is ∙ fronted_cut d s v c.0 e

  -- a key up to the next marker has a text up to the name
  pub shows_nothing : (y n : List ℕ) → UpTo (p ++ y) (next_marker p d n) → UpTo (p ++ fronted d y) n
  shows_nothing y n up = elim (tells (begins p n)) [
    | inr f ↦ upto_trans (p ++ fronted d y) (p ++ y) n (own_text y) (subst (UpTo (p ++ y)) (marker_off n f) up)
    | inl t ↦ let c = begins_cut p n t in subst (UpTo (p ++ fronted d y)) (sym c.1) (by c.0 (rolling_text d c.0) (subst (λ m. UpTo (p ++ y) (next_marker p d m)) c.1 up))
  ]
    where
      by : (z : List ℕ) → Rolling_text d z → UpTo (p ++ y) (next_marker p d (p ++ z)) → UpTo (p ++ fronted d y) (p ++ z)
      by z (whole e is) up = upto_trans (p ++ fronted d y) (p ++ y) (p ++ z) (own_text y) (subst (UpTo (p ++ y)) (marker_whole z e) up)
      by z (cut s v is e) up =
          let past : UpTo (p ++ y) (past_all (p ++ s)) = subst (UpTo (p ++ y)) (ap (λ z. next_marker p d (p ++ z)) is ∙ marker_cut s v e) up in
          let behind : UpTo (p ++ s) (p ++ z) = subst (UpTo (p ++ s)) (append_assoc p s v ∙ ap (λ z. p ++ z) (sym is)) (upto_longer (p ++ s) v) in
          elim (tells (begins (p ++ s) (p ++ y))) [
            | inl t ↦ subst (λ f. UpTo (p ++ f) (p ++ z)) (sym (inside s v y e t)) behind
            | inr f ↦ upto_trans (p ++ fronted d y) (p ++ y) (p ++ z) (own_text y) (upto_trans (p ++ y) (p ++ s) (p ++ z) (upto_begin (p ++ s) (p ++ y) _ f past) behind)
          ]

  -- what rolls up has texts of UTF-8 before and behind the end of the delimiter
  cut_text : (s v : List ℕ) → roll_by d (s ++ v) ≡ Some s → IsUtf8 d → IsUtf8 (p ++ (s ++ v)) → IsUtf8 (p ++ s) × IsUtf8 v
  cut_text s v e of_d all =
      let parts = roll_parts d (s ++ v) s e in
      let front : p ++ s ≡ (p ++ parts.0) ++ d = ap (λ s. p ++ s) parts.2 ∙ sym (append_assoc p parts.0 d) in
      let alike : p ++ (s ++ v) ≡ (p ++ parts.0) ++ (d ++ v) = sym (append_assoc p s v) ∙ ap (λ f. f ++ v) front ∙ append_assoc (p ++ parts.0) d v in
      let both = cut_utf8 (p ++ parts.0) d v (roll_filled d (s ++ v) s e) of_d (subst IsUtf8 alike all) in
      (subst IsUtf8 (sym front) both.0, both.1)

  -- what rolls up is up to what is past all with its common prefix
  upto_past : (s v : List ℕ) → roll_by d (s ++ v) ≡ Some s → IsUtf8 d → IsUtf8 (p ++ (s ++ v)) → length (p ++ (s ++ v)) ≤ 1024 → UpTo (p ++ (s ++ v)) (past_all (p ++ s))
  upto_past s v e of_d all within =
      let alike = append_assoc p s v in
      subst (λ k. UpTo k (past_all (p ++ s))) alike (key_upto_past (p ++ s) v (cut_text s v e of_d all).1 (subst (λ k. length k ≤ 1024) (sym alike) within))

  module _ (of_d : is_listing_text d ≡ true) where
    -- a name is up to its next marker
    pub marker_upto : (n : List ℕ) → is_listing_text n ≡ true → UpTo n (next_marker p d n)
    marker_upto n is = elim (tells (begins p n)) [
      | inr f ↦ upto_same n (next_marker p d n) (sym (marker_off n f))
      | inl t ↦ let c = begins_cut p n t in subst (λ m. UpTo m (next_marker p d m)) (sym c.1) (by c.0 (rolling_text d c.0) (subst (λ m. IsUtf8 m × (length m ≤ 1024)) c.1 (text_utf8 n is)))
    ]
      where
        by : (z : List ℕ) → Rolling_text d z → IsUtf8 (p ++ z) × (length (p ++ z) ≤ 1024) → UpTo (p ++ z) (next_marker p d (p ++ z))
        by z (whole e alike) text = upto_same (p ++ z) (next_marker p d (p ++ z)) (sym (marker_whole z e))
        by z (cut s v alike e) text =
            subst (λ z. UpTo (p ++ z) (next_marker p d (p ++ z))) (sym alike)
            (subst (UpTo (p ++ (s ++ v))) (sym (marker_cut s v e))
            (upto_past s v e (text_utf8 d of_d).0 (subst (λ z. IsUtf8 (p ++ z)) alike text.0) (subst (λ z. length (p ++ z) ≤ 1024) alike text.1)))

    -- a key whose text is up to the name is up to the next marker
    pub is_passed : (y n : List ℕ) → is_listing_text n ≡ true → is_key (p ++ y) ≡ true → UpTo (p ++ fronted d y) n → UpTo (p ++ y) (next_marker p d n)
    is_passed y n is key up = by (rolling_text d y)
      where
        further : UpTo (p ++ y) n → UpTo (p ++ y) (next_marker p d n)
        further near = upto_trans (p ++ y) n (next_marker p d n) near (marker_upto n is)

        by : Rolling_text d y → UpTo (p ++ y) (next_marker p d n)
        by (whole e alike) = further (subst (λ f. UpTo (p ++ f) n) alike up)
        by (cut s v alike e) =
            let text : fronted d y ≡ s = ap (fronted d) alike ∙ fronted_cut d s v v e in
            let near : UpTo (p ++ s) n = subst (λ f. UpTo (p ++ f) n) text up in
            let key_is : p ++ y ≡ (p ++ s) ++ v = ap (λ y. p ++ y) alike ∙ sym (append_assoc p s v) in
            elim (tells (begins (p ++ s) n)) [
              | inr f ↦ further (subst (λ k. UpTo k n) (sym key_is) (upto_all_longer (p ++ s) v n f near))
              | inl t ↦
                  let c = begins_cut (p ++ s) n t in
                  let marker : next_marker p d n ≡ past_all (p ++ s) = ap (next_marker p d) (c.1 ∙ append_assoc p s c.0) ∙ marker_cut s c.0 (roll_again d s v c.0 e) in
                  subst (UpTo (p ++ y)) (sym marker)
                  (subst (λ y. UpTo (p ++ y) (past_all (p ++ s))) (sym alike)
                  (upto_past s v e (text_utf8 d of_d).0 (subst (λ y. IsUtf8 (p ++ y)) alike (key_is_utf8 (p ++ y) key)) (subst (λ y. length (p ++ y) ≤ 1024) alike (key_length (p ++ y) key).1)))
            ]

    pub next_is_marker : (n : List ℕ) → IsMarker n → IsMarker (next_marker p d n)
    next_is_marker n is = elim (tells (begins p n)) [
      | inr f ↦ subst IsMarker (sym (marker_off n f)) is
      | inl t ↦ let c = begins_cut p n t in subst (λ m. IsMarker (next_marker p d m)) (sym c.1) (by c.0 (rolling_text d c.0) (subst IsMarker c.1 is))
    ]
      where
        by : (z : List ℕ) → Rolling_text d z → IsMarker (p ++ z) → IsMarker (next_marker p d (p ++ z))
        by z (whole e alike) text = subst IsMarker (sym (marker_whole z e)) text
        by z (cut s v alike e) text =
            let all : IsMarker (p ++ (s ++ v)) = subst (λ z. IsMarker (p ++ z)) alike text in
            let long = length-append (p ++ s) v in
            let whole_is = append_assoc p s v in
            subst (λ z. IsMarker (next_marker p d (p ++ z))) (sym alike)
            (subst IsMarker (sym (marker_cut s v e))
            (past_is_marker (p ++ s) (record {
              within = omega (arith, all.within, long, ap length whole_is);
              utf8 = (cut_text s v e (text_utf8 d of_d).0 all.utf8).0;
              no_zero = λ has. all.no_zero (subst (λ t. Contains t 0) whole_is (Contains-append_left (p ++ s) v 0 has));
            })))

  -- a name before a key whose text is up to it has the alike text
  pub same_text : (x y : List ℕ) → UpTo (p ++ fronted d y) (p ++ x) → (UpTo (p ++ y) (p ++ x) → ⊥) → fronted d x ≡ fronted d y
  same_text x y up before = by (rolling_text d y)
    where
      by : Rolling_text d y → fronted d x ≡ fronted d y
      by (whole e alike) = absurd (before (subst (λ f. UpTo (p ++ f) (p ++ x)) alike up))
      by (cut s v alike e) =
          let text : fronted d y ≡ s = ap (fronted d) alike ∙ fronted_cut d s v v e in
          let near : UpTo (p ++ s) (p ++ x) = subst (λ f. UpTo (p ++ f) (p ++ x)) text up in
          elim (tells (begins (p ++ s) (p ++ x))) [
            | inl t ↦ inside s v x e t ∙ sym text
            | inr f ↦ absurd (before (subst (λ k. UpTo k (p ++ x)) (append_assoc p s v ∙ ap (λ y. p ++ y) (sym alike)) (upto_all_longer (p ++ s) v (p ++ x) f near)))
          ]

-- ---- keys that begin with the prefix

module _ {H : Type 0} (p d : List ℕ) where
  key_text : (key : List ℕ) (h : H) → begins p key ≡ true → (y : List ℕ) × (key ≡ p ++ y) × ((row_of p d (key, h)).0 ≡ p ++ fronted d y)
  key_text key h is = let c = begins_cut p key is in (c.0, c.1, ap (λ k. (row_of p d (k, h)).0) c.1 ∙ text_is p d c.0 h)

  -- the text of a key up to the next marker is up to the name
  pub text_upto_name : (n key : List ℕ) (h : H) → begins p key ≡ true → UpTo key (next_marker p d n) → UpTo (row_of p d (key, h)).0 n
  text_upto_name n key h is up =
      let t = key_text key h is in
      subst (λ t. UpTo t n) (sym t.2) (shows_nothing p d t.0 n (subst (λ k. UpTo k (next_marker p d n)) t.1 up))

  -- a key whose text is up to the name is up to the next marker
  pub key_upto_marker : is_listing_text d ≡ true → (n key : List ℕ) (h : H) → is_listing_text n ≡ true → is_key key ≡ true → begins p key ≡ true → UpTo (row_of p d (key, h)).0 n → UpTo key (next_marker p d n)
  key_upto_marker of_d n key h of_n named is up =
      let t = key_text key h is in
      subst (λ k. UpTo k (next_marker p d n)) (sym t.1) (is_passed p d of_d t.0 n of_n (subst (λ k. is_key k ≡ true) t.1 named) (subst (λ t. UpTo t n) t.2 up))

  -- a key behind another, with a text up to that, has its text
  pub texts_alike : (e k : List ℕ × H) → begins p e.0 ≡ true → begins p k.0 ≡ true → UpTo (row_of p d k).0 e.0 → (UpTo k.0 e.0 → ⊥) → (row_of p d k).0 ≡ (row_of p d e).0
  texts_alike e k of_e of_k up before =
      let a = key_text e.0 e.1 of_e in
      let b = key_text k.0 k.1 of_k in
      let one : UpTo (p ++ fronted d b.0) (p ++ a.0) = subst (λ x. UpTo (p ++ fronted d b.0) x) a.1 (subst (λ t. UpTo t e.0) b.2 up) in
      let other : UpTo (p ++ b.0) (p ++ a.0) → ⊥ = λ h. before (subst (λ k. UpTo k e.0) (sym b.1) (subst (λ x. UpTo (p ++ b.0) x) (sym a.1) h)) in
      b.2 ∙ ap (λ f. p ++ f) (sym (same_text p d a.0 b.0 one other)) ∙ sym a.2

-- exactly those keys are left out that can show nothing more
pub jumps_exactly : JumpsExactly
jumps_exactly p d n key head of_d of_n is =
    let both = and_parts (is_key key) (begins p key) is in
    (text_upto_name p d n key head both.1, key_upto_marker p d of_d n key head of_n both.0 both.1)
