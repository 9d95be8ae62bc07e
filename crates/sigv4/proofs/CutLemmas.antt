-- Texts that are cut at a byte, or behind the spaces at their start.
use Rattle.std.proofs.Common.{◌≡◌, ℕ, ◌+◌, ◌<◌, suc, zero, Bool, true, false, cond, not, eqb, List, [], ◌∷◌, ◌++◌, ◌⊎◌, length, take, drop, replicate, refl, ap, sym, ◌∙◌, subst, inl, inr, arith, nat_eq}
use Rattle.std.specs.List.{list_all, starts_with, slice_split, onto_first, position_or_len, before_first, after_first, join_with_byte}
use Rattle.std.specs.Cmp.Lexicographic.{same_text}
use Rattle.std.proofs.lemmas.Bool.{cases_Bool, and_from, and_parts, not-true, eqb-true}
use Rattle.std.proofs.lemmas.List.{take-append-drop}
use Rattle.std.proofs.lemmas.List.Folds.{list_all-append}
use Rattle.sigv4.specs.Keys.{is_space}
use Rattle.sigv4.specs.Authorization.{skip_spaces}

-- no byte of the text is a separator
abbrev pub is_free : (ℕ → Bool) → List ℕ → Bool
is_free p text = list_all (λ b. not (p b)) text

place_at : (p : ℕ → Bool) (x : ℕ) (xs : List ℕ) → p x ≡ true → position_or_len p (x ∷ xs) ≡ 0
place_at p x xs e = ap (λ b. cond (not b) (1 + position_or_len p xs) 0) e

place_past : (p : ℕ → Bool) (x : ℕ) (xs : List ℕ) → p x ≡ false → position_or_len p (x ∷ xs) ≡ suc (position_or_len p xs)
place_past p x xs e = ap (λ b. cond (not b) (1 + position_or_len p xs) 0) e ∙ omega arith

before_past : (p : ℕ → Bool) (x : ℕ) (xs : List ℕ) → p x ≡ false → before_first p (x ∷ xs) ≡ x ∷ before_first p xs
before_past p x xs e = rw (place_past p x xs e) refl

after_past : (p : ℕ → Bool) (x : ℕ) (xs : List ℕ) → p x ≡ false → after_first p (x ∷ xs) ≡ after_first p xs
after_past p x xs e =
    let more : suc (position_or_len p xs) + 1 ≡ suc (position_or_len p xs + 1) = omega arith in
    rw (place_past p x xs e, more) refl

-- a text is cut at its first separator
pub before_of : (p : ℕ → Bool) (xs : List ℕ) (y : ℕ) (ys : List ℕ) → is_free p xs ≡ true → p y ≡ true → before_first p (xs ++ y ∷ ys) ≡ xs
before_of p [] y ys free e = rw (place_at p y ys e) refl
before_of p (x ∷ xs) y ys free e =
    let parts = and_parts (not (p x)) (is_free p xs) free in
    before_past p x (xs ++ y ∷ ys) (not-true (p x) parts.0) ∙ ap (λ t. x ∷ t) (before_of p xs y ys parts.1 e)

pub after_of : (p : ℕ → Bool) (xs : List ℕ) (y : ℕ) (ys : List ℕ) → is_free p xs ≡ true → p y ≡ true → after_first p (xs ++ y ∷ ys) ≡ ys
after_of p [] y ys free e = rw (place_at p y ys e) refl
after_of p (x ∷ xs) y ys free e =
    let parts = and_parts (not (p x)) (is_free p xs) free in
    after_past p x (xs ++ y ∷ ys) (not-true (p x) parts.0) ∙ after_of p xs y ys parts.1 e

-- a text is its parts with the separator between, or nothing stands behind
cut_back : (c : ℕ) (xs : List ℕ) → (xs ≡ before_first (λ b. eqb b c) xs ++ c ∷ after_first (λ b. eqb b c) xs) ⊎ (after_first (λ b. eqb b c) xs ≡ [])
cut_back c [] = inr refl
cut_back c (x ∷ xs) =
    elim (cases_Bool (eqb x c)) [
      | inl e ↦ inl (rw (place_at (λ b. eqb b c) x xs e) (ap (λ b. b ∷ xs) (eqb-true x c e)))
      | inr e ↦
          rw (before_past (λ b. eqb b c) x xs e, after_past (λ b. eqb b c) x xs e)
          (elim (cut_back c xs) [ inl h ↦ inl (ap (λ t. x ∷ t) h) | inr h ↦ inr h ])
    ]

-- where what stands behind can't be nothing
pub cut_by : (c : ℕ) (xs : List ℕ) (P : List ℕ → Type 0) → P (after_first (λ b. eqb b c) xs) → (P [] → ⊥) → xs ≡ before_first (λ b. eqb b c) xs ++ c ∷ after_first (λ b. eqb b c) xs
cut_by c xs P h never = elim (cut_back c xs) [ inl e ↦ e | inr e ↦ absurd (never (subst P e h)) ]

-- a text that begins with a word is the word and what stands behind it
pub begins : (text word : List ℕ) → starts_with nat_eq text word ≡ true → text ≡ word ++ drop (length word) text
begins text word h = sym (take-append-drop (length word) text) ∙ ap (λ t. t ++ drop (length word) text) (sym (same_text word (take (length word) text) (sym h)))

-- spaces stand before the text from its first other byte on
pub spaces_back : (text : List ℕ) → (n : ℕ) × (text ≡ replicate n 32 ++ skip_spaces text)
unfolding skip_spaces
spaces_back [] = (0, refl)
spaces_back (x ∷ text) =
    elim (cases_Bool (is_space x)) [
      | inl e ↦ let more = spaces_back text in (suc more.0, rw e (ap (λ b. b ∷ text) (eqb-true x 32 e) ∙ ap (λ t. 32 ∷ t) more.1))
      | inr e ↦ (0, rw e refl)
    ]

pub spaces_skipped : (n x : ℕ) (text : List ℕ) → is_space x ≡ false → skip_spaces (replicate n 32 ++ x ∷ text) ≡ x ∷ text
unfolding skip_spaces
spaces_skipped zero x text e = rw e refl
spaces_skipped (suc n) x text e = spaces_skipped n x text e

pub all_replicated : (p : ℕ → Bool) (n x : ℕ) → p x ≡ true → list_all p (replicate n x) ≡ true
all_replicated p zero x e = refl
all_replicated p (suc n) x e = and_from (p x) (list_all p (replicate n x)) e (all_replicated p n x e)

pub all_joined : (p : ℕ → Bool) (xs ys : List ℕ) → list_all p xs ≡ true → list_all p ys ≡ true → list_all p (xs ++ ys) ≡ true
all_joined p xs ys a b = list_all-append p xs ys ∙ and_from (list_all p xs) (list_all p ys) a b

pub all_weaker : (p q : ℕ → Bool) → ((b : ℕ) → p b ≡ true → q b ≡ true) → (xs : List ℕ) → list_all p xs ≡ true → list_all q xs ≡ true
all_weaker p q w [] h = refl
all_weaker p q w (x ∷ xs) h = let parts = and_parts (p x) (list_all p xs) h in and_from (q x) (list_all q xs) (w x parts.0) (all_weaker p q w xs parts.1)

-- texts joined by a byte that passes
pub all_in_join : (p : ℕ → Bool) (c : ℕ) (texts : List (List ℕ)) → p c ≡ true → list_all (λ t. list_all p t) texts ≡ true → list_all p (join_with_byte c texts) ≡ true
all_in_join p c [] e h = refl
all_in_join p c (x ∷ []) e h = (and_parts (list_all p x) true h).0
all_in_join p c (x ∷ y ∷ texts) e h =
    let parts = and_parts (list_all p x) (list_all (λ t. list_all p t) (y ∷ texts)) h in
    all_joined p x (c ∷ join_with_byte c (y ∷ texts)) parts.0 (and_from (p c) (list_all p (join_with_byte c (y ∷ texts))) e (all_in_join p c (y ∷ texts) e parts.1))

split_whole : (p : ℕ → Bool) (xs : List ℕ) → is_free p xs ≡ true → slice_split p xs ≡ xs ∷ []
split_whole p [] free = refl
split_whole p (x ∷ xs) free =
    let parts = and_parts (not (p x)) (is_free p xs) free in
    ap (λ b. cond b ([] ∷ slice_split p xs) (onto_first x (slice_split p xs))) (not-true (p x) parts.0) ∙ ap (onto_first x) (split_whole p xs parts.1)

split_at : (p : ℕ → Bool) (xs : List ℕ) (y : ℕ) (ys : List ℕ) → is_free p xs ≡ true → p y ≡ true → slice_split p (xs ++ y ∷ ys) ≡ xs ∷ slice_split p ys
split_at p [] y ys free e = ap (λ b. cond b ([] ∷ slice_split p ys) (onto_first y (slice_split p ys))) e
split_at p (x ∷ xs) y ys free e =
    let parts = and_parts (not (p x)) (is_free p xs) free in
    ap (λ b. cond b ([] ∷ slice_split p (xs ++ y ∷ ys)) (onto_first x (slice_split p (xs ++ y ∷ ys)))) (not-true (p x) parts.0) ∙ ap (onto_first x) (split_at p xs y ys parts.1 e)

-- texts that were joined are found again, where none has the separator
pub split_joined : (p : ℕ → Bool) (c : ℕ) (texts : List (List ℕ)) → p c ≡ true → 0 < length texts → list_all (λ t. is_free p t) texts ≡ true → slice_split p (join_with_byte c texts) ≡ texts
split_joined p c [] e full h = absurd (omega arith)
split_joined p c (x ∷ []) e full h = split_whole p x (and_parts (is_free p x) true h).0
split_joined p c (x ∷ y ∷ texts) e full h =
    let parts = and_parts (is_free p x) (list_all (λ t. is_free p t) (y ∷ texts)) h in
    split_at p x c (join_with_byte c (y ∷ texts)) parts.0 e ∙ ap (λ t. x ∷ t) (split_joined p c (y ∷ texts) e (omega arith) parts.1)
