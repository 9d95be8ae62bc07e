-- The dots of a text, and the texts between them.
use Rattle.std.proofs.Common.{◌≡◌, ℕ, ◌+◌, ◌<◌, ◌≤◌, Bool, true, false, cond, not, ◌&&◌, eqb, ltb, List, [], ◌∷◌, length, take, drop, Some, None, position, count_by, refl, ap, ◌∙◌, arith}
use Rattle.std.specs.List.{list_all, slice_split, onto_first, position_or_len}
use Rattle.std.proofs.lemmas.Bool.Decides.{nat_tests}
use Rattle.std.proofs.lemmas.List.Splits.{slice_split_first, length-slice_split}
use Rattle.s3_names.specs.Bucket.{has_two_dots, is_short_number, is_address, is_dot}

-- fewer than two bytes have no two dots
pub has_two_dots_short : (text : List ℕ) → length text < 2 → has_two_dots text ≡ false
unfolding has_two_dots
has_two_dots_short [] h = refl
has_two_dots_short (a ∷ []) h = refl
has_two_dots_short (a ∷ b ∷ bytes) h = absurd (omega arith)

-- a text is cut at its first separator
pub slice_split_from : (p : ℕ → Bool) (text : List ℕ) (at : ℕ) → position p text ≡ Some at
    → slice_split p text ≡ take at text ∷ slice_split p (drop (at + 1) text)
slice_split_from p text at h = from_test (ltb (position_or_len p text) (length text)) refl h
  where
    from_test : (b : Bool) → ltb (position_or_len p text) (length text) ≡ b → cond b (Some (position_or_len p text)) None ≡ Some at
        → slice_split p text ≡ take at text ∷ slice_split p (drop (at + 1) text)
    from_test true e k =
        let found : position_or_len p text ≡ at = cc in
        rw (← found) (slice_split_first p text 0 (grind (arith, nat_tests)))
    from_test false e k = cc

-- a text without a separator is not cut
pub slice_split_whole : (p : ℕ → Bool) (text : List ℕ) → length text ≤ position_or_len p text → slice_split p text ≡ text ∷ []
slice_split_whole p [] h = refl
slice_split_whole p (x ∷ text) h = at_first (p x) (λ n. slice_split_whole p text n) h
  where
    at_first : (b : Bool) → (length text ≤ position_or_len p text → slice_split p text ≡ text ∷ [])
        → length (x ∷ text) ≤ cond (not b) (1 + position_or_len p text) 0
        → cond b ([] ∷ slice_split p text) (onto_first x (slice_split p text)) ≡ (x ∷ text) ∷ []
    at_first true ih k = absurd (omega arith)
    at_first false ih k = rw (ih (omega arith)) refl

pub slice_split_none_at : (p : ℕ → Bool) (text : List ℕ) → position p text ≡ None → slice_split p text ≡ text ∷ []
slice_split_none_at p text h = from_test (ltb (position_or_len p text) (length text)) refl h
  where
    from_test : (b : Bool) → ltb (position_or_len p text) (length text) ≡ b → cond b (Some (position_or_len p text)) None ≡ None
        → slice_split p text ≡ text ∷ []
    from_test true e k = cc
    from_test false e k = slice_split_whole p text (grind (arith, nat_tests))

numbers_from_dot : (text : List ℕ) (at : ℕ) → position is_dot text ≡ Some at
    → list_all is_short_number (slice_split is_dot text) ≡ (is_short_number (take at text)
    && list_all is_short_number (slice_split is_dot (drop (at + 1) text)))
numbers_from_dot text at h = rw (slice_split_from is_dot text at h)

-- the first text between the dots is no number
pub numbers_end : (text : List ℕ) (at : ℕ) → position is_dot text ≡ Some at → is_short_number (take at text) ≡ false
    → list_all is_short_number (slice_split is_dot text) ≡ false
numbers_end text at h failing = numbers_from_dot text at h ∙ ap (λ b. b && list_all is_short_number (slice_split is_dot (drop (at + 1) text))) failing

-- the first text between the dots is one, and it comes to the others
pub numbers_go_on : (text : List ℕ) (at : ℕ) → position is_dot text ≡ Some at → is_short_number (take at text) ≡ true
    → list_all is_short_number (slice_split is_dot text) ≡ list_all is_short_number (slice_split is_dot (drop (at + 1) text))
numbers_go_on text at h passing = numbers_from_dot text at h ∙ ap (λ b. b && list_all is_short_number (slice_split is_dot (drop (at + 1) text))) passing

pub numbers_without_dot : (text : List ℕ) → position is_dot text ≡ None → list_all is_short_number (slice_split is_dot text) ≡ is_short_number text
numbers_without_dot text h = rw (slice_split_none_at is_dot text h) (and_true (is_short_number text))
  where
    and_true : (b : Bool) → (b && true) ≡ b
    and_true true = refl
    and_true false = refl

-- four texts stand round three dots
pub is_address_by_dots : (name : List ℕ) → is_address name ≡ (eqb (count_by is_dot name) 3 && list_all is_short_number (slice_split is_dot name))
is_address_by_dots name =
    let counted : eqb (length (slice_split is_dot name)) 4 ≡ eqb (count_by is_dot name) 3 = grind (arith, nat_tests, length-slice_split is_dot name) in
    ap (λ b. b && list_all is_short_number (slice_split is_dot name)) counted
