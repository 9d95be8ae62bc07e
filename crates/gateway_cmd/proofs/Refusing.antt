-- A text of keys that is refused has no keys of the form with different ids.
use Rattle.std.specs.Prelude.{◌≡◌, ℕ, zero, suc, Bool, true, false, not, ◌&&◌, ◌||◌, List, [], ◌∷◌, take, slice_get, MatchOption, Option, None, Some}
use Rattle.std.specs.List.{list_all, list_any}
use Rattle.std.proofs.Common.{refl, sym, ap, subst, inl, inr}
use Rattle.std.proofs.lemmas.Bool.{cases_Bool}
use Rattle.sigv4.specs.declared.keys.AccessKey.{AccessKey}
use Rattle.sigv4.specs.Keys.{is_key, has_id, ids_differ, are_keys, IsBadAt, IsTwiceAt}

and_off : (a b : Bool) → b ≡ false → (a && b) ≡ false
and_off true b e = e
and_off false b e = refl

or_on : (a b : Bool) → b ≡ true → (a || b) ≡ true
or_on true b e = refl
or_on false b e = e

-- the key of that index fails the test
fails_at : (p : AccessKey → Bool) (n : ℕ) (keys : List AccessKey) → MatchOption (slice_get keys n) ⊥ (λ key. p key ≡ false) → list_all p keys ≡ false
fails_at p n [] h = absurd h
fails_at p zero (key ∷ keys) h = ap (λ b. b && list_all p keys) h
fails_at p (suc n) (key ∷ keys) h = and_off (p key) (list_all p keys) (fails_at p n keys h)

-- the key of that index passes it
passes_at : (p : AccessKey → Bool) (n : ℕ) (keys : List AccessKey) → MatchOption (slice_get keys n) ⊥ (λ key. p key ≡ true) → list_any p keys ≡ true
passes_at p n [] h = absurd h
passes_at p zero (key ∷ keys) h = ap (λ b. b || list_any p keys) h
passes_at p (suc n) (key ∷ keys) h = or_on (p key) (list_any p keys) (passes_at p n keys h)

-- the id of the key of that index stands before it
abbrev Repeats : ℕ → List AccessKey → Type 0
Repeats n keys = MatchOption (slice_get keys n) ⊥ (λ key. (is_key key ≡ true) × (list_any (has_id key.id) (take n keys) ≡ true))

repeats_next : (n : ℕ) (first : AccessKey) (keys : List AccessKey) (found : Option AccessKey) → slice_get keys n ≡ found → (Repeats n keys → ids_differ keys ≡ false)
    → MatchOption found ⊥ (λ key. (is_key key ≡ true) × ((has_id key.id first || list_any (has_id key.id) (take n keys)) ≡ true))
    → (not (list_any (λ later. has_id later.id first) keys) && ids_differ keys) ≡ false
repeats_next n first keys None at later h = absurd h
repeats_next n first keys (Some key) at later h = elim (cases_Bool (has_id key.id first)) [
  | inl same ↦
      let own = subst (λ found. MatchOption found ⊥ (λ key. has_id key.id first ≡ true)) (sym at) same in
      ap (λ b. not b && ids_differ keys) (passes_at (λ later. has_id later.id first) n keys own)
  | inr other ↦
      let rest : list_any (has_id key.id) (take n keys) ≡ true = rw other at h.1 in
      let own = subst (λ found. MatchOption found ⊥ (λ key. (is_key key ≡ true) × (list_any (has_id key.id) (take n keys) ≡ true))) (sym at) (h.0, rest) in
      and_off (not (list_any (λ later. has_id later.id first) keys)) (ids_differ keys) (later own)
]

repeats_at : (n : ℕ) (keys : List AccessKey) → Repeats n keys → ids_differ keys ≡ false
unfolding ids_differ
repeats_at n [] h = absurd h
repeats_at zero (key ∷ keys) h = let no : false ≡ true = h.1 in absurd cc
repeats_at (suc n) (first ∷ keys) h = repeats_next n first keys (slice_get keys n) refl (repeats_at n keys) h

pub bad_keys : (n : ℕ) (keys : List AccessKey) → IsBadAt n keys → are_keys keys ≡ false
bad_keys n keys bad = ap (λ b. b && ids_differ keys) (fails_at is_key n keys bad.1)

pub twice_keys : (n : ℕ) (keys : List AccessKey) → IsTwiceAt n keys → are_keys keys ≡ false
twice_keys n keys twice = and_off (list_all is_key keys) (ids_differ keys) (repeats_at n keys twice.1)
