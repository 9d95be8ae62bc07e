-- The loops that list names.
use Rattle.std.specs.Prelude.{◌≡◌, ◌≢◌, ℕ, zero, suc, ◌+◌, ◌-◌, ◌<◌, ◌≤◌, Bool, true, false, cond, List, [], ◌∷◌, ◌++◌, map, length, take, drop}
use Rattle.std.specs.List.{filter}
use Rattle.std.proofs.Common.{refl, sym, ap, ◌∙◌, arith, get_or, append-nil, append_assoc, length-append}
use Rattle.std.proofs.lemmas.List.{drop_all}
use Rattle.swift_calls.specs.Step.{page}
use Rattle.planned_swift.proofs.Joining.{drop_at}

module _ {A B : Type 0} (f : A → B) (test : A → Bool) where
  page_out : (n : ℕ) (a : A) (rest : List A) → test a ≡ false → page n f test (a ∷ rest) ≡ page n f test rest
  unfolding page
  page_out n a rest is = ap (λ b. take n (map f (cond b (a ∷ filter test rest) (filter test rest)))) is

  page_in : (n : ℕ) (a : A) (rest : List A) → test a ≡ true → page (suc n) f test (a ∷ rest) ≡ f a ∷ page n f test rest
  unfolding page
  page_in n a rest is = ap (λ b. take (suc n) (map f (cond b (a ∷ filter test rest) (filter test rest)))) is

  page_none : (things : List A) → page 0 f test things ≡ []
  unfolding page
  page_none things = refl

  page_nil : (n : ℕ) → page n f test [] ≡ []
  unfolding page
  page_nil zero = refl
  page_nil (suc n) = refl

-- out is a page of the first i things
pub record Paged {A B : Type 0} (f : A → B) (test : A → Bool) (limit : ℕ) (things : List A) (i : ℕ) (out : List B) : Type 0 where
  pub so : out ++ page (limit - length out) f test (drop i things) ≡ page limit f test things
  pub within : length out ≤ limit

module _ {A B : Type 0} (f : A → B) (test : A → Bool) (limit : ℕ) (things : List A) where
  pub paged_start : Paged f test limit things 0 []
  paged_start = record { so = ap (λ n. page n f test things) (omega arith); within = omega arith }

  taken : (i : ℕ) (out : List B) (a : A) → length out ≤ limit → length out ≢ limit → i < length things → a ≡ get_or things i a → test a ≡ true
      → out ++ page (limit - length out) f test (drop i things) ≡ out ++ f a ∷ [] ++ page (limit - length (out ++ f a ∷ [])) f test (drop (i + 1) things)
  taken i out a near room within at is =
      let left : limit - length out ≡ suc (limit - length (out ++ f a ∷ [])) = omega (arith, length-append out (f a ∷ [])) in
      ap (λ l. out ++ page (limit - length out) f test l) (drop_at things i a within at)
      ∙ ap (λ n. out ++ page n f test (a ∷ drop (i + 1) things)) left
      ∙ ap (λ l. out ++ l) (page_in f test _ a _ is)
      ∙ sym (append_assoc out (f a ∷ []) _)

  -- one more is listed
  pub paged_more : (i : ℕ) (out : List B) (a : A) → Paged f test limit things i out → length out ≢ limit → i < length things → a ≡ get_or things i a → test a ≡ true → Paged f test limit things (i + 1) (out ++ f a ∷ [])
  paged_more i out a paged room within at is =
      let near = paged.within in
      record {
        so = sym (taken i out a near room within at is) ∙ paged.so;
        within = omega (arith, length-append out (f a ∷ []));
      }

  -- one is passed over
  pub paged_left : (i : ℕ) (out : List B) (a : A) → Paged f test limit things i out → i < length things → a ≡ get_or things i a → test a ≡ false → Paged f test limit things (i + 1) out
  paged_left i out a paged within at is = record {
    so = sym (ap (λ l. out ++ page (limit - length out) f test l) (drop_at things i a within at) ∙ ap (λ l. out ++ l) (page_out f test _ a _ is)) ∙ paged.so;
    within = paged.within;
  }

  -- the page is full
  pub paged_full : (i : ℕ) (out : List B) → Paged f test limit things i out → length out ≡ limit → out ≡ page limit f test things
  paged_full i out paged is =
      let none : limit - length out ≡ 0 = omega arith in
      sym (append-nil out) ∙ ap (λ l. out ++ l) (sym (page_none f test (drop i things))) ∙ ap (λ n. out ++ page n f test (drop i things)) (sym none) ∙ paged.so

  -- no more things are left
  pub paged_end : (i : ℕ) (out : List B) → Paged f test limit things i out → length things ≤ i → out ≡ page limit f test things
  paged_end i out paged past =
      sym (append-nil out) ∙ ap (λ l. out ++ l) (sym (page_nil f test (limit - length out))) ∙ ap (λ l. out ++ page (limit - length out) f test l) (sym (drop_all i things past)) ∙ paged.so

module _ {A B C : Type 0} (f : B → C) (test : B → Bool) (g : A → B) where
  filtered_map : (things : List A) → map f (filter test (map g things)) ≡ map (λ a. f (g a)) (filter (λ a. test (g a)) things)
  filtered_map [] = refl
  filtered_map (a ∷ rest) = elim (test (g a)) as (λ b. map f (cond b (g a ∷ filter test (map g rest)) (filter test (map g rest))) ≡ map (λ x. f (g x)) (cond b (a ∷ filter (λ x. test (g x)) rest) (filter (λ x. test (g x)) rest))) [
    | true ↦ ap (λ l. f (g a) ∷ l) (filtered_map rest)
    | false ↦ filtered_map rest
  ]

  -- a page of what g makes of things
  pub page_map : (n : ℕ) (things : List A) → page n f test (map g things) ≡ page n (λ a. f (g a)) (λ a. test (g a)) things
  unfolding page
  page_map n things = ap (take n) (filtered_map things)
