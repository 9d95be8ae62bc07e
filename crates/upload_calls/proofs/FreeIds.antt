-- The search of a free id: no more ids are taken than there are records and segments.
use Rattle.std.specs.Prelude.{◌≡◌, ◌<◌, ◌≤◌, ◌+◌, ◌-◌, ◌%◌, ◌^◌, ◌⊎◌, ◌==◌, ℕ, zero, suc, nat_le, cond, Bool, true, false, List, [], ◌∷◌, length, take}
use Rattle.std.specs.List.{list_any}
use Rattle.std.specs.Option.{unwrap_or}
use Rattle.std.specs.FinMap.{entries, len-entries}
use Rattle.std.proofs.Common.{sym, ap, subst, ◌∙◌, inl, inr, arith, take_at, take_all}
use Rattle.std.proofs.lemmas.Bool.{eq-eqb, or_cases}
use Rattle.std.proofs.lemmas.Bool.Decides.{nat_tests}
use Rattle.s3_names.specs.Id.{id_digits}
use Rattle.s3_names.proofs.lemmas.Ids.{id_reads_back, length-id_digits}
use Rattle.s3_machine.specs.Uploads.{id_value}
use Rattle.swift_calls.specs.Account.{SwiftObject, SwiftAccount, files}
use Rattle.upload_records.specs.Layout.{segments_name, uploads_name}
use Rattle.account_calls.specs.Answers.{IsNamedBy, IsTaken, id_at, records_of, segments_of}
use Rattle.upload_calls.proofs.Members.{passes}

-- ---- things at distances

module _ {A : Type 0} (at : A → ℕ) where
  -- how many are so far away, or farther
  abbrev far : ℕ → List A → ℕ
  far k [] = 0
  far k (x ∷ xs) = cond (nat_le k (at x)) 1 0 + far k xs

  far_few : (k : ℕ) (xs : List A) → far k xs ≤ length xs
  far_few k [] = omega arith
  far_few k (x ∷ xs) = by (nat_le k (at x)) (far_few k xs)
    where
      by : (t : Bool) → far k xs ≤ length xs → cond t 1 0 + far k xs ≤ length (x ∷ xs)
      by true few = omega (arith, few)
      by false few = omega (arith, few)

  one_less : (k n : ℕ) → cond (nat_le (suc k) n) 1 0 ≤ cond (nat_le k n) 1 0
  one_less k n = grind (arith, nat_tests)

  one_drops : (k n : ℕ) → (n == k) ≡ true → cond (nat_le (suc k) n) 1 0 + 1 ≤ cond (nat_le k n) 1 0
  one_drops k n e = grind (arith, nat_tests)

  far_less : (k : ℕ) (xs : List A) → far (suc k) xs ≤ far k xs
  far_less k [] = omega arith
  far_less k (x ∷ xs) = let one = one_less k (at x) in let more = far_less k xs in omega (arith, one, more)

  -- one at this distance is no farther
  far_drops : (k : ℕ) (xs : List A) → list_any (λ x. at x == k) xs ≡ true → far (suc k) xs + 1 ≤ far k xs
  far_drops k [] never = cc
  far_drops k (x ∷ xs) has = elim (or_cases (at x == k) (list_any (λ x. at x == k) xs) has) [
    | inl here ↦ (let one = one_drops k (at x) here in let more = far_less k xs in omega (arith, one, more))
    | inr later ↦ (let one = one_less k (at x) in let more = far_drops k xs later in omega (arith, one, more))
  ]

-- where one thing or another is at each distance below n, there are as many
module _ {A B : Type 0} (f : A → ℕ) (g : B → ℕ) (xs : List A) (ys : List B) where
  abbrev IsAt : ℕ → Type 0
  IsAt k = (list_any (λ x. f x == k) xs ≡ true) ⊎ (list_any (λ y. g y == k) ys ≡ true)

  counted : (n : ℕ) → ((k : ℕ) → k < n → IsAt k) → n + far f n xs + far g n ys ≤ length xs + length ys
  counted zero each = let first = far_few f 0 xs in let then = far_few g 0 ys in omega (arith, first, then)
  counted (suc n) each =
      let before = counted n (λ k below. each k (omega (arith, below))) in
      elim (each n (omega arith)) [
        | inl has ↦ (let one = far_drops f n xs has in let other = far_less g n ys in omega (arith, before, one, other))
        | inr has ↦ (let one = far_drops g n ys has in let other = far_less f n xs in omega (arith, before, one, other))
      ]

  pub as_many : (n : ℕ) → ((k : ℕ) → k < n → IsAt k) → n ≤ length xs + length ys
  as_many n each = let all = counted n each in omega (arith, all)

-- ---- ids

-- how far an id is behind the draw
abbrev distance : ℕ → ℕ → ℕ
distance draw id = (id + 2 ^ 128 - draw) % 2 ^ 128

distance_of_try : (draw k : ℕ) → draw < 2 ^ 128 → k < 2 ^ 128 → distance draw ((draw + k) % 2 ^ 128) ≡ k
distance_of_try draw k first then = omega (arith, first, then)

value_of : (id : ℕ) → id < 2 ^ 128 → id_value (id_digits id) ≡ id
value_of id small = ap (λ v. unwrap_or v 0) (id_reads_back id small)

-- the distance of the id that a name begins with
abbrev far_is : ℕ → List ℕ → ℕ
far_is draw name = distance draw (id_value (take 32 name))

try_small : (draw k : ℕ) → (draw + k) % 2 ^ 128 < 2 ^ 128
try_small draw k = omega arith

front_far : (draw k : ℕ) (name : List ℕ) → draw < 2 ^ 128 → k < 2 ^ 128 → take 32 name ≡ id_at (draw + k) → (far_is draw name == k) ≡ true
front_far draw k name first then front =
    eq-eqb (far_is draw name) k (ap (λ t. distance draw (id_value t)) front ∙ ap (distance draw) (value_of ((draw + k) % 2 ^ 128) (try_small draw k)) ∙ distance_of_try draw k first then)

record_front : (id : ℕ) → take 32 (id_digits id) ≡ id_digits id
record_front id = take_all 32 (id_digits id) (let long = length-id_digits id in omega (arith, long))

segment_front : (id : ℕ) (name : List ℕ) → IsNamedBy (id_digits id) name → take 32 name ≡ id_digits id
segment_front id name (rest, is) = ap (take 32) is ∙ take_at (id_digits id) (47 ∷ rest) 32 (length-id_digits id)

module _ (tree : SwiftAccount) (bucket : List ℕ) (draw : ℕ) (small : draw < 2 ^ 128) where
  abbrev records : List (List ℕ × SwiftObject)
  records = entries (files tree (uploads_name bucket))

  abbrev segments : List (List ℕ × SwiftObject)
  segments = entries (files tree (segments_name bucket))

  taken_at : (k : ℕ) → k < 2 ^ 128 → IsTaken tree bucket (id_at (draw + k))
      → (list_any (λ (e : List ℕ × SwiftObject). far_is draw e.0 == k) records ≡ true) ⊎ (list_any (λ (e : List ℕ × SwiftObject). far_is draw e.0 == k) segments ≡ true)
  taken_at k below (inl there) =
      inl (passes (λ name. far_is draw name == k) (files tree (uploads_name bucket)) (id_at (draw + k)) there (front_far draw k (id_at (draw + k)) small below (record_front ((draw + k) % 2 ^ 128))))
  taken_at k below (inr (name, named, there)) =
      inr (passes (λ name. far_is draw name == k) (files tree (segments_name bucket)) name there (front_far draw k name small below (segment_front ((draw + k) % 2 ^ 128) name named)))

  -- as many tries that found a taken id as there are records and segments, at most
  pub tries_few : (n : ℕ) → n ≤ 2 ^ 128 → ((k : ℕ) → k < n → IsTaken tree bucket (id_at (draw + k))) → n ≤ records_of tree bucket + segments_of tree bucket
  tries_few n near taken =
      subst (λ m. n ≤ m) (λ i. sym (len-entries (files tree (uploads_name bucket))) i + sym (len-entries (files tree (segments_name bucket))) i)
      (as_many (λ (e : List ℕ × SwiftObject). far_is draw e.0) (λ (e : List ℕ × SwiftObject). far_is draw e.0) records segments n
      (λ k below. taken_at k (omega (arith, near, below)) (taken k below)))
