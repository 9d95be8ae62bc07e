-- The parts of an upload, listed page by page.
use Rattle.std.proofs.Common.{◌≡◌, ◌⊎◌, ℕ, zero, suc, ◌<◌, ◌≤◌, Bool, true, false, cond, ◌&&◌, nat_lt, List, [], ◌∷◌, ◌++◌, length, take, is_some, Option, Some, None, Result, Ok, Err, refl, sym, ap, ◌∙◌, inl, inr, arith}
use Rattle.std.specs.Result.{IsErrAnd}
use Rattle.std.specs.List.{filter, list_all}
use Rattle.std.specs.Ordering.{is_lt}
use Rattle.std.specs.FinMap.{entries}
use Rattle.std.proofs.lemmas.Bool.Decides.{nat_tests}
use Rattle.std.proofs.lemmas.List.{length-append}
use Rattle.gate_base.specs.Maps.{name_cmp}
use Rattle.s3_names.specs.Bucket.{is_bucket}
use Rattle.s3_names.specs.Id.{id_digits}
use Rattle.s3_machine.specs.Items.{with_prefix}
use Rattle.s3_machine.specs.Uploads.{cut, greatest_part}
use Rattle.s3_machine.specs.declared.items.PartItem.{PartItem}
use Rattle.s3_machine.specs.declared.limits.TheConstants.{GREATEST_PART_NUMBER}
use Rattle.swift_calls.specs.Account.{SwiftAccount, files}
use Rattle.swift_calls.specs.History.{History, present}
use Rattle.upload_records.specs.Layout.{segments_name, segments_prefix, segment_name}
use Rattle.upload_records.specs.Native.{parts_of}
use Rattle.upload_records.specs.Consistent.{IsConsistent}
use Rattle.account_calls.specs.declared.fault.PlanFault.{PlanFault}
use Rattle.account_calls.specs.Answers.{named_by, pages}
use Rattle.account_calls.specs.Listing.{TellsOf}
use Rattle.account_calls.specs.Calls.{Bound, always, by_account, Asks, GivenOf, Met}
use Rattle.account_calls.specs.FilePages.{items_after, rows_after}
use Rattle.account_calls.proofs.lemmas.Idle.{grows_none, none_made}
use Rattle.upload_calls.specs.Listing.{part_due, told_after, TellsNext}
use Rattle.upload_calls.specs.Records.{HasOnlyParts, TellsParts, items_above}
use Rattle.upload_calls.proofs.PartRows.{items_told, none_above, parts_told}
use Rattle.upload_calls.proofs.lemmas.Taking.{Taking, taking_end, taking_fault, taking_none}

-- ---- the first of some items

take_zero : {X : Type 0} (xs : List X) → take 0 xs ≡ []
take_zero [] = refl
take_zero (x ∷ xs) = refl

take_front : {X : Type 0} (n : ℕ) (xs ys : List X) → n ≤ length xs → take n (xs ++ ys) ≡ take n xs
take_front zero xs ys near = take_zero (xs ++ ys) ∙ sym (take_zero xs)
take_front (suc n) [] ys near = absurd (omega (arith, near))
take_front (suc n) (x ∷ xs) ys near = ap (λ l. x ∷ l) (take_front n xs ys (omega (arith, near)))

-- where there are more than enough, those behind don't count
cut_more : {X : Type 0} (max : ℕ) (xs ys : List X) → max < length xs → cut max xs ≡ cut max (xs ++ ys)
cut_more max xs ys more =
    let here : nat_lt max (length xs) ≡ true = grind (arith, nat_tests, more) in
    let there : nat_lt max (length (xs ++ ys)) ≡ true = grind (arith, nat_tests, more, length-append xs ys) in
    λ i. (sym (take_front max xs ys (omega (arith, more))) i, nat_lt 0 max && (here ∙ sym there) i)

pub cut_none : {X : Type 0} (xs : List X) → cut 0 xs ≡ ([], false)
cut_none xs = ap (λ l. (l, false)) (take_zero xs)

cut_empty : {X : Type 0} (max : ℕ) → let none : List X = [] in cut max none ≡ ([], false)
cut_empty zero = refl
cut_empty (suc max) = ap (λ t. ([], t)) (ap (λ t. nat_lt 0 (suc max) && t) none ∙ never (nat_lt 0 (suc max)))
  where
    none : nat_lt (suc max) 0 ≡ false
    none = grind (arith, nat_tests)

    never : (t : Bool) → (t && false) ≡ false
    never true = refl
    never false = refl

pub shorter : {X : Type 0} (p : X → Bool) (xs : List X) → length (filter p xs) ≤ length xs
shorter p [] = omega arith
shorter p (x ∷ xs) = let less = shorter p xs in elim (p x) as (λ t. length (cond t (x ∷ filter p xs) (filter p xs)) ≤ suc (length xs)) [ true ↦ omega (arith, less) | false ↦ omega (arith, less) ]

-- ---- the segments of an upload

abbrev prefix_of : ℕ → List ℕ
prefix_of id = segments_prefix (id_digits id)

abbrev first_of : ℕ → ℕ → List ℕ
first_of id marker = segment_name (id_digits id) marker

-- no more rows than names under the prefix
rows_within : (tree : SwiftAccount) (bucket : List ℕ) (id : ℕ) (marker : List ℕ) → length (rows_after (prefix_of id) marker (files tree (segments_name bucket))) ≤ named_by tree bucket (id_digits id)
unfolding segments_prefix
rows_within tree bucket id marker = shorter (λ e. is_lt (name_cmp marker e.0)) (with_prefix (prefix_of id) (entries (files tree (segments_name bucket))))

-- each item tells a part
pub all_parts : (bucket : List ℕ) (id : ℕ) (marker : List ℕ) → is_bucket bucket ≡ true → (tree : SwiftAccount) → IsConsistent tree → HasOnlyParts bucket id tree
    → list_all (λ item. is_some (part_due (prefix_of id) item)) (items_after (prefix_of id) marker (files tree (segments_name bucket))) ≡ true
all_parts bucket id marker is tree sound has = items_told tree bucket id is sound (has sound) marker

-- so far the parts are listed up to the marker
abbrev pub Parting : History → History → List ℕ → ℕ → ℕ → List ℕ → List PartItem → Type 0
Parting a b bucket id marker last parts = Taking a b (HasOnlyParts bucket id) (part_due (prefix_of id)) (segments_name bucket) (prefix_of id) (first_of id marker) last parts

pub parting_none : (a : History) (bucket : List ℕ) (id marker : ℕ) (last : List ℕ) (parts : List PartItem) → last ≡ first_of id marker → parts ≡ [] → Parting a a bucket id marker last parts
parting_none a bucket id marker last parts begins none = taking_none a (HasOnlyParts bucket id) (part_due (prefix_of id)) (segments_name bucket) (prefix_of id) (first_of id marker) last parts begins none

-- what is told is enough: it was the last page, or there are more parts than are asked for
abbrev pub IsEnough : ℕ → List PartItem → Option (List ℕ) → Type 0
IsEnough max parts None = Unit {0}
IsEnough max parts (Some next) = max < length parts

module _ {a b : History} (bucket : List ℕ) (id marker : ℕ) {last : List ℕ} {parts : List PartItem} (walked : Parting a b bucket id marker last parts) where
  cut_by : (tree : SwiftAccount) (max : ℕ) (new : List PartItem) (o : Option (List ℕ)) → TellsNext (part_due (prefix_of id)) (segments_name bucket) (prefix_of id) last parts new tree o → IsEnough max new o
      → parts ++ told_after (part_due (prefix_of id)) (segments_name bucket) (prefix_of id) last tree ≡ told_after (part_due (prefix_of id)) (segments_name bucket) (prefix_of id) (first_of id marker) tree
      → cut max new ≡ cut max (told_after (part_due (prefix_of id)) (segments_name bucket) (prefix_of id) (first_of id marker) tree)
  cut_by tree max new None tells enough all = ap (cut max) (tells ∙ all)
  cut_by tree max new (Some next) tells enough all = cut_more max new (told_after (part_due (prefix_of id)) (segments_name bucket) (prefix_of id) next tree) enough ∙ ap (cut max) (tells.all ∙ all)

  -- the last page that is asked for
  pub parting_end : {new : List PartItem} {c : History} {told : Option (List ℕ)}
      → Asks (always 1) b c (GivenOf (HasOnlyParts bucket id)) (TellsOf (TellsNext (part_due (prefix_of id)) (segments_name bucket) (prefix_of id) last parts new)) (Ok told)
      → is_bucket bucket ≡ true → (max : ℕ) → IsEnough max new told → (result : List PartItem × Bool) → result ≡ cut max new
      → Asks (by_account (pages (named_by (present a) bucket (id_digits id)))) a c (GivenOf (HasOnlyParts bucket id)) (TellsOf (TellsParts bucket id marker max)) (Ok result)
  parting_end {new = new} {told = told} asks named max enough result is =
      taking_end walked asks (TellsParts bucket id marker max) (named_by (present a) bucket (id_digits id)) result (rows_within (present a) bucket id (first_of id marker))
      (λ tree sound has tells all. is ∙ cut_by tree max new told tells enough all ∙ ap (cut max) (parts_told tree bucket id named sound (has sound) marker))

  -- a page that wasn't added
  pub parting_fault : {T : Type 0} {Q : SwiftAccount → T → Type 0} {c : History} {f : PlanFault} → Asks (always 1) b c (GivenOf (HasOnlyParts bucket id)) (TellsOf Q) (Err f) → (max : ℕ)
      → (result : Result (List PartItem × Bool) PlanFault) → IsErrAnd result (λ e. e ≡ f)
      → Asks (by_account (pages (named_by (present a) bucket (id_digits id)))) a c (GivenOf (HasOnlyParts bucket id)) (TellsOf (TellsParts bucket id marker max)) result
  parting_fault asks max result is =
      taking_fault walked asks (TellsParts bucket id marker max) (named_by (present a) bucket (id_digits id)) (rows_within (present a) bucket id (first_of id marker)) result is

-- ---- the marker

-- it is a number of five digits
pub marker_fits : (marker : ℕ) → marker < GREATEST_PART_NUMBER → (marker ≤ greatest_part) × (marker ≤ 99999)
unfolding greatest_part
marker_fits marker less = (omega (arith, less), omega (arith, less))

pub great_marker : (marker : ℕ) → GREATEST_PART_NUMBER ≤ marker → greatest_part ≤ marker
unfolding greatest_part
great_marker marker great = great

-- none is asked for, or none has so great a number
pub none_listed : (a : History) (most : Bound) (bucket : List ℕ) (id marker max : ℕ) → is_bucket bucket ≡ true → (max ≡ 0) ⊎ (greatest_part ≤ marker) → (result : List PartItem × Bool) → result ≡ ([], false)
    → Asks most a a (GivenOf (HasOnlyParts bucket id)) (TellsOf (TellsParts bucket id marker max)) (Ok result)
none_listed a most bucket id marker max named none result is = record {
  grows = grows_none most (GivenOf (HasOnlyParts bucket id)) a;
  cause = refl;
  effect = λ met. (none_made refl met.sound, refl, record { of_account = is ∙ sym (nothing met none); same = refl });
  settled = λ observable settled. settled;
}
  where
    nothing : Met (GivenOf (HasOnlyParts bucket id)) a → (max ≡ 0) ⊎ (greatest_part ≤ marker) → cut max (items_above marker (parts_of (files (present a) (segments_name bucket)) (id_digits id))) ≡ ([], false)
    nothing met (inl zero_is) =
        ap (λ n. cut n (items_above marker (parts_of (files (present a) (segments_name bucket)) (id_digits id)))) zero_is
        ∙ cut_none (items_above marker (parts_of (files (present a) (segments_name bucket)) (id_digits id)))
    nothing met (inr above) = ap (cut max) (none_above (present a) bucket id named met.sound (met.has.is met.sound) marker above) ∙ cut_empty max
