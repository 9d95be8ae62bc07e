-- An id that isn't taken: nothing stands under it.
use Rattle.std.specs.Prelude.{◌≡◌, ℕ, true, is_some, List, ◌∷◌, Option, Some, None}
use Rattle.std.specs.FinMap.{get}
use Rattle.std.proofs.Common.{refl, inl, inr}
use Rattle.swift_calls.specs.Account.{SwiftAccount, SwiftObject, files}
use Rattle.upload_records.specs.Layout.{five_digits, segment_name, segments_name, sub_manifest_name, uploads_name}
use Rattle.upload_records.specs.Laws.{IsUnused}
use Rattle.account_calls.specs.Answers.{IsNamedBy, IsTaken}

not_taken : (o : Option SwiftObject) → (is_some o ≡ true → ⊥) → o ≡ None
not_taken None free = refl
not_taken (Some file) free = absurd (free refl)

named_segment : (id : List ℕ) (number : ℕ) → IsNamedBy id (segment_name id number)
unfolding segment_name
named_segment id number = (five_digits number, refl)

named_sub_manifest : (id : List ℕ) (number : ℕ) → IsNamedBy id (sub_manifest_name id number)
unfolding sub_manifest_name
named_sub_manifest id number = (109 ∷ five_digits number, refl)

pub unused : (tree : SwiftAccount) (bucket id : List ℕ) → (IsTaken tree bucket id → ⊥) → IsUnused tree bucket id
unused tree bucket id free = record {
  unrecorded = not_taken (get (files tree (uploads_name bucket)) id) (λ some. free (inl some));
  bare = λ number. not_taken (get (files tree (segments_name bucket)) (segment_name id number)) (λ some. free (inr (segment_name id number, named_segment id number, some)));
  unlisted = λ number. not_taken (get (files tree (segments_name bucket)) (sub_manifest_name id number)) (λ some. free (inr (sub_manifest_name id number, named_sub_manifest id number, some)));
}
