-- The DELETE of a container beside a bucket that is missing.
use Rattle.std.specs.Prelude.{◌≡◌, ℕ, Bool, true, false, List, is_some, Option, None, Some}
use Rattle.std.specs.Option.{option_map}
use Rattle.std.specs.FinMap.{get, remove}
use Rattle.std.proofs.Common.{refl, sym, ap, subst, ◌∙◌, inl, inr, true≢false}
use Rattle.gate_base.proofs.lemmas.Maps.{by_name, get_empty, same_key, at_remove, off_remove}
use Rattle.s3_names.specs.Bucket.{is_bucket}
use Rattle.swift_calls.specs.declared.calls.SwiftRequest.{SwiftRequest}
use Rattle.swift_calls.specs.declared.calls.SwiftRequest.TheVariants.{DeleteContainer}
use Rattle.swift_calls.specs.Account.{SwiftContainer, SwiftAccount, files_of, find_object}
use Rattle.swift_calls.specs.Step.{delete_by, delete_container, is_bare, swift_step}
use Rattle.upload_records.specs.Layout.{uploads_name, segments_name}
use Rattle.upload_records.specs.Native.{IsUnsealed, SameGateway, s3_state}
use Rattle.upload_records.specs.Consistent.{Head, heads, head_of, IsBeside, IsHere, ConsistentContainers, IsThere, IsConsistent}
use Rattle.upload_records.specs.Laws.{IsQuiet}
use Rattle.upload_records.proofs.lemmas.Settled.{OffSame, same_none}
use Rattle.upload_records.proofs.lemmas.Sides.{bucket_side, uploads_side, segments_side}
use Rattle.upload_records.proofs.lemmas.Beside.{same_beside, plain_same, sound_beside}
use Rattle.leftovers.proofs.lemmas.Consistency.{changes_same, none_found, there_of}

-- a call that leaves the account is quiet
pub quiet_same : (tree : SwiftAccount) (request : SwiftRequest) → (swift_step request tree).tree ≡ tree → IsConsistent tree → IsQuiet tree request
quiet_same tree request same sound = record { sound = subst IsConsistent (sym same) sound; state = ap s3_state same; gateway = subst (SameGateway tree) (sym same) (same_none tree) }

module _ (tree : SwiftAccount) (b c : List ℕ) (beside : IsBeside c b) (none : get tree b ≡ None) (sound : IsConsistent tree) (unsealed : IsUnsealed tree) where
  abbrev new : SwiftAccount
  new = remove tree c

  off : OffSame tree new c
  off = off_remove by_name tree c

  at_c : heads new c ≡ None
  at_c = ap (option_map head_of) (at_remove by_name tree c)

  missing : IsThere tree b → ⊥
  missing there = true≢false (sym there ∙ ap is_some none)

  -- each head that is left was there
  was : (n : List ℕ) (head : Head) → heads new n ≡ Some head → heads tree n ≡ Some head
  was n head found = elim (same_key by_name n c) [
    | inl e ↦ absurd (none_found head (sym at_c ∙ ap (heads new) (sym e) ∙ found))
    | inr a ↦ sym (ap (option_map head_of) (off n a)) ∙ found
  ]

  bucket_left : (n : List ℕ) → is_bucket n ≡ true → heads new n ≡ heads tree n
  bucket_left n is = ap (option_map head_of) (off n (bucket_side c b beside n is))

  not_b : (n : List ℕ) → is_bucket n ≡ true → IsHere (heads tree) n → n ≡ b → ⊥
  not_b n is here e = missing (there_of (get tree b) (ap (λ m. is_some (heads tree m)) (sym e) ∙ here))

  folders_left : ConsistentContainers (heads new)
  folders_left = record {
    names = λ n head found. sound.folders.names n head (was n head found);
    hidden = λ n head found not. sound.folders.hidden n head (was n head found) not;
    timed = λ n head found is. sound.folders.timed n head (was n head found) is;
    records_beside = λ n is here. elim (same_key by_name n b) [
      | inl e ↦ absurd (not_b n is (was_here n is here) e)
      | inr a ↦ ap (λ o. is_some (option_map head_of o)) (off (uploads_name n) (uploads_side c b beside n is a)) ∙ sound.folders.records_beside n is (was_here n is here)
    ];
    segments_beside = λ n is here. elim (same_key by_name n b) [
      | inl e ↦ absurd (not_b n is (was_here n is here) e)
      | inr a ↦ ap (λ o. is_some (option_map head_of o)) (off (segments_name n) (segments_side c b beside n is a)) ∙ sound.folders.segments_beside n is (was_here n is here)
    ];
  }
    where
      was_here : (n : List ℕ) → is_bucket n ≡ true → IsHere (heads new) n → IsHere (heads tree) n
      was_here n is here = ap is_some (sym (bucket_left n is)) ∙ here

  none_held : (name : List ℕ) → find_object new c name ≡ None
  none_held name = ap (λ o. get (files_of o) name) (at_remove by_name tree c) ∙ get_empty by_name name

  removed_sound : IsConsistent new
  removed_sound = sound_beside tree new b c beside off sound unsealed folders_left (λ there. absurd (missing there)) (λ name file found. absurd (none_found file (sym (none_held name) ∙ found)))

  removed_quiet : (swift_step (DeleteContainer c) tree).tree ≡ new → IsQuiet tree (DeleteContainer c)
  removed_quiet leaves =
      changes_same tree new (DeleteContainer c) (λ state. state) unsealed (same_beside tree new b c beside off) leaves removed_sound
      (plain_same tree new b c beside off (λ folder found. absurd (none_found folder (sym none ∙ found))))

  by_bare : (folder : SwiftContainer) → get tree c ≡ Some folder → (t : Bool) → is_bare folder ≡ t → IsQuiet tree (DeleteContainer c)
  by_bare folder e true bare = removed_quiet (ap (λ o. (delete_container o c tree).tree) e ∙ ap (λ t. (delete_by t c tree).tree) bare)
  by_bare folder e false bare = quiet_same tree (DeleteContainer c) (ap (λ o. (delete_container o c tree).tree) e ∙ ap (λ t. (delete_by t c tree).tree) bare) sound

  by : (o : Option SwiftContainer) → get tree c ≡ o → IsQuiet tree (DeleteContainer c)
  by None e = quiet_same tree (DeleteContainer c) (ap (λ o. (delete_container o c tree).tree) e) sound
  by (Some folder) e = by_bare folder e (is_bare folder) refl

  pub side_gone : IsQuiet tree (DeleteContainer c)
  side_gone = by (get tree c) refl
