-- The PUT of an object that lists these segments, or has no byte where there are none.
use Rattle.std.specs.Prelude.{◌≡◌, ◌<◌, ℕ, Bool, true, false, List, [], ◌∷◌, length, Option, None, Some}
use Rattle.std.specs.FinMap.{get, insert}
use Rattle.std.proofs.Common.{refl, ap, ◌∙◌, arith}
use Rattle.gate_base.proofs.lemmas.Maps.{by_name, off_adjust}
use Rattle.slo_manifest.specs.declared.Segment.{Segment}
use Rattle.swift_calls.specs.Account.{SwiftObject, SwiftContainer, SwiftAccount, find_object, on_files}
use Rattle.swift_calls.specs.Bodies.{is_good_list}
use Rattle.swift_calls.specs.Step.{put_listed, put_manifest, put_object, swift_step}
use Rattle.swift_calls.specs.declared.account.Content.TheVariants.{Segments}
use Rattle.swift_calls.specs.declared.calls.SwiftRequest.TheVariants.{PutManifest}
use Rattle.upload_records.specs.Native.{content_by}
use Rattle.upload_records.proofs.lemmas.Settled.{OffSame}
use Rattle.account_calls.specs.Sealed.{put_by}

-- the file of an object that lists these segments
abbrev pub file_of : List ℕ → List (List ℕ) → List Segment → SwiftObject
file_of content_type meta segments = record { content_type = content_type; meta = meta; content = content_by segments }

module _ (tree : SwiftAccount) (bucket key content_type : List ℕ) (meta : List (List ℕ)) where
  pub put_step : (segments : List Segment) (folder : SwiftContainer) → get tree bucket ≡ Some folder → (0 < length segments → is_good_list (find_object tree) segments ≡ true)
      → swift_step (put_by bucket key content_type meta segments) tree ≡ put_object (Some folder) bucket key (file_of content_type meta segments) tree
  put_step [] folder there good = ap (λ o. put_object o bucket key (file_of content_type meta []) tree) there
  put_step (x ∷ rest) folder there good =
      ap (λ o. put_manifest o bucket key content_type meta (x ∷ rest) tree) there
      ∙ ap (λ t. put_listed t (Some folder) bucket key (file_of content_type meta (x ∷ rest)) tree) (good (omega arith))

  -- the PUT of one that lists segments which the store takes
  pub manifest_step : (segments : List Segment) (folder : SwiftContainer) → get tree bucket ≡ Some folder → is_good_list (find_object tree) segments ≡ true
      → swift_step (PutManifest bucket key content_type meta segments) tree ≡ put_object (Some folder) bucket key (record { content_type = content_type; meta = meta; content = Segments segments }) tree
  manifest_step segments folder there good =
      ap (λ o. put_manifest o bucket key content_type meta segments tree) there
      ∙ ap (λ t. put_listed t (Some folder) bucket key (record { content_type = content_type; meta = meta; content = Segments segments }) tree) good

  pub put_stays : (o : Option SwiftContainer) (file : SwiftObject) → OffSame tree (put_object o bucket key file tree).tree bucket
  put_stays None file = λ n apart. refl
  put_stays (Some folder) file = off_adjust by_name bucket (on_files (λ fs. insert fs key file)) tree

  listed_stays : (t : Bool) (o : Option SwiftContainer) (file : SwiftObject) → OffSame tree (put_listed t o bucket key file tree).tree bucket
  listed_stays true o file = put_stays o file
  listed_stays false o file = λ n apart. refl

  pub manifest_stays : (o : Option SwiftContainer) (segments : List Segment) → OffSame tree (put_manifest o bucket key content_type meta segments tree).tree bucket
  manifest_stays None segments = λ n apart. refl
  manifest_stays (Some folder) segments =
      listed_stays (is_good_list (find_object tree) segments) (Some folder) (record { content_type = content_type; meta = meta; content = Segments segments })

  -- each other container stays
  pub by_stays : (segments : List Segment) → OffSame tree (swift_step (put_by bucket key content_type meta segments) tree).tree bucket
  by_stays [] = put_stays (get tree bucket) (file_of content_type meta [])
  by_stays (x ∷ rest) = manifest_stays (get tree bucket) (x ∷ rest)
