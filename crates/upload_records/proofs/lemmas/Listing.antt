-- The objects of a bucket are what the files of its container represent.
use Rattle.std.specs.Prelude.{◌≡◌, ℕ, List, true, cond, Option, None, Some}
use Rattle.std.specs.Option.{option_and_then}
use Rattle.std.specs.FinMap.{get, empty}
use Rattle.std.proofs.Common.{sym, ap, ◌∙◌}
use Rattle.gate_base.specs.Maps.{picked}
use Rattle.gate_base.proofs.lemmas.Maps.{by_name, picked_empty}
use Rattle.s3_names.specs.Bucket.{is_bucket}
use Rattle.s3_machine.specs.State.{Bucket}
use Rattle.swift_calls.specs.Account.{SwiftContainer, SwiftAccount, files, files_of}
use Rattle.upload_records.specs.Layout.{uploads_name, segments_name}
use Rattle.upload_records.specs.Native.{object_of, bucket_of, bucket_from, IsUnsealed, s3_state}
use Rattle.upload_records.proofs.lemmas.Settled.{s3_state_unsealed}
use Rattle.upload_records.proofs.lemmas.Plain.{get_plain}

module _ (tree : SwiftAccount) (b : List ℕ) (is : is_bucket b ≡ true) where
  there_by : (o : Option SwiftContainer) (n : Bucket) → option_and_then (bucket_of tree b) o ≡ Some n → n.objects ≡ picked (object_of (files tree (segments_name b))) (files_of o)
  there_by None n e = cc
  there_by (Some folder) n e =
      let made : Bucket = bucket_from (files tree (uploads_name b)) (files tree (segments_name b)) folder in
      let same : Some made ≡ Some n = ap (λ t. cond t (Some made) None) (sym is) ∙ e in
      let found : made ≡ n = cc in
      ap (λ (x : Bucket). x.objects) (sym found)

  missing_by : (o : Option SwiftContainer) → option_and_then (bucket_of tree b) o ≡ None → picked (object_of (files tree (segments_name b))) (files_of o) ≡ empty
  missing_by None e = picked_empty by_name (object_of (files tree (segments_name b)))
  missing_by (Some folder) e =
      let made : Bucket = bucket_from (files tree (uploads_name b)) (files tree (segments_name b)) folder in
      let never : Some made ≡ None = ap (λ t. cond t (Some made) None) (sym is) ∙ e in
      cc

  module _ (unsealed : IsUnsealed tree) where
    found_in : get (s3_state tree) b ≡ option_and_then (bucket_of tree b) (get tree b)
    found_in = ap (λ s. get s b) (s3_state_unsealed tree unsealed) ∙ get_plain tree b

    -- over an account on which no completion is sealed the objects of a bucket that is there
    pub objects_there : (n : Bucket) → get (s3_state tree) b ≡ Some n → n.objects ≡ picked (object_of (files tree (segments_name b))) (files tree b)
    objects_there n e = there_by (get tree b) n (sym found_in ∙ e)

    -- of one that is missing there are no files
    pub objects_missing : get (s3_state tree) b ≡ None → picked (object_of (files tree (segments_name b))) (files tree b) ≡ empty
    objects_missing e = missing_by (get tree b) (sym found_in ∙ e)
