-- What the calls tell of what stands under an id. Source: this profile.
use Rattle.std.specs.Prelude.{◌≡◌, ℕ, Bool, true, false, List, is_some}
use Rattle.std.specs.FinMap.{get}
use Rattle.s3_names.specs.Id.{id_digits}
use Rattle.swift_calls.specs.Account.{SwiftAccount, files}
use Rattle.upload_records.specs.Layout.{segments_name, uploads_name}
use Rattle.account_calls.specs.Answers.{IsNamedBy}

-- whether the record is there
abbrev pub TellsRecorded : List ℕ → ℕ → SwiftAccount → Bool → Type 0
TellsRecorded bucket id tree told = is_some (get (files tree (uploads_name bucket)) (id_digits id)) ≡ told

-- a segment is there
abbrev pub HasSegment : List ℕ → ℕ → SwiftAccount → Type 0
HasSegment bucket id tree = (name : List ℕ) × IsNamedBy (id_digits id) name × (is_some (get (files tree (segments_name bucket)) name) ≡ true)

-- whether one is
abbrev pub TellsSegmented : List ℕ → ℕ → SwiftAccount → Bool → Type 0
TellsSegmented bucket id tree true = HasSegment bucket id tree
TellsSegmented bucket id tree false = HasSegment bucket id tree → ⊥
