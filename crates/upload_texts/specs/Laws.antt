-- What the laws of this crate say.
use Rattle.std.specs.Prelude.{◌≡◌, ℕ, true, List, Some}
use Rattle.upload_texts.specs.declared.record.Record.{Record}
use Rattle.upload_texts.specs.declared.sealed.Sealed.{Sealed}
use Rattle.upload_texts.specs.Records.{has_record_text, record_text, read_record}
use Rattle.upload_texts.specs.Sealed.{has_sealed_text, sealed_text, read_sealed}

-- what reads as a record is the one text that this has
abbrev pub RecordHasOneText : Type 0
RecordHasOneText = (text : List ℕ) (r : Record) → read_record text ≡ Some r → (has_record_text r ≡ true) × (text ≡ record_text r)

abbrev pub SealedHasOneText : Type 0
SealedHasOneText = (text : List ℕ) (s : Sealed) → read_sealed text ≡ Some s → (has_sealed_text s ≡ true) × (text ≡ sealed_text s)
