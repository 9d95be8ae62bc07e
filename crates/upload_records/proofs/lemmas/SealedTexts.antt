-- What reads as a sealed completion has a text.
use Rattle.std.specs.Prelude.{◌≡◌, ◌&&◌, ℕ, Bool, true, false, cond, bytes_eq, List, None, Some}
use Rattle.std.proofs.Common.{refl, sym, ap, ◌∙◌}
use Rattle.std.proofs.lemmas.Bool.{and_parts}
use Rattle.std.proofs.lemmas.Option.{same_Some}
use Rattle.upload_texts.specs.Places.{json_or_null}
use Rattle.upload_texts.specs.Sealed.{read_sealed, has_sealed_text, sealed_in as sealed_place, sealed_text}
use Rattle.upload_texts.specs.declared.sealed.Sealed.{Sealed}
use Rattle.upload_records.proofs.Carried.{none_found}

pub sealed_has : (text : List ℕ) (s : Sealed) → read_sealed text ≡ Some s → has_sealed_text s ≡ true
unfolding read_sealed
sealed_has text s reads = from_parts (sealed_place (json_or_null text)) _ refl reads
  where
    from_parts : (r : Sealed) (t : Bool) → (has_sealed_text r && bytes_eq (sealed_text r) text) ≡ t → cond t (Some r) None ≡ Some s → has_sealed_text s ≡ true
    from_parts r true both same = ap has_sealed_text (sym (same_Some r s same)) ∙ (and_parts (has_sealed_text r) _ both).0
    from_parts r false both never = absurd (none_found s never)
