-- What is read of a copy keeps the limits of an operation: the names of its source.
use Rattle.std.proofs.Common.{◌≡◌, ℕ, Bool, true, false, ◌&&◌, ◌||◌, cond, List, Option, Some, None, IfSome, refl}
use Rattle.std.specs.Prelude.{is_none, option_map, Result, Ok, Err}
use Rattle.std.specs.List.{before_first, after_first}
use Rattle.std.specs.Option.{unwrap_or}
use Rattle.std.proofs.lemmas.Bool.{and_parts}
use Rattle.gate_base.specs.Ascii.{is_slash}
use Rattle.gate_base.specs.declared.page.Pair.{Pair}
use Rattle.s3_names.specs.declared.fault.NameFault.{NameFault}
use Rattle.s3_names.specs.Bucket.{is_bucket}
use Rattle.s3_names.specs.Escapes.{decoded}
use Rattle.s3_names.specs.Key.{is_key}
use Rattle.s3_machine.specs.Proper.{IsPlace}
use Rattle.request_fields.specs.declared.copies.Source.{Source}
use Rattle.s3_requests.specs.declared.rows.Row.{Row}
use Rattle.request_fields.specs.Copies.{without_slash, place_in, place_decoded, place_named, copy_source_text, has_bad_directive, source_at}
use Rattle.s3_requests.specs.Copies.{has_bad_range, source_of, no_source}

abbrev Named : List ℕ × List ℕ → Type 0
Named place = IsPlace place.0 place.1

in_named : (text : List ℕ) → IfSome (place_in text) Named
in_named text = by_test (is_bucket (before_first is_slash text) && is_key (after_first is_slash text)) refl
  where
    by_test : (b : Bool) → (is_bucket (before_first is_slash text) && is_key (after_first is_slash text)) ≡ b
        → IfSome (cond b (Some (before_first is_slash text, after_first is_slash text)) None) Named
    by_test true e = let parts = and_parts _ (is_key (after_first is_slash text)) e in record { named = parts.0; keyed = parts.1 }
    by_test false e = tt

decoded_named : (text : Result (List ℕ) NameFault) → IfSome (place_decoded text) Named
decoded_named (Ok text) = in_named text
decoded_named (Err fault) = tt

place_proper : (text : List ℕ) → IfSome (place_named text) Named
unfolding place_named
place_proper text = decoded_named (decoded (without_slash text))

abbrev IsNamed : Source → Type 0
IsNamed source = IsPlace source.bucket source.key

at_proper : (bad : Bool) (headers : List Pair) (place : Option (List ℕ × List ℕ)) → IfSome place Named → is_none (cond bad None (option_map (source_at headers) place)) ≡ false
    → IsNamed (unwrap_or (cond bad None (option_map (source_at headers) place)) no_source)
at_proper true headers place named some = cc
at_proper false headers None named some = cc
at_proper false headers (Some place) named some = named

-- a source that can be read names an object
pub source_proper : (row : Row) (headers : List Pair) → is_none (source_of row headers) ≡ false → IsNamed (unwrap_or (source_of row headers) no_source)
source_proper row headers some =
    at_proper (has_bad_directive headers || has_bad_range row headers) headers (place_named (copy_source_text headers)) (place_proper (copy_source_text headers)) some
