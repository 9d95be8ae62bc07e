-- A token, as a reply prints it, is read as the text that it was made of.
use Rattle.std.proofs.Common.{◌≡◌, ◌<◌, ℕ, suc, ◌/◌, ◌%◌, true, cond, List, [], ◌∷◌, Some, None, refl, ap, ◌∙◌, arith}
use Rattle.std.specs.Prelude.{slice_index}
use Rattle.std.specs.List.{list_all}
use Rattle.std.specs.Result.{result_ok}
use Rattle.std.proofs.lemmas.Bool.{and_from}
use Rattle.std.proofs.lemmas.List.Sums.{AllPass-from_list_all}
use Rattle.hex.specs.Hex.{decode_of, encode_lower, encode_with, lower_digits, IsBytes}
use Rattle.hex.proofs.HexLemmas.{decode_of-encode_lower}
use Rattle.s3_machine.specs.Limits.{is_listing_text}
use Rattle.gate_base.specs.Ascii.{is_lower_hex}
use Rattle.request_fields.specs.Listings.{listing_text, token_of}

lower_at : (digit : ℕ) → digit < 16 → is_lower_hex (slice_index lower_digits digit) ≡ true
lower_at digit small = AllPass-from_list_all is_lower_hex lower_digits refl digit 0 small

high_small : (byte : ℕ) → byte < 256 → byte / 16 < 16
high_small byte small = omega arith

low_small : (byte : ℕ) → byte % 16 < 16
low_small byte = omega arith

all_lower : (text : List ℕ) → IsBytes text → list_all is_lower_hex (encode_lower text) ≡ true
unfolding encode_with
all_lower [] bytes = refl
all_lower (byte ∷ text) bytes =
    and_from (is_lower_hex (slice_index lower_digits (byte / 16))) _ (lower_at (byte / 16) (high_small byte (bytes 0)))
    (and_from (is_lower_hex (slice_index lower_digits (byte % 16))) _ (lower_at (byte % 16) (low_small byte)) (all_lower text (λ i. bytes (suc i))))

pub token_returns : (text : List ℕ) → IsBytes text → is_listing_text text ≡ true → token_of (encode_lower text) ≡ Some text
unfolding token_of
token_returns text bytes fits =
    ap (λ lower. cond lower (listing_text (result_ok (decode_of (encode_lower text)))) None) (all_lower text bytes)
    ∙ ap (λ read. listing_text (result_ok read)) (decode_of-encode_lower text bytes)
    ∙ ap (λ fit. cond fit (Some text) None) fits
