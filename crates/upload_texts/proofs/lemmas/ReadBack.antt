-- The text of a value is read back as this value, where its numbers are small and it isn't deep; and that of what records and sealed
-- completions have both.
use Rattle.std.specs.Prelude.{◌≡◌, ◌<◌, ◌≤◌, ◌^◌, ℕ, true, nat_le, nat_lt, List, [], ◌∷◌, map, Some}
use Rattle.std.specs.Option.{option_and_then}
use Rattle.std.proofs.Common.{refl, sym, ap, ◌∙◌, arith, append-nil}
use Rattle.std.proofs.lemmas.Bool.{and_parts, ltb-true, leb-true}
use Rattle.json.specs.Json as json
use Rattle.json.specs.Lex.{tokens}
use Rattle.json.specs.Tree as tree
use Rattle.json.specs.Tree.{json_tokens, HasNumbers, ItemsHaveNumbers}
use Rattle.json.proofs.Printed.Tokens.{tokens-print}
use Rattle.json.proofs.Printed.Trees.{value-json_tokens, ArePrintable-json_tokens}
use Rattle.serde_json.specs.Data.{Data}
use Rattle.serde_json.specs.Read.{max_depth, of_items, of_json, read}
use Rattle.serde_json.specs.View.{items_of}
use Rattle.serde_json.specs.Written.{compact_text, items_outline, outline}
use Rattle.serde_json.proofs.Texts.{print-outline}
use Rattle.gate_base.specs.Told.{moment_limit}
use Rattle.gate_base.specs.declared.page.Pair.{Pair}
use Rattle.s3_machine.specs.Uploads.{greatest_part}
use Rattle.upload_texts.specs.Places.{metadata_pair_json, part_number_fits_record_text}

pub part_small : (n : ℕ) → part_number_fits_record_text n ≡ true → n < 2 ^ 64
unfolding greatest_part
part_small n e = let near = leb-true n greatest_part (and_parts (nat_le 1 n) (nat_le n greatest_part) e).1 in omega (arith, near)

pub dated_small : (n : ℕ) → nat_lt n moment_limit ≡ true → n < 2 ^ 64
dated_small n e = let near = ltb-true n moment_limit e in omega (arith, near)

pub pairs_read : (ps : List Pair) → of_items (items_outline (items_of (map metadata_pair_json ps))) ≡ Some (items_of (map metadata_pair_json ps))
pairs_read [] = refl
pairs_read (p ∷ ps) = rw (pairs_read ps) refl

pub pairs_numbers : (ps : List Pair) → ItemsHaveNumbers (items_outline (items_of (map metadata_pair_json ps)))
pairs_numbers [] = tt
pairs_numbers (p ∷ ps) = ((tt, (tt, tt)), pairs_numbers ps)

pub pairs_depth : (ps : List Pair) → tree.items_depth (items_outline (items_of (map metadata_pair_json ps))) ≤ 1
pairs_depth [] = omega arith
pairs_depth (p ∷ ps) = let later = pairs_depth ps in omega arith

pub one_small : 1 < 2 ^ 64
one_small = omega arith

-- what is asked of the value
pub record IsReadBack (d : Data) : Type 0 where
  pub numbers : HasNumbers (outline d)
  pub shallow : tree.depth (outline d) ≤ max_depth
  pub same : of_json (outline d) ≡ Some d

pub text_reads : (d : Data) → IsReadBack d → read (compact_text d) ≡ Some d
text_reads d back =
    let ts = json_tokens (outline d) in
    let lexed : tokens (compact_text d) ≡ ts = ap tokens (sym (print-outline d)) ∙ tokens-print ts (ArePrintable-json_tokens (outline d) back.numbers) in
    ap (λ ts. option_and_then of_json (option_and_then (λ p. json.if_last p.0 p.1) (json.value max_depth ts))) (lexed ∙ sym (append-nil ts))
    ∙ ap (λ o. option_and_then of_json (option_and_then (λ p. json.if_last p.0 p.1) o)) (value-json_tokens (outline d) max_depth [] back.shallow)
    ∙ back.same
