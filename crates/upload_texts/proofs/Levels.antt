-- The values have no float and few levels, so that they are read back from their texts.
use Rattle.std.proofs.Common.{◌≡◌, ◌≤◌, false, List, [], ◌∷◌, map, Some, None, refl, arith}
use Rattle.serde_json.specs.Data.{depth, items_depth}
use Rattle.serde_json.specs.Read.{max_depth}
use Rattle.serde_json.specs.View.{items_of}
use Rattle.serde_json.specs.Written.{has_float, items_have_float}
use Rattle.gate_base.specs.declared.page.Pair.{Pair}
use Rattle.s3_machine.specs.declared.operation.Listed.{Listed}
use Rattle.upload_texts.specs.Places.{metadata_pair_json, record_part_json}
use Rattle.upload_texts.specs.Records.{record_value}
use Rattle.upload_texts.specs.Sealed.{sealed_part_json, sealed_value}
use Rattle.upload_texts.specs.declared.record.Record.{Record}
use Rattle.upload_texts.specs.declared.record.Record.TheVariants.{Open, Done}
use Rattle.upload_texts.specs.declared.sealed.Sealed.{Sealed}
use Rattle.upload_texts.specs.declared.sealed.SealedPart.{SealedPart}

pairs_float : (ps : List Pair) → items_have_float (items_of (map metadata_pair_json ps)) ≡ false
pairs_float [] = refl
pairs_float (p ∷ ps) = pairs_float ps

listed_float : (ls : List Listed) → items_have_float (items_of (map record_part_json ls)) ≡ false
listed_float [] = refl
listed_float (l ∷ ls) = listed_float ls

parts_float : (ps : List SealedPart) → items_have_float (items_of (map sealed_part_json ps)) ≡ false
parts_float [] = refl
parts_float (p ∷ ps) = parts_float ps

pub record_float : (r : Record) → has_float (record_value r) ≡ false
record_float (Open key content_type meta started) = rw (pairs_float meta) refl
record_float (Done key list etag started None) = rw (listed_float list) refl
record_float (Done key list etag started (Some moment)) = rw (listed_float list) refl

pub sealed_float : (s : Sealed) → has_float (sealed_value s) ≡ false
sealed_float s = rw (parts_float s.list, pairs_float s.meta) refl

pairs_depth : (ps : List Pair) → items_depth (items_of (map metadata_pair_json ps)) ≤ 1
pairs_depth [] = omega arith
pairs_depth (p ∷ ps) = let later = pairs_depth ps in omega arith

listed_depth : (ls : List Listed) → items_depth (items_of (map record_part_json ls)) ≤ 1
listed_depth [] = omega arith
listed_depth (l ∷ ls) = let later = listed_depth ls in omega arith

parts_depth : (ps : List SealedPart) → items_depth (items_of (map sealed_part_json ps)) ≤ 1
parts_depth [] = omega arith
parts_depth (p ∷ ps) = let later = parts_depth ps in omega arith

pub record_depth : (r : Record) → depth (record_value r) ≤ max_depth
record_depth (Open key content_type meta started) = let few = pairs_depth meta in omega arith
record_depth (Done key list etag started None) = let few = listed_depth list in omega arith
record_depth (Done key list etag started (Some moment)) = let few = listed_depth list in omega arith

pub sealed_depth : (s : Sealed) → depth (sealed_value s) ≤ max_depth
sealed_depth s = let some = pairs_depth s.meta in let few = parts_depth s.list in omega arith
