-- An object that a call puts has a row.
use Rattle.std.proofs.Common.{◌≡◌, refl, ap, ℕ, ◌<◌, true, List, [], ◌∷◌, length, arith}
use Rattle.std.specs.Prelude.{nat_le}
use Rattle.std.specs.List.{list_all}
use Rattle.std.proofs.lemmas.Bool.{and_parts, and_from, le-leb}
use Rattle.std.proofs.lemmas.Bool.Decides.{nat_tests}
use Rattle.std.proofs.lemmas.List.Elements.{All-weaker}
use Rattle.std.proofs.lemmas.List.Sums.{list_all-from_AllPass}
use Rattle.gate_base.specs.Fields.{is_field}
use Rattle.slo_manifest.specs.declared.Segment.{Segment}
use Rattle.slo_manifest.specs.Segments.{is_manifest, is_segment}
use Rattle.swift_calls.specs.Step.{IsSegmentPlace}
use Rattle.swift_calls.specs.declared.account.Content.{Content}
use Rattle.swift_calls.specs.declared.account.Content.TheVariants.{Plain, Segments}
use Rattle.swift_calls.specs.declared.account.Stored.{Stored}
use Rattle.swift_store.specs.Made.{IsMadeContent, IsMadeList, IsMadeObject}
use Rattle.swift_store.specs.Shelf.{object_of}
use Rattle.object_rows.specs.Pieces.{is_short}
use Rattle.object_rows.specs.Rows.{HasRow, IsRowContent}

field_is_short : (piece : List ℕ) → is_field 256 piece ≡ true → is_short piece ≡ true
field_is_short piece h =
    let a = and_parts _ _ h in
    let b = and_parts _ _ a.0 in
    let c = and_parts _ _ b.0 in
    let few = (and_parts (nat_le 1 (length piece)) (nat_le (length piece) 256) c.0).1 in
    grind (arith, nat_tests, few)

meta_is_short : (meta : List (List ℕ)) → list_all (is_field 256) meta ≡ true → list_all is_short meta ≡ true
meta_is_short [] h = refl
meta_is_short (piece ∷ meta) h =
    let parts = and_parts (is_field 256 piece) (list_all (is_field 256) meta) h in
    and_from _ _ (field_is_short piece parts.0) (meta_is_short meta parts.1)

segments_are_listed : (segments : List Segment) → IsMadeList segments → is_manifest segments ≡ true
unfolding is_manifest
segments_are_listed segments made =
    and_from _ _ (le-leb (length segments) 1000 made.within)
    (list_all-from_AllPass is_segment segments (All-weaker IsSegmentPlace (λ s. is_segment s ≡ true) (λ s place. place.listable) segments made.places))

content_has_row : (content : Content) → IsMadeContent content → IsRowContent content
content_has_row (Plain bytes) made = record { size = omega (arith, made.own bytes refl); listed = tt }
content_has_row (Segments segments) made =
    let list = made.list segments refl in
    record { size = list.sized.size; listed = (segments_are_listed segments list, λ none. no_less (ap length none) list.sized.filled) }
  where
    no_less : {n : ℕ} → n ≡ 0 → 0 < n → ⊥
    no_less e h = omega (arith, e, h)

pub made_has_row : (s : Stored) → IsMadeObject s.name (object_of s) → HasRow s
made_has_row s made = record { content = content_has_row s.content made.content; meta = meta_is_short s.meta (and_parts (nat_le (length s.meta) 11) (list_all (is_field 256) s.meta) made.meta).1 }
