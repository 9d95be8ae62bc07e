-- The entry that is written for a segment is read as that segment.
use Rattle.std.proofs.Common.{◌≡◌, ℕ, suc, ◌+◌, true, false, List, [], ◌∷◌, ◌++◌, length, map, take, drop, refl, ap, ap₂, ◌∙◌, arith, add-one, ne_eqb}
use Rattle.std.specs.List.{list_all, list_any, position_or_len}
use Rattle.std.proofs.lemmas.Bool.{and_parts, or_parts}
use Rattle.std.proofs.lemmas.List.{take_all, take-append-le}
use Rattle.serde_json.specs.View.{items_of}
use Rattle.gate_base.specs.Ascii.{is_slash}
use Rattle.slo_manifest.specs.Segments.{is_proper_entry, is_segment}
use Rattle.slo_manifest.specs.Path.{path_of, container_in, name_in}
use Rattle.slo_manifest.specs.Entry.{Entry, whole, segment, segment_of, entry_of}
use Rattle.slo_manifest.specs.Text.{entry_value}
use Rattle.slo_manifest.specs.Manifest.{entries}
use Rattle.slo_manifest.specs.declared.Segment.{Segment}
use Rattle.slo_manifest.specs.declared.manifest.Form.{Form}
use Rattle.slo_manifest.specs.declared.manifest.Form.TheVariants.{Put, Got}
use Rattle.slo_manifest.proofs.SegmentLemmas.{parts_of}

place_of_slash : (container name : List ℕ) → list_any is_slash container ≡ false → position_or_len is_slash (container ++ 47 ∷ name) ≡ length container
place_of_slash [] name h = refl
place_of_slash (byte ∷ rest) name h =
    let both = or_parts (is_slash byte) (list_any is_slash rest) h in
    rw both.0 (omega (arith, place_of_slash rest name both.1))

container_back : (container name : List ℕ) → list_any is_slash container ≡ false → container_in (path_of container name) ≡ container
container_back container name h =
    ap (λ k. take k (container ++ 47 ∷ name)) (place_of_slash container name h)
    ∙ take-append-le (length container) container (47 ∷ name) (omega arith) ∙ take_all (length container) container (omega arith)

drop_past : (container name : List ℕ) → drop (suc (length container)) (container ++ 47 ∷ name) ≡ name
drop_past [] name = refl
drop_past (byte ∷ rest) name = drop_past rest name

name_back : (container name : List ℕ) → list_any is_slash container ≡ false → name_in (path_of container name) ≡ name
name_back container name h =
    ap (λ k. drop (k + 1) (container ++ 47 ∷ name)) (place_of_slash container name h)
    ∙ ap (λ k. drop k (container ++ 47 ∷ name)) (add-one (length container)) ∙ drop_past container name

fields_back : (form : Form) (s : Segment) → entry_of form (entry_value form s) ≡ segment_of s.etag (path_of s.container s.name) s.size
unfolding entry_of
fields_back Put s = refl
fields_back Got s = refl

same_segment : (s : Segment) → is_segment s ≡ true → segment s.etag (path_of s.container s.name) s.size ≡ s
same_segment s h =
    let parts = parts_of s h in
    ap₂ (λ (container name : List ℕ). let t : Segment = record { container = container; name = name; etag = s.etag; size = s.size } in t)
    (container_back s.container s.name parts.no_slash) (name_back s.container s.name parts.no_slash)

segment_back : (s : Segment) → is_segment s ≡ true → segment_of s.etag (path_of s.container s.name) s.size ≡ whole s
unfolding segment_of
segment_back s h =
    let parts = parts_of s h in
    let proper : is_proper_entry (container_in (path_of s.container s.name)) (name_in (path_of s.container s.name)) s.etag s.size ≡ true =
    ap₂ (λ (container name : List ℕ). is_proper_entry container name s.etag s.size) (container_back s.container s.name parts.no_slash) (name_back s.container s.name parts.no_slash) ∙ parts.proper in
    let some : s.size ≡ 0 → ⊥ = λ e. absurd (omega (arith, e, parts.some)) in
    rw (proper, ne_eqb s.size 0 some) (ap whole (same_segment s h))

-- the entry of a segment says that segment
pub entry_back : (form : Form) (s : Segment) → is_segment s ≡ true → entry_of form (entry_value form s) ≡ whole s
entry_back form s h = fields_back form s ∙ segment_back s h

-- so do the entries of segments
pub entries_back : (form : Form) (segments : List Segment) → list_all is_segment segments ≡ true → entries form (items_of (map (entry_value form) segments)) ≡ map whole segments
entries_back form [] h = refl
entries_back form (s ∷ rest) h =
    let both = and_parts (is_segment s) (list_all is_segment rest) h in
    ap₂ (λ (e : Entry) (es : List Entry). e ∷ es) (entry_back form s both.0) (entries_back form rest both.1)
