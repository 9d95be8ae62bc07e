-- The loops over a manifest's entries and segments.
use Rattle.std.proofs.Common.{◌≡◌, ℕ, zero, suc, ◌+◌, ◌<◌, ◌≤◌, true, List, [], ◌∷◌, ◌++◌, length, get_or, map, take, drop, Some, None, option_map, option_and_then, Result, Ok, Err, IfOk, le-leb, refl, sym, ap, ◌∙◌, arith, append-nil}
use Rattle.std.specs.List.{list_all, concat}
use Rattle.std.proofs.lemmas.Bool.{and_parts, and_from}
use Rattle.std.proofs.lemmas.List.{take_more, map-append, length-map, length-take-le, take-append-drop, at_drop_more}
use Rattle.std.proofs.lemmas.List.Folds.{concat-append}
use Rattle.serde_json.specs.Data.{Data}
use Rattle.serde_json.specs.Find.{as_array}
use Rattle.serde_json.specs.View.{view, items_view}
use Rattle.serde_json.specs.declared.value.Value.{Value}
use Rattle.slo_manifest.specs.Segments.{is_segment, is_manifest}
use Rattle.slo_manifest.specs.Entry.{Entry, whole, entry_of}
use Rattle.slo_manifest.specs.Etag.{joined_etags}
use Rattle.slo_manifest.specs.Manifest.{json_of, entries, entries_of, StandsFirst, ReadsEntries, Reads}
use Rattle.slo_manifest.specs.declared.Segment.{Segment}
use Rattle.slo_manifest.specs.declared.manifest.Form.{Form}
use Rattle.slo_manifest.specs.declared.manifest.ManifestFault.{ManifestFault}
use Rattle.slo_manifest.specs.declared.manifest.ManifestFault.TheVariants.{NotAList, BadEntry, EmptySegment, TooManySegments, Memory}
use Rattle.slo_manifest.proofs.SegmentLemmas.{manifest_parts}

-- ---- segments

passes_at : (segments : List Segment) (i : ℕ) (d : Segment) → list_all is_segment segments ≡ true → i < length segments → is_segment (get_or segments i d) ≡ true
passes_at [] i d h below = absurd (omega arith)
passes_at (s ∷ rest) zero d h below = (and_parts (is_segment s) (list_all is_segment rest) h).0
passes_at (s ∷ rest) (suc i) d h below = passes_at rest i d (and_parts (is_segment s) (list_all is_segment rest) h).1 (omega arith)

-- each segment of a manifest may be listed
pub segment_at : (segments : List Segment) (i : ℕ) (s : Segment) → is_manifest segments ≡ true → i < length segments → s ≡ get_or segments i s → is_segment s ≡ true
segment_at segments i s h below same = ap is_segment same ∙ passes_at segments i s (manifest_parts segments h).1 below

-- one more ETag
pub joined_etags_more : (segments : List Segment) (i : ℕ) (s : Segment) → i < length segments → s ≡ get_or segments i s → joined_etags (take (i + 1) segments) ≡ joined_etags (take i segments) ++ s.etag
joined_etags_more segments i s below same =
    ap joined_etags (take_more segments i s below ∙ ap (λ t. take i segments ++ t ∷ []) (sym same))
    ∙ ap concat (map-append (λ (t : Segment). t.etag) (take i segments) (s ∷ []))
    ∙ concat-append (map (λ (t : Segment). t.etag) (take i segments)) (s.etag ∷ [])
    ∙ ap (λ e. joined_etags (take i segments) ++ e) (append-nil s.etag)

-- ---- entries

-- one more item of a list that is made item by item
pub map_more : {X Y : Type 0} (f : X → Y) (xs : List X) (i : ℕ) (x : X) → i < length xs → x ≡ get_or xs i x → map f (take (i + 1) xs) ≡ map f (take i xs) ++ f x ∷ []
map_more f xs i x below same = ap (map f) (take_more xs i x below ∙ ap (λ t. take i xs ++ t ∷ []) (sym same)) ∙ map-append f (take i xs) (x ∷ [])

-- the first entry that is no segment, where those before it were
pub stands_first : {X : Type 0} (f : X → Entry) (xs : List X) (i : ℕ) (x : X) (e : Entry) (before : List Segment) → i < length xs → x ≡ get_or xs i x → f x ≡ e → map f (take i xs) ≡ map whole before → StandsFirst (map f xs) i e
stands_first f xs i x e before below same is upto =
    let behind = drop (i + 1) xs in
    let cut : xs ≡ take i xs ++ x ∷ behind =
    sym (take-append-drop i xs) ∙ at_drop_more (λ t. take i xs ++ t) xs i x below ∙ ap (λ t. take i xs ++ t ∷ behind) (sym same) in
    let all : map f xs ≡ map whole before ++ e ∷ map f behind =
    ap (map f) cut ∙ map-append f (take i xs) (x ∷ behind) ∙ ap (λ t. map f (take i xs) ++ t ∷ map f behind) is ∙ ap (λ t. t ++ e ∷ map f behind) upto in
    let counted : length before ≡ i =
    sym (length-map before whole) ∙ ap length (sym upto) ∙ length-map (take i xs) f ∙ length-take-le i xs (omega arith) in
    (before, map f behind, all, counted)

listed_entries : (form : Form) (values : List Value) → entries form (items_view values) ≡ map (λ value. entry_of form (view value)) values
listed_entries form [] = refl
listed_entries form (value ∷ rest) = ap (λ es. entry_of form (view value) ∷ es) (listed_entries form rest)

-- no JSON
pub entries_of_no_json : (form : Form) (text : List ℕ) → json_of text ≡ None → entries_of form text ≡ None
unfolding entries_of
entries_of_no_json form text h = ap (λ json. option_map (entries form) (option_and_then as_array json)) h

-- JSON, and no list
pub entries_of_no_list : (form : Form) (text : List ℕ) (json : Data) → json_of text ≡ Some json → as_array json ≡ None → entries_of form text ≡ None
unfolding entries_of
entries_of_no_list form text json h none =
    ap (λ found. option_map (entries form) (option_and_then as_array found)) h ∙ ap (option_map (entries form)) none

-- a list
pub entries_of_list : (form : Form) (text : List ℕ) (json : Data) (values : List Value) → json_of text ≡ Some json → as_array json ≡ Some (items_view values) → entries_of form text ≡ Some (map (λ value. entry_of form (view value)) values)
unfolding entries_of
entries_of_list form text json values h some =
    ap (λ found. option_map (entries form) (option_and_then as_array found)) h ∙ ap (option_map (entries form)) some ∙ ap Some (listed_entries form values)

-- what the entries are is what the text is read as
pub reads_from : (form : Form) (text : List ℕ) (es : List Entry) (r : Result (List Segment) ManifestFault) → entries_of form text ≡ Some es → length es ≤ 1000 → ReadsEntries es r → Reads form text r
reads_from form text es (Ok segments) e small h = (e ∙ ap Some h, omega (arith, ap length h, length-map segments whole))
reads_from form text es (Err NotAList) e small h = absurd h
reads_from form text es (Err (BadEntry index)) e small h = (es, e, small, h)
reads_from form text es (Err (EmptySegment index)) e small h = (es, e, small, h)
reads_from form text es (Err TooManySegments) e small h = absurd h
reads_from form text es (Err Memory) e small h = tt

-- segments that are read, and of which each may be listed, have a text
pub manifest_listed : (form : Form) (text : List ℕ) (r : Result (List Segment) ManifestFault) → Reads form text r → IfOk r (λ segments. list_all is_segment segments ≡ true) → IfOk r (λ segments. is_manifest segments ≡ true)
unfolding is_manifest
manifest_listed form text (Ok segments) h each = and_from _ _ (le-leb (length segments) 1000 h.1) each
manifest_listed form text (Err fault) h each = tt
