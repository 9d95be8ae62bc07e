-- The segments that a text lists, by what reading it answers.
use Rattle.std.proofs.Common.{◌≡◌, ◌≢◌, ℕ, Bool, true, false, List, [], ◌∷◌, ◌++◌, length, map, Option, Some, None, Ok, Err, refl, sym, ap, ◌∙◌, arith}
use Rattle.std.specs.Prelude.{nat_le, option_map, option_and_then, if◌then◌else◌}
use Rattle.std.proofs.lemmas.Bool.{le-leb}
use Rattle.std.proofs.lemmas.Bool.Decides.{nat_tests}
use Rattle.std.proofs.lemmas.List.{length-map}
use Rattle.slo_manifest.specs.Entry.{Entry, whole, bad, empty}
use Rattle.slo_manifest.specs.Manifest.{entries_of, Reads}
use Rattle.slo_manifest.specs.declared.Segment.{Segment}
use Rattle.slo_manifest.specs.declared.manifest.Form.{Form}
use Rattle.slo_manifest.specs.declared.manifest.ManifestFault.{ManifestFault}
use Rattle.slo_manifest.specs.declared.manifest.ManifestFault.TheVariants.{NotAList, BadEntry, EmptySegment, TooManySegments, Memory}
use Rattle.swift_replies.specs.Answers.{segments_of, segments_within, segments_in}

abbrev nothing : Option (List Segment)
nothing = None

-- ---- entries

all_whole : (segments : List Segment) → segments_of (map whole segments) ≡ Some segments
unfolding segments_of
all_whole [] = refl
all_whole (s ∷ segments) = ap (option_map (λ rest. s ∷ rest)) (all_whole segments)

one_bad : (before : List Segment) (after : List Entry) → segments_of (map whole before ++ bad ∷ after) ≡ nothing
unfolding segments_of
one_bad [] after = refl
one_bad (s ∷ before) after = ap (option_map (λ rest. s ∷ rest)) (one_bad before after)

one_empty : (before : List Segment) (after : List Entry) → segments_of (map whole before ++ empty ∷ after) ≡ nothing
unfolding segments_of
one_empty [] after = refl
one_empty (s ∷ before) after = ap (option_map (λ rest. s ∷ rest)) (one_empty before after)

within_none : (es : List Entry) → segments_of es ≡ nothing → segments_within es ≡ nothing
within_none es none = by_count (nat_le (length es) 1000)
  where
    by_count : (b : Bool) → (if b then segments_of es else None) ≡ nothing
    by_count true = none
    by_count false = refl

-- ---- texts

-- the text lists these segments
pub segments_read : (form : Form) (text : List ℕ) (segments : List Segment) → Reads form text (Ok segments) → Some segments ≡ segments_in form text
unfolding segments_in
segments_read form text segments (found, few) =
    let count : nat_le (length (map whole segments)) 1000 ≡ true = le-leb (length (map whole segments)) 1000 (omega (arith, few, length-map segments whole)) in
    sym (ap (option_and_then segments_within) found ∙ ap (λ b. if b then segments_of (map whole segments) else None) count ∙ all_whole segments)

from_entries : (form : Form) (text : List ℕ) (es : List Entry) → entries_of form text ≡ Some es → segments_within es ≡ nothing → nothing ≡ segments_in form text
unfolding segments_in
from_entries form text es found none = sym (ap (option_and_then segments_within) found ∙ none)

-- the text lists none
pub segments_refused : (form : Form) (text : List ℕ) (fault : ManifestFault) → fault ≢ Memory → Reads form text (Err fault) → nothing ≡ segments_in form text
unfolding segments_in
segments_refused form text NotAList other none = sym (ap (option_and_then segments_within) none)
segments_refused form text (BadEntry index) other (es, found, few, stands) =
    from_entries form text es found (within_none es (ap segments_of stands.2 ∙ one_bad stands.0 stands.1))
segments_refused form text (EmptySegment index) other (es, found, few, stands) =
    from_entries form text es found (within_none es (ap segments_of stands.2 ∙ one_empty stands.0 stands.1))
segments_refused form text TooManySegments other (es, found, many) =
    let count : nat_le (length es) 1000 ≡ false = grind (arith, nat_tests) in
    from_entries form text es found (ap (λ b. if b then segments_of es else None) count)
segments_refused form text Memory other refused = absurd (other refl)
