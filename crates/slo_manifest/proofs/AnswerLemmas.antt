-- Each text has one answer.
use Rattle.std.proofs.Common.{◌≡◌, ◌≢◌, ℕ, suc, ◌+◌, ◌<◌, ◌≤◌, Bool, true, false, cond, nat_lt, List, [], ◌∷◌, ◌++◌, length, map, Option, Some, None, Result, Ok, Err, refl, sym, ap, ◌∙◌, subst, arith, lt-ltb, ltb-true}
use Rattle.std.proofs.lemmas.Bool.Decides.{nat_tests}
use Rattle.std.proofs.lemmas.List.{length-map}
use Rattle.slo_manifest.specs.Entry.{Entry, whole, bad, empty}
use Rattle.slo_manifest.specs.Manifest.{entries_of, StandsFirst, Reads}
use Rattle.slo_manifest.specs.declared.Segment.{Segment}
use Rattle.slo_manifest.specs.declared.manifest.Form.{Form}
use Rattle.slo_manifest.specs.declared.manifest.ManifestFault.{ManifestFault}
use Rattle.slo_manifest.specs.declared.manifest.ManifestFault.TheVariants.{NotAList, BadEntry, EmptySegment, TooManySegments, Memory}

abbrev pub Answer : Type 0
Answer = Result (List Segment) ManifestFault

abbrev pub behind_segment : Segment → Answer → Answer
behind_segment s (Ok segments) = Ok (s ∷ segments)
behind_segment s (Err fault) = Err fault

-- the answer that is expected for entries, the first of which has this index
abbrev pub due_from : ℕ → List Entry → Answer
due_from index [] = Ok []
due_from index (whole s ∷ es) = behind_segment s (due_from (suc index) es)
due_from index (bad ∷ es) = Err (BadEntry index)
due_from index (empty ∷ es) = Err (EmptySegment index)

abbrev pub due_of : Option (List Entry) → Answer
due_of None = Err NotAList
due_of (Some es) = cond (nat_lt 1000 (length es)) (Err TooManySegments) (due_from 0 es)

-- ---- an answer is the one that is expected

whole_due : (index : ℕ) (segments : List Segment) → due_from index (map whole segments) ≡ Ok segments
whole_due index [] = refl
whole_due index (s ∷ rest) = ap (behind_segment s) (whole_due (suc index) rest)

bad_due : (index : ℕ) (before : List Segment) (behind : List Entry) → due_from index (map whole before ++ bad ∷ behind) ≡ Err (BadEntry (index + length before))
bad_due index [] behind = ap (λ k. Err (BadEntry k)) (omega arith)
bad_due index (s ∷ rest) behind = ap (behind_segment s) (bad_due (suc index) rest behind) ∙ ap (λ k. Err (BadEntry k)) (omega arith)

empty_due : (index : ℕ) (before : List Segment) (behind : List Entry) → due_from index (map whole before ++ empty ∷ behind) ≡ Err (EmptySegment (index + length before))
empty_due index [] behind = ap (λ k. Err (EmptySegment k)) (omega arith)
empty_due index (s ∷ rest) behind = ap (behind_segment s) (empty_due (suc index) rest behind) ∙ ap (λ k. Err (EmptySegment k)) (omega arith)

few_due : (es : List Entry) → length es ≤ 1000 → due_of (Some es) ≡ due_from 0 es
few_due es few = let test : nat_lt 1000 (length es) ≡ false = grind (arith, nat_tests) in rw test refl

many_due : (es : List Entry) → 1000 < length es → due_of (Some es) ≡ Err TooManySegments
many_due es many = rw (lt-ltb 1000 (length es) many) refl

pub answer_due : (form : Form) (text : List ℕ) (r : Answer) → r ≢ Err Memory → Reads form text r → r ≡ due_of (entries_of form text)
answer_due form text (Ok segments) other h =
    let few : length (map whole segments) ≤ 1000 = omega (arith, length-map segments whole, h.1) in
    sym (ap due_of h.0 ∙ few_due (map whole segments) few ∙ whole_due 0 segments)
answer_due form text (Err NotAList) other h = sym (ap due_of h)
answer_due form text (Err (BadEntry index)) other h =
    let stands = h.3 in
    sym (ap due_of h.1 ∙ few_due h.0 h.2 ∙ ap (due_from 0) stands.2 ∙ bad_due 0 stands.0 stands.1 ∙ ap (λ k. Err (BadEntry k)) (omega (arith, stands.3)))
answer_due form text (Err (EmptySegment index)) other h =
    let stands = h.3 in
    sym (ap due_of h.1 ∙ few_due h.0 h.2 ∙ ap (due_from 0) stands.2 ∙ empty_due 0 stands.0 stands.1 ∙ ap (λ k. Err (EmptySegment k)) (omega (arith, stands.3)))
answer_due form text (Err TooManySegments) other h = sym (ap due_of h.1 ∙ many_due h.0 h.2)
answer_due form text (Err Memory) other h = absurd (other refl)

-- ---- the answer that is expected is one

abbrev SaysFrom : ℕ → List Entry → Answer → Type 0
SaysFrom index es (Ok segments) = es ≡ map whole segments
SaysFrom index es (Err NotAList) = ⊥
SaysFrom index es (Err (BadEntry at)) = (k : ℕ) × (at ≡ index + k) × StandsFirst es k bad
SaysFrom index es (Err (EmptySegment at)) = (k : ℕ) × (at ≡ index + k) × StandsFirst es k empty
SaysFrom index es (Err TooManySegments) = ⊥
SaysFrom index es (Err Memory) = ⊥

stands_behind : (s : Segment) (es : List Entry) (k : ℕ) (e : Entry) → StandsFirst es k e → StandsFirst (whole s ∷ es) (suc k) e
stands_behind s es k e h = (s ∷ h.0, h.1, ap (λ t. whole s ∷ t) h.2, ap suc h.3)

says_behind : (index : ℕ) (s : Segment) (es : List Entry) (r : Answer) → SaysFrom (suc index) es r → SaysFrom index (whole s ∷ es) (behind_segment s r)
says_behind index s es (Ok segments) h = ap (λ t. whole s ∷ t) h
says_behind index s es (Err NotAList) h = h
says_behind index s es (Err (BadEntry at)) h = (suc h.0, omega (arith, h.1), stands_behind s es h.0 bad h.2)
says_behind index s es (Err (EmptySegment at)) h = (suc h.0, omega (arith, h.1), stands_behind s es h.0 empty h.2)
says_behind index s es (Err TooManySegments) h = h
says_behind index s es (Err Memory) h = h

says_due : (index : ℕ) (es : List Entry) → SaysFrom index es (due_from index es)
says_due index [] = refl
says_due index (whole s ∷ es) = says_behind index s es (due_from (suc index) es) (says_due (suc index) es)
says_due index (bad ∷ es) = (0, omega arith, ([], es, refl, refl))
says_due index (empty ∷ es) = (0, omega arith, ([], es, refl, refl))

reads_said : (form : Form) (text : List ℕ) (es : List Entry) (r : Answer) → entries_of form text ≡ Some es → length es ≤ 1000 → SaysFrom 0 es r → Reads form text r
reads_said form text es (Ok segments) e few h = (e ∙ ap Some h, omega (arith, few, ap length h, length-map segments whole))
reads_said form text es (Err NotAList) e few h = absurd h
reads_said form text es (Err (BadEntry at)) e few h = let stands = h.2 in (es, e, few, (stands.0, stands.1, stands.2, omega (arith, stands.3, h.1)))
reads_said form text es (Err (EmptySegment at)) e few h = let stands = h.2 in (es, e, few, (stands.0, stands.1, stands.2, omega (arith, stands.3, h.1)))
reads_said form text es (Err TooManySegments) e few h = absurd h
reads_said form text es (Err Memory) e few h = absurd h

reads_counted : (form : Form) (text : List ℕ) (es : List Entry) (b : Bool) → nat_lt 1000 (length es) ≡ b → entries_of form text ≡ Some es → Reads form text (cond b (Err TooManySegments) (due_from 0 es))
reads_counted form text es true many e = (es, e, ltb-true 1000 (length es) many)
reads_counted form text es false few e = let small : length es ≤ 1000 = grind (arith, nat_tests) in reads_said form text es (due_from 0 es) e small (says_due 0 es)

reads_at : (form : Form) (text : List ℕ) (found : Option (List Entry)) → entries_of form text ≡ found → Reads form text (due_of found)
reads_at form text None e = e
reads_at form text (Some es) e = reads_counted form text es (nat_lt 1000 (length es)) refl e

pub due_reads : (form : Form) (text : List ℕ) → Reads form text (due_of (entries_of form text))
due_reads form text = reads_at form text (entries_of form text) refl

no_memory_from : (es : List Entry) → due_from 0 es ≢ Err Memory
no_memory_from es e = subst (SaysFrom 0 es) e (says_due 0 es)

no_memory_counted : (es : List Entry) (b : Bool) → cond b (Err TooManySegments) (due_from 0 es) ≢ Err Memory
no_memory_counted es true e = cc
no_memory_counted es false e = no_memory_from es e

pub due_not_memory : (found : Option (List Entry)) → due_of found ≢ Err Memory
due_not_memory None e = cc
due_not_memory (Some es) e = no_memory_counted es (nat_lt 1000 (length es)) e
