-- Bytes that may hold a head now: those in which an empty line came behind another.
use Rattle.std.proofs.Common.{◌≡◌, ℕ, ◌+◌, ◌-◌, ◌≤◌, true, false, List, [], ◌∷◌, ◌++◌, length, take, drop, All, IsTrue, refl, sym, ap, subst, ◌∙◌, append_assoc, append-nil, length-append, arith, inl, inr}
use Rattle.std.specs.Prelude.{◌&&◌, ◌||◌, flat_map}
use Rattle.std.proofs.lemmas.Bool.{cases_lt, false≢true, or_right}
use Rattle.std.proofs.lemmas.Bool.Decides.{nat_tests}
use Rattle.std.proofs.lemmas.List.{drop-append-le}
use Rattle.std.proofs.lemmas.List.Elements.{All-head, All-tail}
use Rattle.std.proofs.Math.Seq.{take-append-add}
use Rattle.httparse.specs.Ascii.{space, colon}
use Rattle.httparse.specs.Grammar.{AllPass, is_value_byte, LineEnd, crlf, lf, print_end, print_blank, print_version, Field, IsField, print_field, RequestHead, IsRequestHead, print_request, HasNoRequest}
use Rattle.http_wire.specs.Scan.{is_text, has_empty}

-- the bytes end with a byte of a line
abbrev EndsText : List ℕ → Type 0
EndsText bytes = (front : List ℕ) × (x : ℕ) × (is_text x ≡ true) × (bytes ≡ front ++ x ∷ [])

-- the bytes end with a line that isn't empty
abbrev EndsLine : List ℕ → Type 0
EndsLine bytes = (front : List ℕ) × (x : ℕ) × (end : LineEnd) × (is_text x ≡ true) × (bytes ≡ front ++ x ∷ print_end end)

text_behind : (xs ys : List ℕ) → EndsText ys → EndsText (xs ++ ys)
text_behind xs ys (front, x, text, is) = (xs ++ front, x, text, ap (λ v. xs ++ v) is ∙ sym (append_assoc xs front (x ∷ [])))

text_past : (y : ℕ) (ys : List ℕ) → EndsText ys → EndsText (y ∷ ys)
text_past y ys (front, x, text, is) = (y ∷ front, x, text, ap (λ v. y ∷ v) is)

value_text : (b : ℕ) → IsTrue (is_value_byte b) → is_text b ≡ true
value_text b value = grind (arith, nat_tests)

digit_text : (n : ℕ) → is_text (48 + n) ≡ true
digit_text n = grind (arith, nat_tests)

text_from : (y : ℕ) (raw : List ℕ) → is_text y ≡ true → AllPass is_value_byte raw → EndsText (y ∷ raw)
text_from y [] text all = ([], y, text, refl)
text_from y (b ∷ raw) text all =
    text_past y (b ∷ raw) (text_from b raw (value_text b (All-head (λ c. IsTrue (is_value_byte c)) b raw all)) (All-tail (λ c. IsTrue (is_value_byte c)) b raw all))

line_from : (xs : List ℕ) (end : LineEnd) → EndsText xs → EndsLine (xs ++ print_end end)
line_from xs end (front, x, text, is) = (front, x, end, text, ap (λ v. v ++ print_end end) is ∙ append_assoc front (x ∷ []) (print_end end))

line_behind : (xs ys : List ℕ) → EndsLine ys → EndsLine (xs ++ ys)
line_behind xs ys (front, x, end, text, is) = (xs ++ front, x, end, text, ap (λ v. xs ++ v) is ∙ sym (append_assoc xs front (x ∷ print_end end)))

field_line : (f : Field) → IsField f → EndsLine (print_field f)
field_line f fine = line_from (f.name ++ colon ∷ f.raw) f.end (text_behind f.name (colon ∷ f.raw) (text_from colon f.raw refl fine.raw))

fields_line : (start : List ℕ) (fs : List Field) → All IsField fs → EndsLine start → EndsLine (start ++ flat_map print_field fs)
fields_line start [] fine line = subst EndsLine (sym (append-nil start)) line
fields_line start (f ∷ fs) fine line =
    subst EndsLine (append_assoc start (print_field f) (flat_map print_field fs))
    (fields_line (start ++ print_field f) fs (All-tail IsField f fs fine) (line_behind start (print_field f) (field_line f (All-head IsField f fs fine))))

-- a head ends with a line that isn't empty, and an empty one
abbrev EndsHead : List ℕ → Type 0
EndsHead bytes =
    (front : List ℕ) × (x : ℕ) × (one : LineEnd) × (two : LineEnd) × (is_text x ≡ true)
    × (bytes ≡ front ++ x ∷ (print_end one ++ print_end two))

head_from : (xs : List ℕ) (two : LineEnd) → EndsLine xs → EndsHead (xs ++ print_end two)
head_from xs two (front, x, one, text, is) =
    (front, x, one, two, text, ap (λ v. v ++ print_end two) is ∙ append_assoc front (x ∷ print_end one) (print_end two))

head_ends : (h : RequestHead) → IsRequestHead h → EndsHead (print_request h)
unfolding print_request
head_ends h fine =
    let start : List ℕ = print_blank h.blank ++ h.method ++ space ∷ h.target in
    let first : EndsLine (start ++ space ∷ print_version h.minor ++ print_end h.line_end) =
    line_from (start ++ space ∷ print_version h.minor) h.line_end
    (text_behind start (space ∷ print_version h.minor) (space ∷ 72 ∷ 84 ∷ 84 ∷ 80 ∷ 47 ∷ 49 ∷ 46 ∷ [], 48 + h.minor, digit_text h.minor, refl)) in
    let lines : List ℕ = start ++ space ∷ print_version h.minor ++ print_end h.line_end in
    subst EndsHead (append_assoc lines (flat_map print_field h.fields) (print_end h.last))
    (head_from (lines ++ flat_map print_field h.fields) h.last (fields_line lines h.fields fine.fields first))

-- such an end is found
found_here : (x : ℕ) (one two : LineEnd) (rest : List ℕ) → is_text x ≡ true → has_empty (x ∷ (print_end one ++ (print_end two ++ rest))) ≡ true
unfolding has_empty
found_here x crlf crlf rest text = ap (λ b. (b && true) || has_empty (13 ∷ 10 ∷ 13 ∷ 10 ∷ rest)) text
found_here x crlf lf rest text = ap (λ b. (b && true) || has_empty (13 ∷ 10 ∷ 10 ∷ rest)) text
found_here x lf crlf rest text = ap (λ b. (b && true) || has_empty (10 ∷ 13 ∷ 10 ∷ rest)) text
found_here x lf lf rest text = ap (λ b. (b && true) || has_empty (10 ∷ 10 ∷ rest)) text

found_behind : (front : List ℕ) (x : ℕ) (one two : LineEnd) (rest : List ℕ) → is_text x ≡ true
    → has_empty (front ++ x ∷ (print_end one ++ (print_end two ++ rest))) ≡ true
unfolding has_empty
found_behind [] x one two rest text = found_here x one two rest text
found_behind (b ∷ front) x one two rest text = or_right _ _ (found_behind front x one two rest text)

end_short : (end : LineEnd) → length (print_end end) ≤ 2
end_short crlf = omega arith
end_short lf = omega arith

-- a head that ends within the first `seen` bytes is a head of these
within_seen : (bytes head rest : List ℕ) (seen : ℕ) → length head ≤ seen → bytes ≡ head ++ rest → take seen bytes ≡ head ++ take (seen - length head) rest
within_seen bytes head rest seen short is =
    let size : seen ≡ length head + (seen - length head) = omega (arith, short) in
    ap (take seen) is ∙ ap (λ n. take n (head ++ rest)) size ∙ take-append-add head rest (seen - length head)

-- where no empty line came with the other bytes, they hold no head if the first ones hold none
pub still_none : (bytes : List ℕ) (seen : ℕ) → HasNoRequest (take seen bytes) → has_empty (drop (seen - 4) bytes) ≡ false → HasNoRequest bytes
still_none bytes seen none clean h rest (fine, reads) = by_end (head_ends h fine)
  where
    by_end : EndsHead (print_request h) → ⊥
    by_end (front, x, one, two, text, ends) =
        let tail : List ℕ = x ∷ (print_end one ++ (print_end two ++ rest)) in
        let all : bytes ≡ front ++ tail =
        reads ∙ ap (λ v. v ++ rest) ends ∙ append_assoc front (x ∷ (print_end one ++ print_end two)) rest
        ∙ ap (λ v. front ++ x ∷ v) (append_assoc (print_end one) (print_end two) rest) in
        let size : length (print_request h) ≡ length front + (1 + (length (print_end one) + length (print_end two))) =
        ap length ends ∙ omega (arith, length-append front (x ∷ (print_end one ++ print_end two)), length-append (print_end one) (print_end two)) in
        elim (cases_lt seen (length (print_request h))) [
          | inl long ↦
              let low : seen - 4 ≤ length front = omega (arith, long, size, end_short one, end_short two) in
              false≢true (sym clean ∙ ap (λ v. has_empty (drop (seen - 4) v)) all ∙ ap has_empty (drop-append-le (seen - 4) front tail low)
              ∙ found_behind (drop (seen - 4) front) x one two rest text)
          | inr short ↦ none h (take (seen - length (print_request h)) rest) (fine, within_seen bytes (print_request h) rest seen short reads)
        ]
