-- All values that some bytes spell, for the forms of text of which the bodies of requests are made. They are the forms once more, as
-- functions of all the bytes: what a request means is said of each body, also of one for whose reading memory ran out.
use Rattle.std.specs.Prelude.{ℕ, zero, suc, Bool, true, false, ◌&&◌, nat_le, nat_lt, if◌then◌else◌, List, [], ◌∷◌, ◌++◌, length, map, flat_map, bytes_eq, Option, Some, None}
use Rattle.std.specs.List.{list_all}
use Rattle.xml_forms.specs.Runs.{has}
use Rattle.xml_forms.specs.declared.class.Class.{Class}
use Rattle.xml_forms.specs.declared.class.Class.TheVariants.{Space}
use Rattle.s3_bodies.specs.LocationTest.{is_opening}

-- these values where the test passes, and else none
abbrev pub when : {A : Type 0} → Bool → List A → List A
when test values = if test then values else []

-- these bytes and no others, of this value
abbrev pub exactly : {A : Type 0} → A → List ℕ → List ℕ → List A
exactly value word bytes = when (bytes_eq word bytes) (value ∷ [])

abbrev pub words : List ℕ → List ℕ → List (Unit {0})
words word = exactly tt word

-- one form or the other
abbrev pub either : {A : Type 0} → (List ℕ → List A) → (List ℕ → List A) → List ℕ → List A
either first second bytes = first bytes ++ second bytes

-- one form and then another, at each place where the bytes can be cut
unfoldable pub joined : {A B : Type 0} → (List ℕ → List A) → (A → List ℕ → List B) → List ℕ → List B
joined first second [] = flat_map (λ a. second a []) (first [])
joined first second (byte ∷ bytes) = flat_map (λ a. second a (byte ∷ bytes)) (first []) ++ joined (λ front. first (byte ∷ front)) second bytes

-- a form whose value is a function of that of another
abbrev pub valued : {A B : Type 0} → (A → B) → (List ℕ → List A) → List ℕ → List B
valued value form bytes = map value (form bytes)

-- a run of an allowed length
abbrev pub is_filled : Bool → List ℕ → Bool
is_filled true run = nat_lt 0 (length run)
is_filled false run = true

abbrev pub is_short : Option ℕ → List ℕ → Bool
is_short None run = true
is_short (Some most) run = nat_le (length run) most

abbrev pub is_run : (ℕ → Bool) → Bool → Option ℕ → List ℕ → Bool
is_run test filled most run = list_all test run && (is_filled filled run && is_short most run)

abbrev pub runs : (ℕ → Bool) → Bool → Option ℕ → List ℕ → List (List ℕ)
runs test filled most run = when (is_run test filled most run) (run ∷ [])

-- a run of bytes that pass a test, and then a form
abbrev pub behind_run : {B : Type 0} → (ℕ → Bool) → Bool → Option ℕ → (List ℕ → List ℕ → List B) → List ℕ → List B
behind_run test filled most second = joined (runs test filled most) second

-- white space, and then a form
abbrev pub spaced : {A : Type 0} → (List ℕ → List A) → List ℕ → List A
spaced form = behind_run (has Space) false None (λ _. form)

-- a text of a class between a start and an end; the text is the value
abbrev pub elements : List ℕ → Class → Bool → Option ℕ → List ℕ → List ℕ → List (List ℕ)
elements start class filled most end = joined (words start) (λ _. behind_run (has class) filled most (λ run. exactly run end))

-- at most so many spellings of a form, and then one of another
unfoldable pub at_most : {A B : Type 0} → ℕ → (List ℕ → List A) → (List A → List ℕ → List B) → List ℕ → List B
at_most zero item last bytes = last [] bytes
at_most (suc most) item last bytes = last [] bytes ++ joined item (λ a. at_most most item (λ items. last (a ∷ items))) bytes

-- any number of them: none is empty, so there are no more than bytes
abbrev pub many : {A B : Type 0} → (List ℕ → List A) → (List A → List ℕ → List B) → List ℕ → List B
many item last bytes = at_most (length bytes) item last bytes

-- how a document begins whose root has this name
abbrev pub openings : List ℕ → List ℕ → List (Unit {0})
openings name bytes = when (is_opening name bytes) (tt ∷ [])

-- such a document
abbrev pub documents : {A : Type 0} → List ℕ → (List ℕ → List A) → List ℕ → List A
documents name inside = joined (openings name) (λ _. inside)

-- a spelling and white space behind it, and nothing else
abbrev pub wholes : {A : Type 0} → (List ℕ → List A) → List ℕ → List A
wholes form = joined form (λ a bytes. when (list_all (has Space) bytes) (a ∷ []))
