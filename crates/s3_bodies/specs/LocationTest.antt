-- Whether a body of a CreateBucket names a location that passes a test. It is the grammar of such a body once more, as a test
-- of all its bytes: what a request means is said of each body, also of one for whose reading memory ran out.
use Rattle.std.specs.Prelude.{ℕ, Bool, true, false, not, ◌&&◌, ◌||◌, ◌==◌, List, [], ◌∷◌, bytes_eq, slice_index, codes, Result, Ok, Err, ◌≡◌}
use Rattle.std.specs.List.{list_all}
use Rattle.xml_forms.specs.Runs.{has}
use Rattle.xml_forms.specs.declared.class.Class.{Class}
use Rattle.xml_forms.specs.declared.class.Class.TheVariants.{Space, Dashed, InDouble, InSingle}
use Rattle.s3_bodies.specs.Location.{location_start, location_end}
use Rattle.s3_bodies.specs.declared.fault.BodyFault.{BodyFault}
use Rattle.s3_bodies.specs.declared.fault.BodyFault.TheVariants.{NotTheBody, TooMany, Memory}

-- the bytes can be cut in two, each side of which passes its test
unfoldable pub is_cut : (List ℕ → Bool) → (List ℕ → Bool) → List ℕ → Bool
is_cut first second [] = first [] && second []
is_cut first second (byte ∷ bytes) = (first [] && second (byte ∷ bytes)) || is_cut (λ front. first (byte ∷ front)) second bytes

-- any text will do
abbrev pub is_any : List ℕ → Bool
is_any text = true

abbrev pub is_spaced : (List ℕ → Bool) → List ℕ → Bool
is_spaced test = is_cut (list_all (has Space)) test

-- a text of a class that passes a test, between a start and an end
abbrev pub is_element : List ℕ → Class → List ℕ → (List ℕ → Bool) → List ℕ → Bool
is_element start class end test = is_cut (bytes_eq start) (is_cut (λ text. list_all (has class) text && test text) (bytes_eq end))

-- no `?` stands before a `>`
unfoldable pub has_no_declaration_end : List ℕ → Bool
has_no_declaration_end [] = true
has_no_declaration_end (byte ∷ text) = not (byte == 63 && slice_index text 0 == 62) && has_no_declaration_end text

abbrev pub is_declaration_text : List ℕ → Bool
is_declaration_text = is_cut has_no_declaration_end (bytes_eq (codes "?>"))

-- the end of the root's tag
abbrev pub is_root_end : List ℕ → Bool
is_root_end bytes =
    bytes_eq (codes ">") bytes
    || (is_element (codes " xmlns=\"") InDouble (codes "\">") is_any bytes || is_element (codes " xmlns='") InSingle (codes "'>") is_any bytes)

abbrev pub is_root_tag : List ℕ → List ℕ → Bool
is_root_tag name = is_spaced (is_cut (bytes_eq name) is_root_end)

-- how a document begins
abbrev pub is_opening : List ℕ → List ℕ → Bool
is_opening name bytes = is_cut (bytes_eq (codes "<?xml")) (is_cut is_declaration_text (is_root_tag name)) bytes || is_root_tag name bytes

-- what stands in the root, up to the root's end
abbrev pub is_inside : (List ℕ → Bool) → List ℕ → Bool
is_inside test bytes =
    (test [] && bytes_eq location_end bytes)
    || is_cut (is_element (codes "<LocationConstraint>") Dashed (codes "</LocationConstraint>") test) (is_spaced (bytes_eq location_end)) bytes

abbrev pub is_document : (List ℕ → Bool) → List ℕ → Bool
is_document test = is_cut (is_opening location_start) (is_spaced (is_inside test))

-- a body whose location passes the test
unfoldable pub names_location : (List ℕ → Bool) → List ℕ → Bool
names_location test bytes = (test [] && bytes_eq [] bytes) || is_cut (is_document test) (list_all (has Space)) bytes

-- what reading a body tells of every such test
abbrev pub TellsLocation : List ℕ → Result (List ℕ) BodyFault → Type 0
TellsLocation bytes (Ok text) = (test : List ℕ → Bool) → names_location test bytes ≡ test text
TellsLocation bytes (Err (NotTheBody n)) = (test : List ℕ → Bool) → names_location test bytes ≡ false
TellsLocation bytes (Err TooMany) = Unit {0}
TellsLocation bytes (Err Memory) = Unit {0}
