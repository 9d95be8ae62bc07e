-- A test of bytes for each form of a location's body: it passes the spellings of those values that pass a test, and no others.
use Rattle.std.proofs.Common.{◌≡◌, ◌==◌, ℕ, ◌+◌, zero, suc, Bool, true, false, not, ◌&&◌, ◌||◌, inl, inr, List, [], ◌∷◌, ◌++◌, refl, sym, ◌∙◌, ap, subst, None, Result, Ok, Err, bytes_eq, slice_index, get_or, codes, add-one, arith}
use Rattle.std.specs.List.{list_all}
use Rattle.std.proofs.lemmas.Bool.{and_parts, and_from, or_cases, or_left, or_right, false_from_ne_true, not_from_false}
use Rattle.std.proofs.lemmas.Bool.Decides.{nat_tests}
use Rattle.std.proofs.lemmas.List.{get_or_past}
use Rattle.std.proofs.lemmas.Slice.Eq.{bytes_eq-Decides}
use Rattle.xml_forms.specs.Bodies.{Whole}
use Rattle.xml_forms.specs.Forms.{Either, Exactly, Then, Word, RunThen}
use Rattle.xml_forms.specs.Openings.{Declared, DeclarationText, NoDeclarationEnd, Opening, RootEnd, RootTag}
use Rattle.xml_forms.specs.Runs.{has, Sized, Element, Spaced}
use Rattle.xml_forms.specs.declared.class.Class.{Class}
use Rattle.xml_forms.specs.declared.class.Class.TheVariants.{Space, Dashed, InDouble, InSingle}
use Rattle.xml_forms.proofs.lemmas.Readers.{any_run}
use Rattle.s3_bodies.specs.Location.{Constraint, IsLocation, Location, LocationInside, Region, AnswersLocation, location_end, location_start}
use Rattle.s3_bodies.specs.LocationTest.{is_cut, is_any, is_spaced, is_element, has_no_declaration_end, is_declaration_text, is_root_end, is_root_tag, is_opening, is_inside, is_document, names_location, TellsLocation}
use Rattle.s3_bodies.specs.declared.fault.BodyFault.{BodyFault}
use Rattle.s3_bodies.specs.declared.fault.BodyFault.TheVariants.{NotTheBody, TooMany, Memory}
use Rattle.s3_bodies.proofs.Locations.{location_unique}

-- ---- cuts

record Cut (first second : List ℕ → Bool) (bytes : List ℕ) : Type 0 where
  pub front : List ℕ
  pub rest : List ℕ
  pub fronts : first front ≡ true
  pub rests : second rest ≡ true
  pub at : bytes ≡ front ++ rest

cut_sound : (first second : List ℕ → Bool) (bytes : List ℕ) → is_cut first second bytes ≡ true → Cut first second bytes
unfolding is_cut
cut_sound first second [] e =
    let p = and_parts (first []) (second []) e in
    record { front = []; rest = []; fronts = p.0; rests = p.1; at = refl }
cut_sound first second (byte ∷ bytes) e = elim (or_cases (first [] && second (byte ∷ bytes)) (is_cut (λ front. first (byte ∷ front)) second bytes) e) [
  | inl here ↦ let p = and_parts (first []) (second (byte ∷ bytes)) here in record { front = []; rest = byte ∷ bytes; fronts = p.0; rests = p.1; at = refl }
  | inr behind ↦
      let c = cut_sound (λ front. first (byte ∷ front)) second bytes behind in
      record { front = byte ∷ c.front; rest = c.rest; fronts = c.fronts; rests = c.rests; at = ap (λ l. byte ∷ l) c.at }
]

cut_complete : (first second : List ℕ → Bool) (front rest : List ℕ) → first front ≡ true → second rest ≡ true → is_cut first second (front ++ rest) ≡ true
unfolding is_cut
cut_complete first second [] [] f s = and_from (first []) (second []) f s
cut_complete first second [] (byte ∷ rest) f s =
    or_left (first [] && second (byte ∷ rest)) (is_cut (λ front. first (byte ∷ front)) second rest) (and_from (first []) (second (byte ∷ rest)) f s)
cut_complete first second (byte ∷ front) rest f s =
    or_right (first [] && second (byte ∷ front ++ rest)) (is_cut (λ part. first (byte ∷ part)) second (front ++ rest)) (cut_complete (λ part. first (byte ∷ part)) second front rest f s)

is_cut_of : (first second : List ℕ → Bool) (bytes front rest : List ℕ) → bytes ≡ front ++ rest → first front ≡ true → second rest ≡ true → is_cut first second bytes ≡ true
is_cut_of first second bytes front rest at f s = subst (λ l. is_cut first second l ≡ true) (sym at) (cut_complete first second front rest f s)

same : (w bytes : List ℕ) → bytes_eq w bytes ≡ true → bytes ≡ w
same w bytes e = sym ((bytes_eq-Decides w bytes).0 e)

equal : (w bytes : List ℕ) → bytes ≡ w → bytes_eq w bytes ≡ true
equal w bytes e = (bytes_eq-Decides w bytes).1 (sym e)

-- ---- forms and their tests

pub record Found {A : Type 0} (form : A → List ℕ → Type 0) (ok : A → Bool) (bytes : List ℕ) : Type 0 where
  pub value : A
  pub spells : form value bytes
  pub passes : ok value ≡ true

-- the test passes the spellings of the values that pass the other one
pub record Tells {A : Type 0} (form : A → List ℕ → Type 0) (ok : A → Bool) (test : List ℕ → Bool) : Type 0 where
  pub sound : (bytes : List ℕ) → test bytes ≡ true → Found form ok bytes
  pub complete : (a : A) (bytes : List ℕ) → form a bytes → ok a ≡ true → test bytes ≡ true

word_tells : (w : List ℕ) → Tells (Word w) (λ _. true) (bytes_eq w)
word_tells w = record {
  sound = λ bytes e. record { value = tt; spells = same w bytes e; passes = refl };
  complete = λ a bytes f e. equal w bytes f;
}

exactly_tells : (v w : List ℕ) (ok : List ℕ → Bool) → Tells (Exactly v w) ok (λ bytes. ok v && bytes_eq w bytes)
exactly_tells v w ok = record {
  sound = λ bytes e. let p = and_parts (ok v) (bytes_eq w bytes) e in record { value = v; spells = (refl, same w bytes p.1); passes = p.0 };
  complete = λ a bytes f e. and_from (ok v) (bytes_eq w bytes) (subst (λ x. ok x ≡ true) f.0 e) (equal w bytes f.1);
}

-- where the value is known to pass
closed_tells : (v w : List ℕ) (ok : List ℕ → Bool) → ok v ≡ true → Tells (Exactly v w) ok (bytes_eq w)
closed_tells v w ok passes = record {
  sound = λ bytes e. record { value = v; spells = (refl, same w bytes e); passes = passes };
  complete = λ a bytes f e. equal w bytes f.1;
}

either_tells : (F G : List ℕ → List ℕ → Type 0) (ok s t : List ℕ → Bool) → Tells F ok s → Tells G ok t → Tells (Either F G) ok (λ bytes. s bytes || t bytes)
either_tells F G ok s t f g = record {
  sound = λ bytes e. elim (or_cases (s bytes) (t bytes) e) [
    | inl h ↦ let x = f.sound bytes h in record { value = x.value; spells = inl x.spells; passes = x.passes }
    | inr h ↦ let x = g.sound bytes h in record { value = x.value; spells = inr x.spells; passes = x.passes }
  ];
  complete = λ a bytes p e. elim p [ inl x ↦ or_left (s bytes) (t bytes) (f.complete a bytes x e) | inr y ↦ or_right (s bytes) (t bytes) (g.complete a bytes y e) ];
}

then_tells : {A B : Type 0} (F : A → List ℕ → Type 0) (G : A → B → List ℕ → Type 0) (first : A → Bool) (ok : B → Bool) (s t : List ℕ → Bool)
    → Tells F first s → ((a : A) → first a ≡ true → Tells (G a) ok t) → ((a : A) (b : B) (bytes : List ℕ) → G a b bytes → ok b ≡ true → first a ≡ true)
    → Tells (Then F G) ok (is_cut s t)
then_tells F G first ok s t f g back = record {
  sound = λ bytes e.
      let c = cut_sound s t bytes e in
      let x = f.sound c.front c.fronts in
      let y = (g x.value x.passes).sound c.rest c.rests in
      record { value = y.value; spells = record { value = x.value; head = c.front; tail = c.rest; heads = x.spells; tails = y.spells; at = c.at }; passes = y.passes };
  complete = λ b bytes p e.
      let passes = back p.value b p.tail p.tails e in
      is_cut_of s t bytes p.head p.tail p.at (f.complete p.value p.head p.heads passes) ((g p.value passes).complete b p.tail p.tails e);
}

spaced_tells : {B : Type 0} (F : B → List ℕ → Type 0) (ok : B → Bool) (t : List ℕ → Bool) → Tells F ok t → Tells (Spaced F) ok (is_spaced t)
spaced_tells F ok t f = record {
  sound = λ bytes e.
      let c = cut_sound (list_all (has Space)) t bytes e in
      let x = f.sound c.rest c.rests in
      record { value = x.value; spells = record { run = c.front; tail = c.rest; passes = c.fronts; is_allowed = any_run c.front; tails = x.spells; at = c.at }; passes = x.passes };
  complete = λ b bytes p e. is_cut_of (list_all (has Space)) t bytes p.run p.tail p.at p.passes (f.complete b p.tail p.tails e);
}

run_tells : (class : Class) (end : List ℕ) (ok : List ℕ → Bool)
    → Tells (RunThen (has class) (Sized false None) (λ run. Exactly run end)) ok (is_cut (λ text. list_all (has class) text && ok text) (bytes_eq end))
run_tells class end ok = record {
  sound = λ bytes e.
      let c = cut_sound (λ text. list_all (has class) text && ok text) (bytes_eq end) bytes e in
      let p = and_parts (list_all (has class) c.front) (ok c.front) c.fronts in
      record { value = c.front; spells = record { run = c.front; tail = c.rest; passes = p.0; is_allowed = any_run c.front; tails = (refl, same end c.rest c.rests); at = c.at }; passes = p.1 };
  complete = λ a bytes f e.
      is_cut_of (λ text. list_all (has class) text && ok text) (bytes_eq end) bytes f.run f.tail f.at
      (and_from (list_all (has class) f.run) (ok f.run) f.passes (subst (λ x. ok x ≡ true) f.tails.0 e)) (equal end f.tail f.tails.1);
}

element_tells : (start : List ℕ) (class : Class) (end : List ℕ) (ok : List ℕ → Bool) → Tells (Element start class false None end) ok (is_element start class end ok)
element_tells start class end ok =
    then_tells (Word start) (λ _. RunThen (has class) (Sized false None) (λ run. Exactly run end)) (λ _. true) ok (bytes_eq start)
    (is_cut (λ text. list_all (has class) text && ok text) (bytes_eq end)) (word_tells start) (λ _ _. run_tells class end ok) (λ _ _ _ _ _. refl)

-- ---- how a document begins

no_declaration_end_at : (byte : ℕ) (text : List ℕ) → (byte ≡ 63 → slice_index text 0 ≡ 62 → ⊥) → NoDeclarationEnd text → (k : ℕ) → slice_index (byte ∷ text) k ≡ 63 → slice_index (byte ∷ text) (k + 1) ≡ 62 → ⊥
no_declaration_end_at byte text first rest zero a b = first a b
no_declaration_end_at byte text first rest (suc k) a b =
    rest k a (ap (λ n. get_or text n 0) (add-one k) ∙ sym (ap (λ n. get_or (byte ∷ text) n 0) (add-one (suc k))) ∙ b)

no_declaration_end_sound : (text : List ℕ) → has_no_declaration_end text ≡ true → NoDeclarationEnd text
unfolding has_no_declaration_end
no_declaration_end_sound [] e = λ k a b. let none : ◌≡◌ {A = ℕ} 0 63 = sym (get_or_past [] k 0 (omega arith)) ∙ a in omega (arith, none)
no_declaration_end_sound (byte ∷ text) e =
    let p = and_parts (not (byte == 63 && slice_index text 0 == 62)) (has_no_declaration_end text) e in
    no_declaration_end_at byte text (λ a b. (let t = p.0 in grind (arith, nat_tests))) (no_declaration_end_sound text p.1)

no_declaration_end_complete : (text : List ℕ) → NoDeclarationEnd text → has_no_declaration_end text ≡ true
unfolding has_no_declaration_end
no_declaration_end_complete [] none = refl
no_declaration_end_complete (byte ∷ text) none =
    and_from (not (byte == 63 && slice_index text 0 == 62)) (has_no_declaration_end text)
    (not_from_false (byte == 63 && slice_index text 0 == 62)
    (false_from_ne_true (byte == 63 && slice_index text 0 == 62) (λ h. let p = and_parts (byte == 63) (slice_index text 0 == 62) h in none 0 (let t = p.0 in grind (arith, nat_tests)) (let t = p.1 in grind (arith, nat_tests)))))
    (no_declaration_end_complete text (λ k a b. none (k + 1) (ap (λ n. get_or (byte ∷ text) n 0) (add-one k) ∙ a) (ap (λ n. get_or (byte ∷ text) n 0) (add-one (k + 1)) ∙ b)))

declaration_text_tells : Tells DeclarationText (λ _. true) is_declaration_text
declaration_text_tells = record {
  sound = λ bytes e.
      let c = cut_sound has_no_declaration_end (bytes_eq (codes "?>")) bytes e in
      record { value = c.front; spells = (no_declaration_end_sound c.front c.fronts, c.at ∙ ap (λ w. c.front ++ w) (same (codes "?>") c.rest c.rests)); passes = refl };
  complete = λ text bytes f e. is_cut_of has_no_declaration_end (bytes_eq (codes "?>")) bytes text (codes "?>") f.1 (no_declaration_end_complete text f.0) (equal (codes "?>") (codes "?>") refl);
}

root_end_tells : Tells RootEnd is_any is_root_end
root_end_tells =
    either_tells (Exactly [] (codes ">")) (Either (Element (codes " xmlns=\"") InDouble false None (codes "\">")) (Element (codes " xmlns='") InSingle false None (codes "'>"))) is_any
    (bytes_eq (codes ">"))
    (λ bytes. is_element (codes " xmlns=\"") InDouble (codes "\">") is_any bytes || is_element (codes " xmlns='") InSingle (codes "'>") is_any bytes)
    (exactly_tells [] (codes ">") is_any)
    (either_tells (Element (codes " xmlns=\"") InDouble false None (codes "\">")) (Element (codes " xmlns='") InSingle false None (codes "'>")) is_any
    (is_element (codes " xmlns=\"") InDouble (codes "\">") is_any) (is_element (codes " xmlns='") InSingle (codes "'>") is_any)
    (element_tells (codes " xmlns=\"") InDouble (codes "\">") is_any) (element_tells (codes " xmlns='") InSingle (codes "'>") is_any))

root_tag_tells : (name : List ℕ) → Tells (RootTag name) is_any (is_root_tag name)
root_tag_tells name =
    spaced_tells (Then (Word name) (λ _. RootEnd)) is_any (is_cut (bytes_eq name) is_root_end)
    (then_tells (Word name) (λ _. RootEnd) (λ _. true) is_any (bytes_eq name) is_root_end (word_tells name) (λ _ _. root_end_tells) (λ _ _ _ _ _. refl))

pub opening_tells : (name : List ℕ) → Tells (Opening name) is_any (is_opening name)
opening_tells name =
    either_tells (Declared name) (RootTag name) is_any (is_cut (bytes_eq (codes "<?xml")) (is_cut is_declaration_text (is_root_tag name))) (is_root_tag name)
    (then_tells (Word (codes "<?xml")) (λ _. Then DeclarationText (λ _. RootTag name)) (λ _. true) is_any (bytes_eq (codes "<?xml")) (is_cut is_declaration_text (is_root_tag name)) (word_tells (codes "<?xml"))
    (λ _ _. then_tells DeclarationText (λ _. RootTag name) (λ _. true) is_any is_declaration_text (is_root_tag name) declaration_text_tells (λ _ _. root_tag_tells name) (λ _ _ _ _ _. refl))
    (λ _ _ _ _ _. refl))
    (root_tag_tells name)

-- ---- the body

module _ (ok : List ℕ → Bool) where
  constraint_tells : Tells Constraint ok (is_cut (is_element (codes "<LocationConstraint>") Dashed (codes "</LocationConstraint>") ok) (is_spaced (bytes_eq location_end)))
  constraint_tells =
      then_tells Region (λ text. Spaced (Exactly text location_end)) ok ok (is_element (codes "<LocationConstraint>") Dashed (codes "</LocationConstraint>") ok) (is_spaced (bytes_eq location_end))
      (element_tells (codes "<LocationConstraint>") Dashed (codes "</LocationConstraint>") ok)
      (λ text passes. spaced_tells (Exactly text location_end) ok (bytes_eq location_end) (closed_tells text location_end ok passes))
      (λ text b bytes p e. subst (λ x. ok x ≡ true) p.tails.0 e)

  inside_tells : Tells LocationInside ok (is_spaced (is_inside ok))
  inside_tells =
      spaced_tells (Either (Exactly [] location_end) Constraint) ok (is_inside ok)
      (either_tells (Exactly [] location_end) Constraint ok (λ bytes. ok [] && bytes_eq location_end bytes)
      (is_cut (is_element (codes "<LocationConstraint>") Dashed (codes "</LocationConstraint>") ok) (is_spaced (bytes_eq location_end)))
      (exactly_tells [] location_end ok) constraint_tells)

  document_tells : Tells Location ok (is_document ok)
  document_tells =
      then_tells (Opening location_start) (λ _. LocationInside) is_any ok (is_opening location_start) (is_spaced (is_inside ok)) (opening_tells location_start) (λ _ _. inside_tells) (λ _ _ _ _ _. refl)

  whole_tells : Tells (Whole Location) ok (is_cut (is_document ok) (list_all (has Space)))
  whole_tells = record {
    sound = λ bytes e.
        let c = cut_sound (is_document ok) (list_all (has Space)) bytes e in
        let x = document_tells.sound c.front c.fronts in
        record { value = x.value; spells = record { word = c.front; tail = c.rest; spells = x.spells; spaces = c.rests; at = c.at }; passes = x.passes };
    complete = λ a bytes f e. is_cut_of (is_document ok) (list_all (has Space)) bytes f.word f.tail f.at (document_tells.complete a f.word f.spells e) f.spaces;
  }

  body_tells : Tells IsLocation ok (names_location ok)
  unfolding names_location
  body_tells = either_tells (Exactly [] []) (Whole Location) ok (λ bytes. ok [] && bytes_eq [] bytes) (is_cut (is_document ok) (list_all (has Space))) (exactly_tells [] [] ok) whole_tells

-- ---- what reading tells

not_document : (text bytes : List ℕ) → bytes ≡ [] → Whole Location text bytes → ⊥
unfolding is_cut
not_document text bytes none is =
    let h : false ≡ true = (whole_tells is_any).complete text [] (subst (λ l. Whole Location text l) none is) refl in
    cc h

same_location : (a b bytes : List ℕ) → IsLocation a bytes → IsLocation b bytes → a ≡ b
same_location a b bytes p q = elim p [
  | inl x ↦ elim q [ inl y ↦ x.0 ∙ sym y.0 | inr y ↦ absurd (not_document b bytes x.1 y) ]
  | inr x ↦ elim q [ inl y ↦ absurd (not_document a bytes y.1 x) | inr y ↦ (location_unique.one a b x.word y.word x.tail y.tail x.spells y.spells (sym x.at ∙ y.at)).0 ]
]

told : (ok : List ℕ → Bool) (b : Bool) (text bytes : List ℕ) → ok text ≡ b → IsLocation text bytes → names_location ok bytes ≡ b
told ok true text bytes e is = (body_tells ok).complete text bytes is e
told ok false text bytes e is = false_from_ne_true (names_location ok bytes) (λ h.
    let x = (body_tells ok).sound bytes h in
    let not_so : true ≡ false = sym x.passes ∙ ap ok (same_location x.value text bytes x.spells is) ∙ e in
    cc not_so)

pub location_tells : (bytes : List ℕ) (result : Result (List ℕ) BodyFault) → AnswersLocation bytes result → TellsLocation bytes result
location_tells bytes (Ok text) is = λ ok. told ok (ok text) text bytes refl is
location_tells bytes (Err (NotTheBody n)) is = λ ok. false_from_ne_true (names_location ok bytes) (λ h. let x = (body_tells ok).sound bytes h in is.none (x.value, x.spells))
location_tells bytes (Err TooMany) is = tt
location_tells bytes (Err Memory) is = tt
