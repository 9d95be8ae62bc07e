-- The values of a form are those that the bytes spell.
use Rattle.std.proofs.Common.{◌≡◌, ◌≤◌, ◌<◌, ◌⊎◌, ℕ, zero, suc, Bool, true, false, ◌&&◌, inl, inr, List, [], ◌∷◌, ◌++◌, length, map, flat_map, refl, sym, ◌∙◌, ap, subst, append_assoc, None, Some, Option, bytes_eq, arith}
use Rattle.std.specs.List.{list_all}
use Rattle.std.proofs.lemmas.Bool.{and_parts, and_from}
use Rattle.std.proofs.lemmas.Bool.Decides.{nat_tests}
use Rattle.std.proofs.lemmas.List.{length-append}
use Rattle.std.proofs.lemmas.Slice.Eq.{bytes_eq-Decides}
use Rattle.xml_forms.specs.Bodies.{Whole}
use Rattle.xml_forms.specs.Forms.{Either, Exactly, Many, Then, Valued, Word, RunThen, SpellsAll}
use Rattle.xml_forms.specs.Openings.{Document}
use Rattle.xml_forms.specs.Runs.{has, IsFilled, IsShort, Sized, Element, Spaced}
use Rattle.xml_forms.specs.declared.class.Class.{Class}
use Rattle.xml_forms.specs.declared.class.Class.TheVariants.{Space}
use Rattle.s3_bodies.specs.LocationTest.{is_opening}
use Rattle.s3_bodies.specs.Values.{when, exactly, words, either, joined, valued, is_filled, is_short, is_run, runs, behind_run, spaced, elements, at_most, many, openings, documents, wholes}
use Rattle.s3_bodies.proofs.LocationTests.{opening_tells}

-- ---- elements of a list

unfoldable pub Among : {A : Type 0} → List A → A → Type 0
Among [] a = ⊥
Among (x ∷ xs) a = (x ≡ a) ⊎ Among xs a

among_left : {A : Type 0} (xs ys : List A) (a : A) → Among xs a → Among (xs ++ ys) a
unfolding Among
among_left [] ys a h = absurd h
among_left (x ∷ xs) ys a (inl e) = inl e
among_left (x ∷ xs) ys a (inr h) = inr (among_left xs ys a h)

among_right : {A : Type 0} (xs ys : List A) (a : A) → Among ys a → Among (xs ++ ys) a
unfolding Among
among_right [] ys a h = h
among_right (x ∷ xs) ys a h = inr (among_right xs ys a h)

among_cases : {A : Type 0} (xs ys : List A) (a : A) → Among (xs ++ ys) a → Among xs a ⊎ Among ys a
unfolding Among
among_cases [] ys a h = inr h
among_cases (x ∷ xs) ys a (inl e) = inl (inl e)
among_cases (x ∷ xs) ys a (inr h) = elim (among_cases xs ys a h) [ inl l ↦ inl (inr l) | inr r ↦ inr r ]

record Behind {A B : Type 0} (f : A → List B) (xs : List A) (b : B) : Type 0 where
  pub of : A
  pub has : Among xs of
  pub gives : Among (f of) b

flat_sound : {A B : Type 0} (f : A → List B) (xs : List A) (b : B) → Among (flat_map f xs) b → Behind f xs b
unfolding Among
flat_sound f [] b h = absurd h
flat_sound f (x ∷ xs) b h = elim (among_cases (f x) (flat_map f xs) b h) [
  | inl l ↦ record { of = x; has = inl refl; gives = l }
  | inr r ↦ let s = flat_sound f xs b r in record { of = s.of; has = inr s.has; gives = s.gives }
]

flat_complete : {A B : Type 0} (f : A → List B) (xs : List A) (a : A) (b : B) → Among xs a → Among (f a) b → Among (flat_map f xs) b
unfolding Among
flat_complete f [] a b h g = absurd h
flat_complete f (x ∷ xs) a b (inl e) g = among_left (f x) (flat_map f xs) b (subst (λ y. Among (f y) b) (sym e) g)
flat_complete f (x ∷ xs) a b (inr h) g = among_right (f x) (flat_map f xs) b (flat_complete f xs a b h g)

map_sound : {A B : Type 0} (f : A → B) (xs : List A) (b : B) → Among (map f xs) b → (a : A) × Among xs a × (b ≡ f a)
unfolding Among
map_sound f [] b h = absurd h
map_sound f (x ∷ xs) b (inl e) = (x, inl refl, sym e)
map_sound f (x ∷ xs) b (inr h) = let s = map_sound f xs b h in (s.0, inr s.1, s.2)

map_complete : {A B : Type 0} (f : A → B) (xs : List A) (a : A) → Among xs a → Among (map f xs) (f a)
unfolding Among
map_complete f [] a h = absurd h
map_complete f (x ∷ xs) a (inl e) = inl (ap f e)
map_complete f (x ∷ xs) a (inr h) = inr (map_complete f xs a h)

when_sound : {A : Type 0} (test : Bool) (value a : A) → Among (when test (value ∷ [])) a → (test ≡ true) × (a ≡ value)
unfolding Among
when_sound true value a (inl e) = (refl, sym e)
when_sound true value a (inr h) = absurd h
when_sound false value a h = absurd h

when_complete : {A : Type 0} (test : Bool) (value a : A) → test ≡ true → a ≡ value → Among (when test (value ∷ [])) a
unfolding Among
when_complete true value a e same = inl (sym same)
when_complete false value a e same = cc

pub guarded_sound : {A : Type 0} (test : Bool) (values : List A) (a : A) → Among (when test values) a → (test ≡ true) × Among values a
unfolding Among
guarded_sound true values a h = (refl, h)
guarded_sound false values a h = absurd h

pub guarded_complete : {A : Type 0} (test : Bool) (values : List A) (a : A) → test ≡ true → Among values a → Among (when test values) a
guarded_complete true values a e h = h
guarded_complete false values a e h = cc

-- ---- forms and their values

pub record Values {A : Type 0} (form : A → List ℕ → Type 0) (values : List ℕ → List A) : Type 0 where
  pub sound : (bytes : List ℕ) (a : A) → Among (values bytes) a → form a bytes
  pub complete : (a : A) (bytes : List ℕ) → form a bytes → Among (values bytes) a

same : (w bytes : List ℕ) → bytes_eq w bytes ≡ true → bytes ≡ w
same w bytes e = sym ((bytes_eq-Decides w bytes).0 e)

equal : (w bytes : List ℕ) → bytes ≡ w → bytes_eq w bytes ≡ true
equal w bytes e = (bytes_eq-Decides w bytes).1 (sym e)

pub exactly_values : {A : Type 0} (value : A) (word : List ℕ) → Values (Exactly value word) (exactly value word)
exactly_values value word = record {
  sound = λ bytes a h. let s = when_sound (bytes_eq word bytes) value a h in (s.1, same word bytes s.0);
  complete = λ a bytes f. when_complete (bytes_eq word bytes) value a (equal word bytes f.1) f.0;
}

unit_is : (a : Unit {0}) → a ≡ tt
unit_is a = refl

pub word_values : (word : List ℕ) → Values (Word word) (words word)
word_values word = record {
  sound = λ bytes a h. let s = when_sound (bytes_eq word bytes) tt a h in same word bytes s.0;
  complete = λ a bytes f. when_complete (bytes_eq word bytes) tt a (equal word bytes f) (unit_is a);
}

-- a form that says the same has the same values
pub same_values : {A : Type 0} (F G : A → List ℕ → Type 0) (f : List ℕ → List A) → ((a : A) (bytes : List ℕ) → F a bytes → G a bytes) → ((a : A) (bytes : List ℕ) → G a bytes → F a bytes)
    → Values F f → Values G f
same_values F G f to from of = record {
  sound = λ bytes a h. to a bytes (of.sound bytes a h);
  complete = λ a bytes p. of.complete a bytes (from a bytes p);
}

pub either_values : {A : Type 0} (F G : A → List ℕ → Type 0) (f g : List ℕ → List A) → Values F f → Values G g → Values (Either F G) (either f g)
either_values F G f g of og = record {
  sound = λ bytes a h. elim (among_cases (f bytes) (g bytes) a h) [ inl l ↦ inl (of.sound bytes a l) | inr r ↦ inr (og.sound bytes a r) ];
  complete = λ a bytes p. elim p [ inl x ↦ among_left (f bytes) (g bytes) a (of.complete a bytes x) | inr y ↦ among_right (f bytes) (g bytes) a (og.complete a bytes y) ];
}

pub valued_values : {A B : Type 0} (value : A → B) (F : A → List ℕ → Type 0) (f : List ℕ → List A) → Values F f → Values (Valued value F) (valued value f)
valued_values value F f of = record {
  sound = λ bytes b h. let s = map_sound value (f bytes) b h in record { of = s.0; spells = of.sound bytes s.0 s.1; is = s.2 };
  complete = λ b bytes p. subst (λ x. Among (map value (f bytes)) x) (sym p.is) (map_complete value (f bytes) p.of (of.complete p.of bytes p.spells));
}

-- ---- one behind another

record Cut {A B : Type 0} (first : List ℕ → List A) (second : A → List ℕ → List B) (bytes : List ℕ) (b : B) : Type 0 where
  pub value : A
  pub front : List ℕ
  pub rest : List ℕ
  pub fronts : Among (first front) value
  pub rests : Among (second value rest) b
  pub at : bytes ≡ front ++ rest

joined_sound : {A B : Type 0} (first : List ℕ → List A) (second : A → List ℕ → List B) (bytes : List ℕ) (b : B) → Among (joined first second bytes) b → Cut first second bytes b
unfolding joined
joined_sound first second [] b h =
    let s = flat_sound (λ a. second a []) (first []) b h in
    record { value = s.of; front = []; rest = []; fronts = s.has; rests = s.gives; at = refl }
joined_sound first second (byte ∷ bytes) b h =
    elim (among_cases (flat_map (λ a. second a (byte ∷ bytes)) (first [])) (joined (λ front. first (byte ∷ front)) second bytes) b h) [
      | inl here ↦
          let s = flat_sound (λ a. second a (byte ∷ bytes)) (first []) b here in
          record { value = s.of; front = []; rest = byte ∷ bytes; fronts = s.has; rests = s.gives; at = refl }
      | inr behind ↦
          let c = joined_sound (λ front. first (byte ∷ front)) second bytes b behind in
          record { value = c.value; front = byte ∷ c.front; rest = c.rest; fronts = c.fronts; rests = c.rests; at = ap (λ l. byte ∷ l) c.at }
    ]

joined_complete : {A B : Type 0} (first : List ℕ → List A) (second : A → List ℕ → List B) (front rest : List ℕ) (a : A) (b : B) → Among (first front) a → Among (second a rest) b → Among (joined first second (front ++ rest)) b
unfolding joined
joined_complete first second [] [] a b f s = flat_complete (λ x. second x []) (first []) a b f s
joined_complete first second [] (byte ∷ rest) a b f s =
    among_left (flat_map (λ x. second x (byte ∷ rest)) (first [])) (joined (λ part. first (byte ∷ part)) second rest) b (flat_complete (λ x. second x (byte ∷ rest)) (first []) a b f s)
joined_complete first second (byte ∷ front) rest a b f s =
    among_right (flat_map (λ x. second x (byte ∷ front ++ rest)) (first [])) (joined (λ part. first (byte ∷ part)) second (front ++ rest)) b
    (joined_complete (λ part. first (byte ∷ part)) second front rest a b f s)

joined_at : {A B : Type 0} (first : List ℕ → List A) (second : A → List ℕ → List B) (bytes front rest : List ℕ) (a : A) (b : B) → bytes ≡ front ++ rest → Among (first front) a → Among (second a rest) b → Among (joined first second bytes) b
joined_at first second bytes front rest a b at f s = subst (λ l. Among (joined first second l) b) (sym at) (joined_complete first second front rest a b f s)

pub then_values : {A B : Type 0} (F : A → List ℕ → Type 0) (G : A → B → List ℕ → Type 0) (f : List ℕ → List A) (g : A → List ℕ → List B)
    → Values F f → ((a : A) → Values (G a) (g a)) → Values (Then F G) (joined f g)
then_values F G f g of og = record {
  sound = λ bytes b h.
      let c = joined_sound f g bytes b h in
      record { value = c.value; head = c.front; tail = c.rest; heads = of.sound c.front c.value c.fronts; tails = (og c.value).sound c.rest b c.rests; at = c.at };
  complete = λ b bytes p. joined_at f g bytes p.head p.tail p.value b p.at (of.complete p.value p.head p.heads) ((og p.value).complete b p.tail p.tails);
}

-- ---- runs

filled_sound : (filled : Bool) (run : List ℕ) → is_filled filled run ≡ true → IsFilled filled run
filled_sound true run e = grind (arith, nat_tests)
filled_sound false run e = tt

filled_complete : (filled : Bool) (run : List ℕ) → IsFilled filled run → is_filled filled run ≡ true
filled_complete true run e = grind (arith, nat_tests)
filled_complete false run e = refl

short_sound : (most : Option ℕ) (run : List ℕ) → is_short most run ≡ true → IsShort most run
short_sound None run e = tt
short_sound (Some most) run e = grind (arith, nat_tests)

short_complete : (most : Option ℕ) (run : List ℕ) → IsShort most run → is_short most run ≡ true
short_complete None run e = refl
short_complete (Some most) run e = grind (arith, nat_tests)

pub run_values : {B : Type 0} (test : ℕ → Bool) (filled : Bool) (most : Option ℕ) (G : List ℕ → B → List ℕ → Type 0) (g : List ℕ → List ℕ → List B)
    → ((run : List ℕ) → Values (G run) (g run)) → Values (RunThen test (Sized filled most) G) (behind_run test filled most g)
run_values test filled most G g og = record {
  sound = λ bytes b h.
      let c = joined_sound (runs test filled most) g bytes b h in
      let s = when_sound (is_run test filled most c.front) c.front c.value c.fronts in
      let p = and_parts (list_all test c.front) (is_filled filled c.front && is_short most c.front) s.0 in
      let q = and_parts (is_filled filled c.front) (is_short most c.front) p.1 in
      record {
        run = c.front;
        tail = c.rest;
        passes = p.0;
        is_allowed = record { is_filled = filled_sound filled c.front q.0; is_short = short_sound most c.front q.1 };
        tails = (og c.front).sound c.rest b (subst (λ x. Among (g x c.rest) b) s.1 c.rests);
        at = c.at;
      };
  complete = λ b bytes p.
      joined_at (runs test filled most) g bytes p.run p.tail p.run b p.at
      (when_complete (is_run test filled most p.run) p.run p.run
      (and_from (list_all test p.run) (is_filled filled p.run && is_short most p.run) p.passes
      (and_from (is_filled filled p.run) (is_short most p.run) (filled_complete filled p.run p.is_allowed.is_filled) (short_complete most p.run p.is_allowed.is_short)))
      refl)
      ((og p.run).complete b p.tail p.tails);
}

pub spaced_values : {A : Type 0} (F : A → List ℕ → Type 0) (f : List ℕ → List A) → Values F f → Values (Spaced F) (spaced f)
spaced_values F f of = run_values (has Space) false None (λ _. F) (λ _. f) (λ _. of)

pub element_values : (start : List ℕ) (class : Class) (filled : Bool) (most : Option ℕ) (end : List ℕ) → Values (Element start class filled most end) (elements start class filled most end)
element_values start class filled most end =
    then_values (Word start) (λ _. RunThen (has class) (Sized filled most) (λ run. Exactly run end)) (words start) (λ _. behind_run (has class) filled most (λ run. exactly run end))
    (word_values start) (λ _. run_values (has class) filled most (λ run. Exactly run end) (λ run. exactly run end) (λ run. exactly_values run end))

-- ---- any number

fewer : {A : Type 0} (F : A → List ℕ → Type 0) → ((a : A) (word : List ℕ) → F a word → 0 < length word) → (items : List A) (bytes : List ℕ) → SpellsAll F items bytes → length items ≤ length bytes
fewer F some [] bytes s = omega arith
fewer F some (a ∷ items) bytes s =
    omega (arith, some a s.0 s.2, fewer F some items s.1 s.3, ap length s.4, length-append s.0 s.1)

at_most_sound : {A B : Type 0} (F : A → List ℕ → Type 0) (f : List ℕ → List A) (L : List A → B → List ℕ → Type 0) (l : List A → List ℕ → List B) → Values F f → ((items : List A) → Values (L items) (l items))
    → (most : ℕ) (bytes : List ℕ) (b : B) → Among (at_most most f l bytes) b → Many F L b bytes
unfolding at_most
at_most_sound F f L l of ol zero bytes b h = record { items = []; inner = []; tail = bytes; spells = refl; tails = (ol []).sound bytes b h; at = refl }
at_most_sound F f L l of ol (suc most) bytes b h =
    elim (among_cases (l [] bytes) (joined f (λ a. at_most most f (λ items. l (a ∷ items))) bytes) b h) [
      | inl none ↦ record { items = []; inner = []; tail = bytes; spells = refl; tails = (ol []).sound bytes b none; at = refl }
      | inr more ↦
          let c = joined_sound f (λ a. at_most most f (λ items. l (a ∷ items))) bytes b more in
          let m = at_most_sound F f (λ items. L (c.value ∷ items)) (λ items. l (c.value ∷ items)) of (λ items. ol (c.value ∷ items)) most c.rest b c.rests in
          record {
            items = c.value ∷ m.items;
            inner = c.front ++ m.inner;
            tail = m.tail;
            spells = (c.front, m.inner, of.sound c.front c.value c.fronts, m.spells, refl);
            tails = m.tails;
            at = c.at ∙ ap (λ r. c.front ++ r) m.at ∙ sym (append_assoc c.front m.inner m.tail);
          }
    ]

at_most_complete : {A B : Type 0} (F : A → List ℕ → Type 0) (f : List ℕ → List A) (L : List A → B → List ℕ → Type 0) (l : List A → List ℕ → List B) → Values F f → ((items : List A) → Values (L items) (l items))
    → (most : ℕ) (items : List A) (inner tail bytes : List ℕ) (b : B) → length items ≤ most → SpellsAll F items inner → L items b tail → bytes ≡ inner ++ tail → Among (at_most most f l bytes) b
unfolding at_most
at_most_complete F f L l of ol zero [] inner tail bytes b few s t at = (ol []).complete b bytes (subst (λ w. L [] b w) (sym (at ∙ ap (λ i. i ++ tail) s)) t)
at_most_complete F f L l of ol zero (a ∷ items) inner tail bytes b few s t at = absurd (omega (arith, few))
at_most_complete F f L l of ol (suc most) [] inner tail bytes b few s t at =
    among_left (l [] bytes) (joined f (λ a. at_most most f (λ items. l (a ∷ items))) bytes) b ((ol []).complete b bytes (subst (λ w. L [] b w) (sym (at ∙ ap (λ i. i ++ tail) s)) t))
at_most_complete F f L l of ol (suc most) (a ∷ items) inner tail bytes b few s t at =
    among_right (l [] bytes) (joined f (λ x. at_most most f (λ others. l (x ∷ others))) bytes) b
    (joined_at f (λ x. at_most most f (λ others. l (x ∷ others))) bytes s.0 (s.1 ++ tail) a b (at ∙ ap (λ i. i ++ tail) s.4 ∙ append_assoc s.0 s.1 tail) (of.complete a s.0 s.2)
    (at_most_complete F f (λ others. L (a ∷ others)) (λ others. l (a ∷ others)) of (λ others. ol (a ∷ others)) most items s.1 tail (s.1 ++ tail) b (omega (arith, few)) s.3 t refl))

pub many_values : {A B : Type 0} (F : A → List ℕ → Type 0) (f : List ℕ → List A) (L : List A → B → List ℕ → Type 0) (l : List A → List ℕ → List B)
    → ((a : A) (word : List ℕ) → F a word → 0 < length word) → Values F f → ((items : List A) → Values (L items) (l items)) → Values (Many F L) (many f l)
many_values F f L l some of ol = record {
  sound = λ bytes b h. at_most_sound F f L l of ol (length bytes) bytes b h;
  complete = λ b bytes p.
      at_most_complete F f L l of ol (length bytes) p.items p.inner p.tail bytes b
      (omega (arith, fewer F some p.items p.inner p.spells, ap length p.at, length-append p.inner p.tail)) p.spells p.tails p.at;
}

-- ---- documents

pub document_values : {A : Type 0} (name : List ℕ) (F : A → List ℕ → Type 0) (f : List ℕ → List A) → Values F f → Values (Document name F) (documents name f)
document_values name F f of = record {
  sound = λ bytes a h.
      let c = joined_sound (openings name) (λ _. f) bytes a h in
      let o = (opening_tells name).sound c.front (when_sound (is_opening name c.front) tt c.value c.fronts).0 in
      record { value = o.value; head = c.front; tail = c.rest; heads = o.spells; tails = of.sound c.rest a c.rests; at = c.at };
  complete = λ a bytes p.
      joined_at (openings name) (λ _. f) bytes p.head p.tail tt a p.at
      (when_complete (is_opening name p.head) tt tt ((opening_tells name).complete p.value p.head p.heads refl) refl) (of.complete a p.tail p.tails);
}

pub whole_values : {A : Type 0} (F : A → List ℕ → Type 0) (f : List ℕ → List A) → Values F f → Values (Whole F) (wholes f)
whole_values F f of = record {
  sound = λ bytes a h.
      let c = joined_sound f (λ x rest. when (list_all (has Space) rest) (x ∷ [])) bytes a h in
      let s = when_sound (list_all (has Space) c.rest) c.value a c.rests in
      record { word = c.front; tail = c.rest; spells = subst (λ x. F x c.front) (sym s.1) (of.sound c.front c.value c.fronts); spaces = s.0; at = c.at };
  complete = λ a bytes p.
      joined_at f (λ x rest. when (list_all (has Space) rest) (x ∷ [])) bytes p.word p.tail a a p.at (of.complete a p.word p.spells)
      (when_complete (list_all (has Space) p.tail) a a p.spaces refl);
}
