-- Reading any number of spellings of a form, and then another form.
use Rattle.std.proofs.Common.{◌≡◌, ℕ, inl, inr, List, [], ◌∷◌, ◌++◌, refl, sym, ◌∙◌, ap, subst, append_assoc, true, false, Result, Ok, Err, None}
use Rattle.std.proofs.lemmas.List.{append_cancel_left}
use Rattle.xml_forms.specs.Forms.{Begins, Stops, Reads, Either, Then, Many, Valued, SpellsAll, Skips, Unique, Apart, Possible, Opens, nearer}
use Rattle.xml_forms.specs.Runs.{has, Sized, Spaced}
use Rattle.xml_forms.specs.declared.class.Class.TheVariants.{Space}
use Rattle.xml_forms.proofs.lemmas.Sequence.{then_stops_first}
use Rattle.xml_forms.proofs.lemmas.Choices.{Heads}
use Rattle.xml_forms.proofs.lemmas.Readers.{chosen_reads, either_reads}
use Rattle.xml_forms.proofs.lemmas.Runs.{same_run}

-- a form goes for another that has the same spellings
pub same_reads : {A : Type 0} (F G : A → List ℕ → Type 0) → ((a : A) (w : List ℕ) → F a w → G a w) → ((a : A) (w : List ℕ) → G a w → F a w)
    → (bytes : List ℕ) (r : Result (A × List ℕ) ℕ) → Reads F bytes r → Reads G bytes r
same_reads F G to from bytes (Ok x) p = record { word = p.word; spells = to x.0 p.word p.spells; at = p.at }
same_reads F G to from bytes (Err left) s = record {
  front = s.front;
  rest = s.rest;
  at = s.at;
  counts = s.counts;
  value = s.value;
  more = s.more;
  lives = to s.value (s.front ++ s.more) s.lives;
  dead = λ a word after next f follows e. s.dead a word after next (from a word f) follows e;
}

-- forms that have the same spellings, each with values of its own, stop at the same place
pub same_stops : {A B : Type 0} (F : A → List ℕ → Type 0) (G : B → List ℕ → Type 0) → ((a : A) (w : List ℕ) → F a w → (b : B) × G b w) → ((b : B) (w : List ℕ) → G b w → (a : A) × F a w)
    → (bytes : List ℕ) (left : ℕ) → Stops F bytes left → Stops G bytes left
same_stops F G to from bytes left s = let t = to s.value (s.front ++ s.more) s.lives in record {
  front = s.front;
  rest = s.rest;
  at = s.at;
  counts = s.counts;
  value = t.0;
  more = s.more;
  lives = t.1;
  dead = λ b word after next f follows e. let g = from b word f in s.dead g.0 word after next g.1 follows e;
}

-- ---- a value that is a function of another

module _ {A B : Type 0} (value : A → B) (F : A → List ℕ → Type 0) where
  pub valued_stops : (bytes : List ℕ) (left : ℕ) → Stops F bytes left → Stops (Valued value F) bytes left
  valued_stops bytes left s = record {
    front = s.front;
    rest = s.rest;
    at = s.at;
    counts = s.counts;
    value = value s.value;
    more = s.more;
    lives = record { of = s.value; spells = s.lives; is = refl };
    dead = λ b word after next f follows e. s.dead f.of word after next f.spells follows e;
  }

  pub valued_begins : (bytes rest : List ℕ) (a : A) → Begins F bytes a rest → Begins (Valued value F) bytes (value a) rest
  valued_begins bytes rest a p = record { word = p.word; spells = record { of = a; spells = p.spells; is = refl }; at = p.at }

  pub valued_unique : Unique F → Unique (Valued value F)
  valued_unique unique = record {
    one = λ a b x y u v p q e. let h = unique.one p.of q.of x y u v p.spells q.spells e in (p.is ∙ ap value h.0 ∙ sym q.is, h.1);
  }

  pub valued_heads : (head : List ℕ) → Heads F head → Heads (Valued value F) head
  valued_heads head h = record { at = λ b word f. h.at f.of word f.spells }

-- ---- which forms are apart

pub apart_sym : {A B : Type 0} (F : A → List ℕ → Type 0) (G : B → List ℕ → Type 0) → Apart F G → Apart G F
apart_sym F G h = record { none = λ b a x y u v q p e. h.none a b y x v u p q (sym e) }

pub apart_then : {A B C : Type 0} (F : A → List ℕ → Type 0) (G : B → List ℕ → Type 0) (H : B → C → List ℕ → Type 0) → Apart F G → Apart F (Then G H)
apart_then F G H h = record { none = λ a c x y u v p q e. h.none a q.value x q.head u (q.tail ++ v) p q.heads (e ∙ ap (λ w. w ++ v) q.at ∙ append_assoc q.head q.tail v) }

pub spaced_apart : {A B : Type 0} (F : A → List ℕ → Type 0) (G : B → List ℕ → Type 0) → Opens (has Space) F → Opens (has Space) G → Apart F G → Apart (Spaced F) (Spaced G)
spaced_apart F G f g h = record {
  none = λ a b x y u v p q e.
      let o = f.at a p.tail p.tails in
      let e2 : p.run ++ (p.tail ++ u) ≡ y ++ v = sym (append_assoc p.run p.tail u) ∙ ap (λ w. w ++ u) (sym p.at) ∙ e in
      let same = same_run (has Space) (Sized false None) (λ _. G) (λ _. g) p.run (p.tail ++ u) v b y q p.passes
      (λ c cs us t ok w.
      let k : o.0 ∷ (o.1 ++ u) ≡ c ∷ us = ap (λ z. z ++ u) (sym o.2) ∙ w in
      let same_byte : o.0 ≡ c = cc k in
      let not_so : true ≡ false = sym t ∙ ap (has Space) (sym same_byte) ∙ o.3 in
      cc not_so) e2 in
      h.none a b p.tail q.tail u v p.tails q.tails
      (append_cancel_left p.run (p.tail ++ u) (q.tail ++ v) (e2 ∙ ap (λ w. w ++ v) q.at ∙ append_assoc q.run q.tail v ∙ ap (λ r. r ++ (q.tail ++ v)) (sym same)));
}

-- ---- one item more

pub many_some : {A B : Type 0} (item : A → List ℕ → Type 0) (last : List A → B → List ℕ → Type 0) → Possible (last []) → Possible (Many item last)
many_some item last some = record { value = some.value; word = some.word; spells = record { items = []; inner = []; tail = some.word; spells = refl; tails = some.spells; at = refl } }

abbrev pub Unfolded : {A B : Type 0} → (A → List ℕ → Type 0) → (List A → B → List ℕ → Type 0) → B → List ℕ → Type 0
Unfolded item last = Either (Then item (λ a. Many item (λ items. last (a ∷ items)))) (last [])

folds : {A B : Type 0} (item : A → List ℕ → Type 0) (last : List A → B → List ℕ → Type 0) (b : B) (w : List ℕ) → Unfolded item last b w → Many item last b w
folds item last b w (inl f) = record {
  items = f.value ∷ f.tails.items;
  inner = f.head ++ f.tails.inner;
  tail = f.tails.tail;
  spells = (f.head, f.tails.inner, f.heads, f.tails.spells, refl);
  tails = f.tails.tails;
  at = f.at ∙ ap (λ t. f.head ++ t) f.tails.at ∙ sym (append_assoc f.head f.tails.inner f.tails.tail);
}
folds item last b w (inr f) = record { items = []; inner = []; tail = w; spells = refl; tails = f; at = refl }

unfolds_at : {A B : Type 0} (item : A → List ℕ → Type 0) (last : List A → B → List ℕ → Type 0) (b : B) (w : List ℕ) (items : List A) (inner tail : List ℕ)
    → SpellsAll item items inner → last items b tail → w ≡ inner ++ tail → Unfolded item last b w
unfolds_at item last b w [] inner tail s t at = inr (subst (last [] b) (sym (at ∙ ap (λ i. i ++ tail) s)) t)
unfolds_at item last b w (a ∷ items) inner tail s t at = inl (record {
  value = a;
  head = s.0;
  tail = s.1 ++ tail;
  heads = s.2;
  tails = record { items = items; inner = s.1; tail = tail; spells = s.3; tails = t; at = refl };
  at = at ∙ ap (λ i. i ++ tail) s.4 ∙ append_assoc s.0 s.1 tail;
})

unfolds : {A B : Type 0} (item : A → List ℕ → Type 0) (last : List A → B → List ℕ → Type 0) (b : B) (w : List ℕ) → Many item last b w → Unfolded item last b w
unfolds item last b w f = unfolds_at item last b w f.items f.inner f.tail f.spells f.tails f.at

module _ {A B : Type 0} (item : A → List ℕ → Type 0) (unique : Unique item) where
  more_reads : (last : List A → B → List ℕ → Type 0) → Apart item (last []) → (bytes rest : List ℕ) (a : A) → Begins item bytes a rest
      → (r : Result (B × List ℕ) ℕ) → Reads (Many item (λ items. last (a ∷ items))) rest r → Reads (Many item last) bytes r
  more_reads last apart bytes rest a p r q =
      same_reads (Unfolded item last) (Many item last) (folds item last) (unfolds item last) bytes r
      (chosen_reads item (λ x. Many item (λ items. last (x ∷ items))) (last []) unique apart bytes rest a p r q)

  no_more : (last : List A → B → List ℕ → Type 0) → ((a : A) → Possible (last (a ∷ []))) → (bytes : List ℕ) (left : ℕ) → Stops item bytes left
      → (r : Result (B × List ℕ) ℕ) → Reads (last []) bytes r → Reads (Many item last) bytes (nearer (Err left) r)
  no_more last some bytes left s r q =
      same_reads (Unfolded item last) (Many item last) (folds item last) (unfolds item last) bytes (nearer (Err left) r)
      (either_reads (Then item (λ a. Many item (λ items. last (a ∷ items)))) (last []) bytes (Err left) r
      (then_stops_first item (λ a. Many item (λ items. last (a ∷ items))) (λ a. many_some item (λ items. last (a ∷ items)) (some a)) bytes left s) q)

  reads_all : (last : List A → B → List ℕ → Type 0) → ((l : List A) → Apart item (last l)) → ((a : A) (l : List A) → Possible (last (a ∷ l))) → (items : List A) (inner bytes rest : List ℕ) (left : ℕ)
      → SpellsAll item items inner → bytes ≡ inner ++ rest → Stops item rest left → (r : Result (B × List ℕ) ℕ) → Reads (last items) rest r → Reads (Many item last) bytes (nearer (Err left) r)
  reads_all last apart some [] inner bytes rest left s at stops r q =
      let is : bytes ≡ rest = at ∙ ap (λ i. i ++ rest) s in
      subst (λ w. Reads (Many item last) w (nearer (Err left) r)) (sym is) (no_more last (λ a. some a []) rest left stops r q)
  reads_all last apart some (a ∷ items) inner bytes rest left s at stops r q =
      more_reads last (apart []) bytes (s.1 ++ rest) a (record { word = s.0; spells = s.2; at = at ∙ ap (λ i. i ++ rest) s.4 ∙ append_assoc s.0 s.1 rest }) (nearer (Err left) r)
      (reads_all (λ l. last (a ∷ l)) (λ l. apart (a ∷ l)) (λ b l. some a (b ∷ l)) items s.1 (s.1 ++ rest) rest left s.3 refl stops r q)

  -- all items that are there, and then the other form
  pub many_reads : (last : List A → B → List ℕ → Type 0) → ((l : List A) → Apart item (last l)) → ((a : A) (l : List A) → Possible (last (a ∷ l))) → (bytes : List ℕ) (items : List A) (rest : List ℕ) (left : ℕ)
      → Skips item bytes items rest left → (r : Result (B × List ℕ) ℕ) → Reads (last items) rest r → Reads (Many item last) bytes (nearer (Err left) r)
  many_reads last apart some bytes items rest left s r q = reads_all last apart some items s.inner bytes rest left s.spells s.at s.stops r q

  -- no item is there, and without one the other form has no spelling
  pub many_stops_first : (last : List A → B → List ℕ → Type 0) → ((b : B) (w : List ℕ) → last [] b w → ⊥) → ((a : A) → Possible (last (a ∷ []))) → (bytes : List ℕ) (left : ℕ)
      → Stops item bytes left → Stops (Many item last) bytes left
  many_stops_first last none some bytes left s =
      same_reads (Then item (λ a. Many item (λ items. last (a ∷ items)))) (Many item last) (λ b w f. folds item last b w (inl f))
      (λ b w f. elim (unfolds item last b w f) [ inl g ↦ g | inr g ↦ absurd (none b w g) ])
      bytes (Err left) (then_stops_first item (λ a. Many item (λ items. last (a ∷ items))) (λ a. many_some item (λ items. last (a ∷ items)) (some a)) bytes left s)

  agree : (last : List A → B → List ℕ → Type 0) → ((l : List A) → Apart item (last l)) → ((l : List A) → Unique (last l)) → (is js : List A) (a b : B) (i t k s u v : List ℕ)
      → SpellsAll item is i → SpellsAll item js k → last is a t → last js b s → i ++ (t ++ u) ≡ k ++ (s ++ v) → (a ≡ b) × (i ++ t ≡ k ++ s)
  agree last apart one [] [] a b i t k s u v p q la lb e =
      let e2 : t ++ u ≡ s ++ v = ap (λ w. w ++ (t ++ u)) (sym p) ∙ e ∙ ap (λ w. w ++ (s ++ v)) q in
      let h = (one []).one a b t s u v la lb e2 in
      (h.0, ap (λ w. w ++ t) p ∙ h.1 ∙ ap (λ w. w ++ s) (sym q))
  agree last apart one [] (j ∷ js) a b i t k s u v p q la lb e =
      absurd ((apart []).none j a q.0 t (q.1 ++ (s ++ v)) u q.2 la (sym (append_assoc q.0 q.1 (s ++ v)) ∙ ap (λ w. w ++ (s ++ v)) (sym q.4) ∙ sym e ∙ ap (λ w. w ++ (t ++ u)) p))
  agree last apart one (x ∷ is) [] a b i t k s u v p q la lb e =
      absurd ((apart []).none x b p.0 s (p.1 ++ (t ++ u)) v p.2 lb (sym (append_assoc p.0 p.1 (t ++ u)) ∙ ap (λ w. w ++ (t ++ u)) (sym p.4) ∙ e ∙ ap (λ w. w ++ (s ++ v)) q))
  agree last apart one (x ∷ is) (j ∷ js) a b i t k s u v p q la lb e =
      let e2 : p.0 ++ (p.1 ++ (t ++ u)) ≡ q.0 ++ (q.1 ++ (s ++ v)) =
      sym (append_assoc p.0 p.1 (t ++ u)) ∙ ap (λ w. w ++ (t ++ u)) (sym p.4) ∙ e ∙ ap (λ w. w ++ (s ++ v)) q.4 ∙ append_assoc q.0 q.1 (s ++ v) in
      let h = unique.one x j p.0 q.0 (p.1 ++ (t ++ u)) (q.1 ++ (s ++ v)) p.2 q.2 e2 in
      let e3 : p.1 ++ (t ++ u) ≡ q.1 ++ (s ++ v) = append_cancel_left p.0 (p.1 ++ (t ++ u)) (q.1 ++ (s ++ v)) (e2 ∙ ap (λ w. w ++ (q.1 ++ (s ++ v))) (sym h.1)) in
      let g = agree (λ l. last (x ∷ l)) (λ l. apart (x ∷ l)) (λ l. one (x ∷ l)) is js a b p.1 t q.1 s u v p.3 q.3 la (subst (λ z. last (z ∷ js) b s) (sym h.0) lb) e3 in
      (g.0, ap (λ w. w ++ t) p.4 ∙ append_assoc p.0 p.1 t ∙ ap (λ w. p.0 ++ w) g.1 ∙ ap (λ w. w ++ (q.1 ++ s)) h.1 ∙ sym (append_assoc q.0 q.1 s) ∙ ap (λ w. w ++ s) (sym q.4))

  pub many_unique : (last : List A → B → List ℕ → Type 0) → ((l : List A) → Apart item (last l)) → ((l : List A) → Unique (last l)) → Unique (Many item last)
  many_unique last apart one = record {
    one = λ a b x y u v p q e.
        let h = agree last apart one p.items q.items a b p.inner p.tail q.inner q.tail u v p.spells q.spells p.tails q.tails
        (sym (append_assoc p.inner p.tail u) ∙ ap (λ w. w ++ u) (sym p.at) ∙ e ∙ ap (λ w. w ++ v) q.at ∙ append_assoc q.inner q.tail v) in
        (h.0, p.at ∙ h.1 ∙ sym q.at);
  }

-- ---- the loop that skips items

pub skips_none : {A : Type 0} (item : A → List ℕ → Type 0) (bytes : List ℕ) (left : ℕ) → Stops item bytes left → Skips item bytes [] bytes left
skips_none item bytes left s = record { inner = []; spells = refl; at = refl; stops = s }

pub skips_more : {A : Type 0} (item : A → List ℕ → Type 0) (bytes rest last : List ℕ) (a : A) (items : List A) (left : ℕ) → Begins item bytes a rest → Skips item rest items last left → Skips item bytes (a ∷ items) last left
skips_more item bytes rest last a items left p s = record {
  inner = p.word ++ s.inner;
  spells = (p.word, s.inner, p.spells, s.spells, refl);
  at = p.at ∙ ap (λ w. p.word ++ w) s.at ∙ sym (append_assoc p.word s.inner last);
  stops = s.stops;
}
