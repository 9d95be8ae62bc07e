-- Elements.
use Rattle.std.proofs.Common.{◌≡◌, ◌==◌, ℕ, ◌≤◌, List, [], ◌∷◌, ◌++◌, length, refl, sym, ◌∙◌, ap, true, false, arith, suc, ◌+◌, Bool, Option, Some, None, unwrap_or, ◌&&◌, subst}
use Rattle.std.proofs.lemmas.Bool.Decides.{nat_tests}
use Rattle.std.proofs.lemmas.List.{length-append}
use Rattle.xml_forms.specs.Forms.{Begins, Stops, Unique, Possible, Word, Exactly, RunThen, Opens}
use Rattle.xml_forms.specs.Runs.{has, Sized, IsShort, IsFilled, Element, IsRun, IsPositive}
use Rattle.xml_forms.specs.declared.class.Class.{Class}
use Rattle.xml_forms.specs.declared.class.Class.TheVariants.{Space, Digit, HexDigit, LetterOrDigit, Dashed, Text, InText, InDouble, InSingle}
use Rattle.xml_forms.proofs.lemmas.Sequence.{then_begins, then_stops_first, then_stops, then_unique, word_unique}
use Rattle.xml_forms.proofs.lemmas.Runs.{Closed, ran_begins, ran_stops, ran_short, ran_unique}

pub exactly_begins : {A : Type 0} (v : A) (w bytes rest : List ℕ) → Begins (Word w) bytes tt rest → Begins (Exactly v w) bytes v rest
exactly_begins v w bytes rest p = record { word = p.word; spells = (refl, p.spells); at = p.at }

pub exactly_stops : {A : Type 0} (v : A) (w bytes : List ℕ) (left : ℕ) → Stops (Word w) bytes left → Stops (Exactly v w) bytes left
exactly_stops v w bytes left s = record {
  front = s.front;
  rest = s.rest;
  at = s.at;
  counts = s.counts;
  value = v;
  more = s.more;
  lives = (refl, s.lives);
  dead = λ a word after next f follows e. s.dead tt word after next f.1 follows e;
}

pub exactly_unique : {A : Type 0} (v : A) (w : List ℕ) → Unique (Exactly v w)
exactly_unique v w = record { one = λ a b x y u z p q e. (p.0 ∙ sym q.0, p.1 ∙ sym q.1) }

-- a run that takes all that it may
pub closed_run : (class : Class) (filled : Bool) (most : Option ℕ) (bytes run rest : List ℕ) → IsRun class (unwrap_or most (length bytes)) bytes run rest → Closed (has class) (Sized filled most) run rest
closed_run class filled None bytes run rest r = record {
  ends = λ c cs us t ok e.
      let long : length bytes ≡ length run + length rest = ap length r.at ∙ length-append run rest in
      let some : length rest ≡ suc (length us) = ap length e in
      let full = r.closed c us t e in
      omega (arith, full);
}
closed_run class filled (Some most) bytes run rest r = record {
  ends = λ c cs us t ok e.
      let long : length (run ++ c ∷ cs) ≡ length run + suc (length cs) = length-append run (c ∷ cs) in
      let full = r.closed c us t e in
      let short : length (run ++ c ∷ cs) ≤ most = ok.is_short in
      omega (arith, full);
}

sized_run : (class : Class) (filled : Bool) (most : Option ℕ) (bytes run rest : List ℕ) → IsFilled filled run → IsRun class (unwrap_or most (length bytes)) bytes run rest → Sized filled most run
sized_run class filled None bytes run rest full r = record { is_filled = full; is_short = tt }
sized_run class filled (Some most) bytes run rest full r = record { is_filled = full; is_short = r.within }

-- a byte of each class
sample : Class → ℕ
sample Space = 32
sample Digit = 48
sample HexDigit = 48
sample LetterOrDigit = 97
sample Dashed = 97
sample Text = 97
sample InText = 97
sample InDouble = 97
sample InSingle = 97

sample_has : (class : Class) → has class (sample class) ≡ true
unfolding sample
sample_has Space = refl
sample_has Digit = refl
sample_has HexDigit = refl
sample_has LetterOrDigit = refl
sample_has Dashed = refl
sample_has Text = refl
sample_has InText = refl
sample_has InDouble = refl
sample_has InSingle = refl

one_short : (most : Option ℕ) (b : ℕ) → IsPositive most → IsShort most (b ∷ [])
one_short None b p = tt
one_short (Some n) b p = omega arith

-- a run of one byte is of every such length
pub one_sized : (filled : Bool) (most : Option ℕ) (b : ℕ) → IsPositive most → Sized filled most (b ∷ [])
one_sized true most b p = record { is_filled = omega arith; is_short = one_short most b p }
one_sized false most b p = record { is_filled = tt; is_short = one_short most b p }

module _ (class : Class) (filled : Bool) (most : Option ℕ) (positive : IsPositive most) (end : List ℕ) (ends : (c : ℕ) × (cs : List ℕ) × (end ≡ c ∷ cs) × (has class c ≡ false)) where
  ends_open : (r : List ℕ) → Opens (has class) (Exactly r end)
  ends_open r = record { at = λ b word f. (ends.0, ends.1, f.1 ∙ ends.2, ends.3) }

  pub text_some : Possible (RunThen (has class) (Sized filled most) (λ run. Exactly run end))
  text_some =
      let b = sample class in
      record {
        value = b ∷ [];
        word = b ∷ end;
        spells = record { run = b ∷ []; tail = end; passes = ap (λ t. t && true) (sample_has class); is_allowed = one_sized filled most b positive; tails = (refl, refl); at = refl };
      }

  pub element_breaks : (start bytes : List ℕ) (left : ℕ) → Stops (Word start) bytes left → Stops (Element start class filled most end) bytes left
  element_breaks start bytes left s = then_stops_first (Word start) (λ u. RunThen (has class) (Sized filled most) (λ run. Exactly run end)) (λ u. text_some) bytes left s

  pub element_empty : (start bytes rest text last : List ℕ) → filled ≡ true → Begins (Word start) bytes tt rest → IsRun class (unwrap_or most (length rest)) rest text last → text ≡ [] → Stops (Element start class filled most end) bytes (length last)
  element_empty start bytes rest text last is p r e =
      then_stops (Word start) (λ u. RunThen (has class) (Sized filled most) (λ run. Exactly run end)) (word_unique start) bytes rest tt (length last) p
      (subst (λ n. Stops (RunThen (has class) (Sized filled most) (λ run. Exactly run end)) rest n) (ap length (r.at ∙ ap (λ t. t ++ last) e))
      (ran_short (has class) (Sized filled most) (λ run. Exactly run end) ends_open rest text_some
      (λ ok. let h : IsFilled true [] = subst (λ f. IsFilled f []) is ok.is_filled in absurd (omega arith))
      (λ c us t h. (closed_run class filled most rest text last r).ends c [] us t (subst (λ t. Sized filled most (t ++ c ∷ [])) (sym e) (one_sized filled most c positive)) (sym (ap (λ t. t ++ last) e) ∙ sym r.at ∙ h))))

  pub element_stops : (start bytes rest text last : List ℕ) (left : ℕ) → IsFilled filled text → Begins (Word start) bytes tt rest → IsRun class (unwrap_or most (length rest)) rest text last → Stops (Word end) last left → Stops (Element start class filled most end) bytes left
  element_stops start bytes rest text last left full p r s =
      then_stops (Word start) (λ u. RunThen (has class) (Sized filled most) (λ run. Exactly run end)) (word_unique start) bytes rest tt left p
      (ran_stops (has class) (Sized filled most) (λ run. Exactly run end) ends_open rest text last left r.at r.passes (sized_run class filled most rest text last full r) (closed_run class filled most rest text last r)
      (exactly_stops text end last left s))

  pub element_begins : (start bytes rest text last after : List ℕ) → IsFilled filled text → Begins (Word start) bytes tt rest → IsRun class (unwrap_or most (length rest)) rest text last → Begins (Word end) last tt after → Begins (Element start class filled most end) bytes text after
  element_begins start bytes rest text last after full p r q =
      then_begins (Word start) (λ u. RunThen (has class) (Sized filled most) (λ run. Exactly run end)) bytes rest after tt text p
      (ran_begins (has class) (Sized filled most) (λ run. Exactly run end) ends_open rest text last after text r.at r.passes (sized_run class filled most rest text last full r) (exactly_begins text end last after q))

  pub element_unique : (start : List ℕ) → Unique (Element start class filled most end)
  element_unique start = then_unique (Word start) (λ u. RunThen (has class) (Sized filled most) (λ run. Exactly run end)) (word_unique start)
      (λ u. ran_unique (has class) (Sized filled most) (λ run. Exactly run end) ends_open (λ r. exactly_unique r end))

-- what a test before says of a run
pub filled_by : (filled : Bool) (run : List ℕ) → (filled ≡ true → length run ≡ 0 → ⊥) → IsFilled filled run
filled_by true [] h = absurd (h refl refl)
filled_by true (b ∷ run) h = omega arith
filled_by false run h = tt

pub no_bytes : (run : List ℕ) → length run ≡ 0 → run ≡ []
no_bytes [] h = refl
no_bytes (b ∷ run) h = absurd (omega (arith, h))

-- what a test for emptiness says
pub is_zero : (n : ℕ) → true ≡ (n == 0) → n ≡ 0
is_zero n h = grind (arith, nat_tests)

pub not_zero : (n : ℕ) → false ≡ (n == 0) → n ≡ 0 → ⊥
not_zero n h e = let not_so : true ≡ false = ap (λ m. m == 0) (sym e) ∙ sym h in cc not_so
