-- Readers made of readers.
use Rattle.std.proofs.Common.{◌≡◌, ℕ, ◌≤◌, ◌<◌, ◌⊎◌, inl, inr, List, [], ◌∷◌, ◌++◌, length, min, refl, append_assoc, sym, ◌∙◌, ap, subst, false, Result, Ok, Err, Bor, None, arith}
use Rattle.std.proofs.Math.Nat.{min-eq_left, min-eq_right}
use Rattle.std.proofs.lemmas.Bool.{cases_lt}
use Rattle.std.proofs.lemmas.List.{append-nil, length-append}
use Rattle.xml_forms.specs.Forms.{Begins, Stops, Reads, Either, Then, Word, Exactly, RunThen, Unique, Apart, Possible, Opens, nearer}
use Rattle.xml_forms.specs.Readers.{read_by, rest_read}
use Rattle.xml_forms.specs.Runs.{has, IsRun, Sized, Spaced}
use Rattle.xml_forms.specs.declared.class.Class.{Class}
use Rattle.xml_forms.specs.declared.class.Class.TheVariants.{Space}
use Rattle.xml_forms.proofs.lemmas.Sequence.{then_begins, then_stops}
use Rattle.xml_forms.proofs.lemmas.Runs.{ran_begins, ran_stops, ran_unique}
use Rattle.xml_forms.proofs.lemmas.Choices.{begins_left, begins_right, cut_twice, either_stops_first, either_stops_second, Heads}
use Rattle.xml_forms.proofs.lemmas.Elements.{closed_run}

least_of : (l m : ℕ) → ((l ≤ m) × (min l m ≡ l)) ⊎ ((m ≤ l) × (min l m ≡ m))
least_of l m = elim (cases_lt l m) [ inl h ↦ let le : l ≤ m = omega arith in inl (le, min-eq_left le) | inr h ↦ inr (h, min-eq_right h) ]

module _ {A : Type 0} (F G : A → List ℕ → Type 0) (bytes : List ℕ) where
  both_stop : (l m : ℕ) → ((l ≤ m) × (min l m ≡ l)) ⊎ ((m ≤ l) × (min l m ≡ m)) → Stops F bytes l → Stops G bytes m → Stops (Either F G) bytes (min l m)
  both_stop l m (inl h) p q = subst (λ n. Stops (Either F G) bytes n) (sym h.1) (either_stops_first F G bytes l m h.0 p q)
  both_stop l m (inr h) p q = subst (λ n. Stops (Either F G) bytes n) (sym h.1) (either_stops_second F G bytes l m h.0 p q)

  pub either_reads : (r s : Result (A × List ℕ) ℕ) → Reads F bytes r → Reads G bytes s → Reads (Either F G) bytes (nearer r s)
  either_reads (Ok x) s p q = begins_left F G bytes x.1 x.0 p
  either_reads (Err l) (Ok y) p q = begins_right F G bytes y.1 y.0 q
  either_reads (Err l) (Err m) p q = both_stop l m (least_of l m) p q

nearer_read : {X A : Type 0} (value : X → A) (r s : Result (X × Bor (List ℕ)) ℕ) → nearer (read_by value r) (read_by value s) ≡ read_by value (nearer r s)
nearer_read value (Ok x) s = refl
nearer_read value (Err l) (Ok y) = refl
nearer_read value (Err l) (Err m) = refl

-- two attempts, of which the nearer one is taken
pub nearer_by : {X A : Type 0} (value : X → A) (F G : A → List ℕ → Type 0) (bytes : List ℕ) (r s n : Result (X × Bor (List ℕ)) ℕ) → n ≡ nearer r s
    → Reads F bytes (read_by value r) → Reads G bytes (read_by value s) → Reads (Either F G) bytes (read_by value n)
nearer_by value F G bytes r s n e p q =
    subst (λ x. Reads (Either F G) bytes x) (nearer_read value r s ∙ ap (read_by value) (sym e)) (either_reads F G bytes (read_by value r) (read_by value s) p q)

-- a reader of which an attempt before it got so far
pub nearer_than : {X A : Type 0} (value : X → A) (F : A → List ℕ → Type 0) (bytes : List ℕ) (left : ℕ) (r n : Result (X × Bor (List ℕ)) ℕ) → n ≡ nearer (Err left) r
    → Reads F bytes (nearer (Err left) (read_by value r)) → Reads F bytes (read_by value n)
nearer_than value F bytes left r n e p = subst (λ x. Reads F bytes x) (nearer_read value (Err left) r ∙ ap (read_by value) (sym e)) p

nearer_rest_read : (r s : Result (Bor (List ℕ)) ℕ) → nearer (rest_read r) (rest_read s) ≡ rest_read (nearer r s)
nearer_rest_read (Ok x) s = refl
nearer_rest_read (Err l) (Ok y) = refl
nearer_rest_read (Err l) (Err m) = refl

pub nearer_rest : (F G : Unit {0} → List ℕ → Type 0) (bytes : List ℕ) (r s n : Result (Bor (List ℕ)) ℕ) → n ≡ nearer r s
    → Reads F bytes (rest_read r) → Reads G bytes (rest_read s) → Reads (Either F G) bytes (rest_read n)
nearer_rest F G bytes r s n e p q =
    subst (λ x. Reads (Either F G) bytes x) (nearer_rest_read r s ∙ ap rest_read (sym e)) (either_reads F G bytes (rest_read r) (rest_read s) p q)

pub any_run : (run : List ℕ) → Sized false None run
any_run run = record { is_filled = tt; is_short = tt }

-- a form behind another
pub then_reads : {A B : Type 0} (F : A → List ℕ → Type 0) (G : A → B → List ℕ → Type 0) → Unique F → (bytes rest : List ℕ) (a : A) → Begins F bytes a rest
    → (r : Result (B × List ℕ) ℕ) → Reads (G a) rest r → Reads (Then F G) bytes r
then_reads F G unique bytes rest a p (Ok x) q = then_begins F G bytes rest x.1 a x.0 p q
then_reads F G unique bytes rest a p (Err left) s = then_stops F G unique bytes rest a left p s

-- a choice that is made by the first form of a sequence
module _ {A B : Type 0} (F : A → List ℕ → Type 0) (G : A → B → List ℕ → Type 0) (H : B → List ℕ → Type 0) (unique : Unique F) (apart : Apart F H) where
  chosen_stops : (bytes rest : List ℕ) (a : A) (left : ℕ) → Begins F bytes a rest → Stops (G a) rest left → Stops (Either (Then F G) H) bytes left
  unfolding then_stops
  chosen_stops bytes rest a left p s =
      let t = then_stops F G unique bytes rest a left p s in
      record {
        front = p.word ++ s.front;
        rest = s.rest;
        at = t.at;
        counts = s.counts;
        value = s.value;
        more = s.more;
        lives = inl t.lives;
        dead = λ b word after next f follows e. elim f [
          | inl q ↦ t.dead b word after next q follows e
          | inr q ↦ apart.none a b p.word word (s.front ++ next) after p.spells q (sym (append_assoc p.word s.front next) ∙ e)
        ];
      }

  pub chosen_reads : (bytes rest : List ℕ) (a : A) → Begins F bytes a rest → (r : Result (B × List ℕ) ℕ) → Reads (G a) rest r → Reads (Either (Then F G) H) bytes r
  chosen_reads bytes rest a p (Ok x) q = begins_left (Then F G) H bytes x.1 x.0 (then_begins F G bytes rest x.1 a x.0 p q)
  chosen_reads bytes rest a p (Err left) s = chosen_stops bytes rest a left p s

-- where one of two forms that are apart begins, the other stops within it
pub apart_within : {A B : Type 0} (F : A → List ℕ → Type 0) (G : B → List ℕ → Type 0) → Apart F G → (bytes rest : List ℕ) (b : B) (left : ℕ) → Stops F bytes left → Begins G bytes b rest
    → length rest ≤ left
apart_within F G apart bytes rest b left s p = elim (cases_lt left (length rest)) [
  | inl less ↦
      let m = cut_twice s.front s.rest p.word rest (sym s.at ∙ p.at) (omega (arith, s.counts)) in
      absurd (apart.none s.value b (s.front ++ s.more) p.word [] (m.0 ++ s.more) s.lives p.spells
      (append-nil (s.front ++ s.more) ∙ ap (λ w. w ++ s.more) m.1 ∙ append_assoc p.word m.0 s.more))
  | inr within ↦ within
]

-- an attempt that got no further than another
pub nearer_past : {T : Type 0} (left : ℕ) (r : Result T ℕ) → ((n : ℕ) → r ≡ Err n → n ≤ left) → nearer (Err left) r ≡ r
nearer_past left (Ok x) h = refl
nearer_past left (Err n) h = ap (λ m. Err m) (min-eq_right (h n refl))

-- a form behind the longest run of a class
pub run_reads : {B : Type 0} (class : Class) (G : List ℕ → B → List ℕ → Type 0) → ((run : List ℕ) → Opens (has class) (G run)) → (bytes run rest : List ℕ)
    → IsRun class (length bytes) bytes run rest → (r : Result (B × List ℕ) ℕ) → Reads (G run) rest r → Reads (RunThen (has class) (Sized false None) G) bytes r
run_reads class G opens bytes run rest is (Ok x) p = ran_begins (has class) (Sized false None) G opens bytes run rest x.1 x.0 is.at is.passes (any_run run) p
run_reads class G opens bytes run rest is (Err left) s =
    ran_stops (has class) (Sized false None) G opens bytes run rest left is.at is.passes (any_run run) (closed_run class false None bytes run rest is) s

-- white space before a form
pub spaced_reads : {B : Type 0} (F : B → List ℕ → Type 0) → Opens (has Space) F → (bytes run rest : List ℕ) → IsRun Space (length bytes) bytes run rest
    → (r : Result (B × List ℕ) ℕ) → Reads F rest r → Reads (Spaced F) bytes r
spaced_reads F opens = run_reads Space (λ _. F) (λ _. opens)

-- ---- how spellings begin

pub word_heads : (w : List ℕ) → Heads (Word w) w
word_heads w = record { at = λ a word f. ([], f ∙ sym (append-nil w)) }

pub exactly_heads : {A : Type 0} (v : A) (w : List ℕ) → Heads (Exactly v w) w
exactly_heads v w = record { at = λ a word f. ([], f.1 ∙ sym (append-nil w)) }

-- a form whose spellings begin with `<` may stand behind white space
pub opens_heads : {B : Type 0} (F : B → List ℕ → Type 0) (t : List ℕ) → Heads F (60 ∷ t) → Opens (has Space) F
opens_heads F t h = record { at = λ b word f. let i = h.at b word f in (60, t ++ i.0, i.1, refl) }

pub either_opens : {B : Type 0} (F G : B → List ℕ → Type 0) → Opens (has Space) F → Opens (has Space) G → Opens (has Space) (Either F G)
either_opens F G f g = record { at = λ b word p. elim p [ inl x ↦ f.at b word x | inr y ↦ g.at b word y ] }

pub apart_either : {A B : Type 0} (F : A → List ℕ → Type 0) (G H : B → List ℕ → Type 0) → Apart F G → Apart F H → Apart F (Either G H)
apart_either F G H g h = record { none = λ a b x y u v p q e. elim q [ inl s ↦ g.none a b x y u v p s e | inr s ↦ h.none a b x y u v p s e ] }

-- a form behind white space takes a byte at least
pub spaced_shorter : {B : Type 0} (F : B → List ℕ → Type 0) → Opens (has Space) F → (bytes rest : List ℕ) (b : B) → Begins (Spaced F) bytes b rest → length rest < length bytes
spaced_shorter F opens bytes rest b p =
    let f = p.spells in
    let o = opens.at b f.tail f.tails in
    let at = ap length p.at in
    let word = ap length f.at in
    let tail = ap length o.2 in
    omega (arith, at, word, tail, length-append p.word rest, length-append f.run f.tail)

pub spaced_unique : {B : Type 0} (F : B → List ℕ → Type 0) → Opens (has Space) F → Unique F → Unique (Spaced F)
spaced_unique F opens unique = ran_unique (has Space) (Sized false None) (λ _. F) (λ _. opens) (λ _. unique)

pub spaced_some : {B : Type 0} (F : B → List ℕ → Type 0) → Possible F → Possible (Spaced F)
spaced_some F some = record { value = some.value; word = some.word; spells = record { run = []; tail = some.word; passes = refl; is_allowed = any_run []; tails = some.spells; at = refl } }

-- ---- a word that stands for a value

abbrev pub with_value : {A : Type 0} → A → Result (Unit {0} × List ℕ) ℕ → Result (A × List ℕ) ℕ
with_value v (Ok x) = Ok (v, x.1)
with_value v (Err left) = Err left

pub spaced_exactly : {A : Type 0} (v : A) (w bytes : List ℕ) (r : Result (Unit {0} × List ℕ) ℕ) → Reads (Spaced (Word w)) bytes r → Reads (Spaced (Exactly v w)) bytes (with_value v r)
spaced_exactly v w bytes (Ok x) p = record {
  word = p.word;
  at = p.at;
  spells = record { run = p.spells.run; tail = p.spells.tail; passes = p.spells.passes; is_allowed = p.spells.is_allowed; tails = (refl, p.spells.tails); at = p.spells.at };
}
spaced_exactly v w bytes (Err left) s = record {
  front = s.front;
  rest = s.rest;
  at = s.at;
  counts = s.counts;
  value = v;
  more = s.more;
  lives = record { run = s.lives.run; tail = s.lives.tail; passes = s.lives.passes; is_allowed = s.lives.is_allowed; tails = (refl, s.lives.tails); at = s.lives.at };
  dead = λ a word after next f follows e.
      s.dead tt word after next (record { run = f.run; tail = f.tail; passes = f.passes; is_allowed = f.is_allowed; tails = f.tails.1; at = f.at }) follows e;
}

pub nearer_value : {A : Type 0} (v : A) (left : ℕ) (r : Result (Unit {0} × List ℕ) ℕ) → nearer (Err left) (with_value v r) ≡ with_value v (nearer (Err left) r)
nearer_value v left (Ok x) = refl
nearer_value v left (Err l) = refl
