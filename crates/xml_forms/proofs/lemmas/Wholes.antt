-- Bodies as wholes.
use Rattle.std.proofs.Common.{◌≡◌, ℕ, ◌+◌, ◌-◌, ◌≤◌, ◌<◌, List, [], ◌∷◌, ◌++◌, length, refl, sym, ◌∙◌, ap, subst, append_assoc, arith, Bool, true, false, take, ◌&&◌, drop, Ok, Err}
use Rattle.std.specs.List.{list_all}
use Rattle.std.proofs.lemmas.List.{append_cancel_left, append-nil, length-append, take-append-drop, length-drop, length-take}
use Rattle.xml_forms.specs.Forms.{Begins, Follows, Stops, Unique}
use Rattle.xml_forms.specs.Bodies.{Whole, OfSome, NotABody, OnlySpaceLeft}
use Rattle.xml_forms.specs.Runs.{has, IsRun}
use Rattle.xml_forms.specs.declared.class.Class.TheVariants.{Space}
use Rattle.xml_forms.proofs.lemmas.Choices.{cut_twice}

pub follows_self : (rest : List ℕ) → Follows rest rest
follows_self [] = refl
follows_self (b ∷ rest) = (rest, refl)

-- a longer front of the bytes, as what was read and what follows
longer_front : (rest m : List ℕ) (more : List ℕ) (back : List ℕ) → rest ≡ m ++ back → 0 < length m → Follows rest (m ++ more)
longer_front rest [] more back e some = absurd (omega arith)
longer_front [] (c ∷ m) more back e some = let h : [] ≡ c ∷ (m ++ back) = e in cc h
longer_front (b ∷ rest) (c ∷ m) more back e some = let h : b ∷ rest ≡ c ∷ (m ++ back) = e in let same : b ≡ c = cc h in (m ++ more, ap (λ x. x ∷ (m ++ more)) (sym same))

taken_front : (front rest : List ℕ) → take (length front) (front ++ rest) ≡ front
taken_front [] rest = refl
taken_front (b ∷ front) rest = ap (λ w. b ∷ w) (taken_front front rest)

both_first : (a b : Bool) → (a && b) ≡ true → a ≡ true
both_first true b e = refl
both_first false b e = e

both_last : (a b : Bool) → (a && b) ≡ true → b ≡ true
both_last true b e = e
both_last false b e = let h : false ≡ true = e in cc h

module _ (body : List ℕ → Type 0) (bytes front rest : List ℕ) (at : bytes ≡ front ++ rest) where
  long : length bytes ≡ length front + length rest
  long = ap length at ∙ length-append front rest

  front_is : take (length bytes - length rest) bytes ≡ front
  front_is = ap (λ n. take n bytes) (omega (arith, long)) ∙ ap (λ w. take (length front) w) at ∙ taken_front front rest

  alive : (more : List ℕ) → body (front ++ more) → body (take (length bytes - length rest) bytes ++ more)
  alive more lives = subst (λ w. body (w ++ more)) {y = take (length bytes - length rest) bytes} (sym front_is) lives

  no_longer : ((next : List ℕ) → Follows rest next → body (front ++ next) → ⊥) → (m : ℕ) (after : List ℕ) → length bytes - length rest < m → m ≤ length bytes → body (take m bytes ++ after) → ⊥
  no_longer dead m after less most b =
      let cut = cut_twice (take m bytes) (drop m bytes) front rest (take-append-drop m bytes ∙ at) (omega (arith, length-drop m bytes, long)) in
      let taken : length (take m bytes) ≡ length front + length cut.0 = ap length cut.1 ∙ length-append front cut.0 in
      dead (cut.0 ++ after) (longer_front rest cut.0 after (drop m bytes) cut.2 (omega (arith, length-take m bytes, taken, long)))
      (subst body (ap (λ w. w ++ after) cut.1 ∙ append_assoc front cut.0 after) b)

  -- where the front is live, and dead with any byte more that follows as the rest does
  pub not_a_body : (more : List ℕ) → body (front ++ more) → ((next : List ℕ) → Follows rest next → body (front ++ next) → ⊥) → NotABody body bytes (length bytes - length rest)
  not_a_body more lives dead = record {
    none = λ b. dead rest (follows_self rest) (subst body at b);
    within = omega arith;
    lives = (more, alive more lives);
    longest = no_longer dead;
  }

module _ {A : Type 0} (form : A → List ℕ → Type 0) where
  abbrev body : List ℕ → Type 0
  body = OfSome (Whole form)

  no_other : (run more : List ℕ) (c : ℕ) → list_all (has Space) (run ++ c ∷ more) ≡ true → has Space c ≡ false → ⊥
  no_other [] more c all fails = let h = both_first (has Space c) (list_all (has Space) more) all in let not_so : false ≡ true = sym fails ∙ h in cc not_so
  no_other (b ∷ run) more c all fails = no_other run more c (both_last (has Space b) (list_all (has Space) (run ++ c ∷ more)) all) fails

  -- where the form can't be read
  pub whole_stops : (bytes : List ℕ) (left : ℕ) → Stops form bytes left → NotABody body bytes (length bytes - left)
  whole_stops bytes left s =
      subst (λ n. NotABody body bytes (length bytes - n)) s.counts
      (not_a_body body bytes s.front s.rest s.at s.more (s.value, record { word = s.front ++ s.more; tail = []; spells = s.lives; spaces = refl; at = sym (append-nil (s.front ++ s.more)) })
      (λ next follows b. s.dead b.0 b.1.word b.1.tail next b.1.spells follows b.1.at))

  other_behind : Unique form → (bytes rest run last : List ℕ) (a : A) (c : ℕ) (us : List ℕ) → Begins form bytes a rest → rest ≡ run ++ last → list_all (has Space) run ≡ true → last ≡ c ∷ us → has Space c ≡ false
      → NotABody body bytes (length bytes - length last)
  other_behind unique bytes rest run last a c us p cut passes is fails =
      not_a_body body bytes (p.word ++ run) last (p.at ∙ ap (λ w. p.word ++ w) cut ∙ sym (append_assoc p.word run last)) []
      (a, record { word = p.word; tail = run; spells = p.spells; spaces = passes; at = append-nil (p.word ++ run) })
      (λ next follows b.
      let e : p.word ++ (run ++ next) ≡ b.1.word ++ b.1.tail = sym (append_assoc p.word run next) ∙ b.1.at in
      let u = unique.one a b.0 p.word b.1.word (run ++ next) b.1.tail p.spells b.1.spells e in
      let t : run ++ next ≡ b.1.tail = append_cancel_left p.word (run ++ next) b.1.tail (e ∙ ap (λ w. w ++ b.1.tail) (sym u.1)) in
      let f : Follows (c ∷ us) next = subst (λ l. Follows l next) is follows in
      no_other run f.0 c (ap (λ w. list_all (has Space) w) (ap (λ w. run ++ w) (sym f.1) ∙ t) ∙ b.1.spaces) fails)

  no_space : (c : ℕ) (last rest run : List ℕ) → IsRun Space (length rest) rest run (c ∷ last) → (b : Bool) → has Space c ≡ b → has Space c ≡ false
  no_space c last rest run r true e = let full = r.closed c last e refl in let d = ap length r.at in absurd (omega (arith, d, full, length-append run (c ∷ last)))
  no_space c last rest run r false e = e

  behind : Unique form → (bytes rest run last : List ℕ) (a : A) → Begins form bytes a rest → IsRun Space (length rest) rest run last → 0 < length last → NotABody body bytes (length bytes - length last)
  behind unique bytes rest run [] a p r some = absurd (omega arith)
  behind unique bytes rest run (c ∷ last) a p r some = other_behind unique bytes rest run (c ∷ last) a c last p r.at r.passes refl (no_space c last rest run r (has Space c) refl)

  -- where something else than white space stands behind it
  pub whole_ends : Unique form → (bytes rest : List ℕ) (a : A) (left : ℕ) → Begins form bytes a rest → OnlySpaceLeft rest (Err left) → NotABody body bytes (length bytes - left)
  whole_ends unique bytes rest a left p e =
      subst (λ n. NotABody body bytes (length bytes - n)) e.3 (behind unique bytes rest e.0 e.1 a p e.2 (subst (λ n. 0 < n) (sym e.3) e.4))

  -- where nothing else does
  pub whole : (bytes rest : List ℕ) (a : A) → Begins form bytes a rest → OnlySpaceLeft rest (Ok tt) → Whole form a bytes
  whole bytes rest a p e = record { word = p.word; tail = rest; spells = p.spells; spaces = e; at = p.at }

-- where it stops, as a reader answers it: so many bytes are left, of those that were there
abbrev pub Stuck : {A : Type 0} → (A → List ℕ → Type 0) → List ℕ → ℕ → Type 0
Stuck form bytes left = (left ≤ length bytes) × NotABody (OfSome (Whole form)) bytes (length bytes - left)

module _ {A : Type 0} (form : A → List ℕ → Type 0) (bytes : List ℕ) where
  stops_within : (left : ℕ) → Stops form bytes left → left ≤ length bytes
  stops_within left s = let e = ap length s.at in omega (arith, e, length-append s.front s.rest, s.counts)

  ends_within : (rest : List ℕ) (a : A) (left : ℕ) → Begins form bytes a rest → OnlySpaceLeft rest (Err left) → left ≤ length bytes
  ends_within rest a left p e =
      let d = ap length p.at in
      let f = ap length e.2.at in
      omega (arith, d, f, length-append p.word rest, length-append e.0 e.1, e.3)

  pub stuck_within : (left : ℕ) → Stops form bytes left → Stuck form bytes left
  stuck_within left s = (stops_within left s, whole_stops form bytes left s)

  pub stuck_behind : Unique form → (rest : List ℕ) (a : A) (left : ℕ) → Begins form bytes a rest → OnlySpaceLeft rest (Err left) → Stuck form bytes left
  stuck_behind unique rest a left p e = (ends_within rest a left p e, whole_ends form unique bytes rest a left p e)
