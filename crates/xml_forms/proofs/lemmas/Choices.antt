-- Reading one form or another.
use Rattle.std.proofs.Common.{◌≡◌, ℕ, ◌≤◌, suc, inl, inr, List, [], ◌∷◌, ◌++◌, length, refl, sym, ◌∙◌, ap, subst, append_assoc, arith, ◌≢◌}
use Rattle.std.proofs.lemmas.List.{append_cancel_left, length-append}
use Rattle.xml_forms.specs.Forms.{Begins, Follows, Stops, Unique, Apart, Either, Then}

-- of two ways to cut a list the one with less behind it has more before it
pub cut_twice : (a b c d : List ℕ) → a ++ b ≡ c ++ d → length b ≤ length d → (m : List ℕ) × (a ≡ c ++ m) × (d ≡ m ++ b)
cut_twice a b [] d e le = (a, refl, sym e)
cut_twice [] b (y ∷ c) d e le =
    let h : length b ≡ suc (length (c ++ d)) = ap length e in
    absurd (omega (arith, length-append c d))
cut_twice (x ∷ a) b (y ∷ c) d e le =
    let h : x ∷ (a ++ b) ≡ y ∷ (c ++ d) = e in
    let same_byte : x ≡ y = cc h in
    let rest : a ++ b ≡ c ++ d = cc h in
    let r = cut_twice a b c d rest le in
    (r.0, (λ i. same_byte i ∷ r.1 i), r.2)

-- what follows as the shorter rest does, with the bytes before it, follows as the longer one does
follows_longer : (m rest long next : List ℕ) → long ≡ m ++ rest → Follows rest next → Follows long (m ++ next)
follows_longer [] rest long next e follows = subst (λ l. Follows l next) (sym e) follows
follows_longer (c ∷ m) rest long next e follows = subst (λ l. Follows l (c ∷ (m ++ next))) (sym e) (m ++ next, refl)

module _ {A : Type 0} (F G : A → List ℕ → Type 0) where
  -- the one that gets further leaves less, and stops where both do
  pub either_stops_first : (bytes : List ℕ) (left most : ℕ) → left ≤ most → Stops F bytes left → Stops G bytes most → Stops (Either F G) bytes left
  either_stops_first bytes left most le s t =
      let m = cut_twice s.front s.rest t.front t.rest (sym s.at ∙ t.at) (omega (arith, s.counts, t.counts)) in
      record {
        front = s.front;
        rest = s.rest;
        at = s.at;
        counts = s.counts;
        value = s.value;
        more = s.more;
        lives = inl s.lives;
        dead = λ a word after next f follows e. elim f [
          | inl p ↦ s.dead a word after next p follows e
          | inr q ↦ t.dead a word after (m.0 ++ next) q (follows_longer m.0 s.rest t.rest next m.2 follows) (sym (append_assoc t.front m.0 next) ∙ ap (λ w. w ++ next) (sym m.1) ∙ e)
        ];
      }

  pub either_stops_second : (bytes : List ℕ) (most left : ℕ) → left ≤ most → Stops F bytes most → Stops G bytes left → Stops (Either F G) bytes left
  either_stops_second bytes most left le t s =
      let m = cut_twice s.front s.rest t.front t.rest (sym s.at ∙ t.at) (omega (arith, s.counts, t.counts)) in
      record {
        front = s.front;
        rest = s.rest;
        at = s.at;
        counts = s.counts;
        value = s.value;
        more = s.more;
        lives = inr s.lives;
        dead = λ a word after next f follows e. elim f [
          | inr p ↦ s.dead a word after next p follows e
          | inl q ↦ t.dead a word after (m.0 ++ next) q (follows_longer m.0 s.rest t.rest next m.2 follows) (sym (append_assoc t.front m.0 next) ∙ ap (λ w. w ++ next) (sym m.1) ∙ e)
        ];
      }

  pub begins_left : (bytes rest : List ℕ) (a : A) → Begins F bytes a rest → Begins (Either F G) bytes a rest
  begins_left bytes rest a p = record { word = p.word; spells = inl p.spells; at = p.at }

  pub begins_right : (bytes rest : List ℕ) (a : A) → Begins G bytes a rest → Begins (Either F G) bytes a rest
  begins_right bytes rest a p = record { word = p.word; spells = inr p.spells; at = p.at }

  pub either_unique : Unique F → Unique G → Apart F G → Unique (Either F G)
  either_unique f g apart = record {
    one = λ a b x y u v p q e. elim p [
      | inl p1 ↦ elim q [ inl q1 ↦ f.one a b x y u v p1 q1 e | inr q2 ↦ absurd (apart.none a b x y u v p1 q2 e) ]
      | inr p2 ↦ elim q [ inl q1 ↦ absurd (apart.none b a y x v u q1 p2 (sym e)) | inr q2 ↦ g.one a b x y u v p2 q2 e ]
    ];
  }

-- each spelling begins with these bytes
pub record Heads {A : Type 0} (form : A → List ℕ → Type 0) (head : List ℕ) : Type 0 where
  pub at : (a : A) (word : List ℕ) → form a word → (tail : List ℕ) × (word ≡ head ++ tail)

places : (common : List ℕ) (c : ℕ) (s i u : List ℕ) → ((common ++ c ∷ s) ++ i) ++ u ≡ common ++ (c ∷ (s ++ (i ++ u)))
places common c s i u = append_assoc (common ++ c ∷ s) i u ∙ append_assoc common (c ∷ s) (i ++ u)

-- forms whose spellings differ at one place are apart
pub heads_apart : {A B : Type 0} (f : A → List ℕ → Type 0) (g : B → List ℕ → Type 0) (common s t : List ℕ) (c d : ℕ) → Heads f (common ++ c ∷ s) → Heads g (common ++ d ∷ t) → c ≢ d → Apart f g
heads_apart f g common s t c d hf hg differ = record {
  none = λ a b x y u v p q e.
      let i = hf.at a x p in
      let j = hg.at b y q in
      let h : c ∷ (s ++ (i.0 ++ u)) ≡ d ∷ (t ++ (j.0 ++ v)) = append_cancel_left common (c ∷ (s ++ (i.0 ++ u))) (d ∷ (t ++ (j.0 ++ v))) (sym (places common c s i.0 u) ∙ ap (λ w. w ++ u) (sym i.1) ∙ e ∙ ap (λ w. w ++ v) j.1 ∙ places common d t j.0 v) in
      differ (cc h);
}

pub then_heads : {A B : Type 0} (F : A → List ℕ → Type 0) (G : A → B → List ℕ → Type 0) (head : List ℕ) → Heads F head → Heads (Then F G) head
then_heads F G head h = record { at = λ b word f. let i = h.at f.value f.head f.heads in (i.0 ++ f.tail, f.at ∙ ap (λ w. w ++ f.tail) i.1 ∙ append_assoc head i.0 f.tail) }
