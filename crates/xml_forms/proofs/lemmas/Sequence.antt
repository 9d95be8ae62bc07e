-- Reading one form after another.
use Rattle.std.proofs.Common.{◌≡◌, ℕ, List, [], ◌∷◌, ◌++◌, length, refl, sym, ◌∙◌, ap, subst, append_assoc}
use Rattle.std.proofs.lemmas.List.{append_cancel_left}
use Rattle.xml_forms.specs.Forms.{Begins, Follows, Stops, Unique, Possible, Word, Then}

module _ {A B : Type 0} (F : A → List ℕ → Type 0) (G : A → B → List ℕ → Type 0) where
  pub then_begins : (bytes rest last : List ℕ) (a : A) (b : B) → Begins F bytes a rest → Begins (G a) rest b last → Begins (Then F G) bytes b last
  then_begins bytes rest last a b p q = record {
    word = p.word ++ q.word;
    spells = record { value = a; head = p.word; tail = q.word; heads = p.spells; tails = q.spells; at = refl };
    at = p.at ∙ ap (λ r. p.word ++ r) q.at ∙ sym (append_assoc p.word q.word last);
  }

  pub then_stops_first : ((a : A) → Possible (G a)) → (bytes : List ℕ) (left : ℕ) → Stops F bytes left → Stops (Then F G) bytes left
  then_stops_first some bytes left s = let i = some s.value in record {
    front = s.front;
    rest = s.rest;
    at = s.at;
    counts = s.counts;
    value = i.value;
    more = s.more ++ i.word;
    lives = record { value = s.value; head = s.front ++ s.more; tail = i.word; heads = s.lives; tails = i.spells; at = sym (append_assoc s.front s.more i.word) };
    dead = λ b word after next f follows e.
        s.dead f.value f.head (f.tail ++ after) next f.heads follows (e ∙ ap (λ w. w ++ after) f.at ∙ append_assoc f.head f.tail after);
  }

  unfoldable pub then_stops : Unique F → (bytes rest : List ℕ) (a : A) (left : ℕ) → Begins F bytes a rest → Stops (G a) rest left → Stops (Then F G) bytes left
  then_stops unique bytes rest a left p s = record {
    front = p.word ++ s.front;
    rest = s.rest;
    at = p.at ∙ ap (λ r. p.word ++ r) s.at ∙ sym (append_assoc p.word s.front s.rest);
    counts = s.counts;
    value = s.value;
    more = s.more;
    lives = record { value = a; head = p.word; tail = s.front ++ s.more; heads = p.spells; tails = s.lives; at = append_assoc p.word s.front s.more };
    dead = λ b word after next f follows e.
        let e2 : p.word ++ (s.front ++ next) ≡ f.head ++ (f.tail ++ after) = sym (append_assoc p.word s.front next) ∙ e ∙ ap (λ w. w ++ after) f.at ∙ append_assoc f.head f.tail after in
        let u = unique.one a f.value p.word f.head (s.front ++ next) (f.tail ++ after) p.spells f.heads e2 in
        s.dead b f.tail after next (subst (λ v. G v b f.tail) (sym u.0) f.tails) follows
        (append_cancel_left p.word (s.front ++ next) (f.tail ++ after) (e2 ∙ ap (λ h. h ++ (f.tail ++ after)) (sym u.1)));
  }

  pub then_unique : Unique F → ((a : A) → Unique (G a)) → Unique (Then F G)
  then_unique first second = record {
    one = λ a b x y u v p q e.
        let e2 : p.head ++ (p.tail ++ u) ≡ q.head ++ (q.tail ++ v) = sym (append_assoc p.head p.tail u) ∙ ap (λ w. w ++ u) (sym p.at) ∙ e ∙ ap (λ w. w ++ v) q.at ∙ append_assoc q.head q.tail v in
        let h = first.one p.value q.value p.head q.head (p.tail ++ u) (q.tail ++ v) p.heads q.heads e2 in
        let t = (second p.value).one a b p.tail q.tail u v p.tails (subst (λ w. G w b q.tail) (sym h.0) q.tails)
        (append_cancel_left p.head (p.tail ++ u) (q.tail ++ v) (e2 ∙ ap (λ w. w ++ (q.tail ++ v)) (sym h.1))) in
        (t.0, p.at ∙ ap (λ w. w ++ p.tail) h.1 ∙ ap (λ w. q.head ++ w) t.1 ∙ sym q.at);
  }

  pub then_some : Possible F → ((a : A) → Possible (G a)) → Possible (Then F G)
  then_some f g = let i = g f.value in record { value = i.value; word = f.word ++ i.word; spells = record { value = f.value; head = f.word; tail = i.word; heads = f.spells; tails = i.spells; at = refl } }

pub word_unique : (w : List ℕ) → Unique (Word w)
word_unique w = record { one = λ a b x y u v p q e. (refl, p ∙ sym q) }

-- what follows as rest does can't begin with a byte with which rest doesn't begin
pub other : (rest next : List ℕ) (c : ℕ) (cs : List ℕ) → Follows rest next → ((us : List ℕ) → rest ≡ c ∷ us → ⊥) → next ≡ c ∷ cs → ⊥
other [] next c cs follows apart e = let h : [] ≡ c ∷ cs = sym follows ∙ e in cc h
other (b ∷ rest) next c cs follows apart e =
    let h : b ∷ follows.0 ≡ c ∷ cs = sym follows.1 ∙ e in
    let same : b ≡ c = cc h in
    apart rest (ap (λ x. x ∷ rest) same)

-- a word that is broken off
pub word_stops : (w front rest ws : List ℕ) (c : ℕ) (bytes : List ℕ) → bytes ≡ front ++ rest → w ≡ front ++ c ∷ ws → ((us : List ℕ) → rest ≡ c ∷ us → ⊥) → Stops (Word w) bytes (length rest)
word_stops w front rest ws c bytes at is apart = record {
  front = front;
  rest = rest;
  at = at;
  counts = refl;
  value = tt;
  more = c ∷ ws;
  lives = sym is;
  dead = λ a word after next f follows e.
      other rest next c (ws ++ after) follows apart (append_cancel_left front next ((c ∷ ws) ++ after) (e ∙ ap (λ x. x ++ after) (f ∙ is) ∙ append_assoc front (c ∷ ws) after));
}
