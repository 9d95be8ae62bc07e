-- Reading a run of bytes, and a form behind it.
use Rattle.std.proofs.Common.{◌≡◌, ℕ, List, [], ◌∷◌, ◌++◌, length, refl, sym, ◌∙◌, ap, subst, append_assoc, Bool, true, false, ◌&&◌}
use Rattle.std.proofs.lemmas.List.{append_cancel_left}
use Rattle.std.specs.List.{list_all}
use Rattle.xml_forms.specs.Forms.{Begins, Follows, Stops, Unique, Possible, RunThen, Opens}

-- two runs at the front of one list are the same, where other bytes stand behind them, or the second goes on where the first ends
pub data Meets (test : ℕ → Bool) (r s z : List ℕ) : Type 0 where
  same : r ≡ s → Meets test r s z
  longer : (c : ℕ) (cs us : List ℕ) → s ≡ r ++ c ∷ cs → test c ≡ true → z ≡ c ∷ us → Meets test r s z

both_true : (a b : Bool) → (a && b) ≡ true → (a ≡ true) × (b ≡ true)
both_true true b e = (refl, e)
both_true false b e = let h : false ≡ true = e in cc h

more_meets : (test : ℕ → Bool) (c d : ℕ) (r s z : List ℕ) → c ≡ d → Meets test r s z → Meets test (c ∷ r) (d ∷ s) z
more_meets test c d r s z e (same h) = same (λ i. e i ∷ h i)
more_meets test c d r s z e (longer x cs us h t w) = longer x cs us (λ i. sym e i ∷ h i) t w

pub runs_meet : (test : ℕ → Bool) (r s z w : List ℕ) (d : ℕ) → list_all test r ≡ true → list_all test s ≡ true → test d ≡ false → r ++ z ≡ s ++ d ∷ w → Meets test r s z
runs_meet test [] [] z w d pr ps fails e = same refl
runs_meet test [] (c ∷ s) z w d pr ps fails e = longer c s (s ++ d ∷ w) refl (both_true (test c) (list_all test s) ps).0 e
runs_meet test (c ∷ r) [] z w d pr ps fails e =
    let h : c ∷ (r ++ z) ≡ d ∷ w = e in
    let same_byte : c ≡ d = cc h in
    let t : true ≡ false = sym (both_true (test c) (list_all test r) pr).0 ∙ ap test same_byte ∙ fails in
    cc t
runs_meet test (c ∷ r) (b ∷ s) z w d pr ps fails e =
    let h : c ∷ (r ++ z) ≡ b ∷ (s ++ d ∷ w) = e in
    let same_byte : c ≡ b = cc h in
    let rest : r ++ z ≡ s ++ d ∷ w = cc h in
    more_meets test c b r s z same_byte (runs_meet test r s z w d (both_true (test c) (list_all test r) pr).1 (both_true (test b) (list_all test s) ps).1 fails rest)

-- what was read and what follows begin as what was there
pub opening : (front rest next : List ℕ) (c : ℕ) (us : List ℕ) → Follows rest next → front ++ next ≡ c ∷ us → (vs : List ℕ) × (front ++ rest ≡ c ∷ vs)
opening [] [] next c us follows e = let h : [] ≡ c ∷ us = sym follows ∙ e in cc h
opening [] (b ∷ rest) next c us follows e =
    let h : b ∷ follows.0 ≡ c ∷ us = sym follows.1 ∙ e in
    let same_byte : b ≡ c = cc h in
    (rest, ap (λ x. x ∷ rest) same_byte)
opening (b ∷ front) rest next c us follows e =
    let h : b ∷ (front ++ next) ≡ c ∷ us = e in
    let same_byte : b ≡ c = cc h in
    (front ++ rest, ap (λ x. x ∷ (front ++ rest)) same_byte)

-- no longer run than this is allowed there
pub record Closed (test : ℕ → Bool) (allowed : List ℕ → Type 0) (run rest : List ℕ) : Type 0 where
  pub ends : (c : ℕ) (cs us : List ℕ) → test c ≡ true → allowed (run ++ c ∷ cs) → rest ≡ c ∷ us → ⊥

module _ {B : Type 0} (test : ℕ → Bool) (allowed : List ℕ → Type 0) (G : List ℕ → B → List ℕ → Type 0) (opens : (r : List ℕ) → Opens test (G r)) where
  -- a run that meets one of the form is that run
  pub same_run : (run z after : List ℕ) (b : B) (word : List ℕ) (f : RunThen test allowed G b word) → list_all test run ≡ true
      → ((c : ℕ) (cs us : List ℕ) → test c ≡ true → allowed (run ++ c ∷ cs) → z ≡ c ∷ us → ⊥) → run ++ z ≡ word ++ after → run ≡ f.run
  same_run run z after b word f passes closed e =
      let o = (opens f.run).at b f.tail f.tails in
      let e2 : run ++ z ≡ f.run ++ o.0 ∷ (o.1 ++ after) = e ∙ ap (λ w. w ++ after) f.at ∙ append_assoc f.run f.tail after ∙ ap (λ w. f.run ++ (w ++ after)) o.2 in
      elim (runs_meet test run f.run z (o.1 ++ after) o.0 passes f.passes o.3 e2) [
        | same h ↦ h
        | longer c cs us h t w ↦ absurd (closed c cs us t (subst allowed h f.is_allowed) w)
      ]

  pub ran_begins : (bytes run rest last : List ℕ) (b : B) → bytes ≡ run ++ rest → list_all test run ≡ true → allowed run → Begins (G run) rest b last → Begins (RunThen test allowed G) bytes b last
  ran_begins bytes run rest last b at passes ok p = record {
    word = run ++ p.word;
    spells = record { run = run; tail = p.word; passes = passes; is_allowed = ok; tails = p.spells; at = refl };
    at = at ∙ ap (λ r. run ++ r) p.at ∙ sym (append_assoc run p.word last);
  }

  pub ran_stops : (bytes run rest : List ℕ) (left : ℕ) → bytes ≡ run ++ rest → list_all test run ≡ true → allowed run → Closed test allowed run rest → Stops (G run) rest left → Stops (RunThen test allowed G) bytes left
  ran_stops bytes run rest left at passes ok closed s = record {
    front = run ++ s.front;
    rest = s.rest;
    at = at ∙ ap (λ r. run ++ r) s.at ∙ sym (append_assoc run s.front s.rest);
    counts = s.counts;
    value = s.value;
    more = s.more;
    lives = record { run = run; tail = s.front ++ s.more; passes = passes; is_allowed = ok; tails = s.lives; at = append_assoc run s.front s.more };
    dead = λ b word after next f follows e.
        let e2 : run ++ (s.front ++ next) ≡ word ++ after = sym (append_assoc run s.front next) ∙ e in
        let h = same_run run (s.front ++ next) after b word f passes
        (λ c cs us t ok2 w. let o = opening s.front s.rest next c us follows w in closed.ends c cs o.0 t ok2 (s.at ∙ o.1)) e2 in
        s.dead b f.tail after next (subst (λ r. G r b f.tail) (sym h) f.tails) follows
        (append_cancel_left run (s.front ++ next) (f.tail ++ after) (e2 ∙ ap (λ w. w ++ after) f.at ∙ append_assoc f.run f.tail after ∙ ap (λ r. r ++ (f.tail ++ after)) (sym h)));
  }

  -- where a run must not be empty and is
  pub ran_short : (bytes : List ℕ) → Possible (RunThen test allowed G) → (allowed [] → ⊥) → ((c : ℕ) (us : List ℕ) → test c ≡ true → bytes ≡ c ∷ us → ⊥) → Stops (RunThen test allowed G) bytes (length bytes)
  ran_short bytes some short closed = record {
    front = [];
    rest = bytes;
    at = refl;
    counts = refl;
    value = some.value;
    more = some.word;
    lives = some.spells;
    dead = λ b word after next f follows e.
        short (subst allowed (sym (same_run [] next after b word f refl (λ c cs us t ok w. let o = opening [] bytes next c us follows w in closed c o.0 t o.1) e)) f.is_allowed);
  }

  pub ran_unique : ((r : List ℕ) → Unique (G r)) → Unique (RunThen test allowed G)
  ran_unique unique = record {
    one = λ a b x y u v p q e.
        let o = (opens p.run).at a p.tail p.tails in
        let e2 : p.run ++ (p.tail ++ u) ≡ y ++ v = sym (append_assoc p.run p.tail u) ∙ ap (λ w. w ++ u) (sym p.at) ∙ e in
        let h = same_run p.run (p.tail ++ u) v b y q p.passes
        (λ c cs us t ok w.
        let k : o.0 ∷ (o.1 ++ u) ≡ c ∷ us = ap (λ z. z ++ u) (sym o.2) ∙ w in
        let same_byte : o.0 ≡ c = cc k in
        let no : true ≡ false = sym t ∙ ap test (sym same_byte) ∙ o.3 in
        cc no) e2 in
        let t = (unique p.run).one a b p.tail q.tail u v p.tails (subst (λ r. G r b q.tail) (sym h) q.tails)
        (append_cancel_left p.run (p.tail ++ u) (q.tail ++ v) (e2 ∙ ap (λ w. w ++ v) q.at ∙ append_assoc q.run q.tail v ∙ ap (λ r. r ++ (q.tail ++ v)) (sym h))) in
        (t.0, p.at ∙ ap (λ r. r ++ p.tail) h ∙ ap (λ w. q.run ++ w) t.1 ∙ sym q.at);
  }
