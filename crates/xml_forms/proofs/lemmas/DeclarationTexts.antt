-- The end of a declaration.
use Rattle.std.proofs.Common.{◌≡◌, ℕ, ◌+◌, ◌<◌, inl, inr, List, [], ◌∷◌, ◌++◌, length, get_or, refl, sym, ◌∙◌, ap, append_assoc, arith, add-one}
use Rattle.std.proofs.lemmas.List.{append-nil, get_or-append-add, get_or_past}
use Rattle.std.proofs.lemmas.Bool.{cases_lt}
use Rattle.std.proofs.Math.Seq.{get_or-append_seam}
use Rattle.xml_forms.specs.Forms.{Stops, Unique}
use Rattle.xml_forms.specs.Openings.{NoDeclarationEnd, DeclarationText}

pub no_declaration_end_all : (bytes : List ℕ) → ((k : ℕ) → k < length bytes → get_or bytes k 0 ≡ 63 → get_or bytes (k + 1) 0 ≡ 62 → ⊥) → NoDeclarationEnd bytes
no_declaration_end_all bytes h = λ k a b. elim (cases_lt k (length bytes)) [
  | inl within ↦ h k within a b
  | inr past ↦ let none : 0 ≡ 63 = sym (get_or_past bytes k 0 past) ∙ a in absurd (omega (arith, none))
]

pub declaration_text_stops : (bytes : List ℕ) → NoDeclarationEnd bytes → Stops DeclarationText bytes 0
declaration_text_stops bytes none = record {
  front = bytes;
  rest = [];
  at = sym (append-nil bytes);
  counts = refl;
  value = bytes;
  more = 63 ∷ 62 ∷ [];
  lives = (none, refl);
  dead = λ text word after next f follows e.
      let e2 : bytes ≡ text ++ 63 ∷ 62 ∷ after = sym (append-nil bytes) ∙ ap (λ n. bytes ++ n) (sym follows) ∙ e ∙ ap (λ w. w ++ after) f.1 ∙ append_assoc text (63 ∷ 62 ∷ []) after in
      none (length text)
      (ap (λ l. get_or l (length text) 0) e2 ∙ get_or-append_seam text 63 (62 ∷ after) 0)
      (ap (λ l. get_or l (length text + 1) 0) e2 ∙ get_or-append-add text (63 ∷ 62 ∷ after) 1 0);
}

behind : (c : ℕ) (text : List ℕ) → NoDeclarationEnd (c ∷ text) → NoDeclarationEnd text
behind c text none = λ k a b. none (k + 1) (ap (λ n. get_or (c ∷ text) n 0) (add-one k) ∙ a) (ap (λ n. get_or (c ∷ text) n 0) (add-one (k + 1)) ∙ b)

-- nothing stands before the mark, and something does
not_before : (c : ℕ) (b u v : List ℕ) → NoDeclarationEnd (c ∷ b) → 63 ∷ 62 ∷ u ≡ c ∷ (b ++ 63 ∷ 62 ∷ v) → ⊥
not_before c [] u v none e =
    let h : 62 ∷ u ≡ 63 ∷ 62 ∷ v = cc e in
    let no : ◌≡◌ {A = ℕ} 62 63 = cc h in
    omega (arith, no)
not_before c (d ∷ b) u v none e =
    let first : 63 ≡ c = cc e in
    let h : 62 ∷ u ≡ d ∷ (b ++ 63 ∷ 62 ∷ v) = cc e in
    let second : 62 ≡ d = cc h in
    none 0 (sym first) (sym second)

same_text : (a b u v : List ℕ) → NoDeclarationEnd a → NoDeclarationEnd b → a ++ 63 ∷ 62 ∷ u ≡ b ++ 63 ∷ 62 ∷ v → a ≡ b
same_text [] [] u v na nb e = refl
same_text [] (c ∷ b) u v na nb e = absurd (not_before c b u v nb e)
same_text (c ∷ a) [] u v na nb e = absurd (not_before c a v u na (sym e))
same_text (c ∷ a) (d ∷ b) u v na nb e =
    let first : c ≡ d = cc e in
    let rest : a ++ 63 ∷ 62 ∷ u ≡ b ++ 63 ∷ 62 ∷ v = cc e in
    λ i. first i ∷ same_text a b u v (behind c a na) (behind d b nb) rest i

pub declaration_text_unique : Unique DeclarationText
declaration_text_unique = record {
  one = λ a b x y u v p q e.
      let e2 : a ++ 63 ∷ 62 ∷ u ≡ b ++ 63 ∷ 62 ∷ v = sym (append_assoc a (63 ∷ 62 ∷ []) u) ∙ ap (λ w. w ++ u) (sym p.1) ∙ e ∙ ap (λ w. w ++ v) q.1 ∙ append_assoc b (63 ∷ 62 ∷ []) v in
      let h = same_text a b u v p.0 q.0 e2 in
      (h, p.1 ∙ ap (λ w. w ++ 63 ∷ 62 ∷ []) h ∙ sym q.1);
}
