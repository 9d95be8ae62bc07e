-- Pieces of a text that are appended one after the other, and for each item of a list.
use Rattle.std.proofs.Common.{◌≡◌, ℕ, ◌+◌, ◌<◌, List, [], ◌++◌, length, take, get_or, Result, Ok, Err, OnOk, sym, ap, ◌∙◌, append-nil, append_assoc}
use Rattle.std.proofs.lemmas.List.{flat_map_more, take_more}
use Rattle.std.specs.List.{flat_map}

-- what holds after an Ok, by what else does
pub on_ok : {T E P Q : Type 0} (r : Result T E) → (P → Q) → OnOk r P → OnOk r Q
on_ok (Ok x) f p = f p
on_ok (Err e) f p = tt

pub three_pieces : (old a b c s1 s2 s3 : List ℕ) → s1 ≡ old ++ a → s2 ≡ s1 ++ b → s3 ≡ s2 ++ c → s3 ≡ old ++ (a ++ b ++ c)
three_pieces old a b c s1 s2 s3 one two three = three ∙ ap (λ s. s ++ c) (two ∙ ap (λ s. s ++ b) one) ∙ simp append_assoc

pub four_pieces : (old a b c d s1 s2 s3 s4 : List ℕ) → s1 ≡ old ++ a → s2 ≡ s1 ++ b → s3 ≡ s2 ++ c → s4 ≡ s3 ++ d → s4 ≡ old ++ (a ++ b ++ c ++ d)
four_pieces old a b c d s1 s2 s3 s4 one two three four = four ∙ ap (λ s. s ++ d) (three_pieces old a b c s1 s2 s3 one two three) ∙ simp append_assoc

pub seven_pieces : (a b c d e f g s1 s2 s3 s4 s5 s6 s7 : List ℕ) → s1 ≡ a → s2 ≡ s1 ++ b → s3 ≡ s2 ++ c → s4 ≡ s3 ++ d → s5 ≡ s4 ++ e → s6 ≡ s5 ++ f → s7 ≡ s6 ++ g
    → s7 ≡ a ++ b ++ c ++ d ++ e ++ f ++ g
seven_pieces a b c d e f g s1 s2 s3 s4 s5 s6 s7 one two three four five six seven =
    seven ∙ ap (λ s. s ++ g) (six ∙ ap (λ s. s ++ f) (four_pieces s1 b c d e s2 s3 s4 s5 two three four five ∙ ap (λ s. s ++ (b ++ c ++ d ++ e)) one)) ∙ simp append_assoc

pub eight_pieces : (a b c d e f g h s1 s2 s3 s4 s5 s6 s7 s8 : List ℕ) → s1 ≡ a → s2 ≡ s1 ++ b → s3 ≡ s2 ++ c → s4 ≡ s3 ++ d → s5 ≡ s4 ++ e → s6 ≡ s5 ++ f → s7 ≡ s6 ++ g
    → s8 ≡ s7 ++ h → s8 ≡ a ++ b ++ c ++ d ++ e ++ f ++ g ++ h
eight_pieces a b c d e f g h s1 s2 s3 s4 s5 s6 s7 s8 one two three four five six seven eight =
    eight ∙ ap (λ s. s ++ h) (seven_pieces a b c d e f g s1 s2 s3 s4 s5 s6 s7 one two three four five six seven) ∙ simp append_assoc

pub nine_pieces : (a b c d e f g h i s1 s2 s3 s4 s5 s6 s7 s8 s9 : List ℕ) → s1 ≡ a → s2 ≡ s1 ++ b → s3 ≡ s2 ++ c → s4 ≡ s3 ++ d → s5 ≡ s4 ++ e → s6 ≡ s5 ++ f → s7 ≡ s6 ++ g
    → s8 ≡ s7 ++ h → s9 ≡ s8 ++ i → s9 ≡ a ++ b ++ c ++ d ++ e ++ f ++ g ++ h ++ i
nine_pieces a b c d e f g h i s1 s2 s3 s4 s5 s6 s7 s8 s9 one two three four five six seven eight nine =
    nine ∙ ap (λ s. s ++ i) (eight ∙ ap (λ s. s ++ h) (seven_pieces a b c d e f g s1 s2 s3 s4 s5 s6 s7 one two three four five six seven)) ∙ simp append_assoc

module _ {X : Type 0} (f : X → List ℕ) where
  -- nothing is appended yet
  pub append-flat_map_nil : (bs : List ℕ) → bs ++ flat_map f [] ≡ bs
  append-flat_map_nil bs = append-nil bs

  -- and one item more
  pub append-flat_map_more : (bs s : List ℕ) (xs : List X) (i : ℕ) (x : X) → i < length xs → x ≡ get_or xs i x → s ≡ (bs ++ flat_map f (take i xs)) ++ f x
      → s ≡ bs ++ flat_map f (take (i + 1) xs)
  append-flat_map_more bs s xs i x h is e =
      e ∙ ap (λ y. (bs ++ flat_map f (take i xs)) ++ f y) is ∙ flat_map_more f bs (take i xs) (get_or xs i x)
      ∙ ap (λ ys. bs ++ flat_map f ys) (sym (take_more xs i x h))
