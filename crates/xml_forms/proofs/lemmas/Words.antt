-- Reading a word byte by byte.
use Rattle.std.proofs.Common.{◌≡◌, ℕ, ◌-◌, ◌≤◌, ◌<◌, suc, List, [], ◌∷◌, ◌++◌, length, take, drop, slice_index, sym, ◌∙◌, ap, subst}
use Rattle.std.proofs.lemmas.List.{append-nil, take-append-drop, length-drop, take_all}
use Rattle.std.proofs.Math.Seq.{drop-cons}
use Rattle.xml_forms.specs.Forms.{Stops, Word}
use Rattle.xml_forms.proofs.lemmas.Sequence.{word_stops}

-- a list is its first bytes, the next one and the others
split_at : (w : List ℕ) (i : ℕ) → i < length w → w ≡ take i w ++ slice_index w i ∷ drop (suc i) w
split_at w i within = sym (take-append-drop i w) ∙ ap (λ l. take i w ++ l) (drop-cons w i 0 within)

-- where the bytes end within the word
pub word_short : (w bytes : List ℕ) (i : ℕ) → take i bytes ≡ take i w → length bytes ≤ i → i < length w → Stops (Word w) bytes 0
word_short w bytes i same_front short within =
    let front_is : bytes ≡ take i w = sym (take_all i bytes short) ∙ same_front in
    word_stops w bytes [] (drop (suc i) w) (slice_index w i) bytes (sym (append-nil bytes)) (split_at w i within ∙ ap (λ l. l ++ slice_index w i ∷ drop (suc i) w) (sym front_is))
    (λ us e. let h : [] ≡ slice_index w i ∷ us = e in cc h)

-- where another byte stands than in the word
pub word_differs : (w bytes : List ℕ) (i : ℕ) → take i bytes ≡ take i w → i < length bytes → i < length w → (slice_index bytes i ≡ slice_index w i → ⊥) → Stops (Word w) bytes (length bytes - i)
word_differs w bytes i same_front here within differs =
    subst (λ n. Stops (Word w) bytes n) (length-drop i bytes)
    (word_stops w (take i bytes) (drop i bytes) (drop (suc i) w) (slice_index w i) bytes (sym (take-append-drop i bytes))
    (split_at w i within ∙ ap (λ l. l ++ slice_index w i ∷ drop (suc i) w) (sym same_front))
    (λ us e. let h : slice_index bytes i ∷ drop (suc i) bytes ≡ slice_index w i ∷ us = sym (drop-cons bytes i 0 here) ∙ e in
    let same_byte : slice_index bytes i ≡ slice_index w i = cc h in
    differs same_byte))
