-- The text of a key.
use Rattle.std.proofs.Common.{◌≡◌, ℕ, ◌≤◌, ◌-◌, List, [], ◌∷◌, ◌++◌, length, min, refl, sym, ◌∙◌, ap, subst, append_assoc, arith, Err, codes, take}
use Rattle.std.proofs.lemmas.List.{append_cancel_right, length-append}
use Rattle.xml_forms.specs.Forms.{Begins, Stops, Many, Word, Unique, Apart, Possible}
use Rattle.xml_forms.proofs.lemmas.Manies.{many_reads, many_unique, same_stops, skips_more, skips_none}
use Rattle.xml_forms.proofs.lemmas.Readers.{word_heads}
use Rattle.xml_forms.proofs.lemmas.Sequence.{word_unique}
use Rattle.s3_bodies.specs.KeyText.{InKey, KeyText}
use Rattle.s3_bodies.specs.DeleteReaders.{SkipsPieces}
use Rattle.s3_bodies.specs.declared.key_text.Piece.{Piece}
use Rattle.s3_bodies.proofs.Pieces.{piece_apart, piece_unique}

-- ---- the loop

pub pieces_none : (bytes : List ℕ) (left : ℕ) → Stops InKey bytes left → SkipsPieces bytes bytes left
pieces_none bytes left s = ([], skips_none InKey bytes left s)

pub pieces_more : (bytes rest last : List ℕ) (piece : Piece) (left : ℕ) → Begins InKey bytes piece rest → SkipsPieces rest last left → SkipsPieces bytes last left
pieces_more bytes rest last piece left p s = (piece ∷ s.0, skips_more InKey bytes rest last piece s.0 left p s.1)

pub pieces_within : (bytes rest : List ℕ) (left : ℕ) → SkipsPieces bytes rest left → length rest ≤ length bytes
pieces_within bytes rest left s = let e = ap length s.1.at in omega (arith, e, length-append s.1.inner rest)

-- ---- the pieces, and the end

abbrev end : List ℕ
end = codes "</Key>"

abbrev Last : List Piece → Unit {0} → List ℕ → Type 0
Last pieces = Word end

abbrev Text : Unit {0} → List ℕ → Type 0
Text = Many InKey Last

end_apart : Apart InKey (Word end)
end_apart = piece_apart (Word end) (codes "/Key>") (word_heads end)

end_some : Possible (Word end)
end_some = record { value = tt; word = end; spells = refl }

text_unique : Unique Text
text_unique = many_unique InKey piece_unique Last (λ _. end_apart) (λ _. word_unique end)

to_text : (u : Unit {0}) (w : List ℕ) → Text u w → (text : List ℕ) × KeyText text w
to_text u w f = (f.inner, record { pieces = f.items; spells = f.spells; at = f.at ∙ ap (λ t. f.inner ++ t) f.tails })

from_text : (text w : List ℕ) → KeyText text w → (u : Unit {0}) × Text u w
from_text text w f = (tt, record { items = f.pieces; inner = text; tail = end; spells = f.spells; tails = refl; at = f.at })

pub key_text_stops : (bytes rest : List ℕ) (left other : ℕ) → SkipsPieces bytes rest left → Stops (Word end) rest other → Stops KeyText bytes (min left other)
key_text_stops bytes rest left other s t =
    same_stops Text KeyText to_text from_text bytes (min left other)
    (many_reads InKey piece_unique Last (λ _. end_apart) (λ _ _. end_some) bytes s.0 rest left s.1 (Err other) t)

taken : (front rest : List ℕ) → take (length front) (front ++ rest) ≡ front
taken [] rest = refl
taken (b ∷ front) rest = ap (λ w. b ∷ w) (taken front rest)

text_is : (bytes inner rest : List ℕ) → bytes ≡ inner ++ rest → take (length bytes - length rest) bytes ≡ inner
text_is bytes inner rest e =
    let long = ap length e in
    ap (λ n. take n bytes) (omega (arith, long, length-append inner rest)) ∙ ap (λ w. take (length inner) w) e ∙ taken inner rest

pub key_text_begins : (bytes rest last : List ℕ) (left : ℕ) → SkipsPieces bytes rest left → Begins (Word end) rest tt last
    → Begins KeyText bytes (take (length bytes - length rest) bytes) last
key_text_begins bytes rest last left s p =
    subst (λ t. Begins KeyText bytes t last) (sym (text_is bytes s.1.inner rest s.1.at))
    (record {
      word = s.1.inner ++ end;
      spells = record { pieces = s.0; spells = s.1.spells; at = refl };
      at = s.1.at ∙ ap (λ r. s.1.inner ++ r) (p.at ∙ ap (λ w. w ++ last) p.spells) ∙ sym (append_assoc s.1.inner end last);
    })

pub key_text_unique : Unique KeyText
key_text_unique = record {
  one = λ a b x y u v p q e.
      let same = text_unique.one tt tt x y u v (from_text a x p).1 (from_text b y q).1 e in
      (append_cancel_right a b end (sym p.at ∙ same.1 ∙ q.at), same.1);
}

pub key_text_some : Possible KeyText
key_text_some = record { value = []; word = end; spells = record { pieces = []; spells = refl; at = refl } }
