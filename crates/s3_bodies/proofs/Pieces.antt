-- The pieces of a key's text.
use Rattle.std.proofs.Common.{◌≡◌, ℕ, ◌<◌, inl, inr, List, [], ◌∷◌, ◌++◌, length, refl, sym, ◌∙◌, ap, subst, true, false, arith, Result, Some, Bor, codes, slice_index, take, drop, ◌-◌}
use Rattle.std.specs.List.{list_all}
use Rattle.std.specs.Str.Parse.{digits_value}
use Rattle.std.proofs.lemmas.Bool.{and_parts}
use Rattle.std.proofs.lemmas.List.{length-append, take_all}
use Rattle.xml_forms.specs.Forms.{Begins, Follows, Stops, Reads, Either, Exactly, Word, RunThen, Unique, Apart, Possible, nearer}
use Rattle.xml_forms.specs.Runs.{has, Element, Sized}
use Rattle.xml_forms.specs.declared.class.Class.TheVariants.{Digit, HexDigit, InText}
use Rattle.xml_forms.proofs.lemmas.Choices.{Heads, either_unique, heads_apart, then_heads}
use Rattle.xml_forms.proofs.lemmas.Elements.{element_unique, exactly_unique, one_sized}
use Rattle.xml_forms.proofs.lemmas.Manies.{apart_sym, valued_begins, valued_heads, valued_stops, valued_unique}
use Rattle.xml_forms.proofs.lemmas.Readers.{apart_either, exactly_heads, nearer_by, then_reads, word_heads}
use Rattle.xml_forms.proofs.lemmas.Sequence.{then_stops_first, then_unique, word_unique}
use Rattle.s3_bodies.specs.KeyText.{Angle, Decimal, Entity, Hexadecimal, InKey, Number, Plain, QuoteMark, Reference}
use Rattle.s3_bodies.specs.DeleteReaders.{ReadsPiece}
use Rattle.s3_bodies.specs.declared.key_text.Piece.{Piece}
use Rattle.s3_bodies.specs.declared.key_text.Piece.TheVariants.{Byte, Numbered}

pub nearer_piece : (F G : Piece → List ℕ → Type 0) (bytes : List ℕ) (r s n : Result (Piece × Bor (List ℕ)) ℕ) → n ≡ nearer r s → ReadsPiece F bytes r → ReadsPiece G bytes s → ReadsPiece (Either F G) bytes n
nearer_piece F G = nearer_by (λ piece. piece) F G

-- ---- entities

abbrev amp : Piece → List ℕ → Type 0
amp = Exactly (Byte 38) (codes "amp;")

abbrev lt : Piece → List ℕ → Type 0
lt = Exactly (Byte 60) (codes "lt;")

abbrev gt : Piece → List ℕ → Type 0
gt = Exactly (Byte 62) (codes "gt;")

abbrev quot : Piece → List ℕ → Type 0
quot = Exactly (Byte 34) (codes "quot;")

abbrev apos : Piece → List ℕ → Type 0
apos = Exactly (Byte 39) (codes "apos;")

-- an entity is apart from what begins with another byte
module _ {A : Type 0} (F : A → List ℕ → Type 0) (c : ℕ) (t : List ℕ) (heads : Heads F (c ∷ t)) where
  apart_from : (b d : ℕ) (w : List ℕ) → (c ≡ d → ⊥) → Apart F (Exactly (Byte b) (d ∷ w))
  apart_from b d w differ = heads_apart F (Exactly (Byte b) (d ∷ w)) [] t w c d heads (exactly_heads (Byte b) (d ∷ w)) differ

  apart_angle : (c ≡ 108 → ⊥) → (c ≡ 103 → ⊥) → Apart F Angle
  apart_angle l g = apart_either F lt gt (apart_from 60 108 (codes "t;") l) (apart_from 62 103 (codes "t;") g)

  apart_quote : (c ≡ 113 → ⊥) → (c ≡ 97 → ⊥) → Apart F QuoteMark
  apart_quote q a = apart_either F quot apos (apart_from 34 113 (codes "uot;") q) (apart_from 39 97 (codes "pos;") a)

angle_unique : Unique Angle
angle_unique = either_unique lt gt (exactly_unique (Byte 60) (codes "lt;")) (exactly_unique (Byte 62) (codes "gt;"))
    (apart_from lt 108 (codes "t;") (exactly_heads (Byte 60) (codes "lt;")) 62 103 (codes "t;") (λ h. omega (arith, h)))

quote_unique : Unique QuoteMark
quote_unique = either_unique quot apos (exactly_unique (Byte 34) (codes "quot;")) (exactly_unique (Byte 39) (codes "apos;"))
    (apart_from quot 113 (codes "uot;") (exactly_heads (Byte 34) (codes "quot;")) 39 97 (codes "pos;") (λ h. omega (arith, h)))

angle_quote : Apart Angle QuoteMark
angle_quote = apart_sym QuoteMark Angle
    (apart_either QuoteMark lt gt
    (apart_sym lt QuoteMark (apart_quote lt 108 (codes "t;") (exactly_heads (Byte 60) (codes "lt;")) (λ h. omega (arith, h)) (λ h. omega (arith, h))))
    (apart_sym gt QuoteMark (apart_quote gt 103 (codes "t;") (exactly_heads (Byte 62) (codes "gt;")) (λ h. omega (arith, h)) (λ h. omega (arith, h)))))

amp_apart : Apart amp (Either Angle QuoteMark)
amp_apart = apart_either amp Angle QuoteMark
    (apart_angle amp 97 (codes "mp;") (exactly_heads (Byte 38) (codes "amp;")) (λ h. omega (arith, h)) (λ h. omega (arith, h)))
    (apart_either amp quot apos
    (apart_from amp 97 (codes "mp;") (exactly_heads (Byte 38) (codes "amp;")) 34 113 (codes "uot;") (λ h. omega (arith, h)))
    (heads_apart amp apos (codes "a") (codes "p;") (codes "os;") 109 112 (exactly_heads (Byte 38) (codes "amp;")) (exactly_heads (Byte 39) (codes "apos;")) (λ h. omega (arith, h))))

entity_unique : Unique Entity
entity_unique = either_unique amp (Either Angle QuoteMark) (exactly_unique (Byte 38) (codes "amp;")) (either_unique Angle QuoteMark angle_unique quote_unique angle_quote) amp_apart

-- ---- numbers

abbrev end : List ℕ
end = codes ";"

abbrev Digits : List ℕ → List ℕ → Type 0
Digits = Element [] Digit true (Some 7) end

abbrev HexDigits : List ℕ → List ℕ → Type 0
HexDigits = Element (codes "x") HexDigit true (Some 6) end

abbrev by_tens : List ℕ → Piece
by_tens digits = Numbered (digits_value 10 digits)

abbrev by_sixteens : List ℕ → Piece
by_sixteens digits = Numbered (digits_value 16 digits)

pub decimal_stops : (bytes : List ℕ) (left : ℕ) → Stops Digits bytes left → Stops Decimal bytes left
decimal_stops = valued_stops by_tens Digits

pub decimal_begins : (bytes rest digits : List ℕ) (n : ℕ) → n ≡ digits_value 10 digits → Begins Digits bytes digits rest → Begins Decimal bytes (Numbered n) rest
decimal_begins bytes rest digits n e p = subst (λ m. Begins Decimal bytes (Numbered m) rest) (sym e) (valued_begins by_tens Digits bytes rest digits p)

pub hexadecimal_stops : (bytes : List ℕ) (left : ℕ) → Stops HexDigits bytes left → Stops Hexadecimal bytes left
hexadecimal_stops = valued_stops by_sixteens HexDigits

pub hexadecimal_begins : (bytes rest digits : List ℕ) (n : ℕ) → n ≡ digits_value 16 digits → Begins HexDigits bytes digits rest → Begins Hexadecimal bytes (Numbered n) rest
hexadecimal_begins bytes rest digits n e p = subst (λ m. Begins Hexadecimal bytes (Numbered m) rest) (sym e) (valued_begins by_sixteens HexDigits bytes rest digits p)

decimal_unique : Unique Decimal
decimal_unique = valued_unique by_tens Digits (element_unique Digit true (Some 7) (omega arith) end (59, [], refl, refl) [])

hexadecimal_unique : Unique Hexadecimal
hexadecimal_unique = valued_unique by_sixteens HexDigits (element_unique HexDigit true (Some 6) (omega arith) end (59, [], refl, refl) (codes "x"))

decimal_opens : (a : Piece) (w : List ℕ) → Decimal a w → (c : ℕ) × (cs : List ℕ) × (w ≡ c ∷ cs) × (has Digit c ≡ true)
decimal_opens a w g = let f = g.spells in filled f.tails.run f.tails.tail w f.tails.passes f.tails.is_allowed.is_filled (f.at ∙ ap (λ h. h ++ f.tail) f.heads ∙ f.tails.at)
  where
    filled : (run tail w : List ℕ) → list_all (has Digit) run ≡ true → 0 < length run → w ≡ run ++ tail → (c : ℕ) × (cs : List ℕ) × (w ≡ c ∷ cs) × (has Digit c ≡ true)
    filled [] tail w passes some e = absurd (omega arith)
    filled (c ∷ run) tail w passes some e = (c, run ++ tail, e, (and_parts (has Digit c) (list_all (has Digit) run) passes).0)

hexadecimal_heads : Heads Hexadecimal (codes "x")
hexadecimal_heads = valued_heads by_sixteens HexDigits (codes "x")
    (then_heads (Word (codes "x")) (λ u. RunThen (has HexDigit) (Sized true (Some 6)) (λ run. Exactly run end)) (codes "x") (word_heads (codes "x")))

bases_apart : Apart Decimal Hexadecimal
bases_apart = record {
  none = λ a b x y u v p q e.
      let i = decimal_opens a x p in
      let j = hexadecimal_heads.at b y q in
      let h : i.0 ∷ (i.1 ++ u) ≡ 120 ∷ (j.0 ++ v) = ap (λ w. w ++ u) (sym i.2) ∙ e ∙ ap (λ w. w ++ v) j.1 in
      let same_byte : i.0 ≡ 120 = cc h in
      let not_so : true ≡ false = sym i.3 ∙ ap (has Digit) same_byte in
      cc not_so;
}

abbrev hash : Unit {0} → List ℕ → Type 0
hash = Word (codes "#")

number_unique : Unique Number
number_unique = then_unique hash (λ _. Either Decimal Hexadecimal) (word_unique (codes "#")) (λ _. either_unique Decimal Hexadecimal decimal_unique hexadecimal_unique bases_apart)

number_heads : Heads Number (codes "#")
number_heads = then_heads hash (λ _. Either Decimal Hexadecimal) (codes "#") (word_heads (codes "#"))

decimal_some : Possible (Either Decimal Hexadecimal)
decimal_some = record {
  value = by_tens (49 ∷ []);
  word = codes "1;";
  spells = inl (record {
    of = 49 ∷ [];
    is = refl;
    spells = record {
      value = tt;
      head = [];
      tail = codes "1;";
      heads = refl;
      at = refl;
      tails = record { run = 49 ∷ []; tail = end; passes = refl; is_allowed = one_sized true (Some 7) 49 (omega arith); tails = (refl, refl); at = refl };
    };
  });
}

pub number_breaks : (bytes : List ℕ) (left : ℕ) → Stops hash bytes left → Stops Number bytes left
number_breaks bytes left s = then_stops_first hash (λ _. Either Decimal Hexadecimal) (λ _. decimal_some) bytes left s

pub number_reads : (bytes rest : List ℕ) → Begins hash bytes tt rest → (r : Result (Piece × List ℕ) ℕ) → Reads (Either Decimal Hexadecimal) rest r → Reads Number bytes r
number_reads bytes rest p r q = then_reads hash (λ _. Either Decimal Hexadecimal) (word_unique (codes "#")) bytes rest tt p r q

-- ---- references

entity_number : Apart Entity Number
entity_number = apart_sym Number Entity
    (apart_either Number amp (Either Angle QuoteMark) (apart_from Number 35 [] number_heads 38 97 (codes "mp;") (λ h. omega (arith, h)))
    (apart_either Number Angle QuoteMark (apart_angle Number 35 [] number_heads (λ h. omega (arith, h)) (λ h. omega (arith, h)))
    (apart_quote Number 35 [] number_heads (λ h. omega (arith, h)) (λ h. omega (arith, h)))))

abbrev ampersand : Unit {0} → List ℕ → Type 0
ampersand = Word (codes "&")

reference_unique : Unique Reference
reference_unique = then_unique ampersand (λ _. Either Entity Number) (word_unique (codes "&")) (λ _. either_unique Entity Number entity_unique number_unique entity_number)

reference_heads : Heads Reference (codes "&")
reference_heads = then_heads ampersand (λ _. Either Entity Number) (codes "&") (word_heads (codes "&"))

entity_some : Possible (Either Entity Number)
entity_some = record { value = Byte 38; word = codes "amp;"; spells = inl (inl (refl, refl)) }

pub reference_breaks : (bytes : List ℕ) (left : ℕ) → Stops ampersand bytes left → Stops Reference bytes left
reference_breaks bytes left s = then_stops_first ampersand (λ _. Either Entity Number) (λ _. entity_some) bytes left s

pub reference_reads : (bytes rest : List ℕ) → Begins ampersand bytes tt rest → (r : Result (Piece × List ℕ) ℕ) → Reads (Either Entity Number) rest r → Reads Reference bytes r
reference_reads bytes rest p r q = then_reads ampersand (λ _. Either Entity Number) (word_unique (codes "&")) bytes rest tt p r q

-- ---- a byte as it is

-- no byte is there, or one that a piece of one byte can't be
plain_dead : (bytes : List ℕ) → ((c : ℕ) (cs : List ℕ) → Follows bytes (c ∷ cs) → has InText c ≡ true → ⊥) → Stops Plain bytes (length bytes)
plain_dead bytes dead = record {
  front = [];
  rest = bytes;
  at = refl;
  counts = refl;
  value = Byte 97;
  more = 97 ∷ [];
  lives = (97, refl, refl, refl);
  dead = λ a word after next f follows h. dead f.0 after (subst (λ n. Follows bytes n) (h ∙ ap (λ w. w ++ after) f.3) follows) f.1;
}

pub plain_none : (bytes : List ℕ) → length bytes ≡ 0 → Stops Plain bytes 0
plain_none [] e = plain_dead [] (λ c cs follows h. let no : c ∷ cs ≡ [] = follows in cc no)
plain_none (b ∷ bytes) e = absurd (omega (arith, e))

pub plain_other : (bytes : List ℕ) → (length bytes ≡ 0 → ⊥) → has InText (slice_index bytes 0) ≡ false → Stops Plain bytes (length bytes)
plain_other [] some e = absurd (some refl)
plain_other (b ∷ bytes) some e =
    plain_dead (b ∷ bytes)
    (λ c cs follows h.
    let same_byte : c ≡ b = cc follows.1 in
    let not_so : false ≡ true = sym e ∙ ap (has InText) (sym same_byte) ∙ h in
    cc not_so)

pub plain_begins : (bytes : List ℕ) → (length bytes ≡ 0 → ⊥) → has InText (slice_index bytes 0) ≡ true
    → Begins Plain bytes (Byte (slice_index bytes 0)) (take (length bytes - 1) (drop 1 bytes))
plain_begins [] some h = absurd (some refl)
plain_begins (b ∷ rest) some h = record { word = b ∷ []; spells = (b, h, refl, refl); at = ap (λ r. b ∷ r) (sym (take_all (length (b ∷ rest) - 1) rest (omega arith))) }

plain_unique : Unique Plain
plain_unique = record {
  one = λ a b x y u v p q e.
      let h : p.0 ∷ u ≡ q.0 ∷ v = ap (λ w. w ++ u) (sym p.3) ∙ e ∙ ap (λ w. w ++ v) q.3 in
      let same_byte : p.0 ≡ q.0 = cc h in
      (p.2 ∙ ap (λ c. Byte c) same_byte ∙ sym q.2, p.3 ∙ ap (λ c. c ∷ []) same_byte ∙ sym q.3);
}

-- ---- a piece

-- a byte as it is isn't what another spelling begins with
plain_apart : {A : Type 0} (F : A → List ℕ → Type 0) (d : ℕ) (t : List ℕ) → Heads F (d ∷ t) → has InText d ≡ false → Apart Plain F
plain_apart F d t heads fails = record {
  none = λ a b x y u v p q e.
      let j = heads.at b y q in
      let h : p.0 ∷ u ≡ d ∷ ((t ++ j.0) ++ v) = ap (λ w. w ++ u) (sym p.3) ∙ e ∙ ap (λ w. w ++ v) j.1 in
      let same_byte : p.0 ≡ d = cc h in
      let not_so : true ≡ false = sym p.1 ∙ ap (has InText) same_byte ∙ fails in
      cc not_so;
}

pub piece_unique : Unique InKey
piece_unique = either_unique Plain Reference plain_unique reference_unique (plain_apart Reference 38 [] reference_heads refl)

-- nothing that begins with `<` is a piece
pub piece_apart : {A : Type 0} (F : A → List ℕ → Type 0) (t : List ℕ) → Heads F (60 ∷ t) → Apart InKey F
piece_apart F t heads = apart_sym F InKey
    (apart_either F Plain Reference (apart_sym Plain F (plain_apart F 60 t heads refl))
    (heads_apart F Reference [] t [] 60 38 heads reference_heads (λ h. omega (arith, h))))

-- a piece takes a byte at least
pub piece_filled : (a : Piece) (w : List ℕ) → InKey a w → (c : ℕ) × (cs : List ℕ) × (w ≡ c ∷ cs)
piece_filled a w (inl p) = (p.0, [], p.3)
piece_filled a w (inr q) = let j = reference_heads.at a w q in (38, j.0, j.1)

pub piece_shorter : (bytes rest : List ℕ) (a : Piece) → Begins InKey bytes a rest → length rest < length bytes
piece_shorter bytes rest a p =
    let f = piece_filled a p.word p.spells in
    let at = ap length p.at in
    let word = ap length f.2 in
    omega (arith, at, word, length-append p.word rest)
