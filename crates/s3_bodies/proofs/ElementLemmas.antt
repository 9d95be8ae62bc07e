-- The elements of a part: a number, an ETag, a checksum.
use Rattle.std.proofs.Common.{◌≡◌, ℕ, ◌<◌, inl, inr, List, [], ◌∷◌, ◌++◌, length, refl, sym, ◌∙◌, ap, subst, true, false, Some, Result, Ok, Err, Bor, arith, codes}
use Rattle.std.proofs.Common.{append_assoc}
use Rattle.std.specs.List.{list_all}
use Rattle.std.specs.Str.Parse.{digits_value}
use Rattle.std.proofs.lemmas.Bool.{and_parts}
use Rattle.xml_forms.specs.Forms.{Begins, Stops, Reads, Either, Exactly, RunThen, Word, Unique, Apart, Possible, Opens, nearer}
use Rattle.xml_forms.specs.Readers.{read_by, ReadsText}
use Rattle.xml_forms.specs.Runs.{has, Element, IsRun, Sized}
use Rattle.xml_forms.specs.declared.class.Class.TheVariants.{Space, Digit, Dashed}
use Rattle.xml_forms.proofs.lemmas.Choices.{Heads, either_unique, heads_apart, then_heads}
use Rattle.xml_forms.proofs.lemmas.Elements.{closed_run, element_unique, exactly_begins, exactly_stops, exactly_unique, no_bytes, one_sized}
use Rattle.xml_forms.proofs.lemmas.Manies.{valued_stops, valued_begins, valued_unique, valued_heads}
use Rattle.xml_forms.proofs.lemmas.Readers.{apart_either, nearer_by, opens_heads, then_reads, word_heads}
use Rattle.xml_forms.proofs.lemmas.Runs.{ran_begins, ran_short, ran_stops, ran_unique}
use Rattle.xml_forms.proofs.lemmas.Sequence.{then_begins, then_stops, then_stops_first, then_unique, word_unique}
use Rattle.s3_bodies.specs.Completion.{Bare, Etag, EtagText, Number, Quote, Quoted, QuotedEnd, etag_end}

-- ---- a number

abbrev pub Digits : List ℕ → List ℕ → Type 0
Digits = Element (codes "<PartNumber>") Digit true (Some 9) (codes "</PartNumber>")

digits_unique : Unique Digits
digits_unique = element_unique Digit true (Some 9) (omega arith) (codes "</PartNumber>") (60, codes "/PartNumber>", refl, refl) (codes "<PartNumber>")

pub number_unique : Unique Number
number_unique = valued_unique (digits_value 10) Digits digits_unique

pub number_heads : Heads Number (codes "<PartNumber>")
number_heads = valued_heads (digits_value 10) Digits (codes "<PartNumber>")
    (then_heads (Word (codes "<PartNumber>")) (λ u. RunThen (has Digit) (Sized true (Some 9)) (λ run. Exactly run (codes "</PartNumber>"))) (codes "<PartNumber>") (word_heads (codes "<PartNumber>")))

pub number_opens : Opens (has Space) Number
number_opens = opens_heads Number (codes "PartNumber>") number_heads

pub number_some : Possible Number
number_some = record {
  value = 1;
  word = codes "<PartNumber>1</PartNumber>";
  spells = record {
    of = 49 ∷ [];
    is = refl;
    spells = record {
      value = tt;
      head = codes "<PartNumber>";
      tail = codes "1</PartNumber>";
      heads = refl;
      at = refl;
      tails = record { run = 49 ∷ []; tail = codes "</PartNumber>"; passes = refl; is_allowed = one_sized true (Some 9) 49 (omega arith); tails = (refl, refl); at = refl };
    };
  };
}

pub number_stops : (bytes : List ℕ) (left : ℕ) → Stops Digits bytes left → Stops Number bytes left
number_stops = valued_stops (digits_value 10) Digits

pub number_begins : (bytes rest digits : List ℕ) (n : ℕ) → n ≡ digits_value 10 digits → Begins Digits bytes digits rest → Begins Number bytes n rest
number_begins bytes rest digits n e p = subst (λ m. Begins Number bytes m rest) (sym e) (valued_begins (digits_value 10) Digits bytes rest digits p)

-- ---- an ETag

abbrev sign : Unit {0} → List ℕ → Type 0
sign = Word (codes "\"")

abbrev by_name : Unit {0} → List ℕ → Type 0
by_name = Word (codes "&quot;")

abbrev by_number : Unit {0} → List ℕ → Type 0
by_number = Word (codes "&#34;")

quote_unique : Unique Quote
quote_unique = either_unique sign (Either by_name by_number) (word_unique (codes "\""))
    (either_unique by_name by_number (word_unique (codes "&quot;")) (word_unique (codes "&#34;"))
    (heads_apart by_name by_number (codes "&") (codes "uot;") (codes "34;") 113 35 (word_heads (codes "&quot;")) (word_heads (codes "&#34;")) (λ h. omega (arith, h))))
    (apart_either sign by_name by_number (heads_apart sign by_name [] [] (codes "quot;") 34 38 (word_heads (codes "\"")) (word_heads (codes "&quot;")) (λ h. omega (arith, h)))
    (heads_apart sign by_number [] [] (codes "#34;") 34 38 (word_heads (codes "\"")) (word_heads (codes "&#34;")) (λ h. omega (arith, h))))

-- a quote is no byte of an ETag's text
quote_byte : (w : List ℕ) → Quote tt w → (c : ℕ) × (cs : List ℕ) × (w ≡ c ∷ cs) × (has Dashed c ≡ false)
quote_byte w (inl p) = (34, [], p, refl)
quote_byte w (inr (inl p)) = (38, codes "quot;", p, refl)
quote_byte w (inr (inr p)) = (38, codes "#34;", p, refl)

quoted_end_opens : (text : List ℕ) → Opens (has Dashed) (QuotedEnd text)
quoted_end_opens text = record { at = λ b word f. let q = quote_byte f.head f.heads in (q.0, q.1 ++ f.tail, f.at ∙ ap (λ h. h ++ f.tail) q.2, q.3) }

etag_end_some : (text : List ℕ) → Possible (Exactly text etag_end)
etag_end_some text = record { value = text; word = etag_end; spells = (refl, refl) }

text_some : Possible (EtagText QuotedEnd)
text_some = record {
  value = 97 ∷ [];
  word = codes "a\"</ETag>";
  spells = record {
    run = 97 ∷ [];
    tail = codes "\"</ETag>";
    passes = refl;
    is_allowed = one_sized true (Some 64) 97 (omega arith);
    at = refl;
    tails = record { value = tt; head = codes "\""; tail = etag_end; heads = inl refl; tails = (refl, refl); at = refl };
  };
}

sized : (run bytes rest : List ℕ) → IsRun Dashed 64 bytes run rest → (length run ≡ 0 → ⊥) → Sized true (Some 64) run
sized [] bytes rest r h = absurd (h refl)
sized (b ∷ run) bytes rest r h = record { is_filled = omega arith; is_short = r.within }

pub text_empty : (bytes run rest : List ℕ) → IsRun Dashed 64 bytes run rest → length run ≡ 0 → Stops (EtagText QuotedEnd) bytes (length rest)
text_empty bytes run rest r e =
    let none = no_bytes run e in
    subst (λ n. Stops (EtagText QuotedEnd) bytes n) (ap length (r.at ∙ ap (λ t. t ++ rest) none))
    (ran_short (has Dashed) (Sized true (Some 64)) QuotedEnd quoted_end_opens bytes text_some (λ ok. let h = ok.is_filled in absurd (omega (arith, h)))
    (λ c us t h. (closed_run Dashed true (Some 64) bytes run rest r).ends c [] us t (subst (λ t. Sized true (Some 64) (t ++ c ∷ [])) (sym none) (one_sized true (Some 64) c (omega arith))) (sym (ap (λ t. t ++ rest) none) ∙ sym r.at ∙ h)))

pub text_reads : (bytes run rest : List ℕ) → IsRun Dashed 64 bytes run rest → (length run ≡ 0 → ⊥) → (r : Result (List ℕ × List ℕ) ℕ) → Reads (QuotedEnd run) rest r → Reads (EtagText QuotedEnd) bytes r
text_reads bytes run rest is some (Ok x) p = ran_begins (has Dashed) (Sized true (Some 64)) QuotedEnd quoted_end_opens bytes run rest x.1 x.0 is.at is.passes (sized run bytes rest is some) p
text_reads bytes run rest is some (Err left) s =
    ran_stops (has Dashed) (Sized true (Some 64)) QuotedEnd quoted_end_opens bytes run rest left is.at is.passes (sized run bytes rest is some) (closed_run Dashed true (Some 64) bytes run rest is) s

pub end_breaks : (text bytes : List ℕ) (left : ℕ) → Stops Quote bytes left → Stops (QuotedEnd text) bytes left
end_breaks text bytes left s = then_stops_first Quote (λ _. Exactly text etag_end) (λ _. etag_end_some text) bytes left s

pub end_stops : (text bytes rest : List ℕ) (left : ℕ) → Begins Quote bytes tt rest → Stops (Word etag_end) rest left → Stops (QuotedEnd text) bytes left
end_stops text bytes rest left p s = then_stops Quote (λ _. Exactly text etag_end) quote_unique bytes rest tt left p (exactly_stops text etag_end rest left s)

pub end_begins : (text bytes rest last : List ℕ) → Begins Quote bytes tt rest → Begins (Word etag_end) rest tt last → Begins (QuotedEnd text) bytes text last
end_begins text bytes rest last p q = then_begins Quote (λ _. Exactly text etag_end) bytes rest last tt text p (exactly_begins text etag_end rest last q)

pub quoted_breaks : (bytes : List ℕ) (left : ℕ) → Stops Quote bytes left → Stops Quoted bytes left
quoted_breaks bytes left s = then_stops_first Quote (λ _. EtagText QuotedEnd) (λ _. text_some) bytes left s

pub quoted_reads : (bytes rest : List ℕ) → Begins Quote bytes tt rest → (r : Result (List ℕ × List ℕ) ℕ) → Reads (EtagText QuotedEnd) rest r → Reads Quoted bytes r
quoted_reads bytes rest p r q = then_reads Quote (λ _. EtagText QuotedEnd) quote_unique bytes rest tt p r q

either_some : Possible (Either Bare Quoted)
either_some = record {
  value = 97 ∷ [];
  word = codes "a</ETag>";
  spells = inl (record {
    value = tt;
    head = [];
    tail = codes "a</ETag>";
    heads = refl;
    at = refl;
    tails = record { run = 97 ∷ []; tail = etag_end; passes = refl; is_allowed = one_sized true (Some 64) 97 (omega arith); tails = (refl, refl); at = refl };
  });
}

pub etag_breaks : (bytes : List ℕ) (left : ℕ) → Stops (Word (codes "<ETag>")) bytes left → Stops Etag bytes left
etag_breaks bytes left s = then_stops_first (Word (codes "<ETag>")) (λ _. Either Bare Quoted) (λ _. either_some) bytes left s

pub etag_reads : (bytes rest : List ℕ) → Begins (Word (codes "<ETag>")) bytes tt rest → (r s n : Result (Bor (List ℕ) × Bor (List ℕ)) ℕ) → n ≡ nearer r s → ReadsText Bare rest r → ReadsText Quoted rest s → ReadsText Etag bytes n
etag_reads bytes rest p r s n e q t =
    then_reads (Word (codes "<ETag>")) (λ _. Either Bare Quoted) (word_unique (codes "<ETag>")) bytes rest tt p (read_by (λ text. text.now) n) (nearer_by (λ text. text.now) Bare Quoted rest r s n e q t)

bare_opens : (a : List ℕ) (w : List ℕ) → Bare a w → (c : ℕ) × (cs : List ℕ) × (w ≡ c ∷ cs) × (has Dashed c ≡ true)
bare_opens a w f = filled f.tails.run f.tails.tail w f.tails.passes f.tails.is_allowed.is_filled (f.at ∙ ap (λ h. h ++ f.tail) f.heads ∙ f.tails.at)
  where
    filled : (run tail w : List ℕ) → list_all (has Dashed) run ≡ true → 0 < length run → w ≡ run ++ tail → (c : ℕ) × (cs : List ℕ) × (w ≡ c ∷ cs) × (has Dashed c ≡ true)
    filled [] tail w passes some e = absurd (omega arith)
    filled (c ∷ run) tail w passes some e = (c, run ++ tail, e, (and_parts (has Dashed c) (list_all (has Dashed) run) passes).0)

bare_apart : Apart Bare Quoted
bare_apart = record {
  none = λ a b x y u v p q e.
      let i = bare_opens a x p in
      let j = quote_byte q.head q.heads in
      let h : i.0 ∷ (i.1 ++ u) ≡ j.0 ∷ (j.1 ++ (q.tail ++ v)) =
      ap (λ w. w ++ u) (sym i.2) ∙ e ∙ ap (λ w. w ++ v) q.at ∙ append_assoc q.head q.tail v ∙ ap (λ w. w ++ (q.tail ++ v)) j.2 in
      let same_byte : i.0 ≡ j.0 = cc h in
      let not_so : true ≡ false = sym i.3 ∙ ap (has Dashed) same_byte ∙ j.3 in
      cc not_so;
}

pub etag_unique : Unique Etag
etag_unique = then_unique (Word (codes "<ETag>")) (λ _. Either Bare Quoted) (word_unique (codes "<ETag>"))
    (λ _. either_unique Bare Quoted
    (element_unique Dashed true (Some 64) (omega arith) etag_end (60, codes "/ETag>", refl, refl) [])
    (then_unique Quote (λ _. EtagText QuotedEnd) quote_unique
    (λ _. ran_unique (has Dashed) (Sized true (Some 64)) QuotedEnd quoted_end_opens (λ text. then_unique Quote (λ _. Exactly text etag_end) quote_unique (λ _. exactly_unique text etag_end))))
    bare_apart)

pub etag_heads : Heads Etag (codes "<ETag>")
etag_heads = then_heads (Word (codes "<ETag>")) (λ _. Either Bare Quoted) (codes "<ETag>") (word_heads (codes "<ETag>"))

pub etag_opens : Opens (has Space) Etag
etag_opens = opens_heads Etag (codes "ETag>") etag_heads

pub etag_some : Possible Etag
unfolding either_some
etag_some = record { value = either_some.value; word = codes "<ETag>" ++ either_some.word; spells = record { value = tt; head = codes "<ETag>"; tail = either_some.word; heads = refl; tails = either_some.spells; at = refl } }
