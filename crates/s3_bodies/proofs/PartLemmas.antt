-- A part: one number and one ETag, with checksums around them.
use Rattle.std.proofs.lemmas.List.{length-append}
use Rattle.std.proofs.Common.{◌≢◌, ◌<◌, ap, append_assoc, ◌∙◌, ℕ, inl, List, [], ◌∷◌, ◌++◌, length, refl, arith, Result, Ok, Err, codes}
use Rattle.xml_forms.specs.Forms.{Begins, Stops, Reads, Either, Exactly, Word, Unique, Apart, Possible, Opens, nearer}
use Rattle.xml_forms.specs.Runs.{has, IsRun, Spaced}
use Rattle.xml_forms.specs.declared.class.Class.TheVariants.{Space}
use Rattle.xml_forms.proofs.lemmas.Choices.{Heads, either_unique, heads_apart}
use Rattle.xml_forms.proofs.lemmas.Elements.{exactly_begins, exactly_stops, exactly_unique}
use Rattle.xml_forms.proofs.lemmas.Manies.{apart_sym, apart_then, many_reads, many_some, many_unique, skips_more, skips_none, spaced_apart}
use Rattle.xml_forms.proofs.lemmas.Readers.{apart_either, exactly_heads, opens_heads, spaced_reads, spaced_shorter, spaced_some, spaced_unique, then_reads, word_heads}
use Rattle.xml_forms.proofs.lemmas.Sequence.{then_some, then_stops_first, then_unique, word_unique}
use Rattle.s3_bodies.specs.Completion.{Checksum, Checksums, Etag, EtagFirst, EtagThen, Number, NumberFirst, NumberThen, Part, PartEnd, PartInside, PartLast}
use Rattle.s3_bodies.specs.PartReaders.{SkipsChecksums}
use Rattle.s3_bodies.proofs.Checksums.{checksum_heads, checksum_opens, checksum_unique}
use Rattle.s3_bodies.proofs.ElementLemmas.{etag_heads, etag_opens, etag_some, etag_unique, number_heads, number_opens, number_some, number_unique}

abbrev P : Type 0
P = ℕ × List ℕ

abbrev sum : Unit {0} → List ℕ → Type 0
sum = Spaced Checksum

sum_unique : Unique sum
sum_unique = spaced_unique Checksum checksum_opens checksum_unique

-- ---- checksums, and what is behind them

pub sums_none : (bytes : List ℕ) (left : ℕ) → Stops sum bytes left → SkipsChecksums bytes bytes left
sums_none bytes left s = ([], skips_none sum bytes left s)

pub sums_more : (bytes rest last : List ℕ) (left : ℕ) → Begins sum bytes tt rest → SkipsChecksums rest last left → SkipsChecksums bytes last left
sums_more bytes rest last left p s = (tt ∷ s.0, skips_more sum bytes rest last tt s.0 left p s.1)

pub sum_shorter : (bytes rest : List ℕ) → Begins sum bytes tt rest → length rest < length bytes
sum_shorter bytes rest p = spaced_shorter Checksum checksum_opens bytes rest tt p

module _ {B : Type 0} (next : B → List ℕ → Type 0) (apart : Apart sum next) where
  sums_read : Possible next → (bytes rest : List ℕ) (left : ℕ) → SkipsChecksums bytes rest left → (r : Result (B × List ℕ) ℕ) → Reads next rest r → Reads (Checksums next) bytes (nearer (Err left) r)
  sums_read some bytes rest left s r q = many_reads sum sum_unique (λ _. next) (λ _. apart) (λ _ _. some) bytes s.0 rest left s.1 r q

  sums_unique : Unique next → Unique (Checksums next)
  sums_unique unique = many_unique sum sum_unique (λ _. next) (λ _. apart) (λ _. unique)

sums_some : {B : Type 0} (next : B → List ℕ → Type 0) → Possible next → Possible (Checksums next)
sums_some next some = many_some sum (λ _. next) some

-- ---- the end of a part

abbrev end : List ℕ
end = codes "</Part>"

end_opens : (part : P) → Opens (has Space) (Exactly part end)
end_opens part = opens_heads (Exactly part end) (codes "/Part>") (exactly_heads part end)

end_apart : (part : P) → Apart sum (PartEnd part)
end_apart part = spaced_apart Checksum (Exactly part end) checksum_opens (end_opens part)
    (heads_apart Checksum (Exactly part end) (codes "<") (codes "hecksum") (codes "Part>") 67 47 checksum_heads (exactly_heads part end) (λ h. omega (arith, h)))

end_some : (part : P) → Possible (PartEnd part)
end_some part = spaced_some (Exactly part end) (record { value = part; word = end; spells = (refl, refl) })

pub end_stops : (part : P) (bytes run rest : List ℕ) (left : ℕ) → IsRun Space (length bytes) bytes run rest → Stops (Word end) rest left → Stops (PartEnd part) bytes left
end_stops part bytes run rest left is s = spaced_reads (Exactly part end) (end_opens part) bytes run rest is (Err left) (exactly_stops part end rest left s)

pub end_begins : (part : P) (bytes run rest last : List ℕ) → IsRun Space (length bytes) bytes run rest → Begins (Word end) rest tt last → Begins (PartEnd part) bytes part last
end_begins part bytes run rest last is p = spaced_reads (Exactly part end) (end_opens part) bytes run rest is (Ok (part, last)) (exactly_begins part end rest last p)

last_some : (part : P) → Possible (PartLast part)
last_some part = sums_some (PartEnd part) (end_some part)

last_unique : (part : P) → Unique (PartLast part)
last_unique part = sums_unique (PartEnd part) (end_apart part) (spaced_unique (Exactly part end) (end_opens part) (exactly_unique part end))

pub last_reads : (part : P) (bytes rest : List ℕ) (left : ℕ) → SkipsChecksums bytes rest left → (r : Result (P × List ℕ) ℕ) → Reads (PartEnd part) rest r → Reads (PartLast part) bytes (nearer (Err left) r)
last_reads part = sums_read (PartEnd part) (end_apart part) (end_some part)

-- ---- the number and the ETag

number_apart : Apart sum (Spaced Number)
number_apart = spaced_apart Checksum Number checksum_opens number_opens
    (heads_apart Checksum Number (codes "<") (codes "hecksum") (codes "artNumber>") 67 80 checksum_heads number_heads (λ h. omega (arith, h)))

etag_apart : Apart sum (Spaced Etag)
etag_apart = spaced_apart Checksum Etag checksum_opens etag_opens
    (heads_apart Checksum Etag (codes "<") (codes "hecksum") (codes "Tag>") 67 69 checksum_heads etag_heads (λ h. omega (arith, h)))

both_apart : Apart (Spaced Number) (Spaced Etag)
both_apart = spaced_apart Number Etag number_opens etag_opens
    (heads_apart Number Etag (codes "<") (codes "artNumber>") (codes "Tag>") 80 69 number_heads etag_heads (λ h. omega (arith, h)))

spaced_number : Unique (Spaced Number)
spaced_number = spaced_unique Number number_opens number_unique

spaced_etag : Unique (Spaced Etag)
spaced_etag = spaced_unique Etag etag_opens etag_unique

pub etag_then_breaks : (number : ℕ) (bytes : List ℕ) (left : ℕ) → Stops (Spaced Etag) bytes left → Stops (EtagThen number) bytes left
etag_then_breaks number bytes left s = then_stops_first (Spaced Etag) (λ etag. PartLast (number, etag)) (λ etag. last_some (number, etag)) bytes left s

pub etag_then_reads : (number : ℕ) (bytes rest etag : List ℕ) → Begins (Spaced Etag) bytes etag rest → (r : Result (P × List ℕ) ℕ) → Reads (PartLast (number, etag)) rest r → Reads (EtagThen number) bytes r
etag_then_reads number bytes rest etag p r q = then_reads (Spaced Etag) (λ e. PartLast (number, e)) spaced_etag bytes rest etag p r q

etag_then_unique : (number : ℕ) → Unique (EtagThen number)
etag_then_unique number = then_unique (Spaced Etag) (λ etag. PartLast (number, etag)) spaced_etag (λ etag. last_unique (number, etag))

etag_then_some : (number : ℕ) → Possible (EtagThen number)
etag_then_some number = then_some (Spaced Etag) (λ etag. PartLast (number, etag)) (spaced_some Etag etag_some) (λ etag. last_some (number, etag))

etag_then_apart : (number : ℕ) → Apart sum (EtagThen number)
etag_then_apart number = apart_then sum (Spaced Etag) (λ etag. PartLast (number, etag)) etag_apart

pub etag_last_reads : (number : ℕ) (bytes rest : List ℕ) (left : ℕ) → SkipsChecksums bytes rest left → (r : Result (P × List ℕ) ℕ) → Reads (EtagThen number) rest r → Reads (Checksums (EtagThen number)) bytes (nearer (Err left) r)
etag_last_reads number = sums_read (EtagThen number) (etag_then_apart number) (etag_then_some number)

pub number_then_breaks : (etag bytes : List ℕ) (left : ℕ) → Stops (Spaced Number) bytes left → Stops (NumberThen etag) bytes left
number_then_breaks etag bytes left s = then_stops_first (Spaced Number) (λ number. PartLast (number, etag)) (λ number. last_some (number, etag)) bytes left s

pub number_then_reads : (etag bytes rest : List ℕ) (number : ℕ) → Begins (Spaced Number) bytes number rest → (r : Result (P × List ℕ) ℕ) → Reads (PartLast (number, etag)) rest r → Reads (NumberThen etag) bytes r
number_then_reads etag bytes rest number p r q = then_reads (Spaced Number) (λ n. PartLast (n, etag)) spaced_number bytes rest number p r q

number_then_unique : (etag : List ℕ) → Unique (NumberThen etag)
number_then_unique etag = then_unique (Spaced Number) (λ number. PartLast (number, etag)) spaced_number (λ number. last_unique (number, etag))

number_then_some : (etag : List ℕ) → Possible (NumberThen etag)
number_then_some etag = then_some (Spaced Number) (λ number. PartLast (number, etag)) (spaced_some Number number_some) (λ number. last_some (number, etag))

number_then_apart : (etag : List ℕ) → Apart sum (NumberThen etag)
number_then_apart etag = apart_then sum (Spaced Number) (λ number. PartLast (number, etag)) number_apart

pub number_last_reads : (etag bytes rest : List ℕ) (left : ℕ) → SkipsChecksums bytes rest left → (r : Result (P × List ℕ) ℕ) → Reads (NumberThen etag) rest r → Reads (Checksums (NumberThen etag)) bytes (nearer (Err left) r)
number_last_reads etag = sums_read (NumberThen etag) (number_then_apart etag) (number_then_some etag)

-- ---- either of them first

abbrev etag_last : ℕ → P → List ℕ → Type 0
etag_last number = Checksums (EtagThen number)

abbrev number_last : List ℕ → P → List ℕ → Type 0
number_last etag = Checksums (NumberThen etag)

pub number_first_breaks : (bytes : List ℕ) (left : ℕ) → Stops (Spaced Number) bytes left → Stops NumberFirst bytes left
number_first_breaks bytes left s = then_stops_first (Spaced Number) etag_last (λ number. sums_some (EtagThen number) (etag_then_some number)) bytes left s

pub number_first_reads : (bytes rest : List ℕ) (number : ℕ) → Begins (Spaced Number) bytes number rest → (r : Result (P × List ℕ) ℕ) → Reads (Checksums (EtagThen number)) rest r → Reads NumberFirst bytes r
number_first_reads bytes rest number p r q = then_reads (Spaced Number) etag_last spaced_number bytes rest number p r q

pub etag_first_breaks : (bytes : List ℕ) (left : ℕ) → Stops (Spaced Etag) bytes left → Stops EtagFirst bytes left
etag_first_breaks bytes left s = then_stops_first (Spaced Etag) number_last (λ etag. sums_some (NumberThen etag) (number_then_some etag)) bytes left s

pub etag_first_reads : (bytes rest etag : List ℕ) → Begins (Spaced Etag) bytes etag rest → (r : Result (P × List ℕ) ℕ) → Reads (Checksums (NumberThen etag)) rest r → Reads EtagFirst bytes r
etag_first_reads bytes rest etag p r q = then_reads (Spaced Etag) number_last spaced_etag bytes rest etag p r q

first_apart : Apart NumberFirst EtagFirst
first_apart = apart_then NumberFirst (Spaced Etag) number_last (apart_sym (Spaced Etag) NumberFirst (apart_then (Spaced Etag) (Spaced Number) etag_last (apart_sym (Spaced Number) (Spaced Etag) both_apart)))

either_first : Unique (Either NumberFirst EtagFirst)
either_first = either_unique NumberFirst EtagFirst
    (then_unique (Spaced Number) etag_last spaced_number (λ number. sums_unique (EtagThen number) (etag_then_apart number) (etag_then_unique number)))
    (then_unique (Spaced Etag) number_last spaced_etag (λ etag. sums_unique (NumberThen etag) (number_then_apart etag) (number_then_unique etag)))
    first_apart

inside_apart : Apart sum (Either NumberFirst EtagFirst)
inside_apart = apart_either sum NumberFirst EtagFirst (apart_then sum (Spaced Number) etag_last number_apart) (apart_then sum (Spaced Etag) number_last etag_apart)

first_some : Possible (Either NumberFirst EtagFirst)
first_some =
    let i = then_some (Spaced Number) etag_last (spaced_some Number number_some) (λ number. sums_some (EtagThen number) (etag_then_some number)) in
    record { value = i.value; word = i.word; spells = inl i.spells }

pub inside_reads : (bytes rest : List ℕ) (left : ℕ) → SkipsChecksums bytes rest left → (r : Result (P × List ℕ) ℕ) → Reads (Either NumberFirst EtagFirst) rest r → Reads PartInside bytes (nearer (Err left) r)
inside_reads = sums_read (Either NumberFirst EtagFirst) inside_apart first_some

inside_some : Possible PartInside
inside_some = sums_some (Either NumberFirst EtagFirst) first_some

-- ---- a part

abbrev start : Unit {0} → List ℕ → Type 0
start = Word (codes "<Part>")

start_opens : Opens (has Space) start
start_opens = opens_heads start (codes "Part>") (word_heads (codes "<Part>"))

pub start_reads : (bytes run rest : List ℕ) → IsRun Space (length bytes) bytes run rest → (r : Result (Unit {0} × List ℕ) ℕ) → Reads start rest r → Reads (Spaced start) bytes r
start_reads = spaced_reads start start_opens

spaced_start : Unique (Spaced start)
spaced_start = spaced_unique start start_opens (word_unique (codes "<Part>"))

pub part_breaks : (bytes : List ℕ) (left : ℕ) → Stops (Spaced start) bytes left → Stops Part bytes left
part_breaks bytes left s = then_stops_first (Spaced start) (λ _. PartInside) (λ _. inside_some) bytes left s

pub part_reads : (bytes rest : List ℕ) → Begins (Spaced start) bytes tt rest → (r : Result (P × List ℕ) ℕ) → Reads PartInside rest r → Reads Part bytes r
part_reads bytes rest p r q = then_reads (Spaced start) (λ _. PartInside) spaced_start bytes rest tt p r q

pub part_unique : Unique Part
part_unique = then_unique (Spaced start) (λ _. PartInside) spaced_start (λ _. sums_unique (Either NumberFirst EtagFirst) inside_apart either_first)

pub part_some : Possible Part
part_some = then_some (Spaced start) (λ _. PartInside) (spaced_some start (record { value = tt; word = codes "<Part>"; spells = refl })) (λ _. inside_some)

-- a part is apart from what begins, behind white space, with another byte behind its `<`
pub part_apart : {B : Type 0} (F : B → List ℕ → Type 0) (t : List ℕ) (c : ℕ) → Heads F (60 ∷ c ∷ t) → 80 ≢ c → Apart Part (Spaced F)
part_apart F t c heads differs =
    apart_sym (Spaced F) Part (apart_then (Spaced F) (Spaced start) (λ _. PartInside) (apart_sym (Spaced start) (Spaced F)
    (spaced_apart start F start_opens (opens_heads F (c ∷ t) heads) (heads_apart start F (codes "<") (codes "art>") t 80 c (word_heads (codes "<Part>")) heads differs))))

pub part_shorter : (bytes rest : List ℕ) (part : P) → Begins Part bytes part rest → length rest < length bytes
part_shorter bytes rest part p =
    let f = p.spells in
    let s = spaced_shorter start start_opens bytes (f.tail ++ rest) tt (record { word = f.head; spells = f.heads; at = p.at ∙ ap (λ w. w ++ rest) f.at ∙ append_assoc f.head f.tail rest }) in
    omega (arith, s, length-append f.tail rest)
