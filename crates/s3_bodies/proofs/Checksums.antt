-- A checksum, whose end repeats its name.
use Rattle.std.proofs.Common.{ℕ, List, [], ◌++◌, length, refl, ◌∙◌, false, None, Result, Err, codes}
use Rattle.xml_forms.specs.Forms.{Begins, Stops, Reads, Then, Word, Unique, Possible, Opens}
use Rattle.xml_forms.specs.Runs.{has, IsRun, Sized}
use Rattle.xml_forms.specs.declared.class.Class.TheVariants.{Space, LetterOrDigit, Text}
use Rattle.xml_forms.proofs.lemmas.Choices.{Heads, then_heads}
use Rattle.xml_forms.proofs.lemmas.Readers.{any_run, opens_heads, run_reads, then_reads, word_heads}
use Rattle.xml_forms.proofs.lemmas.Runs.{ran_unique}
use Rattle.xml_forms.proofs.lemmas.Sequence.{then_stops, then_stops_first, then_unique, word_unique}
use Rattle.s3_bodies.specs.Completion.{Checksum, ChecksumEnd, ChecksumName, ChecksumText}

end_some : (name : List ℕ) → Possible (ChecksumEnd name)
end_some name = record {
  value = tt;
  word = codes "</Checksum" ++ (name ++ codes ">");
  spells = record {
    value = tt;
    head = codes "</Checksum";
    tail = name ++ codes ">";
    heads = refl;
    at = refl;
    tails = record { value = tt; head = name; tail = codes ">"; heads = refl; tails = refl; at = refl };
  };
}

text_some : (name : List ℕ) → Possible (ChecksumText name)
text_some name = let c = end_some name in record { value = tt; word = c.word; spells = record { run = []; tail = c.word; passes = refl; is_allowed = any_run []; tails = c.spells; at = refl } }

name_some : Possible ChecksumName
name_some = let c = text_some [] in record {
  value = tt;
  word = codes ">" ++ c.word;
  spells = record {
    run = [];
    tail = codes ">" ++ c.word;
    passes = refl;
    is_allowed = any_run [];
    at = refl;
    tails = record { value = tt; head = codes ">"; tail = c.word; heads = refl; tails = c.spells; at = refl };
  };
}

end_opens : (name : List ℕ) → Opens (has Text) (ChecksumEnd name)
end_opens name = record { at = λ b word f. (60, codes "/Checksum" ++ f.tail, f.at ∙ (λ i. f.heads i ++ f.tail), refl) }

tag_opens : (name : List ℕ) → Opens (has LetterOrDigit) (Then (Word (codes ">")) (λ _. ChecksumText name))
tag_opens name = record { at = λ b word f. (62, f.tail, f.at ∙ (λ i. f.heads i ++ f.tail), refl) }

pub end_breaks : (name bytes : List ℕ) (left : ℕ) → Stops (Word (codes "</Checksum")) bytes left → Stops (ChecksumEnd name) bytes left
end_breaks name bytes left s = then_stops_first (Word (codes "</Checksum")) (λ _. Then (Word name) (λ _. Word (codes ">")))
    (λ _. record { value = tt; word = name ++ codes ">"; spells = record { value = tt; head = name; tail = codes ">"; heads = refl; tails = refl; at = refl } }) bytes left s

pub name_breaks : (name bytes rest : List ℕ) (left : ℕ) → Begins (Word (codes "</Checksum")) bytes tt rest → Stops (Word name) rest left → Stops (ChecksumEnd name) bytes left
name_breaks name bytes rest left p s = then_stops (Word (codes "</Checksum")) (λ _. Then (Word name) (λ _. Word (codes ">"))) (word_unique (codes "</Checksum")) bytes rest tt left p
    (then_stops_first (Word name) (λ _. Word (codes ">")) (λ _. record { value = tt; word = codes ">"; spells = refl }) rest left s)

pub end_reads : (name bytes rest last : List ℕ) → Begins (Word (codes "</Checksum")) bytes tt rest → Begins (Word name) rest tt last → (r : Result (Unit {0} × List ℕ) ℕ) → Reads (Word (codes ">")) last r → Reads (ChecksumEnd name) bytes r
end_reads name bytes rest last p q r t =
    then_reads (Word (codes "</Checksum")) (λ _. Then (Word name) (λ _. Word (codes ">"))) (word_unique (codes "</Checksum")) bytes rest tt p r (then_reads (Word name) (λ _. Word (codes ">")) (word_unique name) rest last tt q r t)

pub text_reads : (name bytes run rest : List ℕ) → IsRun Text (length bytes) bytes run rest → (r : Result (Unit {0} × List ℕ) ℕ) → Reads (ChecksumEnd name) rest r → Reads (ChecksumText name) bytes r
text_reads name bytes run rest is r p = run_reads Text (λ _. ChecksumEnd name) (λ _. end_opens name) bytes run rest is r p

pub tag_breaks : (bytes run rest : List ℕ) (left : ℕ) → IsRun LetterOrDigit (length bytes) bytes run rest → Stops (Word (codes ">")) rest left → Stops ChecksumName bytes left
tag_breaks bytes run rest left is s =
    run_reads LetterOrDigit (λ name. Then (Word (codes ">")) (λ _. ChecksumText name)) tag_opens bytes run rest is (Err left) (then_stops_first (Word (codes ">")) (λ _. ChecksumText run) (λ _. text_some run) rest left s)

pub tag_reads : (bytes run rest inner : List ℕ) → IsRun LetterOrDigit (length bytes) bytes run rest → Begins (Word (codes ">")) rest tt inner → (r : Result (Unit {0} × List ℕ) ℕ) → Reads (ChecksumText run) inner r → Reads ChecksumName bytes r
tag_reads bytes run rest inner is p r q =
    run_reads LetterOrDigit (λ name. Then (Word (codes ">")) (λ _. ChecksumText name)) tag_opens bytes run rest is r (then_reads (Word (codes ">")) (λ _. ChecksumText run) (word_unique (codes ">")) rest inner tt p r q)

pub checksum_breaks : (bytes : List ℕ) (left : ℕ) → Stops (Word (codes "<Checksum")) bytes left → Stops Checksum bytes left
checksum_breaks bytes left s = then_stops_first (Word (codes "<Checksum")) (λ _. ChecksumName) (λ _. name_some) bytes left s

pub checksum_reads : (bytes rest : List ℕ) → Begins (Word (codes "<Checksum")) bytes tt rest → (r : Result (Unit {0} × List ℕ) ℕ) → Reads ChecksumName rest r → Reads Checksum bytes r
checksum_reads bytes rest p r q = then_reads (Word (codes "<Checksum")) (λ _. ChecksumName) (word_unique (codes "<Checksum")) bytes rest tt p r q

pub checksum_unique : Unique Checksum
checksum_unique = then_unique (Word (codes "<Checksum")) (λ _. ChecksumName) (word_unique (codes "<Checksum"))
    (λ _. ran_unique (has LetterOrDigit) (Sized false None) (λ name. Then (Word (codes ">")) (λ _. ChecksumText name)) tag_opens
    (λ name. then_unique (Word (codes ">")) (λ _. ChecksumText name) (word_unique (codes ">"))
    (λ _. ran_unique (has Text) (Sized false None) (λ _. ChecksumEnd name) (λ _. end_opens name)
    (λ _. then_unique (Word (codes "</Checksum")) (λ _. Then (Word name) (λ _. Word (codes ">"))) (word_unique (codes "</Checksum"))
    (λ _. then_unique (Word name) (λ _. Word (codes ">")) (word_unique name) (λ _. word_unique (codes ">")))))))

pub checksum_heads : Heads Checksum (codes "<Checksum")
checksum_heads = then_heads (Word (codes "<Checksum")) (λ _. ChecksumName) (codes "<Checksum") (word_heads (codes "<Checksum"))

pub checksum_opens : Opens (has Space) Checksum
checksum_opens = opens_heads Checksum (codes "Checksum") checksum_heads
