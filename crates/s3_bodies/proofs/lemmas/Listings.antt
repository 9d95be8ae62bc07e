-- What a body lists is what it spells.
use Rattle.std.proofs.Common.{◌≡◌, ◌≤◌, ◌<◌, ℕ, Bool, true, false, inl, List, [], ◌∷◌, ◌++◌, length, map, nat_le, refl, sym, ◌∙◌, ap, subst, None, Some, Result, Ok, Err, cond, codes, arith}
use Rattle.std.specs.Str.Parse.{digits_value}
use Rattle.std.proofs.lemmas.Bool.Decides.{nat_tests}
use Rattle.std.proofs.lemmas.List.{append-nil, length-append, length-map}
use Rattle.xml_forms.specs.Forms.{Either, Exactly, Many, Then, Word}
use Rattle.xml_forms.specs.Runs.{has, Element, Spaced}
use Rattle.xml_forms.specs.declared.class.Class.TheVariants.{Digit, LetterOrDigit, Dashed, Text}
use Rattle.s3_machine.specs.declared.operation.Listed.{Listed}
use Rattle.s3_machine.specs.declared.limits.TheConstants.{MOST_PARTS}
use Rattle.s3_bodies.specs.Completion.{Number, Quote, QuotedEnd, Quoted, Bare, Etag, EtagText, etag_end, ChecksumEnd, ChecksumText, ChecksumName, Checksum, Checksums, PartEnd, PartLast, EtagThen, NumberThen, NumberFirst, EtagFirst, PartInside, Part, PartsEnd, Parts, Completion, IsCompletion, completion_start, completion_end, listed_of, AnswersCompletion}
use Rattle.s3_bodies.specs.Values.{exactly, words, either, joined, behind_run, spaced, elements, many, documents}
use Rattle.s3_bodies.specs.Listed.{numbers, quotes, quoted_ends, quoteds, bares, etags, checksum_ends, checksum_texts, checksum_names, checksums, past_checksums, part_lasts, number_firsts, etag_firsts, parts, parts_ends, all_parts, completions, listed_by, listed_in, TellsListed}
use Rattle.s3_bodies.specs.declared.fault.BodyFault.{BodyFault}
use Rattle.s3_bodies.specs.declared.fault.BodyFault.TheVariants.{NotTheBody, TooMany, Memory}
use Rattle.s3_bodies.proofs.CompletionLemmas.{completion_unique}
use Rattle.s3_bodies.proofs.ValuesLemmas.{Among, Values, exactly_values, word_values, either_values, valued_values, then_values, run_values, spaced_values, element_values, many_values, document_values, whole_values}

-- ---- the elements of a part

numbers_values : Values Number numbers
numbers_values = valued_values (digits_value 10) (Element (codes "<PartNumber>") Digit true (Some 9) (codes "</PartNumber>")) (elements (codes "<PartNumber>") Digit true (Some 9) (codes "</PartNumber>"))
    (element_values (codes "<PartNumber>") Digit true (Some 9) (codes "</PartNumber>"))

quotes_values : Values Quote quotes
quotes_values = either_values (Word (codes "\"")) (Either (Word (codes "&quot;")) (Word (codes "&#34;"))) (words (codes "\"")) (either (words (codes "&quot;")) (words (codes "&#34;"))) (word_values (codes "\""))
    (either_values (Word (codes "&quot;")) (Word (codes "&#34;")) (words (codes "&quot;")) (words (codes "&#34;")) (word_values (codes "&quot;")) (word_values (codes "&#34;")))

quoted_ends_values : (text : List ℕ) → Values (QuotedEnd text) (quoted_ends text)
quoted_ends_values text = then_values Quote (λ _. Exactly text etag_end) quotes (λ _. exactly text etag_end) quotes_values (λ _. exactly_values text etag_end)

quoteds_values : Values Quoted quoteds
quoteds_values = then_values Quote (λ _. EtagText QuotedEnd) quotes (λ _. behind_run (has Dashed) true (Some 64) quoted_ends) quotes_values
    (λ _. run_values (has Dashed) true (Some 64) QuotedEnd quoted_ends quoted_ends_values)

etags_values : Values Etag etags
etags_values = then_values (Word (codes "<ETag>")) (λ _. Either Bare Quoted) (words (codes "<ETag>")) (λ _. either bares quoteds) (word_values (codes "<ETag>"))
    (λ _. either_values Bare Quoted bares quoteds (element_values [] Dashed true (Some 64) etag_end) quoteds_values)

checksum_ends_values : (name : List ℕ) → Values (ChecksumEnd name) (checksum_ends name)
checksum_ends_values name =
    then_values (Word (codes "</Checksum")) (λ _. Then (Word name) (λ _. Word (codes ">"))) (words (codes "</Checksum")) (λ _. joined (words name) (λ _. words (codes ">"))) (word_values (codes "</Checksum"))
    (λ _. then_values (Word name) (λ _. Word (codes ">")) (words name) (λ _. words (codes ">")) (word_values name) (λ _. word_values (codes ">")))

checksum_texts_values : (name : List ℕ) → Values (ChecksumText name) (checksum_texts name)
checksum_texts_values name = run_values (has Text) false None (λ _. ChecksumEnd name) (λ _. checksum_ends name) (λ _. checksum_ends_values name)

checksum_names_values : Values ChecksumName checksum_names
checksum_names_values =
    run_values (has LetterOrDigit) false None (λ name. Then (Word (codes ">")) (λ _. ChecksumText name)) (λ name. joined (words (codes ">")) (λ _. checksum_texts name))
    (λ name. then_values (Word (codes ">")) (λ _. ChecksumText name) (words (codes ">")) (λ _. checksum_texts name) (word_values (codes ">")) (λ _. checksum_texts_values name))

checksums_values : Values Checksum checksums
checksums_values = then_values (Word (codes "<Checksum")) (λ _. ChecksumName) (words (codes "<Checksum")) (λ _. checksum_names) (word_values (codes "<Checksum")) (λ _. checksum_names_values)

-- ---- no item is empty

pub head_some : (k : ℕ) (word head tail : List ℕ) → 0 < k → length head ≡ k → word ≡ head ++ tail → 0 < length word
head_some k word head tail some long at = omega (arith, some, long, ap length at, length-append head tail)

pub tail_some : (word head tail : List ℕ) → 0 < length tail → word ≡ head ++ tail → 0 < length word
tail_some word head tail some at = omega (arith, some, ap length at, length-append head tail)

checksum_some : (a : Unit {0}) (word : List ℕ) → Spaced Checksum a word → 0 < length word
checksum_some a word s = tail_some word s.run s.tail (head_some 9 s.tail s.tails.head s.tails.tail (omega arith) (ap length s.tails.heads) s.tails.at) s.at

part_some : (a : ℕ × List ℕ) (word : List ℕ) → Part a word → 0 < length word
part_some a word p = head_some (length p.head) word p.head p.tail (tail_some p.head p.heads.run p.heads.tail (head_some 6 p.heads.tail p.heads.tail [] (omega arith) (ap length p.heads.tails) refl-append) p.heads.at) refl p.at
  where
    refl-append : p.heads.tail ≡ p.heads.tail ++ []
    refl-append = sym (append-nil p.heads.tail)

past_values : {A : Type 0} (F : A → List ℕ → Type 0) (f : List ℕ → List A) → Values F f → Values (Checksums F) (past_checksums f)
past_values F f of = many_values (Spaced Checksum) (spaced checksums) (λ _. F) (λ _. f) checksum_some (spaced_values Checksum checksums checksums_values) (λ _. of)

-- ---- a part

part_lasts_values : (part : ℕ × List ℕ) → Values (PartLast part) (part_lasts part)
part_lasts_values part = past_values (PartEnd part) (spaced (exactly part (codes "</Part>"))) (spaced_values (Exactly part (codes "</Part>")) (exactly part (codes "</Part>")) (exactly_values part (codes "</Part>")))

number_firsts_values : Values NumberFirst number_firsts
number_firsts_values =
    then_values (Spaced Number) (λ number. Checksums (EtagThen number)) (spaced numbers) (λ number. past_checksums (joined (spaced etags) (λ etag. part_lasts (number, etag)))) (spaced_values Number numbers numbers_values)
    (λ number. past_values (EtagThen number) (joined (spaced etags) (λ etag. part_lasts (number, etag)))
    (then_values (Spaced Etag) (λ etag. PartLast (number, etag)) (spaced etags) (λ etag. part_lasts (number, etag)) (spaced_values Etag etags etags_values) (λ etag. part_lasts_values (number, etag))))

etag_firsts_values : Values EtagFirst etag_firsts
etag_firsts_values =
    then_values (Spaced Etag) (λ etag. Checksums (NumberThen etag)) (spaced etags) (λ etag. past_checksums (joined (spaced numbers) (λ number. part_lasts (number, etag)))) (spaced_values Etag etags etags_values)
    (λ etag. past_values (NumberThen etag) (joined (spaced numbers) (λ number. part_lasts (number, etag)))
    (then_values (Spaced Number) (λ number. PartLast (number, etag)) (spaced numbers) (λ number. part_lasts (number, etag)) (spaced_values Number numbers numbers_values) (λ number. part_lasts_values (number, etag))))

parts_values : Values Part parts
parts_values =
    then_values (Spaced (Word (codes "<Part>"))) (λ _. PartInside) (spaced (words (codes "<Part>"))) (λ _. past_checksums (either number_firsts etag_firsts))
    (spaced_values (Word (codes "<Part>")) (words (codes "<Part>")) (word_values (codes "<Part>")))
    (λ _. past_values (Either NumberFirst EtagFirst) (either number_firsts etag_firsts) (either_values NumberFirst EtagFirst number_firsts etag_firsts number_firsts_values etag_firsts_values))

-- ---- a completion

parts_ends_values : (all : List (ℕ × List ℕ)) → Values (PartsEnd all) (parts_ends all)
parts_ends_values all = spaced_values (Exactly all completion_end) (exactly all completion_end) (exactly_values all completion_end)

all_parts_values : Values Parts all_parts
all_parts_values =
    then_values Part (λ first. Many Part (λ more. PartsEnd (first ∷ more))) parts (λ first. many parts (λ more. parts_ends (first ∷ more))) parts_values
    (λ first. many_values Part parts (λ more. PartsEnd (first ∷ more)) (λ more. parts_ends (first ∷ more)) part_some parts_values (λ more. parts_ends_values (first ∷ more)))

completions_values : Values IsCompletion completions
unfolding completions
completions_values = whole_values Completion (documents completion_start all_parts) (document_values completion_start Parts all_parts all_parts_values)

-- ---- the list

same_parts : (a b : List (ℕ × List ℕ)) (bytes : List ℕ) → IsCompletion a bytes → IsCompletion b bytes → a ≡ b
same_parts a b bytes x y = (completion_unique.one a b x.word y.word x.tail y.tail x.spells y.spells (sym x.at ∙ y.at)).0

listed_few : (all : List (ℕ × List ℕ)) (others : List (List (ℕ × List ℕ))) → length all ≤ MOST_PARTS → listed_by (all ∷ others) ≡ Some (map listed_of all)
listed_few all others few = ap (λ b. cond b (Some (map listed_of all)) None) (let t : nat_le (length all) MOST_PARTS ≡ true = grind (arith, nat_tests) in t)

listed_many : (all : List (ℕ × List ℕ)) (others : List (List (ℕ × List ℕ))) → MOST_PARTS < length all → listed_by (all ∷ others) ≡ None
listed_many all others many = ap (λ b. cond b (Some (map listed_of all)) None) (let t : nat_le (length all) MOST_PARTS ≡ false = grind (arith, nat_tests) in t)

few_listed : (found : List (List (ℕ × List ℕ))) (all : List (ℕ × List ℕ)) (bytes : List ℕ) → found ≡ completions bytes → IsCompletion all bytes → length all ≤ MOST_PARTS → listed_by found ≡ Some (map listed_of all)
unfolding Among
few_listed [] all bytes e is few = absurd (subst (λ l. Among l all) (sym e) (completions_values.complete all bytes is))
few_listed (first ∷ others) all bytes e is few =
    let first_is : IsCompletion first bytes = completions_values.sound bytes first (subst (λ l. Among l first) e (inl refl)) in
    subst (λ l. listed_by (l ∷ others) ≡ Some (map listed_of all)) (same_parts all first bytes is first_is) (listed_few all others few)

many_listed : (found : List (List (ℕ × List ℕ))) (all : List (ℕ × List ℕ)) (bytes : List ℕ) → found ≡ completions bytes → IsCompletion all bytes → MOST_PARTS < length all → listed_by found ≡ None
unfolding Among
many_listed [] all bytes e is many = refl
many_listed (first ∷ others) all bytes e is many =
    let first_is : IsCompletion first bytes = completions_values.sound bytes first (subst (λ l. Among l first) e (inl refl)) in
    subst (λ l. listed_by (l ∷ others) ≡ None) (same_parts all first bytes is first_is) (listed_many all others many)

none_listed : (found : List (List (ℕ × List ℕ))) (bytes : List ℕ) → found ≡ completions bytes → (((all : List (ℕ × List ℕ)) × IsCompletion all bytes) → ⊥) → listed_by found ≡ None
unfolding Among
none_listed [] bytes e none = refl
none_listed (first ∷ others) bytes e none = absurd (none (first, completions_values.sound bytes first (subst (λ l. Among l first) e (inl refl))))

pub listed_tells : (bytes : List ℕ) (result : Result (List Listed) BodyFault) → AnswersCompletion bytes result → TellsListed bytes result
unfolding listed_in
listed_tells bytes (Ok list) is = few_listed (completions bytes) is.0 bytes refl is.1 is.2 ∙ ap Some (sym is.3)
listed_tells bytes (Err (NotTheBody n)) is = none_listed (completions bytes) bytes refl is.none
listed_tells bytes (Err TooMany) is = many_listed (completions bytes) is.0 bytes refl is.1 is.2
listed_tells bytes (Err Memory) is = tt

-- ---- the limits

parts_filled : (all : List (ℕ × List ℕ)) (bytes : List ℕ) → IsCompletion all bytes → 1 ≤ length all
parts_filled all bytes is =
    let ends = is.spells.tails.tails.tails.tails.0 in
    omega (arith, ap length ends)

record IsListed (bytes : List ℕ) (list : List Listed) : Type 0 where
  pub filled : 1 ≤ length list
  pub few : length list ≤ MOST_PARTS

listed_at : (found : List (List (ℕ × List ℕ))) (bytes : List ℕ) (list : List Listed) → found ≡ completions bytes → listed_by found ≡ Some list → IsListed bytes list
unfolding Among
listed_at [] bytes list e h = cc
listed_at (first ∷ others) bytes list e h =
    let first_is : IsCompletion first bytes = completions_values.sound bytes first (subst (λ l. Among l first) e (inl refl)) in
    by_few (nat_le (length first) MOST_PARTS) refl h (parts_filled first bytes first_is)
  where
    by_few : (b : Bool) → nat_le (length first) MOST_PARTS ≡ b → cond b (Some (map listed_of first)) None ≡ Some list → 1 ≤ length first → IsListed bytes list
    by_few true t s some =
        let same : map listed_of first ≡ list = cc in
        record { filled = omega (arith, some, sym (ap length same), length-map first listed_of); few = (let few : length first ≤ MOST_PARTS = grind (arith, nat_tests) in omega (arith, few, sym (ap length same), length-map first listed_of)) }
    by_few false t s some = cc

-- a list that a body has is of at least one part, and of no more than an upload has
pub listed_filled : (bytes : List ℕ) (list : List Listed) → listed_in bytes ≡ Some list → 1 ≤ length list
unfolding listed_in
listed_filled bytes list h = (listed_at (completions bytes) bytes list refl h).filled

pub listed_few_parts : (bytes : List ℕ) (list : List Listed) → listed_in bytes ≡ Some list → length list ≤ MOST_PARTS
unfolding listed_in
listed_few_parts bytes list h = (listed_at (completions bytes) bytes list refl h).few
