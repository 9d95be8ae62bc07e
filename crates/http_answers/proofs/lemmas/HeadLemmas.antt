-- What a look at bytes shows of the head of an answer, and that 65,536 bytes have room for no more than 21,846 header lines.
use Rattle.std.proofs.Common.{◌≡◌, ℕ, ◌*◌, ◌<◌, ◌≤◌, List, [], ◌∷◌, ◌++◌, length, take, drop, refl, sym, ap, subst, ◌∙◌, All, map, length-append, arith, inl, inr}
use Rattle.std.specs.Prelude.{flat_map}
use Rattle.std.specs.Char.{to_ascii_lowercase}
use Rattle.std.proofs.lemmas.List.Elements.{All-head, All-tail}
use Rattle.httparse.specs.declared.spans.HeaderSpan.{HeaderSpan}
use Rattle.httparse.specs.declared.spans.ResponseSpans.{ResponseSpans}
use Rattle.httparse.specs.Grammar.{LineEnd, crlf, lf, print_end, print_blank, print_version, print_reason, Field, print_field, IsField, print_section, ResponseHead, print_response, IsResponseHead, HasNoResponse, NeverHasResponse, MayBecomeResponse}
use Rattle.httparse.specs.Spans.{AreFieldsAt, header_bytes, name_and_value, IsResponseOf, IsResponseWithin, ResponseOverflows, ResponseExceeds}
use Rattle.httparse.proofs.GrammarLemmas.{response_unique, ReadsResponse-append}
use Rattle.http_answers.specs.Framing.{HasHead, HasNoHead}
use Rattle.http_answers.specs.Head.{IsDead, IsHeadAt, Shows}
use Rattle.http_answers.specs.declared.head.Head.{Head}
use Rattle.http_answers.specs.declared.head.Front.TheVariants.{Whole}
use Rattle.gate_base.specs.declared.page.Pair.{Pair}
use Rattle.http_wire.specs.FirstMessage.{header_of}
use Rattle.http_wire.specs.Headers.{header_at}

-- ---- room for header lines

end_len : (e : LineEnd) → 1 ≤ length (print_end e)
end_len crlf = omega arith
end_len lf = omega arith

line_len : (f : Field) → IsField f → 3 ≤ length (print_field f)
line_len f fine =
    omega (arith, fine.name.0, end_len f.end, length-append (f.name ++ 58 ∷ f.raw) (print_end f.end), length-append f.name (58 ∷ f.raw))

lines_len : (fs : List Field) → All IsField fs → 3 * length fs ≤ length (flat_map print_field fs)
lines_len [] fine = omega arith
lines_len (f ∷ fs) fine =
    omega (
      arith,
      line_len f (All-head IsField f fs fine),
      lines_len fs (All-tail IsField f fs fine),
      length-append (print_field f) (flat_map print_field fs),
    )

-- a head has three bytes at least for each header line
head_len : (h : ResponseHead) → IsResponseHead h → 3 * length h.fields ≤ length (print_response h)
unfolding print_response
head_len h fine =
    omega (
      arith,
      lines_len h.fields fine.fields,
      length-append (print_blank h.blank ++ print_version h.minor ++ 32 ∷ h.digits ++ print_reason h.reason ++ print_end h.line_end) (print_section h.fields h.last),
      length-append (flat_map print_field h.fields) (print_end h.last),
    )

-- ---- looks

pub none_of_never : (bytes : List ℕ) → NeverHasResponse bytes → HasNoResponse bytes
none_of_never bytes gone h rest reads = gone [] h (rest ++ []) (ReadsResponse-append bytes h rest [] reads)

pub no_head : (bytes : List ℕ) → HasNoResponse bytes → HasNoHead bytes
no_head bytes none h n has = none h (drop n bytes) has.0

-- an error about the bytes
pub dead_never : (bytes : List ℕ) → NeverHasResponse bytes → IsDead bytes
dead_never bytes never = (no_head bytes (none_of_never bytes never), inl never)

-- no head, in as many bytes as one may have
pub dead_none : (bytes : List ℕ) → HasNoResponse bytes → 65536 ≤ length bytes → IsDead bytes
dead_none bytes none long = (no_head bytes none, inr long)

-- a head that is too long
pub dead_long : (bytes : List ℕ) (headers : List HeaderSpan) (spans : ResponseSpans) → IsResponseOf bytes headers spans
    → IsResponseWithin bytes headers spans → 65536 < spans.len → IsDead bytes
dead_long bytes headers spans (h, at) within long = (none, inr (omega (arith, within.section.len_fits, long)))
  where
    none : HasNoHead bytes
    none k n has =
        let same = (response_unique bytes h k _ _ at.reads has.0).0 in
        omega (arith, at.len, has.1, has.2, long, ap (λ v. length (print_response v)) same)

-- a head that can still come
pub lives : (bytes : List ℕ) → MayBecomeResponse bytes → ¬ (NeverHasResponse bytes)
lives bytes (more, h, reads) never = never more h [] reads

-- more header lines than there is room for
pub dead_crowded : (room : ℕ) (bytes : List ℕ) → 21846 ≤ room → ResponseOverflows room bytes → ResponseExceeds room bytes → IsDead bytes
dead_crowded room bytes enough over (front, rest, parts, h, reads, many) = (none, inr long)
  where
    none : HasNoHead bytes
    none k n has =
        omega (
          arith,
          enough,
          over [] k (drop n bytes ++ []) (ReadsResponse-append bytes k (drop n bytes) [] has.0),
          head_len k has.0.0,
          has.1,
          has.2,
        )

    long : 65536 ≤ length bytes
    long =
        omega (
          arith,
          enough,
          many,
          head_len h reads.0,
          ap length parts,
          length-append front rest,
          ap length reads.1,
          length-append front (10 ∷ []),
          length-append (print_response h) [],
        )

-- ---- the head that spans cover

-- the header of a name and a value
abbrev pair_of : List ℕ × List ℕ → Pair
pair_of p = record { name = map to_ascii_lowercase p.0; value = p.1 }

map_twice : {A B C : Type 0} (f : A → B) (g : B → C) (xs : List A) → map g (map f xs) ≡ map (λ x. g (f x)) xs
map_twice f g [] = refl
map_twice f g (x ∷ xs) = ap (λ v. g (f x) ∷ v) (map_twice f g xs)

-- the spans of a head's fields give the headers of the head
pub headers_of : (bytes : List ℕ) (headers : List HeaderSpan) (count : ℕ) (fields : List Field)
    → AreFieldsAt bytes headers count fields → map (header_at bytes) (take count headers) ≡ map header_of fields
headers_of bytes headers count fields are =
    sym (map_twice (header_bytes bytes) pair_of (take count headers)) ∙ ap (map pair_of) are
    ∙ map_twice name_and_value pair_of fields

-- a whole head, by the spans that were found
pub shows_whole : (bytes : List ℕ) (headers : List HeaderSpan) (spans : ResponseSpans) (found : Head) → IsResponseOf bytes headers spans
    → spans.len ≤ 65536 → IsHeadAt bytes headers spans found → Shows bytes (Whole found)
shows_whole bytes headers spans found (h, at) short is =
    let parts = is h at in
    let has : HasHead bytes h spans.len = (at.reads, at.len, short) in
    (h, subst (HasHead bytes h) (sym parts.2) has, parts.0, parts.1)
