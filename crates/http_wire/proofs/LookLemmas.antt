-- What a look at the first bytes shows: every prefix of bytes that can go on can go on, and a head of 16,384 bytes has
-- room for no more than 8,192 header lines.
use Rattle.std.proofs.Common.{◌≡◌, ◌≢◌, ℕ, suc, ◌+◌, ◌-◌, ◌*◌, ◌<◌, ◌≤◌, true, List, [], ◌∷◌, ◌++◌, length, take, drop, refl, sym, ap, subst, ◌∙◌, All, append_assoc, length-append, take-append-drop, arith, inl, inr, ⊎_elim}
use Rattle.std.specs.Prelude.{◌==◌, flat_map}
use Rattle.std.proofs.lemmas.Bool.{and_parts, and_from, ltb-true, ne_eqb, not_from_false, cases_lt}
use Rattle.std.proofs.lemmas.List.Elements.{All-cons, All-nil, All-head, All-tail, All-take, All-weaker}
use Rattle.std.proofs.lemmas.List.{take-append-le}
use Rattle.std.proofs.Math.Seq.{take-append-add}
use Rattle.httparse.specs.declared.Error.{Error}
use Rattle.httparse.specs.declared.Error.TheVariants.{TooManyHeaders}
use Rattle.httparse.specs.Grammar.{is_token_byte, is_uri_byte, IsToken, LineEnd, crlf, lf, print_end, print_blank, print_version, Field, print_field, IsField, print_section, RequestHead, print_request, IsRequestHead, ReadsRequest, HasNoRequest, NeverHasRequest, EndsInTarget, MayBecomeRequest}
use Rattle.httparse.specs.Spans.{RequestExceeds}
use Rattle.httparse.proofs.GrammarLemmas.{print_request-append}
use Rattle.httparse.proofs.OpenLemmas.{letter_is_token}
use Rattle.http_wire.specs.FirstMessage.{stays_in_target, EndsInside, CannotBecomeHead, HasDeadPrefix}

-- ---- room for header lines

end_len : (e : LineEnd) → 1 ≤ length (print_end e)
end_len crlf = omega arith
end_len lf = omega arith

line_len : (f : Field) → IsField f → 3 ≤ length (print_field f)
line_len f fine =
    omega (arith, fine.name.0, end_len f.end, length-append (f.name ++ 58 ∷ f.raw) (print_end f.end), length-append f.name (58 ∷ f.raw))

lines_len : (fs : List Field) → All IsField fs → 3 * length fs ≤ length (flat_map print_field fs)
lines_len [] fine = omega arith
lines_len (f ∷ fs) fine =
    omega (
      arith,
      line_len f (All-head IsField f fs fine),
      lines_len fs (All-tail IsField f fs fine),
      length-append (print_field f) (flat_map print_field fs),
    )

-- a head has three bytes at least for each header line
head_len : (h : RequestHead) → IsRequestHead h → 3 * length h.fields ≤ length (print_request h)
unfolding print_request
head_len h fine =
    omega (
      arith,
      lines_len h.fields fine.fields,
      length-append (print_blank h.blank ++ h.method ++ 32 ∷ h.target ++ 32 ∷ print_version h.minor ++ print_end h.line_end) (print_section h.fields h.last),
      length-append (flat_map print_field h.fields) (print_end h.last),
    )

-- there is room for the header lines of so few bytes
roomy : (room : ℕ) (bytes : List ℕ) → 8192 ≤ room → length bytes ≤ 16384 → ¬ (RequestExceeds room bytes)
roomy room bytes enough short (front, rest, parts, h, reads, many) =
    omega (
      arith,
      enough,
      short,
      many,
      head_len h reads.0,
      ap length parts,
      length-append front rest,
      ap length reads.1,
      length-append front (10 ∷ []),
      length-append (print_request h) [],
    )

-- so any error of the parser is about the bytes
pub never : (room : ℕ) (bytes : List ℕ) (e : Error) → 8192 ≤ room → length bytes ≤ 16384
    → (e ≢ TooManyHeaders → NeverHasRequest bytes) → (e ≡ TooManyHeaders → RequestExceeds room bytes)
    → NeverHasRequest bytes
never room bytes e enough short invalid many = invalid (λ is. roomy room bytes enough short (many is))

pub none_of_never : (bytes : List ℕ) → NeverHasRequest bytes → HasNoRequest bytes
none_of_never bytes gone h rest reads =
    gone [] h (rest ++ []) (reads.0, ap (λ v. v ++ []) reads.1 ∙ append_assoc (print_request h) rest [])

-- ---- bytes that can go on

-- what a method goes on with, to a whole head
abbrev ending : List ℕ
ending = 32 ∷ 47 ∷ 32 ∷ (print_version 1 ++ 10 ∷ 10 ∷ [])

abbrev shortest : List LineEnd → List ℕ → RequestHead
shortest blank method = record { blank = blank; method = method; target = 47 ∷ []; minor = 1; line_end = lf; fields = []; last = lf }

shortest_fine : (blank : List LineEnd) (method : List ℕ) → IsToken method → IsRequestHead (shortest blank method)
unfolding lib.Utf8.encode
shortest_fine blank method token = record {
  method = token;
  target = (omega arith, All-cons (λ b. is_uri_byte b ≡ true) 47 [] refl (All-nil (λ b. is_uri_byte b ≡ true)));
  target_text = (47 ∷ [], (refl, refl));
  minor = omega arith;
  fields = All-nil IsField;
}

shortest_reads : (blank : List LineEnd) (method : List ℕ) → IsToken method
    → ReadsRequest ((print_blank blank ++ method) ++ ending) (shortest blank method) []
shortest_reads blank method token = (
  shortest_fine blank method token,
  append_assoc (print_blank blank) method ending ∙ sym (print_request-append (shortest blank method) []),
)

-- a prefix of bytes that a head begins with is not dead
pub begun_lives : (bytes more : List ℕ) (h : RequestHead) → ReadsRequest (bytes ++ more) h [] → (n : ℕ) → ¬ (CannotBecomeHead (take n bytes))
begun_lives bytes more h reads n dead =
    dead.0 (drop n bytes ++ more) h []
    (reads.0, sym (append_assoc (take n bytes) (drop n bytes) more) ∙ ap (λ v. v ++ more) (take-append-drop n bytes) ∙ reads.1)

-- nor is a prefix of bytes that end inside a target
pub inside_lives : (bytes : List ℕ) → EndsInside bytes → (n : ℕ) → ¬ (CannotBecomeHead (take n bytes))
inside_lives bytes (blank, method, target, token, stays, e) n dead =
    ⊎_elim early late (cases_lt (length line) n)
  where
    line : List ℕ
    line = print_blank blank ++ method

    late : n ≤ length line → ⊥
    late short = begun_lives line ending (shortest blank method) (shortest_reads blank method token) n
        (subst CannotBecomeHead (ap (take n) e ∙ take-append-le n line (32 ∷ target) short) dead)

    early : length line < n → ⊥
    early long =
        let k : ℕ = n - length line - 1 in
        let split : n ≡ length line + suc k = omega (arith, long) in
        dead.1 (
          blank,
          method,
          take k target,
          token,
          All-take (λ b. stays_in_target b ≡ true) k target stays,
          ap (take n) e ∙ ap (λ v. take v (line ++ 32 ∷ target)) split ∙ take-append-add line (32 ∷ target) (suc k),
        )

uri_stays : (b : ℕ) → is_uri_byte b ≡ true → stays_in_target b ≡ true
uri_stays b uri =
    let above : 32 < b = ltb-true 32 b (and_parts _ _ uri).0 in
    and_from _ _ (not_from_false (b == 32) (ne_eqb b 32 (λ e. omega (arith, above, e))))
    (and_from _ _ (not_from_false (b == 13) (ne_eqb b 13 (λ e. omega (arith, above, e))))
    (not_from_false (b == 10) (ne_eqb b 10 (λ e. omega (arith, above, e)))))

in_target_inside : (bytes : List ℕ) → EndsInTarget bytes → EndsInside bytes
in_target_inside bytes (blank, method, target, token, uri, e) = (
  blank,
  method,
  target,
  token,
  All-weaker (λ b. is_uri_byte b ≡ true) (λ b. stays_in_target b ≡ true) uri_stays target uri,
  e,
)

-- bytes that the parser would go on with have no dead prefix
pub partial_lives : (bytes : List ℕ) → MayBecomeRequest bytes → ¬ (HasDeadPrefix bytes)
partial_lives bytes (inl (more, h, reads)) (n, short, dead) = begun_lives bytes more h reads n dead
partial_lives bytes (inr inside) (n, short, dead) = inside_lives bytes (in_target_inside bytes inside) n dead

pub inside_has_none : (bytes : List ℕ) → EndsInside bytes → ¬ (HasDeadPrefix bytes)
inside_has_none bytes inside (n, short, dead) = inside_lives bytes inside n dead

-- a head has a byte
pub head_has_byte : (h : RequestHead) → 0 < length (print_request h)
unfolding print_request
head_has_byte h =
    omega (
      arith,
      end_len h.last,
      length-append (print_blank h.blank ++ h.method ++ 32 ∷ h.target ++ 32 ∷ print_version h.minor ++ print_end h.line_end) (print_section h.fields h.last),
      length-append (flat_map print_field h.fields) (print_end h.last),
    )

-- no byte at all can go on
pub nothing_lives : (bytes : List ℕ) → bytes ≡ [] → ¬ (HasDeadPrefix bytes)
nothing_lives bytes none (n, short, dead) =
    begun_lives bytes ((print_blank [] ++ 65 ∷ []) ++ ending) (shortest [] (65 ∷ []))
    (subst (λ v. ReadsRequest (v ++ ((print_blank [] ++ 65 ∷ []) ++ ending)) (shortest [] (65 ∷ [])) []) (sym none)
    (shortest_reads [] (65 ∷ []) (omega arith, All-cons (λ b. is_token_byte b ≡ true) 65 [] letter_is_token (All-nil (λ b. is_token_byte b ≡ true))))) n dead
