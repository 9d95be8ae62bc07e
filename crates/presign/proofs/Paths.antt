-- The path of a target, escaped: its slashes stand where they stood.
use Rattle.std.proofs.Common.{◌≡◌, ℕ, ◌+◌, ◌/◌, ◌%◌, ◌<◌, suc, Bool, true, false, cond, not, List, [], ◌∷◌, ◌++◌, refl, ap, sym, subst, ◌∙◌, inl, inr, arith}
use Rattle.std.specs.List.{position_or_len, before_first, after_first}
use Rattle.std.proofs.lemmas.Bool.{cases_Bool, and_from, and_parts, not-true, false≢true, eqb-true}
use Rattle.std.proofs.lemmas.Bool.Decides.{nat_tests}
use Rattle.std.proofs.lemmas.List.Elements.{All-head, All-tail, All-take, All-drop}
use Rattle.percent_encoding.specs.Percent.{percent_decode}
use Rattle.gate_base.specs.Ascii.{is_slash}
use Rattle.s3_names.specs.Escapes.{stays_in_path, upper_digit, escaped_unless, escaped_path}
use Rattle.s3_names.specs.Target.{begins_with_slash, is_path, bucket_text, key_text}
use Rattle.s3_names.proofs.lemmas.EscapeLemmas.{decoded_path}
use Rattle.sigv4.proofs.lemmas.Cuts.{is_free}
use Rattle.presign.specs.Laws.{IsBytes}
use Rattle.presign.proofs.Pieces.{reads}

place_past : (p : ℕ → Bool) (x : ℕ) (xs : List ℕ) → p x ≡ false → position_or_len p (x ∷ xs) ≡ suc (position_or_len p xs)
place_past p x xs e = ap (λ b. cond (not b) (1 + position_or_len p xs) 0) e ∙ omega arith

before_past : (p : ℕ → Bool) (x : ℕ) (xs : List ℕ) → p x ≡ false → before_first p (x ∷ xs) ≡ x ∷ before_first p xs
before_past p x xs e = rw (place_past p x xs e) refl

after_past : (p : ℕ → Bool) (x : ℕ) (xs : List ℕ) → p x ≡ false → after_first p (x ∷ xs) ≡ after_first p xs
after_past p x xs e =
    let more : suc (position_or_len p xs) + 1 ≡ suc (position_or_len p xs + 1) = omega arith in
    rw (place_past p x xs e, more) refl

-- a text without a separator before another
before_free : (p : ℕ → Bool) (xs ys : List ℕ) → is_free p xs ≡ true → before_first p (xs ++ ys) ≡ xs ++ before_first p ys
before_free p [] ys free = refl
before_free p (x ∷ xs) ys free =
    let parts = and_parts (not (p x)) (is_free p xs) free in
    before_past p x (xs ++ ys) (not-true (p x) parts.0) ∙ ap (λ t. x ∷ t) (before_free p xs ys parts.1)

after_free : (p : ℕ → Bool) (xs ys : List ℕ) → is_free p xs ≡ true → after_first p (xs ++ ys) ≡ after_first p ys
after_free p [] ys free = refl
after_free p (x ∷ xs) ys free =
    let parts = and_parts (not (p x)) (is_free p xs) free in
    after_past p x (xs ++ ys) (not-true (p x) parts.0) ∙ after_free p xs ys parts.1

digit_is_free : (d : ℕ) → d < 16 → not (is_slash (upper_digit d)) ≡ true
digit_is_free d small = grind (arith, nat_tests)

-- no other byte is escaped to a slash
escape_is_free : (byte : ℕ) → byte < 256 → is_slash byte ≡ false → is_free is_slash (escaped_unless stays_in_path byte) ≡ true
escape_is_free byte small other = by_test (stays_in_path byte)
  where
    by_test : (b : Bool) → is_free is_slash (cond b (byte ∷ []) (37 ∷ upper_digit (byte / 16) ∷ upper_digit (byte % 16) ∷ [])) ≡ true
    by_test true = and_from (not (is_slash byte)) true (ap not other) refl
    by_test false = and_from (not (is_slash (upper_digit (byte / 16)))) _ (digit_is_free (byte / 16) (omega arith)) (and_from (not (is_slash (upper_digit (byte % 16)))) true (digit_is_free (byte % 16) (omega arith)) refl)

-- a text is cut at its first slash as it is escaped
abbrev IsCut : List ℕ → Type 0
IsCut text = (before_first is_slash (escaped_path text) ≡ escaped_path (before_first is_slash text)) × (after_first is_slash (escaped_path text) ≡ escaped_path (after_first is_slash text))

cut_here : (text : List ℕ) → IsCut (47 ∷ text)
unfolding escaped_path
cut_here text = (refl, refl)

cut_past : (byte : ℕ) (text : List ℕ) → byte < 256 → is_slash byte ≡ false → IsCut text → IsCut (byte ∷ text)
unfolding escaped_path
cut_past byte text small other cut =
    let free = escape_is_free byte small other in
    let front : List ℕ = escaped_unless stays_in_path byte in (
      before_free is_slash front (escaped_path text) free ∙ (ap (λ t. front ++ t) cut.0 ∙ sym (ap escaped_path (before_past is_slash byte text other))),
      after_free is_slash front (escaped_path text) free ∙ (cut.1 ∙ sym (ap escaped_path (after_past is_slash byte text other))),
    )

cut_escaped : (text : List ℕ) → IsBytes text → IsCut text
unfolding escaped_path
cut_escaped [] small = (refl, refl)
cut_escaped (byte ∷ text) small =
    elim (cases_Bool (is_slash byte)) [
      | inl e ↦ subst (λ b. IsCut (b ∷ text)) (sym (eqb-true byte 47 e)) (cut_here text)
      | inr e ↦ cut_past byte text (All-head (λ b. b < 256) byte text small) e (cut_escaped text (All-tail (λ b. b < 256) byte text small))
    ]

-- an escaped path is one, of the same bucket and the same key
pub record IsKept (path : List ℕ) : Type 0 where
  pub fits : is_path (escaped_path path) ≡ true
  pub bucket : percent_decode (bucket_text (escaped_path path)) ≡ bucket_text path
  pub key : percent_decode (key_text (escaped_path path)) ≡ key_text path

kept_behind : (text : List ℕ) → IsBytes (47 ∷ text) → IsKept (47 ∷ text)
unfolding escaped_path
kept_behind text small =
    let rest : IsBytes text = All-tail (λ b. b < 256) 47 text small in
    let cut = cut_escaped text rest in
    let bucket : List ℕ = before_first is_slash text in
    let key : List ℕ = after_first is_slash text in
    record {
      fits = ap not (reads (escaped_path (47 ∷ text)) (47 ∷ text) (decoded_path (47 ∷ text) small)).0;
      bucket = ap percent_decode cut.0 ∙ (reads (escaped_path bucket) bucket (decoded_path bucket (All-take (λ b. b < 256) (position_or_len is_slash text) text rest))).1;
      key = ap percent_decode cut.1 ∙ (reads (escaped_path key) key (decoded_path key (All-drop (λ b. b < 256) (position_or_len is_slash text + 1) text rest))).1;
    }

pub path_kept : (path : List ℕ) → begins_with_slash path ≡ true → IsBytes path → IsKept path
path_kept [] slash small = absurd (false≢true slash)
path_kept (byte ∷ text) slash small =
    let same : byte ≡ 47 = eqb-true byte 47 slash in
    subst (λ b. IsKept (b ∷ text)) (sym same) (kept_behind text (subst (λ b. IsBytes (b ∷ text)) same small))
