-- Escaping byte by byte, and of texts in which nothing is to be escaped.
use Rattle.std.proofs.Common.{◌≡◌, ℕ, ◌+◌, ◌<◌, Bool, true, false, cond, List, [], ◌∷◌, ◌++◌, length, take, get_or, refl, sym, ap, ◌∙◌, append-nil, true≢false}
use Rattle.std.specs.Prelude.{◌==◌, nat_lt, codes, decimal}
use Rattle.std.proofs.lemmas.Bool.{and_parts}
use Rattle.std.proofs.lemmas.List.{flat_map_more, take_more}
use Rattle.std.specs.List.{flat_map, list_all}
use Rattle.s3_pages.specs.Xml.{escape_of, escaped, is_plain}

-- nothing is escaped to nothing
pub append-escaped_nil : (bs : List ℕ) → bs ++ escaped [] ≡ bs
unfolding escaped
append-escaped_nil bs = append-nil bs

-- one more byte
pub append-escaped_more : (bs text : List ℕ) (i : ℕ) → i < length text → (bs ++ escaped (take i text)) ++ escape_of (get_or text i 0) ≡ bs ++ escaped (take (i + 1) text)
unfolding escaped
append-escaped_more bs text i h = flat_map_more escape_of bs (take i text) (get_or text i 0) ∙ ap (λ (xs : List ℕ). bs ++ flat_map escape_of xs) (sym (take_more text i 0 h))

pub ruleset escapes = (append-escaped_nil, append-escaped_more)

plain_byte : (byte : ℕ) → is_plain byte ≡ true → escape_of byte ≡ byte ∷ []
plain_byte byte = by (byte == 38) (byte == 60) (byte == 62) (byte == 34) (nat_lt byte 32)
  where
    by : (amp lt gt quot low : Bool) → cond amp false (cond lt false (cond gt false (cond quot false (cond low false true)))) ≡ true
        → cond amp (codes "&amp;") (cond lt (codes "&lt;") (cond gt (codes "&gt;") (cond quot (codes "&quot;") (cond low (codes "&#" ++ decimal byte ++ codes ";") (byte ∷ [])))))
        ≡ byte ∷ []
    by true lt gt quot low is = absurd (true≢false (sym is))
    by false true gt quot low is = absurd (true≢false (sym is))
    by false false true quot low is = absurd (true≢false (sym is))
    by false false false true low is = absurd (true≢false (sym is))
    by false false false false true is = absurd (true≢false (sym is))
    by false false false false false is = refl

plain_text : (text : List ℕ) → list_all is_plain text ≡ true → text ≡ escaped text
unfolding escaped
plain_text [] is = refl
plain_text (byte ∷ text) is =
    let parts = and_parts (is_plain byte) (list_all is_plain text) is in
    ap (λ rest. byte ∷ rest) (plain_text text parts.1) ∙ ap (λ front. front ++ flat_map escape_of text) (sym (plain_byte byte parts.0))

-- a text in which nothing is to be escaped
pub plain_escaped : (bs text : List ℕ) → list_all is_plain text ≡ true → bs ++ text ≡ bs ++ escaped text
plain_escaped bs text is = ap (λ t. bs ++ t) (plain_text text is)
