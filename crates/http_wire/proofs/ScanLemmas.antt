-- The test for bytes that end inside a target decides it.
use Rattle.std.proofs.Common.{◌≡◌, ◌≢◌, ℕ, ◌<◌, Bool, true, false, cond, ◌&&◌, List, [], ◌∷◌, ◌++◌, length, take, drop, ◌-◌, refl, sym, ap, subst, ◌∙◌, ◌↔◌, IsTrue, append_assoc, lt_irrefl, arith}
use Rattle.std.specs.Prelude.{◌==◌}
use Rattle.std.specs.List.{list_all}
use Rattle.std.proofs.lemmas.Bool.{false≢true, eqb-true, ne_eqb, and_parts, and_from}
use Rattle.std.proofs.lemmas.List.{take_rest}
use Rattle.std.proofs.lemmas.List.Elements.{All-cons, All-nil, All-head, All-tail}
use Rattle.std.proofs.lemmas.List.Sums.{AllPass-from_list_all, list_all-from_AllPass}
use Rattle.httparse.specs.Grammar.{is_token_byte, IsToken, AllPass, LineEnd, crlf, lf, print_blank}
use Rattle.http_wire.specs.FirstMessage.{EndsInside, stays_in_target}
use Rattle.http_wire.specs.Scan.{in_method, is_inside, line_end_len, skip_blank, starts_lf, starts_method}

-- ---- the steps of the two loops

-- how long the line end is, by the two tests
abbrev len_by : Bool → Bool → ℕ
len_by s t = cond s 1 (cond t 2 0)

skip_by : (s t : Bool) (b c : ℕ) (bytes : List ℕ) → 0 < len_by s t
    → cond s (skip_blank (c ∷ bytes)) (cond t (skip_blank bytes) (b ∷ c ∷ bytes))
    ≡ skip_blank (drop (len_by s t) (b ∷ c ∷ bytes))
skip_by true t b c bytes h = refl
skip_by false true b c bytes h = refl
skip_by false false b c bytes h = absurd (lt_irrefl _ h)

stop_by : (s t : Bool) (b c : ℕ) (bytes : List ℕ) → len_by s t ≡ 0
    → cond s (skip_blank (c ∷ bytes)) (cond t (skip_blank bytes) (b ∷ c ∷ bytes)) ≡ b ∷ c ∷ bytes
stop_by true t b c bytes h = cc
stop_by false true b c bytes h = cc
stop_by false false b c bytes h = refl

skip_last_by : (s t : Bool) (b : ℕ) → 0 < len_by s (t && false)
    → cond s [] (b ∷ []) ≡ skip_blank (drop (len_by s (t && false)) (b ∷ []))
unfolding skip_blank
skip_last_by true t b h = refl
skip_last_by false true b h = absurd (lt_irrefl _ h)
skip_last_by false false b h = absurd (lt_irrefl _ h)

stop_last_by : (s t : Bool) (b : ℕ) → len_by s (t && false) ≡ 0 → cond s [] (b ∷ []) ≡ b ∷ []
stop_last_by true t b h = cc
stop_last_by false t b h = refl

-- an empty line is skipped
pub skip_more : (bytes : List ℕ) → 0 < line_end_len bytes → skip_blank bytes ≡ skip_blank (drop (line_end_len bytes) bytes)
unfolding skip_blank
skip_more [] h = absurd (lt_irrefl _ h)
skip_more (b ∷ []) h = skip_last_by (b == 10) (b == 13) b h
skip_more (b ∷ c ∷ bytes) h = skip_by (b == 10) ((b == 13) && (c == 10)) b c bytes h

-- the same, as the loop goes on
pub skip_on : (bytes : List ℕ) (n : ℕ) → n ≡ line_end_len bytes → n ≢ 0
    → skip_blank (take (length bytes - n) (drop n bytes)) ≡ skip_blank bytes
skip_on bytes n e some =
    ap skip_blank (take_rest bytes n) ∙ ap (λ v. skip_blank (drop v bytes)) e
    ∙ sym (skip_more bytes (subst (λ v. 0 < v) e (omega (arith, some))))

-- there is no empty line to skip
pub skip_done : (bytes : List ℕ) → line_end_len bytes ≡ 0 → skip_blank bytes ≡ bytes
unfolding skip_blank
skip_done [] h = refl
skip_done (b ∷ []) h = stop_last_by (b == 10) (b == 13) b h
skip_done (b ∷ c ∷ bytes) h = stop_by (b == 10) ((b == 13) && (c == 10)) b c bytes h

pub ruleset skip_steps = (skip_on, skip_done)

-- no byte is left in a method
pub in_method-nil : (bytes : List ℕ) → length bytes ≡ 0 → in_method bytes ≡ false
unfolding in_method
in_method-nil [] h = refl
in_method-nil (b ∷ bytes) h = absurd (omega arith)

pub in_method-space : (bytes : List ℕ) → in_method (32 ∷ bytes) ≡ list_all stays_in_target bytes
unfolding in_method
in_method-space bytes = refl

-- a byte but the space
pub in_method-other : (b : ℕ) (bytes : List ℕ) → b ≢ 32 → in_method (b ∷ bytes) ≡ (is_token_byte b && in_method bytes)
unfolding in_method
in_method-other b bytes h = ap (λ v. cond v (list_all stays_in_target bytes) (is_token_byte b && in_method bytes)) (ne_eqb b 32 h)

pub ruleset method_steps = (in_method-nil, in_method-space, in_method-other)

-- ---- the empty lines and the rest

-- a token's byte is none of these
token_apart : (b k : ℕ) → is_token_byte k ≡ false → is_token_byte b ≡ true → b ≢ k
token_apart b k out token e = false≢true (sym out ∙ sym (ap is_token_byte e) ∙ token)

lf_out : is_token_byte 10 ≡ false
unfolding is_token_byte
lf_out = refl

cr_out : is_token_byte 13 ≡ false
unfolding is_token_byte
cr_out = refl

space_out : is_token_byte 32 ≡ false
unfolding is_token_byte
space_out = refl

skip_lf : (bytes : List ℕ) → skip_blank (10 ∷ bytes) ≡ skip_blank bytes
unfolding skip_blank
skip_lf [] = refl
skip_lf (b ∷ bytes) = refl

skip_crlf : (bytes : List ℕ) → skip_blank (13 ∷ 10 ∷ bytes) ≡ skip_blank bytes
unfolding skip_blank
skip_crlf bytes = refl

-- where a token's byte is first, no empty line is
skip_token : (b : ℕ) (bytes : List ℕ) → is_token_byte b ≡ true → skip_blank (b ∷ bytes) ≡ b ∷ bytes
skip_token b bytes token = skip_done (b ∷ bytes) (none (b == 10) (b == 13)
    (ne_eqb b 10 (token_apart b 10 lf_out token)) (ne_eqb b 13 (token_apart b 13 cr_out token)))
  where
    none : (s t : Bool) → s ≡ false → t ≡ false → len_by s (t && starts_lf bytes) ≡ 0
    none true t es et = absurd (false≢true (sym es))
    none false true es et = absurd (false≢true (sym et))
    none false false es et = refl

skip_print : (blank : List LineEnd) (b : ℕ) (bytes : List ℕ) → is_token_byte b ≡ true
    → skip_blank (print_blank blank ++ b ∷ bytes) ≡ b ∷ bytes
skip_print [] b bytes token = skip_token b bytes token
skip_print (crlf ∷ blank) b bytes token = skip_crlf (print_blank blank ++ b ∷ bytes) ∙ skip_print blank b bytes token
skip_print (lf ∷ blank) b bytes token = skip_lf (print_blank blank ++ b ∷ bytes) ∙ skip_print blank b bytes token

-- what was skipped are empty lines
abbrev Blanks : List ℕ → List ℕ → Type 0
Blanks bytes rest = (blank : List LineEnd) × (bytes ≡ print_blank blank ++ rest)

blank_last : (s : Bool) (b : ℕ) → (b == 10) ≡ s → Blanks (b ∷ []) (cond s [] (b ∷ []))
blank_last true b e = (lf ∷ [], ap (λ v. v ∷ []) (eqb-true b 10 e))
blank_last false b e = ([], refl)

blank_by : (s t : Bool) (b c : ℕ) (bytes : List ℕ) → (b == 10) ≡ s → ((b == 13) && (c == 10)) ≡ t
    → Blanks (c ∷ bytes) (skip_blank (c ∷ bytes)) → Blanks bytes (skip_blank bytes)
    → Blanks (b ∷ c ∷ bytes) (cond s (skip_blank (c ∷ bytes)) (cond t (skip_blank bytes) (b ∷ c ∷ bytes)))
blank_by true t b c bytes es et one two = (lf ∷ one.0, λ i. eqb-true b 10 es i ∷ one.1 i)
blank_by false true b c bytes es et one two =
    let both = and_parts (b == 13) (c == 10) et in
    (crlf ∷ two.0, λ i. eqb-true b 13 both.0 i ∷ eqb-true c 10 both.1 i ∷ two.1 i)
blank_by false false b c bytes es et one two = ([], refl)

skipped : (bytes : List ℕ) → Blanks bytes (skip_blank bytes)
unfolding skip_blank
skipped [] = ([], refl)
skipped (b ∷ []) = blank_last (b == 10) b refl
skipped (b ∷ c ∷ bytes) =
    blank_by (b == 10) ((b == 13) && (c == 10)) b c bytes refl refl (skipped (c ∷ bytes)) (skipped bytes)

-- ---- the method and the target

-- a byte that is a token's
abbrev IsTokenByte : ℕ → Type 0
IsTokenByte b = is_token_byte b ≡ true

abbrev Inside : List ℕ → Type 0
Inside bytes =
    (method : List ℕ) × (target : List ℕ) × AllPass is_token_byte method × AllPass stays_in_target target
    × (bytes ≡ method ++ 32 ∷ target)

method_by : (s : Bool) (b : ℕ) (bytes : List ℕ) → (b == 32) ≡ s
    → cond s (list_all stays_in_target bytes) (is_token_byte b && in_method bytes) ≡ true
    → (in_method bytes ≡ true → Inside bytes) → Inside (b ∷ bytes)
method_by true b bytes e h more =
    ([], bytes, All-nil IsTokenByte, AllPass-from_list_all stays_in_target bytes h, λ i. eqb-true b 32 e i ∷ bytes)
method_by false b bytes e h more =
    let both = and_parts (is_token_byte b) (in_method bytes) h in
    let rest = more both.1 in
    (b ∷ rest.0, rest.1, All-cons IsTokenByte b rest.0 both.0 rest.2, rest.3, λ i. b ∷ rest.4 i)

method_reads : (bytes : List ℕ) → in_method bytes ≡ true → Inside bytes
unfolding in_method
method_reads [] h = absurd (false≢true h)
method_reads (b ∷ bytes) h = method_by (b == 32) b bytes refl h (method_reads bytes)

method_found : (method target : List ℕ) → AllPass is_token_byte method → AllPass stays_in_target target
    → in_method (method ++ 32 ∷ target) ≡ true
method_found [] target token stays = in_method-space target ∙ list_all-from_AllPass stays_in_target target stays
method_found (b ∷ method) target token stays =
    let first = All-head IsTokenByte b method token in
    in_method-other b (method ++ 32 ∷ target) (token_apart b 32 space_out first)
    ∙ and_from _ _ first (method_found method target (All-tail IsTokenByte b method token) stays)

-- ---- both

starts_reads : (bytes rest : List ℕ) → Blanks bytes rest → starts_method rest ≡ true → EndsInside bytes
starts_reads bytes [] blank h = absurd (false≢true h)
starts_reads bytes (b ∷ rest) blank h =
    let both = and_parts (is_token_byte b) (in_method rest) h in
    let inside = method_reads rest both.1 in (
      blank.0,
      b ∷ inside.0,
      inside.1,
      (omega arith, All-cons IsTokenByte b inside.0 both.0 inside.2),
      inside.3,
      blank.1 ∙ ap (λ v. print_blank blank.0 ++ b ∷ v) inside.4
          ∙ sym (append_assoc (print_blank blank.0) (b ∷ inside.0) (32 ∷ inside.1)),
    )

starts_found : (blank : List LineEnd) (method target : List ℕ) → IsToken method → AllPass stays_in_target target
    → is_inside (print_blank blank ++ (method ++ 32 ∷ target)) ≡ true
starts_found blank [] target token stays = absurd (lt_irrefl _ token.0)
starts_found blank (b ∷ method) target token stays =
    let first = All-head IsTokenByte b method token.1 in
    ap starts_method (skip_print blank b (method ++ 32 ∷ target) first)
    ∙ and_from _ _ first (method_found method target (All-tail IsTokenByte b method token.1) stays)

-- the test says exactly whether the bytes end inside a target
pub is_inside_decides : (bytes : List ℕ) → IsTrue (is_inside bytes) ↔ EndsInside bytes
is_inside_decides bytes = (
  λ h. starts_reads bytes (skip_blank bytes) (skipped bytes) h,
  λ (blank, method, target, token, stays, e). ap is_inside (e ∙ append_assoc (print_blank blank) method (32 ∷ target))
      ∙ starts_found blank method target token stays,
)
