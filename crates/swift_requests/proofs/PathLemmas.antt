-- A target that is written names what it was written of.
use Rattle.std.proofs.Common.{◌≡◌, ℕ, true, not, cond, List, [], ◌∷◌, ◌++◌, drop, All, Some, None, refl, ap, ap₂, ◌∙◌, arith}
use Rattle.std.specs.Prelude.{codes, option_map}
use Rattle.std.proofs.lemmas.Bool.{cond-true, cond-false}
use Rattle.std.proofs.lemmas.Bool.Decides.{nat_tests}
use Rattle.gate_base.specs.Ascii.{is_slash}
use Rattle.s3_names.specs.Escapes.{is_unreserved, stays_in_path, is_escaped_byte, escaped_all, escaped_path}
use Rattle.s3_names.specs.Query.{is_ampersand}
use Rattle.s3_names.specs.Target.{is_question, path_text, query_text}
use Rattle.s3_names.proofs.lemmas.EscapeLemmas.{escaped_bytes_all, escaped_bytes_path, decoded_all, decoded_path}
use Rattle.swift_requests.specs.Paths.{value_of, unescaped, is_nested_call_path, object_path, path_below, account_call_path, is_versioned_call_path, path_of}
use Rattle.swift_replies.specs.Answers.{both}
use Rattle.swift_requests.specs.declared.paths.Path.TheVariants.{Account, Container, Object}
use Rattle.swift_replies.proofs.lemmas.CutLemmas.{IsByte, Lacks, weaker, Lacks-append, before_at, after_at, before_none, after_none, any_none, any_at}

-- ---- what an escaped text has not

no_slash_here : (b : ℕ) → is_escaped_byte is_unreserved b ≡ true → not (is_slash b) ≡ true
no_slash_here b h = grind (arith, nat_tests)

no_question_here : (b : ℕ) → is_escaped_byte is_unreserved b ≡ true → not (is_question b) ≡ true
no_question_here b h = grind (arith, nat_tests)

no_ampersand_here : (b : ℕ) → is_escaped_byte is_unreserved b ≡ true → not (is_ampersand b) ≡ true
no_ampersand_here b h = grind (arith, nat_tests)

no_question_in_path : (b : ℕ) → is_escaped_byte stays_in_path b ≡ true → not (is_question b) ≡ true
no_question_in_path b h = grind (arith, nat_tests)

pub no_slash : (text : List ℕ) → All IsByte text → Lacks is_slash (escaped_all text)
no_slash text small =
    weaker (is_escaped_byte is_unreserved) (λ b. not (is_slash b)) no_slash_here (escaped_all text) (escaped_bytes_all text small)

pub no_question : (text : List ℕ) → All IsByte text → Lacks is_question (escaped_all text)
no_question text small =
    weaker (is_escaped_byte is_unreserved) (λ b. not (is_question b)) no_question_here (escaped_all text) (escaped_bytes_all text small)

pub no_ampersand : (text : List ℕ) → All IsByte text → Lacks is_ampersand (escaped_all text)
no_ampersand text small =
    weaker (is_escaped_byte is_unreserved) (λ b. not (is_ampersand b)) no_ampersand_here (escaped_all text) (escaped_bytes_all text small)

pub no_question_path : (text : List ℕ) → All IsByte text → Lacks is_question (escaped_path text)
no_question_path text small =
    weaker (is_escaped_byte stays_in_path) (λ b. not (is_question b)) no_question_in_path (escaped_path text) (escaped_bytes_path text small)

pub unescaped_all : (text : List ℕ) → All IsByte text → unescaped (escaped_all text) ≡ Some text
unescaped_all text small = ap value_of (decoded_all text small)

pub unescaped_path : (text : List ℕ) → All IsByte text → unescaped (escaped_path text) ≡ Some text
unescaped_path text small = ap value_of (decoded_path text small)

-- ---- the three kinds of path

pub account_path : (a : List ℕ) → All IsByte a → account_call_path (escaped_all a) ≡ Some (Account a)
account_path a small =
    cond-false (is_nested_call_path (escaped_all a)) _ _ (any_none is_slash (escaped_all a) (no_slash a small))
    ∙ ap (λ found. option_map (λ account. Account account) found) (unescaped_all a small)

below : (a text rest : List ℕ) → All IsByte a → account_call_path (escaped_all a ++ 47 ∷ rest) ≡ path_below (escaped_all a) rest
below a text rest small =
    cond-true (is_nested_call_path (escaped_all a ++ 47 ∷ rest)) _ _ (any_at is_slash (escaped_all a) rest 47 refl)
    ∙ ap₂ path_below (before_at is_slash (escaped_all a) rest 47 refl (no_slash a small)) (after_at is_slash (escaped_all a) rest 47 refl (no_slash a small))

pub container_path : (a c : List ℕ) → All IsByte a → All IsByte c → account_call_path (escaped_all a ++ 47 ∷ escaped_all c) ≡ Some (Container a c)
container_path a c small little =
    below a [] (escaped_all c) small ∙ cond-false (is_nested_call_path (escaped_all c)) _ _ (any_none is_slash (escaped_all c) (no_slash c little))
    ∙ ap₂ (both (λ x y. Container x y)) (unescaped_all a small) (unescaped_all c little)

pub whole_path : (a c n : List ℕ) → All IsByte a → All IsByte c → All IsByte n
    → account_call_path (escaped_all a ++ 47 ∷ (escaped_all c ++ 47 ∷ escaped_path n)) ≡ Some (Object a c n)
whole_path a c n small little tiny =
    below a [] (escaped_all c ++ 47 ∷ escaped_path n) small
    ∙ cond-true (is_nested_call_path (escaped_all c ++ 47 ∷ escaped_path n)) _ _ (any_at is_slash (escaped_all c) (escaped_path n) 47 refl)
    ∙ ap₂ (λ x y. object_path (unescaped (escaped_all a)) (unescaped x) (unescaped y))
    (before_at is_slash (escaped_all c) (escaped_path n) 47 refl (no_slash c little)) (after_at is_slash (escaped_all c) (escaped_path n) 47 refl (no_slash c little))
    ∙ ap (λ x. object_path x (unescaped (escaped_all c)) (unescaped (escaped_path n))) (unescaped_all a small)
    ∙ ap₂ (object_path (Some a)) (unescaped_all c little) (unescaped_path n tiny)

-- ---- a target

pub path_bare : (rest : List ℕ) → Lacks is_question rest → path_of (codes "/v1/" ++ rest) ≡ account_call_path rest
path_bare rest lacks =
    let whole : path_text (codes "/v1/" ++ rest) ≡ codes "/v1/" ++ rest = before_none is_question (codes "/v1/" ++ rest) (Lacks-append is_question (codes "/v1/") rest refl lacks) in
    ap (λ path. cond (is_versioned_call_path path) (account_call_path (drop 4 path)) None) whole

pub query_bare : (rest : List ℕ) → Lacks is_question rest → query_text (codes "/v1/" ++ rest) ≡ []
query_bare rest lacks = after_none is_question (codes "/v1/" ++ rest) (Lacks-append is_question (codes "/v1/") rest refl lacks)

pub path_asked : (rest query : List ℕ) → Lacks is_question rest → path_of ((codes "/v1/" ++ rest) ++ 63 ∷ query) ≡ account_call_path rest
path_asked rest query lacks =
    let whole : path_text ((codes "/v1/" ++ rest) ++ 63 ∷ query) ≡ codes "/v1/" ++ rest =
    before_at is_question (codes "/v1/" ++ rest) query 63 refl (Lacks-append is_question (codes "/v1/") rest refl lacks) in
    ap (λ path. cond (is_versioned_call_path path) (account_call_path (drop 4 path)) None) whole

pub query_asked : (rest query : List ℕ) → Lacks is_question rest → query_text ((codes "/v1/" ++ rest) ++ 63 ∷ query) ≡ query
query_asked rest query lacks =
    after_at is_question (codes "/v1/" ++ rest) query 63 refl (Lacks-append is_question (codes "/v1/") rest refl lacks)
