-- What bytes spell, by the head that was found in them.
use Rattle.std.proofs.Common.{◌≡◌, ℕ, ◌+◌, ◌≤◌, Bool, true, false, cond, List, length, drop, Option, Some, None, refl, sym, ap, subst, ◌∙◌, arith, length-append, length-drop}
use Rattle.std.specs.Prelude.{◌==◌, ⊤}
use Rattle.std.proofs.lemmas.Bool.Decides.{nat_tests}
use Rattle.httparse.specs.Grammar.{ResponseHead, print_response, status_code}
use Rattle.swift_calls.specs.declared.calls.SwiftRequest.{SwiftRequest}
use Rattle.swift_calls.specs.declared.calls.SwiftReply.{SwiftReply}
use Rattle.http_answers.specs.Framing.{HasHead, expected, expected_of, headers_in}
use Rattle.http_answers.specs.Head.{IsDead, IsOpen, Shows}
use Rattle.swift_replies.specs.Answers.{Said, asks_head, reply_body_by_size, reply_of, said, SpellsAnswer, SpellsNone}
use Rattle.http_answers.specs.declared.head.Head.{Head}
use Rattle.http_answers.specs.declared.head.Front.TheVariants.{Whole}
use Rattle.http_answers.proofs.lemmas.HeadLemmas.{no_head}
use Rattle.http_answers.proofs.lemmas.FramingLemmas.{same_head, same_size}

pub none_open : (call : SwiftRequest) (bytes : List ℕ) → IsOpen bytes → SpellsNone call bytes
none_open call bytes (none, lives, short) reply (h, n, m, is, gives) = no_head bytes none h n is.0

pub none_dead : (call : SwiftRequest) (bytes : List ℕ) → IsDead bytes → SpellsNone call bytes
none_dead call bytes dead reply (h, n, m, is, gives) = dead.0 h n is.0

-- the head lies in the bytes
pub head_within : (bytes : List ℕ) (h : ResponseHead) (n : ℕ) → HasHead bytes h n → n ≤ length bytes
head_within bytes h n has = omega (arith, has.1, ap length has.0.1, length-append (print_response h) (drop n bytes))

pub shows_within : (bytes : List ℕ) (found : Head) → Shows bytes (Whole found) → found.len ≤ length bytes
shows_within bytes found (h, has, status, headers) = head_within bytes h found.len has

-- what a found head says is what is expected behind it
same_expected : (head : Bool) (h : ResponseHead) (found : Head) → found.status ≡ status_code h → found.headers ≡ headers_in h
    → expected head found.status found.headers ≡ expected_of head h
same_expected head h found status headers = ap (λ s. expected head s found.headers) status ∙ ap (expected head (status_code h)) headers

abbrev said_found : Head → List ℕ → Said
said_found found body = record { status = found.status; headers = found.headers; body = body }

same_said : (h : ResponseHead) (found : Head) (body : List ℕ) → found.status ≡ status_code h → found.headers ≡ headers_in h
    → said_found found body ≡ said h body
same_said h found body status headers = λ i. record { status = status i; headers = headers i; body = body }

-- the body that there is, by the size that is expected
body_is : (bytes : List ℕ) (n : ℕ) (size : Option ℕ) (body : List ℕ) → Some body ≡ reply_body_by_size bytes n size
    → (m : ℕ) × (size ≡ Some m) × (length (drop n bytes) ≡ m) × (body ≡ drop n bytes)
body_is bytes n None body is = absurd (subst filled is tt)
  where
    filled : Option (List ℕ) → Type 0
    filled None = ⊥
    filled (Some v) = ⊤
body_is bytes n (Some m) body is = by_size (length (drop n bytes) == m) refl is
  where
    filled : Option (List ℕ) → Type 0
    filled None = ⊥
    filled (Some v) = ⊤

    text : Option (List ℕ) → List ℕ
    text None = body
    text (Some v) = v

    by_size : (b : Bool) → (length (drop n bytes) == m) ≡ b → Some body ≡ cond b (Some (drop n bytes)) None
        → (k : ℕ) × (Some m ≡ Some k) × (length (drop n bytes) ≡ k) × (body ≡ drop n bytes)
    by_size true same is = (m, refl, grind (arith, nat_tests), ap text is)
    by_size false other is = absurd (subst filled is tt)

pub reads_reply : (call : SwiftRequest) (bytes : List ℕ) (found : Head) (body : List ℕ) (reply : SwiftReply) → Shows bytes (Whole found)
    → Some body ≡ reply_body_by_size bytes found.len (expected (asks_head call) found.status found.headers)
    → Some reply ≡ reply_of call (record { status = found.status; headers = found.headers; body = body }) → SpellsAnswer call reply bytes
reads_reply call bytes found body reply (h, has, status, headers) is gives =
    let parts = body_is bytes found.len (expected (asks_head call) found.status found.headers) body is in
    let whole : length bytes ≡ found.len + parts.0 = omega (arith, parts.2, length-drop found.len bytes, head_within bytes h found.len has) in
    let says = ap (reply_of call) (same_said h found body status headers ∙ ap (said h) parts.3) in
    (h, found.len, parts.0, (has, sym (same_expected (asks_head call) h found status headers) ∙ parts.1, whole), sym says ∙ sym gives)

abbrev no_reply : Option SwiftReply
no_reply = None

abbrev no_body : Option (List ℕ)
no_body = None

some_is_not : (A B : Type 0) (a : A) (o : Option A) → None ≡ o → o ≡ Some a → B
some_is_not A B a o none some = absurd (subst filled (sym (none ∙ some)) tt)
  where
    filled : Option A → Type 0
    filled None = ⊥
    filled (Some v) = ⊤

-- the body gives no reply
pub reads_none : (call : SwiftRequest) (bytes : List ℕ) (found : Head) (body : List ℕ) → Shows bytes (Whole found)
    → Some body ≡ reply_body_by_size bytes found.len (expected (asks_head call) found.status found.headers)
    → no_reply ≡ reply_of call (record { status = found.status; headers = found.headers; body = body }) → SpellsNone call bytes
reads_none call bytes found body (h, has, status, headers) is gives reply (k, p, q, answer, given) =
    let parts = body_is bytes found.len (expected (asks_head call) found.status found.headers) body is in
    let head : h ≡ k = same_head bytes h k found.len p has answer.0 in
    let size : found.len ≡ p = same_size bytes h k found.len p has answer.0 in
    let says : said_found found body ≡ said k (drop p bytes) =
    same_said h found body status headers ∙ ap (said h) (parts.3 ∙ ap (λ v. drop v bytes) size) ∙ ap (λ v. said v (drop p bytes)) head in
    some_is_not SwiftReply ⊥ reply (reply_of call (said_found found body)) gives (ap (reply_of call) says ∙ given)

body_whole : (bytes : List ℕ) (n m : ℕ) → length (drop n bytes) ≡ m → reply_body_by_size bytes n (Some m) ≡ Some (drop n bytes)
body_whole bytes n m same =
    let is : (length (drop n bytes) == m) ≡ true = grind (arith, nat_tests) in
    ap (λ b. cond b (Some (drop n bytes)) no_body) is

-- the bytes are no head with exactly the body that has to follow
pub reads_no_body : (call : SwiftRequest) (bytes : List ℕ) (found : Head) → Shows bytes (Whole found)
    → no_body ≡ reply_body_by_size bytes found.len (expected (asks_head call) found.status found.headers) → SpellsNone call bytes
reads_no_body call bytes found (h, has, status, headers) none reply (k, p, q, answer, given) =
    let head : h ≡ k = same_head bytes h k found.len p has answer.0 in
    let size : found.len ≡ p = same_size bytes h k found.len p has answer.0 in
    let expects : expected (asks_head call) found.status found.headers ≡ Some q =
    same_expected (asks_head call) h found status headers ∙ ap (expected_of (asks_head call)) head ∙ answer.1 in
    let rest : length (drop found.len bytes) ≡ q = omega (arith, answer.2, size, length-drop found.len bytes) in
    some_is_not (List ℕ) ⊥ (drop found.len bytes) (reply_body_by_size bytes found.len (expected (asks_head call) found.status found.headers)) none
    (ap (reply_body_by_size bytes found.len) expects ∙ body_whole bytes found.len q rest)
