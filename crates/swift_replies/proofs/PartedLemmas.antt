-- What two pieces of bytes spell, where they are parted behind a head.
use Rattle.std.proofs.Common.{◌≡◌, ℕ, true, false, cond, List, [], ◌∷◌, ◌++◌, length, drop, Option, Some, None, refl, sym, ap, subst, ◌∙◌, append-nil, true≢false}
use Rattle.std.specs.Prelude.{◌==◌, Result}
use Rattle.httparse.specs.Grammar.{ReadsResponse}
use Rattle.httparse.proofs.GrammarLemmas.{ReadsResponse-append}
use Rattle.swift_calls.specs.declared.calls.SwiftRequest.{SwiftRequest}
use Rattle.swift_calls.specs.declared.calls.SwiftReply.{SwiftReply}
use Rattle.http_answers.specs.Framing.{expected}
use Rattle.http_answers.specs.Head.{Shows}
use Rattle.http_answers.specs.declared.head.Head.{Head}
use Rattle.http_answers.specs.declared.head.Front.TheVariants.{Whole}
use Rattle.swift_replies.specs.Answers.{ReadsAnswer, SpellsAnswer, SpellsNone, asks_head, reply_body_by_size, reply_of}
use Rattle.swift_replies.specs.Parted.{is_body_of_size}
use Rattle.swift_replies.specs.declared.fault.WireFault.{WireFault}
use Rattle.swift_replies.proofs.AnswerLemmas.{reads_reply, reads_none, reads_no_body}

-- nothing came behind the first piece
pub nothing_behind : (call : SwiftRequest) (head body : List ℕ) (result : Result SwiftReply WireFault) → body ≡ [] → ReadsAnswer call head result → ReadsAnswer call (head ++ body) result
nothing_behind call head body result none reads =
    subst (λ t. ReadsAnswer call t result) (sym (ap (λ b. head ++ b) none ∙ append-nil head)) reads

-- what is left behind as many bytes as the first piece has is the second
behind : (head body : List ℕ) → drop (length head) (head ++ body) ≡ body
behind [] body = refl
behind (byte ∷ head) body = behind head body

none_left : (head : List ℕ) → drop (length head) head ≡ []
none_left [] = refl
none_left (byte ∷ head) = none_left head

pub shows_parted : (head body : List ℕ) (found : Head) → Shows head (Whole found) → found.len ≡ length head → Shows (head ++ body) (Whole found)
shows_parted head body found (h, has, status, headers) size =
    let rest : drop found.len head ≡ [] = ap (λ n. drop n head) size ∙ none_left head in
    let left : drop found.len (head ++ body) ≡ body = ap (λ n. drop n (head ++ body)) size ∙ behind head body in
    let same : drop found.len head ++ body ≡ drop found.len (head ++ body) = ap (λ t. t ++ body) rest ∙ sym left in
    (h, (subst (ReadsResponse (head ++ body) h) same (ReadsResponse-append head h (drop found.len head) body has.0), has.1, has.2), status, headers)

by_rest : (rest : List ℕ) (size : Option ℕ) → Option (List ℕ)
by_rest rest None = None
by_rest rest (Some size) = cond (length rest == size) (Some rest) None

rest_is : (head body : List ℕ) (n : ℕ) (size : Option ℕ) → n ≡ length head → reply_body_by_size (head ++ body) n size ≡ by_rest body size
unfolding by_rest
rest_is head body n None is = refl
rest_is head body n (Some size) is =
    ap (λ t. cond (length t == size) (Some t) None) (ap (λ k. drop k (head ++ body)) is ∙ behind head body)

-- it is as long as is expected
pub parted_body : (head body : List ℕ) (n : ℕ) (size : Option ℕ) → n ≡ length head → is_body_of_size (length body) size ≡ true → Some body ≡ reply_body_by_size (head ++ body) n size
unfolding by_rest
parted_body head body n None is sized = absurd (true≢false (sym sized))
parted_body head body n (Some size) is sized = sym (rest_is head body n (Some size) is ∙ ap (λ b. cond b (Some body) None) sized)

abbrev no_body : Option (List ℕ)
no_body = None

-- it isn't
pub parted_no_body : (head body : List ℕ) (n : ℕ) (size : Option ℕ) → n ≡ length head → is_body_of_size (length body) size ≡ false → no_body ≡ reply_body_by_size (head ++ body) n size
unfolding by_rest
parted_no_body head body n None is sized = refl
parted_no_body head body n (Some size) is sized = sym (rest_is head body n (Some size) is ∙ ap (λ b. cond b (Some body) no_body) sized)

-- ---- what the two pieces spell, where the first is a head

module _ (call : SwiftRequest) (head body : List ℕ) (found : Head) (shows : Shows head (Whole found)) (size : found.len ≡ length head) where
  -- the body isn't as long as is expected
  pub spells_none_by_size : is_body_of_size (length body) (expected (asks_head call) found.status found.headers) ≡ false → SpellsNone call (head ++ body)
  spells_none_by_size other =
      reads_no_body call (head ++ body) found (shows_parted head body found shows size)
      (parted_no_body head body found.len (expected (asks_head call) found.status found.headers) size other)

  -- it is, and gives no reply
  pub spells_none : is_body_of_size (length body) (expected (asks_head call) found.status found.headers) ≡ true
      → None ≡ reply_of call (record { status = found.status; headers = found.headers; body = body }) → SpellsNone call (head ++ body)
  spells_none same gives =
      reads_none call (head ++ body) found body (shows_parted head body found shows size)
      (parted_body head body found.len (expected (asks_head call) found.status found.headers) size same) gives

  -- it gives a reply
  pub spells_reply : (reply : SwiftReply) → is_body_of_size (length body) (expected (asks_head call) found.status found.headers) ≡ true
      → Some reply ≡ reply_of call (record { status = found.status; headers = found.headers; body = body }) → SpellsAnswer call reply (head ++ body)
  spells_reply reply same gives =
      reads_reply call (head ++ body) found body reply (shows_parted head body found shows size)
      (parted_body head body found.len (expected (asks_head call) found.status found.headers) size same) gives
