-- Bytes spell one reply to a call at most, and are one whole answer then.
use Rattle.std.proofs.Common.{◌≡◌, drop, Option, Some, None, sym, ap, ◌∙◌, arith}
use Rattle.swift_calls.specs.declared.calls.SwiftReply.{SwiftReply}
use Rattle.swift_replies.specs.Answers.{reply_of, said}
use Rattle.swift_replies.specs.AnswerLaws.{OneReply, OneAnswer}
use Rattle.http_answers.proofs.lemmas.FramingLemmas.{same_head, same_size}

some_reply : (first second : SwiftReply) (o : Option SwiftReply) → o ≡ Some first → o ≡ Some second → first ≡ second
some_reply first second o one two = ap value (sym one ∙ two)
  where
    value : Option SwiftReply → SwiftReply
    value None = first
    value (Some v) = v

pub one_reply : OneReply
one_reply call first second bytes (h, n, m, answer, gives) (k, p, q, other, says) =
    let head : h ≡ k = same_head bytes h k n p answer.0 other.0 in
    let size : n ≡ p = same_size bytes h k n p answer.0 other.0 in
    let same : said h (drop n bytes) ≡ said k (drop p bytes) = ap (λ v. said h (drop v bytes)) size ∙ ap (λ v. said v (drop p bytes)) head in
    some_reply first second (reply_of call (said h (drop n bytes))) gives (ap (reply_of call) same ∙ says)

pub one_answer : OneAnswer
one_answer call reply bytes (h, n, m, answer, gives) = (h, n, m, (answer.0, answer.1, omega (arith, answer.2)), answer.2)
