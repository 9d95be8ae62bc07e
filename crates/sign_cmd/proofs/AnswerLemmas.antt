-- The bytes that wait determine the answer.
use Rattle.std.proofs.Common.{◌≡◌, ℕ, true, List, [], ◌∷◌, Result, Ok, inl, inr, refl, sym, ap, subst, ◌∙◌, true≢false}
use Rattle.s3_names.specs.declared.fault.NameFault.{NameFault}
use Rattle.s3_names.specs.declared.target.Target.{Target}
use Rattle.s3_names.specs.Target.{target_of}
use Rattle.http_wire.specs.declared.judge.TheConstants.{BODY_LIMIT}
use Rattle.http_wire.specs.declared.message.Message.{Message}
use Rattle.http_wire.specs.FirstMessage.{asks}
use Rattle.http_wire.proofs.lemmas.UniqueLemmas.{one_front}
use Rattle.sigv4.specs.declared.signature.Signed.{Signed as Signature}
use Rattle.sigv4.specs.Canonical.{canonical_text}
use Rattle.sigv4.specs.Sign.{signed_of}
use Rattle.sigv4.specs.Verdict.{time_of, hash_of}
use Rattle.sign_cmd.specs.Laws.{is_answer, OneAnswer}
use Rattle.sign_cmd.specs.Signing.{Signs, IsUnsigned, AnswersFrom, AnswersFirst}
use Rattle.sign_cmd.specs.declared.first.Signing.{Signing}
use Rattle.sign_cmd.specs.declared.first.Signing.TheVariants.{Signed, NoRequest, LineFailed, Memory}
use Rattle.sign_cmd.proofs.OnceLemmas.{names_once}

same_target : (read : Result Target NameFault) (target other : Target) → read ≡ Ok target → read ≡ Ok other → target ≡ other
same_target read target other a b = cc

same_message : (message other : Message) (size more : ℕ) → asks message size ≡ asks other more → message ≡ other
same_message message other size more e = cc

same_first : (bytes other : List ℕ) (waiting others : List (List ℕ)) → (bytes ∷ waiting) ≡ (other ∷ others) → other ≡ bytes
same_first bytes other waiting others e = cc

none_first : (bytes : List ℕ) (waiting : List (List ℕ)) → (bytes ∷ waiting) ≡ [] → ⊥
none_first bytes waiting e = cc

signs_once : (secret region : List ℕ) (message : Message) (one other : Signature) → Signs secret region message one → Signs secret region message other → other ≡ one
signs_once secret region message one other a b =
    let target : b.1 ≡ a.1 = same_target (target_of message.target) b.1 a.1 b.2 a.2 in
    let names : b.3.0 ≡ a.3.0 = names_once message.headers a.3.0 b.3.0 a.3.1 b.3.1 in
    b.3.2
    ∙ (λ i. signed_of secret (time_of message.headers) region (canonical_text message (target i) (names i) (hash_of message.headers)))
    ∙ sym a.3.2

-- a request that stands first isn't both signed and unsigned
not_both : (secret region bytes : List ℕ) (signed : Signature) → AnswersFrom secret region bytes (Signed signed) → AnswersFrom secret region bytes NoRequest → ⊥
not_both secret region bytes signed a b =
    let unsigned : IsUnsigned (asks a.0 a.1) = subst IsUnsigned (one_front BODY_LIMIT bytes b.0 (asks a.0 a.1) b.1 a.2) b.2 in
    true≢false (sym a.3.0 ∙ unsigned)

from_once : (secret region bytes : List ℕ) (one other : Signing) → is_answer one ≡ true → is_answer other ≡ true → AnswersFrom secret region bytes one → AnswersFrom secret region bytes other → other ≡ one
from_once secret region bytes (Signed one) (Signed other) h k a b =
    let message : b.0 ≡ a.0 = same_message b.0 a.0 b.1 a.1 (one_front BODY_LIMIT bytes (asks b.0 b.1) (asks a.0 a.1) b.2 a.2) in
    ap Signed (signs_once secret region a.0 one other a.3 (subst (λ (m : Message). Signs secret region m other) message b.3))
from_once secret region bytes (Signed one) NoRequest h k a b = absurd (not_both secret region bytes one a b)
from_once secret region bytes NoRequest (Signed other) h k a b = absurd (not_both secret region bytes other b a)
from_once secret region bytes NoRequest NoRequest h k a b = refl
from_once secret region bytes LineFailed other h k a b = absurd (true≢false (sym h))
from_once secret region bytes Memory other h k a b = absurd (true≢false (sym h))
from_once secret region bytes (Signed one) LineFailed h k a b = absurd (true≢false (sym k))
from_once secret region bytes (Signed one) Memory h k a b = absurd (true≢false (sym k))
from_once secret region bytes NoRequest LineFailed h k a b = absurd (true≢false (sym k))
from_once secret region bytes NoRequest Memory h k a b = absurd (true≢false (sym k))

-- the answer to a line is the answer to its first connection
first_from : (secret region bytes : List ℕ) (waiting : List (List ℕ)) (signing : Signing) → AnswersFirst secret region (bytes ∷ waiting) signing → AnswersFrom secret region bytes signing
first_from secret region bytes waiting (Signed signed) a =
    subst (λ (x : List ℕ). AnswersFrom secret region x (Signed signed)) (same_first bytes a.0 waiting a.1 a.2) a.3
first_from secret region bytes waiting NoRequest (inl e) = absurd (none_first bytes waiting e)
first_from secret region bytes waiting NoRequest (inr a) =
    subst (λ (x : List ℕ). AnswersFrom secret region x NoRequest) (same_first bytes a.0 waiting a.1 a.2) a.3
first_from secret region bytes waiting LineFailed a = tt
first_from secret region bytes waiting Memory a = tt

-- without a connection it is that there is no request
first_none : (secret region : List ℕ) (signing : Signing) → is_answer signing ≡ true → AnswersFirst secret region [] signing → signing ≡ NoRequest
first_none secret region (Signed signed) h a = absurd (none_first a.0 a.1 (sym a.2))
first_none secret region NoRequest h a = refl
first_none secret region LineFailed h a = absurd (true≢false (sym h))
first_none secret region Memory h a = absurd (true≢false (sym h))

pub one_answer : OneAnswer
one_answer secret region [] one other h k a b = first_none secret region other k b ∙ sym (first_none secret region one h a)
one_answer secret region (bytes ∷ waiting) one other h k a b =
    from_once secret region bytes one other h k (first_from secret region bytes waiting one a) (first_from secret region bytes waiting other b)
