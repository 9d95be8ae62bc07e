-- What is found first in bytes is what they announce.
use Rattle.std.specs.Prelude.{◌≡◌, ℕ, Bool, List, None, Some}
use Rattle.std.proofs.Common.{sym, ap, ◌∙◌, inl, inr}
use Rattle.httparse.specs.Grammar.{status_code}
use Rattle.http_answers.specs.Framing.{expected}
use Rattle.http_answers.specs.Head.{IsDead, IsOpen, Shows}
use Rattle.http_answers.specs.Announced.{Announces, stays_open}
use Rattle.http_answers.specs.declared.announced.Announced.TheVariants.{More, Answer, Bad}
use Rattle.http_answers.specs.declared.head.Head.{Head}
use Rattle.http_answers.specs.declared.head.Front.TheVariants as front
use Rattle.http_answers.proofs.lemmas.FramingLemmas.{ends_open}
use Rattle.http_answers.proofs.lemmas.HeadLemmas.{no_head}

pub announces_open : (head : Bool) (bytes : List ℕ) → IsOpen bytes → Announces head bytes More
announces_open head bytes open_still = ((λ h n has. no_head bytes open_still.0 h n has), (ends_open head bytes open_still).1)

pub announces_dead : (head : Bool) (bytes : List ℕ) → IsDead bytes → Announces head bytes Bad
announces_dead head bytes dead = inl dead

pub announces_whole : (head : Bool) (bytes : List ℕ) (found : Head) → Shows bytes (front.Whole found) → (body : ℕ)
    → expected head found.status found.headers ≡ Some body → Announces head bytes (Answer found.len body (stays_open found.headers))
announces_whole head bytes found (h, has, status, headers) body is =
    (h, has, sym (ap (λ s. expected head s found.headers) status ∙ ap (expected head (status_code h)) headers) ∙ is, ap stays_open headers)

pub announces_refused : (head : Bool) (bytes : List ℕ) (found : Head) → Shows bytes (front.Whole found)
    → expected head found.status found.headers ≡ None → Announces head bytes Bad
announces_refused head bytes found (h, has, status, headers) is =
    inr (h, found.len, has, sym (ap (λ s. expected head s found.headers) status ∙ ap (expected head (status_code h)) headers) ∙ is)
