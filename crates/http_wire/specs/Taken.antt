-- What becomes of a whole head.
use Rattle.std.specs.Prelude.{◌≡◌, ◌⊎◌, ℕ, ◌+◌, ◌<◌, ◌≤◌, Bool, true, false, List, ◌++◌, length, take, drop, Ok, Err}
use Rattle.http_wire.specs.declared.message.Got.{Got}
use Rattle.http_wire.specs.declared.message.Got.TheVariants.{Request, End, CutShort, Refused}
use Rattle.http_wire.specs.declared.message.Kind.TheVariants.{BadHead, LongHead, ShortBody}
use Rattle.http_wire.specs.declared.advance.Found.{Found}
use Rattle.http_wire.specs.declared.advance.Found.TheVariants.{Head, Bad, Long, Cut, Nothing}
use Rattle.http_wire.specs.declared.take.Taken.{Taken}
use Rattle.http_wire.specs.declared.take.Taken.TheVariants.{Whole, Not}
use Rattle.http_wire.specs.FirstMessage.{judge, message_of, message_with, is_head}
use Rattle.http_wire.specs.Reading.{place_after}
use Rattle.httparse.specs.Grammar.{RequestHead}

-- the message of the head h, of n bytes, with its body, and what is left behind them; or why it is refused, and then all is left
abbrev pub TakenFrom : ℕ → List ℕ → RequestHead → ℕ → Taken → List ℕ → Type 0
TakenFrom limit all h n (Whole message size) left =
    (m : ℕ) × (judge limit (message_of h) ≡ Ok m) × (size ≡ n + m) × (n + m ≤ length all) × (message ≡ message_with h (take m (drop n all)))
    × (left ≡ drop (n + m) all)
TakenFrom limit all h n (Not kind head) left =
    (left ≡ all) × (head ≡ is_head h.method)
    × ((judge limit (message_of h) ≡ Err kind) ⊎ ((kind ≡ ShortBody) × (m : ℕ) × (judge limit (message_of h) ≡ Ok m) × (length all < n + m)))

-- m bytes behind the first n of all came whole, or the connection ended before, and then all is left
abbrev pub BodyFrom : List ℕ → ℕ → ℕ → Bool → List ℕ → List ℕ → List ℕ → Type 0
BodyFrom all n m true body before rest = (n + m ≤ length all) × (body ≡ take m (drop n all)) × (before ++ rest ≡ drop (n + m) all)
BodyFrom all n m false body before rest = (length all < n + m) × ((before ++ body) ++ rest ≡ all)

-- P, if the head's request came whole
abbrev pub OnWhole : Type 0 → Taken → Type 0
OnWhole P (Whole message size) = P
OnWhole P (Not kind head) = Unit {0}

-- the answer to what was taken behind so many bytes of requests, how many there are with it, and whether the reader has ended
abbrev pub IsAnswer : Taken → ℕ → Got → ℕ → Bool → Type 0
IsAnswer (Whole message size) place got next over = (got ≡ Request message) × (next ≡ place_after place size) × (over ≡ false)
IsAnswer (Not kind head) place got next over = (got ≡ Refused kind place head) × (next ≡ place) × (over ≡ true)

-- no whole head was found
abbrev pub IsHeadless : Found → Type 0
IsHeadless (Head spans) = ⊥
IsHeadless Bad = Unit {0}
IsHeadless Long = Unit {0}
IsHeadless Cut = Unit {0}
IsHeadless Nothing = Unit {0}

-- the answer then, behind so many bytes of requests; where a whole head was found there is none
abbrev pub AnswersHeadless : Found → ℕ → Got → Type 0
AnswersHeadless (Head spans) place got = ⊥
AnswersHeadless Bad place got = got ≡ Refused BadHead place false
AnswersHeadless Long place got = got ≡ Refused LongHead place false
AnswersHeadless Cut place got = got ≡ CutShort place
AnswersHeadless Nothing place got = got ≡ End
