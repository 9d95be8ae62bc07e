-- What a reader answers, by what came and what was taken.
use Rattle.std.proofs.Common.{◌≡◌, ℕ, true, false, inr, List, [], ◌++◌, Ok, refl, sym, ap, subst, ◌∙◌, append-nil}
use Rattle.httparse.specs.declared.spans.HeaderSpan.{HeaderSpan}
use Rattle.httparse.specs.Grammar.{RequestHead}
use Rattle.http_wire.specs.declared.advance.Found.{Found}
use Rattle.http_wire.specs.declared.advance.Found.TheVariants.{Head, Bad, Long, Cut, Nothing}
use Rattle.http_wire.specs.declared.message.Got.{Got}
use Rattle.http_wire.specs.declared.message.Kind.TheVariants.{BadHead, LongHead}
use Rattle.http_wire.specs.declared.take.Taken.{Taken}
use Rattle.http_wire.specs.declared.take.Taken.TheVariants.{Whole, Not}
use Rattle.http_wire.specs.FirstMessage.{BeginsWith, HasHead, HasNoHead, cut_short, nothing, refused}
use Rattle.http_wire.specs.Reading.{Pending, GivesFirstMessage, OnRequest, ends}
use Rattle.http_wire.specs.Seen.{AtEnd, IsFound}
use Rattle.http_wire.specs.Taken.{AnswersHeadless, IsAnswer, TakenFrom}
use Rattle.http_wire.proofs.FirstMessageLemmas.{front_bad, front_cut, front_ends, front_long, front_not, front_taken}
use Rattle.http_wire.proofs.InterimLemmas.{empty_has_none}

-- all bytes that are left, read or not, while nothing came of a body
pub all_left : (pending partial bytes rest came more : List ℕ) → partial ≡ [] → pending ++ partial ≡ bytes → came ++ more ≡ pending ++ rest
    → came ++ more ≡ bytes ++ rest
all_left pending partial bytes rest came more none is kept =
    kept ∙ ap (λ v. v ++ rest) (sym (ap (λ v. pending ++ v) none ∙ append-nil pending) ∙ is)

-- they are still left where no message was taken
pub all_stay : (came partial more all : List ℕ) → partial ≡ [] → came ++ more ≡ all → (came ++ partial) ++ more ≡ all
all_stay came partial more all none is = ap (λ v. v ++ more) (ap (λ v. came ++ v) none ∙ append-nil came) ∙ is

-- the answer to what was taken of a whole head is the first message
pub gives_taken : (limit : ℕ) (taken : Taken) (all : List ℕ) (h : RequestHead) (n : ℕ) (left : List ℕ) (old : Pending) (got : Got) (new : Pending) → HasHead all h n
    → TakenFrom limit all h n taken left → old.ended ≡ false → IsAnswer taken old.place got new.place new.ended → GivesFirstMessage limit old all got new left
gives_taken limit (Whole message size) all h n left old got new has taken goes is =
    let front = front_taken limit all h n message size left has taken in
    subst (λ v. GivesFirstMessage limit old all v new left) (sym is.0) (size, goes, front.0, front.1, is.1)
gives_taken limit (Not kind head) all h n left old got new has taken goes is =
    subst (λ v. GivesFirstMessage limit old all v new left) (sym is.0) (goes, front_not limit all h n kind head left has taken, refl, taken.0, is.1)

-- ---- no whole head was found

-- the answer is the first message
pub gives_headless : (limit : ℕ) (found : Found) (came more all left : List ℕ) (headers : List HeaderSpan) (at : ℕ) (old : Pending) (got : Got) (new : Pending)
    → AnswersHeadless found at got → IsFound came headers found → AtEnd found more → came ++ more ≡ all → left ≡ all
    → old.ended ≡ false → at ≡ old.place → new.place ≡ old.place → GivesFirstMessage limit old all got new left
gives_headless limit (Head spans) came more all left headers at old got new is found end whole stays goes place kept = absurd is
gives_headless limit Bad came more all left headers at old got new is found end whole stays goes place kept =
    subst (λ v. GivesFirstMessage limit old all v new left) (sym is)
    (goes, subst (λ v. BeginsWith limit v (refused BadHead false)) whole (front_bad limit came more found), place, stays, kept)
gives_headless limit Long came more all left headers at old got new is found end whole stays goes place kept =
    subst (λ v. GivesFirstMessage limit old all v new left) (sym is)
    (goes, subst (λ v. BeginsWith limit v (refused LongHead false)) whole (front_long limit came more found.0 found.1 found.2), place, stays, kept)
gives_headless limit Cut came more all left headers at old got new is found end whole stays goes place kept =
    subst (λ v. GivesFirstMessage limit old all v new left) (sym is)
    (goes, subst (λ v. BeginsWith limit v cut_short) whole (front_cut limit came more found.0 found.1 found.2 found.3 end), place, stays, kept)
gives_headless limit Nothing came more all left headers at old got new is found end whole stays goes place kept =
    subst (λ v. GivesFirstMessage limit old all v new left) (sym is)
    (inr (subst (λ v. BeginsWith limit v nothing) whole (front_ends limit came more found end)), stays, kept)

-- so the bytes have none
pub headless_has_none : (found : Found) (came more : List ℕ) (headers : List HeaderSpan) (at : ℕ) (got : Got) → AnswersHeadless found at got
    → IsFound came headers found → AtEnd found more → HasNoHead (came ++ more)
headless_has_none (Head spans) came more headers at got is found end = absurd is
headless_has_none Bad came more headers at got is found end = (front_bad 0 came more found).0
headless_has_none Long came more headers at got is found end = (front_long 0 came more found.0 found.1 found.2).0
headless_has_none Cut came more headers at got is found end = (front_cut 0 came more found.0 found.1 found.2 found.3 end).2
headless_has_none Nothing came more headers at got is found end = empty_has_none came more found end

-- and it is no request
pub headless_falls : (found : Found) (at : ℕ) (got : Got) (P : Type 0) → AnswersHeadless found at got → OnRequest (Ok got) P
headless_falls (Head spans) at got P is = absurd is
headless_falls Bad at got P is = subst (λ v. OnRequest (Ok v) P) (sym is) tt
headless_falls Long at got P is = subst (λ v. OnRequest (Ok v) P) (sym is) tt
headless_falls Cut at got P is = subst (λ v. OnRequest (Ok v) P) (sym is) tt
headless_falls Nothing at got P is = subst (λ v. OnRequest (Ok v) P) (sym is) tt

pub headless_ends : (found : Found) (at : ℕ) (got : Got) → AnswersHeadless found at got → true ≡ ends (Ok got)
headless_ends (Head spans) at got is = absurd is
headless_ends Bad at got is = subst (λ v. true ≡ ends (Ok v)) (sym is) refl
headless_ends Long at got is = subst (λ v. true ≡ ends (Ok v)) (sym is) refl
headless_ends Cut at got is = subst (λ v. true ≡ ends (Ok v)) (sym is) refl
headless_ends Nothing at got is = subst (λ v. true ≡ ends (Ok v)) (sym is) refl
