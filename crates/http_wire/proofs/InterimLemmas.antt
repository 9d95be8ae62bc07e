-- What was sent of the interim line while a request was read.
use Rattle.std.proofs.Common.{◌≡◌, ℕ, inl, inr, Bool, true, true≢false, List, [], ◌++◌, Result, Ok, Err, refl, sym, subst, ◌∙◌}
use Rattle.gate_base.specs.declared.outside.Piece.{Piece}
use Rattle.gate_base.specs.Transcript.{Transcript}
use Rattle.httparse.specs.declared.spans.HeaderSpan.{HeaderSpan}
use Rattle.httparse.specs.declared.spans.RequestSpans.{RequestSpans}
use Rattle.httparse.specs.Grammar.{RequestHead}
use Rattle.httparse.specs.Spans.{IsRequestAt}
use Rattle.http_wire.specs.declared.message.Kind.{Kind}
use Rattle.http_wire.specs.declared.message.Message.{Message}
use Rattle.http_wire.specs.declared.message.ReadFault.{ReadFault}
use Rattle.http_wire.specs.declared.message.ReadFault.TheVariants.{Failed, Memory}
use Rattle.http_wire.specs.declared.advance.Found.TheVariants.{Head}
use Rattle.http_wire.specs.FirstMessage.{HasHead, HasNoHead, judge, message_of}
use Rattle.http_wire.specs.Interim.{is_owed, owed_by, OwesInterim, SendsInterim, MaySendInterim, CutsInterim, SendsOn, SendsOnFault}
use Rattle.http_wire.specs.Seen.{window, IsFound}
use Rattle.http_wire.proofs.FirstMessageLemmas.{whole_head}
use Rattle.http_wire.proofs.lemmas.OwedLemmas.{owed_by_head, none_owed}
use Rattle.http_wire.proofs.lemmas.UniqueLemmas.{not_empty}

-- bytes were read before, and nothing was sent then
earlier : (P : Type 0) (at : ℕ) (old middle new : Transcript) (fault : ReadFault) → middle.begun ≡ old.begun → middle.sent ≡ old.sent
    → SendsOnFault P at middle fault new → SendsOnFault P at old fault new
earlier P at old middle new Failed b s sends =
    let before : (ℕ × List Piece) → Type 0 = λ x. CutsInterim P x.0 at x.1 new.sent in
    subst before (λ i. (b i, s i)) sends
earlier P at old middle new Memory b s sends =
    let before : (ℕ × List Piece) → Type 0 = λ x. MaySendInterim P x.0 at x.1 new.sent in
    subst before (λ i. (b i, s i)) sends

moved : {P Q : Type 0} (connection at : ℕ) (old new : List Piece) → (P → Q) → (Q → P) → SendsInterim P connection at old new → SendsInterim Q connection at old new
moved connection at old new to from (inl (p, e)) = inl (to p, e)
moved connection at old new to from (inr (n, e)) = inr (λ q. n (from q), e)

moved_fault : {P Q : Type 0} (at : ℕ) (old new : Transcript) (fault : ReadFault) → (P → Q) → SendsOnFault P at old fault new → SendsOnFault Q at old fault new
moved_fault at old new Failed to (inl e) = inl e
moved_fault at old new Failed to (inr (p, n, e)) = inr (to p, n, e)
moved_fault at old new Memory to (inl e) = inl e
moved_fault at old new Memory to (inr (p, e)) = inr (to p, e)

-- the same by the bytes, where a head came whole and its message was taken
pub whole_sent : (limit : ℕ) (came more all : List ℕ) (headers : List HeaderSpan) (spans : RequestSpans) (at : ℕ) (old middle new : Transcript)
    → came ++ more ≡ all → IsFound came headers (Head spans) → middle.begun ≡ old.begun → middle.sent ≡ old.sent
    → ((h : RequestHead) → IsRequestAt (window came) headers spans h → SendsInterim (is_owed limit (message_of h) ≡ true) middle.begun at middle.sent new.sent)
    → SendsInterim (OwesInterim limit all) old.begun at old.sent new.sent
whole_sent limit came more all headers spans at old middle new is found b s sends =
    let h : RequestHead = found.0.0 in
    let has = subst (λ (v : List ℕ). HasHead v h spans.len) is (whole_head came more headers spans h found.0.1 found.1) in
    let before : (ℕ × List Piece) → Type 0 = λ x. SendsInterim (is_owed limit (message_of h) ≡ true) x.0 at x.1 new.sent in
    moved old.begun at old.sent new.sent (λ owed. (h, spans.len, has, owed)) (owed_by_head limit all h spans.len has) (subst before (λ i. (b i, s i)) (sends h found.0.1))

-- and where its message could not be taken
pub whole_sent_fault : (limit : ℕ) (came more all : List ℕ) (headers : List HeaderSpan) (spans : RequestSpans) (at : ℕ) (old middle new : Transcript) (fault : ReadFault)
    → came ++ more ≡ all → IsFound came headers (Head spans) → middle.begun ≡ old.begun → middle.sent ≡ old.sent
    → ((h : RequestHead) → IsRequestAt (window came) headers spans h → SendsOnFault (is_owed limit (message_of h) ≡ true) at middle fault new)
    → SendsOnFault (OwesInterim limit all) at old fault new
whole_sent_fault limit came more all headers spans at old middle new fault is found b s sends =
    let h : RequestHead = found.0.0 in
    let has = subst (λ (v : List ℕ). HasHead v h spans.len) is (whole_head came more headers spans h found.0.1 found.1) in
    moved_fault at old new fault (λ owed. (h, spans.len, has, owed)) (earlier (is_owed limit (message_of h) ≡ true) at old middle new fault b s (sends h found.0.1))

-- no whole head came, and nothing was sent
pub none_sent : (limit : ℕ) (came more all : List ℕ) (connection at : ℕ) (old new : List Piece) → came ++ more ≡ all → HasNoHead (came ++ more) → new ≡ old
    → SendsInterim (OwesInterim limit all) connection at old new
none_sent limit came more all connection at old new is none e = inr (none_owed limit all (subst HasNoHead is none), e)

pub empty_has_none : (bytes more : List ℕ) → bytes ≡ [] → more ≡ [] → HasNoHead (bytes ++ more)
empty_has_none bytes more none end h n has = not_empty (bytes ++ more) h n has (λ i. none i ++ end i)

-- the line was sent where it is owed, and then the body was read or not
pub then_reads : (P : Type 0) (at : ℕ) (old middle new : Transcript) (result : Result Bool ReadFault)
    → SendsInterim P old.begun at old.sent middle.sent → new.sent ≡ middle.sent → SendsOn P at old result new
then_reads P at old middle new (Ok whole) (inl (p, e)) s = inl (p, s ∙ e)
then_reads P at old middle new (Ok whole) (inr (n, e)) s = inr (n, s ∙ e)
then_reads P at old middle new (Err Failed) (inl (p, e)) s = inr (p, 25, s ∙ e)
then_reads P at old middle new (Err Failed) (inr (n, e)) s = inl (s ∙ e)
then_reads P at old middle new (Err Memory) (inl (p, e)) s = inr (p, s ∙ e)
then_reads P at old middle new (Err Memory) (inr (n, e)) s = inl (s ∙ e)

-- what was sent for a message that is accepted was sent for its head
pub sent_for_head : (limit size : ℕ) (message of_head : Message) (connection at : ℕ) (old new : List Piece) → message ≡ of_head → Ok size ≡ judge limit message
    → SendsInterim (owed_by message (Ok size) ≡ true) connection at old new → SendsInterim (is_owed limit of_head ≡ true) connection at old new
sent_for_head limit size message of_head connection at old new same judged sends =
    subst (λ (m : Message). SendsInterim (is_owed limit m ≡ true) connection at old new) same
    (subst (λ (r : Result ℕ Kind). SendsInterim (owed_by message r ≡ true) connection at old new) judged sends)

-- and nothing is owed for one that is refused
pub none_for_head : (limit : ℕ) (kind : Kind) (message of_head : Message) (connection at : ℕ) (old : List Piece) → message ≡ of_head → Err kind ≡ judge limit message
    → SendsInterim (is_owed limit of_head ≡ true) connection at old old
none_for_head limit kind message of_head connection at old same judged =
    subst (λ (m : Message). SendsInterim (is_owed limit m ≡ true) connection at old old) same
    (subst (λ (r : Result ℕ Kind). SendsInterim (owed_by message r ≡ true) connection at old old) judged (inr (λ e. absurd (true≢false (sym e)), refl)))

-- the same where the body could not be taken
pub fault_for_head : (limit size : ℕ) (message of_head : Message) (at : ℕ) (old new : Transcript) (fault : ReadFault) → message ≡ of_head → Ok size ≡ judge limit message
    → SendsOnFault (owed_by message (Ok size) ≡ true) at old fault new → SendsOnFault (is_owed limit of_head ≡ true) at old fault new
fault_for_head limit size message of_head at old new fault same judged sends =
    subst (λ (m : Message). SendsOnFault (is_owed limit m ≡ true) at old fault new) same
    (subst (λ (r : Result ℕ Kind). SendsOnFault (owed_by message r ≡ true) at old fault new) judged sends)
