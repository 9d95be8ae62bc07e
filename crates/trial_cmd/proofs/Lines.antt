-- The line of a trial, once its connection has begun.
use Rattle.std.proofs.Common.{◌≡◌, ◌∙◌, ℕ, ◌+◌, true, List, [], ◌∷◌, drop, get_or, sym, ap}
use Rattle.std.specs.Prelude.{IsTrue, Ok}
use Rattle.gate_base.specs.Line.{LineModel, LineNext}
use Rattle.gate_base.specs.Transcript.{empty}
use Rattle.trial_requests.specs.Trial.{trial_text}
use Rattle.trial_cmd.specs.Served.{IsTrialLine}

pub begun_line : (number requests : ℕ) (text : List ℕ) (old new : LineModel) → text ≡ trial_text number requests → old.transcript ≡ record empty { waiting = text ∷ [] } → IsTrue old.observable
    → LineNext old (Ok true) new → IsTrialLine number requests new
begun_line number requests text old new is waits told next =
    let begins = next.effect told in
    let begun : text ∷ [] ≡ new.transcript.rest ∷ new.transcript.waiting = sym (ap (λ t. t.waiting) waits) ∙ begins.0 in
    record {
      is_open = next.is_open;
      observable = next.observable told;
      rest = sym (ap (λ xs. get_or xs 0 []) begun) ∙ is;
      waiting = sym (ap (λ xs. drop 1 xs) begun);
      begun = begins.1 ∙ ap (λ t. t.begun + 1) waits;
      sent = begins.2 ∙ ap (λ t. t.sent) waits;
    }
