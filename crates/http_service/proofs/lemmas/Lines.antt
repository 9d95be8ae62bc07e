-- A connection that is served goes on being served.
use Rattle.std.proofs.Common.{◌≡◌, ℕ, Bool, true, false, slice_set, ◌-◌, subst, ◌∙◌, arith}
use Rattle.gate_base.specs.Causes.{RisesIf}
use Rattle.gate_base.specs.Line.{LineModel, LineServes, TranscriptServes}
use Rattle.gate_base.specs.Transcript.{Transcript}

transcript_serves_on : (failed : Bool) (first second third : Transcript) → TranscriptServes false first second → TranscriptServes failed second third → TranscriptServes failed first third
transcript_serves_on true first second third a b = record {
  waiting = b.waiting ∙ a.waiting;
  begun = b.begun ∙ a.begun;
  faulty = b.faulty ∙ (λ i. slice_set (a.faulty i) (a.begun i - 1) true);
}
transcript_serves_on false first second third a b = record { waiting = b.waiting ∙ a.waiting; begun = b.begun ∙ a.begun; faulty = b.faulty ∙ a.faulty }

rises_on : (failed : Bool) (first second third : ℕ) → second ≡ first → RisesIf failed second third → RisesIf failed first third
rises_on failed first second third same rises = subst (λ n. RisesIf failed n third) same rises

pub line_serves_on : {failed : Bool} {first second third : LineModel} → LineServes false first second → LineServes failed second third → LineServes failed first third
line_serves_on {failed = failed} {first = first} {second = second} {third = third} a b = record {
  is_open = b.is_open;
  faults = rises_on failed first.faults second.faults third.faults a.faults b.faults;
  next_faults = b.next_faults ∙ a.next_faults;
  spent = (let before = a.spent in let after = b.spent in omega arith);
  observable = λ t. b.observable (a.observable t);
  transcript = λ t. transcript_serves_on failed first.transcript second.transcript third.transcript (a.transcript t) (b.transcript (a.observable t));
}
