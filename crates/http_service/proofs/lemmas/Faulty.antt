-- What connections that are served one after another do to the line.
use Rattle.std.specs.Prelude.{◌≡◌, ◌≤◌, ℕ, ◌+◌, ◌-◌, Bool, true, false, IsTrue, [], ◌++◌, replicate, Option, None, Some, Ok, Err}
use Rattle.std.proofs.Common.{ap, subst, ◌∙◌, arith}
use Rattle.std.proofs.lemmas.List.{append_assoc, replicate-append-replicate}
use Rattle.gate_base.specs.declared.faults.Failed.{Failed}
use Rattle.gate_base.specs.Causes.{Rose, RisesIf}
use Rattle.gate_base.specs.Line.{LineModel, LineNext, LineServes, TranscriptServes}
use Rattle.gate_base.specs.Transcript.{Transcript, Begins}
use Rattle.http_service.specs.declared.run.Stopped.{Stopped}
use Rattle.http_service.specs.declared.run.Stopped.TheVariants.{Done, Line}
use Rattle.http_service.specs.Running.{NoneFaulty, LineServesNext}
use Rattle.http_service.proofs.lemmas.NoneFaulty.{none_faulty_of_none}

-- a count that rose in between rose in all
rose_first : (first second third : ℕ) → Rose first second → second ≤ third → Rose first third
rose_first first second third rose order = omega arith

rose_last : (first second third : ℕ) → first ≤ second → Rose second third → Rose first third
rose_last first second third order rose = omega arith

-- connections none of which was faulty, and then more
none_faulty_more : (old middle new : Transcript) → NoneFaulty old middle → NoneFaulty middle new → NoneFaulty old new
none_faulty_more old middle new first then =
    let begins = first.begun in
    let goes = then.begun in
    let all : (middle.begun - old.begun) + (new.begun - middle.begun) ≡ new.begun - old.begun = omega arith in
    record {
      begun = omega arith;
      faulty = then.faulty
          ∙ ap (λ faulty. faulty ++ replicate (new.begun - middle.begun) false) first.faulty
          ∙ append_assoc old.faulty _ _
          ∙ ap (λ faulty. old.faulty ++ faulty) (replicate-append-replicate (middle.begun - old.begun) (new.begun - middle.begun) false)
          ∙ ap (λ n. old.faulty ++ replicate n false) all;
    }

-- a connection that was served, and after which the line's count did not rise, wasn't faulty
one_not_faulty : (failed : Bool) (old middle new : LineModel) → middle.faults ≡ old.faults → RisesIf failed middle.faults new.faults → Begins true old.transcript middle.transcript → TranscriptServes failed middle.transcript new.transcript
    → (Rose old.faults new.faults → ⊥) → NoneFaulty old.transcript new.transcript
one_not_faulty true old middle new same rises begins serves still = absurd (still (subst (λ n. Rose n new.faults) same rises))
one_not_faulty false old middle new same rises begins serves still =
    let begun : new.transcript.begun ≡ old.transcript.begun + 1 = serves.begun ∙ begins.1 in
    let one : 1 ≡ new.transcript.begun - old.transcript.begun = omega arith in
    record { begun = omega arith; faulty = serves.faulty ∙ begins.3 ∙ ap (λ n. old.transcript.faulty ++ replicate n false) one }

rises_above : (failed : Bool) (before now : ℕ) → RisesIf failed before now → before ≤ now
rises_above true before now rises = omega arith
rises_above false before now rises = omega arith

-- the next connection was served
pub line_serves_next : {failed : Bool} {old middle new : LineModel} → LineNext old (Ok true) middle → LineServes failed middle new → LineServesNext None old new
line_serves_next {failed = failed} {old = old} {middle = middle} {new = new} next serves =
    let spent = next.spent in
    let same = next.faults in
    let later = serves.spent in
    let risen = rises_above failed middle.faults new.faults serves.faults in
    record {
      falls = λ is. omega arith;
      faults = omega arith;
      next_faults = serves.next_faults ∙ next.next_faults;
      observable = λ told. serves.observable (next.observable told);
      begun = λ observable. (serves.transcript (next.observable observable)).begun ∙ (next.effect observable).1;
      done = λ observable not. cc;
      none_faulty = λ observable still. one_not_faulty failed old middle new same serves.faults (next.effect observable) (serves.transcript (next.observable observable)) still;
    }

-- there is no other
pub line_serves_none : {old new : LineModel} → LineNext old (Ok false) new → LineServesNext (Some Done) old new
line_serves_none {old = old} {new = new} next =
    let same = next.faults in
    record {
      falls = λ not. cc;
      faults = omega arith;
      next_faults = next.next_faults;
      observable = next.observable;
      begun = λ observable. ap (λ w. w.begun) (next.effect observable).1;
      done = λ observable is. (let told = next.effect observable in ap (λ w. w.waiting) told.1 ∙ told.0);
      none_faulty = λ observable still. none_faulty_of_none _ _ (next.effect observable).1;
    }

-- or the line failed to give it
pub line_serves_failed : {old new : LineModel} {fault : Failed} → LineNext old (Err fault) new → LineServesNext (Some Line) old new
line_serves_failed {old = old} {new = new} next =
    let rose = next.faults in
    record {
      falls = λ not. cc;
      faults = omega arith;
      next_faults = next.next_faults;
      observable = next.observable;
      begun = λ observable. ap (λ w. w.begun) (next.effect_err observable);
      done = λ observable not. cc;
      none_faulty = λ observable still. none_faulty_of_none _ _ (next.effect_err observable);
    }

-- connections were served, and then the next
pub none_faulty_next : {result : Option Stopped} (old middle new : LineModel) → (IsTrue old.observable → IsTrue middle.observable) → old.faults ≤ middle.faults → (IsTrue old.observable → (Rose old.faults middle.faults → ⊥) → NoneFaulty old.transcript middle.transcript)
    → LineServesNext result middle new → IsTrue old.observable → (Rose old.faults new.faults → ⊥) → NoneFaulty old.transcript new.transcript
none_faulty_next old middle new observable risen before next told still = none_faulty_more old.transcript middle.transcript new.transcript
    (before told (λ rose. still (rose_first old.faults middle.faults new.faults rose next.faults)))
    (next.none_faulty (observable told) (λ rose. still (rose_last old.faults middle.faults new.faults risen rose)))

-- all are served, where the last answer says so
pub done_next : {stopped : Stopped} {old new : LineModel} → LineServesNext (Some stopped) old new → IsTrue old.observable → stopped ≡ Done → new.transcript.waiting ≡ []
done_next next observable is = next.done observable (ap Some is)
