use Rattle.serde_json.specs.View.{view}
use Rattle.slo_manifest.specs.Entry.{bad, empty, entry_of}
use Rattle.slo_manifest.proofs.ListLemmas.{stands_first}
use Rattle.slo_manifest.proofs.reading.read_manifest_entries.Goals as goal

pub returns-in-Err-Bad-clause-answer : goal.returns-in-Err-Bad-clause-answer
returns-in-Err-Bad-clause-answer c =
    stands_first (λ value. entry_of c.args.form (view value)) c.args.entries.now c.loop-index.index c.index-entries-index.result bad c.loop-index.segments c.loop-index-test.true c.index-entries-index.is
    (rw c.in-Err-Bad.field-0-is at c.in-Err-Bad.ensures.answer) c.loop-index.invariant.0

pub returns-in-Err-Empty-clause-answer : goal.returns-in-Err-Empty-clause-answer
returns-in-Err-Empty-clause-answer c =
    stands_first (λ value. entry_of c.args.form (view value)) c.args.entries.now c.loop-index.index c.index-entries-index.result empty c.loop-index.segments c.loop-index-test.true c.index-entries-index.is
    (rw c.in-Err-Empty.field-0-is at c.in-Err-Empty.ensures.answer) c.loop-index.invariant.0
