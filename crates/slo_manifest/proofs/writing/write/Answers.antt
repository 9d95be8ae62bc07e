use Rattle.std.proofs.Common.{List, ℕ, map, Ok, sym, ap, ◌∙◌, subst, arith}
use Rattle.std.proofs.lemmas.List.{take_all}
use Rattle.slo_manifest.specs.Text.{entry_value}
use Rattle.slo_manifest.specs.Manifest.{Reads}
use Rattle.slo_manifest.proofs.RoundTrip.{manifest_reads_back, text_written}
use Rattle.slo_manifest.proofs.writing.write.Goals as goal

pub returns-clause-text : goal.returns-clause-text
returns-clause-text c =
    let all = take_all c.loop-segment.segment-index c.args.segments.now (omega (arith, c.loop-segment-test.false)) in
    let made = c.loop-segment.invariant ∙ ap (map (entry_value c.args.form)) all in
    c.from_vec.ensures ∙ text_written c.args.form c.args.segments.now c.loop-segment.entries _ made c.in_ok-to_vec.ensures.text

pub returns-clause-reads_back : goal.returns-clause-reads_back
returns-clause-reads_back c =
    let P : List ℕ → Type 0 = λ text. Reads c.args.form text (Ok c.args.segments.now) in
    subst P (sym (returns-clause-text c)) (manifest_reads_back c.args.form c.args.segments.now c.requires)
