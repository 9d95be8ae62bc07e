use Rattle.std.proofs.Common.{◌<◌, ◌≤◌, List, length, map, sym, subst, arith}
use Rattle.std.proofs.lemmas.List.{length-map}
use Rattle.serde_json.specs.View.{view}
use Rattle.serde_json.specs.declared.value.Value.{Value}
use Rattle.slo_manifest.specs.Entry.{entry_of}
use Rattle.slo_manifest.specs.Manifest.{ReadsEntries}
use Rattle.slo_manifest.proofs.ListLemmas.{entries_of_list, reads_from, manifest_listed}
use Rattle.slo_manifest.proofs.reading.read.Goals as goal

pub returns-then-len-gt-MOST_SEGMENTS-clause-answer : goal.returns-then-len-gt-MOST_SEGMENTS-clause-answer
returns-then-len-gt-MOST_SEGMENTS-clause-answer c =
    let values = c.in-Some.entries.now.items in
    let entry = λ (value : Value). entry_of c.args.form (view value) in
    let found = entries_of_list c.args.form c.args.bytes.now _ values c.in_ok-value.ensures (sym c.in-Some.ensures) in
    let counted = length-map values entry in
    let many : 1000 < length (map entry values) = omega (arith, counted, c.in-Some.entries.now.ok.0, c.if-len-gt-MOST_SEGMENTS.true, c.len.ensures) in
    (map entry values, found, many)

pub returns-clause-answer : goal.returns-clause-answer
returns-clause-answer c =
    let values = c.in-Some.entries.now.items in
    let entry = λ (value : Value). entry_of c.args.form (view value) in
    let found = entries_of_list c.args.form c.args.bytes.now _ values c.in_ok-value.ensures (sym c.in-Some.ensures) in
    let counted = length-map values entry in
    let few : length (map entry values) ≤ 1000 = omega (arith, counted, c.in-Some.entries.now.ok.0, c.if-len-gt-MOST_SEGMENTS.false, c.len.ensures) in
    let P : List Value → Type 0 = λ items. ReadsEntries (map entry items) c.read_manifest_entries.result in
    reads_from c.args.form c.args.bytes.now (map entry values) c.read_manifest_entries.result found few (subst P c.deref.ensures.value c.read_manifest_entries.ensures.answer)

pub returns-clause-listed : goal.returns-clause-listed
returns-clause-listed c = manifest_listed c.args.form c.args.bytes.now c.read_manifest_entries.result (returns-clause-answer c) c.read_manifest_entries.ensures.listed
