use Rattle.slo_manifest.proofs.CoverLemmas.{places_rise}
use Rattle.slo_manifest.proofs.covering.cover.Goals as goal

pub returns-clause-in_order : goal.returns-clause-in_order
returns-clause-in_order c =
    let first = c.segment_of_byte-first.result in
    let last = c.segment_of_byte-last.result in
    places_rise c.args.sizes.now c.args.from c.args.to first.0 last.0 first.1 last.1 c.requires.ordered c.segment_of_byte-first.ensures c.segment_of_byte-last.ensures
