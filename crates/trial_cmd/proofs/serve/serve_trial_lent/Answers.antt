use Rattle.std.proofs.Common.{refl, ap, ◌∙◌}
use Rattle.std.specs.Prelude.{◌-◌, ◌^◌, min, length}
use Rattle.gate_base.specs.ListTold.{draws_of, moments_of, source_of}
use Rattle.gate_base.specs.MemLine.{model_of}
use Rattle.account_calls.specs.declared.state.Known.TheVariants.{Unsure}
use Rattle.gateway.specs.World.{World, IsObservable, world}
use Rattle.sha2.specs.Sha256.{sha256}
use Rattle.trial_cmd.specs.Replied.{output_of}
use Rattle.trial_cmd.proofs.Causes.{written_alone, failed_rose, never_found}
use Rattle.trial_cmd.proofs.serve.serve_trial_lent.Goals as goal

pub returns-clause-talks : goal.returns-clause-talks
returns-clause-talks g c =
    let served = c.serve_connection-ended.ensures in
    let old : World = world (model_of c.args.lent.now.line.now) (g.W.Swift.history c.args.lent.now.store.now) Unsure (source_of (moments_of c.args.lent.now.clock.now)) (source_of (draws_of c.args.lent.now.draws.now)) in
    let new : World = world (model_of c.serve_connection-ended.new.lent.line.now) (g.W.Swift.history c.serve_connection-ended.new.lent.store.now) c.serve_connection-ended.new.lent.known
    (source_of (moments_of c.serve_connection-ended.new.lent.clock.now)) (source_of (draws_of c.serve_connection-ended.new.lent.draws.now)) in
    let told : IsObservable old = record { line = refl; clock = refl; draws = refl } in
    record {
      line' = new.line;
      clock' = new.clock;
      draws' = new.draws;
      known = new.known;
      fails = served.line;
      serves = served.serves;
      size = c.size_of_pieces.ensures ∙ ap (λ pieces. min (length (output_of pieces)) (2 ^ 64 - 1)) c.pieces.ensures;
      failed = failed_rose c.args.service.now c.serve_connection-ended.result old new c.law_failed_store_rose.ensures served.serves told;
      consistent = never_found c.args.service.now c.serve_connection-ended.result old new c.law_found_consistent.ensures served.serves told refl;
      alone = written_alone c.args.service.now c.serve_connection-ended.result old new served.serves told refl;
      hash = c.hash_of_pieces.ensures ∙ ap (λ pieces. sha256 (output_of pieces)) c.pieces-2.ensures;
    }

pub returns-clause-stays : goal.returns-clause-stays
returns-clause-stays g c =
    let stays = c.serve_connection-ended.ensures.stays in
    record { line = stays.line; store = stays.store; clock = stays.clock; draws = stays.draws }
