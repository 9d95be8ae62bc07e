use Rattle.std.proofs.Common.{◌≡◌, true, sym, subst, ◌∙◌}
use Rattle.presign.specs.Url.{is_region}
use Rattle.gateway_cmd.proofs.Signers.{signer_is_key, url_first, url_report_line, url_sends}
use Rattle.gateway_cmd.proofs.attempt.presign.Goals as goal

pub presign_first-requires : goal.presign_first-requires
presign_first-requires g c = record {
  signer = record {
    key = signer_is_key c.as_slice-in-Some.result.now c.as_slice.result.now c.in-Some.secret.now c.args.by.now.keys.now c.requires.keys (c.as_slice-in-Some.ensures ∙ sym c.as_slice.ensures) c.in-Some.ensures.value;
    regional = subst (λ region. is_region region ≡ true) (sym c.as_slice-in-Some-2.ensures) c.requires.region;
    timed = c.now.ensures.limit;
    least = c.requires.least;
    most = c.requires.most;
  };
}

pub returns-in-Some-clause-line : goal.returns-in-Some-clause-line
returns-in-Some-clause-line g c = url_report_line c.outcome_of_presigning.result c.presign_first.result c.outcome_of_presigning.ensures (g.met.W.Swift.counted c.args.store.now) c.presign_first.ensures.line

pub returns-in-Some-clause-effect : goal.returns-in-Some-clause-effect
returns-in-Some-clause-effect g c = λ secret is observable.
    let old = (g.N.Line.model c.args.line.now).transcript in
    let new = (g.N.Line.model c.presign_first.new.line).transcript in
    let first = url_first old.waiting secret c.in-Some.secret.now c.args.by.now.id.now c.as_slice-in-Some.result.now c.as_slice.result.now c.args.by.now.region.now c.as_slice-in-Some-2.result.now c.args.by.now.keys.now c.now.result c.args.expires c.presign_first.result
    c.in-Some.ensures.value c.as_slice.ensures is c.as_slice-in-Some.ensures c.as_slice-in-Some-2.ensures (c.presign_first.ensures.effect observable) in
    let sends = url_sends old new c.presign_first.result (g.met.W.Swift.counted c.args.store.now) (c.presign_first.ensures.sent observable) in
    (c.now.result, c.now.ensures, c.presign_first.result, first, sends, c.outcome_of_presigning.ensures)
