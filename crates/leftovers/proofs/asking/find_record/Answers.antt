use Rattle.std.proofs.Common.{refl, ap, subst, sym, ◌∙◌}
use Rattle.swift_calls.specs.Step.{IsContainerName}
use Rattle.upload_records.specs.Layout.{uploads_name}
use Rattle.account_calls.proofs.lemmas.Left.{throughout_none, throughout_one}
use Rattle.account_calls.proofs.lemmas.One.{not_asked, asked_of, asked_of_in_vain}
use Rattle.swift_calls.specs.Limits.{IsObjectName}
use Rattle.account_calls.proofs.lemmas.Names.{object_name}
use Rattle.account_calls.proofs.lemmas.SideNames.{uploads_fits}
use Rattle.leftovers.proofs.AskedAgain.{found_reads, says_found}
use Rattle.leftovers.proofs.asking.find_record.Goals as goal

pub returns-in_err-container-clause-asks : goal.returns-in_err-container-clause-asks
returns-in_err-container-clause-asks g c =
    λ test. not_asked _ _ _ c.from_residual.ensures.1

pub returns-in_err-container-clause-leaves : goal.returns-in_err-container-clause-leaves
returns-in_err-container-clause-leaves g c =
    throughout_none (g.W.Swift.history c.args.store.now)

pub returns-in_err-name-clause-asks : goal.returns-in_err-name-clause-asks
returns-in_err-name-clause-asks g c =
    λ test. not_asked _ _ _ c.from_residual-in_err-name.ensures.1

pub returns-in_err-name-clause-leaves : goal.returns-in_err-name-clause-leaves
returns-in_err-name-clause-leaves g c =
    throughout_none (g.W.Swift.history c.args.store.now)

pub returns-in_err-reply-clause-asks : goal.returns-in_err-reply-clause-asks
returns-in_err-reply-clause-asks g c =
    let named = c.in_ok-container.ensures ∙ ap uploads_name c.as_slice.ensures in
    λ test. asked_of_in_vain (found_reads c.args.bucket.now named c.in_ok-name.ensures c.requires.bucket test) c.in_err-reply.ensures _ c.from_residual-in_err-reply.ensures.1

pub returns-in_err-reply-clause-leaves : goal.returns-in_err-reply-clause-leaves
returns-in_err-reply-clause-leaves g c =
    let named = c.in_ok-container.ensures ∙ ap uploads_name c.as_slice.ensures in
    throughout_one (λ tree. refl) c.in_err-reply.ensures

pub ask_newest-requires : goal.ask_newest-requires
ask_newest-requires g c = (
  subst IsContainerName (sym (c.in_ok-container.ensures ∙ ap uploads_name c.as_slice.ensures)) (uploads_fits c.args.bucket.now c.requires.bucket),
  subst IsObjectName (sym c.in_ok-name.ensures) (object_name c.args.id.now c.requires.id),
  tt,
)

pub returns : goal.returns
returns g c =
    let named = c.in_ok-container.ensures ∙ ap uploads_name c.as_slice.ensures in
    record {
      asks = λ test. asked_of (found_reads c.args.bucket.now named c.in_ok-name.ensures c.requires.bucket test) c.in_ok-reply.ensures _ c.found_record_in_reply.ensures.due c.found_record_in_reply.ensures.own;
      says = λ observable. says_found named c.in_ok-name.ensures c.in_ok-reply.ensures c.found_record_in_reply.result c.found_record_in_reply.ensures.due observable;
      has = c.found_record_in_reply.ensures.has;
      leaves = throughout_one (λ tree. refl) c.in_ok-reply.ensures;
    }
