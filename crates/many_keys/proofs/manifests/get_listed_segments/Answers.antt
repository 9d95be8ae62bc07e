use Rattle.std.proofs.Common.{inr, sym, subst}
use Rattle.swift_calls.specs.Limits.{IsObjectName}
use Rattle.swift_calls.specs.Step.{IsContainerName}
use Rattle.account_calls.proofs.lemmas.Names.{container_name, object_name}
use Rattle.account_calls.proofs.lemmas.One.{not_asked, asked_of, asked_of_in_vain}
use Rattle.many_keys.proofs.CutCalls.{list_reads_so}
use Rattle.many_keys.proofs.manifests.get_listed_segments.Goals as goal

pub returns-in_err-container-clause-asks : goal.returns-in_err-container-clause-asks
returns-in_err-container-clause-asks g c = λ etag size of_parts filled. not_asked _ _ _ c.from_residual.ensures.1

pub returns-in_err-name-clause-asks : goal.returns-in_err-name-clause-asks
returns-in_err-name-clause-asks g c = λ etag size of_parts filled. not_asked _ _ _ c.from_residual-in_err-name.ensures.1

pub call-requires : goal.call-requires
call-requires g c = (
  subst IsContainerName (sym c.in_ok-container.ensures.value) (container_name c.args.bucket.now c.in_ok-container.ensures.fit),
  subst IsObjectName (sym c.in_ok-name.ensures.value) (object_name c.args.key.now c.in_ok-name.ensures.fit),
)

pub returns-in_err-reply-clause-asks : goal.returns-in_err-reply-clause-asks
returns-in_err-reply-clause-asks g c = λ etag size of_parts filled.
    asked_of_in_vain (list_reads_so c.law_listing_found.ensures c.in_ok-container.ensures.value c.in_ok-name.ensures.value c.in_ok-container.ensures.fit of_parts filled)
    c.in_err-reply.ensures.calls _ c.from_residual-in_err-reply.ensures.1

pub returns-clause-asks : goal.returns-clause-asks
returns-clause-asks g c = λ etag size of_parts filled.
    asked_of (list_reads_so c.law_listing_found.ensures c.in_ok-container.ensures.value c.in_ok-name.ensures.value c.in_ok-container.ensures.fit of_parts filled)
    c.in_ok-reply.ensures.calls _ (inr c.interpret_listed_segments.ensures.due) c.interpret_listed_segments.ensures.own
