use Rattle.std.proofs.Common.{sym, ap, subst, ◌∙◌}
use Rattle.swift_calls.specs.declared.calls.SwiftRequest.{SwiftRequest}
use Rattle.swift_calls.specs.declared.calls.SwiftRequest.TheVariants.{PutContainer, PostContainer}
use Rattle.swift_store.specs.Serving.{IsReply}
use Rattle.swift_store.proofs.Calls.{reads_as}
use Rattle.swift_store.proofs.replies.shelf_reply_to_call.Goals as goal

pub returns-in-PutContainer-clause-reads : goal.returns-in-PutContainer-clause-reads
returns-in-PutContainer-clause-reads g c =
    let same = ap (λ n. PutContainer n c.in-PutContainer.readers c.in-PutContainer.created) c.as_slice-in-PutContainer.ensures ∙ sym c.in-PutContainer.is in
    reads_as _ (λ account reply is. subst (λ (call : SwiftRequest). IsReply call account reply) same (is c.in-PutContainer.readers c.in-PutContainer.created)) c.shelf_reply_to_put_container.ensures.reads

pub returns-in-PostContainer-clause-reads : goal.returns-in-PostContainer-clause-reads
returns-in-PostContainer-clause-reads g c =
    let same = ap (λ n. PostContainer n c.in-PostContainer.readers) c.as_slice-in-PostContainer.ensures ∙ sym c.in-PostContainer.is in
    reads_as _ (λ account reply is. subst (λ (call : SwiftRequest). IsReply call account reply) same (is c.in-PostContainer.readers)) c.shelf_reply_to_post_container.ensures.reads
