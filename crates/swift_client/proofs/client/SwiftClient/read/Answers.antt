use Rattle.std.proofs.Common.{◌++◌, ◌∙◌, ap, subst, Err}
use Rattle.swift_replies.specs.Answers.{ReadsAnswer}
use Rattle.swift_replies.specs.declared.fault.WireFault.TheVariants.{NotAnAnswer}
use Rattle.swift_client.proofs.client.SwiftClient.read.Goals as goal

pub returns-in-Err-NotAnAnswer-clause-reads : goal.returns-in-Err-NotAnAnswer-clause-reads
returns-in-Err-NotAnAnswer-clause-reads g c =
    let none = subst (λ fault. ReadsAnswer c.args.request.now (c.as_slice.result.now ++ c.replace-rest.result) (Err fault)) c.in-Err-NotAnAnswer.field-0-is c.in-Err-NotAnAnswer.ensures in
    subst (λ bytes. ReadsAnswer c.args.request.now bytes (Err NotAnAnswer))
    (ap (λ front. front ++ c.replace-rest.result) (c.as_slice.ensures ∙ c.replace-front.ensures.value) ∙ ap (λ rest. c.args.self.now.front ++ rest) c.replace-rest.ensures.value) none
