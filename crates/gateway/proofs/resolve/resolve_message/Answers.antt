use Rattle.std.proofs.Common.{ap, ◌∙◌}
use Rattle.gateway.specs.Request.{raw_path}
use Rattle.gateway.proofs.Resolving.{message_is}
use Rattle.gateway.proofs.resolve.resolve_message.Goals as goal

pub returns-clause-is : goal.returns-clause-is
returns-clause-is c =
    message_is _ c.args.service.now c.args.moment c.args.message.now c.resolve_target_and_meaning-understood.ensures.caller (c.as_slice.ensures ∙ c.resolve_target_and_meaning-understood.ensures.keeps.0) (c.resolved_resource_path.ensures ∙ ap raw_path (c.as_slice-2.ensures ∙ c.resolve_target_and_meaning-understood.ensures.keeps.1)) c.resolve_target_and_meaning-understood.ensures.means c.end_of-end.ensures.is
