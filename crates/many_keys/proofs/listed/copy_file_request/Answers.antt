use Rattle.std.proofs.Common.{◌≡◌, false, true, sym, ◌∙◌}
use Rattle.many_keys.proofs.PutsCopy.{copy_has_text}
use Rattle.many_keys.proofs.listed.copy_file_request.Goals as goal

pub object_request-requires : goal.object_request-requires
object_request-requires c = copy_has_text c.args.sealed.now c.requires.copy (λ none. let no : false ≡ true = sym c.if-is_empty.false ∙ c.is_empty.ensures.1 none in cc)
