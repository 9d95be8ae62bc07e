use Rattle.std.proofs.Common.{rules, ◌∙◌, ap}
use Rattle.std.specs.List.{filter}
use Rattle.std.proofs.lemmas.Fn.{filter_same}
use Rattle.s3_machine.specs.Buckets.{is_of_page}
use Rattle.s3_machine.proofs.buckets.buckets_of_page.Goals as goal

pub returns : goal.returns
returns c =
    c.from_vec.ensures
    ∙ filter_same _ (is_of_page c.args.asked.now) _ (λ x b f' k. search rules) _ _ c.retain.ensures.filtered
    ∙ ap (filter (is_of_page c.args.asked.now)) c.into_vec-items.ensures
