use Rattle.std.proofs.Common.{rules, not, ◌∙◌, ap}
use Rattle.std.specs.List.{filter}
use Rattle.std.proofs.lemmas.Fn.{filter_same}
use Rattle.gate_base.specs.Named.{has_name}
use Rattle.planned_swift.specs.Lists.{without}
use Rattle.planned_swift.proofs.serve.take_away_from_account.Goals as goal

pub returns : goal.returns
unfolding without
returns g c =
    c.from_vec.ensures
    ∙ filter_same _ (λ a. not (has_name g.T.Named.name_of c.args.name.now a)) _ (λ x b f' k. search rules) _ _ c.retain.ensures.filtered
    ∙ ap (filter (λ a. not (has_name g.T.Named.name_of c.args.name.now a))) (c.into_vec-items.ensures ∙ c.replace.ensures.value)
