use Rattle.std.proofs.Common.{◌∙◌, rules, tests}
use Rattle.std.specs.Map.{values_of}
use Rattle.std.proofs.lemmas.Iterator.Consumers.{YieldsList-at, YieldsList-from_filter, YieldsList-from_rest, count_from_yields_List}
use Rattle.std.proofs.lemmas.List.Sums.{length-filter}
use Rattle.name_table.proofs.lemmas.Ordered.{entries_are}
use Rattle.s3_native.specs.Forgetting.{is_older}
use Rattle.s3_native.proofs.Forgotten.{counted}
use Rattle.s3_native.proofs.forgetting.Named+NativeKept.count_older.Goals as goal

pub returns : goal.returns
returns c =
    let es = c.self.inside.entries.entries in
    count_from_yields_List c.filter.result _ c.count.ensures.ran
    (YieldsList-from_filter _ (is_older c.args.before) (YieldsList-at c.filter.ensures.source (YieldsList-from_rest (values_of es) c.values.ensures.rest)) c.filter.ensures.closure (λ x b q k. search (rules, tests)))
    ∙ length-filter (is_older c.args.before) (values_of es)
    ∙ counted es c.args.self.now c.self.view_is (entries_are es c.values.ensures.ordered) (is_older c.args.before)
