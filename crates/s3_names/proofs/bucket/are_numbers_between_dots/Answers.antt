use Rattle.std.proofs.Common.{◌≡◌, ◌+◌, Some, true, take, drop, position, ◌∙◌, arith}
use Rattle.std.specs.List.{list_all, slice_split}
use Rattle.std.proofs.lemmas.Grind.{common_steps}
use Rattle.s3_names.specs.Bucket.{is_dot, is_short_number}
use Rattle.s3_names.proofs.lemmas.Dots.{numbers_go_on}
use Rattle.s3_names.proofs.bucket.are_numbers_between_dots.Goals as goal

pub texts-preserved : goal.texts-preserved
texts-preserved c =
    let rest = c.texts.rest.now in
    let found : position is_dot rest ≡ Some c.in-Some.at = cc in
    let passing : is_short_number (take c.in-Some.at rest) ≡ true = cc in
    let cut : list_all is_short_number (slice_split is_dot c.args.name.now) ≡ list_all is_short_number (slice_split is_dot (drop (c.in-Some.at + 1) rest)) = c.texts.invariant ∙ numbers_go_on rest c.in-Some.at found passing in
    grind (arith, common_steps, cut)
