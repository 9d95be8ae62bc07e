use Rattle.std.proofs.Common.{◌≡◌, ◌+◌, ◌-◌, ◌^◌, [], min, sym, ap, ◌∙◌, arith}
use Rattle.name_table.proofs.lemmas.Ordered.{entries_are}
use Rattle.s3_native.proofs.Forgotten.{old_among, old_among_all, old_among_more, saturates}
use Rattle.s3_native.proofs.forgetting.Named+NativeBucket.count_older_in_each.Goals as goal

pub loop-bucket-preserved : goal.loop-bucket-preserved
loop-bucket-preserved c =
    let rest = old_among c.args.before c.next.new.self in
    let more = old_among_more c.args.before c.loop-bucket.bucket-iterator c.next.new.self (c.in-Some.field-0-0.now, c.in-Some.bucket.now) c.in-Some.ensures.steps in
    let sums = saturates c.loop-bucket.count c.count_older.result rest (old_among c.args.before c.loop-bucket.bucket-iterator) (old_among c.args.before c.into_iter-bucket-iterator.result) (2 ^ 64 - 1) c.loop-bucket.invariant.sums
    (more ∙ ap (λ n. n + rest) (sym c.count_older.ensures)) in
    record {
      fits = c.saturating_add-count.type_inv;
      sums = ap (λ n. min (n + rest) (2 ^ 64 - 1)) c.saturating_add-count.ensures ∙ sums;
    }

pub returns : goal.returns
returns c =
    let es = c.as_map-bucket-items.result.now.entries in
    let gives = c.into_iter-bucket-iterator.ensures.into_iter_gives in
    let ends : c.loop-bucket.bucket-iterator ≡ [] = c.in-None.ensures.steps.0 in
    let none : old_among c.args.before c.loop-bucket.bucket-iterator ≡ 0 = ap (old_among c.args.before) ends in
    let all = ap (old_among c.args.before) gives.0 ∙ old_among_all c.args.before es c.args.self.now c.as_map-bucket-items.ensures (entries_are es gives.5) in
    omega (arith, c.loop-bucket.invariant.fits, c.loop-bucket.invariant.sums)
