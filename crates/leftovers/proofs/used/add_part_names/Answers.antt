use Rattle.std.proofs.Common.{◌∙◌, arith}
use Rattle.s3_names.specs.Id.{id_digits}
use Rattle.leftovers.proofs.SealedNames.{naming_all, naming_more, naming_none, number_fits}
use Rattle.leftovers.proofs.used.add_part_names.Goals as goal

pub loop-part-init : goal.loop-part-init
loop-part-init c = naming_none (id_digits c.args.id) c.args.table.now c.args.parts.now

pub segment_name-requires : goal.segment_name-requires
segment_name-requires c = number_fits c.args.parts.now c.loop-part.part-index c.part-item.result c.requires c.loop-part-test.true c.part-item.is

pub loop-part-preserved : goal.loop-part-preserved
loop-part-preserved c =
    naming_more (id_digits c.args.id) c.args.table.now c.args.parts.now c.loop-part.table c.loop-part.invariant c.part-item.result c.loop-part-test.true c.part-item.is _ (c.as_slice.ensures ∙ c.in_ok-name.ensures) c.in_ok-put.ensures.ok

pub returns : goal.returns
returns c = naming_all (id_digits c.args.id) c.args.table.now c.args.parts.now c.loop-part.table (omega (arith, c.loop-part-test.false)) c.loop-part.invariant
