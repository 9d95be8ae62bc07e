use Rattle.s3_bodies.proofs.PartLemmas.{sum_shorter, sums_more, sums_none}
use Rattle.s3_bodies.proofs.part.checksums.Goals as goal

pub checksums-preserved : goal.checksums-preserved
checksums-preserved c = λ last left s. c.checksums.invariant last left (sums_more _ _ last left c.in-Ok.ensures s)

pub checksums-smaller : goal.checksums-smaller
checksums-smaller c = sum_shorter _ _ c.in-Ok.ensures

pub returns-in-Err : goal.returns-in-Err
returns-in-Err c = c.checksums.invariant _ _ (sums_none _ _ c.in-Err.ensures)
