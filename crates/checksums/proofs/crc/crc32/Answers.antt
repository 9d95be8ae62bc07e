use Rattle.std.proofs.Common.{◌<◌, ◌^◌, arith}
use Rattle.checksums.proofs.crc.crc32.Goals as goal

pub overflow_cast-result : goal.overflow_cast-result
overflow_cast-result c = let within : c.crc.result < 2 ^ 32 = c.crc.ensures.within 32 (omega arith) (omega arith) in omega arith
