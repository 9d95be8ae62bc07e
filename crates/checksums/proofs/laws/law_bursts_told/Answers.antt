use Rattle.checksums.proofs.BurstLemmas.{crc32_told, crc32c_told, crc64_nvme_told}
use Rattle.checksums.proofs.laws.law_bursts_told.Goals as goal

pub returns : goal.returns
returns c = (crc32_told, crc32c_told, crc64_nvme_told)
