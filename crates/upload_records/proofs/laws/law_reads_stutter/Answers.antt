use Rattle.std.proofs.Common.{sym, ap, subst}
use Rattle.upload_records.specs.Native.{s3_state}
use Rattle.upload_records.specs.Consistent.{IsConsistent}
use Rattle.upload_records.proofs.laws.law_reads_stutter.Goals as goal

pub returns : goal.returns
returns c = λ tree request reads sound. record { sound = subst IsConsistent (sym (c.law_reads_leave.ensures request tree reads)) sound; same = ap s3_state (c.law_reads_leave.ensures request tree reads) }
