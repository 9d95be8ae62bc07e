use Rattle.std.proofs.Common.{arith}
use Rattle.std.proofs.lemmas.List.Elements.{All-from_get_or}
use Rattle.percent_encoding.proofs.PercentLemmas.{IsByte}
use Rattle.s3_names.proofs.lemmas.EscapeLemmas.{encoded_is_all, escaped_bytes_all, decoded_all}
use Rattle.s3_names.proofs.escapes.encode_all.Goals as goal

pub returns-clause-escaped : goal.returns-clause-escaped
returns-clause-escaped c =
    let small = All-from_get_or IsByte c.args.bytes.now 0 (λ i within. omega (arith, c.type_inv.bytes i)) in
    rw (← encoded_is_all c.args.bytes.now small) c.encode.ensures

pub returns-clause-reads_back : goal.returns-clause-reads_back
returns-clause-reads_back c =
    decoded_all c.args.bytes.now (All-from_get_or IsByte c.args.bytes.now 0 (λ i within. omega (arith, c.type_inv.bytes i)))

pub returns-clause-visible : goal.returns-clause-visible
returns-clause-visible c =
    escaped_bytes_all c.args.bytes.now (All-from_get_or IsByte c.args.bytes.now 0 (λ i within. omega (arith, c.type_inv.bytes i)))
