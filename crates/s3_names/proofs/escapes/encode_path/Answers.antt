use Rattle.std.proofs.Common.{arith}
use Rattle.std.proofs.lemmas.List.Elements.{All-from_get_or}
use Rattle.percent_encoding.proofs.PercentLemmas.{IsByte}
use Rattle.s3_names.proofs.lemmas.EscapeLemmas.{encoded_is_path, escaped_bytes_path, decoded_path}
use Rattle.s3_names.proofs.escapes.encode_path.Goals as goal

pub returns-clause-escaped : goal.returns-clause-escaped
returns-clause-escaped c =
    let small = All-from_get_or IsByte c.args.bytes.now 0 (λ i within. omega (arith, c.type_inv.bytes i)) in
    rw (← encoded_is_path c.args.bytes.now small) c.encode.ensures

pub returns-clause-reads_back : goal.returns-clause-reads_back
returns-clause-reads_back c =
    decoded_path c.args.bytes.now (All-from_get_or IsByte c.args.bytes.now 0 (λ i within. omega (arith, c.type_inv.bytes i)))

pub returns-clause-visible : goal.returns-clause-visible
returns-clause-visible c =
    escaped_bytes_path c.args.bytes.now (All-from_get_or IsByte c.args.bytes.now 0 (λ i within. omega (arith, c.type_inv.bytes i)))
