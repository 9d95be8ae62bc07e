use Rattle.std.specs.Prelude.{◌≡◌, false}
use Rattle.std.proofs.Common.{refl, subst}
use Rattle.sigv4.specs.Keys.{keys_of, are_keys}
use Rattle.gateway_cmd.specs.Session.{out_of_memory, keys_refused}
use Rattle.gateway_cmd.proofs.Refusing.{bad_keys, twice_keys}
use Rattle.gateway_cmd.proofs.keys.read_keys.Goals as goal

pub returns-in-Err-BadLine : goal.returns-in-Err-BadLine
returns-in-Err-BadLine c = keys_refused refl (subst (λ bytes. are_keys (keys_of bytes) ≡ false) c.as_bytes.ensures.value (bad_keys c.in-Err-BadLine.field-0-0 (keys_of c.as_bytes.result.now) (rw c.in-Err-BadLine.field-0-is at c.in-Err-BadLine.ensures)))

pub returns-in-Err-Twice : goal.returns-in-Err-Twice
returns-in-Err-Twice c = keys_refused refl (subst (λ bytes. are_keys (keys_of bytes) ≡ false) c.as_bytes.ensures.value (twice_keys c.in-Err-Twice.field-0-0 (keys_of c.as_bytes.result.now) (rw c.in-Err-Twice.field-0-is at c.in-Err-Twice.ensures)))

pub returns-in-Err-Memory : goal.returns-in-Err-Memory
returns-in-Err-Memory c = out_of_memory refl
