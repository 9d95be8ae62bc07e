-- What was found in the bytes that came, by what the last look saw.
use Rattle.std.proofs.Common.{◌≡◌, ℕ, ◌<◌, ◌≤◌, List, [], ◌∷◌, length, refl, subst, arith}
use Rattle.httparse.specs.declared.spans.HeaderSpan.{HeaderSpan}
use Rattle.httparse.specs.Grammar.{HasNoRequest}
use Rattle.http_wire.specs.declared.advance.Found.TheVariants.{Long}
use Rattle.http_wire.specs.FirstMessage.{HasDeadPrefix}
use Rattle.http_wire.specs.Seen.{AtEnd, IsFound, IsOpen, end_of, window}

pub found_long : (bytes seen : List ℕ) (headers : List HeaderSpan) → seen ≡ window bytes → HasNoRequest seen
    → ¬ (HasDeadPrefix seen) → 16384 ≤ length bytes
    → IsFound bytes headers Long
found_long bytes seen headers same none lives long =
    (subst HasNoRequest same none, subst (λ v. ¬ (HasDeadPrefix v)) same lives, long)

-- the connection ended inside a head, or with no byte left
pub found_end : (bytes : List ℕ) (headers : List HeaderSpan) → HasNoRequest (window bytes) → ¬ (HasDeadPrefix (window bytes))
    → length bytes < 16384 → IsFound bytes headers (end_of bytes)
found_end [] headers none lives short = refl
found_end (b ∷ bytes) headers none lives short = (omega arith, short, none, lives)

pub found_open : (bytes seen : List ℕ) → seen ≡ window bytes → HasNoRequest seen → ¬ (HasDeadPrefix seen) → length bytes < 16384 → IsOpen bytes
found_open bytes seen same none lives short = (subst HasNoRequest same none, subst (λ v. ¬ (HasDeadPrefix v)) same lives, short)

pub at_end : (bytes rest : List ℕ) → rest ≡ [] → AtEnd (end_of bytes) rest
at_end [] rest none = none
at_end (b ∷ bytes) rest none = none
