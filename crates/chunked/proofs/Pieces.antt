-- Chunks at the front of bytes: their text is read back, and what is read is of the form.
use Rattle.std.proofs.Common.{◌≡◌, ℕ, ◌<◌, zero, suc, Bool, true, false, List, [], ◌∷◌, ◌++◌, length, Result, Ok, refl, sym, ◌∙◌, ap, subst, arith, append_assoc, length-append}
use Rattle.std.specs.Prelude.{codes}
use Rattle.std.specs.List.{list_all}
use Rattle.std.specs.Str.Parse.{digits_value}
use Rattle.gate_base.specs.Ascii.{is_lower_hex}
use Rattle.chunked.specs.declared.fault.ChunkedFault.{ChunkedFault}
use Rattle.chunked.specs.Reading.{◌>>=◌, word_at, run_at, block_at, signature_at, payload_at, chunk_at}
use Rattle.chunked.specs.Sent.{Chunk, crlf, is_hex_digit, extension_text, payload_text, chunk_text, IsSignature, IsChunk}
use Rattle.chunked.proofs.Chains.{ok_same, bind_ok}
use Rattle.chunked.proofs.Scans.{word_is, word_ok, word_steady, block_is, block_ok, block_steady, block_possible, run_is, run_ok, Opens, run_steady, run_possible}
use Rattle.chunked.proofs.Steady.{Steady, Possible, pure_steady, pure_possible, both_steady, both_possible}

-- a reader that begins with a byte that fails the test, before another one
pub both_opens : {A B : Type 0} (test : ℕ → Bool) (r : List ℕ → Result (A × List ℕ) ChunkedFault) (s : A → List ℕ → Result (B × List ℕ) ChunkedFault)
    → Steady r → Opens test r → ((a : A) → Possible (s a)) → Opens test (λ bytes. r bytes >>= λ x. s x.0 x.1)
both_opens test r s steady o some =
    let g = some o.value in
    record {
      first = o.first;
      word = o.word ++ g.word;
      value = g.value;
      fails = o.fails;
      reads = ap (λ v. v >>= λ x. s x.0 x.1) (steady.grows (o.first ∷ o.word) g.word o.value [] o.reads) ∙ g.reads;
    }

-- ---- the end of a line

-- a value, where the end of a line stands
abbrev pub ended : {A : Type 0} → A → List ℕ → Result (A × List ℕ) ChunkedFault
ended value bytes = word_at crlf bytes >>= λ end. Ok (value, end.1)

pub crlf_steady : {A : Type 0} (value : A) → Steady (λ bytes. ended value bytes)
crlf_steady value = both_steady (word_at crlf) (λ u bytes. Ok (value, bytes)) (word_steady crlf) (λ u. pure_steady value) (λ u. pure_possible value)

pub crlf_possible : {A : Type 0} (value : A) → Possible (λ bytes. ended value bytes)
unfolding word_at
crlf_possible value = record { word = crlf; value = value; reads = refl }

pub crlf_opens : {A : Type 0} (test : ℕ → Bool) (value : A) → test 13 ≡ false → Opens test (λ bytes. ended value bytes)
unfolding word_at
crlf_opens test value h = record { first = 13; word = 10 ∷ []; value = value; fails = h; reads = refl }

pub ended_is : {A : Type 0} (value : A) (more : List ℕ) → ended value (crlf ++ more) ≡ Ok (value, more)
unfolding word_at
ended_is value more = refl

pub ended_ok : {A : Type 0} (value found : A) (bytes rest : List ℕ) → ended value bytes ≡ Ok (found, rest) → (value ≡ found) × (bytes ≡ crlf ++ rest)
ended_ok {A} value found bytes rest h =
    let x = bind_ok (word_at crlf bytes) (λ end. Ok (value, end.1)) (found, rest) h in
    let same : ◌≡◌ {A = A × List ℕ} (value, x.0.1) (found, rest) = ok_same (value, x.0.1) (found, rest) x.2 in
    let behind : x.0.1 ≡ rest = ap (λ (p : A × List ℕ). p.1) same in
    (ap (λ (p : A × List ℕ). p.0) same, word_ok crlf bytes x.0.0 x.0.1 x.1 ∙ ap (λ r. crlf ++ r) behind)

-- ---- the first line behind the digits

abbrev mark : List ℕ
mark = codes ";chunk-signature="

abbrev signed_rest : List ℕ → Result (List ℕ × List ℕ) ChunkedFault
signed_rest bytes = run_at is_lower_hex 64 64 bytes >>= λ signature. ended signature.0 signature.1

signed_steady : Steady (λ bytes. signed_rest bytes)
signed_steady = run_steady is_lower_hex 64 64 (λ run bytes. ended run bytes) 48 refl (omega arith) (λ run. crlf_steady run) (λ run. crlf_opens is_lower_hex run refl)

signed_possible : Possible (λ bytes. signed_rest bytes)
signed_possible = run_possible is_lower_hex 64 64 (λ run bytes. ended run bytes) 48 refl (omega arith) (λ run. crlf_opens is_lower_hex run refl)

signature_steady : (signed : Bool) → Steady (signature_at signed)
unfolding signature_at
signature_steady false = crlf_steady []
signature_steady true = both_steady (word_at mark) (λ u bytes. signed_rest bytes) (word_steady mark) (λ u. signed_steady) (λ u. signed_possible)

signature_opens : (signed : Bool) → Opens is_hex_digit (signature_at signed)
unfolding signature_at
signature_opens false = crlf_opens is_hex_digit [] refl
signature_opens true =
    let g = signed_possible in
    record {
      first = 59;
      word = codes "chunk-signature=" ++ g.word;
      value = g.value;
      fails = refl;
      reads = ap (λ v. v >>= λ behind. signed_rest behind.1) (word_is mark g.word) ∙ g.reads;
    }

signature_is : (signed : Bool) (signature more : List ℕ) → IsSignature signed signature → signature_at signed (extension_text signed signature ++ (crlf ++ more)) ≡ Ok (signature, more)
unfolding signature_at
signature_is false signature more h = ended_is [] more ∙ ap (λ (s : List ℕ). let r : Result (List ℕ × List ℕ) ChunkedFault = Ok (s, more) in r) (sym h)
signature_is true signature more h =
    ap (signature_at true) (append_assoc mark signature (crlf ++ more))
    ∙ ap (λ v. v >>= λ behind. signed_rest behind.1) (word_is mark (signature ++ (crlf ++ more)))
    ∙ ap (λ v. v >>= λ (s : List ℕ × List ℕ). ended s.0 s.1) (run_is is_lower_hex 64 64 signature 13 (10 ∷ more) h.1 refl (omega (arith, h.0)) (omega (arith, h.0)))
    ∙ ended_is signature more

signature_ok : (signed : Bool) (bytes signature rest : List ℕ) → signature_at signed bytes ≡ Ok (signature, rest)
    → IsSignature signed signature × (bytes ≡ extension_text signed signature ++ (crlf ++ rest))
unfolding signature_at
signature_ok false bytes signature rest h = let e = ended_ok [] signature bytes rest h in (sym e.0, e.1)
signature_ok true bytes signature rest h =
    let x = bind_ok (word_at mark bytes) (λ behind. signed_rest behind.1) (signature, rest) h in
    let y = bind_ok (run_at is_lower_hex 64 64 x.0.1) (λ (s : List ℕ × List ℕ). ended s.0 s.1) (signature, rest) x.2 in
    let e = ended_ok y.0.0 signature y.0.1 rest y.2 in
    let ran = run_ok is_lower_hex 64 64 x.0.1 y.0.0 y.0.1 y.1 in
    let at : bytes ≡ mark ++ x.0.1 = word_ok mark bytes x.0.0 x.0.1 x.1 in
    let count : length y.0.0 ≡ 64 = omega (arith, ran.enough, ran.within) in (
      (sym (ap length e.0) ∙ count, sym (ap (list_all is_lower_hex) e.0) ∙ ran.passes),
      at ∙ ap (λ r. mark ++ r) (ran.at ∙ ap (λ r. y.0.0 ++ r) e.1 ∙ ap (λ s. s ++ (crlf ++ rest)) e.0) ∙ sym (append_assoc mark signature (crlf ++ rest)),
    )

-- ---- the bytes

payload_steady : (n : ℕ) → Steady (payload_at n)
unfolding payload_at
payload_steady zero = pure_steady []
payload_steady (suc n) = both_steady (block_at (suc n)) (λ block bytes. ended block bytes) (block_steady (suc n)) (λ block. crlf_steady block) (λ block. crlf_possible block)

payload_possible : (n : ℕ) → Possible (payload_at n)
unfolding payload_at
payload_possible zero = pure_possible []
payload_possible (suc n) = both_possible (block_at (suc n)) (λ block bytes. ended block bytes) (block_steady (suc n)) (block_possible (suc n)) (λ block. crlf_possible block)

payload_is : (bytes more : List ℕ) → payload_at (length bytes) (payload_text bytes ++ more) ≡ Ok (bytes, more)
unfolding payload_at
payload_is [] more = refl
payload_is (b ∷ bytes) more =
    ap (payload_at (length (b ∷ bytes))) (append_assoc (b ∷ bytes) crlf more)
    ∙ ap (λ v. v >>= λ (p : List ℕ × List ℕ). ended p.0 p.1) (block_is (length (b ∷ bytes)) (b ∷ bytes) (crlf ++ more) refl) ∙ ended_is (b ∷ bytes) more

payload_full : (bytes : List ℕ) → 0 < length bytes → bytes ++ crlf ≡ payload_text bytes
payload_full [] h = absurd (omega arith)
payload_full (b ∷ bytes) h = refl

payload_ok : (n : ℕ) (bytes payload rest : List ℕ) → payload_at n bytes ≡ Ok (payload, rest) → (n ≡ length payload) × (bytes ≡ payload_text payload ++ rest)
unfolding payload_at
payload_ok zero bytes payload rest h =
    let same : ◌≡◌ {A = List ℕ × List ℕ} ([], bytes) (payload, rest) = ok_same ([], bytes) (payload, rest) h in
    let none : [] ≡ payload = ap (λ (p : List ℕ × List ℕ). p.0) same in
    let behind : bytes ≡ rest = ap (λ (p : List ℕ × List ℕ). p.1) same in
    (ap length none, behind ∙ ap (λ p. payload_text p ++ rest) none)
payload_ok (suc n) bytes payload rest h =
    let x = bind_ok (block_at (suc n) bytes) (λ (p : List ℕ × List ℕ). ended p.0 p.1) (payload, rest) h in
    let e = ended_ok x.0.0 payload x.0.1 rest x.2 in
    let block = block_ok (suc n) bytes x.0.0 x.0.1 x.1 in
    let count : length payload ≡ suc n = sym (ap length e.0) ∙ block.0 in (
      sym count,
      block.1 ∙ ap (λ r. x.0.0 ++ r) e.1 ∙ ap (λ p. p ++ (crlf ++ rest)) e.0 ∙ sym (append_assoc payload crlf rest)
          ∙ ap (λ p. p ++ rest) (payload_full payload (omega (arith, count))),
    )

-- ---- a chunk

abbrev made : List ℕ → List ℕ → List ℕ → Chunk
made digits signature bytes = record { digits = digits; signature = signature; bytes = bytes }

abbrev behind_signature : List ℕ → List ℕ → List ℕ → Result (Chunk × List ℕ) ChunkedFault
behind_signature digits signature bytes = payload_at (digits_value 16 digits) bytes >>= λ payload. Ok (made digits signature payload.0, payload.1)

abbrev behind_digits : Bool → List ℕ → List ℕ → Result (Chunk × List ℕ) ChunkedFault
behind_digits signed digits bytes = signature_at signed bytes >>= λ signature. behind_signature digits signature.0 signature.1

behind_signature_steady : (digits signature : List ℕ) → Steady (λ bytes. behind_signature digits signature bytes)
behind_signature_steady digits signature =
    both_steady (payload_at (digits_value 16 digits)) (λ payload bytes. Ok (made digits signature payload, bytes)) (payload_steady (digits_value 16 digits))
    (λ payload. pure_steady (made digits signature payload)) (λ payload. pure_possible (made digits signature payload))

behind_signature_possible : (digits signature : List ℕ) → Possible (λ bytes. behind_signature digits signature bytes)
behind_signature_possible digits signature =
    both_possible (payload_at (digits_value 16 digits)) (λ payload bytes. Ok (made digits signature payload, bytes)) (payload_steady (digits_value 16 digits))
    (payload_possible (digits_value 16 digits)) (λ payload. pure_possible (made digits signature payload))

pub chunk_steady : (signed : Bool) → Steady (chunk_at signed)
unfolding chunk_at
chunk_steady signed =
    run_steady is_hex_digit 1 16 (λ digits bytes. behind_digits signed digits bytes) 48 refl (omega arith)
    (λ digits. both_steady (signature_at signed) (λ signature bytes. behind_signature digits signature bytes) (signature_steady signed)
    (λ signature. behind_signature_steady digits signature) (λ signature. behind_signature_possible digits signature))
    (λ digits. both_opens is_hex_digit (signature_at signed) (λ signature bytes. behind_signature digits signature bytes) (signature_steady signed) (signature_opens signed)
    (λ signature. behind_signature_possible digits signature))

-- no digit stands behind the digits
behind_starts : (signed : Bool) (signature more : List ℕ) → (c : ℕ) × (cs : List ℕ) × (extension_text signed signature ++ (crlf ++ more) ≡ c ∷ cs) × (is_hex_digit c ≡ false)
behind_starts false signature more = (13, 10 ∷ more, refl, refl)
behind_starts true signature more = (59, (codes "chunk-signature=" ++ signature) ++ (crlf ++ more), refl, refl)

pub chunk_is : (signed : Bool) (chunk : Chunk) (more : List ℕ) → IsChunk signed chunk → chunk_at signed (chunk_text signed chunk ++ more) ≡ Ok (chunk, more)
unfolding chunk_at chunk_text
chunk_is signed chunk more h =
    let extension = extension_text signed chunk.signature in
    let payload = payload_text chunk.bytes in
    let tail = extension ++ (crlf ++ (payload ++ more)) in
    let at : (chunk.digits ++ (extension ++ (crlf ++ payload))) ++ more ≡ chunk.digits ++ tail =
    append_assoc chunk.digits (extension ++ (crlf ++ payload)) more ∙ ap (λ t. chunk.digits ++ t) (append_assoc extension (crlf ++ payload) more) in
    let o = behind_starts signed chunk.signature (payload ++ more) in
    let ran : run_at is_hex_digit 1 16 (chunk.digits ++ tail) ≡ Ok (chunk.digits, tail) =
    ap (λ t. run_at is_hex_digit 1 16 (chunk.digits ++ t)) o.2 ∙ run_is is_hex_digit 1 16 chunk.digits o.0 o.1 h.hex o.3 h.filled h.short
    ∙ ap (λ t. let r : Result (List ℕ × List ℕ) ChunkedFault = Ok (chunk.digits, t) in r) (sym o.2) in
    ap (λ b. run_at is_hex_digit 1 16 b >>= λ digits. behind_digits signed digits.0 digits.1) at
    ∙ ap (λ v. v >>= λ (digits : List ℕ × List ℕ). behind_digits signed digits.0 digits.1) ran
    ∙ ap (λ v. v >>= λ (signature : List ℕ × List ℕ). behind_signature chunk.digits signature.0 signature.1) (signature_is signed chunk.signature (payload ++ more) h.signature)
    ∙ ap (λ n. payload_at n (payload ++ more) >>= λ (p : List ℕ × List ℕ). Ok (made chunk.digits chunk.signature p.0, p.1)) h.counts
    ∙ ap (λ v. v >>= λ (p : List ℕ × List ℕ). Ok (made chunk.digits chunk.signature p.0, p.1)) (payload_is chunk.bytes more)

pub chunk_ok : (signed : Bool) (bytes : List ℕ) (chunk : Chunk) (rest : List ℕ) → chunk_at signed bytes ≡ Ok (chunk, rest) → IsChunk signed chunk × (bytes ≡ chunk_text signed chunk ++ rest)
unfolding chunk_at chunk_text
chunk_ok signed bytes chunk rest h =
    let x = bind_ok (run_at is_hex_digit 1 16 bytes) (λ (digits : List ℕ × List ℕ). behind_digits signed digits.0 digits.1) (chunk, rest) h in
    let y = bind_ok (signature_at signed x.0.1) (λ (signature : List ℕ × List ℕ). behind_signature x.0.0 signature.0 signature.1) (chunk, rest) x.2 in
    let z = bind_ok (payload_at (digits_value 16 x.0.0) y.0.1) (λ (p : List ℕ × List ℕ). Ok (made x.0.0 y.0.0 p.0, p.1)) (chunk, rest) y.2 in
    let same : ◌≡◌ {A = Chunk × List ℕ} (made x.0.0 y.0.0 z.0.0, z.0.1) (chunk, rest) = ok_same (made x.0.0 y.0.0 z.0.0, z.0.1) (chunk, rest) z.2 in
    let ran = run_ok is_hex_digit 1 16 bytes x.0.0 x.0.1 x.1 in
    let signature = signature_ok signed x.0.1 y.0.0 y.0.1 y.1 in
    let payload = payload_ok (digits_value 16 x.0.0) y.0.1 z.0.0 z.0.1 z.1 in
    let extension = extension_text signed y.0.0 in
    let is : IsChunk signed (made x.0.0 y.0.0 z.0.0) = record { filled = ran.enough; short = ran.within; hex = ran.passes; counts = payload.0; signature = signature.0 } in
    let at : bytes ≡ (x.0.0 ++ (extension ++ (crlf ++ payload_text z.0.0))) ++ z.0.1 =
    ran.at ∙ ap (λ r. x.0.0 ++ r) (signature.1 ∙ ap (λ r. extension ++ (crlf ++ r)) payload.1 ∙ sym (append_assoc extension (crlf ++ payload_text z.0.0) z.0.1))
    ∙ sym (append_assoc x.0.0 (extension ++ (crlf ++ payload_text z.0.0)) z.0.1) in
    subst (λ (q : Chunk × List ℕ). IsChunk signed q.0 × (bytes ≡ (q.0.digits ++ (extension_text signed q.0.signature ++ (crlf ++ payload_text q.0.bytes))) ++ q.1)) same (is, at)

-- a chunk takes a byte at least
pub chunk_takes : (signed : Bool) (chunk : Chunk) → IsChunk signed chunk → 0 < length (chunk_text signed chunk)
unfolding chunk_text
chunk_takes signed chunk h = omega (arith, length-append chunk.digits (extension_text signed chunk.signature ++ (crlf ++ payload_text chunk.bytes)), h.filled)
