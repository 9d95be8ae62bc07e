-- What is known of the digits of a chunk.
use Rattle.std.proofs.Common.{◌≡◌, ℕ, ◌≤◌, true, List, length, Result, Ok, Err, IfOk}
use Rattle.std.specs.Borrow.{Bor}
use Rattle.std.specs.List.{list_all}
use Rattle.chunked.specs.declared.fault.ChunkedFault.{ChunkedFault}
use Rattle.chunked.specs.Reading.{Reads, run_at}
use Rattle.chunked.specs.Sent.{is_hex_digit}
use Rattle.chunked.specs.Views.{texts}
use Rattle.chunked.proofs.Scans.{run_ok}

pub digits_short : (bytes : List ℕ) (result : Result (Bor (List ℕ) × Bor (List ℕ)) ChunkedFault) → Reads texts result (run_at is_hex_digit 1 16 bytes) → IfOk result (λ found. length found.0.now ≤ 16)
digits_short bytes (Ok found) h = (run_ok is_hex_digit 1 16 bytes found.0.now found.1.now h).within
digits_short bytes (Err fault) h = tt

pub digits_hex : (bytes : List ℕ) (result : Result (Bor (List ℕ) × Bor (List ℕ)) ChunkedFault) → Reads texts result (run_at is_hex_digit 1 16 bytes) → IfOk result (λ found. list_all is_hex_digit found.0.now ≡ true)
digits_hex bytes (Ok found) h = (run_ok is_hex_digit 1 16 bytes found.0.now found.1.now h).passes
digits_hex bytes (Err fault) h = tt
