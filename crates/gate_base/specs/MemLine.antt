-- What a line in memory shows of itself.
use Rattle.std.specs.Prelude.{ℕ, ◌+◌, ◌^◌, Bool, true, not, ◌&&◌, nat_le, nat_lt, List, length}
use Rattle.gate_base.specs.Transcript.{Transcript}
use Rattle.gate_base.specs.Line.{LineModel}
use Rattle.gate_base.specs.MemWire.{told_by}
use Rattle.gate_base.specs.Listed.{is_next_listed, listed}
use Rattle.gate_base.specs.declared.line_memory.MemLine.{MemLine}

-- whether a connection is open
abbrev pub is_open_of : MemLine → Bool
is_open_of line = line.connected

-- what was and will be read and written, connection by connection
abbrev pub transcript_of : MemLine → Transcript
transcript_of line = told_by line.transcript

-- at most so many bytes come by one read
abbrev pub piece_of : MemLine → ℕ
piece_of line = line.piece

-- how many calls began a connection or gave bytes
abbrev pub spent_of : MemLine → ℕ
spent_of line = line.spent

-- the numbers of the calls that are to fail
abbrev pub fails_of : MemLine → List ℕ
fails_of line = line.calls.fails

-- how many calls of `next`, `read` and `write` were made; at the greatest value of a `u64` it stays
abbrev pub made_of : MemLine → ℕ
made_of line = line.calls.made

-- how many of them, not to fail by their number, were past the limit of the calls that begin a connection or give bytes
abbrev pub past_of : MemLine → ℕ
past_of line = line.past

-- how many of them, not to fail by their number, were writes that found no memory
abbrev pub out_of_memory_of : MemLine → ℕ
out_of_memory_of line = line.out_of_memory

-- the count of faults: the calls made that were to fail or past the limit, and the writes that found no memory
abbrev pub faults_of : MemLine → ℕ
faults_of line = listed (fails_of line) (made_of line) + past_of line + out_of_memory_of line

abbrev pub next_faults_of : MemLine → ℕ
next_faults_of line = line.next_faults

-- the next call is to fail by its number
abbrev pub is_to_fail : MemLine → Bool
is_to_fail line = is_next_listed (fails_of line) (made_of line)

-- else a connection waits, and no call is left to begin it
abbrev pub begins_past : MemLine → Bool
begins_past line = not (is_to_fail line) && nat_lt 0 (length (transcript_of line).waiting) && nat_le (2 ^ 63) (spent_of line)

-- else bytes are left, and no call is left to give them
abbrev pub reads_past : MemLine → Bool
reads_past line = not (is_to_fail line) && nat_lt 0 (length (transcript_of line).rest) && nat_le (2 ^ 63) (spent_of line)

-- as any line shows itself
abbrev pub model_of : MemLine → LineModel
model_of line = record {
  is_open = is_open_of line;
  faults = faults_of line;
  next_faults = next_faults_of line;
  spent = spent_of line;
  observable = true;
  transcript = transcript_of line;
}
