-- What a sink in memory shows of itself.
use Rattle.std.specs.Prelude.{ℕ, ◌+◌, Bool, true, List}
use Rattle.gate_base.specs.Told.{SinkModel}
use Rattle.gate_base.specs.Listed.{is_next_listed, listed}
use Rattle.gate_base.specs.declared.sink_memory.MemSink.{MemSink}

-- the bytes put
abbrev pub bytes_of : MemSink → List ℕ
bytes_of sink = sink.text

-- the numbers of the calls that are to fail
abbrev pub fails_of : MemSink → List ℕ
fails_of sink = sink.calls.fails

-- how many calls of `put` were made; at the greatest value of a `u64` it stays
abbrev pub made_of : MemSink → ℕ
made_of sink = sink.calls.made

-- how many of them, not to fail by their number, found no memory
abbrev pub out_of_memory_of : MemSink → ℕ
out_of_memory_of sink = sink.out_of_memory

-- the count of faults: the calls made that were to fail, and those that found no memory
abbrev pub faults_of : MemSink → ℕ
faults_of sink = listed (fails_of sink) (made_of sink) + out_of_memory_of sink

-- the next call is to fail by its number
abbrev pub is_to_fail : MemSink → Bool
is_to_fail sink = is_next_listed (fails_of sink) (made_of sink)

-- as any sink shows itself
abbrev pub model_of : MemSink → SinkModel
model_of sink = record { faults = faults_of sink; observable = true; bytes = bytes_of sink }
