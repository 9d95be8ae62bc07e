-- The connections of a line in memory, as any line tells its own.
use Rattle.std.specs.Prelude.{drop, vec_len}
use Rattle.std.specs.Vec.Iter.{into_iter_items}
use Rattle.gate_base.specs.Transcript.{Transcript}
use Rattle.gate_base.specs.declared.wire_memory.MemWire.{MemWire}

abbrev pub told_by : MemWire → Transcript
told_by transcript = record {
  waiting = into_iter_items transcript.waiting;
  rest = drop transcript.at transcript.present;
  begun = vec_len transcript.faulty;
  sent = transcript.sent;
  faulty = transcript.faulty.items;
}
