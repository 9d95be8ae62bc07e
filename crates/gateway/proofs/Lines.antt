-- What writes do to a line, one after another.
use Rattle.std.proofs.Common.{Bool, false, IsTrue, refl, ◌∙◌, arith}
use Rattle.gate_base.specs.Line.{LineModel, OnlyWrites}
use Rattle.http_service.proofs.lemmas.Lines.{line_serves_on}

pub writes_none : (line : LineModel) → IsTrue line.is_open → OnlyWrites false line line
writes_none line is_open = record {
  serves = record { is_open = is_open; faults = refl; next_faults = refl; spent = omega arith; observable = λ t. t; transcript = λ t. record { waiting = refl; begun = refl; faulty = refl } };
  spent = refl;
  rest = λ t. refl;
}

pub writes_on : {failed : Bool} {first second third : LineModel} → OnlyWrites false first second → OnlyWrites failed second third → OnlyWrites failed first third
writes_on a b = record {
  serves = line_serves_on a.serves b.serves;
  spent = b.spent ∙ a.spent;
  rest = λ t. b.rest (a.serves.observable t) ∙ a.rest t;
}
