use Rattle.std.proofs.Common.{◌≡◌, length}
use Rattle.plan_uploads.specs.Completing.{Ascend, by_number}
use Rattle.plan_uploads.proofs.PartsListed.{Chosen}
use Rattle.plan_uploads.proofs.chosen.chosen_parts.Given as goal

abbrev pub invariant-loop-listed : goal.invariant-loop-listed
invariant-loop-listed l = record {
  are : Ascend l.parts → Chosen (by_number l.parts) l.list l.listed-index l.chosen;
  many : length l.chosen ≡ l.listed-index;
}
