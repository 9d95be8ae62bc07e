use Rattle.std.proofs.Common.{◌≡◌, ◌<◌, ◌+◌, slice_index, ℕ}
use Rattle.xml_forms.proofs.document.declared_text.Given as goal

abbrev pub invariant-bytes : goal.invariant-bytes
invariant-bytes l = (k : ℕ) → k < l.i → slice_index l.bytes k ≡ 63 → slice_index l.bytes (k + 1) ≡ 62 → ⊥
