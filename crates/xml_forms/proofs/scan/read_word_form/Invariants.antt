use Rattle.std.proofs.Common.{◌≡◌, ◌≤◌, length, take}
use Rattle.xml_forms.proofs.scan.read_word_form.Given as goal

abbrev pub invariant-bytes : goal.invariant-bytes
invariant-bytes l = (l.i ≤ length l.bytes) × (take l.i l.bytes ≡ take l.i l.word)
