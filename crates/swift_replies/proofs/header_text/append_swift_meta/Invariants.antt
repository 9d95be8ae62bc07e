use Rattle.std.proofs.Common.{◌≡◌, ◌++◌, take}
use Rattle.http1.specs.Head.{print_headers}
use Rattle.swift_replies.specs.AnswerText.{meta_fields}
use Rattle.swift_replies.proofs.header_text.append_swift_meta.Given as goal

abbrev pub invariant-loop-index : goal.invariant-loop-index
invariant-loop-index l = l.text ≡ l.initial.text ++ print_headers (meta_fields 0 (take l.index l.pieces))
