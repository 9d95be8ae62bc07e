use Rattle.std.proofs.Common.{drop, sym, ap, ◌∙◌}
use Rattle.std.proofs.lemmas.List.{take_rest}
use Rattle.http_wire.specs.Scan.{has_empty}
use Rattle.http_wire.proofs.DueLemmas.{still_none}
use Rattle.http_wire.proofs.advance.is_due.Goals as goal

pub returns-else-bytes-seen : goal.returns-else-bytes-seen
returns-else-bytes-seen c = λ due none.
    still_none c.args.bytes.now c.args.seen none
    (ap (λ n. has_empty (drop n c.args.bytes.now)) (sym c.saturating_sub.ensures)
    ∙ ap has_empty (sym (take_rest c.args.bytes.now c.saturating_sub.result)) ∙ sym c.has_empty_head_line.ensures ∙ due)
