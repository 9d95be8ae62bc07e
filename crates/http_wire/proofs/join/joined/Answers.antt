use Rattle.http_wire.proofs.JoinLemmas.{joined_all}
use Rattle.http_wire.proofs.join.joined.Goals as goal

pub returns-in_ok-append_others-in-len1-up : goal.returns-in_ok-append_others-in-len1-up
returns-in_ok-append_others-in-len1-up c =
    let begun = rw (c.new-text.ensures, c.as_slice.ensures) at c.in_ok-append-in-len1-up.ensures.ok in
    joined_all c.args.separator c.args.pieces.now _ _ _ c.in-len1-up.len_at_least c.first-item.is begun c.in_ok-append_others-in-len1-up.ensures
