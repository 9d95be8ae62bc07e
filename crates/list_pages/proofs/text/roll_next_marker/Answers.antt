use Rattle.std.proofs.Common.{ap, sym, ◌∙◌}
use Rattle.list_pages.specs.Jumps.{past_all}
use Rattle.list_pages.proofs.Marked.{marked_up, marked_whole}
use Rattle.list_pages.proofs.text.roll_next_marker.Goals as goal
use Rattle.list_pages.proofs.text.roll_next_marker.Goals.{then-up+in_ok-append_greatest, else-up}

pub returns : goal.returns
returns c = elim c.if-up.branch [
  | then-up+in_ok-append_greatest w ↦ w.marker-is ∙ w.in_ok-append_greatest.ensures ∙ ap past_all c.in_ok-marker.ensures
      ∙ marked_up c.args.prefix.now c.args.delimiter.now c.args.name.now c.roll_text_end-end.result (sym c.begins.ensures ∙ c.if-not-begins.false) c.roll_text_end-end.ensures.row w.if-up.true
  | else-up w ↦ w.marker-is ∙ c.in_ok-marker.ensures
      ∙ marked_whole c.args.prefix.now c.args.delimiter.now c.args.name.now c.roll_text_end-end.result (sym c.begins.ensures ∙ c.if-not-begins.false) c.roll_text_end-end.ensures.row w.if-up.false
]
