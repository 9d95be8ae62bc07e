use Rattle.swift_replies.proofs.ListLemmas.{each_start}
use Rattle.swift_replies.proofs.lists.append_items_in_json_entries.Goals as goal

pub loop-entry-init : goal.loop-entry-init
loop-entry-init g c = each_start _ _ c.requires
