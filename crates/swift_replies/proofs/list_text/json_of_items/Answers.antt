use Rattle.std.proofs.Common.{map}
use Rattle.swift_replies.proofs.ListTextLemmas.{no_float_in, text_of_entries}
use Rattle.swift_replies.proofs.list_text.json_of_items.Goals as goal

pub returns : goal.returns
returns g c =
    text_of_entries c.append_entries.new.entries (map g.T.Listed.written c.args.items.now) c.json_text.result c.in_ok-append_entries.ensures
    (no_float_in g.T.Listed.written g.met.T.Listed.no_float c.args.items.now) c.json_text.ensures
