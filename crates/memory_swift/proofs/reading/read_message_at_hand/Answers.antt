use Rattle.memory_swift.proofs.Alone.{alone, another, cut_behind, refused_behind, none_came, cut_first, refused_first}
use Rattle.memory_swift.proofs.reading.read_message_at_hand.Goals as goal

pub returns-in-End-2 : goal.returns-in-End-2
returns-in-End-2 c =
    alone _ c.args.reader.now c.read_next_at_hand.new.reader _ _ c.in_ok-message.ensures.gives _ c.in-Request.is c.in_ok-message.ensures.ends _ c.read_next_at_hand-in-Request.new.reader _ c.in_ok-read_next_at_hand-in-Request.ensures.gives c.in-End-2.is

pub returns-in-Request-2 : goal.returns-in-Request-2
returns-in-Request-2 c =
    another _ c.args.reader.now c.read_next_at_hand.new.reader _ _ c.in_ok-message.ensures.gives _ c.in-Request.is c.in_ok-message.ensures.ends _ c.read_next_at_hand-in-Request.new.reader _ c.in_ok-read_next_at_hand-in-Request.ensures.gives _ c.in-Request-2.is

pub returns-in-CutShort-2 : goal.returns-in-CutShort-2
returns-in-CutShort-2 c =
    cut_behind _ c.args.reader.now c.read_next_at_hand.new.reader _ _ c.in_ok-message.ensures.gives _ c.in-Request.is c.in_ok-message.ensures.ends _ c.read_next_at_hand-in-Request.new.reader _ c.in_ok-read_next_at_hand-in-Request.ensures.gives _ c.in-CutShort-2.is

pub returns-in-Refused-2 : goal.returns-in-Refused-2
returns-in-Refused-2 c =
    refused_behind _ c.args.reader.now c.read_next_at_hand.new.reader _ _ c.in_ok-message.ensures.gives _ c.in-Request.is c.in_ok-message.ensures.ends _ c.read_next_at_hand-in-Request.new.reader _ c.in_ok-read_next_at_hand-in-Request.ensures.gives _ _ _ c.in-Refused-2.is

pub returns-in-End : goal.returns-in-End
returns-in-End c = none_came _ c.args.reader.now c.read_next_at_hand.new.reader _ _ c.in_ok-message.ensures.gives c.requires.goes c.in-End.is

pub returns-in-CutShort : goal.returns-in-CutShort
returns-in-CutShort c = cut_first _ c.args.reader.now c.read_next_at_hand.new.reader _ _ c.in_ok-message.ensures.gives _ c.requires.goes c.in-CutShort.is

pub returns-in-Refused : goal.returns-in-Refused
returns-in-Refused c = refused_first _ c.args.reader.now c.read_next_at_hand.new.reader _ _ c.in_ok-message.ensures.gives _ _ _ c.requires.goes c.in-Refused.is
