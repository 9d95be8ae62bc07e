use Rattle.std.proofs.Common.{sym, ◌∙◌}
use Rattle.s3_names.proofs.QueryLemmas.{has_read_skip, has_read_more, has_read_all, has_read_fault, filled_where, none_where}
use Rattle.s3_names.proofs.query.read_query_pairs.Goals as goal

pub returns-then-not-is_text_pair-clause-answer : goal.returns-then-not-is_text_pair-clause-answer
returns-then-not-is_text_pair-clause-answer c =
    has_read_fault _ _ _ _ _ _ c.pieces.invariant (filled_where _ _ c.is_empty.ensures c.pieces-test.true) c.cut.ensures.before c.cut.ensures.behind (filled_where _ _ c.is_empty-in-pieces.ensures c.if-not-is_empty.true) c.in_ok-pair.ensures (sym c.is_text_pair.ensures ∙ c.if-not-is_text_pair.true)

pub pieces-preserved-in_ok-push : goal.pieces-preserved-in_ok-push
pieces-preserved-in_ok-push c =
    has_read_more _ _ _ _ _ _ _ c.pieces.invariant (filled_where _ _ c.is_empty.ensures c.pieces-test.true) c.cut.ensures.before c.cut.ensures.behind (filled_where _ _ c.is_empty-in-pieces.ensures c.if-not-is_empty.true) c.in_ok-pair.ensures (sym c.is_text_pair.ensures ∙ c.if-not-is_text_pair.false) c.in_ok-push.ensures.ok

pub pieces-preserved : goal.pieces-preserved
pieces-preserved c =
    has_read_skip _ _ _ _ _ c.pieces.invariant (filled_where _ _ c.is_empty.ensures c.pieces-test.true) c.cut.ensures.before c.cut.ensures.behind (none_where _ _ c.is_empty-in-pieces.ensures c.if-not-is_empty.false)

pub returns-clause-answer : goal.returns-clause-answer
returns-clause-answer c = has_read_all _ _ _ c.pieces.invariant (none_where _ _ c.is_empty.ensures c.pieces-test.false)
