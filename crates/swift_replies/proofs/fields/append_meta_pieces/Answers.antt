use Rattle.std.proofs.Common.{ap, subst, sym, ◌∙◌, Some}
use Rattle.std.specs.Prelude.{option_map}
use Rattle.std.specs.Option.{option_copied}
use Rattle.swift_replies.proofs.MetaLemmas.{HasRead, read_nothing, read_more, read_all, read_twice, if_ok_end}
use Rattle.swift_replies.proofs.fields.append_meta_pieces.Goals as goal

pub pieces-init : goal.pieces-init
pieces-init c = subst (λ pieces. HasRead c.args.headers.now pieces 0) (sym c.requires) (read_nothing c.args.headers.now)

pub returns-in-Some-None : goal.returns-in-Some-None
returns-in-Some-None c =
    read_all _ _ _ c.pieces.invariant c.pieces-test.true
    (sym (ap (option_map option_copied) (c.in-Some-None.is ∙ ap (λ value. Some value) c.in-Some-None.field-0-is)) ∙ c.in_ok-piece.ensures)

pub returns-in-None : goal.returns-in-None
returns-in-None c =
    read_twice _ _ _ c.pieces.invariant c.pieces-test.true (sym (ap (option_map option_copied) c.in-None.is) ∙ c.in_ok-piece.ensures)

pub pieces-preserved : goal.pieces-preserved
pieces-preserved c =
    read_more _ _ _ _ _ c.pieces.invariant c.pieces-test.true
    (sym (ap (option_map option_copied) (c.in-Some-Some.is ∙ ap (λ value. Some value) c.in-Some-Some.field-0-is)) ∙ c.in_ok-piece.ensures)
    c.in_ok-push_meta_piece-in-Some-Some.ensures

pub returns : goal.returns
returns c = if_ok_end _ _ _ c.lacks_meta_piece.result c.pieces.invariant c.pieces-test.false c.lacks_meta_piece.ensures
