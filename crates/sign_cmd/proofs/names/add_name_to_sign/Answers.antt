use Rattle.sign_cmd.proofs.NamesLemmas.{adds_there, adds_inserted}
use Rattle.sign_cmd.proofs.names.add_name_to_sign.Goals as goal

pub returns-then-has_name_to_sign_at : goal.returns-then-has_name_to_sign_at
returns-then-has_name_to_sign_at c =
    adds_there c.args.name.now c.args.names.now c.as_slice.result.now c.as_slice-2.result.now c.count_names_to_sign_below-index.result c.has_name_to_sign_at.result c.as_slice.ensures c.as_slice-2.ensures c.count_names_to_sign_below-index.ensures.count c.has_name_to_sign_at.ensures c.if-has_name_to_sign_at.true

pub returns-in_ok-from_slice : goal.returns-in_ok-from_slice
returns-in_ok-from_slice c =
    adds_inserted c.insert.result c.args.name.now c.in_ok-from_slice.field-0 c.args.names.now c.as_slice.result.now c.as_slice-2.result.now c.insert.new.self c.count_names_to_sign_below-index.result c.has_name_to_sign_at.result c.as_slice.ensures c.as_slice-2.ensures c.count_names_to_sign_below-index.ensures.count c.has_name_to_sign_at.ensures c.if-has_name_to_sign_at.false c.in_ok-from_slice.ensures c.insert.ensures.ok
