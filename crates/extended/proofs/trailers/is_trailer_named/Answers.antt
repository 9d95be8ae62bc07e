use Rattle.std.proofs.Common.{rules, tests}
use Rattle.std.specs.Prelude.{ℕ, List}
use Rattle.std.proofs.lemmas.Iterator.Search.{any_from_yields_List}
use Rattle.std.proofs.lemmas.Iterator.Splits.{YieldsList-from_slice_split}
use Rattle.extended.specs.Trailers.{is_comma, names}
use Rattle.extended.proofs.trailers.is_trailer_named.Goals as goal

pub returns : goal.returns
returns c =
    any_from_yields_List (λ (piece : List ℕ). names piece c.args.trailer.now.name) _ _ _ c.any.ensures.ran
    (YieldsList-from_slice_split _ is_comma c.args.text.now c.split.ensures.rest c.split.ensures.done c.split.ensures.closure (λ x r q k. search (rules, tests)))
    (λ x r q k. search (rules, tests))
