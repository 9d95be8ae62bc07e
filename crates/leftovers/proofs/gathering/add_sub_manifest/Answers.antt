use Rattle.std.proofs.Common.{ap, subst, ◌∙◌}
use Rattle.std.specs.Prelude.{◌||◌, is_some}
use Rattle.std.specs.List.{AllByRecursion}
use Rattle.std.specs.FinMap.{get}
use Rattle.account_calls.proofs.lemmas.Ask.{asks_fault, asks_out_of_memory, asks_told}
use Rattle.leftovers.specs.Leftovers.{is_named_in}
use Rattle.leftovers.specs.Lists.{HasName}
use Rattle.leftovers.proofs.gathering.add_sub_manifest.Goals as goal

pub returns-in_err-segments-clause-asks : goal.returns-in_err-segments-clause-asks
returns-in_err-segments-clause-asks g c =
    asks_fault (λ tree has. has) c.in_err-segments.ensures.asks _ c.from_residual.ensures.1

pub returns-in_err-segments-clause-leaves : goal.returns-in_err-segments-clause-leaves
returns-in_err-segments-clause-leaves g c =
    c.in_err-segments.ensures.leaves

pub returns-in_err-add_names-clause-asks : goal.returns-in_err-add_names-clause-asks
returns-in_err-add_names-clause-asks g c =
    asks_out_of_memory (λ tree has. has) c.in_ok-segments.ensures.asks _ c.from_residual-in_err-add_names.ensures.1

pub returns-in_err-add_names-clause-leaves : goal.returns-in_err-add_names-clause-leaves
returns-in_err-add_names-clause-leaves g c =
    c.in_ok-segments.ensures.leaves

pub returns : goal.returns
returns g c = record {
  asks = asks_told (λ tree has. has) _
      (λ tree sound has told text. c.in_ok-add_names.ensures.added text ∙ ap (λ l. is_some (get c.args.table.now text) || is_named_in text l) (c.as_slice.ensures ∙ told))
      c.in_ok-segments.ensures.asks;
  holds = λ observable. record { inner = c.in_ok-segments.segments; is = c.in_ok-segments.ensures.says observable; held = subst (AllByRecursion (HasName c.add_names.new.table)) c.as_slice.ensures c.in_ok-add_names.ensures.held };
  stays = c.in_ok-add_names.ensures.stays;
  leaves = c.in_ok-segments.ensures.leaves;
}
