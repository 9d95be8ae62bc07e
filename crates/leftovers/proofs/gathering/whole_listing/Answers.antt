use Rattle.std.specs.Prelude.{true}
use Rattle.std.proofs.Common.{ap, sym, ◌∙◌, arith}
use Rattle.upload_records.specs.Layout.{segments_name}
use Rattle.account_calls.proofs.lemmas.Names.{container_name}
use Rattle.account_calls.proofs.lemmas.One.{not_asked}
use Rattle.account_calls.proofs.lemmas.Left.{throughout_none}
use Rattle.account_calls.proofs.lemmas.Quiet.{asks_failed}
use Rattle.leftovers.specs.Lists.{is_whole_list}
use Rattle.leftovers.proofs.Listings.{given_lists, list_refused}
use Rattle.leftovers.proofs.lemmas.Readings.{asks_given}
use Rattle.leftovers.proofs.gathering.whole_listing.Goals as goal

pub returns-in_err-folder-clause-asks : goal.returns-in_err-folder-clause-asks
returns-in_err-folder-clause-asks g c =
    not_asked _ _ _ c.from_residual.ensures.1

pub returns-in_err-folder-clause-leaves : goal.returns-in_err-folder-clause-leaves
returns-in_err-folder-clause-leaves g c =
    throughout_none (g.W.Swift.history c.args.store.now)

pub get_listing-requires-clause-container : goal.get_listing-requires-clause-container
get_listing-requires-clause-container g c = container_name c.args.bucket.now c.requires.bucket

pub returns-in_err-list-clause-asks : goal.returns-in_err-list-clause-asks
returns-in_err-list-clause-asks g c =
    asks_failed (omega arith) (asks_given (given_lists c.args.bucket.now c.args.item.now c.requires.bucket c.requires.some c.args.id c.requires.id) c.in_err-list.ensures.asks) _ c.from_residual-in_err-list.ensures.1

pub returns-in_err-list-clause-leaves : goal.returns-in_err-list-clause-leaves
returns-in_err-list-clause-leaves g c =
    c.in_err-list.ensures.leaves

pub returns-then-not-is_whole_list : goal.returns-then-not-is_whole_list
returns-then-not-is_whole_list g c = record {
  asks = list_refused c.args.bucket.now c.args.item.now c.requires.bucket c.requires.some c.args.id c.requires.id
      (asks_given (given_lists c.args.bucket.now c.args.item.now c.requires.bucket c.requires.some c.args.id c.requires.id) c.in_ok-list.ensures.asks)
      ((λ i. is_whole_list true (sym (c.as_slice-2.ensures ∙ c.in_ok-folder.ensures ∙ ap segments_name c.as_slice.ensures) i) (sym c.id_digits.ensures i) c.args.item.now.size (sym c.as_slice-3.ensures i)) ∙ sym c.is_whole_list.ensures ∙ c.if-not-is_whole_list.true);
  says = λ observable. tt;
  leaves = c.in_ok-list.ensures.leaves;
}

pub returns : goal.returns
returns g c = record {
  asks = asks_given (given_lists c.args.bucket.now c.args.item.now c.requires.bucket c.requires.some c.args.id c.requires.id) c.in_ok-list.ensures.asks;
  says = λ observable some. record { there = c.in_ok-list.ensures.says observable; whole = (λ i. is_whole_list true (sym (c.as_slice-2.ensures ∙ c.in_ok-folder.ensures ∙ ap segments_name c.as_slice.ensures) i) (sym c.id_digits.ensures i) c.args.item.now.size (sym c.as_slice-3.ensures i)) ∙ sym c.is_whole_list.ensures ∙ c.if-not-is_whole_list.false };
  leaves = c.in_ok-list.ensures.leaves;
}
