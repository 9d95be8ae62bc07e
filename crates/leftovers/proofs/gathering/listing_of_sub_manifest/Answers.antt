use Rattle.std.proofs.Common.{false, sym, ap, subst, ◌∙◌, arith}
use Rattle.swift_calls.specs.Step.{IsContainerName}
use Rattle.swift_calls.specs.History.{present}
use Rattle.upload_records.specs.Layout.{segments_name}
use Rattle.account_calls.specs.Calls.{always}
use Rattle.account_calls.proofs.lemmas.One.{not_asked}
use Rattle.account_calls.proofs.lemmas.SideNames.{segments_fits}
use Rattle.account_calls.proofs.lemmas.Left.{throughout_none}
use Rattle.account_calls.proofs.lemmas.Quiet.{asks_failed}
use Rattle.leftovers.specs.Leftovers.{id_in}
use Rattle.leftovers.specs.Lists.{is_whole_list, IsListThere}
use Rattle.leftovers.proofs.Listings.{inner_refused, listing_named, unkeyed}
use Rattle.leftovers.proofs.gathering.listing_of_sub_manifest.Goals as goal

pub returns-then-not-is_key : goal.returns-then-not-is_key
returns-then-not-is_key g c = record { asks = unkeyed c.args.bucket.now _ c.args.segment.now c.as_slice.result.now c.as_slice.ensures (sym c.is_key.ensures ∙ c.if-not-is_key.true); says = λ observable. tt; leaves = throughout_none (g.W.Swift.history c.args.store.now) }

pub returns-in_err-folder-clause-asks : goal.returns-in_err-folder-clause-asks
returns-in_err-folder-clause-asks g c =
    not_asked (always 1) _ _ c.from_residual.ensures.1

pub returns-in_err-folder-clause-leaves : goal.returns-in_err-folder-clause-leaves
returns-in_err-folder-clause-leaves g c =
    throughout_none (g.W.Swift.history c.args.store.now)

pub get_listing-requires-clause-container : goal.get_listing-requires-clause-container
get_listing-requires-clause-container g c = subst IsContainerName (sym (c.in_ok-folder.ensures ∙ ap segments_name c.as_slice-2.ensures)) (segments_fits c.args.bucket.now c.requires)

pub returns-in_err-list-clause-asks : goal.returns-in_err-list-clause-asks
returns-in_err-list-clause-asks g c =
    asks_failed (omega arith) (listing_named c.args.bucket.now c.args.segment.now (c.in_ok-folder.ensures ∙ ap segments_name c.as_slice-2.ensures) c.in_err-list.ensures.asks) _ c.from_residual-in_err-list.ensures.1

pub returns-in_err-list-clause-leaves : goal.returns-in_err-list-clause-leaves
returns-in_err-list-clause-leaves g c =
    c.in_err-list.ensures.leaves

pub returns-then-not-is_whole_list : goal.returns-then-not-is_whole_list
returns-then-not-is_whole_list g c = record {
  asks = inner_refused c.args.bucket.now c.args.segment.now (listing_named c.args.bucket.now c.args.segment.now (c.in_ok-folder.ensures ∙ ap segments_name c.as_slice-2.ensures) c.in_ok-list.ensures.asks)
      ((λ i. is_whole_list false (sym (c.as_slice-4.ensures ∙ c.in_ok-folder.ensures ∙ ap segments_name c.as_slice-2.ensures) i) (sym (c.id_in-id.ensures ∙ ap id_in c.as_slice-3.ensures) i) c.args.segment.now.size (sym c.as_slice-5.ensures i)) ∙ sym c.is_whole_list.ensures ∙ c.if-not-is_whole_list.true);
  says = λ observable. tt;
  leaves = c.in_ok-list.ensures.leaves;
}

pub returns : goal.returns
returns g c = record {
  asks = listing_named c.args.bucket.now c.args.segment.now (c.in_ok-folder.ensures ∙ ap segments_name c.as_slice-2.ensures) c.in_ok-list.ensures.asks;
  says = λ observable. record {
    there = subst (λ f. IsListThere f c.args.segment.now.name (present (g.W.Swift.history c.args.store.now)) c.in_ok-list.list) (c.in_ok-folder.ensures ∙ ap segments_name c.as_slice-2.ensures) (c.in_ok-list.ensures.says observable);
    whole = (λ i. is_whole_list false (sym (c.as_slice-4.ensures ∙ c.in_ok-folder.ensures ∙ ap segments_name c.as_slice-2.ensures) i) (sym (c.id_in-id.ensures ∙ ap id_in c.as_slice-3.ensures) i) c.args.segment.now.size (sym c.as_slice-5.ensures i)) ∙ sym c.is_whole_list.ensures ∙ c.if-not-is_whole_list.false;
  };
  leaves = c.in_ok-list.ensures.leaves;
}
