use Rattle.std.proofs.Common.{refl, ap, sym, subst, inl, inr, ◌∙◌, false, rules, arith}
use Rattle.std.specs.Prelude.{IfSome}
use Rattle.swift_calls.specs.Limits.{IsMarker}
use Rattle.account_calls.proofs.lemmas.One.{not_asked}
use Rattle.account_calls.proofs.lemmas.SideNames.{segment_is_marker}
use Rattle.upload_calls.proofs.lemmas.PartWalk.{IsEnough, great_marker, marker_fits, none_listed, parting_end, parting_fault, parting_none}
use Rattle.upload_calls.proofs.lemmas.Taking.{taking_more}
use Rattle.upload_calls.proofs.listed_parts.list_parts.Goals as goal
use Rattle.upload_calls.proofs.listed_parts.list_parts.Goals.{then-max-eq0-via-then-max-eq0, then-max-eq0-via-else-max-eq0+then-marker-ge-GREATEST_PART_NUMBER}

pub returns-then-max-eq0-clause-asks : goal.returns-then-max-eq0-clause-asks
returns-then-max-eq0-clause-asks g c =
    none_listed _ _ c.args.bucket.now c.args.id c.args.marker c.args.max c.fits.ensures
    (elim c.then-max-eq0.branch [
      | then-max-eq0-via-then-max-eq0 w ↦ inl w.if-max-eq0.true
      | then-max-eq0-via-else-max-eq0+then-marker-ge-GREATEST_PART_NUMBER w ↦ inr (great_marker c.args.marker w.if-marker-ge-GREATEST_PART_NUMBER.true)
    ])
    _ (ap (λ parts. (parts, false)) c.new-parts.ensures)

pub segment_name-requires : goal.segment_name-requires
segment_name-requires g c = (marker_fits c.args.marker c.if-marker-ge-GREATEST_PART_NUMBER.false).0

pub returns-in_err-behind-clause-asks : goal.returns-in_err-behind-clause-asks
returns-in_err-behind-clause-asks g c = not_asked _ _ _ c.from_residual.ensures.1

pub pages-init : goal.pages-init
pages-init g c = record {
  stays = record { store = refl; settings = refl };
  dated = (search rules);
  is_marker = subst IsMarker (sym c.in_ok-behind.ensures) (segment_is_marker c.args.id c.args.marker (marker_fits c.args.marker c.if-marker-ge-GREATEST_PART_NUMBER.false).1);
  walked = parting_none _ c.args.bucket.now c.args.id c.args.marker c.in_ok-behind.behind c.new-parts.result c.in_ok-behind.ensures c.new-parts.ensures;
}

pub returns-in_err-next-clause-asks : goal.returns-in_err-next-clause-asks
returns-in_err-next-clause-asks g c =
    parting_fault c.args.bucket.now c.args.id c.args.marker c.pages.invariant.walked c.in_err-next.ensures.asks c.args.max _ c.from_residual-in_err-next.ensures.1

pub returns-in-None-clause-asks : goal.returns-in-None-clause-asks
returns-in-None-clause-asks g c =
    parting_end c.args.bucket.now c.args.id c.args.marker c.pages.invariant.walked c.in_ok-next.ensures.asks c.fits.ensures c.args.max
    (subst (IsEnough c.args.max c.next_parts.new.parts) (sym c.in-None.is) tt) c.first_listed_parts.result c.first_listed_parts.ensures.cut

pub returns-then-len-max-clause-asks : goal.returns-then-len-max-clause-asks
returns-then-len-max-clause-asks g c =
    parting_end c.args.bucket.now c.args.id c.args.marker c.pages.invariant.walked c.in_ok-next.ensures.asks c.fits.ensures c.args.max
    (subst (IsEnough c.args.max c.next_parts.new.parts) (sym c.in-Some.is) (omega (arith, c.if-len-max.true, c.len.ensures))) c.first_listed_parts-then-len-max.result c.first_listed_parts-then-len-max.ensures.cut

pub pages-preserved : goal.pages-preserved
pages-preserved g c = record {
  stays = record {
    store = c.next_parts.ensures.stays.store ∙ c.pages.invariant.stays.store;
    settings = c.next_parts.ensures.stays.settings ∙ c.pages.invariant.stays.settings;
  };
  dated = c.in_ok-next.ensures.dated c.pages.invariant.dated;
  is_marker = subst (λ o. IfSome o IsMarker) c.in-Some.is c.in_ok-next.ensures.is_marker;
  walked = taking_more c.pages.invariant.walked c.in_ok-next.ensures.asks c.in-Some.next c.in-Some.is;
}
