use Rattle.std.proofs.Common.{ℕ, List, map, length, false, true, Ok, Err, ap, sym, subst, ◌∙◌, arith}
use Rattle.std.proofs.lemmas.List.{length-map}
use Rattle.swift_calls.specs.Limits.{IsMarker}
use Rattle.swift_calls.specs.declared.heads.NameItem.{NameItem}
use Rattle.upload_records.specs.Native.{s3_state}
use Rattle.list_pages.specs.Listing.{name_in, IsPageOf}
use Rattle.account_calls.specs.Keys.{keys_with, GoesOnWith, StandsBehind, TellsKeys}
use Rattle.account_calls.proofs.lemmas.Ask.{asks_told}
use Rattle.account_calls.proofs.KeyAsks.{asks_rolled}
use Rattle.account_calls.proofs.Taken.{not_false, not_true, stands_is_marker, stands_next, taken_full, taken_short, taken_whole}
use Rattle.account_calls.proofs.keys.take_page.Goals as goal

pub page-requires-clause-marker : goal.page-requires-clause-marker
page-requires-clause-marker g c = subst IsMarker (sym c.next_marker.ensures) (stands_is_marker c.args.roll.now c.requires.delimiter c.requires.stands)

pub returns-in_err-push_page-clause-asks : goal.returns-in_err-push_page-clause-asks
returns-in_err-push_page-clause-asks g c = asks_rolled c.in_ok-page.ensures.asks c.as_slice.ensures (λ e. c.in_err-push_page.ensures.no_tag (ap Err e)) _ c.from_residual-in_err-push_page.ensures.1

pub returns-then-not-branch-clause-asks : goal.returns-then-not-branch-clause-asks
returns-then-not-branch-clause-asks g c = asks_told (λ tree has. has) false
    (λ tree sound has tells. taken_full c.args.bucket.now c.args.prefix.now tree c.args.roll.now c.push_page.new.self c.as_slice.result.now c.requires.same c.in_ok-push_page.ensures.wanted
    (subst {A = List ℕ × List NameItem} (λ x. TellsKeys c.args.bucket.now c.args.prefix.now x.0 tree x.1) (λ i. (c.next_marker.ensures i, sym c.as_slice.ensures i)) tells)
    c.in_ok-push_page.ensures.rolled (not_false c.push_page.new.self.more (sym c.in_ok-push_page.ensures.goes ∙ c.if-not-branch.true)))
    c.in_ok-page.ensures.asks

pub returns-then-len-clause-asks : goal.returns-then-len-clause-asks
returns-then-len-clause-asks g c = asks_told (λ tree has. has) false
    (λ tree sound has tells. taken_short c.args.bucket.now c.args.prefix.now tree c.args.roll.now c.push_page.new.self c.as_slice.result.now c.requires.same c.in_ok-push_page.ensures.wanted
    (subst {A = List ℕ × List NameItem} (λ x. TellsKeys c.args.bucket.now c.args.prefix.now x.0 tree x.1) (λ i. (c.next_marker.ensures i, sym c.as_slice.ensures i)) tells)
    c.in_ok-push_page.ensures.rolled (omega (arith, c.if-len.true, c.len.ensures, ap length c.as_slice.ensures)))
    c.in_ok-page.ensures.asks

pub returns-clause-stands : goal.returns-clause-stands
returns-clause-stands g c = λ e. subst StandsBehind (sym c.in_ok-jump.ensures.jumped)
    (stands_next c.requires.delimiter c.requires.stands
    (subst {A = List ℕ × List NameItem} (λ x. IsPageOf c.args.prefix.now x.0 (map name_in x.1)) (λ i. (c.next_marker.ensures i, sym c.as_slice.ensures i)) c.in_ok-page.ensures.page)
    (omega (arith, c.if-len.false, c.len.ensures, ap length c.as_slice.ensures, length-map c.as_slice.result.now name_in)) c.in_ok-push_page.ensures.wanted (c.in_ok-push_page.ensures.last (ap Ok c.if-not-branch.false)))

pub returns-clause-asks : goal.returns-clause-asks
returns-clause-asks g c = asks_told (λ tree has. has) true
    (λ tree sound has tells. subst (GoesOnWith (keys_with c.args.bucket.now c.args.prefix.now (s3_state tree)) c.args.roll.now) (sym c.in_ok-jump.ensures.jumped)
    (taken_whole c.args.bucket.now c.args.prefix.now tree c.args.roll.now c.push_page.new.self c.as_slice.result.now c.requires.same c.in_ok-push_page.ensures.wanted
    (subst {A = List ℕ × List NameItem} (λ x. TellsKeys c.args.bucket.now c.args.prefix.now x.0 tree x.1) (λ i. (c.next_marker.ensures i, sym c.as_slice.ensures i)) tells)
    c.in_ok-push_page.ensures.rolled
    (subst {A = List ℕ × List NameItem} (λ x. IsPageOf c.args.prefix.now x.0 (map name_in x.1)) (λ i. (c.next_marker.ensures i, sym c.as_slice.ensures i)) c.in_ok-page.ensures.page)
    (omega (arith, c.if-len.false, c.len.ensures, ap length c.as_slice.ensures)) (c.in_ok-push_page.ensures.last (ap Ok c.if-not-branch.false)) c.requires.delimiter c.requires.stands
    c.requires.room (not_true c.push_page.new.self.more (sym c.in_ok-push_page.ensures.goes ∙ c.if-not-branch.false))))
    c.in_ok-page.ensures.asks
