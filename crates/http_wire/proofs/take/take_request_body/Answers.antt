use Rattle.std.proofs.Common.{rules}
use Rattle.http_wire.proofs.TakeLemmas.{rejoined, ended_inside, fetched}
use Rattle.http_wire.proofs.take.take_request_body.Goals as goal

pub returns-in_err-finish_request_body-clause-effect_err : goal.returns-in_err-finish_request_body-clause-effect_err
returns-in_err-finish_request_body-clause-effect_err g c observable =
    let parts = c.in_ok-begin_request_body.ensures.ok in
    let all = rejoined c.args.pending.now.items c.begin_request_body.new.pending.items c.begin_request_body.new.body.items c.finish_request_body.new.body.items _ _ c.args.start parts.0 parts.1 (c.in_err-finish_request_body.ensures.kept observable) in
    search (rules, all)

pub returns-then-not-branch-clause-effect : goal.returns-then-not-branch-clause-effect
returns-then-not-branch-clause-effect g c observable =
    let parts = c.in_ok-begin_request_body.ensures.ok in
    let short = c.in_ok-finish_request_body.ensures.short observable c.if-not-branch.true in
    ended_inside c.args.pending.now.items c.begin_request_body.new.pending.items c.begin_request_body.new.body.items c.finish_request_body.new.body.items _ _ c.args.start c.args.size
    parts.0 parts.1 (c.in_ok-finish_request_body.ensures.kept observable) short.0 short.1

pub returns-clause-effect : goal.returns-clause-effect
returns-clause-effect g c observable =
    let parts = c.in_ok-begin_request_body.ensures.ok in
    fetched c.args.pending.now.items c.begin_request_body.new.pending.items c.begin_request_body.new.body.items c.finish_request_body.new.body.items _ _ c.args.start c.args.size
    c.truncate.new.self.items c.requires.within parts.0 parts.1 (c.in_ok-finish_request_body.ensures.kept observable) (c.in_ok-finish_request_body.ensures.whole c.if-not-branch.false) c.truncate.ensures.items
