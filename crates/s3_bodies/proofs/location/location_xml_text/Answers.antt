use Rattle.std.proofs.Common.{Err, Ok}
use Rattle.std.proofs.lemmas.Result.{err_from_is_err_and}
use Rattle.s3_bodies.proofs.Locations.{location_breaks, location_reads, location_stops, location_ends, location_whole}
use Rattle.s3_bodies.proofs.location.location_xml_text.Goals as goal

pub returns-in_err-inner : goal.returns-in_err-inner
returns-in_err-inner c = let p = err_from_is_err_and c.from_residual.result c.from_residual.ensures.1 in
    rw (p.1, p.2) (location_stops c.args.bytes.now _ (location_breaks c.args.bytes.now _ c.in_err-inner.ensures))

pub returns-in_err-text : goal.returns-in_err-text
returns-in_err-text c = let p = err_from_is_err_and c.from_residual-in_err-text.result c.from_residual-in_err-text.ensures.1 in
    rw (p.1, p.2) (location_stops c.args.bytes.now _ (location_reads c.args.bytes.now _ _ c.in_ok-inner.ensures (Err _) c.in_err-text.ensures))

pub returns-in_err-only_space : goal.returns-in_err-only_space
returns-in_err-only_space c = let p = err_from_is_err_and c.from_residual-in_err-only_space.result c.from_residual-in_err-only_space.ensures.1 in
    rw (p.1, p.2) (location_ends c.args.bytes.now _ _ _ (location_reads c.args.bytes.now _ _ c.in_ok-inner.ensures (Ok (_, _)) c.in_ok-text.ensures) c.in_err-only_space.ensures)

pub returns : goal.returns
returns c = location_whole c.args.bytes.now _ _ (location_reads c.args.bytes.now _ _ c.in_ok-inner.ensures (Ok (_, _)) c.in_ok-text.ensures) c.in_ok-only_space.ensures
