use Rattle.std.proofs.Common.{◌++◌, take, sym, ap, ◌∙◌, append_assoc, arith}
use Rattle.http_wire.proofs.FillLemmas.{filled}
use Rattle.http_wire.proofs.fill.read_room.Goals as goal

pub returns-in-Ok-clause-kept : goal.returns-in-Ok-clause-kept
returns-in-Ok-clause-kept g c observable =
    let came = c.args.came in
    let read = c.read.new.buf in
    let rest = (g.N.Line.model c.read.new.self).transcript.rest in
    let front = take came c.args.bytes.now.items in
    ap (λ v. v ++ rest)
    (filled c.deref_mut.result.now read _ _ came c.args.bytes.now.len c.in-Ok.count (omega (arith, c.requires.room, c.deref_mut.ensures.len))
    (omega (arith, c.in-Ok.ensures.within, c.read.auto.buf)) (omega (arith, c.in-Ok.ensures.within, c.requires.room, c.deref_mut.ensures.len))
    ∙ ap (λ v. take came v ++ take c.in-Ok.count read) c.deref_mut.ensures.value)
    ∙ append_assoc front (take c.in-Ok.count read) rest ∙ ap (λ v. front ++ v) (sym (c.in-Ok.ensures.effect observable).rest)
