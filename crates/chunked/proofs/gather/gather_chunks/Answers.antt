use Rattle.std.proofs.Common.{◌≡◌, ◌+◌, ◌-◌, ◌++◌, length, take, drop, rules, arith, sym, ◌∙◌, ap, subst, append-nil}
use Rattle.std.proofs.lemmas.List.{take_rest}
use Rattle.chunked.specs.Reading.{chunk_at, sizes_of}
use Rattle.chunked.proofs.Moves.{Gathering, stepped, stopped, later_same, gathering_more}
use Rattle.chunked.proofs.gather.gather_chunks.Goals as goal

pub returns-then-count-eq0 : goal.returns-then-count-eq0
returns-then-count-eq0 c =
    let g = c.chunks.invariant in
    c.truncate.ensures.items ∙ sym (append-nil (take c.chunks.to c.chunks.body.items))
    ∙ ap (λ more. take c.chunks.to c.chunks.body.items ++ more)
    (sym (stopped g.room c.args.signed (drop c.chunks.at c.chunks.body.items) c.chunk_sizes-count.result.0 c.chunk_sizes-count.result.1 c.if-count-eq0.true
    (c.chunk_sizes-count.ensures ∙ ap (λ b. sizes_of (chunk_at c.args.signed b)) (take_rest c.deref.result.now c.chunks.at)
    ∙ ap (λ b. sizes_of (chunk_at c.args.signed (drop c.chunks.at b))) c.deref.ensures.value)))
    ∙ g.gathers

pub overflow_sub-end : goal.overflow_sub-end
overflow_sub-end c =
    let len : c.len.result ≡ length c.chunks.body.items = search rules in
    let s =
    stepped c.chunks.body.items c.args.signed c.chunks.at c.chunk_sizes-count.result.0 c.chunk_sizes-count.result.1 c.chunks.invariant.within c.if-count-eq0.false
    (c.chunk_sizes-count.ensures ∙ ap (λ b. sizes_of (chunk_at c.args.signed b)) (take_rest c.deref.result.now c.chunks.at)
    ∙ ap (λ b. sizes_of (chunk_at c.args.signed (drop c.chunks.at b))) c.deref.ensures.value) in
    omega (arith, s.inside, len)

pub overflow_sub-end-in-chunks : goal.overflow_sub-end-in-chunks
overflow_sub-end-in-chunks c =
    let len : c.len.result ≡ length c.chunks.body.items = search rules in
    let s =
    stepped c.chunks.body.items c.args.signed c.chunks.at c.chunk_sizes-count.result.0 c.chunk_sizes-count.result.1 c.chunks.invariant.within c.if-count-eq0.false
    (c.chunk_sizes-count.ensures ∙ ap (λ b. sizes_of (chunk_at c.args.signed b)) (take_rest c.deref.result.now c.chunks.at)
    ∙ ap (λ b. sizes_of (chunk_at c.args.signed (drop c.chunks.at b))) c.deref.ensures.value) in
    omega (arith, s.room, len)

pub overflow_sub-end-in-chunks-2 : goal.overflow_sub-end-in-chunks-2
overflow_sub-end-in-chunks-2 c =
    let len : c.len.result ≡ length c.chunks.body.items = search rules in
    let s =
    stepped c.chunks.body.items c.args.signed c.chunks.at c.chunk_sizes-count.result.0 c.chunk_sizes-count.result.1 c.chunks.invariant.within c.if-count-eq0.false
    (c.chunk_sizes-count.ensures ∙ ap (λ b. sizes_of (chunk_at c.args.signed b)) (take_rest c.deref.result.now c.chunks.at)
    ∙ ap (λ b. sizes_of (chunk_at c.args.signed (drop c.chunks.at b))) c.deref.ensures.value) in
    omega (arith, s.room, len)

pub move_chunk-requires-clause-within : goal.move_chunk-requires-clause-within
move_chunk-requires-clause-within c =
    let len : c.len.result ≡ length c.chunks.body.items = search rules in
    let s =
    stepped c.chunks.body.items c.args.signed c.chunks.at c.chunk_sizes-count.result.0 c.chunk_sizes-count.result.1 c.chunks.invariant.within c.if-count-eq0.false
    (c.chunk_sizes-count.ensures ∙ ap (λ b. sizes_of (chunk_at c.args.signed b)) (take_rest c.deref.result.now c.chunks.at)
    ∙ ap (λ b. sizes_of (chunk_at c.args.signed (drop c.chunks.at b))) c.deref.ensures.value) in
    omega (arith, s.room, s.inside, len)

pub move_chunk-requires-clause-left : goal.move_chunk-requires-clause-left
move_chunk-requires-clause-left c =
    let len : c.len.result ≡ length c.chunks.body.items = search rules in
    let s =
    stepped c.chunks.body.items c.args.signed c.chunks.at c.chunk_sizes-count.result.0 c.chunk_sizes-count.result.1 c.chunks.invariant.within c.if-count-eq0.false
    (c.chunk_sizes-count.ensures ∙ ap (λ b. sizes_of (chunk_at c.args.signed b)) (take_rest c.deref.result.now c.chunks.at)
    ∙ ap (λ b. sizes_of (chunk_at c.args.signed (drop c.chunks.at b))) c.deref.ensures.value) in
    omega (arith, s.room, c.chunks.invariant.ordered, len)

pub chunks-smaller : goal.chunks-smaller
chunks-smaller c =
    let len : c.len.result ≡ length c.chunks.body.items = search rules in
    let s =
    stepped c.chunks.body.items c.args.signed c.chunks.at c.chunk_sizes-count.result.0 c.chunk_sizes-count.result.1 c.chunks.invariant.within c.if-count-eq0.false
    (c.chunk_sizes-count.ensures ∙ ap (λ b. sizes_of (chunk_at c.args.signed b)) (take_rest c.deref.result.now c.chunks.at)
    ∙ ap (λ b. sizes_of (chunk_at c.args.signed (drop c.chunks.at b))) c.deref.ensures.value) in
    omega (arith, s.room, s.inside, c.chunks.invariant.within, c.move_chunk.ensures.same, len)

pub chunks-preserved : goal.chunks-preserved
chunks-preserved c =
    let len : c.len.result ≡ length c.chunks.body.items = search rules in
    let s =
    stepped c.chunks.body.items c.args.signed c.chunks.at c.chunk_sizes-count.result.0 c.chunk_sizes-count.result.1 c.chunks.invariant.within c.if-count-eq0.false
    (c.chunk_sizes-count.ensures ∙ ap (λ b. sizes_of (chunk_at c.args.signed b)) (take_rest c.deref.result.now c.chunks.at)
    ∙ ap (λ b. sizes_of (chunk_at c.args.signed (drop c.chunks.at b))) c.deref.ensures.value) in
    let body = c.chunks.body.items in
    let new = c.move_chunk.new.body.items in
    let count = c.chunk_sizes-count.result.0 in
    let left = c.chunk_sizes-count.result.1 in
    let from = c.len.result - left - 2 - count in
    let front : take (c.chunks.to + count) new ≡ take c.chunks.to body ++ take count (drop (length body - left - 2 - count) body) =
    c.move_chunk.ensures.front ∙ ap (λ n. take c.chunks.to body ++ take count (drop (n - left - 2 - count) body)) len in
    let behind : drop (length body - left) new ≡ drop (length body - left) body =
    later_same new body (from + count) (length body - left) (omega (arith, s.room, len)) c.move_chunk.ensures.behind in
    subst (λ n. Gathering c.args.body.now.items new c.args.signed (c.chunks.to + count) (n - left)) (sym len)
    (gathering_more c.args.body.now.items body new c.args.signed c.chunks.to c.chunks.at count left c.chunks.invariant s front behind c.move_chunk.ensures.same)
