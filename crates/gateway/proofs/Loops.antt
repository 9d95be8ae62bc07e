-- An object that is sent piece by piece.
use Rattle.std.specs.Prelude.{◌≡◌, ◌≤◌, ◌<◌, ◌+◌, ◌-◌, ℕ, min, false, IsTrue, List, [], ◌++◌, length, Some, None}
use Rattle.std.proofs.Common.{refl, sym, subst, arith}
use Rattle.std.proofs.lemmas.List.{length-append}
use Rattle.gate_base.specs.Line.{LineModel, OnlyWrites}
use Rattle.swift_calls.specs.History.{History}
use Rattle.planner.specs.declared.reading.Found.{Found}
use Rattle.gateway.specs.declared.send.Stop.{Stop}
use Rattle.gateway.specs.declared.send.Stop.TheVariants as stop
use Rattle.gateway.specs.Reading.{BodySent, BodyCut, SendsPiece, SentSoFar, SendsBody}
use Rattle.gateway.proofs.Pieces.{body_none, body_more, body_cut}
use Rattle.gateway.proofs.Tracing.{got_none, got_more}

pub so_far_none : (found : Found) (line : LineModel) (old : History) → SentSoFar found line old line old 0
so_far_none found line old = record {
  done = [];
  count = 0;
  length_is = refl;
  got = got_none found old;
  sent = λ t. body_none line.transcript.begun old.called line.transcript.sent;
}

module _ {found : Found} {line line' : LineModel} {old now : History} {at : ℕ} (writes : OnlyWrites false line line') (so_far : SentSoFar found line old line' now at) (size : ℕ) (left : at < found.length) (most : size ≡ min 1048576 (found.length - at)) where
  begun : IsTrue line.observable → line'.transcript.begun ≡ line.transcript.begun
  begun t = (writes.serves.transcript t).begun

  here : IsTrue line.observable → BodySent line'.transcript.begun old.called so_far.done so_far.count line.transcript.sent line'.transcript.sent
  here t = subst (λ n. BodySent n old.called so_far.done so_far.count line.transcript.sent line'.transcript.sent) (sym (begun t)) (so_far.sent t)

  next_at : (new : ℕ) → new ≡ now.called + 1 → new ≡ old.called + so_far.count + 1
  next_at new next = let counted = so_far.got.counted in omega arith

  small : (bytes : List ℕ) → length bytes ≡ size → length bytes ≤ 1048576
  small bytes is = omega (arith, is, most)

  pub so_far_more : (line'' : LineModel) (new : History) → SendsPiece found at size line' now None line'' new → SentSoFar found line old line'' new (at + size)
  so_far_more line'' new (bytes, sized, next, asks, wrote) = record {
    done = so_far.done ++ bytes;
    count = so_far.count + 1;
    length_is = (let before = so_far.length_is in omega (arith, before, sized, length-append so_far.done bytes));
    got = got_more so_far.got at size so_far.length_is sized left most next asks;
    sent = λ t. subst (λ n. BodySent n old.called (so_far.done ++ bytes) (so_far.count + 1) line.transcript.sent line''.transcript.sent) (begun t)
        (body_more bytes new.called line'.transcript line''.transcript (here t) (next_at new.called next) (small bytes sized) (wrote (writes.serves.observable t)));
  }

  pub so_far_stops : (line'' : LineModel) (new : History) (why : Stop) → SendsPiece found at size line' now (Some why) line'' new → SendsBody found line old (Some why) line'' new
  so_far_stops line'' new stop.Line (bytes, sized, next, asks, cut) = (
    so_far.done ++ bytes,
    so_far.count + 1,
    got_more so_far.got at size so_far.length_is sized left most next asks,
    λ t. subst (λ n. BodyCut n old.called new.called (so_far.done ++ bytes) line.transcript.sent line''.transcript.sent) (begun t)
        (body_cut bytes new.called line'.transcript line''.transcript (here t) (next_at new.called next) (cut (writes.serves.observable t))),
  )
  so_far_stops line'' new (stop.Fault fault) (same, counts, asks) = (now, at, size, left, subst (λ l. SentSoFar found line old l now at) (sym same) so_far, counts, asks)

pub so_far_all : {found : Found} {line line' : LineModel} {old now : History} {at : ℕ} → SentSoFar found line old line' now at → at ≡ found.length → SentSoFar found line old line' now found.length
so_far_all {found = found} {line = line} {line' = line'} {old = old} {now = now} so_far is = subst (SentSoFar found line old line' now) is so_far
