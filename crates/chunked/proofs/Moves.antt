-- Chunks moved to the left of the bytes that hold them.
use Rattle.std.proofs.Common.{◌≡◌, ℕ, ◌+◌, ◌-◌, ◌≤◌, zero, suc, Bool, nat_eq, List, [], ◌∷◌, ◌++◌, length, take, drop, Result, Ok, Err, refl, sym, ◌∙◌, ap, arith, append_assoc, length-append}
use Rattle.std.specs.List.{copy_within}
use Rattle.std.proofs.Math.Seq.{paste}
use Rattle.std.proofs.lemmas.Bool.{cond-true, cond-false, eq-eqb, ne_eqb}
use Rattle.std.proofs.lemmas.List.{length-drop, take_at, drop_at, drop-drop}
use Rattle.std.proofs.lemmas.List.Edits.{take-paste, drop-paste}
use Rattle.chunked.specs.declared.fault.ChunkedFault.{ChunkedFault}
use Rattle.chunked.specs.Reading.{chunk_at, gathered_with, gathered_at, sizes_of}
use Rattle.chunked.specs.Sent.{Chunk, crlf, extension_text, payload_text, chunk_text}
use Rattle.chunked.proofs.Pieces.{chunk_ok}

-- ---- a move

pub moved_front : (old new : List ℕ) (from count to : ℕ) → from + count ≤ length old → to ≤ from → new ≡ copy_within old from (from + count) to → take (to + count) new ≡ take to old ++ take count (drop from old)
moved_front old new from count to within left is =
    let size : (from + count) - from ≡ count = omega arith in
    let room : count ≤ length (drop from old) = omega (arith, length-drop from old, within) in
    ap (take (to + count)) (is ∙ ap (λ n. paste old to (drop from old) n) size) ∙ take-paste old to (drop from old) count (omega (arith, within, left)) room

pub moved_behind : (old new : List ℕ) (from count to : ℕ) → from + count ≤ length old → to ≤ from → new ≡ copy_within old from (from + count) to → drop (from + count) new ≡ drop (from + count) old
moved_behind old new from count to within left is =
    let size : (from + count) - from ≡ count = omega arith in
    let room : count ≤ length (drop from old) = omega (arith, length-drop from old, within) in
    let more : (to + count) + (from - to) ≡ from + count = omega (arith, left) in
    let same : drop (to + count) new ≡ drop (to + count) old =
    ap (drop (to + count)) (is ∙ ap (λ n. paste old to (drop from old) n) size) ∙ drop-paste old to (drop from old) count (omega (arith, within, left)) room in
    ap (λ n. drop n new) (sym more) ∙ sym (drop-drop (from - to) (to + count) new) ∙ ap (drop (from - to)) same ∙ drop-drop (from - to) (to + count) old ∙ ap (λ n. drop n old) more

-- what is the same from a place on is the same from a later one on
pub later_same : (a b : List ℕ) (n m : ℕ) → n ≤ m → drop n a ≡ drop n b → drop m a ≡ drop m b
later_same a b n m le h =
    let more : n + (m - n) ≡ m = omega (arith, le) in
    ap (λ k. drop k a) (sym more) ∙ sym (drop-drop (m - n) n a) ∙ ap (drop (m - n)) h ∙ drop-drop (m - n) n b ∙ ap (λ k. drop k b) more

-- ---- the chunk at a place

-- where the chunk at a place lies, of which so many bytes and so many behind it were told
pub record Stepped (body : List ℕ) (signed : Bool) (at count left : ℕ) : Type 0 where
  pub inside : left ≤ length body
  pub room : at + count + 2 ≤ length body - left
  pub chunk : Chunk
  pub counts : length chunk.bytes ≡ count
  pub bytes : take count (drop (length body - left - 2 - count) body) ≡ chunk.bytes
  pub gathers : (n : ℕ) → gathered_at (suc n) signed (drop at body) ≡ chunk.bytes ++ gathered_at n signed (drop (length body - left) body)

payload_is : (bytes : List ℕ) → (length bytes ≡ 0 → ⊥) → payload_text bytes ≡ bytes ++ crlf
payload_is [] h = absurd (h refl)
payload_is (b ∷ bytes) h = refl

found_step : (body : List ℕ) (signed : Bool) (at count left : ℕ) (chunk : Chunk) (rest : List ℕ) → at ≤ length body → (count ≡ 0 → ⊥) → chunk_at signed (drop at body) ≡ Ok (chunk, rest)
    → count ≡ length chunk.bytes → left ≡ length rest → Stepped body signed at count left
unfolding chunk_text gathered_at
found_step body signed at count left chunk rest within some is counted behind =
    let one = chunk_ok signed (drop at body) chunk rest is in
    let head = chunk.digits ++ (extension_text signed chunk.signature ++ crlf) in
    let full : length chunk.bytes ≡ 0 → ⊥ = λ e. some (counted ∙ e) in
    let extension = extension_text signed chunk.signature in
    let text : chunk_text signed chunk ≡ head ++ (chunk.bytes ++ crlf) =
    ap (λ p. chunk.digits ++ (extension ++ (crlf ++ p))) (payload_is chunk.bytes full) ∙ ap (λ t. chunk.digits ++ t) (sym (append_assoc extension crlf (chunk.bytes ++ crlf)))
    ∙ sym (append_assoc chunk.digits (extension ++ crlf) (chunk.bytes ++ crlf)) in
    let there : drop at body ≡ head ++ (chunk.bytes ++ (crlf ++ rest)) =
    one.1 ∙ ap (λ t. t ++ rest) text ∙ append_assoc head (chunk.bytes ++ crlf) rest ∙ ap (λ t. head ++ t) (append_assoc chunk.bytes crlf rest) in
    let size : length (drop at body) ≡ length head + (length chunk.bytes + (2 + length rest)) =
    ap length there ∙ length-append head (chunk.bytes ++ (crlf ++ rest)) ∙ ap (λ n. length head + n) (length-append chunk.bytes (crlf ++ rest) ∙ ap (λ n. length chunk.bytes + n) (length-append crlf rest)) in
    let whole : length (drop at body) ≡ length body - at = length-drop at body in
    let from : length body - left - 2 - count ≡ at + length head = omega (arith, size, whole, within, counted, behind) in
    let end : length body - left ≡ at + (length head + (length chunk.bytes + 2)) = omega (arith, size, whole, within, counted, behind) in
    let bytes_there : drop (length body - left - 2 - count) body ≡ chunk.bytes ++ (crlf ++ rest) =
    ap (λ n. drop n body) from ∙ sym (drop-drop (length head) at body) ∙ ap (drop (length head)) there ∙ drop_at head (chunk.bytes ++ (crlf ++ rest)) (length head) refl in
    let all = head ++ (chunk.bytes ++ crlf) in
    let all_size : length all ≡ length head + (length chunk.bytes + 2) = length-append head (chunk.bytes ++ crlf) ∙ ap (λ n. length head + n) (length-append chunk.bytes crlf) in
    let rest_there : drop (length body - left) body ≡ rest =
    ap (λ n. drop n body) end ∙ sym (drop-drop (length head + (length chunk.bytes + 2)) at body)
    ∙ ap (drop (length head + (length chunk.bytes + 2))) (one.1 ∙ ap (λ t. t ++ rest) text) ∙ drop_at all rest (length head + (length chunk.bytes + 2)) all_size in
    record {
      inside = omega (arith, size, whole, behind);
      room = omega (arith, end, counted);
      chunk = chunk;
      counts = sym counted;
      bytes = ap (take count) bytes_there ∙ take_at chunk.bytes (crlf ++ rest) count (sym counted);
      gathers = λ n.
          ap (λ r. gathered_with (λ t. gathered_at n signed t) r) is
          ∙ cond-false (nat_eq (length chunk.bytes) 0) [] (chunk.bytes ++ gathered_at n signed rest) (ne_eqb (length chunk.bytes) 0 full)
          ∙ ap (λ t. chunk.bytes ++ gathered_at n signed t) (sym rest_there);
    }

step_by : (body : List ℕ) (signed : Bool) (at count left : ℕ) (r : Result (Chunk × List ℕ) ChunkedFault) → at ≤ length body → (count ≡ 0 → ⊥) → chunk_at signed (drop at body) ≡ r
    → (let p : ℕ × ℕ = (count, left) in p) ≡ sizes_of r → Stepped body signed at count left
step_by body signed at count left (Ok found) within some is sizes =
    found_step body signed at count left found.0 found.1 within some is (ap (λ (p : ℕ × ℕ). p.0) sizes) (ap (λ (p : ℕ × ℕ). p.1) sizes)
step_by body signed at count left (Err fault) within some is sizes = absurd (some (ap (λ (p : ℕ × ℕ). p.0) sizes))

pub stepped : (body : List ℕ) (signed : Bool) (at count left : ℕ) → at ≤ length body → (count ≡ 0 → ⊥) → (let p : ℕ × ℕ = (count, left) in p) ≡ sizes_of (chunk_at signed (drop at body)) → Stepped body signed at count left
stepped body signed at count left within some sizes = step_by body signed at count left (chunk_at signed (drop at body)) within some refl sizes

stop_by : (n : ℕ) (signed : Bool) (count left : ℕ) (r : Result (Chunk × List ℕ) ChunkedFault) → count ≡ 0 → (let p : ℕ × ℕ = (count, left) in p) ≡ sizes_of r → gathered_with (λ t. gathered_at n signed t) r ≡ []
stop_by n signed count left (Ok found) none sizes =
    cond-true (nat_eq (length found.0.bytes) 0) [] (found.0.bytes ++ gathered_at n signed found.1) (eq-eqb (length found.0.bytes) 0 (sym (ap (λ (p : ℕ × ℕ). p.0) sizes) ∙ none))
stop_by n signed count left (Err fault) none sizes = refl

pub stopped : (n : ℕ) (signed : Bool) (bytes : List ℕ) (count left : ℕ) → count ≡ 0 → (let p : ℕ × ℕ = (count, left) in p) ≡ sizes_of (chunk_at signed bytes) → gathered_at n signed bytes ≡ []
unfolding gathered_at
stopped zero signed bytes count left none sizes = refl
stopped (suc n) signed bytes count left none sizes = stop_by n signed count left (chunk_at signed bytes) none sizes

-- ---- the loop

-- what was moved, and what the rest gives, is what all of it gives
pub record Gathering (first body : List ℕ) (signed : Bool) (to at : ℕ) : Type 0 where
  pub ordered : to ≤ at
  pub within : at ≤ length body
  pub same : length body ≡ length first
  pub room : ℕ
  pub enough : length (drop at body) ≤ room
  pub gathers : take to body ++ gathered_at room signed (drop at body) ≡ gathered_at (length first) signed first

pub gathering_none : (body : List ℕ) (signed : Bool) → Gathering body body signed 0 0
gathering_none body signed = record { ordered = omega arith; within = omega arith; same = refl; room = length body; enough = omega arith; gathers = refl }

more_by : (first body new : List ℕ) (signed : Bool) (to at count left : ℕ) (g : Gathering first body signed to at) → Stepped body signed at count left
    → take (to + count) new ≡ take to body ++ take count (drop (length body - left - 2 - count) body)
    → drop (length body - left) new ≡ drop (length body - left) body → length new ≡ length body → (n : ℕ) → n ≡ g.room → Gathering first new signed (to + count) (length body - left)
more_by first body new signed to at count left g s front behind long zero is =
    absurd (omega (arith, length-drop at body, g.enough, s.room, g.within, is))
more_by first body new signed to at count left g s front behind long (suc n) is =
    let end = length body - left in
    record {
      ordered = omega (arith, s.room, g.ordered);
      within = omega (arith, long);
      same = long ∙ g.same;
      room = n;
      enough = omega (arith, ap length behind, length-drop end body, length-drop at body, g.enough, s.room, g.within, s.inside, is);
      gathers = ap (λ f. f ++ gathered_at n signed (drop end new)) (front ∙ ap (λ b. take to body ++ b) s.bytes)
          ∙ ap (λ d. (take to body ++ s.chunk.bytes) ++ gathered_at n signed d) behind
          ∙ append_assoc (take to body) s.chunk.bytes (gathered_at n signed (drop end body))
          ∙ ap (λ t. take to body ++ t) (sym (s.gathers n)) ∙ ap (λ m. take to body ++ gathered_at m signed (drop at body)) is ∙ g.gathers;
    }

pub gathering_more : (first body new : List ℕ) (signed : Bool) (to at count left : ℕ) → Gathering first body signed to at → Stepped body signed at count left
    → take (to + count) new ≡ take to body ++ take count (drop (length body - left - 2 - count) body)
    → drop (length body - left) new ≡ drop (length body - left) body → length new ≡ length body → Gathering first new signed (to + count) (length body - left)
gathering_more first body new signed to at count left g s front behind long = more_by first body new signed to at count left g s front behind long g.room refl
