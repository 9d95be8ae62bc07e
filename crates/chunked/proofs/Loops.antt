-- What the loops of the readers keep.
use Rattle.std.proofs.Common.{◌≡◌, ℕ, ◌+◌, ◌-◌, ◌≤◌, ◌<◌, zero, suc, Bool, true, false, cond, ◌==◌, slice_index, nat_eq, List, [], ◌∷◌, ◌++◌, length, drop, get_or, Result, Ok, Err, refl, sym, ◌∙◌, ap, arith, append_assoc, length-append}
use Rattle.std.proofs.lemmas.Bool.{cond-true, cond-false, eq-eqb, ne_eqb}
use Rattle.std.proofs.lemmas.List.{drop_more, nil_from_length}
use Rattle.gate_base.specs.declared.page.Pair.{Pair}
use Rattle.chunked.specs.declared.fault.ChunkedFault.{ChunkedFault}
use Rattle.chunked.specs.declared.fault.ChunkedFault.TheVariants.{IncompleteBody, InvalidRequest, SignatureDiffers, Memory}
use Rattle.chunked.specs.declared.form.ChunkedForm.{ChunkedForm}
use Rattle.sigv4.specs.declared.pieces.Seal.{Seal}
use Rattle.chunked.specs.Forms.{is_signed, most_lines}
use Rattle.chunked.specs.Reading.{◌>>=◌, Fails, word_at, run_at, chunk_at, line_at, end_at, lines_at, with_front, Tail, behind_chunk, tail_at, finished, end_of, trailers_of}
use Rattle.chunked.specs.Sent.{Chunk, Line, chunk_text, pair_of}
use Rattle.chunked.specs.Signatures.{has_signature_due}
use Rattle.chunked.proofs.Pieces.{chunk_ok, chunk_takes}

-- a fault that is due is given
pub fails : {Y : Type 0} (fault : ChunkedFault) (due : Result Y ChunkedFault) → due ≡ Err fault → Fails fault due
fails IncompleteBody due h = h
fails InvalidRequest due h = h
fails SignatureDiffers due h = h
fails Memory due h = tt

-- ---- a word

pub word_missing : (word rest : List ℕ) (i : ℕ) → i < length word → length rest < 1 → word_at (drop i word) rest ≡ Err IncompleteBody
unfolding word_at
word_missing word rest i within none =
    ap (λ d. word_at d rest) (drop_more word i 0 within) ∙ ap (word_at (get_or word i 0 ∷ drop (i + 1) word)) (nil_from_length rest (omega arith))

-- ---- lines

with_one : (front : List Pair) (pair : Pair) (r : Result (List Pair × List ℕ) ChunkedFault)
    → with_front front (r >>= λ (ls : List Pair × List ℕ). let q : Result (List Pair × List ℕ) ChunkedFault = Ok (pair ∷ ls.0, ls.1) in q) ≡ with_front (front ++ pair ∷ []) r
with_one front pair (Ok found) = ap (λ ls. let q : Result (List Pair × List ℕ) ChunkedFault = Ok (ls, found.1) in q) (sym (append_assoc front (pair ∷ []) found.0))
with_one front pair (Err fault) = refl

lines_step_by : (n : ℕ) (front : List Pair) (rest behind : List ℕ) (line : Line) → (slice_index rest 0 == 13) ≡ false → line_at rest ≡ Ok (line, behind)
    → with_front (front ++ pair_of line ∷ []) (lines_at n behind) ≡ with_front front (lines_at (suc n) rest)
unfolding lines_at
lines_step_by n front rest behind line other is =
    sym (with_one front (pair_of line) (lines_at n behind))
    ∙ ap (with_front front) (sym (
    cond-false (slice_index rest 0 == 13) (end_at rest) (line_at rest >>= λ (l : Line × List ℕ). lines_at n l.1 >>= λ (ls : List Pair × List ℕ). Ok (pair_of l.0 ∷ ls.0, ls.1)) other
    ∙ ap (λ v. v >>= λ (l : Line × List ℕ). lines_at n l.1 >>= λ (ls : List Pair × List ℕ). Ok (pair_of l.0 ∷ ls.0, ls.1)) is
    ))

pub lines_step : (most turn : ℕ) (front : List Pair) (rest behind : List ℕ) (line : Line) → turn < most → (slice_index rest 0 == 13) ≡ false → line_at rest ≡ Ok (line, behind)
    → with_front (front ++ pair_of line ∷ []) (lines_at (most - (turn + 1)) behind) ≡ with_front front (lines_at (most - turn) rest)
lines_step most turn front rest behind line within other is =
    let left : most - turn ≡ suc (most - (turn + 1)) = omega (arith, within) in
    lines_step_by (most - (turn + 1)) front rest behind line other is ∙ ap (λ n. with_front front (lines_at n rest)) (sym left)

-- where no line is left, or none is allowed, the end comes
pub lines_end : (most : ℕ) (rest : List ℕ) → (slice_index rest 0 == 13) ≡ true → lines_at most rest ≡ end_at rest
unfolding lines_at
lines_end zero rest h = refl
lines_end (suc most) rest h = cond-true (slice_index rest 0 == 13) (end_at rest) (line_at rest >>= λ (l : Line × List ℕ). lines_at most l.1 >>= λ (ls : List Pair × List ℕ). Ok (pair_of l.0 ∷ ls.0, ls.1)) h

pub lines_none : (n : ℕ) (rest : List ℕ) → n ≡ 0 → lines_at n rest ≡ end_at rest
unfolding lines_at
lines_none n rest h = ap (λ m. lines_at m rest) h

-- ---- chunks

pub chunk_shorter : (signed : Bool) (bytes : List ℕ) (chunk : Chunk) (rest : List ℕ) → chunk_at signed bytes ≡ Ok (chunk, rest) → length rest < length bytes
chunk_shorter signed bytes chunk rest h =
    let one = chunk_ok signed bytes chunk rest h in
    let count : length bytes ≡ length (chunk_text signed chunk) + length rest = ap length one.1 ∙ length-append (chunk_text signed chunk) rest in
    omega (arith, count, chunk_takes signed chunk one.0)

chunk_of_none : (signed : Bool) → chunk_at signed [] ≡ Err IncompleteBody
unfolding chunk_at run_at
chunk_of_none signed = refl

module _ (form : ChunkedForm) (seal : Seal) where
  abbrev next : ℕ → List ℕ → Chunk × List ℕ → Result (Tail × List ℕ) ChunkedFault
  next n previous c = behind_chunk form seal previous (λ signature rest. tail_at n form seal signature rest) c

  -- reading the rest from a signature on is reading all of it
  pub record Going (first previous rest : List ℕ) : Type 0 where
    pub room : ℕ
    pub enough : length rest ≤ room
    pub same : tail_at room form seal previous rest ≡ tail_at (length first) form seal seal.signature first

  pub going_first : (first : List ℕ) → Going first seal.signature first
  going_first first = record { room = length first; enough = omega arith; same = refl }

  -- one chunk more
  record Step (first previous rest : List ℕ) : Type 0 where
    left : ℕ
    enough : length rest ≤ suc left
    reads : tail_at (length first) form seal seal.signature first ≡ (chunk_at (is_signed form) rest >>= λ (c : Chunk × List ℕ). next left previous c)

  step_by : (first previous rest : List ℕ) (room : ℕ) → length rest ≤ room → tail_at room form seal previous rest ≡ tail_at (length first) form seal seal.signature first → Step first previous rest
  unfolding tail_at
  step_by first previous rest zero enough same =
      let none : rest ≡ [] = nil_from_length rest (omega arith) in
      record {
        left = 0;
        enough = omega arith;
        reads = sym same ∙ ap (λ v. v >>= λ (c : Chunk × List ℕ). next 0 previous c) (sym (ap (chunk_at (is_signed form)) none ∙ chunk_of_none (is_signed form)));
      }
  step_by first previous rest (suc room) enough same = record { left = room; enough = enough; reads = sym same }

  step : (first previous rest : List ℕ) → Going first previous rest → Step first previous rest
  step first previous rest g = step_by first previous rest g.room g.enough g.same

  pub going_fails : (first previous rest : List ℕ) (fault : ChunkedFault) → Going first previous rest → chunk_at (is_signed form) rest ≡ Err fault → trailers_of form seal first ≡ Err fault
  unfolding trailers_of
  going_fails first previous rest fault g h =
      let s = step first previous rest g in
      ap (λ v. v >>= λ (f : Tail × List ℕ). finished form seal f) (s.reads ∙ ap (λ v. v >>= λ (c : Chunk × List ℕ). next s.left previous c) h)

  reads_on : (first previous rest : List ℕ) (chunk : Chunk) (behind : List ℕ) → (g : Going first previous rest) → chunk_at (is_signed form) rest ≡ Ok (chunk, behind)
      → (n : ℕ) × (length rest ≤ suc n) × (tail_at (length first) form seal seal.signature first ≡ next n previous (chunk, behind))
  reads_on first previous rest chunk behind g h =
      let s = step first previous rest g in
      (s.left, s.enough, s.reads ∙ ap (λ v. v >>= λ (c : Chunk × List ℕ). next s.left previous c) h)

  pub going_differs : (first previous rest : List ℕ) (chunk : Chunk) (behind : List ℕ) → Going first previous rest → chunk_at (is_signed form) rest ≡ Ok (chunk, behind)
      → has_signature_due (is_signed form) seal previous chunk ≡ false → trailers_of form seal first ≡ Err SignatureDiffers
  unfolding trailers_of
  going_differs first previous rest chunk behind g h d =
      let s = reads_on first previous rest chunk behind g h in
      ap (λ v. v >>= λ (f : Tail × List ℕ). finished form seal f)
      (s.2 ∙ cond-false (has_signature_due (is_signed form) seal previous chunk)
      (cond (nat_eq (length chunk.bytes) 0) (lines_at (most_lines form) behind >>= λ (ls : List Pair × List ℕ). Ok ((chunk.signature, ls.0), ls.1)) (tail_at s.0 form seal chunk.signature behind))
      (Err SignatureDiffers) d)

  pub going_on : (first previous rest : List ℕ) (chunk : Chunk) (behind : List ℕ) → Going first previous rest → chunk_at (is_signed form) rest ≡ Ok (chunk, behind)
      → has_signature_due (is_signed form) seal previous chunk ≡ true → (length chunk.bytes ≡ 0 → ⊥) → Going first chunk.signature behind
  going_on first previous rest chunk behind g h d some =
      let s = reads_on first previous rest chunk behind g h in
      record {
        room = s.0;
        enough = omega (arith, chunk_shorter (is_signed form) rest chunk behind h, s.1);
        same = sym (
            s.2 ∙ cond-true (has_signature_due (is_signed form) seal previous chunk)
            (cond (nat_eq (length chunk.bytes) 0) (lines_at (most_lines form) behind >>= λ (ls : List Pair × List ℕ). Ok ((chunk.signature, ls.0), ls.1)) (tail_at s.0 form seal chunk.signature behind))
            (Err SignatureDiffers) d
            ∙ cond-false (nat_eq (length chunk.bytes) 0) (lines_at (most_lines form) behind >>= λ (ls : List Pair × List ℕ). Ok ((chunk.signature, ls.0), ls.1)) (tail_at s.0 form seal chunk.signature behind)
            (ne_eqb (length chunk.bytes) 0 some)
            );
      }

  told_ends : (signature : List ℕ) (r : Result (List Pair × List ℕ) ChunkedFault)
      → ((r >>= λ (ls : List Pair × List ℕ). let q : Result (Tail × List ℕ) ChunkedFault = Ok ((signature, ls.0), ls.1) in q) >>= λ (f : Tail × List ℕ). finished form seal f)
      ≡ (r >>= λ (ls : List Pair × List ℕ). finished form seal ((signature, ls.0), ls.1))
  told_ends signature (Ok found) = refl
  told_ends signature (Err fault) = refl

  pub going_ends : (first previous rest : List ℕ) (chunk : Chunk) (behind : List ℕ) → Going first previous rest → chunk_at (is_signed form) rest ≡ Ok (chunk, behind)
      → has_signature_due (is_signed form) seal previous chunk ≡ true → length chunk.bytes ≡ 0 → end_of form seal chunk.signature behind ≡ trailers_of form seal first
  unfolding trailers_of end_of
  going_ends first previous rest chunk behind g h d none =
      let s = reads_on first previous rest chunk behind g h in
      sym (
      ap (λ v. v >>= λ (f : Tail × List ℕ). finished form seal f)
      (s.2 ∙ cond-true (has_signature_due (is_signed form) seal previous chunk)
      (cond (nat_eq (length chunk.bytes) 0) (lines_at (most_lines form) behind >>= λ (ls : List Pair × List ℕ). Ok ((chunk.signature, ls.0), ls.1)) (tail_at s.0 form seal chunk.signature behind))
      (Err SignatureDiffers) d
      ∙ cond-true (nat_eq (length chunk.bytes) 0) (lines_at (most_lines form) behind >>= λ (ls : List Pair × List ℕ). Ok ((chunk.signature, ls.0), ls.1)) (tail_at s.0 form seal chunk.signature behind)
      (eq-eqb (length chunk.bytes) 0 none))
      ∙ told_ends chunk.signature (lines_at (most_lines form) behind)
      )
