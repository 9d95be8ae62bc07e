-- Chunks one behind another, and the lines behind them: a text of the form is read back, and what is read is of the form.
use Rattle.std.proofs.Common.{◌≡◌, ℕ, ◌+◌, ◌≤◌, ◌<◌, inl, inr, zero, suc, Bool, true, false, cond, ◌&&◌, nat_eq, List, [], ◌∷◌, ◌++◌, length, map, Result, Ok, Err, refl, sym, ◌∙◌, ap, arith, append_assoc, append-nil, length-append, replicate}
use Rattle.std.specs.Prelude.{flat_map}
use Rattle.std.specs.List.{AllByRecursion}
use Rattle.std.proofs.lemmas.Bool.{cond-true, cond-false, and_parts, and_cases, and_from, and_left, eq-eqb, eqb-true, eqb-false, ne_eqb, cases_eq}
use Rattle.std.proofs.lemmas.List.{nil_from_length, length-replicate}
use Rattle.gate_base.specs.Ascii.{is_lower_hex}
use Rattle.gate_base.specs.declared.page.Pair.{Pair}
use Rattle.chunked.specs.declared.fault.ChunkedFault.{ChunkedFault}
use Rattle.chunked.specs.declared.fault.ChunkedFault.TheVariants.{IncompleteBody, InvalidRequest, SignatureDiffers}
use Rattle.chunked.specs.declared.form.ChunkedForm.{ChunkedForm}
use Rattle.sigv4.specs.declared.pieces.Seal.{Seal}
use Rattle.chunked.specs.Chunked.{IsFront}
use Rattle.chunked.specs.Forms.{is_signed, most_lines}
use Rattle.chunked.specs.Reading.{◌>>=◌, chunk_at, lines_at, Tail, behind_chunk, tail_at, gathered_with, gathered_at}
use Rattle.chunked.specs.Sent.{Chunk, Line, Sent, chunk_text, lines_text, sent_text, IsChunk, IsFull, IsLast, IsLine, IsSent, pair_of, bytes_of}
use Rattle.chunked.specs.Signatures.{has_signature_due, have_signatures_due}
use Rattle.chunked.proofs.Chains.{ok_same, bind_ok, bind_err, chosen}
use Rattle.chunked.proofs.Steady.{Steady, IsPlain, both_steady, pure_steady, pure_possible}
use Rattle.chunked.proofs.Pieces.{chunk_steady, chunk_is, chunk_ok, chunk_takes}
use Rattle.chunked.proofs.Scans.{all_filled}
use Rattle.chunked.proofs.Rows.{lines_steady, lines_is, lines_ok}

-- the lines behind a chunk that has this signature
abbrev told : ChunkedForm → List ℕ → List ℕ → Result (Tail × List ℕ) ChunkedFault
told form signature bytes = lines_at (most_lines form) bytes >>= λ lines. Ok ((signature, lines.0), lines.1)

told_steady : (form : ChunkedForm) (signature : List ℕ) → Steady (λ bytes. told form signature bytes)
told_steady form signature =
    both_steady (lines_at (most_lines form)) (λ lines bytes. let r : Result (Tail × List ℕ) ChunkedFault = Ok ((signature, lines), bytes) in r) (lines_steady (most_lines form))
    (λ lines. pure_steady (signature, lines)) (λ lines. pure_possible (signature, lines))

module _ (form : ChunkedForm) (seal : Seal) where
  abbrev signed : Bool
  signed = is_signed form

  abbrev next : ℕ → List ℕ → Chunk × List ℕ → Result (Tail × List ℕ) ChunkedFault
  next n previous c = behind_chunk form seal previous (λ signature rest. tail_at n form seal signature rest) c

  abbrev due : List ℕ → Chunk → Bool
  due previous chunk = has_signature_due signed seal previous chunk

  abbrev empty : Chunk → Bool
  empty chunk = nat_eq (length chunk.bytes) 0

  -- what stands behind a chunk
  data Goes (n : ℕ) (previous : List ℕ) (c : Chunk × List ℕ) (r : Result (Tail × List ℕ) ChunkedFault) : Type 0 where
    ends : due previous c.0 ≡ true → empty c.0 ≡ true → told form c.0.signature c.1 ≡ r → Goes n previous c r
    more : due previous c.0 ≡ true → empty c.0 ≡ false → tail_at n form seal c.0.signature c.1 ≡ r → Goes n previous c r
    differs : due previous c.0 ≡ false → Err SignatureDiffers ≡ r → Goes n previous c r

  goes : (n : ℕ) (previous : List ℕ) (c : Chunk × List ℕ) (r : Result (Tail × List ℕ) ChunkedFault) → next n previous c ≡ r → Goes n previous c r
  goes n previous c r h =
      elim (chosen (due previous c.0) (cond (empty c.0) (told form c.0.signature c.1) (tail_at n form seal c.0.signature c.1)) (Err SignatureDiffers) r h) [
        | inl p ↦
            elim (chosen (empty c.0) (told form c.0.signature c.1) (tail_at n form seal c.0.signature c.1) r p.1) [
              | inl q ↦ ends p.0 q.0 q.1
              | inr q ↦ more p.0 q.0 q.1
            ]
        | inr p ↦ differs p.0 p.1
      ]

  goes_ends : (n : ℕ) (previous : List ℕ) (c : Chunk × List ℕ) → due previous c.0 ≡ true → empty c.0 ≡ true → next n previous c ≡ told form c.0.signature c.1
  goes_ends n previous c d e =
      cond-true (due previous c.0) (cond (empty c.0) (told form c.0.signature c.1) (tail_at n form seal c.0.signature c.1)) (Err SignatureDiffers) d
      ∙ cond-true (empty c.0) (told form c.0.signature c.1) (tail_at n form seal c.0.signature c.1) e

  goes_on : (n : ℕ) (previous : List ℕ) (c : Chunk × List ℕ) → due previous c.0 ≡ true → empty c.0 ≡ false → next n previous c ≡ tail_at n form seal c.0.signature c.1
  goes_on n previous c d e =
      cond-true (due previous c.0) (cond (empty c.0) (told form c.0.signature c.1) (tail_at n form seal c.0.signature c.1)) (Err SignatureDiffers) d
      ∙ cond-false (empty c.0) (told form c.0.signature c.1) (tail_at n form seal c.0.signature c.1) e

  goes_wrong : (n : ℕ) (previous : List ℕ) (c : Chunk × List ℕ) → due previous c.0 ≡ false → next n previous c ≡ Err SignatureDiffers
  goes_wrong n previous c d = cond-false (due previous c.0) (cond (empty c.0) (told form c.0.signature c.1) (tail_at n form seal c.0.signature c.1)) (Err SignatureDiffers) d

  -- a chunk, and what is behind it
  steps : (n : ℕ) (previous bytes : List ℕ) (chunk : Chunk) (rest : List ℕ) → chunk_at signed bytes ≡ Ok (chunk, rest) → tail_at (suc n) form seal previous bytes ≡ next n previous (chunk, rest)
  unfolding tail_at
  steps n previous bytes chunk rest h = ap (λ v. v >>= λ (c : Chunk × List ℕ). next n previous c) h

  -- ---- where bytes follow

  pub tail_grows : (n m : ℕ) (previous bytes behind : List ℕ) (found : Tail) (rest : List ℕ) → n ≤ m → tail_at n form seal previous bytes ≡ Ok (found, rest)
      → tail_at m form seal previous (bytes ++ behind) ≡ Ok (found, rest ++ behind)
  unfolding tail_at
  tail_grows zero m previous bytes behind found rest l h = cc
  tail_grows (suc n) zero previous bytes behind found rest l h = absurd (omega arith)
  tail_grows (suc n) (suc m) previous bytes behind found rest l h =
      let x = bind_ok (chunk_at signed bytes) (λ (c : Chunk × List ℕ). next n previous c) (found, rest) h in
      let grown = (chunk_steady signed).grows bytes behind x.0.0 x.0.1 x.1 in
      steps m previous (bytes ++ behind) x.0.0 (x.0.1 ++ behind) grown
      ∙ elim (goes n previous x.0 (Ok (found, rest)) x.2) [
        | ends d e k ↦ goes_ends m previous (x.0.0, x.0.1 ++ behind) d e ∙ (told_steady form x.0.0.signature).grows x.0.1 behind found rest k
        | more d e k ↦ goes_on m previous (x.0.0, x.0.1 ++ behind) d e ∙ tail_grows n m x.0.0.signature x.0.1 behind found rest (omega arith) k
        | differs d k ↦ cc
      ]

  pub tail_dead : (n m : ℕ) (previous bytes behind : List ℕ) → n ≤ m → tail_at n form seal previous bytes ≡ Err InvalidRequest
      → tail_at m form seal previous (bytes ++ behind) ≡ Err InvalidRequest
  unfolding tail_at
  tail_dead zero m previous bytes behind l h = cc
  tail_dead (suc n) zero previous bytes behind l h = absurd (omega arith)
  tail_dead (suc n) (suc m) previous bytes behind l h =
      elim (bind_err (chunk_at signed bytes) (λ (c : Chunk × List ℕ). next n previous c) InvalidRequest h) [
        | inl k ↦ ap (λ v. v >>= λ (c : Chunk × List ℕ). next m previous c) ((chunk_steady signed).dead bytes behind k)
        | inr x ↦
            let grown = (chunk_steady signed).grows bytes behind x.0.0 x.0.1 x.1 in
            steps m previous (bytes ++ behind) x.0.0 (x.0.1 ++ behind) grown
            ∙ elim (goes n previous x.0 (Err InvalidRequest) x.2) [
              | ends d e k ↦ goes_ends m previous (x.0.0, x.0.1 ++ behind) d e ∙ (told_steady form x.0.0.signature).dead x.0.1 behind k
              | more d e k ↦ goes_on m previous (x.0.0, x.0.1 ++ behind) d e ∙ tail_dead n m x.0.0.signature x.0.1 behind (omega arith) k
              | differs d k ↦ cc
            ]
      ]

  -- ---- a text is read back

  full_goes : (chunk : Chunk) → 0 < length chunk.bytes → empty chunk ≡ false
  full_goes chunk h = ne_eqb (length chunk.bytes) 0 (λ e. omega (arith, e, h))

  last_ends : (chunk : Chunk) → chunk.bytes ≡ [] → empty chunk ≡ true
  last_ends chunk h = eq-eqb (length chunk.bytes) 0 (ap length h)

  -- all signatures are due
  pub tail_is : (chunks : List Chunk) (last : Chunk) (lines : List Line) (n : ℕ) (previous behind : List ℕ) → AllByRecursion (IsFull signed) chunks → IsLast signed last
      → AllByRecursion IsLine lines → length lines ≤ most_lines form → length chunks < n → have_signatures_due signed seal previous (chunks ++ last ∷ []) ≡ true
      → tail_at n form seal previous (flat_map (chunk_text signed) chunks ++ (chunk_text signed last ++ (lines_text lines ++ behind))) ≡ Ok ((last.signature, map pair_of lines), behind)
  unfolding tail_at have_signatures_due
  tail_is chunks last lines zero previous behind full ending each few room right = absurd (omega arith)
  tail_is [] last lines (suc n) previous behind full ending each few room right =
      steps n previous (chunk_text signed last ++ (lines_text lines ++ behind)) last (lines_text lines ++ behind) (chunk_is signed last (lines_text lines ++ behind) ending.formed)
      ∙ goes_ends n previous (last, lines_text lines ++ behind) (and_parts (due previous last) true right).0 (last_ends last ending.empty)
      ∙ ap (λ v. v >>= λ (ls : List Pair × List ℕ). Ok ((last.signature, ls.0), ls.1)) (lines_is (most_lines form) lines behind each few)
  tail_is (chunk ∷ chunks) last lines (suc n) previous behind full ending each few room right =
      let tail = flat_map (chunk_text signed) chunks ++ (chunk_text signed last ++ (lines_text lines ++ behind)) in
      let p = and_parts (due previous chunk) (have_signatures_due signed seal chunk.signature (chunks ++ last ∷ [])) right in
      ap (tail_at (suc n) form seal previous) (append_assoc (chunk_text signed chunk) (flat_map (chunk_text signed) chunks) (chunk_text signed last ++ (lines_text lines ++ behind)))
      ∙ steps n previous (chunk_text signed chunk ++ tail) chunk tail (chunk_is signed chunk tail full.0.formed)
      ∙ goes_on n previous (chunk, tail) p.0 (full_goes chunk full.0.filled)
      ∙ tail_is chunks last lines n chunk.signature behind full.1 ending each few (omega arith) p.1

  wrong_by : (n : ℕ) (previous : List ℕ) (chunk : Chunk) (tail : List ℕ) → 0 < length chunk.bytes → (b : Bool) → due previous chunk ≡ b
      → (due previous chunk ≡ true → tail_at n form seal chunk.signature tail ≡ Err SignatureDiffers) → next n previous (chunk, tail) ≡ Err SignatureDiffers
  wrong_by n previous chunk tail filled true is rest = goes_on n previous (chunk, tail) is (full_goes chunk filled) ∙ rest is
  wrong_by n previous chunk tail filled false is rest = goes_wrong n previous (chunk, tail) is

  -- some signature isn't
  pub tail_wrong : (chunks : List Chunk) (last : Chunk) (n : ℕ) (previous rest : List ℕ) → AllByRecursion (IsFull signed) chunks → IsChunk signed last → length chunks < n
      → have_signatures_due signed seal previous (chunks ++ last ∷ []) ≡ false
      → tail_at n form seal previous (flat_map (chunk_text signed) chunks ++ (chunk_text signed last ++ rest)) ≡ Err SignatureDiffers
  unfolding tail_at have_signatures_due
  tail_wrong chunks last zero previous rest full formed room wrong = absurd (omega arith)
  tail_wrong [] last (suc n) previous rest full formed room wrong =
      steps n previous (chunk_text signed last ++ rest) last rest (chunk_is signed last rest formed)
      ∙ goes_wrong n previous (last, rest) (elim (and_cases (due previous last) true wrong) [ inl k ↦ k | inr k ↦ cc ])
  tail_wrong (chunk ∷ chunks) last (suc n) previous rest full formed room wrong =
      let tail = flat_map (chunk_text signed) chunks ++ (chunk_text signed last ++ rest) in
      ap (tail_at (suc n) form seal previous) (append_assoc (chunk_text signed chunk) (flat_map (chunk_text signed) chunks) (chunk_text signed last ++ rest))
      ∙ steps n previous (chunk_text signed chunk ++ tail) chunk tail (chunk_is signed chunk tail full.0.formed)
      ∙ wrong_by n previous chunk tail full.0.filled (due previous chunk) refl
      (λ right. tail_wrong chunks last n chunk.signature rest full.1 formed (omega arith)
      (elim (and_cases (due previous chunk) (have_signatures_due signed seal chunk.signature (chunks ++ last ∷ [])) wrong) [ inl k ↦ let f = sym right ∙ k in cc | inr k ↦ k ]))

  -- ---- what is read is of the form

  pub record Tailed (previous bytes : List ℕ) (found : Tail) (rest : List ℕ) : Type 0 where
    pub sent : Sent
    pub formed : IsSent form sent
    pub at : bytes ≡ sent_text form sent ++ rest
    pub right : have_signatures_due signed seal previous (sent.chunks ++ sent.last ∷ []) ≡ true
    pub signature : found.0 ≡ sent.last.signature
    pub lines : found.1 ≡ map pair_of sent.lines

  ended_tail : (previous bytes : List ℕ) (found : Tail) (rest : List ℕ) (chunk : Chunk) (behind : List ℕ) → IsChunk signed chunk × (bytes ≡ chunk_text signed chunk ++ behind)
      → due previous chunk ≡ true → empty chunk ≡ true → told form chunk.signature behind ≡ Ok (found, rest) → Tailed previous bytes found rest
  unfolding have_signatures_due
  ended_tail previous bytes found rest chunk behind one d e h =
      let x = bind_ok (lines_at (most_lines form) behind) (λ (ls : List Pair × List ℕ). let r : Result (Tail × List ℕ) ChunkedFault = Ok ((chunk.signature, ls.0), ls.1) in r) (found, rest) h in
      let same : ◌≡◌ {A = Tail × List ℕ} ((chunk.signature, x.0.0), x.0.1) (found, rest) = ok_same ((chunk.signature, x.0.0), x.0.1) (found, rest) x.2 in
      let lined = lines_ok (most_lines form) behind x.0.0 x.0.1 x.1 in
      let none : chunk.bytes ≡ [] = nil_from_length chunk.bytes (eqb-true (length chunk.bytes) 0 e) in
      record {
        sent = record { chunks = []; last = chunk; lines = lined.lines };
        formed = record { chunks = tt; last = record { formed = one.0; empty = none }; lines = lined.each; few = lined.few };
        at = one.1 ∙ ap (λ b. chunk_text signed chunk ++ b) (lined.at ∙ ap (λ r. lines_text lined.lines ++ r) (ap (λ (q : Tail × List ℕ). q.1) same))
            ∙ sym (append_assoc (chunk_text signed chunk) (lines_text lined.lines) rest);
        right = and_from (due previous chunk) true d refl;
        signature = sym (ap (λ (q : Tail × List ℕ). q.0.0) same);
        lines = sym (ap (λ (q : Tail × List ℕ). q.0.1) same) ∙ lined.are;
      }

  more_tail : (previous bytes : List ℕ) (found : Tail) (rest : List ℕ) (chunk : Chunk) (behind : List ℕ) → IsChunk signed chunk × (bytes ≡ chunk_text signed chunk ++ behind)
      → due previous chunk ≡ true → empty chunk ≡ false → Tailed chunk.signature behind found rest → Tailed previous bytes found rest
  unfolding have_signatures_due
  more_tail previous bytes found rest chunk behind one d e t =
      let texts = flat_map (chunk_text signed) t.sent.chunks in
      let tail = chunk_text signed t.sent.last ++ lines_text t.sent.lines in
      let count : length chunk.bytes ≡ 0 → ⊥ = eqb-false (length chunk.bytes) 0 e in
      let filled : 0 < length chunk.bytes = omega (arith, count) in
      record {
        sent = record { chunks = chunk ∷ t.sent.chunks; last = t.sent.last; lines = t.sent.lines };
        formed = record { chunks = (record { formed = one.0; filled = filled }, t.formed.chunks); last = t.formed.last; lines = t.formed.lines; few = t.formed.few };
        at = one.1 ∙ ap (λ b. chunk_text signed chunk ++ b) t.at ∙ sym (append_assoc (chunk_text signed chunk) (texts ++ tail) rest)
            ∙ ap (λ b. b ++ rest) (sym (append_assoc (chunk_text signed chunk) texts tail));
        right = and_from (due previous chunk) (have_signatures_due signed seal chunk.signature (t.sent.chunks ++ t.sent.last ∷ [])) d t.right;
        signature = t.signature;
        lines = t.lines;
      }

  pub tail_ok : (n : ℕ) (previous bytes : List ℕ) (found : Tail) (rest : List ℕ) → tail_at n form seal previous bytes ≡ Ok (found, rest) → Tailed previous bytes found rest
  unfolding tail_at
  tail_ok zero previous bytes found rest h = cc
  tail_ok (suc n) previous bytes found rest h =
      let x = bind_ok (chunk_at signed bytes) (λ (c : Chunk × List ℕ). next n previous c) (found, rest) h in
      let one = chunk_ok signed bytes x.0.0 x.0.1 x.1 in
      elim (goes n previous x.0 (Ok (found, rest)) x.2) [
        | ends d e k ↦ ended_tail previous bytes found rest x.0.0 x.0.1 one d e k
        | more d e k ↦ more_tail previous bytes found rest x.0.0 x.0.1 one d e (tail_ok n x.0.0.signature x.0.1 found rest k)
        | differs d k ↦ cc
      ]

  pub record Differs (previous bytes : List ℕ) : Type 0 where
    pub chunks : List Chunk
    pub last : Chunk
    pub rest : List ℕ
    pub full : AllByRecursion (IsFull signed) chunks
    pub formed : IsChunk signed last
    pub at : bytes ≡ flat_map (chunk_text signed) chunks ++ (chunk_text signed last ++ rest)
    pub wrong : have_signatures_due signed seal previous (chunks ++ last ∷ []) ≡ false

  not_plain : IsPlain SignatureDiffers → ⊥
  not_plain (inl h) = cc
  not_plain (inr h) = cc

  pub tail_differs : (n : ℕ) (previous bytes : List ℕ) → tail_at n form seal previous bytes ≡ Err SignatureDiffers → Differs previous bytes
  unfolding tail_at have_signatures_due
  tail_differs zero previous bytes h = cc
  tail_differs (suc n) previous bytes h =
      elim (bind_err (chunk_at signed bytes) (λ (c : Chunk × List ℕ). next n previous c) SignatureDiffers h) [
        | inl k ↦ absurd (not_plain ((chunk_steady signed).plain bytes SignatureDiffers k))
        | inr x ↦
            let one = chunk_ok signed bytes x.0.0 x.0.1 x.1 in
            elim (goes n previous x.0 (Err SignatureDiffers) x.2) [
              | ends d e k ↦ absurd (not_plain ((told_steady form x.0.0.signature).plain x.0.1 SignatureDiffers k))
              | more d e k ↦
                  let t = tail_differs n x.0.0.signature x.0.1 k in
                  let texts = flat_map (chunk_text signed) t.chunks in
                  let count : length x.0.0.bytes ≡ 0 → ⊥ = eqb-false (length x.0.0.bytes) 0 e in
                  let filled : 0 < length x.0.0.bytes = omega (arith, count) in
                  record {
                    chunks = x.0.0 ∷ t.chunks;
                    last = t.last;
                    rest = t.rest;
                    full = (record { formed = one.0; filled = filled }, t.full);
                    formed = t.formed;
                    at = one.1 ∙ ap (λ b. chunk_text signed x.0.0 ++ b) t.at ∙ sym (append_assoc (chunk_text signed x.0.0) texts (chunk_text signed t.last ++ t.rest));
                    wrong = ap (λ b. b && have_signatures_due signed seal x.0.0.signature (t.chunks ++ t.last ∷ [])) d ∙ t.wrong;
                  }
              | differs d k ↦
                  record {
                    chunks = [];
                    last = x.0.0;
                    rest = x.0.1;
                    full = tt;
                    formed = one.0;
                    at = one.1;
                    wrong = and_left (due previous x.0.0) true d;
                  }
            ]
      ]

  -- ---- where bytes are missing

  -- an empty chunk
  least : Bool → Chunk
  least false = record { digits = 48 ∷ []; signature = []; bytes = [] }
  least true = record { digits = 48 ∷ []; signature = replicate 64 48; bytes = [] }

  least_last : (b : Bool) → IsLast b (least b)
  unfolding least
  least_last false = record { formed = record { filled = omega arith; short = omega arith; hex = refl; counts = refl; signature = refl }; empty = refl }
  least_last true = record {
    formed = record { filled = omega arith; short = omega arith; hex = refl; counts = refl; signature = (length-replicate {A = ℕ} 64 48, all_filled is_lower_hex 64 48 refl) };
    empty = refl;
  }

  front_none : IsFront form []
  front_none =
      let sent : Sent = record { chunks = []; last = least signed; lines = [] } in
      record { sent = sent; more = sent_text form sent; formed = record { chunks = tt; last = least_last signed; lines = tt; few = omega arith }; at = refl }

  -- the front of a front
  shorter : (bytes behind : List ℕ) → IsFront form (bytes ++ behind) → IsFront form bytes
  shorter bytes behind f = record { sent = f.sent; more = behind ++ f.more; formed = f.formed; at = sym (append_assoc bytes behind f.more) ∙ f.at }

  front_same : (bytes other : List ℕ) → bytes ≡ other → IsFront form other → IsFront form bytes
  front_same bytes other e f = record { sent = f.sent; more = f.more; formed = f.formed; at = ap (λ b. b ++ f.more) e ∙ f.at }

  front_cons : (chunk : Chunk) (rest : List ℕ) → IsFull signed chunk → IsFront form rest → IsFront form (chunk_text signed chunk ++ rest)
  front_cons chunk rest full f =
      let texts = flat_map (chunk_text signed) f.sent.chunks in
      let tail = chunk_text signed f.sent.last ++ lines_text f.sent.lines in
      record {
        sent = record { chunks = chunk ∷ f.sent.chunks; last = f.sent.last; lines = f.sent.lines };
        more = f.more;
        formed = record { chunks = (full, f.formed.chunks); last = f.formed.last; lines = f.formed.lines; few = f.formed.few };
        at = append_assoc (chunk_text signed chunk) rest f.more ∙ ap (λ b. chunk_text signed chunk ++ b) f.at ∙ sym (append_assoc (chunk_text signed chunk) texts tail);
      }

  front_last : (chunk : Chunk) → IsLast signed chunk → IsFront form (chunk_text signed chunk ++ [])
  front_last chunk last = record {
    sent = record { chunks = []; last = chunk; lines = [] };
    more = lines_text [];
    formed = record { chunks = tt; last = last; lines = tt; few = omega arith };
    at = append_assoc (chunk_text signed chunk) [] (lines_text []);
  }

  front_chunk : (chunk : Chunk) → IsChunk signed chunk → IsFront form (chunk_text signed chunk ++ [])
  front_chunk chunk is =
      elim (cases_eq (length chunk.bytes) 0) [
        | inl e ↦ front_last chunk (record { formed = is; empty = nil_from_length chunk.bytes e })
        | inr apart ↦ front_cons chunk [] (record { formed = is; filled = omega (arith, apart) }) front_none
      ]

  pub front_tailed : (previous bytes : List ℕ) (found : Tail) (rest : List ℕ) → Tailed previous bytes found rest → rest ≡ [] → IsFront form bytes
  front_tailed previous bytes found rest t none = record {
    sent = t.sent;
    more = [];
    formed = t.formed;
    at = append-nil bytes ∙ t.at ∙ ap (λ r. sent_text form t.sent ++ r) none ∙ append-nil (sent_text form t.sent);
  }

  pub tail_open : (n : ℕ) (previous bytes : List ℕ) → length bytes ≤ n → tail_at n form seal previous bytes ≡ Err IncompleteBody → IsFront form bytes
  unfolding tail_at
  tail_open zero previous bytes l h = front_same bytes [] (nil_from_length bytes (omega arith)) front_none
  tail_open (suc n) previous bytes l h =
      elim (bind_err (chunk_at signed bytes) (λ (c : Chunk × List ℕ). next n previous c) IncompleteBody h) [
        | inl k ↦
            let m = (chunk_steady signed).alive bytes k in
            let one = chunk_ok signed (bytes ++ m.0) m.1 [] m.2 in
            shorter bytes m.0 (front_same (bytes ++ m.0) (chunk_text signed m.1 ++ []) one.1 (front_chunk m.1 one.0))
        | inr x ↦
            let one = chunk_ok signed bytes x.0.0 x.0.1 x.1 in
            elim (goes n previous x.0 (Err IncompleteBody) x.2) [
              | ends d e k ↦
                  let m = (told_steady form x.0.0.signature).alive x.0.1 k in
                  let grown : bytes ++ m.0 ≡ chunk_text signed x.0.0 ++ (x.0.1 ++ m.0) = ap (λ b. b ++ m.0) one.1 ∙ append_assoc (chunk_text signed x.0.0) x.0.1 m.0 in
                  shorter bytes m.0 (front_tailed previous (bytes ++ m.0) m.1 [] (ended_tail previous (bytes ++ m.0) m.1 [] x.0.0 (x.0.1 ++ m.0) (one.0, grown) d e m.2) refl)
              | more d e k ↦
                  let count : length x.0.0.bytes ≡ 0 → ⊥ = eqb-false (length x.0.0.bytes) 0 e in
                  let long : length bytes ≡ length (chunk_text signed x.0.0) + length x.0.1 = ap length one.1 ∙ length-append (chunk_text signed x.0.0) x.0.1 in
                  let room : length x.0.1 ≤ n = omega (arith, long, chunk_takes signed x.0.0 one.0, l) in
                  front_same bytes (chunk_text signed x.0.0 ++ x.0.1) one.1
                  (front_cons x.0.0 x.0.1 (record { formed = one.0; filled = omega (arith, count) }) (tail_open n x.0.0.signature x.0.1 room k))
              | differs d k ↦ cc
            ]
      ]

  -- ---- lengths

  chunks_take : (chunks : List Chunk) → AllByRecursion (IsFull signed) chunks → length chunks ≤ length (flat_map (chunk_text signed) chunks)
  chunks_take [] full = omega arith
  chunks_take (chunk ∷ chunks) full =
      omega (arith, chunk_takes signed chunk full.0.formed, chunks_take chunks full.1, length-append (chunk_text signed chunk) (flat_map (chunk_text signed) chunks))

  -- chunks and one more have fewer chunks than bytes
  pub few_chunks : (chunks : List Chunk) (last : Chunk) (behind : List ℕ) → AllByRecursion (IsFull signed) chunks → IsChunk signed last
      → length chunks < length (flat_map (chunk_text signed) chunks ++ (chunk_text signed last ++ behind))
  few_chunks chunks last behind full formed =
      omega (
        arith,
        chunks_take chunks full,
        chunk_takes signed last formed,
        length-append (flat_map (chunk_text signed) chunks) (chunk_text signed last ++ behind),
        length-append (chunk_text signed last) behind,
      )

-- ---- the bytes of chunks

pub gathers_is : (signed : Bool) (chunks : List Chunk) (last : Chunk) (n : ℕ) (behind : List ℕ) → AllByRecursion (IsFull signed) chunks → IsLast signed last → length chunks < n
    → gathered_at n signed (flat_map (chunk_text signed) chunks ++ (chunk_text signed last ++ behind)) ≡ bytes_of chunks
unfolding gathered_at
gathers_is signed chunks last zero behind full ending room = absurd (omega arith)
gathers_is signed [] last (suc n) behind full ending room =
    ap (λ r. gathered_with (λ rest. gathered_at n signed rest) r) (chunk_is signed last behind ending.formed)
    ∙ cond-true (nat_eq (length last.bytes) 0) [] (last.bytes ++ gathered_at n signed behind) (eq-eqb (length last.bytes) 0 (ap length ending.empty))
gathers_is signed (chunk ∷ chunks) last (suc n) behind full ending room =
    let tail = flat_map (chunk_text signed) chunks ++ (chunk_text signed last ++ behind) in
    ap (gathered_at (suc n) signed) (append_assoc (chunk_text signed chunk) (flat_map (chunk_text signed) chunks) (chunk_text signed last ++ behind))
    ∙ ap (λ r. gathered_with (λ rest. gathered_at n signed rest) r) (chunk_is signed chunk tail full.0.formed)
    ∙ cond-false (nat_eq (length chunk.bytes) 0) [] (chunk.bytes ++ gathered_at n signed tail) (ne_eqb (length chunk.bytes) 0 (λ e. omega (arith, e, full.0.filled)))
    ∙ ap (λ b. chunk.bytes ++ b) (gathers_is signed chunks last n behind full.1 ending (omega arith))
