-- The lines behind the last chunk: their text is read back, and what is read is of the form.
use Rattle.std.proofs.Common.{◌≡◌, ℕ, ◌≤◌, zero, suc, true, false, cond, ◌==◌, slice_index, List, [], ◌∷◌, ◌++◌, length, map, Result, Ok, Err, refl, sym, ◌∙◌, ap, subst, arith, append_assoc, inl, inr}
use Rattle.std.specs.Prelude.{flat_map}
use Rattle.std.specs.List.{AllByRecursion, list_all}
use Rattle.std.proofs.lemmas.Bool.{cond-true, cond-false, and_parts, eqb-true, ne_eqb}
use Rattle.gate_base.specs.declared.page.Pair.{Pair}
use Rattle.chunked.specs.declared.fault.ChunkedFault.{ChunkedFault}
use Rattle.chunked.specs.declared.fault.ChunkedFault.TheVariants.{IncompleteBody, InvalidRequest}
use Rattle.chunked.specs.Reading.{◌>>=◌, word_at, run_at, line_at, end_at, lines_at}
use Rattle.chunked.specs.Sent.{Line, crlf, is_name_byte, is_text_byte, is_feed, line_text, lines_text, IsLine, pair_of}
use Rattle.chunked.proofs.Chains.{ok_same, bind_ok, chosen}
use Rattle.chunked.proofs.Scans.{word_is, word_ok, word_steady, run_is, run_ok, Opens, run_steady, run_possible}
use Rattle.chunked.proofs.Steady.{Steady, IsPlain, Possible, pure_steady, pure_possible, both_steady, both_possible}
use Rattle.chunked.proofs.Pieces.{both_opens, ended, crlf_steady, crlf_opens, ended_is, ended_ok}

abbrev colon : List ℕ
colon = 58 ∷ []

abbrev made : List ℕ → List ℕ → List ℕ → Line
made name text feed = record { name = name; text = text; feed = feed }

abbrev behind_text : List ℕ → List ℕ → List ℕ → Result (Line × List ℕ) ChunkedFault
behind_text name text bytes = run_at is_feed 0 1 bytes >>= λ feed. ended (made name text feed.0) feed.1

abbrev behind_colon : List ℕ → List ℕ → Result (Line × List ℕ) ChunkedFault
behind_colon name bytes = run_at is_text_byte 0 1024 bytes >>= λ text. behind_text name text.0 text.1

abbrev behind_name : List ℕ → List ℕ → Result (Line × List ℕ) ChunkedFault
behind_name name bytes = word_at colon bytes >>= λ mark. behind_colon name mark.1

behind_text_steady : (name text : List ℕ) → Steady (λ bytes. behind_text name text bytes)
behind_text_steady name text =
    run_steady is_feed 0 1 (λ feed bytes. ended (made name text feed) bytes) 10 refl (omega arith) (λ feed. crlf_steady (made name text feed)) (λ feed. crlf_opens is_feed (made name text feed) refl)

behind_text_opens : (name text : List ℕ) → Opens is_text_byte (λ bytes. behind_text name text bytes)
behind_text_opens name text = record {
  first = 13;
  word = 10 ∷ [];
  value = made name text [];
  fails = refl;
  reads = ap (λ v. v >>= λ (feed : List ℕ × List ℕ). ended (made name text feed.0) feed.1) (run_is is_feed 0 1 [] 13 (10 ∷ []) refl refl (omega arith) (omega arith))
      ∙ ended_is (made name text []) [];
}

behind_colon_steady : (name : List ℕ) → Steady (λ bytes. behind_colon name bytes)
behind_colon_steady name = run_steady is_text_byte 0 1024 (λ text bytes. behind_text name text bytes) 32 refl (omega arith) (behind_text_steady name) (behind_text_opens name)

behind_colon_possible : (name : List ℕ) → Possible (λ bytes. behind_colon name bytes)
behind_colon_possible name = run_possible is_text_byte 0 1024 (λ text bytes. behind_text name text bytes) 32 refl (omega arith) (behind_text_opens name)

colon_opens : Opens is_name_byte (word_at colon)
unfolding word_at
colon_opens = record { first = 58; word = []; value = tt; fails = refl; reads = refl }

behind_name_steady : (name : List ℕ) → Steady (λ bytes. behind_name name bytes)
behind_name_steady name = both_steady (word_at colon) (λ u bytes. behind_colon name bytes) (word_steady colon) (λ u. behind_colon_steady name) (λ u. behind_colon_possible name)

behind_name_opens : (name : List ℕ) → Opens is_name_byte (λ bytes. behind_name name bytes)
behind_name_opens name = both_opens is_name_byte (word_at colon) (λ u bytes. behind_colon name bytes) (word_steady colon) colon_opens (λ u. behind_colon_possible name)

pub line_steady : Steady line_at
unfolding line_at
line_steady = run_steady is_name_byte 1 128 (λ name bytes. behind_name name bytes) 97 refl (omega arith) behind_name_steady behind_name_opens

pub line_possible : Possible line_at
unfolding line_at
line_possible = run_possible is_name_byte 1 128 (λ name bytes. behind_name name bytes) 97 refl (omega arith) behind_name_opens

-- no byte of a text stands behind a text
feed_starts : (feed more : List ℕ) → list_all is_feed feed ≡ true → (c : ℕ) × (cs : List ℕ) × (feed ++ (crlf ++ more) ≡ c ∷ cs) × (is_text_byte c ≡ false)
feed_starts [] more h = (13, 10 ∷ more, refl, refl)
feed_starts (b ∷ feed) more h =
    let is : b ≡ 10 = eqb-true b 10 (and_parts (is_feed b) (list_all is_feed feed) h).0 in
    (b, feed ++ (crlf ++ more), refl, ap is_text_byte is)

pub line_is : (line : Line) (more : List ℕ) → IsLine line → line_at (line_text line ++ more) ≡ Ok (line, more)
unfolding line_at line_text
line_is line more h =
    let ending = crlf ++ more in
    let at : (line.name ++ (58 ∷ (line.text ++ (line.feed ++ crlf)))) ++ more ≡ line.name ++ (58 ∷ (line.text ++ (line.feed ++ ending))) =
    append_assoc line.name (58 ∷ (line.text ++ (line.feed ++ crlf))) more
    ∙ ap (λ t. line.name ++ (58 ∷ t)) (append_assoc line.text (line.feed ++ crlf) more ∙ ap (λ t. line.text ++ t) (append_assoc line.feed crlf more)) in
    let fed : run_at is_feed 0 1 (line.feed ++ ending) ≡ Ok (line.feed, ending) = run_is is_feed 0 1 line.feed 13 (10 ∷ more) h.feed refl (omega arith) h.feed_short in
    let o = feed_starts line.feed more h.feed in
    let told : run_at is_text_byte 0 1024 (line.text ++ (line.feed ++ ending)) ≡ Ok (line.text, line.feed ++ ending) =
    ap (λ t. run_at is_text_byte 0 1024 (line.text ++ t)) o.2 ∙ run_is is_text_byte 0 1024 line.text o.0 o.1 h.text o.3 (omega arith) h.text_short
    ∙ ap (λ t. let r : Result (List ℕ × List ℕ) ChunkedFault = Ok (line.text, t) in r) (sym o.2) in
    ap (λ b. run_at is_name_byte 1 128 b >>= λ name. behind_name name.0 name.1) at
    ∙ ap (λ v. v >>= λ (name : List ℕ × List ℕ). behind_name name.0 name.1)
    (run_is is_name_byte 1 128 line.name 58 (line.text ++ (line.feed ++ ending)) h.name refl h.named h.name_short)
    ∙ ap (λ v. v >>= λ (u : Unit {0} × List ℕ). behind_colon line.name u.1) (word_is colon (line.text ++ (line.feed ++ ending)))
    ∙ ap (λ v. v >>= λ (text : List ℕ × List ℕ). behind_text line.name text.0 text.1) told
    ∙ ap (λ v. v >>= λ (feed : List ℕ × List ℕ). ended (made line.name line.text feed.0) feed.1) fed
    ∙ ended_is line more

pub line_ok : (bytes : List ℕ) (line : Line) (rest : List ℕ) → line_at bytes ≡ Ok (line, rest) → IsLine line × (bytes ≡ line_text line ++ rest)
unfolding line_at line_text
line_ok bytes line rest h =
    let x = bind_ok (run_at is_name_byte 1 128 bytes) (λ (name : List ℕ × List ℕ). behind_name name.0 name.1) (line, rest) h in
    let y = bind_ok (word_at colon x.0.1) (λ (u : Unit {0} × List ℕ). behind_colon x.0.0 u.1) (line, rest) x.2 in
    let z = bind_ok (run_at is_text_byte 0 1024 y.0.1) (λ (text : List ℕ × List ℕ). behind_text x.0.0 text.0 text.1) (line, rest) y.2 in
    let w = bind_ok (run_at is_feed 0 1 z.0.1) (λ (feed : List ℕ × List ℕ). ended (made x.0.0 z.0.0 feed.0) feed.1) (line, rest) z.2 in
    let e = ended_ok (made x.0.0 z.0.0 w.0.0) line w.0.1 rest w.2 in
    let name = run_ok is_name_byte 1 128 bytes x.0.0 x.0.1 x.1 in
    let text = run_ok is_text_byte 0 1024 y.0.1 z.0.0 z.0.1 z.1 in
    let feed = run_ok is_feed 0 1 z.0.1 w.0.0 w.0.1 w.1 in
    let is : IsLine (made x.0.0 z.0.0 w.0.0) = record {
      named = name.enough;
      name_short = name.within;
      name = name.passes;
      text_short = text.within;
      text = text.passes;
      feed_short = feed.within;
      feed = feed.passes;
    } in
    let at : bytes ≡ (x.0.0 ++ (58 ∷ (z.0.0 ++ (w.0.0 ++ crlf)))) ++ rest =
    name.at ∙ ap (λ r. x.0.0 ++ r) (word_ok colon x.0.1 y.0.0 y.0.1 y.1)
    ∙ ap (λ r. x.0.0 ++ (58 ∷ r)) (text.at ∙ ap (λ r. z.0.0 ++ r) (feed.at ∙ ap (λ r. w.0.0 ++ r) e.1 ∙ sym (append_assoc w.0.0 crlf rest)) ∙ sym (append_assoc z.0.0 (w.0.0 ++ crlf) rest))
    ∙ sym (append_assoc x.0.0 (58 ∷ (z.0.0 ++ (w.0.0 ++ crlf))) rest) in
    subst (λ (q : Line). IsLine q × (bytes ≡ (q.name ++ (58 ∷ (q.text ++ (q.feed ++ crlf)))) ++ rest)) e.0 (is, at)

-- ---- all lines

end_steady : Steady end_at
unfolding end_at
end_steady = crlf_steady []

-- a line, and more lines
abbrev one_more : ℕ → List ℕ → Result (List Pair × List ℕ) ChunkedFault
one_more most bytes = line_at bytes >>= λ line. lines_at most line.1 >>= λ lines. Ok (pair_of line.0 ∷ lines.0, lines.1)

-- nothing can be read of no byte
line_of_none : line_at [] ≡ Err IncompleteBody
unfolding line_at run_at
line_of_none = refl

module _ (most : ℕ) (steady : Steady (lines_at most)) (some : Possible (lines_at most)) where
  one_more_steady : Steady (λ bytes. one_more most bytes)
  one_more_steady =
      both_steady line_at (λ line bytes. lines_at most bytes >>= λ lines. Ok (pair_of line ∷ lines.0, lines.1)) line_steady
      (λ line. both_steady (lines_at most) (λ lines bytes. Ok (pair_of line ∷ lines, bytes)) steady (λ lines. pure_steady (pair_of line ∷ lines)) (λ lines. pure_possible (pair_of line ∷ lines)))
      (λ line. both_possible (lines_at most) (λ lines bytes. Ok (pair_of line ∷ lines, bytes)) steady some (λ lines. pure_possible (pair_of line ∷ lines)))

  -- by the first byte, one or the other
  abbrev by_first : List ℕ → Result (List Pair × List ℕ) ChunkedFault
  by_first bytes = cond (slice_index bytes 0 == 13) (end_at bytes) (one_more most bytes)

  none_reads : by_first [] ≡ Err IncompleteBody
  none_reads = ap (λ v. v >>= λ (line : Line × List ℕ). lines_at most line.1 >>= λ lines. Ok (pair_of line.0 ∷ lines.0, lines.1)) line_of_none

  taken_end : (b : ℕ) (bytes : List ℕ) → (b == 13) ≡ true → by_first (b ∷ bytes) ≡ end_at (b ∷ bytes)
  taken_end b bytes h = cond-true (b == 13) (end_at (b ∷ bytes)) (one_more most (b ∷ bytes)) h

  taken_line : (b : ℕ) (bytes : List ℕ) → (b == 13) ≡ false → by_first (b ∷ bytes) ≡ one_more most (b ∷ bytes)
  taken_line b bytes h = cond-false (b == 13) (end_at (b ∷ bytes)) (one_more most (b ∷ bytes)) h

  by_first_grows : (bytes more : List ℕ) (found : List Pair) (rest : List ℕ) → by_first bytes ≡ Ok (found, rest) → by_first (bytes ++ more) ≡ Ok (found, rest ++ more)
  by_first_grows [] more found rest h = let k = sym none_reads ∙ h in cc
  by_first_grows (b ∷ bytes) more found rest h =
      elim (chosen (b == 13) (end_at (b ∷ bytes)) (one_more most (b ∷ bytes)) (Ok (found, rest)) h) [
        | inl p ↦ taken_end b (bytes ++ more) p.0 ∙ end_steady.grows (b ∷ bytes) more found rest p.1
        | inr p ↦ taken_line b (bytes ++ more) p.0 ∙ one_more_steady.grows (b ∷ bytes) more found rest p.1
      ]

  by_first_dead : (bytes more : List ℕ) → by_first bytes ≡ Err InvalidRequest → by_first (bytes ++ more) ≡ Err InvalidRequest
  by_first_dead [] more h = let k = sym none_reads ∙ h in cc
  by_first_dead (b ∷ bytes) more h =
      elim (chosen (b == 13) (end_at (b ∷ bytes)) (one_more most (b ∷ bytes)) (Err InvalidRequest) h) [
        | inl p ↦ taken_end b (bytes ++ more) p.0 ∙ end_steady.dead (b ∷ bytes) more p.1
        | inr p ↦ taken_line b (bytes ++ more) p.0 ∙ one_more_steady.dead (b ∷ bytes) more p.1
      ]

  by_first_alive : (bytes : List ℕ) → by_first bytes ≡ Err IncompleteBody → (more : List ℕ) × (found : List Pair) × (by_first (bytes ++ more) ≡ Ok (found, []))
  unfolding end_at
  by_first_alive [] h = (crlf, [], ended_is [] [])
  by_first_alive (b ∷ bytes) h =
      elim (chosen (b == 13) (end_at (b ∷ bytes)) (one_more most (b ∷ bytes)) (Err IncompleteBody) h) [
        | inl p ↦ let m = end_steady.alive (b ∷ bytes) p.1 in (m.0, m.1, taken_end b (bytes ++ m.0) p.0 ∙ m.2)
        | inr p ↦ let m = one_more_steady.alive (b ∷ bytes) p.1 in (m.0, m.1, taken_line b (bytes ++ m.0) p.0 ∙ m.2)
      ]

  by_first_plain : (bytes : List ℕ) (e : ChunkedFault) → by_first bytes ≡ Err e → IsPlain e
  by_first_plain bytes e h =
      elim (chosen (slice_index bytes 0 == 13) (end_at bytes) (one_more most bytes) (Err e) h) [
        | inl p ↦ end_steady.plain bytes e p.1
        | inr p ↦ one_more_steady.plain bytes e p.1
      ]

  by_first_steady : Steady (λ bytes. by_first bytes)
  by_first_steady = record { grows = by_first_grows; dead = by_first_dead; alive = by_first_alive; plain = by_first_plain }

pub lines_possible : (most : ℕ) → Possible (lines_at most)
unfolding lines_at end_at
lines_possible zero = record { word = crlf; value = []; reads = ended_is [] [] }
lines_possible (suc most) = record { word = crlf; value = []; reads = ended_is [] [] }

pub lines_steady : (most : ℕ) → Steady (lines_at most)
unfolding lines_at
lines_steady zero = end_steady
lines_steady (suc most) = by_first_steady most (lines_steady most) (lines_possible most)

name_starts : (name tail more : List ℕ) → 1 ≤ length name → list_all is_name_byte name ≡ true → (slice_index ((name ++ tail) ++ more) 0 == 13) ≡ false
name_starts [] tail more h passes = absurd (omega arith)
name_starts (b ∷ name) tail more h passes =
    let is : is_name_byte b ≡ true = (and_parts (is_name_byte b) (list_all is_name_byte name) passes).0 in
    ne_eqb b 13 (λ e. let k : true ≡ false = sym is ∙ ap is_name_byte e in cc)

-- a line doesn't begin with CR
line_starts : (line : Line) (more : List ℕ) → IsLine line → (slice_index (line_text line ++ more) 0 == 13) ≡ false
unfolding line_text
line_starts line more h = name_starts line.name ((58 ∷ (line.text ++ (line.feed ++ crlf)))) more h.named h.name

pub lines_is : (most : ℕ) (lines : List Line) (more : List ℕ) → AllByRecursion IsLine lines → length lines ≤ most → lines_at most (lines_text lines ++ more) ≡ Ok (map pair_of lines, more)
unfolding lines_at end_at
lines_is zero [] more h few = ended_is [] more
lines_is (suc most) [] more h few = ended_is [] more
lines_is zero (line ∷ lines) more h few = absurd (omega arith)
lines_is (suc most) (line ∷ lines) more h few =
    let text = flat_map line_text lines in
    let at : ((line_text line ++ text) ++ crlf) ++ more ≡ line_text line ++ ((text ++ crlf) ++ more) =
    append_assoc (line_text line ++ text) crlf more ∙ append_assoc (line_text line) text (crlf ++ more) ∙ ap (λ t. line_text line ++ t) (sym (append_assoc text crlf more)) in
    ap (lines_at (suc most)) at
    ∙ cond-false (slice_index (line_text line ++ ((text ++ crlf) ++ more)) 0 == 13) (end_at (line_text line ++ ((text ++ crlf) ++ more))) (one_more most (line_text line ++ ((text ++ crlf) ++ more)))
    (line_starts line ((text ++ crlf) ++ more) h.0)
    ∙ ap (λ v. v >>= λ (l : Line × List ℕ). lines_at most l.1 >>= λ ls. Ok (pair_of l.0 ∷ ls.0, ls.1)) (line_is line ((text ++ crlf) ++ more) h.0)
    ∙ ap (λ v. v >>= λ (ls : List Pair × List ℕ). Ok (pair_of line ∷ ls.0, ls.1)) (lines_is most lines more h.1 (omega arith))

-- what was read: these lines
pub record Lined (most : ℕ) (bytes : List ℕ) (pairs : List Pair) (rest : List ℕ) : Type 0 where
  pub lines : List Line
  pub each : AllByRecursion IsLine lines
  pub few : length lines ≤ most
  pub are : pairs ≡ map pair_of lines
  pub at : bytes ≡ lines_text lines ++ rest

end_lined : (most : ℕ) (bytes : List ℕ) (pairs : List Pair) (rest : List ℕ) → end_at bytes ≡ Ok (pairs, rest) → Lined most bytes pairs rest
unfolding end_at
end_lined most bytes pairs rest h =
    let e = ended_ok [] pairs bytes rest h in
    record { lines = []; each = tt; few = omega arith; are = sym e.0; at = e.1 }

pub lines_ok : (most : ℕ) (bytes : List ℕ) (pairs : List Pair) (rest : List ℕ) → lines_at most bytes ≡ Ok (pairs, rest) → Lined most bytes pairs rest
unfolding lines_at
lines_ok zero bytes pairs rest h = end_lined zero bytes pairs rest h
lines_ok (suc most) bytes pairs rest h =
    elim (chosen (slice_index bytes 0 == 13) (end_at bytes) (one_more most bytes) (Ok (pairs, rest)) h) [
      | inl p ↦ end_lined (suc most) bytes pairs rest p.1
      | inr p ↦
          let x = bind_ok (line_at bytes) (λ (l : Line × List ℕ). lines_at most l.1 >>= λ ls. Ok (pair_of l.0 ∷ ls.0, ls.1)) (pairs, rest) p.1 in
          let y = bind_ok (lines_at most x.0.1) (λ (ls : List Pair × List ℕ). Ok (pair_of x.0.0 ∷ ls.0, ls.1)) (pairs, rest) x.2 in
          let same : ◌≡◌ {A = List Pair × List ℕ} (pair_of x.0.0 ∷ y.0.0, y.0.1) (pairs, rest) = ok_same (pair_of x.0.0 ∷ y.0.0, y.0.1) (pairs, rest) y.2 in
          let one = line_ok bytes x.0.0 x.0.1 x.1 in
          let others = lines_ok most x.0.1 y.0.0 y.0.1 y.1 in
          let text = flat_map line_text others.lines in
          let behind : y.0.1 ≡ rest = ap (λ (q : List Pair × List ℕ). q.1) same in
          record {
            lines = x.0.0 ∷ others.lines;
            each = (one.0, others.each);
            few = omega (arith, others.few);
            are = sym (ap (λ (q : List Pair × List ℕ). q.0) same) ∙ ap (λ ps. pair_of x.0.0 ∷ ps) others.are;
            at = one.1 ∙ ap (λ r. line_text x.0.0 ++ r) (others.at ∙ ap (λ r. (text ++ crlf) ++ r) behind ∙ append_assoc text crlf rest)
                ∙ sym (append_assoc (line_text x.0.0) text (crlf ++ rest)) ∙ sym (append_assoc (line_text x.0.0 ++ text) crlf rest);
          }
    ]
