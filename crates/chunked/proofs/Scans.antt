-- Words, runs of bytes of a class, and so many bytes, at the front of bytes.
use Rattle.std.proofs.Common.{◌≡◌, ℕ, ◌+◌, ◌-◌, ◌≤◌, ◌<◌, ◌⊎◌, inl, inr, Bool, true, false, ◌==◌, nat_lt, nat_eq, suc, List, [], ◌∷◌, ◌++◌, length, take, drop, replicate}
use Rattle.std.proofs.Common.{Result, Ok, Err, refl, sym, ◌∙◌, ap, arith, append_assoc, append-nil, take-append-drop, length-append, length-take, zero}
use Rattle.std.specs.List.{list_all, prefix_len}
use Rattle.std.proofs.lemmas.Bool.{cond-true, cond-false, cond_both, eqb-true, eqb-false, eq-eqb, ne_eqb, lt-ltb, le-ltb, ltb-true, ltb-false, and_from, and_parts}
use Rattle.std.proofs.lemmas.List.{take_at, drop_at, take_all, length-replicate}
use Rattle.std.proofs.lemmas.List.Folds.{prefix_len-append, list_all-append}
use Rattle.std.proofs.lemmas.List.Sums.{prefix_len-le-length}
use Rattle.chunked.specs.declared.fault.ChunkedFault.{ChunkedFault}
use Rattle.chunked.specs.declared.fault.ChunkedFault.TheVariants.{IncompleteBody, InvalidRequest}
use Rattle.chunked.specs.Reading.{◌>>=◌, word_at, run_at, block_at}
use Rattle.chunked.proofs.Chains.{ok_same, bind_ok, bind_err, chosen, guard_ok}
use Rattle.chunked.proofs.Steady.{Steady, IsPlain, Possible}

-- ---- words

pub word_is : (w more : List ℕ) → word_at w (w ++ more) ≡ Ok (tt, more)
unfolding word_at
word_is [] more = refl
word_is (c ∷ w) more = cond-true (c == c) (word_at w (w ++ more)) (Err InvalidRequest) (eq-eqb c c refl) ∙ word_is w more

pub word_ok : (w bytes : List ℕ) (u : Unit {0}) (rest : List ℕ) → word_at w bytes ≡ Ok (u, rest) → bytes ≡ w ++ rest
unfolding word_at
word_ok [] bytes u rest h = ap (λ (p : Unit {0} × List ℕ). p.1) (ok_same (tt, bytes) (u, rest) h)
word_ok (c ∷ w) [] u rest h = cc
word_ok (c ∷ w) (b ∷ bytes) u rest h =
    elim (chosen (b == c) (word_at w bytes) (Err InvalidRequest) (Ok (u, rest)) h) [
      | inl p ↦
          let same : b ≡ c = eqb-true b c p.0 in
          let more : bytes ≡ w ++ rest = word_ok w bytes u rest p.1 in
          cc
      | inr p ↦ let k = p.1 in cc
    ]

word_dead : (w bytes more : List ℕ) → word_at w bytes ≡ Err InvalidRequest → word_at w (bytes ++ more) ≡ Err InvalidRequest
unfolding word_at
word_dead [] bytes more h = cc
word_dead (c ∷ w) [] more h = cc
word_dead (c ∷ w) (b ∷ bytes) more h =
    elim (chosen (b == c) (word_at w bytes) (Err InvalidRequest) (Err InvalidRequest) h) [
      | inl p ↦ cond-true (b == c) (word_at w (bytes ++ more)) (Err InvalidRequest) p.0 ∙ word_dead w bytes more p.1
      | inr p ↦ cond-false (b == c) (word_at w (bytes ++ more)) (Err InvalidRequest) p.0
    ]

word_alive : (w bytes : List ℕ) → word_at w bytes ≡ Err IncompleteBody → (more : List ℕ) × (word_at w (bytes ++ more) ≡ Ok (tt, []))
unfolding word_at
word_alive [] bytes h = cc
word_alive (c ∷ w) [] h = (c ∷ w, ap (word_at (c ∷ w)) (sym (append-nil (c ∷ w))) ∙ word_is (c ∷ w) [])
word_alive (c ∷ w) (b ∷ bytes) h =
    elim (chosen (b == c) (word_at w bytes) (Err InvalidRequest) (Err IncompleteBody) h) [
      | inl p ↦ let m = word_alive w bytes p.1 in (m.0, cond-true (b == c) (word_at w (bytes ++ m.0)) (Err InvalidRequest) p.0 ∙ m.1)
      | inr p ↦ let k = p.1 in cc
    ]

word_plain : (w bytes : List ℕ) (e : ChunkedFault) → word_at w bytes ≡ Err e → IsPlain e
unfolding word_at
word_plain [] bytes e h = cc
word_plain (c ∷ w) [] e h = let same : IncompleteBody ≡ e = cc in inl (sym same)
word_plain (c ∷ w) (b ∷ bytes) e h =
    elim (chosen (b == c) (word_at w bytes) (Err InvalidRequest) (Err e) h) [
      | inl p ↦ word_plain w bytes e p.1
      | inr p ↦ let k = p.1 in let same : InvalidRequest ≡ e = cc in inr (sym same)
    ]

pub word_steady : (w : List ℕ) → Steady (word_at w)
word_steady w = record {
  grows = λ bytes more u rest h.
      let at = word_ok w bytes u rest h in
      ap (λ b. word_at w (b ++ more)) at ∙ ap (word_at w) (append_assoc w rest more) ∙ word_is w (rest ++ more);
  dead = word_dead w;
  alive = λ bytes h. let m = word_alive w bytes h in (m.0, tt, m.1);
  plain = word_plain w;
}

pub word_possible : (w : List ℕ) → Possible (word_at w)
word_possible w = record { word = w; value = tt; reads = ap (word_at w) (sym (append-nil w)) ∙ word_is w [] }

-- ---- so many bytes

pub block_is : (n : ℕ) (x rest : List ℕ) → length x ≡ n → block_at n (x ++ rest) ≡ Ok (x, rest)
unfolding block_at
block_is n x rest h =
    let enough : n ≤ length (x ++ rest) = omega (arith, length-append x rest, h) in
    let front : take n (x ++ rest) ≡ x = take_at x rest n h in
    let behind : drop n (x ++ rest) ≡ rest = drop_at x rest n h in
    cond-false (nat_lt (length (x ++ rest)) n) (Err IncompleteBody) (Ok (take n (x ++ rest), drop n (x ++ rest))) (le-ltb (length (x ++ rest)) n enough)
    ∙ cc

pub block_ok : (n : ℕ) (bytes x rest : List ℕ) → block_at n bytes ≡ Ok (x, rest) → (length x ≡ n) × (bytes ≡ x ++ rest)
unfolding block_at
block_ok n bytes x rest h =
    let g = guard_ok (nat_lt (length bytes) n) IncompleteBody (Ok (take n bytes, drop n bytes)) (x, rest) h in
    let enough : n ≤ length bytes = ltb-false (length bytes) n g.0 in
    let same : ◌≡◌ {A = List ℕ × List ℕ} (take n bytes, drop n bytes) (x, rest) = ok_same (take n bytes, drop n bytes) (x, rest) g.1 in
    let front : take n bytes ≡ x = ap (λ (p : List ℕ × List ℕ). p.0) same in
    let behind : drop n bytes ≡ rest = ap (λ (p : List ℕ × List ℕ). p.1) same in
    let count : length (take n bytes) ≡ n = omega (arith, length-take n bytes, enough) in
    (sym (ap length front) ∙ count, sym (take-append-drop n bytes) ∙ ap (λ f. f ++ drop n bytes) front ∙ ap (λ r. x ++ r) behind)

pub block_steady : (n : ℕ) → Steady (block_at n)
unfolding block_at
block_steady n = record {
  grows = λ bytes more x rest h.
      let k = block_ok n bytes x rest h in
      ap (λ b. block_at n (b ++ more)) k.1 ∙ ap (block_at n) (append_assoc x rest more) ∙ block_is n x (rest ++ more) k.0;
  dead = λ bytes more h. elim (chosen (nat_lt (length bytes) n) (Err IncompleteBody) (Ok (take n bytes, drop n bytes)) (Err InvalidRequest) h) [
    | inl p ↦ let k = p.1 in cc
    | inr p ↦ let k = p.1 in cc
  ];
  alive = λ bytes h. elim (chosen (nat_lt (length bytes) n) (Err IncompleteBody) (Ok (take n bytes, drop n bytes)) (Err IncompleteBody) h) [
    | inl p ↦
        let short : length bytes < n = ltb-true (length bytes) n p.0 in
        let more = replicate (n - length bytes) 0 in
        let count : length (bytes ++ more) ≡ n = omega (arith, length-append bytes more, length-replicate {A = ℕ} (n - length bytes) 0, short) in
        (more, bytes ++ more, ap (block_at n) (sym (append-nil (bytes ++ more))) ∙ block_is n (bytes ++ more) [] count)
    | inr p ↦ let k = p.1 in cc
  ];
  plain = λ bytes e h. elim (chosen (nat_lt (length bytes) n) (Err IncompleteBody) (Ok (take n bytes, drop n bytes)) (Err e) h) [
    | inl p ↦ let k = p.1 in let same : IncompleteBody ≡ e = cc in inl (sym same)
    | inr p ↦ let k = p.1 in cc
  ];
}

pub block_possible : (n : ℕ) → Possible (block_at n)
block_possible n = record {
  word = replicate n 0;
  value = replicate n 0;
  reads = ap (block_at n) (sym (append-nil (replicate n 0))) ∙ block_is n (replicate n 0) [] (length-replicate {A = ℕ} n 0);
}

-- ---- runs

one_more : (n : ℕ) → 1 + n ≡ suc n
one_more n = omega arith

run_front : (test : ℕ → Bool) (bytes : List ℕ) → list_all test (take (prefix_len test bytes) bytes) ≡ true
run_front test [] = refl
run_front test (b ∷ bytes) =
    cond_both (test b) (1 + prefix_len test bytes) 0 (λ k. list_all test (take k (b ∷ bytes)) ≡ true)
    (λ yes. rw (one_more (prefix_len test bytes)) (and_from (test b) (list_all test (take (prefix_len test bytes) bytes)) yes (run_front test bytes)))
    (λ no. refl)

-- the run goes to the end, or another byte stands behind it
run_end : (test : ℕ → Bool) (bytes : List ℕ)
    → (prefix_len test bytes ≡ length bytes) ⊎ ((c : ℕ) × (cs : List ℕ) × (drop (prefix_len test bytes) bytes ≡ c ∷ cs) × (test c ≡ false))
run_end test [] = inl refl
run_end test (b ∷ bytes) =
    cond_both (test b) (1 + prefix_len test bytes) 0
    (λ k. (k ≡ length (b ∷ bytes)) ⊎ ((c : ℕ) × (cs : List ℕ) × (drop k (b ∷ bytes) ≡ c ∷ cs) × (test c ≡ false)))
    (λ yes. elim (run_end test bytes) [
      | inl e ↦ inl (omega (arith, e))
      | inr s ↦ inr (s.0, s.1, rw (one_more (prefix_len test bytes)) s.2, s.3)
    ])
    (λ no. inr (b, bytes, refl, no))

pub run_length : (test : ℕ → Bool) (run : List ℕ) (c : ℕ) (cs : List ℕ) → list_all test run ≡ true → test c ≡ false → prefix_len test (run ++ c ∷ cs) ≡ length run
run_length test [] c cs passes fails = cond-false (test c) (1 + prefix_len test cs) 0 fails
run_length test (r ∷ run) c cs passes fails =
    let p = and_parts (test r) (list_all test run) passes in
    cond-true (test r) (1 + prefix_len test (run ++ c ∷ cs)) 0 p.0 ∙ omega (arith, run_length test run c cs p.1 fails)

-- what a run is
pub record Ran (test : ℕ → Bool) (least most : ℕ) (bytes run rest : List ℕ) : Type 0 where
  pub at : bytes ≡ run ++ rest
  pub passes : list_all test run ≡ true
  pub enough : least ≤ length run
  pub within : length run ≤ most
  pub next : ℕ
  pub more : List ℕ
  pub behind : rest ≡ next ∷ more
  pub fails : test next ≡ false

module _ (test : ℕ → Bool) (least most : ℕ) where
  pub run_is : (run : List ℕ) (c : ℕ) (cs : List ℕ) → list_all test run ≡ true → test c ≡ false → least ≤ length run → length run ≤ most
      → run_at test least most (run ++ c ∷ cs) ≡ Ok (run, c ∷ cs)
  unfolding run_at
  run_is run c cs passes fails enough within =
      let bytes = run ++ c ∷ cs in
      let n = prefix_len test bytes in
      let is : prefix_len test (run ++ c ∷ cs) ≡ length run = run_length test run c cs passes fails in
      let count : length (run ++ c ∷ cs) ≡ length run + length (c ∷ cs) = length-append run (c ∷ cs) in
      let front : take n bytes ≡ run = take_at run (c ∷ cs) n (sym is) in
      let behind : drop n bytes ≡ c ∷ cs = drop_at run (c ∷ cs) n (sym is) in
      let short : n ≤ most = omega (arith, is, within) in
      let open_end : n ≡ length bytes → ⊥ = λ e. omega (arith, is, count, e) in
      let long : least ≤ n = omega (arith, is, enough) in
      cond-false (nat_lt most n) (Err InvalidRequest) _ (le-ltb most n short)
      ∙ cond-false (nat_eq n (length bytes)) (Err IncompleteBody) _ (ne_eqb n (length bytes) open_end)
      ∙ cond-false (nat_lt n least) (Err InvalidRequest) (Ok (take n bytes, drop n bytes)) (le-ltb n least long) ∙ cc

  pub run_ok : (bytes run rest : List ℕ) → run_at test least most bytes ≡ Ok (run, rest) → Ran test least most bytes run rest
  unfolding run_at
  run_ok bytes run rest h =
      let n = prefix_len test bytes in
      let first = guard_ok (nat_lt most n) InvalidRequest _ (run, rest) h in
      let second = guard_ok (nat_eq n (length bytes)) IncompleteBody _ (run, rest) first.1 in
      let third = guard_ok (nat_lt n least) InvalidRequest (Ok (take n bytes, drop n bytes)) (run, rest) second.1 in
      let same : ◌≡◌ {A = List ℕ × List ℕ} (take n bytes, drop n bytes) (run, rest) = ok_same (take n bytes, drop n bytes) (run, rest) third.1 in
      let front : take n bytes ≡ run = ap (λ (p : List ℕ × List ℕ). p.0) same in
      let behind : drop n bytes ≡ rest = ap (λ (p : List ℕ × List ℕ). p.1) same in
      let inside : n ≤ length bytes = prefix_len-le-length test bytes in
      let count : length run ≡ n = sym (ap length front) ∙ omega (arith, length-take n bytes, inside) in
      let short : n ≤ most = ltb-false most n first.0 in
      let long : least ≤ n = ltb-false n least third.0 in
      let all : list_all test run ≡ true = ap (list_all test) (sym front) ∙ run_front test bytes in
      let whole : bytes ≡ run ++ rest = sym (take-append-drop n bytes) ∙ ap (λ f. f ++ drop n bytes) front ∙ ap (λ r. run ++ r) behind in
      elim (run_end test bytes) [
        | inl e ↦ absurd (eqb-false n (length bytes) second.0 e)
        | inr s ↦ record {
          at = whole;
          passes = all;
          enough = omega (arith, count, long);
          within = omega (arith, count, short);
          next = s.0;
          more = s.1;
          behind = sym behind ∙ s.2;
          fails = s.3;
        }
      ]

  run_long : (bytes : List ℕ) → most < prefix_len test bytes → run_at test least most bytes ≡ Err InvalidRequest
  unfolding run_at
  run_long bytes h = cond-true (nat_lt most (prefix_len test bytes)) (Err InvalidRequest) _ (lt-ltb most (prefix_len test bytes) h)

  run_short : (bytes : List ℕ) → prefix_len test bytes ≤ most → (prefix_len test bytes ≡ length bytes → ⊥) → prefix_len test bytes < least → run_at test least most bytes ≡ Err InvalidRequest
  unfolding run_at
  run_short bytes short apart few =
      let n = prefix_len test bytes in
      cond-false (nat_lt most n) (Err InvalidRequest) _ (le-ltb most n short)
      ∙ cond-false (nat_eq n (length bytes)) (Err IncompleteBody) _ (ne_eqb n (length bytes) apart)
      ∙ cond-true (nat_lt n least) (Err InvalidRequest) (Ok (take n bytes, drop n bytes)) (lt-ltb n least few)

  longer : (bytes more : List ℕ) → prefix_len test bytes ≤ prefix_len test (bytes ++ more)
  longer bytes more =
      let n = prefix_len test bytes in
      let inside : n ≤ length bytes = prefix_len-le-length test bytes in
      rw (prefix_len-append test bytes more)
      (cond_both (nat_eq n (length bytes)) (length bytes + prefix_len test more) n (λ k. n ≤ k) (λ yes. omega (arith, inside)) (λ no. omega arith))

  pub run_dead : (bytes more : List ℕ) → run_at test least most bytes ≡ Err InvalidRequest → run_at test least most (bytes ++ more) ≡ Err InvalidRequest
  unfolding run_at
  run_dead bytes more h =
      let n = prefix_len test bytes in
      elim (chosen (nat_lt most n) (Err InvalidRequest) _ (Err InvalidRequest) h) [
        | inl p ↦ run_long (bytes ++ more) (let past : most < n = ltb-true most n p.0 in omega (arith, past, longer bytes more))
        | inr p ↦
            elim (chosen (nat_eq n (length bytes)) (Err IncompleteBody) _ (Err InvalidRequest) p.1) [
              | inl q ↦ let k = q.1 in cc
              | inr q ↦
                  elim (chosen (nat_lt n least) (Err InvalidRequest) (Ok (take n bytes, drop n bytes)) (Err InvalidRequest) q.1) [
                    | inl s ↦
                        let same : prefix_len test (bytes ++ more) ≡ n = prefix_len-append test bytes more ∙ cond-false (nat_eq n (length bytes)) (length bytes + prefix_len test more) n q.0 in
                        let inside : n ≤ length bytes = prefix_len-le-length test bytes in
                        let apart : n ≡ length bytes → ⊥ = eqb-false n (length bytes) q.0 in
                        let below : n < length bytes = omega (arith, inside, apart) in
                        let few : n < least = ltb-true n least s.0 in
                        let short : n ≤ most = ltb-false most n p.0 in
                        run_short (bytes ++ more) (omega (arith, same, short)) (λ e. omega (arith, same, below, length-append bytes more, e)) (omega (arith, same, few))
                    | inr s ↦ let k = s.1 in cc
                  ]
            ]
      ]

  -- where bytes are missing, all that are there pass
  pub run_open : (bytes : List ℕ) → run_at test least most bytes ≡ Err IncompleteBody → (list_all test bytes ≡ true) × (length bytes ≤ most)
  unfolding run_at
  run_open bytes h =
      let n = prefix_len test bytes in
      elim (chosen (nat_lt most n) (Err InvalidRequest) _ (Err IncompleteBody) h) [
        | inl p ↦ let k = p.1 in cc
        | inr p ↦
            elim (chosen (nat_eq n (length bytes)) (Err IncompleteBody) _ (Err IncompleteBody) p.1) [
              | inl q ↦
                  let is : n ≡ length bytes = eqb-true n (length bytes) q.0 in
                  let short : n ≤ most = ltb-false most n p.0 in
                  let all : take n bytes ≡ bytes = take_all n bytes (omega (arith, is)) in
                  (ap (list_all test) (sym all) ∙ run_front test bytes, omega (arith, is, short))
              | inr q ↦
                  elim (chosen (nat_lt n least) (Err InvalidRequest) (Ok (take n bytes, drop n bytes)) (Err IncompleteBody) q.1) [
                    | inl s ↦ let k = s.1 in cc
                    | inr s ↦ let k = s.1 in cc
                  ]
            ]
      ]

  pub run_plain : (bytes : List ℕ) (e : ChunkedFault) → run_at test least most bytes ≡ Err e → IsPlain e
  unfolding run_at
  run_plain bytes e h =
      let n = prefix_len test bytes in
      elim (chosen (nat_lt most n) (Err InvalidRequest) _ (Err e) h) [
        | inl p ↦ let k = p.1 in let same : InvalidRequest ≡ e = cc in inr (sym same)
        | inr p ↦
            elim (chosen (nat_eq n (length bytes)) (Err IncompleteBody) _ (Err e) p.1) [
              | inl q ↦ let k = q.1 in let same : IncompleteBody ≡ e = cc in inl (sym same)
              | inr q ↦
                  elim (chosen (nat_lt n least) (Err InvalidRequest) (Ok (take n bytes, drop n bytes)) (Err e) q.1) [
                    | inl s ↦ let k = s.1 in let same : InvalidRequest ≡ e = cc in inr (sym same)
                    | inr s ↦ let k = s.1 in cc
                  ]
            ]
      ]

pub all_filled : (test : ℕ → Bool) (n c : ℕ) → test c ≡ true → list_all test (replicate n c) ≡ true
all_filled test zero c h = refl
all_filled test (suc n) c h = and_from (test c) (list_all test (replicate n c)) h (all_filled test n c h)

-- a reader of which some spelling begins with a byte that fails the test
pub record Opens {B : Type 0} (test : ℕ → Bool) (read : List ℕ → Result (B × List ℕ) ChunkedFault) : Type 0 where
  pub first : ℕ
  pub word : List ℕ
  pub value : B
  pub fails : test first ≡ false
  pub reads : read (first ∷ word) ≡ Ok (value, [])

-- a run, and a reader behind it
module _ {B : Type 0} (test : ℕ → Bool) (least most : ℕ) (s : List ℕ → List ℕ → Result (B × List ℕ) ChunkedFault) where
  grown : (bytes more run rest : List ℕ) → run_at test least most bytes ≡ Ok (run, rest) → run_at test least most (bytes ++ more) ≡ Ok (run, rest ++ more)
  grown bytes more run rest h =
      let p = run_ok test least most bytes run rest h in
      let behind : rest ++ more ≡ p.next ∷ (p.more ++ more) = ap (λ r. r ++ more) p.behind in
      let at : bytes ++ more ≡ run ++ p.next ∷ (p.more ++ more) = ap (λ b. b ++ more) p.at ∙ append_assoc run rest more ∙ ap (λ r. run ++ r) behind in
      ap (run_at test least most) at ∙ run_is test least most run p.next (p.more ++ more) p.passes p.fails p.enough p.within ∙ cc

  pub run_steady : (c : ℕ) → test c ≡ true → least ≤ most → ((run : List ℕ) → Steady (s run)) → ((run : List ℕ) → Opens test (s run))
      → Steady (λ bytes. run_at test least most bytes >>= λ x. s x.0 x.1)
  run_steady c fill room q opens = record {
    grows = λ bytes more found rest h.
        let x = bind_ok (run_at test least most bytes) (λ x. s x.0 x.1) (found, rest) h in
        ap (λ v. v >>= λ x. s x.0 x.1) (grown bytes more x.0.0 x.0.1 x.1) ∙ (q x.0.0).grows x.0.1 more found rest x.2;
    dead = λ bytes more h.
        elim (bind_err (run_at test least most bytes) (λ x. s x.0 x.1) InvalidRequest h) [
          | inl e ↦ ap (λ v. v >>= λ x. s x.0 x.1) (run_dead test least most bytes more e)
          | inr x ↦ ap (λ v. v >>= λ x. s x.0 x.1) (grown bytes more x.0.0 x.0.1 x.1) ∙ (q x.0.0).dead x.0.1 more x.2
        ];
    alive = λ bytes h.
        elim (bind_err (run_at test least most bytes) (λ x. s x.0 x.1) IncompleteBody h) [
          | inl e ↦
              let o = run_open test least most bytes e in
              let k = least - length bytes in
              let run = bytes ++ replicate k c in
              let g = opens run in
              let passes : list_all test run ≡ true = list_all-append test bytes (replicate k c) ∙ and_from (list_all test bytes) (list_all test (replicate k c)) o.0 (all_filled test k c fill) in
              let count : length run ≡ length bytes + k = length-append bytes (replicate k c) ∙ ap (λ n. length bytes + n) (length-replicate k c) in
              let enough : least ≤ length run = omega (arith, count) in
              let within : length run ≤ most = omega (arith, count, o.1, room) in (
                replicate k c ++ g.first ∷ g.word,
                g.value,
                ap (λ b. run_at test least most b >>= λ x. s x.0 x.1) (sym (append_assoc bytes (replicate k c) (g.first ∷ g.word)))
                    ∙ ap (λ v. v >>= λ x. s x.0 x.1) (run_is test least most run g.first g.word passes g.fails enough within) ∙ g.reads,
              )
          | inr x ↦
              let g = (q x.0.0).alive x.0.1 x.2 in
              (g.0, g.1, ap (λ v. v >>= λ x. s x.0 x.1) (grown bytes g.0 x.0.0 x.0.1 x.1) ∙ g.2)
        ];
    plain = λ bytes e h.
        elim (bind_err (run_at test least most bytes) (λ x. s x.0 x.1) e h) [
          | inl k ↦ run_plain test least most bytes e k
          | inr x ↦ (q x.0.0).plain x.0.1 e x.2
        ];
  }

  -- a run of the least length begins some spelling
  pub run_possible : (c : ℕ) → test c ≡ true → least ≤ most → ((run : List ℕ) → Opens test (s run)) → Possible (λ bytes. run_at test least most bytes >>= λ x. s x.0 x.1)
  run_possible c fill room opens =
      let run = replicate least c in
      let g = opens run in
      record {
        word = run ++ g.first ∷ g.word;
        value = g.value;
        reads = ap (λ v. v >>= λ x. s x.0 x.1) (run_is test least most run g.first g.word (all_filled test least c fill) g.fails
            (omega (arith, length-replicate {A = ℕ} least c)) (omega (arith, length-replicate {A = ℕ} least c, room)))
            ∙ g.reads;
      }
