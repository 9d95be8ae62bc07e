-- What the function that reads a body gives means what `Chunked` says.
use Rattle.std.proofs.Common.{◌≡◌, ℕ, ◌≤◌, ◌<◌, inl, inr, Bool, true, false, cond, nat_eq, List, [], ◌∷◌, ◌++◌, length, map, Result, Ok, Err, refl, sym, ◌∙◌, ap, subst, arith, append_assoc, append-nil, length-append}
use Rattle.std.specs.Prelude.{flat_map}
use Rattle.std.proofs.lemmas.Bool.{cases_Bool, cond-true, eq-eqb, eqb-true, eqb-false}
use Rattle.gate_base.specs.declared.page.Pair.{Pair}
use Rattle.chunked.specs.declared.body.Decoded.{Decoded}
use Rattle.chunked.specs.declared.fault.ChunkedFault.{ChunkedFault}
use Rattle.chunked.specs.declared.fault.ChunkedFault.TheVariants.{IncompleteBody, InvalidRequest, SignatureDiffers, Memory}
use Rattle.chunked.specs.declared.form.ChunkedForm.{ChunkedForm}
use Rattle.sigv4.specs.declared.pieces.Seal.{Seal}
use Rattle.chunked.specs.Chunked.{Chunked, HasWrongChunk, HasWrongSignature, IsFront, LacksSignatureLine, SaysBytes, IsInvalid, IsIncomplete, Decodes}
use Rattle.chunked.specs.Forms.{is_signed}
use Rattle.chunked.specs.Reading.{◌>>=◌, Tail, tail_at, ended_by, finished, sealed_by, trailers_of, gathered_at, decoded_of, Gives}
use Rattle.chunked.specs.Sent.{Sent, IsSent, chunk_text, lines_text, sent_text, bytes_of, pair_of}
use Rattle.chunked.specs.Signatures.{have_signatures_due, has_signature_line, has_trailer_signature_due, trailers_in}
use Rattle.chunked.proofs.Chains.{ok_same}
use Rattle.chunked.proofs.Tails.{tail_grows, tail_dead, tail_is, tail_wrong, Tailed, tail_ok, tail_differs, tail_open, front_tailed, few_chunks, gathers_is}

module _ (form : ChunkedForm) (seal : Seal) where
  abbrev signed : Bool
  signed = is_signed form

  -- reading from the head's signature on, with room for so many chunks
  abbrev read : ℕ → List ℕ → Result (Tail × List ℕ) ChunkedFault
  read n bytes = tail_at n form seal seal.signature bytes

  abbrev right : Sent → Bool
  right sent = have_signatures_due signed seal seal.signature (sent.chunks ++ sent.last ∷ [])

  abbrev tail_of : Sent → Tail
  tail_of sent = (sent.last.signature, map pair_of sent.lines)

  -- the text of a body with bytes behind it, chunk by chunk
  regroup : (sent : Sent) (rest : List ℕ) → sent_text form sent ++ rest
      ≡ flat_map (chunk_text signed) sent.chunks ++ (chunk_text signed sent.last ++ (lines_text sent.lines ++ rest))
  regroup sent rest =
      let texts = flat_map (chunk_text signed) sent.chunks in
      append_assoc texts (chunk_text signed sent.last ++ lines_text sent.lines) rest
      ∙ ap (λ b. texts ++ b) (append_assoc (chunk_text signed sent.last) (lines_text sent.lines) rest)

  room_for : (sent : Sent) (rest bytes : List ℕ) → IsSent form sent → bytes ≡ sent_text form sent ++ rest → length sent.chunks < length bytes
  room_for sent rest bytes formed at =
      let few = few_chunks form seal sent.chunks sent.last (lines_text sent.lines ++ rest) formed.chunks formed.last.formed in
      let same : length bytes ≡ length (flat_map (chunk_text signed) sent.chunks ++ (chunk_text signed sent.last ++ (lines_text sent.lines ++ rest))) = ap length (at ∙ regroup sent rest) in
      omega (arith, few, same)

  -- a body whose signatures are due is read, and one whose aren't isn't
  reads_right : (sent : Sent) (rest bytes : List ℕ) → IsSent form sent → bytes ≡ sent_text form sent ++ rest → right sent ≡ true → read (length bytes) bytes ≡ Ok (tail_of sent, rest)
  reads_right sent rest bytes formed at is =
      ap (read (length bytes)) (at ∙ regroup sent rest)
      ∙ tail_is form seal sent.chunks sent.last sent.lines (length bytes) seal.signature rest formed.chunks formed.last formed.lines formed.few (room_for sent rest bytes formed at) is

  reads_wrong : (sent : Sent) (rest bytes : List ℕ) → IsSent form sent → bytes ≡ sent_text form sent ++ rest → right sent ≡ false → read (length bytes) bytes ≡ Err SignatureDiffers
  reads_wrong sent rest bytes formed at is =
      ap (read (length bytes)) (at ∙ regroup sent rest)
      ∙ tail_wrong form seal sent.chunks sent.last (length bytes) seal.signature (lines_text sent.lines ++ rest) formed.chunks formed.last.formed (room_for sent rest bytes formed at) is

  -- a body of the form is read or its signatures differ
  data Sees (sent : Sent) (rest bytes : List ℕ) : Type 0 where
    whole : read (length bytes) bytes ≡ Ok (tail_of sent, rest) → Sees sent rest bytes
    wrong : read (length bytes) bytes ≡ Err SignatureDiffers → Sees sent rest bytes

  sees : (sent : Sent) (rest bytes : List ℕ) → IsSent form sent → bytes ≡ sent_text form sent ++ rest → Sees sent rest bytes
  sees sent rest bytes formed at =
      elim (cases_Bool (right sent)) [
        | inl is ↦ whole (reads_right sent rest bytes formed at is)
        | inr is ↦ wrong (reads_wrong sent rest bytes formed at is)
      ]

  -- bytes that are read so hold no wrong signature
  chunk_not : (bytes : List ℕ) → HasWrongChunk form seal bytes → read (length bytes) bytes ≡ Err SignatureDiffers
  chunk_not bytes w =
      let few = few_chunks form seal w.chunks w.last w.rest w.full w.formed in
      let same = ap length w.at in
      ap (read (length bytes)) w.at ∙ tail_wrong form seal w.chunks w.last (length bytes) seal.signature w.rest w.full w.formed (omega (arith, few, same)) w.wrong

  same_tail : (a b : Tail) (x y : List ℕ) → (let r : Result (Tail × List ℕ) ChunkedFault = Ok (a, x) in r) ≡ Ok (b, y) → (a ≡ b) × (x ≡ y)
  same_tail a b x y h =
      let same : ◌≡◌ {A = Tail × List ℕ} (a, x) (b, y) = ok_same (a, x) (b, y) h in
      (ap (λ (q : Tail × List ℕ). q.0) same, ap (λ (q : Tail × List ℕ). q.1) same)

  abbrev has_line : Tail → Bool
  has_line tail = has_signature_line form tail.1

  abbrev is_due : Tail → Bool
  is_due tail = has_trailer_signature_due form seal tail.0 tail.1

  not_wrong_err : (bytes : List ℕ) (e : ChunkedFault) → read (length bytes) bytes ≡ Err e → (e ≡ SignatureDiffers → ⊥) → HasWrongSignature form seal bytes → ⊥
  not_wrong_err bytes e h apart (inl w) = let k = sym h ∙ chunk_not bytes w in apart (cc)
  not_wrong_err bytes e h apart (inr w) =
      elim (sees w.sent w.rest bytes w.formed w.at) [
        | whole k ↦ let c = sym h ∙ k in cc
        | wrong k ↦ let c = sym h ∙ k in apart (cc)
      ]

  not_wrong_ok : (bytes : List ℕ) (tail : Tail) (rest : List ℕ) → read (length bytes) bytes ≡ Ok (tail, rest) → (has_line tail ≡ true → is_due tail ≡ false → ⊥) → HasWrongSignature form seal bytes → ⊥
  not_wrong_ok bytes tail rest h apart (inl w) = let k = sym h ∙ chunk_not bytes w in cc
  not_wrong_ok bytes tail rest h apart (inr w) =
      elim (sees w.sent w.rest bytes w.formed w.at) [
        | whole k ↦
            let same = (same_tail tail (tail_of w.sent) rest w.rest (sym h ∙ k)).0 in
            apart (ap has_line same ∙ w.sealed) (ap is_due same ∙ w.wrong)
        | wrong k ↦ let c = sym h ∙ k in cc
      ]

  -- what can't be read isn't the front of a body
  not_front_dead : (bytes : List ℕ) → read (length bytes) bytes ≡ Err InvalidRequest → IsFront form bytes → ⊥
  not_front_dead bytes h f =
      let longer : length bytes ≤ length (bytes ++ f.more) = omega (arith, length-append bytes f.more) in
      let dead = tail_dead form seal (length bytes) (length (bytes ++ f.more)) seal.signature bytes f.more longer h in
      elim (sees f.sent [] (bytes ++ f.more) f.formed (f.at ∙ sym (append-nil (sent_text form f.sent)))) [
        | whole k ↦ let c = sym dead ∙ k in cc
        | wrong k ↦ let c = sym dead ∙ k in cc
      ]

  -- nor what has more behind the end
  not_front_past : (bytes : List ℕ) (tail : Tail) (b : ℕ) (rest : List ℕ) → read (length bytes) bytes ≡ Ok (tail, b ∷ rest) → IsFront form bytes → ⊥
  not_front_past bytes tail b rest h f =
      let longer : length bytes ≤ length (bytes ++ f.more) = omega (arith, length-append bytes f.more) in
      let grown = tail_grows form seal (length bytes) (length (bytes ++ f.more)) seal.signature bytes f.more tail (b ∷ rest) longer h in
      elim (sees f.sent [] (bytes ++ f.more) f.formed (f.at ∙ sym (append-nil (sent_text form f.sent)))) [
        | whole k ↦ let c : b ∷ (rest ++ f.more) ≡ [] = (same_tail tail (tail_of f.sent) (b ∷ (rest ++ f.more)) [] (sym grown ∙ k)).1 in cc
        | wrong k ↦ let c = sym grown ∙ k in cc
      ]

  not_lacking_err : (bytes : List ℕ) → read (length bytes) bytes ≡ Err IncompleteBody → LacksSignatureLine form bytes → ⊥
  not_lacking_err bytes h l =
      elim (sees l.sent [] bytes l.formed (l.at ∙ sym (append-nil (sent_text form l.sent)))) [
        | whole k ↦ let c = sym h ∙ k in cc
        | wrong k ↦ let c = sym h ∙ k in cc
      ]

  not_lacking_ok : (bytes : List ℕ) (tail : Tail) (rest : List ℕ) → read (length bytes) bytes ≡ Ok (tail, rest) → has_line tail ≡ true → LacksSignatureLine form bytes → ⊥
  not_lacking_ok bytes tail rest h has l =
      elim (sees l.sent [] bytes l.formed (l.at ∙ sym (append-nil (sent_text form l.sent)))) [
        | whole k ↦
            let same = (same_tail tail (tail_of l.sent) rest [] (sym h ∙ k)).0 in
            let c : true ≡ false = sym has ∙ ap has_line same ∙ l.lacks in
            cc
        | wrong k ↦ let c = sym h ∙ k in cc
      ]

  abbrev gathered : List ℕ → List ℕ
  gathered bytes = gathered_at (length bytes) signed bytes

  gathers : (sent : Sent) (bytes : List ℕ) → IsSent form sent → bytes ≡ sent_text form sent → gathered bytes ≡ bytes_of sent.chunks
  gathers sent bytes formed at =
      ap (gathered_at (length bytes) signed) at
      ∙ gathers_is signed sent.chunks sent.last (length bytes) (lines_text sent.lines) formed.chunks formed.last
      (room_for sent [] bytes formed (at ∙ sym (append-nil (sent_text form sent))))

  not_saying_err : (count : ℕ) (bytes : List ℕ) → read (length bytes) bytes ≡ Err IncompleteBody → SaysBytes form seal bytes count → ⊥
  not_saying_err count bytes h s =
      let c = s.chunked in
      let k = sym h ∙ reads_right c.sent [] bytes c.formed (c.at ∙ sym (append-nil (sent_text form c.sent))) c.signed in
      cc

  not_saying_ok : (count : ℕ) (bytes : List ℕ) → (length (gathered bytes) ≡ count → ⊥) → SaysBytes form seal bytes count → ⊥
  not_saying_ok count bytes apart s =
      let c = s.chunked in
      apart (ap length (gathers c.sent bytes c.formed c.at ∙ sym c.joined) ∙ s.counts)

  -- ---- what each reading means

  told_err : (count : ℕ) (bytes : List ℕ) (e : ChunkedFault) → read (length bytes) bytes ≡ Err e → Decodes form seal count bytes (Err e)
  told_err count bytes IncompleteBody h = record {
    right = not_wrong_err bytes IncompleteBody h (λ k. cc);
    front = tail_open form seal (length bytes) seal.signature bytes (omega arith) h;
    closed = not_lacking_err bytes h;
    short = not_saying_err count bytes h;
  }
  told_err count bytes InvalidRequest h = record { right = not_wrong_err bytes InvalidRequest h (λ k. cc); broken = inl (not_front_dead bytes h) }
  told_err count bytes SignatureDiffers h =
      let d = tail_differs form seal (length bytes) seal.signature bytes h in
      inl (record { chunks = d.chunks; last = d.last; rest = d.rest; full = d.full; formed = d.formed; at = d.at; wrong = d.wrong })
  told_err count bytes Memory h = tt

  whole_at : (bytes : List ℕ) (tail : Tail) (t : Tailed form seal seal.signature bytes tail []) → bytes ≡ sent_text form t.sent
  whole_at bytes tail t = t.at ∙ append-nil (sent_text form t.sent)

  abbrev judged : ℕ → List ℕ → Tail → List ℕ → Bool → Bool → Bool → Result Decoded ChunkedFault
  judged count bytes tail rest has due same =
      (cond has (cond due (Ok (trailers_in form tail.1)) (Err SignatureDiffers)) (Err InvalidRequest) >>= λ trailers. ended_by trailers rest)
      >>= λ trailers. cond same (Ok (record { «data» = gathered bytes; trailers = trailers })) (Err IncompleteBody)

  told_ok : (count : ℕ) (bytes : List ℕ) (tail : Tail) (rest : List ℕ) → read (length bytes) bytes ≡ Ok (tail, rest) → (has due same : Bool) → has_line tail ≡ has → is_due tail ≡ due
      → nat_eq (length (gathered bytes)) count ≡ same → Decodes form seal count bytes (judged count bytes tail rest has due same)
  told_ok count bytes tail [] h false due same is d s =
      let t = tail_ok form seal (length bytes) seal.signature bytes tail [] h in
      record {
        right = not_wrong_ok bytes tail [] h (λ k l. let c = sym is ∙ k in cc);
        broken = inr (record { sent = t.sent; formed = t.formed; at = whole_at bytes tail t; lacks = ap (has_signature_line form) (sym t.lines) ∙ is });
      }
  told_ok count bytes tail (b ∷ rest) h false due same is d s = record {
    right = not_wrong_ok bytes tail (b ∷ rest) h (λ k l. let c = sym is ∙ k in cc);
    broken = inl (not_front_past bytes tail b rest h);
  }
  told_ok count bytes tail rest h true false same is d s =
      let t = tail_ok form seal (length bytes) seal.signature bytes tail rest h in
      inr (record {
        sent = t.sent;
        rest = rest;
        formed = t.formed;
        at = t.at;
        sealed = ap (has_signature_line form) (sym t.lines) ∙ is;
        wrong = ap (λ p. has_trailer_signature_due form seal p (map pair_of t.sent.lines)) (sym t.signature) ∙ ap (has_trailer_signature_due form seal tail.0) (sym t.lines) ∙ d;
      })
  told_ok count bytes tail (b ∷ rest) h true true same is d s = record {
    right = not_wrong_ok bytes tail (b ∷ rest) h (λ k l. let c = sym d ∙ l in cc);
    broken = inl (not_front_past bytes tail b rest h);
  }
  told_ok count bytes tail [] h true true false is d s =
      let t = tail_ok form seal (length bytes) seal.signature bytes tail [] h in
      record {
        right = not_wrong_ok bytes tail [] h (λ k l. let c = sym d ∙ l in cc);
        front = front_tailed form seal seal.signature bytes tail [] t refl;
        closed = not_lacking_ok bytes tail [] h is;
        short = not_saying_ok count bytes (eqb-false (length (gathered bytes)) count s);
      }
  told_ok count bytes tail [] h true true true is d s =
      let t = tail_ok form seal (length bytes) seal.signature bytes tail [] h in (
        record {
          sent = t.sent;
          formed = t.formed;
          at = whole_at bytes tail t;
          signed = t.right;
          sealed = ap (has_signature_line form) (sym t.lines) ∙ is;
          due = ap (λ p. has_trailer_signature_due form seal p (map pair_of t.sent.lines)) (sym t.signature) ∙ ap (has_trailer_signature_due form seal tail.0) (sym t.lines) ∙ d;
          joined = gathers t.sent bytes t.formed (whole_at bytes tail t);
          trails = ap (trailers_in form) t.lines;
        },
        eqb-true (length (gathered bytes)) count s,
      )

  told_by : (count : ℕ) (bytes : List ℕ) (r : Result (Tail × List ℕ) ChunkedFault) → read (length bytes) bytes ≡ r
      → Decodes form seal count bytes ((r >>= λ found. finished form seal found)
      >>= λ trailers. cond (nat_eq (length (gathered bytes)) count) (Ok (record { «data» = gathered bytes; trailers = trailers })) (Err IncompleteBody))
  unfolding sealed_by
  told_by count bytes (Err e) h = told_err count bytes e h
  told_by count bytes (Ok found) h = told_ok count bytes found.0 found.1 h (has_line found.0) (is_due found.0) (nat_eq (length (gathered bytes)) count) refl refl refl

  -- the law
  pub decoded_means : (count : ℕ) (bytes : List ℕ) → Decodes form seal count bytes (decoded_of form seal count bytes)
  unfolding decoded_of trailers_of
  decoded_means count bytes = told_by count bytes (read (length bytes) bytes) refl

  -- what gives the function's value means it, or memory ran out
  pub given_means : (count : ℕ) (bytes : List ℕ) (result : Result Decoded ChunkedFault) → Gives (λ decoded. decoded) result (decoded_of form seal count bytes) → Decodes form seal count bytes result
  given_means count bytes (Ok decoded) h = subst (Decodes form seal count bytes) h (decoded_means count bytes)
  given_means count bytes (Err IncompleteBody) h = subst (Decodes form seal count bytes) h (decoded_means count bytes)
  given_means count bytes (Err InvalidRequest) h = subst (Decodes form seal count bytes) h (decoded_means count bytes)
  given_means count bytes (Err SignatureDiffers) h = subst (Decodes form seal count bytes) h (decoded_means count bytes)
  given_means count bytes (Err Memory) h = tt

  sealed_is : (tail : Tail) → has_line tail ≡ true → is_due tail ≡ true → sealed_by form seal tail.0 tail.1 ≡ Ok (trailers_in form tail.1)
  unfolding sealed_by
  sealed_is tail has due =
      cond-true (has_line tail) (cond (is_due tail) (Ok (trailers_in form tail.1)) (Err SignatureDiffers)) (Err InvalidRequest) has
      ∙ cond-true (is_due tail) (Ok (trailers_in form tail.1)) (Err SignatureDiffers) due

  -- a body is read as what it says
  pub chunked_reads : (bytes «data» : List ℕ) (trailers : List Pair) → Chunked form seal bytes «data» trailers
      → decoded_of form seal (length «data») bytes ≡ Ok (record { «data» = «data»; trailers = trailers })
  unfolding decoded_of trailers_of
  chunked_reads bytes «data» trailers c =
      let all = reads_right c.sent [] bytes c.formed (c.at ∙ sym (append-nil (sent_text form c.sent))) c.signed in
      let is : gathered bytes ≡ «data» = gathers c.sent bytes c.formed c.at ∙ sym c.joined in
      ap (λ v. (v >>= λ (f : Tail × List ℕ). finished form seal f) >>= λ ts. cond (nat_eq (length (gathered bytes)) (length «data»)) (Ok (record { «data» = gathered bytes; trailers = ts })) (Err IncompleteBody)) all
      ∙ ap (λ v. (v >>= λ ts. ended_by ts []) >>= λ ts. cond (nat_eq (length (gathered bytes)) (length «data»)) (Ok (record { «data» = gathered bytes; trailers = ts })) (Err IncompleteBody))
      (sealed_is (tail_of c.sent) c.sealed c.due)
      ∙ cond-true (nat_eq (length (gathered bytes)) (length «data»)) (Ok (record { «data» = gathered bytes; trailers = trailers_in form (map pair_of c.sent.lines) })) (Err IncompleteBody)
      (eq-eqb (length (gathered bytes)) (length «data») (ap length is))
      ∙ ap (λ (d : List ℕ). let r : Result Decoded ChunkedFault = Ok (record { «data» = d; trailers = trailers_in form (map pair_of c.sent.lines) }) in r) is
      ∙ ap (λ (ts : List Pair). let r : Result Decoded ChunkedFault = Ok (record { «data» = «data»; trailers = ts }) in r) (sym c.trails)

  -- ---- one answer

  abbrev means : ℕ → List ℕ → Result Decoded ChunkedFault → Type 0
  means count bytes r = Decodes form seal count bytes r

  whole_of : (bytes «data» : List ℕ) (trailers : List Pair) (c : Chunked form seal bytes «data» trailers) → read (length bytes) bytes ≡ Ok (tail_of c.sent, [])
  whole_of bytes «data» trailers c = reads_right c.sent [] bytes c.formed (c.at ∙ sym (append-nil (sent_text form c.sent))) c.signed

  front_of : (bytes «data» : List ℕ) (trailers : List Pair) → Chunked form seal bytes «data» trailers → IsFront form bytes
  front_of bytes «data» trailers c = record { sent = c.sent; more = []; formed = c.formed; at = append-nil bytes ∙ c.at }

  -- a body that says data has no fault
  right_of : (bytes «data» : List ℕ) (trailers : List Pair) → Chunked form seal bytes «data» trailers → HasWrongSignature form seal bytes → ⊥
  right_of bytes «data» trailers c = not_wrong_ok bytes (tail_of c.sent) [] (whole_of bytes «data» trailers c) (λ has no_due. let k : true ≡ false = sym c.due ∙ no_due in cc)

  valid_of : (bytes «data» : List ℕ) (trailers : List Pair) → Chunked form seal bytes «data» trailers → IsInvalid form seal bytes → ⊥
  valid_of bytes «data» trailers c i =
      elim i.broken [
        | inl none ↦ none (front_of bytes «data» trailers c)
        | inr lacks ↦ not_lacking_ok bytes (tail_of c.sent) [] (whole_of bytes «data» trailers c) c.sealed lacks
      ]

  apart : (count : ℕ) (bytes : List ℕ) → IsIncomplete form seal count bytes → IsInvalid form seal bytes → ⊥
  apart count bytes f i = elim i.broken [ inl none ↦ none f.front | inr lacks ↦ f.closed lacks ]

  abbrev IsNoMemory : Result Decoded ChunkedFault → Type 0
  IsNoMemory r = r ≡ Err Memory → ⊥

  said_by : (count : ℕ) (bytes : List ℕ) (decoded : Decoded) → Chunked form seal bytes decoded.«data» decoded.trailers × (length decoded.«data» ≡ count) → decoded_of form seal count bytes ≡ Ok decoded
  said_by count bytes decoded h = ap (λ n. decoded_of form seal n bytes) (sym h.1) ∙ chunked_reads bytes decoded.«data» decoded.trailers h.0

  says_of : (count : ℕ) (bytes : List ℕ) (decoded : Decoded) → Chunked form seal bytes decoded.«data» decoded.trailers × (length decoded.«data» ≡ count) → SaysBytes form seal bytes count
  says_of count bytes decoded h = record { «data» = decoded.«data»; trailers = decoded.trailers; chunked = h.0; counts = h.1 }

  pub one_answer : (count : ℕ) (bytes : List ℕ) (one other : Result Decoded ChunkedFault) → means count bytes one → means count bytes other → IsNoMemory one → IsNoMemory other → one ≡ other
  one_answer count bytes (Ok a) (Ok b) p q m n = sym (said_by count bytes a p) ∙ said_by count bytes b q
  one_answer count bytes (Ok a) (Err IncompleteBody) p q m n = absurd (q.short (says_of count bytes a p))
  one_answer count bytes (Ok a) (Err InvalidRequest) p q m n = absurd (valid_of bytes a.«data» a.trailers p.0 q)
  one_answer count bytes (Ok a) (Err SignatureDiffers) p q m n = absurd (right_of bytes a.«data» a.trailers p.0 q)
  one_answer count bytes (Err IncompleteBody) (Ok b) p q m n = absurd (p.short (says_of count bytes b q))
  one_answer count bytes (Err InvalidRequest) (Ok b) p q m n = absurd (valid_of bytes b.«data» b.trailers q.0 p)
  one_answer count bytes (Err SignatureDiffers) (Ok b) p q m n = absurd (right_of bytes b.«data» b.trailers q.0 p)
  one_answer count bytes (Err IncompleteBody) (Err IncompleteBody) p q m n = refl
  one_answer count bytes (Err IncompleteBody) (Err InvalidRequest) p q m n = absurd (apart count bytes p q)
  one_answer count bytes (Err IncompleteBody) (Err SignatureDiffers) p q m n = absurd (p.right q)
  one_answer count bytes (Err InvalidRequest) (Err IncompleteBody) p q m n = absurd (apart count bytes q p)
  one_answer count bytes (Err InvalidRequest) (Err InvalidRequest) p q m n = refl
  one_answer count bytes (Err InvalidRequest) (Err SignatureDiffers) p q m n = absurd (p.right q)
  one_answer count bytes (Err SignatureDiffers) (Err IncompleteBody) p q m n = absurd (q.right p)
  one_answer count bytes (Err SignatureDiffers) (Err InvalidRequest) p q m n = absurd (q.right p)
  one_answer count bytes (Err SignatureDiffers) (Err SignatureDiffers) p q m n = refl
  one_answer count bytes (Err Memory) other p q m n = absurd (m refl)
  one_answer count bytes one (Err Memory) p q m n = absurd (n refl)
