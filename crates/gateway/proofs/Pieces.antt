-- The pieces of a reply.
use Rattle.std.specs.Prelude.{◌≡◌, ◌≤◌, ◌+◌, ◌||◌, ℕ, Bool, true, false, List, [], ◌∷◌, ◌++◌, length, map, take, drop, codes, decimal, flat_map, if◌then◌else◌}
use Rattle.std.specs.List.{All, list_any}
use Rattle.std.proofs.Common.{refl, sym, ap, subst, ◌∙◌, inl, inr, arith, append-nil, append_assoc}
use Rattle.std.proofs.lemmas.List.{length-append, take-append-drop}
use Rattle.std.proofs.lemmas.List.Elements.{All-nil, All-cons, All-append, All-weaker}
use Rattle.gate_base.specs.declared.outside.Piece.{Piece}
use Rattle.gate_base.specs.declared.page.Page.{Page}
use Rattle.gate_base.specs.declared.page.Pair.{Pair}
use Rattle.gate_base.specs.Transcript.{Transcript, with_piece, SendsPrefix}
use Rattle.http_wire.specs.FirstMessage.{is_head}
use Rattle.http_wire.specs.Print.{is_bodiless, is_printed_content_length, status_line, header_line, closing_line}
use Rattle.s3_machine.specs.declared.operation.Label.{Label}
use Rattle.s3_machine.specs.declared.operation.ObjectBytes.{ObjectBytes}
use Rattle.s3_pages.specs.Pages.{header, object_headers, object_page, common_headers, head_headers, meta_header, overlaid, parts_headers, range_headers, read_status}
use Rattle.planner.specs.declared.reading.Found.{Found}
use Rattle.planner.specs.Reading.{found_reply}
use Rattle.gateway.specs.Exchange.{IsPiece, joined, Paced, Sends, SendsPart, SendsPieces}
use Rattle.gateway.specs.Reading.{BodySent, BodyCut, head_text}
use Rattle.gateway.specs.Request.{reply_text}

abbrev piece_of : ℕ → ℕ → List ℕ → Piece
piece_of connection at bytes = record { connection = connection; at = at; bytes = bytes }

only : (connection t q : ℕ) (bytes : List ℕ) → t ≤ q → All (IsPiece connection t q) (piece_of connection q bytes ∷ [])
only connection t q bytes near =
    let piece : Piece = piece_of connection q bytes in
    All-cons (IsPiece connection t q) piece [] (record { on = refl; since = near; until = omega arith }) (All-nil (IsPiece connection t q))

-- one piece has all the bytes
pub one_piece : (t q : ℕ) (bytes : List ℕ) (transcript transcript' : Transcript) → t ≤ q → transcript' ≡ with_piece transcript q bytes → Sends transcript.begun t q bytes transcript.sent transcript'.sent
one_piece t q bytes transcript transcript' near e = record {
  first = [];
  last = piece_of transcript.begun q bytes;
  sent = ap (λ w. w.sent) e;
  whole = append-nil bytes;
  each = only transcript.begun t q bytes near;
  ends = refl;
}

-- a write that failed sent the first of the bytes
pub part_of : (t q : ℕ) (bytes : List ℕ) (transcript transcript' : Transcript) → t ≤ q → SendsPrefix transcript q bytes transcript' → SendsPart transcript.begun t q bytes transcript.sent transcript'.sent
part_of t q bytes transcript transcript' near (inl e) = record {
  pieces = [];
  unsent = bytes;
  sent = ap (λ w. w.sent) e ∙ sym (append-nil transcript.sent);
  part = refl;
  each = All-nil (IsPiece transcript.begun t q);
}
part_of t q bytes transcript transcript' near (inr (n, e)) = record {
  pieces = piece_of transcript.begun q (take n bytes) ∷ [];
  unsent = drop n bytes;
  sent = ap (λ w. w.sent) e;
  part = ap (λ front. front ++ drop n bytes) (append-nil (take n bytes)) ∙ take-append-drop n bytes;
  each = only transcript.begun t q (take n bytes) near;
}

-- they are the first of more bytes
pub part_longer : {connection t q : ℕ} {bytes : List ℕ} {old new : List Piece} (more : List ℕ) → SendsPart connection t q bytes old new → SendsPart connection t q (bytes ++ more) old new
part_longer more part = record {
  pieces = part.pieces;
  unsent = part.unsent ++ more;
  sent = part.sent;
  part = sym (append_assoc (joined part.pieces) part.unsent more) ∙ ap (λ bytes. bytes ++ more) part.part;
  each = part.each;
}

pub weaker : (connection t q t' q' : ℕ) (pieces : List Piece) → t' ≤ t → q ≤ q' → All (IsPiece connection t q) pieces → All (IsPiece connection t' q') pieces
weaker connection t q t' q' pieces since until each =
    All-weaker (IsPiece connection t q) (IsPiece connection t' q') (λ p is. let s = is.since in let u = is.until in record { on = is.on; since = omega arith; until = omega arith }) pieces each

joined_more : (pieces : List Piece) (piece : Piece) → joined (pieces ++ piece ∷ []) ≡ joined pieces ++ piece.bytes
joined_more [] piece = append-nil piece.bytes
joined_more (first ∷ pieces) piece = ap (λ rest. first.bytes ++ rest) (joined_more pieces piece) ∙ sym (append_assoc first.bytes (joined pieces) piece.bytes)

-- one piece more, at the next number
paced_more : (n : ℕ) (pieces : List Piece) (piece : Piece) → Paced n pieces → piece.at ≡ n + length pieces → length piece.bytes ≤ 1048576 → Paced n (pieces ++ piece ∷ [])
unfolding Paced
paced_more n [] piece paced at few = (at ∙ omega arith, few, tt)
paced_more n (first ∷ pieces) piece (same, small, others) at few = (same, small, paced_more (n + 1) pieces piece others (at ∙ omega arith) few)

-- ---- the bytes of an object

pub body_none : (connection h : ℕ) (sent : List Piece) → BodySent connection h [] 0 sent sent
unfolding Paced
body_none connection h sent = record {
  others = [];
  sent = sym (append-nil sent);
  whole = refl;
  counted = refl;
  each = All-nil (IsPiece connection h (h + 0));
  paced = tt;
}

-- one piece more was sent
pub body_more : {h : ℕ} {done : List ℕ} {count : ℕ} {old : List Piece} (bytes : List ℕ) (at : ℕ) (transcript transcript' : Transcript) → BodySent transcript.begun h done count old transcript.sent → at ≡ h + count + 1 → length bytes ≤ 1048576
    → transcript' ≡ with_piece transcript at bytes → BodySent transcript.begun h (done ++ bytes) (count + 1) old transcript'.sent
body_more {h = h} {done = done} {count = count} {old = old} bytes at transcript transcript' body is few wrote =
    let piece : Piece = piece_of transcript.begun at bytes in
    let counted = body.counted in
    record {
      others = body.others ++ piece ∷ [];
      sent = ap (λ w. w.sent) wrote ∙ ap (λ s. s ++ piece ∷ []) body.sent ∙ append_assoc old body.others (piece ∷ []);
      whole = joined_more body.others piece ∙ ap (λ b. b ++ bytes) body.whole;
      counted = length-append body.others (piece ∷ []) ∙ ap (λ n. n + 1) counted;
      each = All-append (IsPiece transcript.begun h (h + (count + 1))) body.others (piece ∷ []) (weaker transcript.begun h (h + count) h (h + (count + 1)) body.others (omega arith) (omega arith) body.each)
          (All-cons (IsPiece transcript.begun h (h + (count + 1))) piece [] (record { on = refl; since = omega arith; until = omega arith }) (All-nil (IsPiece transcript.begun h (h + (count + 1)))));
      paced = paced_more (h + 1) body.others piece body.paced (omega arith) few;
    }

-- the line failed under one more
pub body_cut : {h : ℕ} {done : List ℕ} {count : ℕ} {old : List Piece} (bytes : List ℕ) (at : ℕ) (transcript transcript' : Transcript) → BodySent transcript.begun h done count old transcript.sent → at ≡ h + count + 1
    → SendsPrefix transcript at bytes transcript' → BodyCut transcript.begun h at (done ++ bytes) old transcript'.sent
body_cut {h = h} {done = done} {count = count} {old = old} bytes at transcript transcript' body is cut =
    let part = part_of h at bytes transcript transcript' (omega arith) cut in
    record {
      others = body.others ++ part.pieces;
      unsent = part.unsent;
      sent = part.sent ∙ ap (λ s. s ++ part.pieces) body.sent ∙ append_assoc old body.others part.pieces;
      part = ap (λ b. b ++ part.unsent) (joined_append body.others part.pieces ∙ ap (λ b. b ++ joined part.pieces) body.whole) ∙ append_assoc done (joined part.pieces) part.unsent ∙ ap (λ b. done ++ b) part.part;
      each = All-append (IsPiece transcript.begun h at) body.others part.pieces (weaker transcript.begun h (h + count) h at body.others (omega arith) (omega arith) body.each) part.each;
    }
  where
    joined_append : (xs ys : List Piece) → joined (xs ++ ys) ≡ joined xs ++ joined ys
    joined_append [] ys = refl
    joined_append (x ∷ xs) ys = ap (λ rest. x.bytes ++ rest) (joined_append xs ys) ∙ sym (append_assoc x.bytes (joined xs) (joined ys))

-- ---- behind the head

-- the last of some pieces, and those before it
split_last : (h : ℕ) (first : Piece) (others : List Piece) → first.at ≡ h → Paced (h + 1) others → (front : List Piece) × (last : Piece) × (first ∷ others ≡ front ++ last ∷ []) × (last.at ≡ h + length others)
unfolding Paced
split_last h first [] at paced = ([], first, refl, at ∙ omega arith)
split_last h first (next ∷ others) at (same, small, paced) =
    let more = split_last (h + 1) next others same paced in
    (first ∷ more.0, more.1, ap (λ pieces. first ∷ pieces) more.2, more.3 ∙ omega arith)

module _ {t h : ℕ} (head : List ℕ) (transcript after : Transcript) (soon : t ≤ h) (wrote : after ≡ with_piece transcript h head) where
  abbrev head_piece : Piece
  head_piece = piece_of transcript.begun h head

  pub begun_same : after.begun ≡ transcript.begun
  begun_same = ap (λ w. w.begun) wrote

  pub sent_so : (others : List Piece) (new : List Piece) → new ≡ after.sent ++ others → new ≡ transcript.sent ++ (head_piece ∷ others)
  sent_so others new is = is ∙ ap (λ w. w.sent ++ others) wrote ∙ append_assoc transcript.sent (head_piece ∷ []) others

  pub each_so : {q : ℕ} (others : List Piece) → h ≤ q → All (IsPiece transcript.begun h q) others → All (IsPiece transcript.begun t q) (head_piece ∷ others)
  each_so {q = q} others near each = All-cons (IsPiece transcript.begun t q) head_piece others (record { on = refl; since = soon; until = near }) (weaker transcript.begun h q t q others soon (omega arith) each)

  -- the bytes were sent behind the head
  pub sent_behind : {q count : ℕ} {done : List ℕ} (new : List Piece) → BodySent after.begun h done count after.sent new → q ≡ h + count → Sends transcript.begun t q (head ++ done) transcript.sent new
  sent_behind {q = q} {count = count} {done = done} new body is =
      let body' : BodySent transcript.begun h done count after.sent new = subst (λ n. BodySent n h done count after.sent new) begun_same body in
      let split = split_last h head_piece body'.others refl body'.paced in
      let counted = body'.counted in
      record {
        first = split.0;
        last = split.1;
        sent = sent_so body'.others new body'.sent ∙ ap (λ pieces. transcript.sent ++ pieces) split.2;
        whole = ap joined (sym split.2) ∙ ap (λ b. head ++ b) body'.whole;
        each = subst (All (IsPiece transcript.begun t q)) split.2 (each_so body'.others (omega arith) (subst (λ n. All (IsPiece transcript.begun h n) body'.others) (sym is) body'.each));
        ends = split.3 ∙ omega arith;
      }

  -- the first of them were
  pub cut_behind : {q : ℕ} {done : List ℕ} (new : List Piece) → h ≤ q → BodyCut after.begun h q done after.sent new → SendsPart transcript.begun t q (head ++ done) transcript.sent new
  cut_behind {q = q} {done = done} new near body =
      let body' : BodyCut transcript.begun h q done after.sent new = subst (λ n. BodyCut n h q done after.sent new) begun_same body in
      record {
        pieces = head_piece ∷ body'.others;
        unsent = body'.unsent;
        sent = sent_so body'.others new body'.sent;
        part = append_assoc head (joined body'.others) body'.unsent ∙ ap (λ b. head ++ b) body'.part;
        each = each_so body'.others near body'.each;
      }

  -- they were, in pieces, and after no more
  unfoldable pub pieces_behind : {q count : ℕ} {done : List ℕ} (new : List Piece) → BodySent after.begun h done count after.sent new → h + count ≤ q → SendsPieces transcript.begun t q head done transcript.sent new
  pieces_behind {q = q} {count = count} {done = done} new body near =
      let body' : BodySent transcript.begun h done count after.sent new = subst (λ n. BodySent n h done count after.sent new) begun_same body in
      record {
        first = head_piece;
        others = body'.others;
        sent = sent_so body'.others new body'.sent;
        each = each_so body'.others (omega arith) (weaker transcript.begun h (h + count) h q body'.others (omega arith) near body'.each);
        of_head = refl;
        of_body = body'.whole;
        paced = body'.paced;
      }

  -- the last of them by the number of them all
  pub counted_behind : {q count : ℕ} {done : List ℕ} (new : List Piece) (body : BodySent after.begun h done count after.sent new) (near : h + count ≤ q) → (pieces_behind new body near).first.at + length (pieces_behind new body near).others ≡ h + count
  unfolding pieces_behind
  counted_behind {count = count} {done = done} new body near =
      let body' : BodySent transcript.begun h done count after.sent new = subst (λ n. BodySent n h done count after.sent new) begun_same body in
      ap (λ n. h + n) body'.counted

-- ---- the head of a read

-- CR LF, as http_wire has it of httparse
abbrev crlf_bytes : List ℕ
crlf_bytes = 13 ∷ 10 ∷ []

any_behind : (front back : List Pair) → list_any is_printed_content_length back ≡ true → list_any is_printed_content_length (front ++ back) ≡ true
any_behind [] back is = is
any_behind (first ∷ front) back is = ap (λ t. is_printed_content_length first || t) (any_behind front back is) ∙ or_true (is_printed_content_length first)
  where
    or_true : (t : Bool) → t || true ≡ true
    or_true true = refl
    or_true false = refl

module _ (found : Found) (label : Label) (method resource : List ℕ) (closing : Bool) (other : is_head method ≡ false) where
  abbrev object : List ℕ → ObjectBytes
  object body = record { head = found.head; from = found.from; length = found.length; partial = found.partial; body = body; shown = found.shown; parts = found.parts }

  abbrev headers : List Pair
  headers = object_headers (object []) label

  abbrev page : List ℕ → Page
  page body = object_page (object body) label

  length_given : list_any is_printed_content_length headers ≡ true
  length_given =
      let front : List Pair = common_headers label ++ overlaid found.shown (head_headers found.head ++ map meta_header found.head.meta) ++ range_headers found.partial found.from found.length found.head.size ++ parts_headers found.parts in
      any_behind front (header (codes "Content-Length") (decimal found.length) ∷ []) refl

  no_length : (partial : Bool) (line : List ℕ) → (if is_bodiless (read_status partial) || list_any is_printed_content_length headers then [] else line) ≡ []
  no_length true line = ap (λ t. if is_bodiless (read_status true) || t then [] else line) length_given
  no_length false line = ap (λ t. if is_bodiless (read_status false) || t then [] else line) length_given

  all_body : (partial : Bool) (body : List ℕ) → (if is_bodiless (read_status partial) || is_head method then [] else body) ≡ body
  all_body true body = ap (λ t. if is_bodiless (read_status true) || t then [] else body) other
  all_body false body = ap (λ t. if is_bodiless (read_status false) || t then [] else body) other

  abbrev front : List ℕ
  front = status_line (read_status found.partial) ++ flat_map header_line headers ++ [] ++ closing_line closing ++ crlf_bytes

  text_is : (body : List ℕ) → reply_text (found_reply found body) label method resource closing ≡ front ++ body
  unfolding reply_text
  text_is body = λ i.
      status_line (read_status found.partial) ++ flat_map header_line headers ++ no_length found.partial (codes "Content-Length: " ++ decimal (length body) ++ crlf_bytes) i ++ closing_line closing ++ crlf_bytes
      ++ all_body found.partial body i

  -- the reply is its head, and then the body
  pub head_and_body : (body : List ℕ) → reply_text (found_reply found body) label method resource closing ≡ head_text found label method resource closing ++ body
  head_and_body body = text_is body ∙ ap (λ text. text ++ body) (sym (text_is [] ∙ append-nil front))
