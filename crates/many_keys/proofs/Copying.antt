-- The copy of the segments of an object, one after another: each has its own bytes, and what was put before it stays.
use Rattle.std.specs.Prelude.{◌≡◌, ◌<◌, ◌≤◌, ◌+◌, ◌*◌, ◌&&◌, ℕ, zero, suc, true, nat_le, nat_lt, get_or, List, [], ◌∷◌, ◌++◌, length, map, take, Some, Result, Ok, Err}
use Rattle.std.specs.Result.{IsErrAnd}
use Rattle.std.specs.List.{list_all}
use Rattle.std.specs.Option.{option_and_then, option_map}
use Rattle.std.specs.FinMap.{get, insert}
use Rattle.std.proofs.Common.{refl, sym, ap, subst, ◌∙◌, arith}
use Rattle.std.proofs.lemmas.Bool.{and_from, and_parts, leb-true, lt-ltb, ltb-true, eqb-true}
use Rattle.std.proofs.lemmas.Grind.{flat_map-append}
use Rattle.std.proofs.lemmas.List.{length-append, length-take, map-append, take_all, take_more}
use Rattle.std.proofs.lemmas.List.Folds.{list_all-append}
use Rattle.gate_base.specs.Maps.{Names}
use Rattle.gate_base.proofs.lemmas.Maps.{apart, at_insert, by_name, off_insert}
use Rattle.s3_names.specs.Id.{id_digits}
use Rattle.s3_machine.specs.Limits.{most_body_bytes}
use Rattle.s3_machine.specs.Uploads.{IsPartNumber, greatest_part, most_parts}
use Rattle.swift_calls.specs.Account.{SwiftObject, SwiftAccount, files}
use Rattle.swift_calls.specs.History.{History}
use Rattle.upload_texts.specs.Sealed.{part_fits_sealed_text}
use Rattle.upload_texts.specs.declared.sealed.SealedPart.{SealedPart}
use Rattle.upload_records.specs.Consistent.{AreSealedParts, IsSealedPart}
use Rattle.upload_records.specs.Layout.{segment_name, segments_name}
use Rattle.upload_records.specs.Native.{part_at, part_bytes, part_of, sealed_bytes}
use Rattle.account_calls.specs.Calls.{always, Asks, GivenOf}
use Rattle.account_calls.specs.Listing.{TellsOf}
use Rattle.account_calls.specs.declared.fault.PlanFault.{PlanFault}
use Rattle.account_calls.specs.declared.fault.PlanFault.TheVariants as fault
use Rattle.account_calls.proofs.lemmas.Idle.{grows_none, none_made}
use Rattle.account_calls.proofs.lemmas.Quiet.{asks_failed, asks_left, asks_no_memory, asks_then, asks_under}
use Rattle.many_keys.specs.CopiedLists.{
  AreDated,
  AreOfCut,
  ArePiecesHere,
  CopiesFirst,
  CopiesPiece,
  HasPiece,
  IsApart,
  IsPieceHere,
  IsUnnamed,
  KeepsOthers,
  MayCopy,
  MayCopyPiece,
  PutsSegment,
  TellsPiece,
  cut_bytes,
  is_cut,
  is_piece_to_copy,
  modified_in,
  piece_bytes,
  piece_in,
  pieces_ascend_from,
  plain_in,
  size_of_cut,
}
use Rattle.many_keys.specs.declared.cut.Piece.{Piece}
use Rattle.many_keys.proofs.CutCalls.{segment_number}
use Rattle.many_keys.proofs.SideFiles.{part_is_other}

-- ---- one piece

has_piece : {bucket : List ℕ} {id : ℕ} {from_bucket : List ℕ} {from_id : ℕ} {piece : Piece} (tree : SwiftAccount) → GivenOf (MayCopyPiece bucket id from_bucket from_id piece) tree → GivenOf (HasPiece from_bucket from_id piece) tree
has_piece tree may = record { settled = may.settled; is = may.is.here }

module _ {bucket : List ℕ} {id : ℕ} {from_bucket : List ℕ} {from_id moment : ℕ} {piece : Piece} {a b : History} where
  -- its bytes were read, and put
  pub piece_copied : {c : History} {bytes : List ℕ} {result : Result SealedPart PlanFault} → Asks (always 1) a b (GivenOf (HasPiece from_bucket from_id piece)) (TellsOf (TellsPiece from_bucket from_id piece)) (Ok bytes)
      → Asks (always 1) b c (GivenOf (IsUnnamed bucket id)) (PutsSegment bucket id piece.number bytes moment) result
      → Asks (always 2) a c (GivenOf (MayCopyPiece bucket id from_bucket from_id piece)) (CopiesPiece bucket id from_bucket from_id piece moment) result
  piece_copied {bytes = bytes} first then =
      asks_then {R = CopiesPiece bucket id from_bucket from_id piece moment} (omega arith) (asks_under has_piece first) then
      (λ old new sound same has tells. subst (GivenOf (IsUnnamed bucket id)) (sym tells.same) (record { settled = has.settled; is = has.is.unnamed }))
      (λ old new last part sound has tells puts. record { bytes = bytes; tells = tells.of_account; puts = subst (λ t. PutsSegment bucket id piece.number bytes moment t last part) tells.same puts })

  -- they weren't
  pub piece_unread : {f : PlanFault} → Asks (always 1) a b (GivenOf (HasPiece from_bucket from_id piece)) (TellsOf (TellsPiece from_bucket from_id piece)) (Err f)
      → (result : Result SealedPart PlanFault) → IsErrAnd result (λ e. e ≡ f) → Asks (always 2) a b (GivenOf (MayCopyPiece bucket id from_bucket from_id piece)) (CopiesPiece bucket id from_bucket from_id piece moment) result
  piece_unread asks result is = asks_failed {R = CopiesPiece bucket id from_bucket from_id piece moment} (omega arith) (asks_under has_piece asks) result is

-- ---- what a cut keeps

pub record KeepsCut (size : ℕ) (cut : List Piece) : Type 0 where
  pub some : 1 ≤ length cut
  pub few : length cut ≤ most_parts
  pub pieces : list_all is_piece_to_copy cut ≡ true
  pub ascends : pieces_ascend_from 0 cut ≡ true
  pub whole : size_of_cut cut ≡ size

pub keeps_cut : (size : ℕ) (cut : List Piece) → is_cut size cut ≡ true → KeepsCut size cut
unfolding is_cut
keeps_cut size cut is =
    let some = and_parts (nat_le 1 (length cut)) _ is in
    let few = and_parts (nat_le (length cut) most_parts) _ some.1 in
    let pieces = and_parts (list_all is_piece_to_copy cut) _ few.1 in
    let ascends = and_parts (pieces_ascend_from 0 cut) _ pieces.1 in
    record { some = leb-true 1 (length cut) some.0; few = leb-true (length cut) most_parts few.0; pieces = pieces.0; ascends = ascends.0; whole = eqb-true (size_of_cut cut) size ascends.1 }

passes_at : (cut : List Piece) (i : ℕ) (d : Piece) → list_all is_piece_to_copy cut ≡ true → i < length cut → is_piece_to_copy (get_or cut i d) ≡ true
passes_at [] i d all below = absurd (omega (arith, below))
passes_at (p ∷ cut) zero d all below = (and_parts (is_piece_to_copy p) (list_all is_piece_to_copy cut) all).0
passes_at (p ∷ cut) (suc i) d all below = passes_at cut i d (and_parts (is_piece_to_copy p) (list_all is_piece_to_copy cut) all).1 (omega (arith, below))

-- a piece behind the first of them: their numbers are below its
below_at : (above : ℕ) (cut : List Piece) (i : ℕ) (d : Piece) → pieces_ascend_from above cut ≡ true → i < length cut
    → (above < (get_or cut i d).number) × (list_all (λ (q : Piece). nat_lt q.number (get_or cut i d).number) (take i cut) ≡ true)
below_at above [] i d up below = absurd (omega (arith, below))
below_at above (p ∷ cut) zero d up below = (ltb-true above p.number (and_parts (nat_lt above p.number) (pieces_ascend_from p.number cut) up).0, refl)
below_at above (p ∷ cut) (suc i) d up below =
    let parts = and_parts (nat_lt above p.number) (pieces_ascend_from p.number cut) up in
    let low = ltb-true above p.number parts.0 in
    let rest = below_at p.number cut i d parts.1 (omega (arith, below)) in
    let high = rest.0 in
    (omega (arith, low, high), and_from _ _ (lt-ltb p.number (get_or cut i d).number high) rest.1)

-- the piece of a number of the loop
pub record IsPieceAt (i : ℕ) (cut : List Piece) (piece : Piece) : Type 0 where
  pub number : IsPartNumber piece.number
  pub small : piece.size ≤ most_body_bytes
  pub below : list_all (λ (q : Piece). nat_lt q.number piece.number) (take i cut) ≡ true

-- ---- what was put stays

module _ (S : Names SwiftObject) (id : List ℕ) (number : ℕ) (file : SwiftObject) (counted : number ≤ greatest_part) where
  abbrev after : Names SwiftObject
  after = insert S (segment_name id number) file

  other_stays : (k : ℕ) → k < number → get after (segment_name id k) ≡ get S (segment_name id k)
  other_stays k less = off_insert by_name S (segment_name id number) file (segment_name id k) (apart by_name (segment_name id k) (segment_name id number) (λ e. let same = segment_number id k number (omega (arith, less, counted)) counted e in omega (arith, same, less)))

  parts_stay : (list : List SealedPart) → list_all (λ (p : SealedPart). nat_lt p.number number) list ≡ true → AreSealedParts S id list → AreSealedParts after id list
  parts_stay [] below parts = tt
  parts_stay (p ∷ list) below parts =
      let less = and_parts (nat_lt p.number number) (list_all (λ (p : SealedPart). nat_lt p.number number) list) below in (
        record { file = parts.0.file; bytes = parts.0.bytes; there = other_stays p.number (ltb-true p.number number less.0) ∙ parts.0.there; own = parts.0.own; etag = parts.0.etag; size = parts.0.size },
        parts_stay list less.1 parts.1,
      )

  bytes_stay : (list : List SealedPart) → list_all (λ (p : SealedPart). nat_lt p.number number) list ≡ true → sealed_bytes after id list ≡ sealed_bytes S id list
  bytes_stay [] below = refl
  bytes_stay (p ∷ list) below =
      let less = and_parts (nat_lt p.number number) (list_all (λ (p : SealedPart). nat_lt p.number number) list) below in
      (λ i. part_bytes (option_and_then part_of (other_stays p.number (ltb-true p.number number less.0) i)) ++ bytes_stay list less.1 i)

  dated_stay : (moment : ℕ) (list : List SealedPart) → list_all (λ (p : SealedPart). nat_lt p.number number) list ≡ true → AreDated S id moment list → AreDated after id moment list
  dated_stay moment [] below dated = tt
  dated_stay moment (p ∷ list) below dated =
      let less = and_parts (nat_lt p.number number) (list_all (λ (p : SealedPart). nat_lt p.number number) list) below in
      (ap (λ o. option_map modified_in (option_and_then part_of o)) (other_stays p.number (ltb-true p.number number less.0)) ∙ dated.0, dated_stay moment list less.1 dated.1)

dated_more : (S : Names SwiftObject) (id : List ℕ) (moment : ℕ) (list : List SealedPart) (p : SealedPart) → AreDated S id moment list → option_map modified_in (part_at S id p.number) ≡ Some moment → AreDated S id moment (list ++ p ∷ [])
dated_more S id moment [] p dated is = (is, tt)
dated_more S id moment (q ∷ list) p dated is = (dated.0, dated_more S id moment list p dated.1 is)

parts_more : (S : Names SwiftObject) (id : List ℕ) (list : List SealedPart) (p : SealedPart) → AreSealedParts S id list → IsSealedPart S id p → AreSealedParts S id (list ++ p ∷ [])
parts_more S id [] p parts is = (is, tt)
parts_more S id (q ∷ list) p parts is = (parts.0, parts_more S id list p parts.1 is)

nothing_more : (xs : List ℕ) → xs ++ [] ≡ xs
nothing_more [] = refl
nothing_more (x ∷ xs) = ap (λ l. x ∷ l) (nothing_more xs)

bytes_more : (S : Names SwiftObject) (id : List ℕ) (list : List SealedPart) (p : SealedPart) → sealed_bytes S id (list ++ p ∷ []) ≡ sealed_bytes S id list ++ part_bytes (part_at S id p.number)
bytes_more S id list p =
    flat_map-append (λ (p : SealedPart). part_bytes (part_at S id p.number)) list (p ∷ []) ∙ ap (λ l. sealed_bytes S id list ++ l) (nothing_more (part_bytes (part_at S id p.number)))

cut_more : (S : Names SwiftObject) (id : List ℕ) (first : List Piece) (p : Piece) → cut_bytes S id (first ++ p ∷ []) ≡ cut_bytes S id first ++ piece_bytes S id p
cut_more S id first p = flat_map-append (piece_bytes S id) first (p ∷ []) ∙ ap (λ l. cut_bytes S id first ++ l) (nothing_more (piece_bytes S id p))

-- ---- the files of the source stay

module _ (bucket : List ℕ) (id : ℕ) (from_bucket : List ℕ) (from_id : ℕ) (old new : SwiftAccount) (apart_from : IsApart bucket id from_bucket from_id) (others : KeepsOthers bucket (id_digits id) old new) where
  file_stays : (number : ℕ) → get (files new (segments_name from_bucket)) (segment_name (id_digits from_id) number) ≡ get (files old (segments_name from_bucket)) (segment_name (id_digits from_id) number)
  file_stays number = others (segments_name from_bucket) (segment_name (id_digits from_id) number) (part_is_other bucket id from_bucket from_id number apart_from)

  pub pieces_stay : (cut : List Piece) → ArePiecesHere (files old (segments_name from_bucket)) (id_digits from_id) cut → ArePiecesHere (files new (segments_name from_bucket)) (id_digits from_id) cut
  pieces_stay [] here = tt
  pieces_stay (p ∷ cut) here = (record { file = here.0.file; bytes = here.0.bytes; there = file_stays p.number ∙ here.0.there; own = here.0.own; size = here.0.size }, pieces_stay cut here.1)

  pub piece_stays : (p : Piece) → piece_bytes (files new (segments_name from_bucket)) (id_digits from_id) p ≡ piece_bytes (files old (segments_name from_bucket)) (id_digits from_id) p
  piece_stays p = ap plain_in (file_stays p.number)

here_at : (S : Names SwiftObject) (id : List ℕ) (cut : List Piece) (i : ℕ) (d : Piece) → ArePiecesHere S id cut → i < length cut → IsPieceHere S id (get_or cut i d)
here_at S id [] i d here below = absurd (omega (arith, below))
here_at S id (p ∷ cut) zero d here below = here.0
here_at S id (p ∷ cut) (suc i) d here below = here_at S id cut i d here.1 (omega (arith, below))

-- ---- one more

others_then : (bucket id : List ℕ) (old new last : SwiftAccount) → KeepsOthers bucket id old new → KeepsOthers bucket id new last → KeepsOthers bucket id old last
others_then bucket id old new last first then folder name other = then folder name other ∙ first folder name other

module _ {bucket : List ℕ} {id : ℕ} {from_bucket : List ℕ} {from_id moment : ℕ} {first : List Piece} {list : List SealedPart} {piece : Piece} {part : SealedPart} {old new last : SwiftAccount} where
  first_more : piece.number ≤ greatest_part → list_all (λ (p : SealedPart). nat_lt p.number piece.number) list ≡ true → IsApart bucket id from_bucket from_id
      → CopiesFirst bucket id from_bucket from_id first moment old new list → CopiesPiece bucket id from_bucket from_id piece moment new last part
      → CopiesFirst bucket id from_bucket from_id (first ++ piece ∷ []) moment old last (list ++ part ∷ [])
  first_more counted below apart_from told more =
      let S : Names SwiftObject = files new (segments_name bucket) in
      let puts = more.puts in
      let name : List ℕ = segment_name (id_digits id) piece.number in
      let numbered : segment_name (id_digits id) part.number ≡ name = ap (segment_name (id_digits id)) puts.part.number_is in
      let there : get (insert S name puts.file) (segment_name (id_digits id) part.number) ≡ Some puts.file = ap (get (insert S name puts.file)) numbered ∙ at_insert by_name S name puts.file in
      let own : part_bytes (part_at (insert S name puts.file) (id_digits id) part.number) ≡ more.bytes = ap (λ o. part_bytes (option_and_then part_of o)) there ∙ puts.reads in
      let T : Names SwiftObject = files old (segments_name from_bucket) in
      record {
        settled = puts.settled;
        unnamed = puts.unnamed;
        parts = subst (λ fs. AreSealedParts fs (id_digits id) (list ++ part ∷ [])) (sym puts.holds)
            (parts_more (insert S name puts.file) (id_digits id) list part (parts_stay S (id_digits id) piece.number puts.file counted list below told.parts)
            (record { file = puts.file; bytes = more.bytes; there = there; own = puts.own; etag = puts.part.etag; size = puts.part.size }));
        dated = subst (λ fs. AreDated fs (id_digits id) moment (list ++ part ∷ [])) (sym puts.holds)
            (dated_more (insert S name puts.file) (id_digits id) moment list part (dated_stay S (id_digits id) piece.number puts.file counted moment list below told.dated)
            (ap (λ o. option_map modified_in (option_and_then part_of o)) there ∙ puts.dated));
        bytes = ap (λ fs. sealed_bytes fs (id_digits id) (list ++ part ∷ [])) puts.holds
            ∙ bytes_more (insert S name puts.file) (id_digits id) list part
            ∙ (λ i. (bytes_stay S (id_digits id) piece.number puts.file counted list below ∙ told.bytes) i ++ (own ∙ more.tells ∙ piece_stays bucket id from_bucket from_id old new apart_from told.others piece) i)
            ∙ sym (cut_more T (id_digits from_id) first piece);
        others = others_then bucket (id_digits id) old new last told.others puts.others;
      }

-- ---- the loop

-- the first pieces were copied
pub record Copying (a b : History) (bucket : List ℕ) (id : ℕ) (from_bucket : List ℕ) (from_id moment : ℕ) (cut first : List Piece) (list : List SealedPart) : Type 0 where
  pub listed : AreOfCut first list
  pub asks : Asks (always (2 * length first)) a b (GivenOf (MayCopy bucket id from_bucket from_id cut)) (CopiesFirst bucket id from_bucket from_id first moment) (Ok list)

take_none : {X : Type 0} (xs : List X) → take 0 xs ≡ []
take_none [] = refl
take_none (x ∷ xs) = refl

pub copying_none : (a : History) (bucket : List ℕ) (id : ℕ) (from_bucket : List ℕ) (from_id moment : ℕ) (cut : List Piece) (list : List SealedPart) → list ≡ [] → Copying a a bucket id from_bucket from_id moment cut (take 0 cut) list
copying_none a bucket id from_bucket from_id moment cut list none =
    subst (λ first. Copying a a bucket id from_bucket from_id moment cut first list) (sym (take_none cut))
    (subst (Copying a a bucket id from_bucket from_id moment cut []) (sym none) (record {
      listed = record { pieces = refl; proper = refl };
      asks = record {
        grows = grows_none (always 0) (GivenOf (MayCopy bucket id from_bucket from_id cut)) a;
        cause = refl;
        effect = λ met. (none_made refl met.sound, refl, record { settled = met.has.settled; unnamed = met.has.is.unnamed; parts = tt; dated = tt; bytes = refl; others = λ folder name other. refl });
        settled = λ observable settled. settled;
      };
    }))

pub same_below : (n : ℕ) (list : List SealedPart) → list_all (λ (q : Piece). nat_lt q.number n) (map piece_in list) ≡ list_all (λ (p : SealedPart). nat_lt p.number n) list
same_below n [] = refl
same_below n (p ∷ list) = ap (λ t. nat_lt p.number n && t) (same_below n list)

-- what the piece of the loop keeps
pub piece_at : (i : ℕ) (cut : List Piece) (d : Piece) → is_cut (size_of_cut cut) cut ≡ true → i < length cut → IsPieceAt i cut (get_or cut i d)
piece_at i cut d is below =
    let keeps = keeps_cut (size_of_cut cut) cut is in
    let piece : Piece = get_or cut i d in
    let parts = and_parts (nat_le piece.number greatest_part) _ (passes_at cut i d keeps.pieces below) in
    let sizes = and_parts (nat_le 1 piece.size) (nat_le piece.size most_body_bytes) parts.1 in
    let order = below_at 0 cut i d keeps.ascends below in
    let counted = order.0 in
    record {
      number = record { counted = omega (arith, counted); within = leb-true piece.number greatest_part parts.0 };
      small = leb-true piece.size most_body_bytes sizes.1;
      below = order.1;
    }

module _ {a b : History} {bucket : List ℕ} {id : ℕ} {from_bucket : List ℕ} {from_id moment : ℕ} {cut first : List Piece} {list : List SealedPart}
    (copying : Copying a b bucket id from_bucket from_id moment cut first list) (piece : Piece) (of_cut : (S : Names SwiftObject) → ArePiecesHere S (id_digits from_id) cut → IsPieceHere S (id_digits from_id) piece) where
  may_here : (old new : SwiftAccount) → GivenOf (MayCopy bucket id from_bucket from_id cut) old → CopiesFirst bucket id from_bucket from_id first moment old new list
      → GivenOf (MayCopyPiece bucket id from_bucket from_id piece) new
  may_here old new has told = record {
    settled = told.settled;
    is = record {
      unnamed = told.unnamed;
      here = of_cut (files new (segments_name from_bucket)) (pieces_stay bucket id from_bucket from_id old new has.is.apart told.others cut has.is.here);
    };
  }

  longer : 2 * length first + 2 ≤ 2 * length (first ++ piece ∷ [])
  longer = let long = length-append first (piece ∷ []) in omega (arith, long)

  -- one more was copied
  then_one : {c : History} {part : SealedPart} → piece.number ≤ greatest_part → list_all (λ (q : Piece). nat_lt q.number piece.number) first ≡ true
      → Asks (always 2) b c (GivenOf (MayCopyPiece bucket id from_bucket from_id piece)) (CopiesPiece bucket id from_bucket from_id piece moment) (Ok part)
      → Asks (always (2 * length (first ++ piece ∷ []))) a c (GivenOf (MayCopy bucket id from_bucket from_id cut)) (λ old last p. CopiesFirst bucket id from_bucket from_id (first ++ piece ∷ []) moment old last (list ++ p ∷ [])) (Ok part)
  then_one counted below asks =
      let less : list_all (λ (p : SealedPart). nat_lt p.number piece.number) list ≡ true = sym (same_below piece.number list) ∙ ap (list_all (λ (q : Piece). nat_lt q.number piece.number)) copying.listed.pieces ∙ below in
      asks_then {R = λ old last p. CopiesFirst bucket id from_bucket from_id (first ++ piece ∷ []) moment old last (list ++ p ∷ [])} longer copying.asks asks
      (λ old new sound same has told. may_here old new has told)
      (λ old new last p sound has told more. first_more counted less has.is.apart told more)

  pub copying_more : {c : History} {part : SealedPart} {list' : List SealedPart} → piece.number ≤ greatest_part → list_all (λ (q : Piece). nat_lt q.number piece.number) first ≡ true
      → Asks (always 2) b c (GivenOf (MayCopyPiece bucket id from_bucket from_id piece)) (CopiesPiece bucket id from_bucket from_id piece moment) (Ok part)
      → piece_in part ≡ piece → part_fits_sealed_text part ≡ true → list' ≡ list ++ part ∷ [] → Copying a c bucket id from_bucket from_id moment cut (first ++ piece ∷ []) list'
  copying_more {c = c} {part = part} {list' = list'} counted below asks of_piece proper grown = record {
    listed = record {
      pieces = ap (map piece_in) grown ∙ map-append piece_in list (part ∷ []) ∙ (λ i. copying.listed.pieces i ++ of_piece i ∷ []);
      proper = ap (list_all part_fits_sealed_text) grown ∙ list_all-append part_fits_sealed_text list (part ∷ []) ∙ and_from _ _ copying.listed.proper (and_from _ _ proper refl);
    };
    asks = asks_left {R = CopiesFirst bucket id from_bucket from_id (first ++ piece ∷ []) moment} list' (omega arith) (then_one counted below asks)
        (λ old new sound same has told. subst (CopiesFirst bucket id from_bucket from_id (first ++ piece ∷ []) moment old new) (sym grown) told);
  }

  both_made : {c : History} {U : Type 0} {P : SwiftAccount → SwiftAccount → U → Type 0} {result : Result U PlanFault} → Asks (always 2) b c (GivenOf (MayCopyPiece bucket id from_bucket from_id piece)) P result
      → Asks (always (2 * length (first ++ piece ∷ []))) a c (GivenOf (MayCopy bucket id from_bucket from_id cut)) (λ old last (p : U). Unit {0}) result
  both_made asks = asks_then {R = λ old last p. Unit {0}} longer copying.asks asks (λ old new sound same has told. may_here old new has told) (λ old new last p sound has told more. tt)

  -- it wasn't
  pub copying_fault : {c : History} {f : PlanFault} {most : ℕ} → length first < most → Asks (always 2) b c (GivenOf (MayCopyPiece bucket id from_bucket from_id piece)) (CopiesPiece bucket id from_bucket from_id piece moment) (Err f)
      → (result : Result (List SealedPart) PlanFault) → IsErrAnd result (λ e. e ≡ f)
      → Asks (always (2 * most)) a c (GivenOf (MayCopy bucket id from_bucket from_id cut)) (CopiesFirst bucket id from_bucket from_id cut moment) result
  copying_fault {most = most} few asks result is =
      asks_failed {R = CopiesFirst bucket id from_bucket from_id cut moment} (let long = length-append first (piece ∷ []) in omega (arith, few, long)) (both_made asks) result is

  -- and then there was no memory to list it
  pub copying_unlisted : {c : History} {part : SealedPart} {most : ℕ} → length first < most → Asks (always 2) b c (GivenOf (MayCopyPiece bucket id from_bucket from_id piece)) (CopiesPiece bucket id from_bucket from_id piece moment) (Ok part)
      → (result : Result (List SealedPart) PlanFault) → IsErrAnd result (λ e. e ≡ fault.Memory)
      → Asks (always (2 * most)) a c (GivenOf (MayCopy bucket id from_bucket from_id cut)) (CopiesFirst bucket id from_bucket from_id cut moment) result
  copying_unlisted {most = most} few asks result is =
      asks_no_memory {R = CopiesFirst bucket id from_bucket from_id cut moment} (let long = length-append first (piece ∷ []) in omega (arith, few, long)) (both_made asks) result is

-- a piece of the cut is there where all are
pub of_the_cut : (id : List ℕ) (cut : List Piece) (i : ℕ) (d : Piece) → i < length cut → (S : Names SwiftObject) → ArePiecesHere S id cut → IsPieceHere S id (get_or cut i d)
of_the_cut id cut i d below S here = here_at S id cut i d here below

-- the first pieces, and the next
pub copying_next : {a b c : History} {bucket : List ℕ} {id : ℕ} {from_bucket : List ℕ} {from_id moment : ℕ} (cut : List Piece) (i : ℕ) (d : Piece) {list list' : List SealedPart} {part : SealedPart}
    → Copying a b bucket id from_bucket from_id moment cut (take i cut) list → i < length cut → is_cut (size_of_cut cut) cut ≡ true
    → Asks (always 2) b c (GivenOf (MayCopyPiece bucket id from_bucket from_id (get_or cut i d))) (CopiesPiece bucket id from_bucket from_id (get_or cut i d) moment) (Ok part)
    → piece_in part ≡ get_or cut i d → part_fits_sealed_text part ≡ true → list' ≡ list ++ part ∷ [] → Copying a c bucket id from_bucket from_id moment cut (take (i + 1) cut) list'
copying_next {a = a} {c = c} {bucket = bucket} {id = id} {from_bucket = from_bucket} {from_id = from_id} {moment = moment} cut i d {list' = list'} copying below is asks of_piece proper grown =
    subst (λ first. Copying a c bucket id from_bucket from_id moment cut first list') (sym (take_more cut i d below))
    (let at_loop = piece_at i cut d is below in copying_more copying (get_or cut i d) (of_the_cut (id_digits from_id) cut i d below) at_loop.number.within at_loop.below asks of_piece proper grown)

-- there are fewer than all
pub fewer : {X : Type 0} (i : ℕ) (xs : List X) → i < length xs → length (take i xs) < length xs
fewer i xs below = let short = length-take i xs in omega (arith, short, below)

-- all were
pub copying_all : {a b : History} {bucket : List ℕ} {id : ℕ} {from_bucket : List ℕ} {from_id moment : ℕ} (cut : List Piece) (i : ℕ) {list : List SealedPart} → Copying a b bucket id from_bucket from_id moment cut (take i cut) list
    → length cut ≤ i
    → AreOfCut cut list × Asks (always (2 * length cut)) a b (GivenOf (MayCopy bucket id from_bucket from_id cut)) (CopiesFirst bucket id from_bucket from_id cut moment) (Ok list)
copying_all {a = a} {b = b} {bucket = bucket} {id = id} {from_bucket = from_bucket} {from_id = from_id} {moment = moment} cut i {list = list} copying far =
    let all = take_all i cut far in (
      subst (λ c. AreOfCut c list) all copying.listed,
      subst (λ c. Asks (always (2 * length c)) a b (GivenOf (MayCopy bucket id from_bucket from_id cut)) (CopiesFirst bucket id from_bucket from_id c moment) (Ok list)) all copying.asks,
    )
