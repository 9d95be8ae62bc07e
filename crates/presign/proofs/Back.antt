-- A URL that is made reads as what it was made of.
use Rattle.std.proofs.Common.{◌≡◌, ℕ, ◌<◌, Bool, true, false, not, ◌&&◌, List, [], ◌∷◌, ◌++◌, length, All, Ok, map, codes, append_assoc, append-nil, length-append, refl, ap, sym, subst, ◌∙◌, arith}
use Rattle.std.specs.Prelude.{IsPermutation, filter}
use Rattle.std.specs.List.{AllPass, join_with_byte, list_all, list_any}
use Rattle.std.proofs.lemmas.Bool.{and_from, and_parts}
use Rattle.std.proofs.lemmas.List.Elements.{All-nil, All-cons, All-append, All-weaker, filter-append}
use Rattle.std.proofs.lemmas.List.Sums.{AllPass-from_list_all, list_all-from_AllPass}
use Rattle.std.proofs.lemmas.List.Folds.{list_all-append}
use Rattle.std.proofs.lemmas.List.Sorted.{All-permutation, IsPermutation-append_left, length_permutation, list_any-IsPermutation}
use Rattle.percent_encoding.specs.Percent.{percent_decode}
use Rattle.gate_base.specs.declared.page.Pair.{Pair}
use Rattle.s3_names.specs.declared.target.Target.{Target}
use Rattle.s3_names.specs.Escapes.{stays_in_path, is_escaped_byte, escaped_all, escaped_path}
use Rattle.s3_names.specs.Query.{without, pieces, pair_of, is_text_pair, query_of}
use Rattle.s3_names.specs.Target.{is_question, path_text, query_text, bucket_text, key_text, target_of}
use Rattle.s3_names.specs.Text.{is_text}
use Rattle.s3_names.proofs.lemmas.EscapeLemmas.{escaped_bytes_path, decoded_path}
use Rattle.http_wire.specs.Headers.{has_name}
use Rattle.sigv4.specs.Canonical.{pair_text, canonical_query}
use Rattle.sigv4.proofs.lemmas.Cuts.{is_free, before_of, after_of, all_weaker}
use Rattle.presign.specs.Laws.{IsBytes, IsBytePair, IsWhole}
use Rattle.presign.specs.Parameters.{without_signature}
use Rattle.presign.specs.Url.{scope_parameters, span_parameters, url_text}
use Rattle.presign.proofs.Finds.{behind_any, all_kept}
use Rattle.presign.proofs.Given.{six, LacksEach}
use Rattle.presign.proofs.Ordering.{in_order, moved_query}
use Rattle.presign.proofs.Parts.{is_plain, bytes_by, text_by, IsSignature}
use Rattle.presign.proofs.Pieces.{apart, reads, piece, pieces_joined, pairs_back, query_back, joined_more, target_is, target_parts}
use Rattle.presign.proofs.Paths.{path_kept}
use Rattle.presign.proofs.Shuffles.{kept_moved}

-- the parameter of a signature
abbrev pub signature_pair : List ℕ → Pair
signature_pair signature = record { name = codes "X-Amz-Signature"; value = signature }

-- the parameters that are signed besides those of the target
abbrev pub five : List ℕ → List ℕ → List ℕ → List Pair
five credential time seconds = scope_parameters credential time ++ span_parameters seconds

abbrev is_plain_pair : Pair → Bool
is_plain_pair pair = list_all is_plain pair.name && list_all is_plain pair.value

pair_by : (pair : Pair) → is_plain_pair pair ≡ true → IsBytePair pair
pair_by pair h =
    let parts = and_parts (list_all is_plain pair.name) (list_all is_plain pair.value) h in
    (bytes_by pair.name parts.0, bytes_by pair.value parts.1)

pair_texts : (pair : Pair) → is_plain_pair pair ≡ true → is_text_pair pair ≡ true
pair_texts pair h =
    let parts = and_parts (list_all is_plain pair.name) (list_all is_plain pair.value) h in
    and_from (is_text pair.name) (is_text pair.value) (text_by pair.name parts.0) (text_by pair.value parts.1)

five_plain : (credential time seconds : List ℕ) → list_all is_plain credential ≡ true → list_all is_plain time ≡ true → list_all is_plain seconds ≡ true → AllPass is_plain_pair (five credential time seconds)
five_plain credential time seconds one two three =
    let a : Bool = list_all is_plain credential in
    let b : Bool = list_all is_plain time in
    let c : Bool = list_all is_plain seconds in
    let tests : list_all is_plain_pair (five credential time seconds) ≡ true = and_from a (b && (c && true)) one (and_from b (c && true) two (and_from c true three refl)) in
    AllPass-from_list_all is_plain_pair (five credential time seconds) tests

-- such pairs are of bytes, and texts
pub record AreTexts (pairs : List Pair) : Type 0 where
  pub bytes : All IsBytePair pairs
  pub texts : AllPass is_text_pair pairs

pub five_texts : (credential time seconds : List ℕ) → list_all is_plain credential ≡ true → list_all is_plain time ≡ true → list_all is_plain seconds ≡ true → AreTexts (five credential time seconds)
five_texts credential time seconds one two three =
    let plain = five_plain credential time seconds one two three in
    record {
      bytes = All-weaker (λ pair. is_plain_pair pair ≡ true) IsBytePair pair_by (five credential time seconds) plain;
      texts = All-weaker (λ pair. is_plain_pair pair ≡ true) (λ pair. is_text_pair pair ≡ true) pair_texts (five credential time seconds) plain;
    }

-- the text of a URL by its path and its query
url_is : (path query name signature : List ℕ) → (((path ++ 63 ∷ []) ++ query) ++ name) ++ signature ≡ path ++ 63 ∷ (query ++ (name ++ signature))
url_is path query name signature =
    append_assoc ((path ++ 63 ∷ []) ++ query) name signature ∙ (append_assoc (path ++ 63 ∷ []) query (name ++ signature) ∙ append_assoc path (63 ∷ []) (query ++ (name ++ signature)))

signature_piece : (signature : List ℕ) → escaped_all signature ≡ signature → codes "&X-Amz-Signature=" ++ signature ≡ 38 ∷ piece (signature_pair signature)
unfolding escaped_all
signature_piece signature plain = ap (λ text. codes "&X-Amz-Signature=" ++ text) (sym plain)

free_path : (path : List ℕ) → IsBytes path → is_free is_question (escaped_path path) ≡ true
free_path path small =
    all_weaker (is_escaped_byte stays_in_path) (λ b. not (is_question b)) (apart (is_escaped_byte stays_in_path) 63 refl) (escaped_path path) (escaped_bytes_path path small)

module _ (target : Target) (credential time seconds signature : List ℕ) (path : IsBytes target.path) (query : All IsBytePair target.query) (more : AreTexts (five credential time seconds)) (form : IsSignature signature) (lacks : LacksEach target.query) where
  -- the query as it is signed
  abbrev signed : List Pair
  signed = target.query ++ five credential time seconds

  signed_small : All IsBytePair signed
  signed_small = All-append IsBytePair target.query (five credential time seconds) query more.bytes

  -- the text has this path and the pairs that were signed, in some order, with the signature behind them
  pub record Shape (url : List ℕ) : Type 0 where
    pub sorted : List Pair
    pub moved : IsPermutation signed sorted
    pub some : 0 < length (sorted ++ signature_pair signature ∷ [])
    pub small : All IsBytePair (sorted ++ signature_pair signature ∷ [])
    pub front : path_text url ≡ escaped_path target.path
    pub joined : query_text url ≡ join_with_byte 38 (map piece (sorted ++ signature_pair signature ∷ []))

  pub shape_of : (url : List ℕ) → url ≡ url_text target.path signed signature → Shape url
  shape_of url text =
      let order = in_order signed signed_small in
      let sorted : List Pair = order.sorted in
      let few : All IsBytePair sorted = All-permutation IsBytePair signed sorted order.moved signed_small in
      let some : 0 < length sorted = omega (arith, length_permutation signed sorted order.moved, length-append target.query (five credential time seconds)) in
      let behind_path : List ℕ = canonical_query signed ++ (codes "&X-Amz-Signature=" ++ signature) in
      let whole : url ≡ escaped_path target.path ++ 63 ∷ behind_path = text ∙ url_is (escaped_path target.path) (canonical_query signed) (codes "&X-Amz-Signature=") signature in
      let behind : query_text url ≡ behind_path = ap query_text whole ∙ after_of is_question (escaped_path target.path) 63 behind_path (free_path target.path path) refl in
      record {
        sorted = sorted;
        moved = order.moved;
        some = omega (arith, length-append sorted (signature_pair signature ∷ []));
        small = All-append IsBytePair sorted (signature_pair signature ∷ []) few (All-cons IsBytePair (signature_pair signature) [] (bytes_by (codes "X-Amz-Signature") refl, bytes_by signature form.plain) (All-nil IsBytePair));
        front = ap path_text whole ∙ before_of is_question (escaped_path target.path) 63 behind_path (free_path target.path path) refl;
        joined =
            behind
            ∙ (ap (λ t. canonical_query signed ++ t) (signature_piece signature form.itself)
            ∙ (ap (λ ps. join_with_byte 38 (map pair_text ps) ++ 38 ∷ piece (signature_pair signature)) order.shown ∙ joined_more sorted (signature_pair signature) some));
      }

  -- a target of this path and of those pairs
  pub record Back (read : Target) : Type 0 where
    pub sorted : List Pair
    pub moved : IsPermutation signed sorted
    pub pairs : read.query ≡ sorted ++ signature_pair signature ∷ []
    pub same_path : read.path ≡ target.path

  -- what is read is that
  pub back : (url : List ℕ) (read : Target) → Shape url → target_of url ≡ Ok read → Back read
  back url read shape answer =
      let all : List Pair = shape.sorted ++ signature_pair signature ∷ [] in
      let parts = target_parts url read answer in
      record {
        sorted = shape.sorted;
        moved = shape.moved;
        pairs = parts.1 ∙ (ap (λ t. map pair_of (pieces t)) shape.joined ∙ (ap (map pair_of) (pieces_joined all shape.some shape.small) ∙ pairs_back all shape.small));
        same_path = parts.0 ∙ (ap percent_decode shape.front ∙ (reads (escaped_path target.path) target.path (decoded_path target.path path)).1);
      }

  -- and it is read
  pub record Reads (url : List ℕ) : Type 0 where
    pub read : Target
    pub answer : target_of url ≡ Ok read
    pub bucket : read.bucket ≡ target.bucket
    pub key : read.key ≡ target.key

  pub is_read : (url : List ℕ) → Shape url → IsWhole target → Reads url
  is_read url shape whole =
      let all : List Pair = shape.sorted ++ signature_pair signature ∷ [] in
      let kept = path_kept target.path whole.slash path in
      let given : AllPass is_text_pair signed = All-append (λ pair. is_text_pair pair ≡ true) target.query (five credential time seconds) (AllPass-from_list_all is_text_pair target.query whole.query_is_texts) more.texts in
      let moved : AllPass is_text_pair shape.sorted = All-permutation (λ pair. is_text_pair pair ≡ true) signed shape.sorted shape.moved given in
      let last : is_text_pair (signature_pair signature) ≡ true = and_from (is_text (codes "X-Amz-Signature")) (is_text signature) (text_by (codes "X-Amz-Signature") refl) (text_by signature form.plain) in
      let texts : list_all is_text_pair all ≡ true =
      list_all-append is_text_pair shape.sorted (signature_pair signature ∷ []) ∙ and_from (list_all is_text_pair shape.sorted) (is_text_pair (signature_pair signature) && true) (list_all-from_AllPass is_text_pair shape.sorted moved) (and_from (is_text_pair (signature_pair signature)) true last refl) in
      let key : percent_decode (key_text (escaped_path target.path)) ≡ target.key = kept.key ∙ sym whole.key in
      record {
        read = record {
          raw_path = escaped_path target.path;
          path = percent_decode (escaped_path target.path);
          bucket = percent_decode (bucket_text (escaped_path target.path));
          key = percent_decode (key_text (escaped_path target.path));
          query = all;
        };
        answer = target_is url (escaped_path target.path) all shape.front kept.fits (ap is_text key ∙ whole.key_is_text) (ap query_of shape.joined ∙ query_back all shape.some shape.small texts);
        bucket = kept.bucket ∙ sym whole.bucket;
        key = key;
      }

  module _ (read : Target) (b : Back read) where
    -- the six parameters stand in it
    pub six_moved : IsPermutation (target.query ++ six credential time seconds signature) read.query
    six_moved =
        let added = IsPermutation-append_left (signature_pair signature ∷ []) signed b.sorted b.moved in
        let grown : IsPermutation (target.query ++ six credential time seconds signature) (b.sorted ++ signature_pair signature ∷ []) =
        subst (λ ps. IsPermutation ps (b.sorted ++ signature_pair signature ∷ [])) (append_assoc target.query (five credential time seconds) (signature_pair signature ∷ [])) added in
        subst (IsPermutation (target.query ++ six credential time seconds signature)) (sym b.pairs) grown

    -- the query without its signature signs as it did
    pub same_query : canonical_query (without (codes "X-Amz-Signature") read.query) ≡ canonical_query signed
    same_query =
        let named : Pair → Bool = has_name (codes "X-Amz-Signature") in
        let none = sym (list_any-IsPermutation named signed b.sorted b.moved) ∙ behind_any named target.query (five credential time seconds) lacks.signature in
        let kept : without (codes "X-Amz-Signature") read.query ≡ b.sorted =
        ap (without (codes "X-Amz-Signature")) b.pairs ∙ (filter-append (λ pair. not (named pair)) b.sorted (signature_pair signature ∷ []) ∙ (append-nil (filter (λ pair. not (named pair)) b.sorted) ∙ all_kept named b.sorted none)) in
        ap canonical_query kept ∙ moved_query signed b.sorted b.moved

    gone : (name : List ℕ) (pairs : List Pair) → list_any (has_name name) target.query ≡ false → without name (target.query ++ pairs) ≡ target.query ++ without name pairs
    gone name pairs none =
        filter-append (λ pair. not (has_name name pair)) target.query pairs ∙ ap (λ ps. ps ++ without name pairs) (all_kept (has_name name) target.query none)

    -- without the six it is the target's query, in some order
    pub asks_the_same : IsPermutation target.query (without_signature read.query)
    asks_the_same =
        let all : List Pair = six credential time seconds signature in
        let one : List Pair = without (codes "X-Amz-Algorithm") all in
        let two : List Pair = without (codes "X-Amz-Credential") one in
        let three : List Pair = without (codes "X-Amz-Date") two in
        let four : List Pair = without (codes "X-Amz-Expires") three in
        let five_gone : List Pair = without (codes "X-Amz-SignedHeaders") four in
        let cut : without_signature (target.query ++ all) ≡ target.query ++ [] =
        ap (λ ps. without (codes "X-Amz-Signature") (without (codes "X-Amz-SignedHeaders") (without (codes "X-Amz-Expires") (without (codes "X-Amz-Date") (without (codes "X-Amz-Credential") ps))))) (gone (codes "X-Amz-Algorithm") all lacks.algorithm)
        ∙ (ap (λ ps. without (codes "X-Amz-Signature") (without (codes "X-Amz-SignedHeaders") (without (codes "X-Amz-Expires") (without (codes "X-Amz-Date") ps)))) (gone (codes "X-Amz-Credential") one lacks.credential)
        ∙ (ap (λ ps. without (codes "X-Amz-Signature") (without (codes "X-Amz-SignedHeaders") (without (codes "X-Amz-Expires") ps))) (gone (codes "X-Amz-Date") two lacks.date)
        ∙ (ap (λ ps. without (codes "X-Amz-Signature") (without (codes "X-Amz-SignedHeaders") ps)) (gone (codes "X-Amz-Expires") three lacks.expires)
        ∙ (ap (without (codes "X-Amz-Signature")) (gone (codes "X-Amz-SignedHeaders") four lacks.names)
        ∙ gone (codes "X-Amz-Signature") five_gone lacks.signature)))) in
        let still = λ (name : List ℕ) (ps qs : List Pair) (h : IsPermutation ps qs). kept_moved (λ pair. not (has_name name pair)) ps qs h in
        let moved = still (codes "X-Amz-Signature") _ _ (still (codes "X-Amz-SignedHeaders") _ _ (still (codes "X-Amz-Expires") _ _ (still (codes "X-Amz-Date") _ _ (still (codes "X-Amz-Credential") _ _ (still (codes "X-Amz-Algorithm") (target.query ++ all) read.query six_moved))))) in
        subst (λ ps. IsPermutation ps (without_signature read.query)) (cut ∙ append-nil target.query) moved
