-- Reading an Authorization header finds exactly the parts of which the header is the text.
use Rattle.std.proofs.Common.{◌≡◌, ℕ, ◌<◌, Bool, true, false, cond, not, eqb, ◌&&◌, List, [], ◌∷◌, ◌++◌, length, drop, codes, replicate, refl, ap, sym, ◌∙◌, subst, inl, inr, nat_eq, Some, None, bytes_eq}
use Rattle.std.specs.Prelude.{nat_lt}
use Rattle.std.specs.List.{list_all, starts_with, slice_split, before_first, after_first, join_with_byte}
use Rattle.std.specs.Cmp.Lexicographic.{same_text}
use Rattle.std.specs.Char.{is_ascii_uppercase}
use Rattle.std.proofs.lemmas.Bool.{cases_eq, and_from, and_parts, false≢true, ne_eqb, ltb-true, cond-true}
use Rattle.std.proofs.lemmas.List.Splits.{join_with_byte-slice_split}
use Rattle.httparse.specs.Grammar.{is_token_byte}
use Rattle.gate_base.specs.Ascii.{is_visible}
use Rattle.gate_base.specs.Ascii.{is_slash}
use Rattle.sigv4.specs.Authorization.{is_comma, is_semicolon, is_credential_byte, is_part, is_name_byte, is_name, are_ascending, are_names, is_hex, is_formed, credential_text, authorization_text, IsAuthorization, skip_spaces, algorithm_section, credential_section, names_section, signature_section, behind_id, behind_date, behind_region, behind_service, credential_of, is_labelled, parts_of, authorization_of}
use Rattle.sigv4.specs.declared.authorization.Authorization.{Authorization}
use Rattle.sigv4.proofs.CutLemmas.{is_free, before_of, after_of, cut_by, begins, spaces_back, spaces_skipped, all_replicated, all_joined, all_weaker, all_in_join, split_joined}

abbrev request_word : List ℕ
request_word = codes "aws4_request"

-- the credential is its five parts
credential_back : (credential : List ℕ) → bytes_eq (behind_service credential) request_word ≡ true → credential ≡ join_with_byte 47 (before_first is_slash credential ∷ before_first is_slash (behind_id credential) ∷ before_first is_slash (behind_date credential) ∷ before_first is_slash (behind_region credential) ∷ request_word ∷ [])
credential_back credential h =
    let after : List ℕ → List ℕ = λ t. after_first is_slash t in
    let before : List ℕ → List ℕ = λ t. before_first is_slash t in
    let one : credential ≡ before credential ++ 47 ∷ behind_id credential = cut_by 47 credential (λ t. bytes_eq (after (after (after t))) request_word ≡ true) h false≢true in
    let two : behind_id credential ≡ before (behind_id credential) ++ 47 ∷ behind_date credential = cut_by 47 (behind_id credential) (λ t. bytes_eq (after (after t)) request_word ≡ true) h false≢true in
    let three : behind_date credential ≡ before (behind_date credential) ++ 47 ∷ behind_region credential = cut_by 47 (behind_date credential) (λ t. bytes_eq (after t) request_word ≡ true) h false≢true in
    let four : behind_region credential ≡ before (behind_region credential) ++ 47 ∷ behind_service credential = cut_by 47 (behind_region credential) (λ t. bytes_eq t request_word ≡ true) h false≢true in
    let last : behind_service credential ≡ request_word = same_text (behind_service credential) request_word (sym h) in
    one ∙ ap (λ t. before credential ++ 47 ∷ t) (two ∙ ap (λ t. before (behind_id credential) ++ 47 ∷ t) (three ∙ ap (λ t. before (behind_date credential) ++ 47 ∷ t) (four ∙ ap (λ t. before (behind_region credential) ++ 47 ∷ t) last)))

abbrev Words : List ℕ → Type 0
Words text =
    (starts_with nat_eq (algorithm_section text) (codes "AWS4-HMAC-SHA256 ") ≡ true)
    × (starts_with nat_eq (credential_section text) (codes "Credential=") ≡ true)
    × (starts_with nat_eq (names_section text) (codes "SignedHeaders=") ≡ true)
    × (starts_with nat_eq (signature_section text) (codes "Signature=") ≡ true)
    × (bytes_eq (behind_service (credential_of text)) request_word ≡ true)

five_parts : (a b c d e : Bool) → (a && b && c && d && e) ≡ true → (a ≡ true) × (b ≡ true) × (c ≡ true) × (d ≡ true) × (e ≡ true)
five_parts a b c d e h =
    let four = and_parts (a && b && c && d) e h in
    let three = and_parts (a && b && c) d four.0 in
    let two = and_parts (a && b) c three.0 in
    let one = and_parts a b two.0 in
    (one.0, one.1, two.1, three.1, four.1)

five_from : (a b c d e : Bool) → a ≡ true → b ≡ true → c ≡ true → d ≡ true → e ≡ true → (a && b && c && d && e) ≡ true
five_from a b c d e ha hb hc hd he = and_from (a && b && c && d) e (and_from (a && b && c) d (and_from (a && b) c (and_from a b ha hb) hc) hd) he

words_of : (text : List ℕ) → is_labelled text ≡ true → Words text
words_of text h =
    five_parts (starts_with nat_eq (algorithm_section text) (codes "AWS4-HMAC-SHA256 ")) (starts_with nat_eq (credential_section text) (codes "Credential=")) (starts_with nat_eq (names_section text) (codes "SignedHeaders=")) (starts_with nat_eq (signature_section text) (codes "Signature=")) (bytes_eq (behind_service (credential_of text)) request_word) h

-- the first section of a text that is read
first_back : (text : List ℕ) → Words text → (n : ℕ) × (before_first is_comma text ≡ codes "AWS4-HMAC-SHA256 " ++ (replicate n 32 ++ (codes "Credential=" ++ credential_text (parts_of text))))
unfolding algorithm_section credential_section parts_of
first_back text w =
    let section : List ℕ = before_first is_comma text in
    let spaces = spaces_back (drop 17 section) in
    let field : skip_spaces (drop 17 section) ≡ codes "Credential=" ++ credential_of text = begins (skip_spaces (drop 17 section)) (codes "Credential=") w.1 in
    (spaces.0, begins section (codes "AWS4-HMAC-SHA256 ") w.0 ∙ ap (λ t. codes "AWS4-HMAC-SHA256 " ++ t) (spaces.1 ∙ ap (λ t. replicate spaces.0 32 ++ t) (field ∙ ap (λ t. codes "Credential=" ++ t) (credential_back (credential_of text) w.4))))

-- the second
second_back : (text : List ℕ) → Words text → (n : ℕ) × (before_first is_comma (after_first is_comma text) ≡ replicate n 32 ++ (codes "SignedHeaders=" ++ join_with_byte 59 (parts_of text).names))
unfolding names_section parts_of
second_back text w =
    let section : List ℕ = before_first is_comma (after_first is_comma text) in
    let spaces = spaces_back section in
    let field : skip_spaces section ≡ codes "SignedHeaders=" ++ drop 14 (skip_spaces section) = begins (skip_spaces section) (codes "SignedHeaders=") w.2 in
    (spaces.0, spaces.1 ∙ ap (λ t. replicate spaces.0 32 ++ t) (field ∙ ap (λ t. codes "SignedHeaders=" ++ t) (sym (join_with_byte-slice_split 59 (drop 14 (skip_spaces section))))))

-- and the third
third_back : (text : List ℕ) → Words text → (n : ℕ) × (after_first is_comma (after_first is_comma text) ≡ replicate n 32 ++ (codes "Signature=" ++ (parts_of text).signature))
unfolding signature_section parts_of
third_back text w =
    let section : List ℕ = after_first is_comma (after_first is_comma text) in
    let spaces = spaces_back section in
    (spaces.0, spaces.1 ∙ ap (λ t. replicate spaces.0 32 ++ t) (begins (skip_spaces section) (codes "Signature=") w.3))

sections_back : (text : List ℕ) → Words text → text ≡ before_first is_comma text ++ 44 ∷ (before_first is_comma (after_first is_comma text) ++ 44 ∷ after_first is_comma (after_first is_comma text))
unfolding names_section signature_section skip_spaces
sections_back text w =
    let rest : List ℕ = after_first is_comma text in
    cut_by 44 text (λ t. starts_with nat_eq (skip_spaces (before_first is_comma t)) (codes "SignedHeaders=") ≡ true) w.2 false≢true
    ∙ ap (λ t. before_first is_comma text ++ 44 ∷ t) (cut_by 44 rest (λ t. starts_with nat_eq (skip_spaces t) (codes "Signature=") ≡ true) w.3 false≢true)

-- a text that is read is the text of its parts
pub text_back : (text : List ℕ) → is_labelled text ≡ true → is_formed (parts_of text) ≡ true → IsAuthorization text (parts_of text)
text_back text h formed =
    let w = words_of text h in
    let one = first_back text w in
    let two = second_back text w in
    let three = third_back text w in
    (one.0, two.0, three.0, sections_back text w ∙ (ap (λ t. t ++ 44 ∷ (before_first is_comma (after_first is_comma text) ++ 44 ∷ after_first is_comma (after_first is_comma text))) one.1 ∙ ap (λ t. (codes "AWS4-HMAC-SHA256 " ++ (replicate one.0 32 ++ (codes "Credential=" ++ credential_text (parts_of text)))) ++ 44 ∷ t) (ap (λ t. t ++ 44 ∷ after_first is_comma (after_first is_comma text)) two.1 ∙ ap (λ t. (replicate two.0 32 ++ (codes "SignedHeaders=" ++ join_with_byte 59 (parts_of text).names)) ++ 44 ∷ t) three.1)), formed)

-- a part has no slash and no comma
part_bytes : (part : List ℕ) → is_part part ≡ true → (is_free is_slash part ≡ true) × (is_free is_comma part ≡ true)
part_bytes part h =
    let bytes = (and_parts (nat_lt 0 (length part)) (list_all is_credential_byte part) h).1 in
    (all_weaker is_credential_byte (λ b. not (is_slash b)) (λ b k. (and_parts (is_visible b) (not (is_slash b)) (and_parts (is_visible b && not (is_slash b)) (not (is_comma b)) k).0).1) part bytes, all_weaker is_credential_byte (λ b. not (is_comma b)) (λ b k. (and_parts (is_visible b && not (is_slash b)) (not (is_comma b)) k).1) part bytes)

-- a byte of a name is not one that no token has
name_byte_differs : (c : ℕ) → is_token_byte c ≡ false → (b : ℕ) → is_name_byte b ≡ true → not (eqb b c) ≡ true
name_byte_differs c never b h =
    let P : ℕ → Type 0 = λ x. is_token_byte x ≡ true in
    elim (cases_eq b c) [
      | inl e ↦ absurd (false≢true (sym never ∙ subst P e (and_parts (is_token_byte b) (not (is_ascii_uppercase b)) h).0))
      | inr e ↦ ap not (ne_eqb b c e)
    ]

comma_no_token : is_token_byte 44 ≡ false
unfolding is_token_byte
comma_no_token = refl

semicolon_no_token : is_token_byte 59 ≡ false
unfolding is_token_byte
semicolon_no_token = refl

names_free : (c : ℕ) → is_token_byte c ≡ false → (names : List (List ℕ)) → list_all is_name names ≡ true → list_all (λ name. is_free (λ b. eqb b c) name) names ≡ true
names_free c never [] h = refl
names_free c never (name ∷ names) h =
    let parts = and_parts (is_name name) (list_all is_name names) h in
    and_from (is_free (λ b. eqb b c) name) (list_all (λ n. is_free (λ b. eqb b c) n) names) (all_weaker is_name_byte (λ b. not (eqb b c)) (name_byte_differs c never) name (and_parts (nat_lt 0 (length name)) (list_all is_name_byte name) parts.0).1) (names_free c never names parts.1)

-- what the test of the form says of each part
record Formed (parts : Authorization) : Type 0 where
  id : is_part parts.id ≡ true
  date : is_part parts.date ≡ true
  region : is_part parts.region ≡ true
  service : is_part parts.service ≡ true
  some : 0 < length parts.names
  names : list_all is_name parts.names ≡ true

formed_of : (parts : Authorization) → is_formed parts ≡ true → Formed parts
formed_of parts h =
    let a : Bool = is_part parts.id in
    let b : Bool = is_part parts.date in
    let c : Bool = is_part parts.region in
    let d : Bool = is_part parts.service in
    let e : Bool = are_names parts.names in
    let five = and_parts (a && b && c && d && e) (is_hex parts.signature) h in
    let all = five_parts a b c d e five.0 in
    let names = (and_parts (nat_lt 0 (length parts.names) && list_all is_name parts.names) (are_ascending parts.names) all.4).0 in
    let two = and_parts (nat_lt 0 (length parts.names)) (list_all is_name parts.names) names in
    record { id = all.0; date = all.1; region = all.2; service = all.3; some = ltb-true 0 (length parts.names) two.0; names = two.1 }

abbrev first_text : ℕ → Authorization → List ℕ
first_text n parts = codes "AWS4-HMAC-SHA256 " ++ (replicate n 32 ++ (codes "Credential=" ++ credential_text parts))

abbrev second_text : ℕ → Authorization → List ℕ
second_text n parts = replicate n 32 ++ (codes "SignedHeaders=" ++ join_with_byte 59 parts.names)

abbrev third_text : ℕ → Authorization → List ℕ
third_text n parts = replicate n 32 ++ (codes "Signature=" ++ parts.signature)

abbrev no_comma : ℕ → Bool
no_comma b = not (is_comma b)

credential_free : (parts : Authorization) → Formed parts → list_all no_comma (credential_text parts) ≡ true
credential_free parts f =
    let free : List ℕ → Bool = λ t. list_all no_comma t in
    all_in_join no_comma 47 (parts.id ∷ parts.date ∷ parts.region ∷ parts.service ∷ request_word ∷ []) refl
    (and_from (free parts.id) (free parts.date && (free parts.region && (free parts.service && true))) (part_bytes parts.id f.id).1
    (and_from (free parts.date) (free parts.region && (free parts.service && true)) (part_bytes parts.date f.date).1
    (and_from (free parts.region) (free parts.service && true) (part_bytes parts.region f.region).1
    (and_from (free parts.service) true (part_bytes parts.service f.service).1 refl))))

first_free : (n : ℕ) (parts : Authorization) → Formed parts → is_free is_comma (first_text n parts) ≡ true
first_free n parts f =
    all_joined no_comma (codes "AWS4-HMAC-SHA256 ") (replicate n 32 ++ (codes "Credential=" ++ credential_text parts)) refl
    (all_joined no_comma (replicate n 32) (codes "Credential=" ++ credential_text parts) (all_replicated no_comma n 32 refl)
    (all_joined no_comma (codes "Credential=") (credential_text parts) refl (credential_free parts f)))

second_free : (n : ℕ) (parts : Authorization) → Formed parts → is_free is_comma (second_text n parts) ≡ true
second_free n parts f =
    all_joined no_comma (replicate n 32) (codes "SignedHeaders=" ++ join_with_byte 59 parts.names) (all_replicated no_comma n 32 refl)
    (all_joined no_comma (codes "SignedHeaders=") (join_with_byte 59 parts.names) refl (all_in_join no_comma 59 parts.names refl (names_free 44 comma_no_token parts.names f.names)))

-- the sections of a header's text
record Sections (text : List ℕ) (n m k : ℕ) (parts : Authorization) : Type 0 where
  first : algorithm_section text ≡ first_text n parts
  credential : credential_section text ≡ codes "Credential=" ++ credential_text parts
  names : names_section text ≡ codes "SignedHeaders=" ++ join_with_byte 59 parts.names
  signature : signature_section text ≡ codes "Signature=" ++ parts.signature

sections_of : (n m k : ℕ) (parts : Authorization) → Formed parts → Sections (authorization_text n m k parts) n m k parts
unfolding algorithm_section credential_section names_section signature_section
sections_of n m k parts f =
    let rest : List ℕ = second_text m parts ++ 44 ∷ third_text k parts in
    let first : before_first is_comma (first_text n parts ++ 44 ∷ rest) ≡ first_text n parts = before_of is_comma (first_text n parts) 44 rest (first_free n parts f) refl in
    let behind : after_first is_comma (first_text n parts ++ 44 ∷ rest) ≡ rest = after_of is_comma (first_text n parts) 44 rest (first_free n parts f) refl in
    let second : before_first is_comma rest ≡ second_text m parts = before_of is_comma (second_text m parts) 44 (third_text k parts) (second_free m parts f) refl in
    let third : after_first is_comma rest ≡ third_text k parts = after_of is_comma (second_text m parts) 44 (third_text k parts) (second_free m parts f) refl in
    record {
      first = first;
      credential = ap (λ t. skip_spaces (drop 17 t)) first ∙ spaces_skipped n 67 (codes "redential=" ++ credential_text parts) refl;
      names = ap (λ t. skip_spaces (before_first is_comma t)) behind ∙ (ap skip_spaces second ∙ spaces_skipped m 83 (codes "ignedHeaders=" ++ join_with_byte 59 parts.names) refl);
      signature = ap (λ t. skip_spaces (after_first is_comma t)) behind ∙ (ap skip_spaces third ∙ spaces_skipped k 83 (codes "ignature=" ++ parts.signature) refl);
    }

-- a credential is cut into its parts
record Cuts (credential : List ℕ) (parts : Authorization) : Type 0 where
  id : before_first is_slash credential ≡ parts.id
  date : before_first is_slash (behind_id credential) ≡ parts.date
  region : before_first is_slash (behind_date credential) ≡ parts.region
  service : before_first is_slash (behind_region credential) ≡ parts.service
  last : behind_service credential ≡ request_word

cuts_of : (parts : Authorization) → Formed parts → Cuts (credential_text parts) parts
cuts_of parts f =
    let after : List ℕ → List ℕ = λ t. after_first is_slash t in
    let before : List ℕ → List ℕ = λ t. before_first is_slash t in
    let three : List ℕ = parts.service ++ 47 ∷ request_word in
    let two : List ℕ = parts.region ++ 47 ∷ three in
    let one : List ℕ = parts.date ++ 47 ∷ two in
    let id_free = (part_bytes parts.id f.id).0 in
    let date_free = (part_bytes parts.date f.date).0 in
    let region_free = (part_bytes parts.region f.region).0 in
    let service_free = (part_bytes parts.service f.service).0 in
    let behind_one : behind_id (credential_text parts) ≡ one = after_of is_slash parts.id 47 one id_free refl in
    let behind_two : behind_date (credential_text parts) ≡ two = ap after behind_one ∙ after_of is_slash parts.date 47 two date_free refl in
    let behind_three : behind_region (credential_text parts) ≡ three = ap after behind_two ∙ after_of is_slash parts.region 47 three region_free refl in
    record {
      id = before_of is_slash parts.id 47 one id_free refl;
      date = ap before behind_one ∙ before_of is_slash parts.date 47 two date_free refl;
      region = ap before behind_two ∙ before_of is_slash parts.region 47 three region_free refl;
      service = ap before behind_three ∙ before_of is_slash parts.service 47 request_word service_free refl;
      last = ap after behind_three ∙ after_of is_slash parts.service 47 request_word service_free refl;
    }

parts_back : (text : List ℕ) (n m k : ℕ) (parts : Authorization) → Formed parts → Sections text n m k parts → parts_of text ≡ parts
unfolding parts_of
parts_back text n m k parts f s =
    let cuts = cuts_of parts f in
    let credential : credential_of text ≡ credential_text parts = ap (λ t. drop 11 t) s.credential in
    let id : before_first is_slash (credential_of text) ≡ parts.id = ap (λ t. before_first is_slash t) credential ∙ cuts.id in
    let date : before_first is_slash (behind_id (credential_of text)) ≡ parts.date = ap (λ t. before_first is_slash (behind_id t)) credential ∙ cuts.date in
    let region : before_first is_slash (behind_date (credential_of text)) ≡ parts.region = ap (λ t. before_first is_slash (behind_date t)) credential ∙ cuts.region in
    let service : before_first is_slash (behind_region (credential_of text)) ≡ parts.service = ap (λ t. before_first is_slash (behind_region t)) credential ∙ cuts.service in
    let names : slice_split is_semicolon (drop 14 (names_section text)) ≡ parts.names = ap (λ t. slice_split is_semicolon (drop 14 t)) s.names ∙ split_joined is_semicolon 59 parts.names refl f.some (names_free 59 semicolon_no_token parts.names f.names) in
    let signature : drop 10 (signature_section text) ≡ parts.signature = ap (λ t. drop 10 t) s.signature in
    λ i. record { id = id i; date = date i; region = region i; service = service i; names = names i; signature = signature i }

labelled_back : (text : List ℕ) (n m k : ℕ) (parts : Authorization) → Formed parts → Sections text n m k parts → is_labelled text ≡ true
labelled_back text n m k parts f s =
    let credential : credential_of text ≡ credential_text parts = ap (λ t. drop 11 t) s.credential in
    five_from (starts_with nat_eq (algorithm_section text) (codes "AWS4-HMAC-SHA256 ")) (starts_with nat_eq (credential_section text) (codes "Credential=")) (starts_with nat_eq (names_section text) (codes "SignedHeaders=")) (starts_with nat_eq (signature_section text) (codes "Signature=")) (bytes_eq (behind_service (credential_of text)) request_word)
    (ap (λ t. starts_with nat_eq t (codes "AWS4-HMAC-SHA256 ")) s.first)
    (ap (λ t. starts_with nat_eq t (codes "Credential=")) s.credential)
    (ap (λ t. starts_with nat_eq t (codes "SignedHeaders=")) s.names)
    (ap (λ t. starts_with nat_eq t (codes "Signature=")) s.signature)
    (ap (λ t. bytes_eq (behind_service t) request_word) credential ∙ ap (λ t. bytes_eq t request_word) (cuts_of parts f).last)

-- the text of some parts is read as these
pub read_back : (n m k : ℕ) (parts : Authorization) → is_formed parts ≡ true → authorization_of (authorization_text n m k parts) ≡ Some parts
unfolding authorization_of
read_back n m k parts formed =
    let text : List ℕ = authorization_text n m k parts in
    let f = formed_of parts formed in
    let s = sections_of n m k parts f in
    let same : parts_of text ≡ parts = parts_back text n m k parts f s in
    let there : (is_labelled text && is_formed (parts_of text)) ≡ true = and_from (is_labelled text) (is_formed (parts_of text)) (labelled_back text n m k parts f s) (ap is_formed same ∙ formed) in
    cond-true (is_labelled text && is_formed (parts_of text)) (Some (parts_of text)) None there ∙ ap Some same

pub reads : (text : List ℕ) (parts : Authorization) → authorization_of text ≡ Some parts → IsAuthorization text parts
unfolding authorization_of
reads text parts h = from_test (is_labelled text && is_formed (parts_of text)) refl h
  where
    from_test : (b : Bool) → (is_labelled text && is_formed (parts_of text)) ≡ b → cond b (Some (parts_of text)) None ≡ Some parts → IsAuthorization text parts
    from_test true e k =
        let both = and_parts (is_labelled text) (is_formed (parts_of text)) e in
        let same : parts_of text ≡ parts = cc in
        let P : Authorization → Type 0 = λ p. IsAuthorization text p in
        subst P same (text_back text both.0 both.1)
    from_test false e k = let never : ⊥ = cc in absurd never

pub is_read : (text : List ℕ) (parts : Authorization) → IsAuthorization text parts → authorization_of text ≡ Some parts
is_read text parts h = ap authorization_of h.3 ∙ read_back h.0 h.1 h.2 parts h.4
