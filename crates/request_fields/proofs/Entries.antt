-- The entries that headers make.
use Rattle.std.proofs.Common.{◌≡◌, ℕ, Bool, true, false, not, ◌&&◌, ◌||◌, cond, List, [], ◌∷◌, ◌++◌, take, drop, codes, bytes_eq, refl, sym, ap, subst, ◌∙◌, inl, inr}
use Rattle.std.specs.Prelude.{◌⊎◌, fold, Contains}
use Rattle.std.proofs.lemmas.List.{take-append-drop}
use Rattle.std.proofs.lemmas.List.Elements.{Contains-append_left, Contains-append_right, Contains-append_cases, Contains-push}
use Rattle.std.proofs.lemmas.Slice.Eq.{bytes_eq-Decides}
use Rattle.gate_base.specs.declared.page.Pair.{Pair}
use Rattle.s3_names.specs.Meta.{names_ascend, has_name, with_pair}
use Rattle.s3_names.proofs.lemmas.MetaLemmas.{with_pair_ascends, with_pair_keeps, with_pair_has, with_pair_only, nowhere, is_one}
use Rattle.s3_machine.specs.Limits.{is_kept_header}
use Rattle.request_fields.specs.Content.{is_amz_meta_header, is_given_meta_entry, meta_entry_name, entered, given_meta}
use Rattle.http_wire.specs.Headers.{text_of}
use Rattle.request_fields.specs.Laws.{entry_of, Makes, HasMade}

-- ---- no two headers make entries of one name

own_form : (name : List ℕ) → is_amz_meta_header name ≡ true → name ≡ codes "x-amz-meta-" ++ drop 11 name
own_form name h =
    let begins : codes "x-amz-meta-" ≡ take 11 name = (bytes_eq-Decides (codes "x-amz-meta-") (take 11 name)).0 h in
    sym (take-append-drop 11 name) ∙ ap (λ first. first ++ drop 11 name) (sym begins)

own_entry : (name : List ℕ) → is_amz_meta_header name ≡ true → drop 10 name ≡ 45 ∷ drop 11 name
own_entry name h = ap (λ text. drop 10 text) (own_form name h)

-- a header of the user's own makes none that a kept one makes
apart : (a b : List ℕ) → is_amz_meta_header a ≡ true → is_kept_header b ≡ true → drop 10 a ≡ b → ⊥
apart a b own kept same =
    let form : b ≡ 45 ∷ drop 11 a = sym same ∙ own_entry a own in
    let also : is_kept_header (45 ∷ drop 11 a) ≡ true = sym (ap is_kept_header form) ∙ kept in cc

one_name : (a b : List ℕ) → is_amz_meta_header a ≡ true → is_amz_meta_header b ≡ true → drop 10 a ≡ drop 10 b → a ≡ b
one_name a b own also same =
    let ends : 45 ∷ drop 11 a ≡ 45 ∷ drop 11 b = sym (own_entry a own) ∙ same ∙ own_entry b also in
    let rest : drop 11 a ≡ drop 11 b = cc in
    own_form a own ∙ ap (λ text. codes "x-amz-meta-" ++ text) rest ∙ sym (own_form b also)

same_if : (p q : Bool) (a b : List ℕ) → is_amz_meta_header a ≡ p → is_amz_meta_header b ≡ q → (p || is_kept_header a) ≡ true → (q || is_kept_header b) ≡ true → cond p (drop 10 a) a ≡ cond q (drop 10 b) b → a ≡ b
same_if true true a b own also h k same = one_name a b own also same
same_if true false a b own also h k same = absurd (apart a b own k same)
same_if false true a b own also h k same = absurd (apart b a also h (sym same))
same_if false false a b own also h k same = same

same_name : (a b : List ℕ) → is_given_meta_entry a ≡ true → is_given_meta_entry b ≡ true → meta_entry_name a ≡ meta_entry_name b → a ≡ b
same_name a b h k same = same_if (is_amz_meta_header a) (is_amz_meta_header b) a b refl refl h k same

-- ---- one more header

-- what is true of the entries of some of the headers
record Sound (headers meta : List Pair) : Type 0 where
  ascends : names_ascend meta ≡ true
  made : (entry : Pair) → Contains meta entry → Makes headers entry

keeps_if : (b : Bool) (name value : List ℕ) (meta : List Pair) (pair : Pair) → Contains meta pair → Contains (cond b (with_pair name value meta) meta) pair
keeps_if true name value meta pair c = with_pair_keeps name value meta pair c
keeps_if false name value meta pair c = c

sound_if : (entry has : Bool) (headers meta : List Pair) (header : Pair) → is_given_meta_entry header.name ≡ entry → has_name (meta_entry_name header.name) meta ≡ has → Contains headers header → Sound headers meta
    → Sound headers (cond (entry && not has) (with_pair (meta_entry_name header.name) (text_of header.name headers) meta) meta)
sound_if true false headers meta header e f given sound = record {
  ascends = with_pair_ascends (meta_entry_name header.name) (text_of header.name headers) meta sound.ascends f;
  made = λ entry c. of entry (with_pair_only (meta_entry_name header.name) (text_of header.name headers) meta entry c);
}
  where
    of : (entry : Pair) → (entry ≡ entry_of headers header) ⊎ Contains meta entry → Makes headers entry
    of entry (inl is) = record { header = header; given = given; makes = e; is = is }
    of entry (inr old) = sound.made entry old
sound_if true true headers meta header e f given sound = sound
sound_if false true headers meta header e f given sound = sound
sound_if false false headers meta header e f given sound = sound

head_of : (header : Pair) (rest : List Pair) → Contains (header ∷ rest) header
head_of header rest = Contains-append_left (header ∷ []) rest header (Contains-push [] header)

either : (x y : Bool) → (x || y) ≡ true → (x ≡ true) ⊎ (y ≡ true)
either true y h = inl refl
either false y h = inr h

-- a pair of the name
record Named (name : List ℕ) (pairs : List Pair) : Type 0 where
  pair : Pair
  there : Contains pairs pair
  named : pair.name ≡ name

found : (name : List ℕ) (pairs : List Pair) → has_name name pairs ≡ true → Named name pairs
found name [] h = cc
found name (pair ∷ pairs) h = of (found name pairs) (either (bytes_eq pair.name name) (has_name name pairs) h)
  where
    of : (has_name name pairs ≡ true → Named name pairs) → (bytes_eq pair.name name ≡ true) ⊎ (has_name name pairs ≡ true) → Named name (pair ∷ pairs)
    of others (inl e) = record { pair = pair; there = head_of pair pairs; named = (bytes_eq-Decides pair.name name).0 e }
    of others (inr e) =
        let rest = others e in
        record { pair = rest.pair; there = Contains-append_right (pair ∷ []) pairs rest.pair rest.there; named = rest.named }

has_if : (has : Bool) (headers meta : List Pair) (header : Pair) → is_given_meta_entry header.name ≡ true → has_name (meta_entry_name header.name) meta ≡ has → Sound headers meta
    → Contains (cond (is_given_meta_entry header.name && not has) (with_pair (meta_entry_name header.name) (text_of header.name headers) meta) meta) (entry_of headers header)
has_if false headers meta header e f sound =
    subst (λ b. Contains (cond (b && true) (with_pair (meta_entry_name header.name) (text_of header.name headers) meta) meta) (entry_of headers header)) (sym e)
    (with_pair_has (meta_entry_name header.name) (text_of header.name headers) meta)
has_if true headers meta header e f sound =
    let one = found (meta_entry_name header.name) meta f in
    let by = sound.made one.pair one.there in
    let name : by.header.name ≡ header.name = same_name by.header.name header.name by.makes e (sym (ap (λ p. p.name) by.is) ∙ one.named) in
    let same : one.pair ≡ entry_of headers header = by.is ∙ ap (λ n. (let p : Pair = record { name = meta_entry_name n; value = text_of n headers } in p)) name in
    subst (λ b. Contains (cond (b && false) (with_pair (meta_entry_name header.name) (text_of header.name headers) meta) meta) (entry_of headers header)) (sym e)
    (subst (λ p. Contains meta p) same one.there)

-- ---- all of them

all_keep : (headers rest meta : List Pair) (pair : Pair) → Contains meta pair → Contains (fold (entered headers) meta rest) pair
all_keep headers [] meta pair c = c
all_keep headers (header ∷ rest) meta pair c =
    all_keep headers rest (entered headers meta header) pair
    (keeps_if (is_given_meta_entry header.name && not (has_name (meta_entry_name header.name) meta)) (meta_entry_name header.name) (text_of header.name headers) meta pair c)

one_more : (headers meta : List Pair) (header : Pair) → Contains headers header → Sound headers meta → Sound headers (entered headers meta header)
one_more headers meta header given sound = sound_if (is_given_meta_entry header.name) (has_name (meta_entry_name header.name) meta) headers meta header refl refl given sound

all_sound : (headers rest meta : List Pair) → ((header : Pair) → Contains rest header → Contains headers header) → Sound headers meta → Sound headers (fold (entered headers) meta rest)
all_sound headers [] meta part sound = sound
all_sound headers (header ∷ rest) meta part sound =
    all_sound headers rest (entered headers meta header) (λ other c. part other (Contains-append_right (header ∷ []) rest other c))
    (one_more headers meta header (part header (head_of header rest)) sound)

all_whole : (headers rest meta : List Pair) → ((header : Pair) → Contains rest header → Contains headers header) → Sound headers meta → (header : Pair) → Contains rest header → is_given_meta_entry header.name ≡ true
    → Contains (fold (entered headers) meta rest) (entry_of headers header)
all_whole headers [] meta part sound header c e = absurd (nowhere header c)
all_whole headers (first ∷ rest) meta part sound header c e =
    of (all_whole headers rest (entered headers meta first) (λ other d. part other (Contains-append_right (first ∷ []) rest other d))
    (one_more headers meta first (part first (head_of first rest)) sound) header)
    (Contains-append_cases (first ∷ []) rest header c)
  where
    of : (Contains rest header → is_given_meta_entry header.name ≡ true → Contains (fold (entered headers) (entered headers meta first) rest) (entry_of headers header))
        → Contains (first ∷ []) header ⊎ Contains rest header → Contains (fold (entered headers) (entered headers meta first) rest) (entry_of headers header)
    of others (inl one) =
        let is : header ≡ first = is_one first header one in
        let put : Contains (entered headers meta first) (entry_of headers first) = has_if (has_name (meta_entry_name first.name) meta) headers meta first (sym (ap (λ h. is_given_meta_entry h.name) is) ∙ e) refl sound in
        all_keep headers rest (entered headers meta first) (entry_of headers header) (subst (λ h. Contains (entered headers meta first) (entry_of headers h)) (sym is) put)
    of others (inr last) = others last e

begins : (headers : List Pair) → Sound headers []
unfolding names_ascend
begins headers = record { ascends = refl; made = λ entry c. absurd (nowhere entry c) }

pub has_made : (headers : List Pair) → HasMade headers (given_meta headers)
unfolding given_meta
has_made headers =
    let sound = all_sound headers headers [] (λ header c. c) (begins headers) in
    record {
      ascends = sound.ascends;
      made = sound.made;
      whole = λ entry by. subst (λ p. Contains (fold (entered headers) [] headers) p) (sym by.is) (all_whole headers headers [] (λ header c. c) (begins headers) by.header by.given by.makes);
    }
