-- What a body asks to delete is what it spells.
use Rattle.std.proofs.Common.{◌≡◌, ◌≤◌, ◌<◌, ℕ, Bool, true, false, ◌||◌, inl, inr, List, [], ◌∷◌, ◌++◌, length, nat_le, nat_lt, refl, sym, ◌∙◌, ap, subst, None, Some, Option, Result, Ok, Err, cond, codes, arith}
use Rattle.std.specs.Char.{IsScalar, encode_utf8}
use Rattle.std.specs.Int.{is_in_range}
use Rattle.std.specs.List.{list_all}
use Rattle.std.specs.Str.Parse.{digits_value}
use Rattle.std.proofs.lemmas.Bool.{and_parts, and_from, or_cases}
use Rattle.std.proofs.lemmas.Bool.Decides.{nat_tests}
use Rattle.std.proofs.lemmas.List.{append-nil, append_cancel_left}
use Rattle.s3_names.specs.Key.{is_key}
use Rattle.s3_machine.specs.Proper.{IsProperKeys}
use Rattle.s3_machine.specs.declared.limits.TheConstants.{MOST_KEYS}
use Rattle.xml_forms.specs.Forms.{Either, Exactly, Many, SpellsAll, Then, Word}
use Rattle.xml_forms.specs.Runs.{has, Element, Spaced}
use Rattle.xml_forms.specs.declared.class.Class.TheVariants.{Digit, HexDigit, InText}
use Rattle.s3_bodies.specs.Delete.{Delete, DeleteEnd, DeleteInside, Deletion, IsDelete, Key, NoKeys, Object, ObjectEnd, Quiet, QuietText, QuietThen, AnswersDelete, delete_end, delete_start}
use Rattle.s3_bodies.specs.KeyText.{Angle, Decimal, Entity, Hexadecimal, InKey, KeyText, NamesKey, NameKeys, Number, Plain, QuoteMark, Reference, StandsFor}
use Rattle.s3_bodies.specs.Values.{exactly, words, either, joined, spaced, elements, many, documents}
use Rattle.s3_bodies.specs.Deletes.{plains, angles, quote_marks, entities, decimals, hexadecimals, numbers, references, pieces, all_pieces, text_by, texts, is_character, meant_by, put_before, meaning, if_key, key_by, add_key, keys_named, keys, object_ends, objects, quiets, delete_ends, quiet_thens, insides, deletions, with_quiet, deletes_by, deletes_in, TellsDeletes}
use Rattle.s3_bodies.specs.declared.delete.Deletes.{Deletes}
use Rattle.s3_bodies.specs.declared.key_text.Piece.{Piece}
use Rattle.s3_bodies.specs.declared.key_text.Piece.TheVariants.{Byte, Numbered}
use Rattle.s3_bodies.specs.declared.fault.BodyFault.{BodyFault}
use Rattle.s3_bodies.specs.declared.fault.BodyFault.TheVariants.{NotTheBody, TooMany, Memory}
use Rattle.s3_bodies.proofs.DeleteLemmas.{delete_unique}
use Rattle.s3_bodies.proofs.Keys.{no_first}
use Rattle.s3_bodies.proofs.Pieces.{piece_filled, piece_unique}
use Rattle.s3_bodies.proofs.ValuesLemmas.{Among, Values, exactly_values, word_values, either_values, valued_values, then_values, spaced_values, element_values, many_values, document_values, whole_values, guarded_sound, guarded_complete, same_values}
use Rattle.s3_bodies.proofs.lemmas.Listings.{head_some, tail_some}

-- ---- the pieces of a text

one_among : {A : Type 0} (value a : A) → Among (value ∷ []) a → a ≡ value
unfolding Among
one_among value a (inl e) = sym e
one_among value a (inr none) = absurd none

plain_sound : (bytes : List ℕ) (piece : Piece) → Among (plains bytes) piece → Plain piece bytes
unfolding Among
plain_sound [] piece h = absurd h
plain_sound (byte ∷ []) piece h = let g = guarded_sound (has InText byte) (Byte byte ∷ []) piece h in (byte, g.0, one_among (Byte byte) piece g.1, refl)
plain_sound (byte ∷ next ∷ bytes) piece h = absurd h

plain_complete : (piece : Piece) (bytes : List ℕ) → Plain piece bytes → Among (plains bytes) piece
unfolding Among
plain_complete piece bytes f =
    subst (λ b. Among (plains b) piece) (sym f.3)
    (guarded_complete (has InText f.0) (Byte f.0 ∷ []) piece f.1 (subst (λ x. Among (Byte f.0 ∷ []) x) (sym f.2) (inl refl)))

plains_values : Values Plain plains
plains_values = record { sound = plain_sound; complete = plain_complete }

angles_values : Values Angle angles
angles_values = either_values (Exactly (Byte 60) (codes "lt;")) (Exactly (Byte 62) (codes "gt;")) (exactly (Byte 60) (codes "lt;")) (exactly (Byte 62) (codes "gt;")) (exactly_values (Byte 60) (codes "lt;")) (exactly_values (Byte 62) (codes "gt;"))

quote_marks_values : Values QuoteMark quote_marks
quote_marks_values = either_values (Exactly (Byte 34) (codes "quot;")) (Exactly (Byte 39) (codes "apos;")) (exactly (Byte 34) (codes "quot;")) (exactly (Byte 39) (codes "apos;")) (exactly_values (Byte 34) (codes "quot;")) (exactly_values (Byte 39) (codes "apos;"))

entities_values : Values Entity entities
entities_values =
    either_values (Exactly (Byte 38) (codes "amp;")) (Either Angle QuoteMark) (exactly (Byte 38) (codes "amp;")) (either angles quote_marks) (exactly_values (Byte 38) (codes "amp;"))
    (either_values Angle QuoteMark angles quote_marks angles_values quote_marks_values)

decimals_values : Values Decimal decimals
decimals_values =
    valued_values (λ digits. Numbered (digits_value 10 digits)) (Element [] Digit true (Some 7) (codes ";")) (elements [] Digit true (Some 7) (codes ";"))
    (element_values [] Digit true (Some 7) (codes ";"))

hexadecimals_values : Values Hexadecimal hexadecimals
hexadecimals_values =
    valued_values (λ digits. Numbered (digits_value 16 digits)) (Element (codes "x") HexDigit true (Some 6) (codes ";")) (elements (codes "x") HexDigit true (Some 6) (codes ";"))
    (element_values (codes "x") HexDigit true (Some 6) (codes ";"))

numbers_values : Values Number numbers
numbers_values = then_values (Word (codes "#")) (λ _. Either Decimal Hexadecimal) (words (codes "#")) (λ _. either decimals hexadecimals) (word_values (codes "#"))
    (λ _. either_values Decimal Hexadecimal decimals hexadecimals decimals_values hexadecimals_values)

references_values : Values Reference references
references_values = then_values (Word (codes "&")) (λ _. Either Entity Number) (words (codes "&")) (λ _. either entities numbers) (word_values (codes "&"))
    (λ _. either_values Entity Number entities numbers entities_values numbers_values)

pieces_values : Values InKey pieces
pieces_values = either_values Plain Reference plains references plains_values references_values

piece_some : (piece : Piece) (word : List ℕ) → InKey piece word → 0 < length word
piece_some piece word f = let c = piece_filled piece word f in omega (arith, ap length c.2)

abbrev AllPieces : List Piece → List ℕ → Type 0
AllPieces = Many InKey (λ items. Exactly items [])

all_pieces_values : Values AllPieces all_pieces
unfolding all_pieces
all_pieces_values = many_values InKey pieces (λ items. Exactly items []) (λ items. exactly items []) piece_some pieces_values (λ items. exactly_values items [])

to_all : (items : List Piece) (text : List ℕ) → SpellsAll InKey items text → AllPieces items text
to_all items text s = record { items = items; inner = text; tail = []; spells = s; tails = (refl, refl); at = sym (append-nil text) }

from_all : (items : List Piece) (text : List ℕ) → AllPieces items text → SpellsAll InKey items text
from_all items text m =
    subst (λ l. SpellsAll InKey l text) (sym m.tails.0) (subst (λ t. SpellsAll InKey m.items t) (sym (m.at ∙ ap (λ t. m.inner ++ t) m.tails.1 ∙ append-nil m.inner)) m.spells)

-- a text is made of its pieces in one way
one_pieces : (p q : List Piece) (text : List ℕ) → SpellsAll InKey p text → SpellsAll InKey q text → p ≡ q
one_pieces [] [] text s t = refl
one_pieces [] (y ∷ q) text s t = absurd (no_first t.0 t.1 y t.2 (sym s ∙ t.4))
one_pieces (x ∷ p) [] text s t = absurd (no_first s.0 s.1 x s.2 (sym t ∙ s.4))
one_pieces (x ∷ p) (y ∷ q) text s t =
    let u = piece_unique.one x y s.0 t.0 s.1 t.1 s.2 t.2 (sym s.4 ∙ t.4) in
    let same_rest : s.1 ≡ t.1 = append_cancel_left s.0 s.1 t.1 (sym s.4 ∙ t.4 ∙ ap (λ w. w ++ t.1) (sym u.1)) in
    ap (λ a. a ∷ p) u.0 ∙ ap (λ l. y ∷ l) (one_pieces p q s.1 s.3 (subst (λ r. SpellsAll InKey q r) (sym same_rest) t.3))

-- ---- texts

abbrev Text : List ℕ → List ℕ → Type 0
Text text word = (items : List Piece) × SpellsAll InKey items text × (word ≡ text)

text_sound : (found : List (List Piece)) (word text : List ℕ) → found ≡ all_pieces word → Among (text_by found word) text → Text text word
unfolding Among
text_sound [] word text e h = absurd h
text_sound (first ∷ others) word text e (inl same) =
    (first, subst (λ t. SpellsAll InKey first t) same (from_all first word (all_pieces_values.sound word first (subst (λ l. Among l first) e (inl refl)))), same)
text_sound (first ∷ others) word text e (inr none) = absurd none

text_complete : (found : List (List Piece)) (text : List ℕ) (items : List Piece) → found ≡ all_pieces text → SpellsAll InKey items text → Among (text_by found text) text
unfolding Among
text_complete [] text items e s = absurd (subst (λ l. Among l items) (sym e) (all_pieces_values.complete items text (to_all items text s)))
text_complete (first ∷ others) text items e s = inl refl

texts_values : Values Text texts
unfolding texts
texts_values = record {
  sound = λ word text h. text_sound (all_pieces word) word text refl h;
  complete = λ text word f. subst (λ w. Among (text_by (all_pieces w) w) text) (sym f.2) (text_complete (all_pieces text) text f.0 refl f.1);
}

abbrev key_end : List ℕ
key_end = codes "</Key>"

key_texts_values : Values KeyText (joined texts (λ text. exactly text key_end))
key_texts_values =
    same_values (Then Text (λ text. Exactly text key_end)) KeyText (joined texts (λ text. exactly text key_end)) to_text from_text
    (then_values Text (λ text. Exactly text key_end) texts (λ text. exactly text key_end) texts_values (λ text. exactly_values text key_end))
  where
    to_text : (text bytes : List ℕ) → Then Text (λ t. Exactly t key_end) text bytes → KeyText text bytes
    to_text text bytes p = record {
      pieces = p.heads.0;
      spells = subst (λ t. SpellsAll InKey p.heads.0 t) (sym p.tails.0) p.heads.1;
      at = p.at ∙ ap (λ h. h ++ p.tail) (p.heads.2 ∙ sym p.tails.0) ∙ ap (λ t. text ++ t) p.tails.1;
    }

    from_text : (text bytes : List ℕ) → KeyText text bytes → Then Text (λ t. Exactly t key_end) text bytes
    from_text text bytes f = record { value = text; head = text; tail = key_end; heads = (f.pieces, f.spells, refl); tails = (refl, refl); at = f.at }

-- ---- what stands in the root

keys_values : Values Key keys
keys_values = then_values (Word (codes "<Key>")) (λ _. KeyText) (words (codes "<Key>")) (λ _. joined texts (λ text. exactly text key_end)) (word_values (codes "<Key>")) (λ _. key_texts_values)

object_ends_values : (text : List ℕ) → Values (ObjectEnd text) (object_ends text)
object_ends_values text = spaced_values (Exactly text (codes "</Object>")) (exactly text (codes "</Object>")) (exactly_values text (codes "</Object>"))

objects_values : Values Object objects
objects_values =
    then_values (Spaced (Word (codes "<Object>"))) (λ _. Then (Spaced Key) ObjectEnd) (spaced (words (codes "<Object>"))) (λ _. joined (spaced keys) object_ends)
    (spaced_values (Word (codes "<Object>")) (words (codes "<Object>")) (word_values (codes "<Object>")))
    (λ _. then_values (Spaced Key) ObjectEnd (spaced keys) object_ends (spaced_values Key keys keys_values) object_ends_values)

quiets_values : Values Quiet quiets
quiets_values =
    then_values (Spaced (Word (codes "<Quiet>"))) (λ _. QuietText) (spaced (words (codes "<Quiet>"))) (λ _. either (exactly true (codes "true</Quiet>")) (exactly false (codes "false</Quiet>")))
    (spaced_values (Word (codes "<Quiet>")) (words (codes "<Quiet>")) (word_values (codes "<Quiet>")))
    (λ _. either_values (Exactly true (codes "true</Quiet>")) (Exactly false (codes "false</Quiet>")) (exactly true (codes "true</Quiet>")) (exactly false (codes "false</Quiet>"))
    (exactly_values true (codes "true</Quiet>")) (exactly_values false (codes "false</Quiet>")))

object_some : (text : List ℕ) (word : List ℕ) → Object text word → 0 < length word
object_some text word p =
    head_some (length p.head) word p.head p.tail
    (tail_some p.head p.heads.run p.heads.tail (let named = ap length p.heads.tails in let long : 0 < length p.heads.tail = omega (arith, named) in long) p.heads.at) refl p.at

-- ---- a deletion

filled : (n : ℕ) → nat_lt 0 n ≡ true → 0 < n
filled n e = grind (arith, nat_tests)

is_filled : (n : ℕ) → 0 < n → nat_lt 0 n ≡ true
is_filled n some = grind (arith, nat_tests)

delete_ends_values : (body : Deletion) → Values (DeleteEnd body) (delete_ends body)
delete_ends_values body = record {
  sound = λ bytes all h.
      let g = guarded_sound (nat_lt 0 (length body.0)) (spaced (exactly body delete_end) bytes) all h in
      (filled (length body.0) g.0, ends.sound bytes all g.1);
  complete = λ all bytes f. guarded_complete (nat_lt 0 (length body.0)) (spaced (exactly body delete_end) bytes) all (is_filled (length body.0) f.0) (ends.complete all bytes f.1);
}
  where
    ends : Values (Spaced (Exactly body delete_end)) (spaced (exactly body delete_end))
    ends = spaced_values (Exactly body delete_end) (exactly body delete_end) (exactly_values body delete_end)

quiet_thens_values : (before : List (List ℕ)) → Values (QuietThen before) (quiet_thens before)
quiet_thens_values before =
    then_values Quiet (λ quiet. Many Object (λ after. DeleteEnd (before ++ after, quiet))) quiets (λ quiet. many objects (λ after. delete_ends (before ++ after, quiet))) quiets_values
    (λ quiet. many_values Object objects (λ after. DeleteEnd (before ++ after, quiet)) (λ after. delete_ends (before ++ after, quiet)) object_some objects_values (λ after. delete_ends_values (before ++ after, quiet)))

insides_values : Values DeleteInside insides
insides_values =
    many_values Object objects (λ before. Either (QuietThen before) (DeleteEnd (before, false))) (λ before. either (quiet_thens before) (delete_ends (before, false))) object_some objects_values
    (λ before. either_values (QuietThen before) (DeleteEnd (before, false)) (quiet_thens before) (delete_ends (before, false)) (quiet_thens_values before) (delete_ends_values (before, false)))

deletions_values : Values IsDelete deletions
unfolding deletions
deletions_values = whole_values Delete (documents delete_start insides) (document_values delete_start DeleteInside insides insides_values)

same_body : (a b : Deletion) (bytes : List ℕ) → IsDelete a bytes → IsDelete b bytes → a ≡ b
same_body a b bytes x y = (delete_unique.one a b x.word y.word x.tail y.tail x.spells y.spells (sym x.at ∙ y.at)).0

-- ---- what pieces stand for

character_sound : (number : ℕ) → is_character number ≡ true → (0 < number) × IsScalar number
character_sound number e =
    let p = and_parts (nat_lt 0 number) (nat_lt number 0xD800 || is_in_range 0xE000 0x10_FFFF number) e in
    (filled number p.0, (elim (or_cases (nat_lt number 0xD800) (is_in_range 0xE000 0x10_FFFF number) p.1) [ inl low ↦ below low | inr high ↦ above high ]))
  where
    below : nat_lt number 0xD800 ≡ true → IsScalar number
    below low = grind (arith, nat_tests)

    above : is_in_range 0xE000 0x10_FFFF number ≡ true → IsScalar number
    above high = grind (arith, nat_tests)

character_complete : (number : ℕ) → 0 < number → IsScalar number → is_character number ≡ true
character_complete number some is = grind (arith, nat_tests)

meant_sound : (piece : Piece) (bytes : List ℕ) → meant_by piece ≡ Some bytes → StandsFor piece bytes
meant_sound (Byte byte) bytes e = cc
meant_sound (Numbered number) bytes e = by_test (is_character number) refl e
  where
    by_test : (b : Bool) → is_character number ≡ b → cond b (Some (encode_utf8 number)) None ≡ Some bytes → StandsFor (Numbered number) bytes
    by_test true t h = let s = character_sound number t in let same : bytes ≡ encode_utf8 number = cc in (s.0, s.1, same)
    by_test false t h = cc

meant_complete : (piece : Piece) (bytes : List ℕ) → StandsFor piece bytes → meant_by piece ≡ Some bytes
meant_complete (Byte byte) bytes f = ap Some (sym f)
meant_complete (Numbered number) bytes f = ap (λ b. cond b (Some (encode_utf8 number)) None) (character_complete number f.0 f.1) ∙ ap Some (sym f.2)

meaning_sound : (items : List Piece) (bytes : List ℕ) → meaning items ≡ Some bytes → SpellsAll StandsFor items bytes
unfolding meaning
meaning_sound [] bytes e = let same : bytes ≡ [] = cc in same
meaning_sound (piece ∷ items) bytes e = by_parts (meant_by piece) (meaning items) refl (λ rest r. meaning_sound items rest r) e
  where
    by_parts : (first rest : Option (List ℕ)) → meant_by piece ≡ first → ((more : List ℕ) → rest ≡ Some more → SpellsAll StandsFor items more) → put_before first rest ≡ Some bytes → SpellsAll StandsFor (piece ∷ items) bytes
    by_parts None rest f r h = cc
    by_parts (Some first) None f r h = cc
    by_parts (Some first) (Some rest) f r h = let same : bytes ≡ first ++ rest = cc in (first, rest, meant_sound piece first f, r rest refl, same)

meaning_complete : (items : List Piece) (bytes : List ℕ) → SpellsAll StandsFor items bytes → meaning items ≡ Some bytes
unfolding meaning
meaning_complete [] bytes s = ap Some (sym s)
meaning_complete (piece ∷ items) bytes s =
    ap (λ first. put_before first (meaning items)) (meant_complete piece s.0 s.2) ∙ ap (λ rest. put_before (Some s.0) rest) (meaning_complete items s.1 s.3) ∙ ap Some (sym s.4)

-- ---- the keys

if_key_sound : (bytes : Option (List ℕ)) (key : List ℕ) → if_key bytes ≡ Some key → (bytes ≡ Some key) × (is_key key ≡ true)
if_key_sound None key e = cc
if_key_sound (Some bytes) key e = by_test (is_key bytes) refl e
  where
    by_test : (b : Bool) → is_key bytes ≡ b → cond b (Some bytes) None ≡ Some key → (Some bytes ≡ Some key) × (is_key key ≡ true)
    by_test true t h = (h, let same : bytes ≡ key = cc in sym (ap is_key same) ∙ t)
    by_test false t h = cc

key_sound : (found : List (List Piece)) (text key : List ℕ) → found ≡ all_pieces text → key_by found ≡ Some key → NamesKey text key
unfolding Among
key_sound [] text key e h = cc
key_sound (first ∷ others) text key e h =
    let k = if_key_sound (meaning first) key h in
    (record { pieces = first; spells = from_all first text (all_pieces_values.sound text first (subst (λ l. Among l first) e (inl refl))); stands = meaning_sound first key k.0 }, k.1)

key_complete : (found : List (List Piece)) (text key : List ℕ) → found ≡ all_pieces text → NamesKey text key → key_by found ≡ Some key
unfolding Among
key_complete [] text key e n = absurd (subst (λ l. Among l n.0.pieces) (sym e) (all_pieces_values.complete n.0.pieces text (to_all n.0.pieces text n.0.spells)))
key_complete (first ∷ others) text key e n =
    ap if_key (all_meant (meaning first) refl) ∙ ap (λ b. cond b (Some key) None) n.1
  where
    first_is : SpellsAll InKey first text
    first_is = from_all first text (all_pieces_values.sound text first (subst (λ l. Among l first) e (inl refl)))

    same_pieces : n.0.pieces ≡ first
    same_pieces = one_pieces n.0.pieces first text n.0.spells first_is

    all_meant : (m : Option (List ℕ)) → meaning first ≡ m → meaning first ≡ Some key
    all_meant m r = sym (ap meaning same_pieces) ∙ meaning_complete n.0.pieces key n.0.stands

keys_sound : (texts keys : List (List ℕ)) → keys_named texts ≡ Some keys → NameKeys texts keys
unfolding keys_named
keys_sound [] keys e = let same : keys ≡ [] = cc in same
keys_sound (text ∷ texts) keys e = by_parts (key_by (all_pieces text)) (keys_named texts) refl (λ more r. keys_sound texts more r) e
  where
    by_parts : (first : Option (List ℕ)) (rest : Option (List (List ℕ))) → key_by (all_pieces text) ≡ first → ((more : List (List ℕ)) → rest ≡ Some more → NameKeys texts more)
        → add_key first rest ≡ Some keys → NameKeys (text ∷ texts) keys
    by_parts None rest f r h = cc
    by_parts (Some key) None f r h = cc
    by_parts (Some key) (Some more) f r h = let same : keys ≡ key ∷ more = cc in (key, more, key_sound (all_pieces text) text key refl f, r more refl, same)

keys_complete : (texts keys : List (List ℕ)) → NameKeys texts keys → keys_named texts ≡ Some keys
unfolding keys_named
keys_complete [] keys n = ap Some (sym n)
keys_complete (text ∷ texts) keys n =
    ap (λ key. add_key key (keys_named texts)) (key_complete (all_pieces text) text n.0 refl n.2) ∙ ap (λ rest. add_key (Some n.0) rest) (keys_complete texts n.1 n.3) ∙ ap Some (sym n.4)

keys_none : (found : Option (List (List ℕ))) (texts : List (List ℕ)) → keys_named texts ≡ found → NoKeys texts → keys_named texts ≡ None
keys_none None texts e none = e
keys_none (Some keys) texts e none = absurd (none keys (keys_sound texts keys e))

-- ---- what a body asks to delete

few : (n : ℕ) → n ≤ MOST_KEYS → nat_le n MOST_KEYS ≡ true
few n h = grind (arith, nat_tests)

many_more : (n : ℕ) → MOST_KEYS < n → nat_le n MOST_KEYS ≡ false
many_more n h = grind (arith, nat_tests)

abbrev by_count : Bool → Deletion → Option Deletes
by_count b body = cond b (with_quiet body.1 (keys_named body.0)) None

found_at : (found : List Deletion) (body : Deletion) (bytes : List ℕ) → found ≡ deletions bytes → IsDelete body bytes → deletes_by found ≡ by_count (nat_le (length body.0) MOST_KEYS) body
unfolding Among
found_at [] body bytes e is = absurd (subst (λ l. Among l body) (sym e) (deletions_values.complete body bytes is))
found_at (first ∷ others) body bytes e is =
    let first_is : IsDelete first bytes = deletions_values.sound bytes first (subst (λ l. Among l first) e (inl refl)) in
    ap (λ b. by_count (nat_le (length b.0) MOST_KEYS) b) (same_body first body bytes first_is is)

none_at : (found : List Deletion) (bytes : List ℕ) → found ≡ deletions bytes → (((body : Deletion) × IsDelete body bytes) → ⊥) → deletes_by found ≡ None
unfolding Among
none_at [] bytes e none = refl
none_at (first ∷ others) bytes e none = absurd (none (first, deletions_values.sound bytes first (subst (λ l. Among l first) e (inl refl))))

pub deletes_tells : (bytes : List ℕ) (result : Result Deletes BodyFault) → AnswersDelete bytes result → TellsDeletes bytes result
unfolding deletes_in
deletes_tells bytes (Ok deletes) is =
    found_at (deletions bytes) (is.0, deletes.quiet) bytes refl is.1 ∙ ap (λ b. by_count b (is.0, deletes.quiet)) (few (length is.0) is.2)
    ∙ ap (with_quiet deletes.quiet) (keys_complete is.0 deletes.keys is.3)
deletes_tells bytes (Err (NotTheBody n)) (inl is) = none_at (deletions bytes) bytes refl is.none
deletes_tells bytes (Err (NotTheBody n)) (inr is) =
    found_at (deletions bytes) is.0 bytes refl is.1 ∙ ap (λ b. by_count b is.0) (few (length is.0.0) is.2) ∙ ap (with_quiet is.0.1) (keys_none (keys_named is.0.0) is.0.0 refl is.3)
deletes_tells bytes (Err TooMany) is = found_at (deletions bytes) is.0 bytes refl is.1 ∙ ap (λ b. by_count b is.0) (many_more (length is.0.0) is.2)
deletes_tells bytes (Err Memory) is = tt

-- ---- the limits

all_keyed : (texts keys : List (List ℕ)) → NameKeys texts keys → list_all is_key keys ≡ true
all_keyed [] keys n = ap (list_all is_key) n
all_keyed (text ∷ texts) keys n = ap (list_all is_key) n.4 ∙ and_from (is_key n.0) (list_all is_key n.1) n.2.1 (all_keyed texts n.1 n.3)

as_many : (texts keys : List (List ℕ)) → NameKeys texts keys → length keys ≡ length texts
as_many [] keys n = ap length n
as_many (text ∷ texts) keys n = let long = ap length n.4 in omega (arith, long, as_many texts n.1 n.3)

body_filled : (body : Deletion) (bytes : List ℕ) → IsDelete body bytes → 1 ≤ length body.0
body_filled body bytes is = inside_filled is.spells.tails.tails
  where
    inside_filled : (rest : Either (QuietThen is.spells.tails.items) (DeleteEnd (is.spells.tails.items, false)) body is.spells.tails.tail) → 1 ≤ length body.0
    inside_filled (inl q) = end_filled (is.spells.tails.items ++ q.tails.items, q.value) q.tails.tail q.tails.tails
      where
        end_filled : (all : Deletion) (w : List ℕ) → DeleteEnd all body w → 1 ≤ length body.0
        end_filled all w d = let some = d.0 in let same = ap (λ b. length b.0) d.1.tails.0 in omega (arith, some, same)
    inside_filled (inr d) = let some = d.0 in let same = ap (λ b. length b.0) d.1.tails.0 in omega (arith, some, same)

proper_at : (found : List Deletion) (bytes : List ℕ) (deletes : Deletes) → found ≡ deletions bytes → deletes_by found ≡ Some deletes → IsProperKeys deletes.keys
unfolding Among
proper_at [] bytes deletes e h = cc
proper_at (body ∷ others) bytes deletes e h =
    let is : IsDelete body bytes = deletions_values.sound bytes body (subst (λ l. Among l body) e (inl refl)) in
    by_keys (nat_le (length body.0) MOST_KEYS) (keys_named body.0) refl refl (body_filled body bytes is) h
  where
    by_keys : (b : Bool) (named : Option (List (List ℕ))) → nat_le (length body.0) MOST_KEYS ≡ b → keys_named body.0 ≡ named → 1 ≤ length body.0 → cond b (with_quiet body.1 named) None ≡ Some deletes → IsProperKeys deletes.keys
    by_keys true None t n some r = cc
    by_keys true (Some keys) t n some r =
        let same : keys ≡ deletes.keys = cc in
        let named = keys_sound body.0 keys n in
        let count = as_many body.0 keys named in
        subst IsProperKeys same (record {
          filled = omega (arith, some, count);
          few = (let short : length body.0 ≤ MOST_KEYS = grind (arith, nat_tests) in omega (arith, short, count));
          keyed = all_keyed body.0 keys named;
        })
    by_keys false named t n some r = cc

-- what a body lists is 1 to 1000 keys
pub deletes_proper : (bytes : List ℕ) (deletes : Deletes) → deletes_in bytes ≡ Some deletes → IsProperKeys deletes.keys
unfolding deletes_in
deletes_proper bytes deletes h = proper_at (deletions bytes) bytes deletes refl h
