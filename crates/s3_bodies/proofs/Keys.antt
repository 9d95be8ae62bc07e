-- What the texts of keys stand for.
use Rattle.std.proofs.Common.{◌≡◌, ℕ, ◌<◌, List, [], ◌∷◌, ◌++◌, length, refl, sym, ◌∙◌, ap, subst, append_assoc, arith, true, false, Bor, suc, zero, ◌+◌, take, drop, get_or, add-one, take-append-drop}
use Rattle.std.proofs.lemmas.List.{append-nil, append_cancel_left, map-append}
use Rattle.std.proofs.Math.Seq.{drop-cons}
use Rattle.s3_names.specs.Key.{is_key}
use Rattle.xml_forms.specs.Forms.{Begins, Stops, SpellsAll}
use Rattle.s3_bodies.specs.KeyText.{InKey, Means, NameKeys, NamesKey, StandsFor}
use Rattle.s3_bodies.specs.Delete.{NoKeys}
use Rattle.s3_bodies.specs.DeleteReaders.{texts_of}
use Rattle.s3_bodies.specs.declared.key_text.Piece.{Piece}
use Rattle.s3_bodies.specs.declared.key_text.Piece.TheVariants.{Byte, Numbered}
use Rattle.s3_bodies.proofs.Pieces.{piece_filled, piece_unique}
use Rattle.xml_forms.proofs.lemmas.Wholes.{follows_self}

-- what a piece stands for is one text
one_meaning : (piece : Piece) (a b : List ℕ) → StandsFor piece a → StandsFor piece b → a ≡ b
one_meaning (Byte byte) a b p q = p ∙ sym q
one_meaning (Numbered number) a b p q = p.2 ∙ sym q.2

pub nothing_means : (text : List ℕ) → length text ≡ 0 → Means text []
nothing_means [] e = record { pieces = []; spells = refl; stands = refl }
nothing_means (c ∷ text) e = absurd (omega (arith, e))

-- ---- a piece more

pub means_more : (text rest : List ℕ) (piece : Piece) (front more : List ℕ) → Begins InKey text piece rest → StandsFor piece front → Means rest more → Means text (front ++ more)
means_more text rest piece front more p s m = record {
  pieces = piece ∷ m.pieces;
  spells = (p.word, rest, p.spells, m.spells, p.at);
  stands = (front, more, s, m.stands, refl);
}

pub no_first : (word rest : List ℕ) (piece : Piece) → InKey piece word → [] ≡ word ++ rest → ⊥
no_first word rest piece f e = let c = piece_filled piece word f in let no : [] ≡ c.0 ∷ (c.1 ++ rest) = e ∙ ap (λ w. w ++ rest) c.2 in cc no

-- a text that begins with a piece stands for what that and the rest stand for
abbrev Parted : List ℕ → Piece → List ℕ → Type 0
Parted rest piece bytes = (front : List ℕ) × (more : List ℕ) × StandsFor piece front × Means rest more × (bytes ≡ front ++ more)

parted_at : (pieces : List Piece) (text rest : List ℕ) (piece : Piece) (bytes : List ℕ) → Begins InKey text piece rest → SpellsAll InKey pieces text → SpellsAll StandsFor pieces bytes → Parted rest piece bytes
parted_at [] text rest piece bytes p s m = absurd (no_first p.word rest piece p.spells (sym s ∙ p.at))
parted_at (other ∷ pieces) text rest piece bytes p s m =
    let u = piece_unique.one piece other p.word s.0 rest s.1 p.spells s.2 (sym p.at ∙ s.4) in
    let same_rest : rest ≡ s.1 = append_cancel_left p.word rest s.1 (sym p.at ∙ s.4 ∙ ap (λ w. w ++ s.1) (sym u.1)) in
    (m.0, m.1, subst (λ x. StandsFor x m.0) (sym u.0) m.2, record { pieces = pieces; spells = subst (λ t. SpellsAll InKey pieces t) (sym same_rest) s.3; stands = m.3 }, m.4)

parted : (text rest : List ℕ) (piece : Piece) (bytes : List ℕ) → Begins InKey text piece rest → Means text bytes → Parted rest piece bytes
parted text rest piece bytes p m = parted_at m.pieces text rest piece bytes p m.spells m.stands

-- what can't be read stands for nothing
unread_at : (pieces : List Piece) (text : List ℕ) (left : ℕ) → (length text ≡ 0 → ⊥) → Stops InKey text left → SpellsAll InKey pieces text → ⊥
unread_at [] text left some s p = some (ap length p)
unread_at (piece ∷ pieces) text left some s p = s.dead piece p.0 p.1 s.rest p.2 (follows_self s.rest) (sym s.at ∙ p.4)

-- ---- the loop: what the text stands for, by what the rest does

pub record Meaning (text bytes rest : List ℕ) : Type 0 where
  pub to : (more : List ℕ) → Means rest more → Means text (bytes ++ more)
  pub from : (all : List ℕ) → Means text all → (more : List ℕ) × Means rest more × (all ≡ bytes ++ more)

pub meaning_first : (text bytes : List ℕ) → bytes ≡ [] → Meaning text bytes text
meaning_first text bytes e = record {
  to = λ more m. subst (λ b. Means text (b ++ more)) (sym e) m;
  from = λ all m. (all, m, sym (ap (λ b. b ++ all) e));
}

pub meaning_next : (text bytes new rest after front : List ℕ) (piece : Piece) → Meaning text bytes rest → Begins InKey rest piece after → StandsFor piece front → new ≡ bytes ++ front → Meaning text new after
meaning_next text bytes new rest after front piece g p s e = record {
  to = λ more m.
      subst (λ b. Means text b) (sym (append_assoc bytes front more) ∙ ap (λ b. b ++ more) (sym e)) (g.to (front ++ more) (means_more rest after piece front more p s m));
  from = λ all m.
      let h = g.from all m in
      let d = parted rest after piece h.0 p h.1 in
      let same : d.0 ≡ front = one_meaning piece d.0 front d.2 s in
      (d.1, d.3, h.2 ∙ ap (λ b. bytes ++ b) (d.4 ∙ ap (λ f. f ++ d.1) same) ∙ sym (append_assoc bytes front d.1) ∙ ap (λ b. b ++ d.1) (sym e));
}

pub meaning_whole : (text bytes rest : List ℕ) → Meaning text bytes rest → length rest ≡ 0 → Means text bytes
meaning_whole text bytes rest g e = subst (λ b. Means text b) (append-nil bytes) (g.to [] (nothing_means rest e))

pub meaning_none : (text bytes rest after : List ℕ) (piece : Piece) → Meaning text bytes rest → Begins InKey rest piece after → ((front : List ℕ) → StandsFor piece front → ⊥) → (all : List ℕ) → Means text all → ⊥
meaning_none text bytes rest after piece g p none all m = let h = g.from all m in let d = parted rest after piece h.0 p h.1 in none d.0 d.2

pub meaning_unread : (text bytes rest : List ℕ) (left : ℕ) → Meaning text bytes rest → (length rest ≡ 0 → ⊥) → Stops InKey rest left → (all : List ℕ) → Means text all → ⊥
meaning_unread text bytes rest left g some s all m = let h = g.from all m in unread_at h.1.pieces rest left some s h.1.spells

-- ---- keys

one_key_at : (p q : List Piece) (text a b : List ℕ) → SpellsAll InKey p text → SpellsAll InKey q text → SpellsAll StandsFor p a → SpellsAll StandsFor q b → a ≡ b
one_key_at [] [] text a b s t m n = m ∙ sym n
one_key_at [] (y ∷ q) text a b s t m n = absurd (no_first t.0 t.1 y t.2 (sym s ∙ t.4))
one_key_at (x ∷ p) [] text a b s t m n = absurd (no_first s.0 s.1 x s.2 (sym t ∙ s.4))
one_key_at (x ∷ p) (y ∷ q) text a b s t m n =
    let u = piece_unique.one x y s.0 t.0 s.1 t.1 s.2 t.2 (sym s.4 ∙ t.4) in
    let same_rest : s.1 ≡ t.1 = append_cancel_left s.0 s.1 t.1 (sym s.4 ∙ t.4 ∙ ap (λ w. w ++ t.1) (sym u.1)) in
    let first : m.0 ≡ n.0 = one_meaning x m.0 n.0 m.2 (subst (λ z. StandsFor z n.0) (sym u.0) n.2) in
    let more : m.1 ≡ n.1 = one_key_at p q s.1 m.1 n.1 s.3 (subst (λ r. SpellsAll InKey q r) (sym same_rest) t.3) m.3 n.3 in
    m.4 ∙ ap (λ f. f ++ m.1) first ∙ ap (λ r. n.0 ++ r) more ∙ sym n.4

-- a text stands for one text
pub one_key : (text a b : List ℕ) → Means text a → Means text b → a ≡ b
one_key text a b m n = one_key_at m.pieces n.pieces text a b m.spells n.spells m.stands n.stands

pub no_key : (text bytes : List ℕ) → Means text bytes → is_key bytes ≡ false → (key : List ℕ) → NamesKey text key → ⊥
no_key text bytes m fails key h = let same = one_key text bytes key m h.0 in let not_so : false ≡ true = sym fails ∙ ap is_key same ∙ h.1 in cc not_so

pub keys_more : (texts keys : List (List ℕ)) (text key : List ℕ) → NameKeys texts keys → NamesKey text key → NameKeys (texts ++ text ∷ []) (keys ++ key ∷ [])
keys_more [] keys text key h k = subst (λ l. NameKeys (text ∷ []) (l ++ key ∷ [])) (sym h) (key, [], k, refl, refl)
keys_more (t ∷ texts) keys text key h k = (h.0, h.1 ++ key ∷ [], h.2, keys_more texts h.1 text key h.3 k, ap (λ l. l ++ key ∷ []) h.4)

pub keys_none : (texts more : List (List ℕ)) (text : List ℕ) → ((key : List ℕ) → NamesKey text key → ⊥) → NoKeys (texts ++ text ∷ more)
keys_none [] more text none = λ keys h. none h.0 h.2
keys_none (t ∷ texts) more text none = λ keys h. keys_none texts more text none h.1 h.3

-- ---- the loop over the texts

abbrev Slices : Type 0
Slices = List (Bor (List ℕ))

-- the text where a list has none
abbrev pub no_text : Bor (List ℕ)
no_text = record { ref_ptr = (0, 0); now = [] }

take_next : (texts : Slices) (i : ℕ) (d : Bor (List ℕ)) → i < length texts → take (suc i) texts ≡ take i texts ++ get_or texts i d ∷ []
take_next [] i d within = absurd (omega arith)
take_next (text ∷ texts) zero d within = refl
take_next (text ∷ texts) (suc i) d within = ap (λ l. text ∷ l) (take_next texts i d (omega arith))

pub named_at : (texts : Slices) (keys : List (List ℕ)) (i : ℕ) (d : Bor (List ℕ)) (key : List ℕ) → i < length texts → NameKeys (texts_of (take i texts)) keys → NamesKey (get_or texts i d).now key
    → NameKeys (texts_of (take (i + 1) texts)) (keys ++ key ∷ [])
named_at texts keys i d key within h k =
    subst (λ l. NameKeys l (keys ++ key ∷ [])) (sym (ap (λ n. texts_of (take n texts)) (add-one i) ∙ ap texts_of (take_next texts i d within) ∙ map-append (λ t. t.now) (take i texts) (get_or texts i d ∷ [])))
    (keys_more (texts_of (take i texts)) keys (get_or texts i d).now key h k)

pub no_keys_at : (texts : Slices) (i : ℕ) (d : Bor (List ℕ)) → i < length texts → ((key : List ℕ) → NamesKey (get_or texts i d).now key → ⊥) → NoKeys (texts_of texts)
no_keys_at texts i d within none =
    subst NoKeys
    (sym (ap texts_of (sym (take-append-drop i texts) ∙ ap (λ l. take i texts ++ l) (drop-cons texts i d within)) ∙ map-append (λ t. t.now) (take i texts) (get_or texts i d ∷ drop (suc i) texts)))
    (keys_none (texts_of (take i texts)) (texts_of (drop (suc i) texts)) (get_or texts i d).now none)
