-- The objects of a deletion, and the element that makes it quiet.
use Rattle.std.proofs.Common.{◌≡◌, ℕ, ◌<◌, inl, List, [], ◌∷◌, ◌++◌, length, refl, ◌∙◌, ap, append_assoc, true, false, arith, Bool, Result, Ok, Err, Bor, codes}
use Rattle.xml_forms.specs.Forms.{Begins, Stops, Reads, Exactly, Then, Word, Unique, Apart, Possible, Opens, nearer}
use Rattle.xml_forms.specs.Readers.{read_by}
use Rattle.xml_forms.specs.Runs.{has, Spaced}
use Rattle.xml_forms.specs.declared.class.Class.TheVariants.{Space}
use Rattle.xml_forms.proofs.lemmas.Choices.{Heads, either_unique, heads_apart, then_heads}
use Rattle.xml_forms.proofs.lemmas.Elements.{exactly_unique}
use Rattle.xml_forms.proofs.lemmas.Manies.{apart_sym, apart_then, spaced_apart}
use Rattle.xml_forms.proofs.lemmas.Readers.{exactly_heads, nearer_by, opens_heads, spaced_exactly, spaced_shorter, spaced_some, spaced_unique, then_reads, word_heads}
use Rattle.xml_forms.proofs.lemmas.Sequence.{then_some, then_stops_first, then_unique, word_unique}
use Rattle.std.proofs.lemmas.List.{length-append}
use Rattle.s3_bodies.specs.Delete.{Key, Object, ObjectEnd, Quiet, QuietText}
use Rattle.s3_bodies.specs.KeyText.{KeyText}
use Rattle.s3_bodies.proofs.KeyTexts.{key_text_some, key_text_unique}

-- ---- a key

abbrev key_start : Unit {0} → List ℕ → Type 0
key_start = Word (codes "<Key>")

pub key_breaks : (bytes : List ℕ) (left : ℕ) → Stops key_start bytes left → Stops Key bytes left
key_breaks bytes left s = then_stops_first key_start (λ _. KeyText) (λ _. key_text_some) bytes left s

pub key_reads : (bytes rest : List ℕ) → Begins key_start bytes tt rest → (r : Result (List ℕ × List ℕ) ℕ) → Reads KeyText rest r → Reads Key bytes r
key_reads bytes rest p r q = then_reads key_start (λ _. KeyText) (word_unique (codes "<Key>")) bytes rest tt p r q

key_heads : Heads Key (codes "<Key>")
key_heads = then_heads key_start (λ _. KeyText) (codes "<Key>") (word_heads (codes "<Key>"))

pub key_opens : Opens (has Space) Key
key_opens = opens_heads Key (codes "Key>") key_heads

spaced_key_unique : Unique (Spaced Key)
spaced_key_unique = spaced_unique Key key_opens (then_unique key_start (λ _. KeyText) (word_unique (codes "<Key>")) (λ _. key_text_unique))

spaced_key_some : Possible (Spaced Key)
spaced_key_some = spaced_some Key (then_some key_start (λ _. KeyText) (record { value = tt; word = codes "<Key>"; spells = refl }) (λ _. key_text_some))

-- ---- an object

abbrev object_end : List ℕ
object_end = codes "</Object>"

end_opens : (text : List ℕ) → Opens (has Space) (Exactly text object_end)
end_opens text = opens_heads (Exactly text object_end) (codes "/Object>") (exactly_heads text object_end)

end_some : (text : List ℕ) → Possible (ObjectEnd text)
end_some text = spaced_some (Exactly text object_end) (record { value = text; word = object_end; spells = (refl, refl) })

end_unique : (text : List ℕ) → Unique (ObjectEnd text)
end_unique text = spaced_unique (Exactly text object_end) (end_opens text) (exactly_unique text object_end)

abbrev Inside : List ℕ → List ℕ → Type 0
Inside = Then (Spaced Key) ObjectEnd

pub inside_breaks : (bytes : List ℕ) (left : ℕ) → Stops (Spaced Key) bytes left → Stops Inside bytes left
inside_breaks bytes left s = then_stops_first (Spaced Key) ObjectEnd end_some bytes left s

pub inside_stops : (bytes rest text : List ℕ) (left : ℕ) → Begins (Spaced Key) bytes text rest → Stops (Spaced (Word object_end)) rest left → Stops Inside bytes left
inside_stops bytes rest text left p s = then_reads (Spaced Key) ObjectEnd spaced_key_unique bytes rest text p (Err left) (spaced_exactly text object_end rest (Err left) s)

pub inside_begins : (bytes rest last text : List ℕ) → Begins (Spaced Key) bytes text rest → Begins (Spaced (Word object_end)) rest tt last → Begins Inside bytes text last
inside_begins bytes rest last text p q = then_reads (Spaced Key) ObjectEnd spaced_key_unique bytes rest text p (Ok (text, last)) (spaced_exactly text object_end rest (Ok (tt, last)) q)

inside_some : Possible Inside
inside_some = then_some (Spaced Key) ObjectEnd spaced_key_some end_some

inside_unique : Unique Inside
inside_unique = then_unique (Spaced Key) ObjectEnd spaced_key_unique end_unique

abbrev start_word : Unit {0} → List ℕ → Type 0
start_word = Word (codes "<Object>")

abbrev object_start : Unit {0} → List ℕ → Type 0
object_start = Spaced start_word

start_opens : Opens (has Space) start_word
start_opens = opens_heads start_word (codes "Object>") (word_heads (codes "<Object>"))

start_unique : Unique object_start
start_unique = spaced_unique start_word start_opens (word_unique (codes "<Object>"))

start_some : Possible object_start
start_some = spaced_some start_word (record { value = tt; word = codes "<Object>"; spells = refl })

pub object_breaks : (bytes : List ℕ) (left : ℕ) → Stops object_start bytes left → Stops Object bytes left
object_breaks bytes left s = then_stops_first object_start (λ _. Inside) (λ _. inside_some) bytes left s

pub object_reads : (bytes rest : List ℕ) → Begins object_start bytes tt rest → (r : Result (List ℕ × List ℕ) ℕ) → Reads Inside rest r → Reads Object bytes r
object_reads bytes rest p r q = then_reads object_start (λ _. Inside) start_unique bytes rest tt p r q

pub object_unique : Unique Object
object_unique = then_unique object_start (λ _. Inside) start_unique (λ _. inside_unique)

pub object_some : Possible Object
object_some = then_some object_start (λ _. Inside) start_some (λ _. inside_some)

-- an object takes a byte at least
pub object_shorter : (bytes rest text : List ℕ) → Begins Object bytes text rest → length rest < length bytes
object_shorter bytes rest text p =
    let f = p.spells in
    let head = spaced_shorter start_word start_opens (f.head ++ (f.tail ++ rest)) (f.tail ++ rest) tt (record { word = f.head; spells = f.heads; at = refl }) in
    let at = ap length (p.at ∙ ap (λ w. w ++ rest) f.at ∙ append_assoc f.head f.tail rest) in
    omega (arith, at, head, length-append f.tail rest)

-- ---- what makes it quiet

abbrev quiet_word : Unit {0} → List ℕ → Type 0
quiet_word = Word (codes "<Quiet>")

abbrev quiet_start : Unit {0} → List ℕ → Type 0
quiet_start = Spaced quiet_word

quiet_opens : Opens (has Space) quiet_word
quiet_opens = opens_heads quiet_word (codes "Quiet>") (word_heads (codes "<Quiet>"))

quiet_start_unique : Unique quiet_start
quiet_start_unique = spaced_unique quiet_word quiet_opens (word_unique (codes "<Quiet>"))

abbrev yes : Bool → List ℕ → Type 0
yes = Exactly true (codes "true</Quiet>")

abbrev no : Bool → List ℕ → Type 0
no = Exactly false (codes "false</Quiet>")

quiet_text_unique : Unique QuietText
quiet_text_unique = either_unique yes no (exactly_unique true (codes "true</Quiet>")) (exactly_unique false (codes "false</Quiet>"))
    (heads_apart yes no [] (codes "rue</Quiet>") (codes "alse</Quiet>") 116 102 (exactly_heads true (codes "true</Quiet>")) (exactly_heads false (codes "false</Quiet>")) (λ h. omega (arith, h)))

quiet_text_some : Possible QuietText
quiet_text_some = record { value = true; word = codes "true</Quiet>"; spells = inl (refl, refl) }

pub quiet_some : Possible Quiet
quiet_some = then_some quiet_start (λ _. QuietText) (spaced_some quiet_word (record { value = tt; word = codes "<Quiet>"; spells = refl })) (λ _. quiet_text_some)

pub quiet_breaks : (bytes : List ℕ) (left : ℕ) → Stops quiet_start bytes left → Stops Quiet bytes left
quiet_breaks bytes left s = then_stops_first quiet_start (λ _. QuietText) (λ _. quiet_text_some) bytes left s

pub quiet_reads : (bytes rest : List ℕ) → Begins quiet_start bytes tt rest → (r s n : Result (Bool × Bor (List ℕ)) ℕ) → n ≡ nearer r s
    → Reads yes rest (read_by (λ quiet. quiet) r) → Reads no rest (read_by (λ quiet. quiet) s) → Reads Quiet bytes (read_by (λ quiet. quiet) n)
quiet_reads bytes rest p r s n e a b =
    then_reads quiet_start (λ _. QuietText) quiet_start_unique bytes rest tt p (read_by (λ quiet. quiet) n) (nearer_by (λ quiet. quiet) yes no rest r s n e a b)

pub quiet_unique : Unique Quiet
quiet_unique = then_unique quiet_start (λ _. QuietText) quiet_start_unique (λ _. quiet_text_unique)

-- ---- which are apart

-- an object is apart from what begins with another tag
pub object_apart : {A : Type 0} (F : A → List ℕ → Type 0) (d : ℕ) (t : List ℕ) → Heads F (60 ∷ d ∷ t) → (79 ≡ d → ⊥) → Apart Object (Spaced F)
object_apart F d t heads differ =
    apart_sym (Spaced F) Object
    (apart_then (Spaced F) object_start (λ _. Inside)
    (apart_sym object_start (Spaced F)
    (spaced_apart start_word F start_opens (opens_heads F (d ∷ t) heads)
    (heads_apart start_word F (codes "<") (codes "bject>") t 79 d (word_heads (codes "<Object>")) heads differ))))

pub object_quiet : Apart Object Quiet
object_quiet = apart_then Object quiet_start (λ _. QuietText) (object_apart quiet_word 81 (codes "uiet>") (word_heads (codes "<Quiet>")) (λ h. omega (arith, h)))

-- and so is what makes it quiet
pub quiet_apart : {A : Type 0} (F : A → List ℕ → Type 0) (d : ℕ) (t : List ℕ) → Heads F (60 ∷ d ∷ t) → (81 ≡ d → ⊥) → Apart Quiet (Spaced F)
quiet_apart F d t heads differ =
    apart_sym (Spaced F) Quiet
    (apart_then (Spaced F) quiet_start (λ _. QuietText)
    (apart_sym quiet_start (Spaced F)
    (spaced_apart quiet_word F quiet_opens (opens_heads F (d ∷ t) heads)
    (heads_apart quiet_word F (codes "<") (codes "uiet>") t 81 d (word_heads (codes "<Quiet>")) heads differ))))
