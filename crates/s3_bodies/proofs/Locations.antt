-- The body of a CreateBucket, part by part.
use Rattle.std.proofs.Common.{◌≡◌, ◌==◌, ℕ, true, inl, inr, List, [], ◌++◌, length, take, refl, sym, ◌∙◌, ap, false, None, Result, Ok, Err, Bor, arith, codes}
use Rattle.std.proofs.lemmas.List.{length-append, length-take}
use Rattle.xml_forms.specs.Bodies.{OnlySpaceLeft, NotABody, OfSome, Whole}
use Rattle.xml_forms.specs.Forms.{Begins, Stops, Reads, Either, Exactly, Word, RunThen, Unique, Possible, Opens, nearer}
use Rattle.xml_forms.specs.Openings.{Opening}
use Rattle.xml_forms.specs.Readers.{ReadsText, read_by}
use Rattle.xml_forms.specs.Runs.{has, IsRun, Sized, Spaced}
use Rattle.xml_forms.specs.declared.class.Class.TheVariants.{Space, Dashed}
use Rattle.xml_forms.proofs.lemmas.Choices.{Heads, either_unique, heads_apart, then_heads}
use Rattle.xml_forms.proofs.lemmas.Elements.{element_unique, exactly_begins, exactly_stops, exactly_unique}
use Rattle.xml_forms.proofs.lemmas.Openings.{document_breaks, document_reads, document_unique}
use Rattle.xml_forms.proofs.lemmas.Readers.{any_run, either_opens, exactly_heads, nearer_by, opens_heads, spaced_reads, then_reads, word_heads}
use Rattle.xml_forms.proofs.lemmas.Runs.{ran_unique}
use Rattle.xml_forms.proofs.lemmas.Sequence.{then_stops_first, then_unique}
use Rattle.xml_forms.proofs.lemmas.Wholes.{Stuck, stuck_behind, stuck_within, whole}
use Rattle.s3_bodies.specs.Location.{Constraint, IsLocation, Location, LocationInside, Region, location_end, location_start}

abbrev closed : List ℕ → List ℕ → List ℕ → Type 0
closed text = Spaced (Exactly text location_end)

end_opens : (text : List ℕ) → Opens (has Space) (Exactly text location_end)
end_opens text = opens_heads (Exactly text location_end) (codes "/CreateBucketConfiguration>") (exactly_heads text location_end)

closed_some : (text : List ℕ) → Possible (closed text)
closed_some text = record { value = text; word = location_end; spells = record { run = []; tail = location_end; passes = refl; is_allowed = any_run []; tails = (refl, refl); at = refl } }

region_unique : Unique Region
region_unique = element_unique Dashed false None tt (codes "</LocationConstraint>") (60, codes "/LocationConstraint>", refl, refl) (codes "<LocationConstraint>")

region_heads : Heads Region (codes "<LocationConstraint>")
region_heads = then_heads (Word (codes "<LocationConstraint>")) (λ u. RunThen (has Dashed) (Sized false None) (λ run. Exactly run (codes "</LocationConstraint>"))) (codes "<LocationConstraint>") (word_heads (codes "<LocationConstraint>"))

constraint_heads : Heads Constraint (codes "<LocationConstraint>")
constraint_heads = then_heads Region closed (codes "<LocationConstraint>") region_heads

pub constraint_breaks : (bytes : List ℕ) (left : ℕ) → Stops Region bytes left → Stops Constraint bytes left
constraint_breaks bytes left s = then_stops_first Region closed closed_some bytes left s

pub constraint_stops : (bytes rest run last text : List ℕ) (left : ℕ) → Begins Region bytes text rest → IsRun Space (length rest) rest run last → Stops (Word location_end) last left → Stops Constraint bytes left
constraint_stops bytes rest run last text left p is s =
    then_reads Region closed region_unique bytes rest text p (Err left) (spaced_reads (Exactly text location_end) (end_opens text) rest run last is (Err left) (exactly_stops text location_end last left s))

pub constraint_begins : (bytes rest run last after text : List ℕ) → Begins Region bytes text rest → IsRun Space (length rest) rest run last → Begins (Word location_end) last tt after → Begins Constraint bytes text after
constraint_begins bytes rest run last after text p is q =
    then_reads Region closed region_unique bytes rest text p (Ok (text, after)) (spaced_reads (Exactly text location_end) (end_opens text) rest run last is (Ok (text, after)) (exactly_begins text location_end last after q))

abbrev inner : List ℕ → List ℕ → Type 0
inner = Either (Exactly [] location_end) Constraint

inner_opens : Opens (has Space) inner
inner_opens = either_opens (Exactly [] location_end) Constraint (end_opens []) (opens_heads Constraint (codes "LocationConstraint>") constraint_heads)

pub inside_reads : (bytes run rest : List ℕ) → IsRun Space (length bytes) bytes run rest → (r s n : Result (Bor (List ℕ) × Bor (List ℕ)) ℕ) → n ≡ nearer r s
    → ReadsText (Exactly [] location_end) rest r → ReadsText Constraint rest s → ReadsText LocationInside bytes n
inside_reads bytes run rest is r s n e p q =
    spaced_reads inner inner_opens bytes run rest is (read_by (λ text. text.now) n) (nearer_by (λ text. text.now) (Exactly [] location_end) Constraint rest r s n e p q)

inside_some : Possible LocationInside
inside_some = record { value = []; word = location_end; spells = record { run = []; tail = location_end; passes = refl; is_allowed = any_run []; tails = inl (refl, refl); at = refl } }

inside_unique : Unique LocationInside
inside_unique = ran_unique (has Space) (Sized false None) (λ _. inner) (λ _. inner_opens)
    (λ _. either_unique (Exactly [] location_end) Constraint (exactly_unique [] location_end)
    (then_unique Region closed region_unique (λ text. ran_unique (has Space) (Sized false None) (λ _. Exactly text location_end) (λ _. end_opens text) (λ _. exactly_unique text location_end)))
    (heads_apart (Exactly [] location_end) Constraint (codes "<") (codes "CreateBucketConfiguration>") (codes "ocationConstraint>") 47 76 (exactly_heads [] location_end) constraint_heads (λ h. omega (arith, h))))

-- the body begins otherwise than a document does
pub location_breaks : (bytes : List ℕ) (left : ℕ) → Stops (Opening location_start) bytes left → Stops Location bytes left
location_breaks bytes left s = document_breaks location_start 67 (codes "reateBucketConfiguration") refl (λ h. omega (arith, h)) LocationInside inside_some bytes left s

pub location_reads : (bytes rest attribute : List ℕ) → Begins (Opening location_start) bytes attribute rest → (r : Result (List ℕ × List ℕ) ℕ) → Reads LocationInside rest r → Reads Location bytes r
location_reads bytes rest attribute p r q = document_reads location_start 67 (codes "reateBucketConfiguration") refl (λ h. omega (arith, h)) LocationInside bytes rest attribute p r q

pub location_unique : Unique Location
location_unique = document_unique location_start 67 (codes "reateBucketConfiguration") refl (λ h. omega (arith, h)) LocationInside inside_unique

pub location_stops : (bytes : List ℕ) (left : ℕ) → Stops Location bytes left → Stuck Location bytes left
location_stops bytes left s = stuck_within Location bytes left s

pub location_ends : (bytes rest : List ℕ) (text : List ℕ) (left : ℕ) → Begins Location bytes text rest → OnlySpaceLeft rest (Err left) → Stuck Location bytes left
location_ends bytes rest text left p e = stuck_behind Location bytes location_unique rest text left p e

pub location_whole : (bytes rest text : List ℕ) → Begins Location bytes text rest → OnlySpaceLeft rest (Ok tt) → Whole Location text bytes
location_whole bytes rest text p e = whole Location bytes rest text p e

-- bytes that aren't none are a body where they are a document
pub not_empty : (bytes : List ℕ) (n : ℕ) → false ≡ (length bytes == 0) → NotABody (OfSome (Whole Location)) bytes n → NotABody (OfSome IsLocation) bytes n
not_empty bytes n some not_one = record {
  none = λ b. elim b.1 [
    | inl e ↦ let not_so : true ≡ false = ap (λ l. length l == 0) (sym e.1) ∙ sym some in cc not_so
    | inr w ↦ not_one.none (b.0, w)
  ];
  within = not_one.within;
  lives = (not_one.lives.0, (not_one.lives.1.0, inr not_one.lives.1.1));
  longest = λ m more less most b. elim b.1 [
    | inl e ↦
        let none : length (take m bytes ++ more) ≡ 0 = ap length e.1 in
        omega (arith, length-append (take m bytes) more, length-take m bytes, none)
    | inr w ↦ not_one.longest m more less most (b.0, w)
  ];
}
