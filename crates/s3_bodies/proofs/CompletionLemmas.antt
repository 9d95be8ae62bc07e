-- The body of a CompleteMultipartUpload, part by part.
use Rattle.std.proofs.Common.{◌≡◌, ◌==◌, ◌↔◌, IsTrue, ℕ, inl, inr, List, [], ◌∷◌, ◌++◌, length, map, refl, sym, ◌∙◌, ap, subst, append_assoc, true, false, Bool, arith, Result, Ok, Err, Bor, codes, suc}
use Rattle.std.proofs.lemmas.Bool.Decides.{nat_tests}
use Rattle.std.proofs.lemmas.List.{map-append}
use Rattle.xml_forms.specs.Forms.{Begins, Stops, Reads, Exactly, Many, Skips, SpellsAll, Unique, Apart, Possible, Opens, nearer}
use Rattle.xml_forms.specs.Openings.{Opening}
use Rattle.xml_forms.specs.Runs.{has}
use Rattle.xml_forms.specs.declared.class.Class.TheVariants.{Space}
use Rattle.xml_forms.proofs.lemmas.Elements.{exactly_unique, is_zero}
use Rattle.xml_forms.proofs.lemmas.Manies.{many_reads, many_some, many_unique}
use Rattle.xml_forms.proofs.lemmas.Openings.{document_breaks, document_reads, document_unique}
use Rattle.xml_forms.proofs.lemmas.Readers.{exactly_heads, nearer_value, opens_heads, spaced_exactly, spaced_some, spaced_unique, then_reads, with_value}
use Rattle.xml_forms.proofs.lemmas.Sequence.{then_some, then_stops_first, then_unique}
use Rattle.xml_forms.proofs.lemmas.Wholes.{Stuck, stuck_behind, stuck_within, whole}
use Rattle.s3_bodies.specs.Completion.{Completion, IsCompletion, Part, Parts, PartsEnd, completion_end, completion_start, listed_of}
use Rattle.s3_bodies.specs.PartReaders.{part_of}
use Rattle.s3_bodies.specs.RootEnd.{ClosesRoot, EndsRoot}
use Rattle.s3_bodies.proofs.PartLemmas.{part_apart, part_some, part_unique}

abbrev P : Type 0
P = ℕ × List ℕ

-- ---- the root's end

end_opens : (parts : List P) → Opens (has Space) (Exactly parts completion_end)
end_opens parts = opens_heads (Exactly parts completion_end) (codes "/CompleteMultipartUpload>") (exactly_heads parts completion_end)

end_apart : (parts : List P) → Apart Part (PartsEnd parts)
end_apart parts = part_apart (Exactly parts completion_end) (codes "CompleteMultipartUpload>") 47 (exactly_heads parts completion_end) (λ h. omega (arith, h))

end_some : (parts : List P) → Possible (PartsEnd parts)
end_some parts = spaced_some (Exactly parts completion_end) (record { value = parts; word = completion_end; spells = (refl, refl) })

end_unique : (parts : List P) → Unique (PartsEnd parts)
end_unique parts = spaced_unique (Exactly parts completion_end) (end_opens parts) (exactly_unique parts completion_end)

-- ---- the parts

abbrev rest_of : P → List P → List P → List ℕ → Type 0
rest_of first parts = PartsEnd (first ∷ parts)

parts_some : (first : P) → Possible (Many Part (rest_of first))
parts_some first = many_some Part (rest_of first) (end_some (first ∷ []))

parts_unique : Unique Parts
parts_unique = then_unique Part (λ first. Many Part (rest_of first)) part_unique
    (λ first. many_unique Part part_unique (rest_of first) (λ l. end_apart (first ∷ l)) (λ l. end_unique (first ∷ l)))

all_some : Possible Parts
all_some = then_some Part (λ first. Many Part (rest_of first)) part_some parts_some

parts_read_at : (none : Bool) (items : List P) (bytes inner rest : List ℕ) (left : ℕ) → none ≡ (length items == 0) → SpellsAll Part items inner → bytes ≡ inner ++ rest → Stops Part rest left
    → (r : Result (Unit {0} × List ℕ) ℕ) → EndsRoot completion_end none rest left r → Reads Parts bytes (with_value items r)
parts_read_at true [] bytes inner rest left is s at stops r e =
    let same : bytes ≡ rest = at ∙ ap (λ i. i ++ rest) s in
    subst (λ x. Reads Parts bytes (with_value [] x)) (sym e) (subst (λ w. Stops Parts w left) (sym same) (then_stops_first Part (λ first. Many Part (rest_of first)) parts_some rest left stops))
parts_read_at false [] bytes inner rest left is s at stops r e = let not_so : false ≡ true = is in cc not_so
parts_read_at true (first ∷ items) bytes inner rest left is s at stops r e = let none : suc (length items) ≡ 0 = is_zero (suc (length items)) is in absurd (omega (arith, none))
parts_read_at false (first ∷ items) bytes inner rest left is s at stops r e =
    subst (λ x. Reads Parts bytes x) (nearer_value (first ∷ items) left e.0 ∙ ap (with_value (first ∷ items)) (sym e.2))
    (then_reads Part (λ f. Many Part (rest_of f)) part_unique bytes (s.1 ++ rest) first (record { word = s.0; spells = s.2; at = at ∙ ap (λ i. i ++ rest) s.4 ∙ append_assoc s.0 s.1 rest })
    (nearer (Err left) (with_value (first ∷ items) e.0))
    (many_reads Part part_unique (rest_of first) (λ l. end_apart (first ∷ l)) (λ a l. end_some (first ∷ a ∷ l)) (s.1 ++ rest) items rest left (record { inner = s.1; spells = s.3; at = refl; stops = stops })
    (with_value (first ∷ items) e.0) (spaced_exactly (first ∷ items) completion_end rest e.0 e.1)))

parts_read : (none : Bool) (items : List P) (bytes rest : List ℕ) (left : ℕ) → none ≡ (length items == 0) → Skips Part bytes items rest left
    → (r : Result (Unit {0} × List ℕ) ℕ) → EndsRoot completion_end none rest left r → Reads Parts bytes (with_value items r)
parts_read none items bytes rest left is s r e = parts_read_at none items bytes s.inner rest left is s.spells s.at s.stops r e

-- ---- a completion

pub completion_breaks : (bytes : List ℕ) (left : ℕ) → Stops (Opening completion_start) bytes left → Stuck Completion bytes left
completion_breaks bytes left s =
    stuck_within Completion bytes left (document_breaks completion_start 67 (codes "ompleteMultipartUpload") refl (λ h. omega (arith, h)) Parts all_some bytes left s)

completion_reads : (bytes inner attribute : List ℕ) → Begins (Opening completion_start) bytes attribute inner → (r : Result (List P × List ℕ) ℕ) → Reads Parts inner r → Reads Completion bytes r
completion_reads = document_reads completion_start 67 (codes "ompleteMultipartUpload") refl (λ h. omega (arith, h)) Parts

pub completion_unique : Unique Completion
completion_unique = document_unique completion_start 67 (codes "ompleteMultipartUpload") refl (λ h. omega (arith, h)) Parts parts_unique

module _ (bytes inner attribute : List ℕ) (opens : Begins (Opening completion_start) bytes attribute inner) (none : Bool) (items : List P) (rest : List ℕ) (left : ℕ) (is : none ≡ (length items == 0)) (skips : Skips Part inner items rest left) where
  read_by_end : (r : Result (Unit {0} × List ℕ) ℕ) → EndsRoot completion_end none rest left r → Reads Completion bytes (with_value items r)
  read_by_end r e = completion_reads bytes inner attribute opens (with_value items r) (parts_read none items inner rest left is skips r e)

  pub completed : ClosesRoot completion_end none rest left (Ok tt) → IsCompletion items bytes
  completed c = whole Completion bytes c.0 items (read_by_end (Ok (tt, c.0)) c.1) c.2

  pub closed_at : (stop : ℕ) → ClosesRoot completion_end none rest left (Err stop) → Stuck Completion bytes stop
  closed_at stop (inl e) = stuck_within Completion bytes stop (read_by_end (Err stop) e)
  closed_at stop (inr e) = stuck_behind Completion bytes completion_unique e.0 items stop (read_by_end (Ok (tt, e.0)) e.1) e.2

-- ---- the loops, and tests

pub none_is : {X Y : Type 0} (f : X → Y) (xs : List X) (b : Bool) → (IsTrue b ↔ (xs ≡ [])) → b ≡ (length (map f xs) == 0)
none_is f [] true h = refl
none_is f [] false h = let not_so : false ≡ true = h.1 refl in cc not_so
none_is f (x ∷ xs) true h = let not_so : x ∷ xs ≡ [] = h.0 refl in cc not_so
none_is f (x ∷ xs) false h = some (length (map f xs))
  where
    some : (n : ℕ) → false ≡ (suc n == 0)
    some n = grind (arith, nat_tests)

-- a part more
pub grown : (bytes rest last : List ℕ) (have : List (ℕ × Bor (List ℕ))) (part : ℕ × Bor (List ℕ)) (more : List P) (left : ℕ)
    → Skips Part bytes (map part_of have ++ part_of part ∷ more) last left → Skips Part bytes (map part_of (have ++ part ∷ []) ++ more) last left
grown bytes rest last have part more left s =
    subst (λ l. Skips Part bytes l last left) (sym (append_assoc (map part_of have) (part_of part ∷ []) more) ∙ ap (λ l. l ++ more) (sym (map-append part_of have (part ∷ [])))) s

pub listed_all : (parts : List (ℕ × Bor (List ℕ))) → map (λ part. listed_of (part_of part)) parts ≡ map listed_of (map part_of parts)
listed_all [] = refl
listed_all (part ∷ parts) = ap (λ l. listed_of (part_of part) ∷ l) (listed_all parts)
