-- The end of a root that has at least one child.
use Rattle.std.specs.Prelude.{◌≡◌, ℕ, ◌⊎◌, List, Bool, true, false, Result, Ok, Err}
use Rattle.xml_forms.specs.Bodies.{OnlySpaceLeft}
use Rattle.xml_forms.specs.Forms.{Reads, Word, nearer}
use Rattle.xml_forms.specs.Runs.{Spaced}

-- the root's end, which no body has without a child; a child more would stop where so many bytes are left
abbrev pub EndsRoot : List ℕ → Bool → List ℕ → ℕ → Result (Unit {0} × List ℕ) ℕ → Type 0
EndsRoot end true bytes left result = result ≡ Err left
EndsRoot end false bytes left result = (ended : Result (Unit {0} × List ℕ) ℕ) × Reads (Spaced (Word end)) bytes ended × (result ≡ nearer (Err left) ended)

-- the root's end, and white space behind it
abbrev pub ClosesRoot : List ℕ → Bool → List ℕ → ℕ → Result (Unit {0}) ℕ → Type 0
ClosesRoot end none bytes left (Ok u) = (rest : List ℕ) × EndsRoot end none bytes left (Ok (tt, rest)) × OnlySpaceLeft rest (Ok tt)
ClosesRoot end none bytes left (Err stop) =
    EndsRoot end none bytes left (Err stop)
    ⊎ (rest : List ℕ) × EndsRoot end none bytes left (Ok (tt, rest)) × OnlySpaceLeft rest (Err stop)
